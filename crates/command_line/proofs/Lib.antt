mod BudgetLemmas
mod ReadingLemmas

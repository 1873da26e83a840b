mod MemoSteps
mod PlanSteps
mod RelSteps

-- SELECTs of the form that the grammar has.
use Rattle.std.specs.Prelude.{◌≡◌, Bool, true, false, not, List, [], ◌∷◌}
use Rattle.sql_tree.specs.declared.select.FromEntry.{FromEntry}
use Rattle.sql_tree.specs.declared.select.Items.{Items}
use Rattle.sql_tree.specs.declared.select.Items.TheVariants.{Star, Listed}
use Rattle.sql_tree.specs.declared.select.Select.{Select}
use Rattle.sql_meaning.specs.Parts.{is_empty}
use Rattle.sql_meaning.specs.Refused.{is_first}

-- there is an entry, and nothing stands before it
abbrev pub begins_first : List FromEntry → Bool
begins_first [] = false
begins_first (entry ∷ entries) = is_first entry.how

abbrev pub has_items : Items → Bool
has_items Star = true
has_items (Listed items) = not (is_empty items)

pub record IsFormed (select : Select) : Type 0 where
  pub from : begins_first select.from ≡ true
  pub items : has_items select.items ≡ true

-- How many rows a table has.
use Rattle.std.proofs.Common.{◌≡◌, ℕ, length, map, sym, ◌∙◌, ap}
use Rattle.std.specs.Prelude.{unwrap_or, option_map}
use Rattle.std.proofs.lemmas.Option.{slice_get-map, unwrap_or-slice_get}
use Rattle.cal_snapshot.specs.declared.part.Part.TheVariants.{Table}
use Rattle.cal_snapshot.specs.Parts.{Parts, rows_of}
use Rattle.rel_meta.specs.Estimates.{table_counts, rows_of_table}

pub counted-table : (parts : Parts) (table : ℕ) → rows_of_table (table_counts parts) table ≡ unwrap_or (option_map length (rows_of parts (Table table))) 0
counted-table parts table =
    sym (unwrap_or-slice_get (map length parts.tables) table 0) ∙ ap (λ o. unwrap_or o 0) (slice_get-map length parts.tables table)

pub ruleset count_steps = (counted-table)

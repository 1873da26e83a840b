-- The space of a memo over a snapshot.
use Rattle.std.specs.Prelude.{ℕ, List, length, map, Option, option_map, unwrap_or}
use Rattle.std.specs.List.{range_with_len}
use Rattle.cal_snapshot.specs.Parts.{Parts}
use Rattle.cal_rel.specs.Info.{Info}
use Rattle.memo_model.specs.Sets.{Sets}
use Rattle.memo_model.specs.Sound.{over}
use Rattle.memo_sets.specs.Seen.{seed_there}
use Rattle.phys_plan.specs.Spaces.{Space}
use Rattle.rel_meta.specs.Estimates.{estimate, table_counts, rows_of_table}

-- the estimate of the set's seed, 0 of a number that is gone
abbrev pub set_rows : Info → List ℕ → Sets → ℕ → ℕ
set_rows info counts sets k = unwrap_or (option_map (estimate info counts) (seed_there sets k)) 0

-- by the number of a set
abbrev pub rows_by_set : Info → List ℕ → Sets → List ℕ
rows_by_set info counts sets = map (set_rows info counts sets) (range_with_len 0 (length sets.types))

-- how many rows each of so many tables has
abbrev pub rows_by_table : List ℕ → ℕ → List ℕ
rows_by_table counts tables = map (rows_of_table counts) (range_with_len 0 tables)

-- the members and the types are those of the memo
abbrev pub made : Info → Sets → Parts → Space
made base sets parts = record {
  members = sets.members;
  info = over base sets.types;
  estimates = rows_by_set (over base sets.types) (table_counts parts) sets;
  tables = rows_by_table (table_counts parts) (length base.schema.tables);
}

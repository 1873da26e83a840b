-- What one read answers, and what a store tells after it.
use Rattle.std.specs.Prelude.{◌≡◌, ℕ, ◌+◌, ◌≤◌, List, length, take, drop, if◌then◌else◌, IfSome, IsSomeAnd, ⊤}
use Rattle.cal_outside.specs.Faults.{one_more}
use Rattle.cal_outside.specs.Store.{StoreState, has_file}
use Rattle.cal_outside.specs.declared.store.Got.{Got}
use Rattle.cal_outside.specs.declared.store.Got.TheVariants.{Bytes, End, Failed}

-- Bytes and End agree with the told file, which is then there.
abbrev pub GotAgrees : StoreState → List ℕ → ℕ → Got → List ℕ → Type 0
GotAgrees store name at (Bytes n) into = (1 ≤ n) × (n ≤ length into)
    × IfSome store.files (λ files. IsSomeAnd (files name) (λ whole. (at + n ≤ length whole) × (take n into ≡ take n (drop at whole))))
GotAgrees store name at End into = IfSome store.files (λ files. IsSomeAnd (files name) (λ whole. length whole ≤ at))
GotAgrees store name at Failed into = ⊤

-- a failed read of this name is counted
abbrev pub with_failure : StoreState → List ℕ → StoreState
with_failure store name = record {
  files = store.files;
  faults = one_more store.faults;
  broken = if has_file store.files name then one_more store.broken else store.broken;
  ends = store.ends;
}

-- an end of a file is counted
abbrev pub with_end : StoreState → StoreState
with_end store = record {
  files = store.files;
  faults = store.faults;
  broken = store.broken;
  ends = one_more store.ends;
}

abbrev pub after_read : StoreState → List ℕ → Got → StoreState
after_read store name (Bytes n) = store
after_read store name End = with_end store
after_read store name Failed = with_failure store name

-- What reading a whole file says.
use Rattle.std.specs.Prelude.{◌≡◌, ◌<◌, ℕ, ◌≤◌, List, length, Some, IfSome, IsSomeAnd, Result, Ok, Err}
use Rattle.cal_outside.specs.Reads.{with_failure, with_end}
use Rattle.cal_outside.specs.Store.{StoreState}
use Rattle.cal_outside.specs.declared.whole.ReadAllFault.{ReadAllFault}
use Rattle.cal_outside.specs.declared.whole.ReadAllFault.TheVariants.{ReadFault, TooBig, NoMemory}

-- The told file where it keeps the limit, its length where it doesn't, or one failed read.
abbrev pub ReadAllSays : StoreState → StoreState → List ℕ → ℕ → Result (List ℕ) ReadAllFault → Type 0
ReadAllSays old new name limit (Ok bytes) =
    (new ≡ with_end old) × (length bytes ≤ limit) × IfSome old.files (λ files. files name ≡ Some bytes)
ReadAllSays old new name limit (Err (TooBig n)) =
    (new ≡ old) × (n ≡ limit) × IfSome old.files (λ files. IsSomeAnd (files name) (λ whole. limit < length whole))
ReadAllSays old new name limit (Err ReadFault) = new ≡ with_failure old name
ReadAllSays old new name limit (Err NoMemory) = new ≡ old

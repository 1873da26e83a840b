-- What a store tells.
use Rattle.std.specs.Prelude.{◌≡◌, ◌⊎◌, ℕ, ◌≤◌, List, Bool, false, Option, Some, None, IfSome, is_some}
use Rattle.cal_outside.specs.Faults.{Rose}

-- The files by name, where they are told; how often a read failed, and how often it failed at a told file that is there;
-- how often a read came to a file's end.
pub record StoreState : Type 0 where
  pub files : Option (List ℕ → Option (List ℕ))
  pub faults : ℕ
  pub broken : ℕ
  pub ends : ℕ

-- This file is told, and it is there.
abbrev pub has_file : Option (List ℕ → Option (List ℕ)) → List ℕ → Bool
has_file None name = false
has_file (Some files) name = is_some (files name)

-- No read changes files, and no count falls.
pub record IsLater (old new : StoreState) : Type 0 where
  pub same : new.files ≡ old.files
  pub faults : old.faults ≤ new.faults
  pub broken : old.broken ≤ new.broken
  pub ends : old.ends ≤ new.ends

-- A read of this name may have failed: faults rose, and where the file is told and there, those of such files did.
abbrev pub RoseFor : StoreState → StoreState → List ℕ → Type 0
RoseFor old new name =
    Rose old.faults new.faults × IfSome old.files (λ files. (files name ≡ None) ⊎ Rose old.broken new.broken)

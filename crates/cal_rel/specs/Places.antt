-- The places of a tree, each a path of the numbers of inputs from the root, from 0.
use Rattle.std.specs.Prelude.{ℕ, ◌==◌, List, [], ◌∷◌, Option, Some, None, if◌then◌else◌}
use Rattle.cal_rel.specs.Tree.{Tree, leaf, unary, binary, hole}

abbrev pub place : Tree → List ℕ → Option Tree
place t [] = Some t
place (leaf l) (k ∷ path) = None
place (unary u t) (k ∷ path) = if k == 0 then place t path else None
place (binary b s t) (k ∷ path) = if k == 0 then place s path else if k == 1 then place t path else None
place (hole set) (k ∷ path) = None

-- another tree in this place; where there is no such place, the tree itself
abbrev pub replaced : Tree → List ℕ → Tree → Tree
replaced t [] new = new
replaced (leaf l) (k ∷ path) new = leaf l
replaced (unary u t) (k ∷ path) new = if k == 0 then unary u (replaced t path new) else unary u t
replaced (binary b s t) (k ∷ path) new =
    if k == 0 then binary b (replaced s path new) t
    else if k == 1 then binary b s (replaced t path new) else binary b s t
replaced (hole set) (k ∷ path) new = hole set

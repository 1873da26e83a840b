-- No step takes a member off the count.
use Rattle.std.proofs.Common.{ℕ, ◌≤◌, List, Some, None, arith}
use Rattle.std.specs.Prelude.{Option}
use Rattle.cal_schema.specs.declared.rel_type.RelType.{RelType}
use Rattle.cal_rel.specs.Info.{Info}
use Rattle.cal_rel.specs.Tree.{Unary, Binary, Tree, leaf, unary, binary, hole}
use Rattle.memo_model.specs.Sets.{Sets}
use Rattle.memo_model.specs.Steps.{found, joint_type, place, placed, entered}

place-added : (node : Tree) (t : Option RelType) (target o : Option ℕ) (m : Sets) → m.added ≤ (place node t target o m).sets.added
place-added node t target (Some k) m = omega arith
place-added node t (Some s) None m = omega arith
place-added node t None None m = omega arith

pub placed-added : (info : Info) (target : Option ℕ) (x node : Tree) (m : Sets) → m.added ≤ (placed info target x node m).sets.added
placed-added info target x node m = place-added node (joint_type info m.types x node) target (found node m.members) m

-- the count after the first input, and after all inputs, is at most the whole one
pub unary-added : (info : Info) (target : Option ℕ) (u : Unary) (x : Tree) (m : Sets) → (entered info None x m).sets.added ≤ (entered info target (unary u x) m).sets.added
unary-added info target u x m = let r = entered info None x m in placed-added info target (unary u x) (unary u (hole r.set)) r.sets

pub right-added : (info : Info) (target : Option ℕ) (n : Binary) (x y : Tree) (m : Sets)
    → (entered info None y (entered info None x m).sets).sets.added ≤ (entered info target (binary n x y) m).sets.added
right-added info target n x y m =
    let l = entered info None x m in
    let r = entered info None y l.sets in
    placed-added info target (binary n x y) (binary n (hole l.set) (hole r.set)) r.sets

pub entered-added : (info : Info) (target : Option ℕ) (x : Tree) (m : Sets) → m.added ≤ (entered info target x m).sets.added
entered-added info target (leaf l) m = placed-added info target (leaf l) (leaf l) m
entered-added info target (unary u x) m = let a = entered-added info None x m in let p = unary-added info target u x m in omega arith
entered-added info target (binary n x y) m =
    let a = entered-added info None x m in
    let b = entered-added info None y (entered info None x m).sets in
    let p = right-added info target n x y m in
    omega arith
entered-added info target (hole k) m = omega arith

pub left-added : (info : Info) (target : Option ℕ) (n : Binary) (x y : Tree) (m : Sets) → (entered info None x m).sets.added ≤ (entered info target (binary n x y) m).sets.added
left-added info target n x y m =
    let a = entered-added info None y (entered info None x m).sets in
    let b = right-added info target n x y m in
    omega arith

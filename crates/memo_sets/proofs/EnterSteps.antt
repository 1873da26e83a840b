-- The entering of a tree at each variant.
use Rattle.std.proofs.Common.{◌≡◌, ℕ, ◌≤◌, List, Option, None, Result, Ok, Err, refl, sym, ◌∙◌, ap, subst, arith}
use Rattle.cal_rel.specs.declared.rel.Rel.{Rel}
use Rattle.cal_rel.specs.Info.{Info}
use Rattle.cal_rel.specs.Tree.{Leaf, Unary, Binary, Tree, leaf, unary, binary, hole, tree_of}
use Rattle.memo_model.specs.Sets.{Sets}
use Rattle.memo_model.specs.Steps.{Placed, placed, entered}
use Rattle.memo_model.proofs.AddedLemmas.{unary-added, left-added, right-added}
use Rattle.memo_sets.specs.declared.memo.MemoFault.{MemoFault}
use Rattle.memo_sets.specs.declared.memo.MemoFault.TheVariants.{MemoFull, NoMemory}
use Rattle.memo_sets.specs.Faults.{IsFaultOf, Leaves, Enters}
use Rattle.memo_sets.specs.Seen.{HasRoom}

fault-on : (a b : Sets) (e : MemoFault) → a.added ≤ b.added → IsFaultOf a e → IsFaultOf b e
fault-on a b (MemoFull limit) h f = let l = f.1 in (f.0, omega arith)
fault-on a b NoMemory h f = tt

module _ (info : Info) (target : Option ℕ) (m : Sets) (x : Tree) where
  pub at-leaf : (l : Leaf) → x ≡ leaf l → (after : Sets) (r : Result ℕ MemoFault) → Enters (placed info target x x m) after r → Enters (entered info target x m) after r
  at-leaf l e after r h =
      let same : placed info target x x m ≡ entered info target x m = rw e refl in
      subst (λ (p : Placed). Enters p after r) same h

  pub at-hole : (k : ℕ) → x ≡ hole k → HasRoom m → Leaves (entered info target x m) m k
  at-hole k e room = rw e (record { sets_is = refl; set_is = refl; room = room })

  -- over one input, which is entered

  pub at-unary : (u : Unary) (i node : Tree) (k : ℕ) (m1 : Sets) → x ≡ unary u i → Leaves (entered info None i m) m1 k → node ≡ unary u (hole k)
      → (after : Sets) (r : Result ℕ MemoFault) → Enters (placed info target x node m1) after r → Enters (entered info target x m) after r
  at-unary u i node k m1 e h is after r g =
      let below = entered info None i m in
      let same : placed info target x node m1 ≡ entered info target x m =
      ap (λ y. placed info target y node m1) e ∙ ap (λ y. placed info target (unary u i) y m1) is
      ∙ ap (λ j. placed info target (unary u i) (unary u (hole j)) m1) h.set_is ∙ ap (placed info target (unary u i) (unary u (hole below.set))) h.sets_is
      ∙ sym (ap (λ y. entered info target y m) e) in
      subst (λ (p : Placed). Enters p after r) same g

  pub fault-unary : (u : Unary) (i : Tree) (f : MemoFault) → x ≡ unary u i → IsFaultOf (entered info None i m).sets f → IsFaultOf (entered info target x m).sets f
  fault-unary u i f e h = rw e (fault-on (entered info None i m).sets (entered info target (unary u i) m).sets f (unary-added info target u i m) h)

  -- over two inputs

  pub at-binary : (n : Binary) (i j node : Tree) (k l : ℕ) (m1 m2 : Sets) → x ≡ binary n i j → Leaves (entered info None i m) m1 k → Leaves (entered info None j m1) m2 l
      → node ≡ binary n (hole k) (hole l) → (after : Sets) (r : Result ℕ MemoFault) → Enters (placed info target x node m2) after r → Enters (entered info target x m) after r
  at-binary n i j node k l m1 m2 e h g is after r p =
      let first : Leaves (entered info None j (entered info None i m).sets) m2 l = subst (λ z. Leaves (entered info None j z) m2 l) h.sets_is g in
      let left = entered info None i m in
      let right = entered info None j left.sets in
      let same : placed info target x node m2 ≡ entered info target x m =
      ap (λ y. placed info target y node m2) e ∙ ap (λ y. placed info target (binary n i j) y m2) is
      ∙ ap (λ a. placed info target (binary n i j) (binary n (hole a) (hole l)) m2) h.set_is
      ∙ ap (λ a. placed info target (binary n i j) (binary n (hole left.set) (hole a)) m2) first.set_is
      ∙ ap (placed info target (binary n i j) (binary n (hole left.set) (hole right.set))) first.sets_is
      ∙ sym (ap (λ y. entered info target y m) e) in
      subst (λ (q : Placed). Enters q after r) same p

  pub fault-left : (n : Binary) (i j : Tree) (f : MemoFault) → x ≡ binary n i j → IsFaultOf (entered info None i m).sets f → IsFaultOf (entered info target x m).sets f
  fault-left n i j f e h = rw e (fault-on (entered info None i m).sets (entered info target (binary n i j) m).sets f (left-added info target n i j m) h)

  pub fault-right : (n : Binary) (i j : Tree) (f : MemoFault) (k : ℕ) (m1 : Sets) → x ≡ binary n i j → Leaves (entered info None i m) m1 k
      → IsFaultOf (entered info None j m1).sets f → IsFaultOf (entered info target x m).sets f
  fault-right n i j f k m1 e h g =
      let on : IsFaultOf (entered info None j (entered info None i m).sets).sets f = subst (λ z. IsFaultOf (entered info None j z).sets f) h.sets_is g in
      rw e (fault-on (entered info None j (entered info None i m).sets).sets (entered info target (binary n i j) m).sets f (right-added info target n i j m) on)

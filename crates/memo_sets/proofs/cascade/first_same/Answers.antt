use Rattle.std.proofs.Common.{◌≡◌, ℕ, ◌+◌, ◌<◌, true, false, inl, inr, map, get_or, arith, sym, subst}
use Rattle.std.proofs.lemmas.Bool.{cases_eq}
use Rattle.cal_rel.specs.Tree.{tree_of}
use Rattle.memo_model.specs.Same.{same_tree}
use Rattle.memo_model.proofs.TwiceLemmas.{twice-found, apart-more}
use Rattle.memo_sets.specs.declared.memo.Member.{Member}
use Rattle.memo_sets.specs.Seen.{member_of}
use Rattle.memo_sets.proofs.cascade.first_same.Goals as goal

pub returns-then-is_same : goal.returns-then-is_same
returns-then-is_same c =
    let x = c.index-members-i.result in
    let y = c.index-members-j.result in
    let same : same_tree (tree_of x.rel) (tree_of y.rel) ≡ true = subst (λ (z : Member). same_tree (tree_of z.rel) (tree_of y.rel) ≡ true) (sym c.index-members-i.is) (sym c.if-is_same.ensures) in
    twice-found member_of c.args.members.now c.loop-i.i c.args.j x y c.loop-i-test.true c.requires c.index-members-i.is c.index-members-j.is same

pub loop-i-preserved : goal.loop-i-preserved
loop-i-preserved c = λ k d h e.
    elim (cases_eq k c.loop-i.i) [
      | inl q ↦ (
          let x = c.index-members-i.result in
          let y = c.index-members-j.result in
          let same : same_tree (tree_of x.rel) (tree_of y.rel) ≡ false = subst (λ (z : Member). same_tree (tree_of z.rel) (tree_of y.rel) ≡ false) (sym c.index-members-i.is) (sym c.if-is_same.ensures) in
          let at : (get_or (map member_of c.args.members.now) c.loop-i.i d).tree ≡ (get_or (map member_of c.args.members.now) c.args.j d).tree = rw (← q) e in
          apart-more member_of c.args.members.now c.loop-i.i c.args.j x y c.loop-i-test.true c.requires c.index-members-i.is c.index-members-j.is same d at)
      | inr n ↦ c.loop-i.invariant k d (below k c.loop-i.i h n) e
    ]
  where
    below : (k i : ℕ) → k < i + 1 → (k ≡ i → ⊥) → k < i
    below k i h n = grind arith

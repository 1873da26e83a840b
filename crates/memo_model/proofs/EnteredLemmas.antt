-- The induction over a tree that is entered.
use Rattle.std.proofs.Common.{◌≡◌, ℕ, inl, inr, List, [], Some, None, refl, sym}
use Rattle.std.specs.Prelude.{Option}
use Rattle.cal_schema.specs.declared.rel_type.RelType.{RelType}
use Rattle.cal_rel.specs.Holes.{filled, HasWithin}
use Rattle.cal_rel.specs.Info.{Info, set_at}
use Rattle.cal_rel.specs.Tree.{Leaf, Unary, Binary, Tree, leaf, unary, binary, hole}
use Rattle.cal_rel.specs.Typing.{type_of, unary_type, binary_type}
use Rattle.cal_rel.proofs.RowLemmas.{of_both-some}
use Rattle.cal_rel.proofs.TrueTypes.{and_then-some}
use Rattle.memo_model.specs.Sets.{Member, Sets, seed_at}
use Rattle.memo_model.specs.Sound.{over, IsCoherent}
use Rattle.memo_model.specs.Relations.{ComesFrom, IsPart}
use Rattle.memo_model.specs.Steps.{Placed, entered}
use Rattle.memo_model.proofs.MeansLemmas.{means-refl, means-unary, means-binary}
use Rattle.memo_model.proofs.StandLemmas.{stands-more}
use Rattle.memo_model.proofs.TypeLemmas.{within-trans, node-unary, node-binary}
use Rattle.memo_model.proofs.ExtendLemmas.{extends-refl, extends-trans, type-more}
use Rattle.memo_model.proofs.EnterLemmas.{IsTarget, IsEntered, IsReady, ready-placed, input-same, comes-more}

-- a part of an input is a part
comes-unary : (xs : List Member) (u : Unary) (x : Tree) (s : ℕ) (node : Tree) → ComesFrom xs x s node → ComesFrom xs (unary u x) s node
comes-unary xs u x s node h = record { part = h.part; is = inr h.is; stands = h.stands }

comes-left : (xs : List Member) (n : Binary) (x y : Tree) (s : ℕ) (node : Tree) → ComesFrom xs x s node → ComesFrom xs (binary n x y) s node
comes-left xs n x y s node h = record { part = h.part; is = inr (inl h.is); stands = h.stands }

comes-right : (xs : List Member) (n : Binary) (x y : Tree) (s : ℕ) (node : Tree) → ComesFrom xs y s node → ComesFrom xs (binary n x y) s node
comes-right xs n x y s node h = record { part = h.part; is = inr (inr h.is); stands = h.stands }

ready-leaf : (info : Info) (m : Sets) (l : Leaf) (t : RelType) → IsCoherent info m → type_of (over info m.types) (leaf l) ≡ Some t → IsReady info m m (leaf l) (leaf l) t t
ready-leaf info m l t coherent e = record {
  extends = extends-refl info m coherent;
  shape = tt;
  holes = tt;
  typed = e;
  kinds = refl;
  same = means-refl (over info []) (leaf l);
  back = λ s y h. inl h;
  unique = λ u. u;
  by = λ members more s has. (has, (refl, has));
  itself = refl;
}

ready-unary : (info : Info) (m : Sets) (u : Unary) (x : Tree) (t s : RelType) (r : Placed) → IsCoherent info m
    → type_of (over info m.types) x ≡ Some s → unary_type u s ≡ Some t → IsEntered info m x s r
    → (own : RelType) × IsReady info m r.sets (unary u x) (unary u (hole r.set)) t own
ready-unary info m u x t s r coherent input e below =
    let typed = node-unary info coherent.valid r.sets.types u s t r.set e below.type in (
      typed.found,
      record {
        extends = below.extends;
        shape = tt;
        holes = record { found = below.type.found; is = below.type.is };
        typed = typed.is;
        kinds = typed.kinds;
        same = means-unary (over info []) u (seed_at r.sets.seeds r.set) (filled (seed_at m.seeds) x) (input-same info m r.sets x s r.set coherent below.extends input below.stands);
        back = λ k y h. elim (below.back k y h) [ inl old ↦ inl old | inr from ↦ inr (comes-unary r.sets.members u x k y from) ];
        unique = below.unique;
        by = λ members more k has. let on = stands-more r.sets.members members more r.set x below.stands in ((r.set, has, on), (r.set, refl, has, on));
        itself = inl refl;
      },
    )

-- `s` and `u` are the types of the inputs before, `v` that of the right one once the left one is in
ready-binary : (info : Info) (m : Sets) (n : Binary) (a b : Tree) (t s u v : RelType) (l r : Placed) → IsCoherent info m
    → type_of (over info m.types) a ≡ Some s → type_of (over info m.types) b ≡ Some u → binary_type (over info m.types) n a b s u ≡ Some t
    → HasWithin (set_at r.sets.types r.set) u
    → IsEntered info m a s l → IsEntered info l.sets b v r
    → (own : RelType) × IsReady info m r.sets (binary n a b) (binary n (hole l.set) (hole r.set)) t own
ready-binary info m n a b t s u v l r coherent left right e at_right below above =
    let at_left = above.extends.types l.set below.type.found below.type.is in
    let left_type : HasWithin (set_at r.sets.types l.set) s =
    record { found = at_left.found; is = at_left.is; within = within-trans at_left.found below.type.found s at_left.within below.type.within } in
    let typed = node-binary (over info m.types) coherent.valid r.sets.types n a b s u t l.set r.set e left_type at_right in
    let ext = extends-trans info m l.sets r.sets coherent below.extends above.extends in
    let stands_left = stands-more l.sets.members r.sets.members above.extends.members l.set a below.stands in (
      typed.found,
      record {
        extends = ext;
        shape = (tt, tt);
        holes = (record { found = at_left.found; is = at_left.is }, record { found = at_right.found; is = at_right.is });
        typed = typed.is;
        kinds = typed.kinds;
        same = means-binary (over info []) n (seed_at r.sets.seeds l.set) (seed_at r.sets.seeds r.set) (filled (seed_at m.seeds) a) (filled (seed_at m.seeds) b)
            (input-same info m r.sets a s l.set coherent ext left stands_left) (input-same info m r.sets b u r.set coherent ext right above.stands);
        back = λ k y h. elim (above.back k y h) [
          | inl old ↦ elim (below.back k y old) [
            | inl first ↦ inl first
            | inr from ↦ inr (comes-left r.sets.members n a b k y (comes-more l.sets.members r.sets.members above.extends.members a k y from))
          ]
          | inr from ↦ inr (comes-right r.sets.members n a b k y from)
        ];
        unique = λ w. above.unique (below.unique w);
        by = λ members more k has.
            let on_left = stands-more r.sets.members members more l.set a stands_left in
            let on_right = stands-more r.sets.members members more r.set b above.stands in
            ((l.set, r.set, has, on_left, on_right), (l.set, r.set, refl, has, on_left, on_right));
        itself = inl refl;
      },
    )

pub entered-is : (info : Info) (x : Tree) (target : Option ℕ) (m : Sets) (t : RelType) → IsCoherent info m → type_of (over info m.types) x ≡ Some t
    → IsTarget info m x t target → IsEntered info m x t (entered info target x m)
entered-is info (leaf l) target m t coherent e may = ready-placed info m m (leaf l) (leaf l) t t coherent e (ready-leaf info m l t coherent e) target may
entered-is info (unary u x) target m t coherent e may =
    let i = and_then-some (unary_type u) (type_of (over info m.types) x) t e in
    let r = entered info None x m in
    let below = entered-is info x None m i.from coherent i.found tt in
    let ready = ready-unary info m u x t i.from r coherent i.found i.is below in
    ready-placed info m r.sets (unary u x) (unary u (hole r.set)) t ready.0 coherent e ready.1 target may
entered-is info (binary n a b) target m t coherent e may =
    let i = of_both-some (binary_type (over info m.types) n a b) (type_of (over info m.types) a) (type_of (over info m.types) b) t e in
    let l = entered info None a m in
    let r = entered info None b l.sets in
    let below = entered-is info a None m i.first coherent i.first_is tt in
    let v = type-more info m l.sets coherent.valid below.extends.types b i.second i.second_is in
    let above = entered-is info b None l.sets v.found below.extends.coherent v.is tt in
    let at_right : HasWithin (set_at r.sets.types r.set) i.second =
    record { found = above.type.found; is = above.type.is; within = within-trans above.type.found v.found i.second above.type.within v.within } in
    let ready = ready-binary info m n a b t i.first i.second v.found l r coherent i.first_is i.second_is i.is at_right below above in
    ready-placed info m r.sets (binary n a b) (binary n (hole l.set) (hole r.set)) t ready.0 coherent e ready.1 target may
entered-is info (hole k) target m t coherent e may = record {
  extends = extends-refl info m coherent;
  stands = refl;
  type = record { found = t; is = e; within = (coherent.seeds k t e).ordered };
  back = λ s y h. inl h;
  unique = λ u. u;
}

-- `Extends` of a memo and itself, of one after another, and what it gives.
use Rattle.std.proofs.Common.{◌≡◌, ℕ, List, Some, refl, sym, ◌∙◌, ap, arith}
use Rattle.cal_schema.specs.declared.rel_type.RelType.{RelType}
use Rattle.cal_rel.specs.Holes.{renumbered, HasWithin}
use Rattle.cal_rel.specs.Info.{Info, set_at}
use Rattle.cal_rel.specs.Tree.{Tree}
use Rattle.cal_rel.specs.Typing.{type_of}
use Rattle.cal_rel.proofs.Narrower.{type-narrow}
use Rattle.cal_schema.specs.Valid.{IsValidSchema}
use Rattle.memo_model.proofs.TreeLemmas.{each-always, each-weaker, renumbered-itself, filled-agree}
use Rattle.memo_model.proofs.TypeLemmas.{within-kinds, within-trans}
use Rattle.memo_model.specs.Sets.{Sets, seed_at, became, IsThere}
use Rattle.memo_model.specs.Sound.{over, IsMember, IsCoherent}
use Rattle.memo_model.specs.Relations.{Keeps, Extends}
use Rattle.memo_model.proofs.NumberLemmas.{became-twice}
use Rattle.memo_model.proofs.KeepLemmas.{renumbered-there}

pub extends-refl : (info : Info) (m : Sets) → IsCoherent info m → Extends info m m
extends-refl info m coherent = record {
  coherent = coherent;
  members = λ s node h. h;
  types = λ k t e. record { found = t; is = e; within = (coherent.seeds k t e).ordered };
  seeds = λ k l. refl;
  numbers = λ k. refl;
  longer = omega arith;
  gone = λ k l e. e;
  added = refl;
}

pub extends-trans : (info : Info) (a b c : Sets) → IsCoherent info a → Extends info a b → Extends info b c → Extends info a c
extends-trans info a b c coherent h k = record {
  coherent = k.coherent;
  members = λ s node has. k.members s node (h.members s node has);
  types = λ j t e.
      let x = h.types j t e in
      let y = k.types j x.found x.is in
      record { found = y.found; is = y.is; within = within-trans y.found x.found t y.within x.within };
  seeds = λ j l.
      let x = coherent.seed_count in
      let y = h.coherent.seed_count in
      let z = h.longer in
      k.seeds j (omega arith) ∙ h.seeds j l;
  numbers = λ j. k.numbers j ∙ h.numbers j;
  longer = let x = h.longer in let y = k.longer in omega arith;
  gone = λ j l e. let x = h.longer in k.gone j (omega arith) (h.gone j l e);
  added = let x = h.added in let y = k.added in omega arith;
}

pub extends-there : (info : Info) (a b : Sets) → Extends info a b → (k : ℕ) → IsThere a.types k → IsThere b.types k
extends-there info a b h k at = let x = h.types k at.found at.is in record { found = x.found; is = x.is }

-- types of sets that say more leave a tree well formed
pub type-more : (info : Info) (a b : Sets) → IsValidSchema info.schema → ((k : ℕ) (t : RelType) → set_at a.types k ≡ Some t → HasWithin (set_at b.types k) t)
    → (x : Tree) (t : RelType) → type_of (over info a.types) x ≡ Some t → HasWithin (type_of (over info b.types) x) t
type-more info a b valid h x t e =
    let own = type-narrow (λ k. k) (over info a.types) (over info b.types) x t valid (record { else = record { schema = refl; stars = refl; tiles = refl }; sets = h }) e in
    let same : renumbered (λ k. k) x ≡ x = renumbered-itself (λ k. k) x (each-always (λ k. k ≡ k) (λ k. refl) x) in
    record { found = own.found; is = ap (type_of (over info b.types)) (sym same) ∙ own.is; within = own.within }

-- a member stays one
pub member-more : (info : Info) (a b : Sets) → IsValidSchema info.schema → ((k : ℕ) (t : RelType) → set_at a.types k ≡ Some t → HasWithin (set_at b.types k) t)
    → ((k : ℕ) → IsThere a.types k → seed_at b.seeds k ≡ seed_at a.seeds k)
    → (s : ℕ) (node : Tree) → IsMember info a.seeds a.types s node → IsMember info b.seeds b.types s node
member-more info a b valid h seeds s node old =
    let at = h s old.there.found old.there.is in
    let own = type-more info a b valid h node old.own old.typed in
    let fill = filled-agree (seed_at b.seeds) (seed_at a.seeds) node (each-weaker (IsThere a.types) (λ k. seed_at b.seeds k ≡ seed_at a.seeds k) seeds node old.holes) in
    record {
      there = record { found = at.found; is = at.is };
      shape = old.shape;
      holes = each-weaker (IsThere a.types) (IsThere b.types) (λ k e. let x = h k e.found e.is in record { found = x.found; is = x.is }) node old.holes;
      own = own.found;
      typed = own.is;
      kinds = within-kinds own.found old.own own.within ∙ old.kinds ∙ sym (within-kinds at.found old.there.found at.within);
      means = rw (fill, seeds s old.there) old.means;
    }

pub extends-keeps : (info : Info) (a b : Sets) → IsCoherent info a → Extends info a b → Keeps a b
extends-keeps info a b coherent h = record {
  members = λ s node has.
      let old = coherent.members s node has in
      let at = extends-there info a b h s old.there in
      let holes = each-weaker (IsThere a.types) (IsThere b.types) (extends-there info a b h) node old.holes in
      rw (h.coherent.stays s at, renumbered-there info b h.coherent node holes) (h.members s node has);
  types = λ k t e.
      let x = h.types k t e in
      record { found = x.found; is = ap (set_at b.types) (h.coherent.stays k (record { found = x.found; is = x.is })) ∙ x.is; within = x.within };
  numbers = λ k. ap (became b.numbers) (sym (h.numbers k)) ∙ became-twice info b h.coherent k;
  longer = let x = h.longer in let y = coherent.number_count in let z = h.coherent.number_count in omega arith;
  gone = λ k l e. let n = coherent.number_count in h.gone k (omega arith) e;
}

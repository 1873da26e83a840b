-- The list of a memo's triples has each of them and no other.
use Rattle.std.proofs.Common.{◌≡◌, ℕ, zero, suc, ◌<◌, ◌+◌, List, [], ◌∷◌, map, Some, None, refl, sym, ◌∙◌, ap, subst, arith, inl, inr}
use Rattle.std.specs.Prelude.{Contains, slice_get}
use Rattle.std.specs.List.{flat_map, range_with_len, enumerate_from}
use Rattle.std.proofs.lemmas.Option.{none-some, same_Some}
use Rattle.std.proofs.lemmas.List.FromFn.{length-range_with_len, get_or-range_with_len}
use Rattle.cal_rel.specs.Info.{Info}
use Rattle.cal_rel.specs.Tree.{Tree}
use Rattle.rule_hep.specs.Meaning.{Meaning}
use Rattle.memo_model.specs.Sets.{Member, Has}
use Rattle.memo_model.proofs.ListLemmas.{contains-map, contains-map_back}
use Rattle.search_model.specs.Firings.{Firing}
use Rattle.search_model.specs.Search.{IsTriple, IsTriples}
use Rattle.search_model.specs.Listed.{in_set, bindings, of_rule, of_member, listed}
use Rattle.search_model.proofs.AmongLemmas.{none, contains-head, contains-tail, cons-cases}
use Rattle.search_model.proofs.ListedLemmas.{contains-flat_map, contains-flat_map_back, binds-listed}
use Rattle.search_model.proofs.OnlyLemmas.{binds-only}

-- ---- places

zero-plus : (k : ℕ) → 0 + k ≡ k
zero-plus k = omega arith

range-has : (n k : ℕ) → k < n → Contains (range_with_len 0 n) k
range-has n k l = (k, omega (arith, length-range_with_len 0 n), get_or-range_with_len 0 n k k l ∙ zero-plus k)

range-below : (n k : ℕ) → Contains (range_with_len 0 n) k → k < n
range-below n k h =
    let l : h.0 < n = omega (arith, h.1, length-range_with_len 0 n) in
    let e : k ≡ h.0 = sym h.2 ∙ get_or-range_with_len 0 n h.0 k l ∙ zero-plus h.0 in
    omega arith

module _ {A : Type 0} where
  place-has : (a : ℕ) (xs : List A) (i k : ℕ) (x : A) → k ≡ a + i → slice_get xs i ≡ Some x → Contains (enumerate_from a xs) (k, x)
  place-has a [] i k x q e = absurd (none-some x e)
  place-has a (y ∷ xs) zero k x q e =
      let at : a ≡ k = omega arith in
      subst (λ (p : ℕ × A). Contains (enumerate_from a (y ∷ xs)) p) (λ j. (at j, same_Some y x e j)) (contains-head (a, y) (enumerate_from (a + 1) xs))
  place-has a (y ∷ xs) (suc i) k x q e = contains-tail (a, y) (enumerate_from (a + 1) xs) (k, x) (place-has (a + 1) xs i k x (omega arith) e)

  place-is : (a : ℕ) (xs : List A) (p : ℕ × A) → Contains (enumerate_from a xs) p → (i : ℕ) × (p.0 ≡ a + i) × (slice_get xs i ≡ Some p.1)
  place-is a [] p h = absurd (none p h)
  place-is a (y ∷ xs) p h = elim (cons-cases (a, y) (enumerate_from (a + 1) xs) p h) [
    | inl e ↦ (
        let at : a ≡ p.0 = ap (λ (q : ℕ × A). q.0) e in
        (0, omega arith, ap (λ (q : ℕ × A). Some q.1) e))
    | inr e ↦ (
        let r = place-is (a + 1) xs p e in
        let at : p.0 ≡ a + 1 + r.0 = r.1 in
        (suc r.0, omega arith, r.2))
  ]

  -- the element of this place
  place-element : (xs : List A) (p : ℕ × A) → Contains (enumerate_from 0 xs) p → slice_get xs p.0 ≡ Some p.1
  place-element xs p h =
      let r = place-is 0 xs p h in
      let at : r.0 ≡ p.0 = omega (arith, r.1) in
      subst (λ i. slice_get xs i ≡ Some p.1) at r.2

-- ---- triples

module _ (info : Info) (rules : List Meaning) (members : List Member) where
  rule-only : (m : Member) (k : ℕ) (law : Meaning) (f : Firing) → slice_get rules k ≡ Some law → Contains members m
      → Contains (of_rule (in_set members) m k law.reach (law.width info)) f → IsTriple info rules members f
  rule-only m k law f e there h =
      let all = bindings (in_set members) law.reach m.tree in
      let n = contains-flat_map_back (λ n. map (λ b. record { rule = k; nth = n; binding = b; set = m.set }) all) (range_with_len 0 (law.width info)) f h in
      let b = contains-map_back (λ b. record { rule = k; nth = n.0; binding = b; set = m.set }) all f n.2 in
      let has : Has members m.set m.tree = record { at = there } in
      let first : IsTriple info rules members (record { rule = k; nth = n.0; binding = b.0; set = m.set }) = record {
        law = law;
        rule = e;
        below = range-below (law.width info) n.0 n.1;
        binds = binds-only members m.set law.reach m.tree b.0 has b.1;
      } in
      subst (IsTriple info rules members) b.2 first

  rule-each : (f : Firing) (is : IsTriple info rules members f) (node : Tree) → Contains (bindings (in_set members) is.law.reach node) f.binding
      → Contains (of_rule (in_set members) (record { set = f.set; tree = node }) f.rule is.law.reach (is.law.width info)) f
  rule-each f is node h =
      contains-flat_map (λ n. map (λ b. record { rule = f.rule; nth = n; binding = b; set = f.set }) (bindings (in_set members) is.law.reach node)) (range_with_len 0 (is.law.width info)) f.nth f
      (range-has (is.law.width info) f.nth is.below)
      (contains-map (λ b. record { rule = f.rule; nth = f.nth; binding = b; set = f.set }) (bindings (in_set members) is.law.reach node) f.binding h)

  pub listed-triples : IsTriples info rules members (listed info rules members)
  listed-triples = record {
    only = λ f h.
        let m = contains-flat_map_back (of_member info rules (in_set members)) members f h in
        let r = contains-flat_map_back (λ r. of_rule (in_set members) m.0 r.0 r.1.reach (r.1.width info)) (enumerate_from 0 rules) f m.2 in
        rule-only m.0 r.0.0 r.0.1 f (place-element rules r.0 r.1) m.1 r.2;
    each = λ f is.
        let node = binds-listed members is.law.reach f.set f.binding is.binds in
        let m : Member = record { set = f.set; tree = node.0 } in
        contains-flat_map (of_member info rules (in_set members)) members m f node.1.at
        (contains-flat_map (λ r. of_rule (in_set members) m r.0 r.1.reach (r.1.width info)) (enumerate_from 0 rules) (f.rule, is.law) f
        (place-has 0 rules f.rule f.rule is.law (sym (zero-plus f.rule)) is.rule) (rule-each f is node.0 node.2));
  }

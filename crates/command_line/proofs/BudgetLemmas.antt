-- The budget that a parse of the command gives passed the rule of the budget.
use Rattle.std.specs.Prelude.{◌≡◌, ◌<◌, ◌⊎◌, ℕ, zero, suc, true, false, List, [], ◌∷◌, length, map, codes, Option, Some, None, refl, IfSome, option_map, slice_get, slice_index}
use Rattle.std.specs.Borrow.{Bor}
use Rattle.std.specs.List.{All, list_all, slice_index_or}
use Rattle.std.specs.Str.{bytes_eq}
use Rattle.std.proofs.Common.{inl, inr, sym, ap, subst, arith, ◌∙◌}
use Rattle.std.proofs.lemmas.List.Elements.{All-get_or}
use Rattle.std.proofs.lemmas.Slice.Eq.{bytes_eq-Decides}
use Rattle.clap.specs.Built.{IsAuto, IsParsedFrom, SameRules}
use Rattle.clap.specs.Facts.{Entry, EntryPasses, IsKnownGroup, PassesArg, args_of, groups_of, parser_of_value}
use Rattle.clap.specs.Matches.{first_value, found_of, matched_of}
use Rattle.clap.specs.Simple.{App, app_of, shape_of}
use Rattle.clap.specs.Values.{Accepts, IsUnsignedIn}
use Rattle.clap.specs.Walk.{Rule, rule_of}
use Rattle.clap.specs.declared.builder.arg.Arg.{Arg}
use Rattle.clap.specs.declared.builder.command.Command.{Command}
use Rattle.clap.specs.declared.builder.value_parser.ValueParser.{ValueParser}
use Rattle.clap.specs.declared.builder.value_parser.ValueParser.TheVariants.{Unsigned}
use Rattle.clap.specs.declared.parser.matches.ArgMatches.{ArgMatches}
use Rattle.clap.specs.declared.parser.matches.MatchedArg.{MatchedArg}
use Rattle.clap.proofs.CallerLemmas.{entry_by_id, same_rules_by_id}
use Rattle.clap.proofs.SimpleLemmas.{plain_fields, simple_groups}
use Rattle.cal_value.specs.declared.limits.TheConstants.{BUDGET_LIMIT}
use Rattle.command_line.specs.declared.reading.Asked.{Asked}
use Rattle.command_line.specs.Reading.{IsBudget, asked, budget_of, calq}

rule_at : (xs : List Arg) (j : ℕ) (e : Arg) → j < length xs → rule_of (slice_index_or xs j e) ≡ slice_index_or (map rule_of xs) j (rule_of e)
rule_at [] j e lt = absurd (omega arith)
rule_at (x ∷ xs) zero e lt = refl
rule_at (x ∷ xs) (suc j) e lt = rule_at xs j e (omega arith)

same_length : (xs : List Arg) → length (map rule_of xs) ≡ length xs
same_length [] = refl
same_length (x ∷ xs) = rw (same_length xs) refl

only_third : (j : ℕ) (r : Rule) → j < 3 → bytes_eq (slice_index_or calq.top.rules j r).id (codes "budget") ≡ true → j ≡ 2
only_third zero r lt e = let bad : false ≡ true = e in cc
only_third (suc zero) r lt e = let bad : false ≡ true = e in cc
only_third (suc (suc zero)) r lt e = refl
only_third (suc (suc (suc j))) r lt e = absurd (omega arith)

not_first : (t : List ℕ) (first : ℕ) → t ≡ codes "budget" → slice_index t 0 ≡ first → first ≡ 98
not_first t first is at = sym at ∙ ap (λ u. slice_index u 0) is

not_auto : (t : List ℕ) → t ≡ codes "budget" → (t ≡ codes "help") ⊎ (t ≡ codes "version") → ⊥
not_auto t is (inl h) = let bad : 104 ≡ 98 = not_first t 104 is (ap (λ u. slice_index u 0) h) in absurd (omega (arith, bad))
not_auto t is (inr h) = let bad : 118 ≡ 98 = not_first t 118 is (ap (λ u. slice_index u 0) h) in absurd (omega (arith, bad))

not_empty : (t : List ℕ) → t ≡ codes "budget" → t ≡ [] → ⊥
not_empty t is h = let bad : 0 ≡ 98 = not_first t 0 is (ap (λ u. slice_index u 0) h) in absurd (omega (arith, bad))

not_some : {X : Type 0} (xs : List X) → xs ≡ [] → 0 < length xs → ⊥
not_some [] is lt = absurd (omega arith)
not_some (x ∷ xs) is lt = cc

first_if : (P : List ℕ → Type 0) (vs : List (Bor (List ℕ))) → All (λ v. P v.now) vs → IfSome (option_map (λ s. s.now) (slice_get vs 0)) P
first_if P [] h = tt
first_if P (v ∷ vs) h = All-get_or (λ w. P w.now) (v ∷ vs) 0 v (omega arith) h

-- the command with the three arguments
module _ (c : Command) (same : app_of c ≡ calq) where
  rules : map rule_of (args_of c) ≡ calq.top.rules
  rules = ap (λ (a : App). a.top.rules) same

  three : length (args_of c) ≡ 3
  three = sym (same_length (args_of c)) ∙ ap length rules

  rule_here : (j : ℕ) (e : Arg) → j < 3 → rule_of (slice_index_or (args_of c) j e) ≡ slice_index_or calq.top.rules j (rule_of e)
  rule_here j e lt = rule_at (args_of c) j e (omega (arith, three)) ∙ ap (λ rs. slice_index_or rs j (rule_of e)) rules

  id_here : (d : Arg) → (slice_index_or (args_of c) 2 d).id.now ≡ codes "budget"
  id_here d = ap (λ (r : Rule). r.id) (rule_here 2 d (omega arith))

  parser_here : (d : Arg) → (slice_index_or (args_of c) 2 d).value_parser ≡ Some (Unsigned 1 BUDGET_LIMIT)
  parser_here d = ap (λ (r : Rule). r.parser) (rule_here 2 d (omega arith))

  unique : (d : Arg) (j : ℕ) (e : Arg) → j < length (args_of c)
      → bytes_eq (slice_index_or (args_of c) j e).id.now (slice_index_or (args_of c) 2 d).id.now ≡ true → j ≡ 2
  unique d j e lt is =
      let low : j < 3 = omega (arith, three) in
      only_third j (rule_of e) low (rw (← ap (λ (r : Rule). r.id) (rule_here j e low), ← id_here d) is)

  own : (d : Arg) → IsAuto (slice_index_or (args_of c) 2 d) → ⊥
  own d auto = not_auto _ (id_here d) auto

  passes : (m : ArgMatches) (p : IsParsedFrom c m) (t : List ℕ) → PassesArg p.built (codes "budget") t → IsUnsignedIn 1 BUDGET_LIMIT t
  passes m p t any =
      let x = any.1 in
      let s : SameRules (slice_index_or (args_of c) 2 x) x =
      same_rules_by_id c m p 2 x (omega (arith, three)) (unique x) (own x) any.0 x any.2 any.3 (rw (id_here x) any.4.0) in
      let parser = ap parser_of_value (s.parser _ (parser_here x)) in
      subst (λ (q : ValueParser). Accepts x.ignore_case q t) parser any.4.1

  no_groups : (m : ArgMatches) (p : IsParsedFrom c m) → groups_of p.built ≡ []
  no_groups m p =
      (p.from.same_groups (simple_groups c (ap (λ (a : App). list_all (λ r. r.is_simple) a.top.rules) same))).1
      ∙ (plain_fields c (ap (λ (a : App). a.top.is_plain) same)).groups

  no_group : (m : ArgMatches) (p : IsParsedFrom c m) (id : List ℕ) → id ≡ codes "budget" → IsKnownGroup p.built id → ⊥
  no_group m p id is (inl empty) = not_empty id is empty
  no_group m p id is (inr some) = not_some _ (no_groups m p) some

  values_pass : (m : ArgMatches) (p : IsParsedFrom c m) (e : Entry) → e.0.now ≡ codes "budget" → EntryPasses p.built e
      → All (λ v. IsUnsignedIn 1 BUDGET_LIMIT v.now) e.1.vals.items
  values_pass m p e is pass = elim pass.0 [
    | inl group ↦ absurd (no_group m p e.0.now is (pass.3 group))
    | inr values ↦ λ k d lt. passes m p _ (subst (λ w. PassesArg p.built w (slice_index_or e.1.vals.items k d).now) is (values k d lt))
  ]

  -- what the parse reads as the budget is a number in its range
  pub budget_accepted : (m : ArgMatches) → IsParsedFrom c m → IfSome (first_value (found_of m) (codes "budget")) (IsUnsignedIn 1 BUDGET_LIMIT)
  budget_accepted m p = go (matched_of (found_of m) (codes "budget")) refl
    where
      go : (o : Option MatchedArg) → matched_of (found_of m) (codes "budget") ≡ o → IfSome (first_value (found_of m) (codes "budget")) (IsUnsignedIn 1 BUDGET_LIMIT)
      go None is = rw is tt
      go (Some x) is =
          let parsed = p.parsed (p.from.globals ∙ (plain_fields c (ap (λ (a : App). a.top.is_plain) same)).globals) in
          let found = entry_by_id (EntryPasses p.built) (found_of m).entries.items (codes "budget") x parsed.values is in
          let all = values_pass m p found.0 ((bytes_eq-Decides _ _).0 found.2) found.3 in
          rw is (first_if (IsUnsignedIn 1 BUDGET_LIMIT) x.vals.items (subst (λ (y : MatchedArg). All (λ v. IsUnsignedIn 1 BUDGET_LIMIT v.now) y.vals.items) found.1 all))

fits : (given : Option (List ℕ)) → IfSome given (IsUnsignedIn 1 BUDGET_LIMIT) → IsBudget (budget_of given)
fits None h = (omega arith, omega arith)
fits (Some text) h = (h.2, h.3)

pub budget_fits : (model sql budget : Option (List ℕ)) (found : Asked) → found ≡ asked model sql budget → IfSome budget (IsUnsignedIn 1 BUDGET_LIMIT) → IsBudget found.budget
budget_fits model sql budget found is h = subst (λ (a : Asked). IsBudget a.budget) (sym is) (fits budget h)

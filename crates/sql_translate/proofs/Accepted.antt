-- What an accepted SELECT gives its translation.
use Rattle.std.proofs.Common.{◌≡◌, ◌≢◌, ◌<◌, ◌≤◌, ◌^◌, ◌∙◌, ℕ, Bool, true, false, cond, refl, ap, sym, subst, arith, List, [], ◌∷◌, length, map, Option, Some, None}
use Rattle.std.specs.Prelude.{nat_lt}
use Rattle.std.specs.Option.{IsSome, IsSomeAnd}
use Rattle.std.proofs.lemmas.Bool.Decides.{nat_tests}
use Rattle.std.proofs.lemmas.List.{length-map}
use Rattle.cal_value.specs.declared.limits.TheConstants.{FROM_LIMIT}
use Rattle.cal_schema.specs.declared.database.Db.{Db}
use Rattle.cal_schema.specs.declared.refusal.Refusal.TheVariants.{TooManyTables}
use Rattle.cal_schema.specs.declared.schema.Schema.{Schema}
use Rattle.cal_schema.specs.Fits.{Fits}
use Rattle.cal_schema.specs.Valid.{IsValidSchema}
use Rattle.cal_rel.specs.Info.{Info}
use Rattle.cal_rel.specs.Operators.{Row}
use Rattle.cal_rel.specs.Bag.{bag}
use Rattle.cal_rel.specs.Tree.{Tree}
use Rattle.cal_rel.specs.Typing.{type_of}
use Rattle.sql_tree.specs.declared.select.FromEntry.{FromEntry}
use Rattle.sql_tree.specs.declared.select.Select.{Select}
use Rattle.sql_meaning.specs.Direct.{direct}
use Rattle.sql_meaning.specs.Refused.{unknown_table, too_many_tables, refusal_of}
use Rattle.sql_meaning.specs.Scope.{Header, header_of, number_of, scope_of, types_in}
use Rattle.sql_meaning.proofs.Nothing.{or-none}
use Rattle.sql_names.specs.Tables.{AreNumbered}
use Rattle.sql_validator.proofs.Resolving.{types-small}
use Rattle.sql_validator.specs.declared.checked.CheckedSelect.{CheckedSelect}
use Rattle.sql_algebra.specs.Algebra.{algebra}
use Rattle.sql_algebra.specs.Formed.{IsFormed, begins_first}
use Rattle.sql_algebra.proofs.Whole.{algebra-rows}
use Rattle.sql_algebra.proofs.WholeTypes.{algebra-typed}
use Rattle.sql_translate.specs.Translated.{IsAccepted, MeansTheSelect}

few-entries : (n : ℕ) → cond (nat_lt FROM_LIMIT n) (Some (TooManyTables FROM_LIMIT)) None ≡ None → n ≤ FROM_LIMIT
few-entries n e = by (nat_lt FROM_LIMIT n) refl e
  where
    by : (b : Bool) → nat_lt FROM_LIMIT n ≡ b → cond b (Some (TooManyTables FROM_LIMIT)) None ≡ None → n ≤ FROM_LIMIT
    by true k f = absurd (cc)
    by false k f = grind (arith, nat_tests)

pub few-tables : (schema : Schema) (made : CheckedSelect) → IsAccepted schema made → length made.select.from ≤ FROM_LIMIT
few-tables schema made accepted =
    let tables = or-none (unknown_table schema made.select) _ accepted.checked.accepted in
    few-entries (length made.select.from) (or-none (too_many_tables made.select) _ tables.1).0

pub accepted-small : (schema : Schema) (made : CheckedSelect) (from : List FromEntry) (scope : List Header) → IsValidSchema schema → IsAccepted schema made → from ≡ made.select.from → scope ≡ map (header_of schema) from
    → length (types_in scope) < 2 ^ 32
accepted-small schema made from scope valid accepted is e =
    let P : List FromEntry → Type 0 = λ f. length f ≤ FROM_LIMIT in
    types-small schema from scope valid (subst P (sym is) (few-tables schema made accepted)) e

pub formed-some : (select : Select) (from : List FromEntry) → IsFormed select → from ≡ select.from → from ≢ []
formed-some select from formed is = λ none.
    let P : List FromEntry → Type 0 = λ f. begins_first f ≡ true in
    let none-first : begins_first [] ≡ true = subst P (sym is ∙ none) formed.from in
    absurd (cc)

pub numbered-counted : (schema : Schema) (from : List FromEntry) (tables : List ℕ) → AreNumbered schema from tables → length tables ≡ length from
numbered-counted schema from tables are =
    sym (length-map tables (λ n. Some n)) ∙ ap length are ∙ length-map from (λ (entry : FromEntry). number_of schema entry.table)

some-of : {A : Type 0} (o : Option A) (P : A → Type 0) → IsSomeAnd o P → IsSome o
some-of None P h = absurd h
some-of (Some x) P h = refl

pub means-select : (schema : Schema) (before : ℕ) (select : Select) (tree : Tree) → IsValidSchema schema → IsFormed select → refusal_of schema before select ≡ None → tree ≡ algebra schema select → MeansTheSelect schema select tree
means-select schema before select tree valid formed accepted is = record {
  well_formed = (λ info e.
      let V : Schema → Type 0 = λ s. IsValidSchema s in
      let R : Schema → Type 0 = λ s. refusal_of s before select ≡ None in
      let typed = algebra-typed info before select (subst V (sym e) valid) formed (subst R (sym e) accepted) in
      let W : Tree → Type 0 = λ t. IsSome (type_of info t) in
      subst W (ap (λ s. algebra s select) e ∙ sym is) (some-of (type_of info (algebra info.schema select)) _ typed));
  rows = (λ info db holes e fits.
      let V : Schema → Type 0 = λ s. IsValidSchema s in
      let R : Schema → Type 0 = λ s. refusal_of s before select ≡ None in
      let F : Schema → Type 0 = λ s. Fits db s in
      ap (bag info db holes) (is ∙ ap (λ s. algebra s select) (sym e))
      ∙ algebra-rows info db holes before select (subst F (sym e) fits) (subst V (sym e) valid) formed (subst R (sym e) accepted)
      ∙ ap (λ s. direct select s db) e);
}

use Rattle.std.proofs.Common.{◌≡◌, ◌≤◌, ◌∙◌, ap, sym, subst, length, map, List, None}
use Rattle.cal_value.specs.declared.limits.TheConstants.{FROM_LIMIT}
use Rattle.sql_tree.specs.declared.select.FromEntry.{FromEntry}
use Rattle.sql_meaning.specs.Refused.{unknown_table}
use Rattle.sql_meaning.specs.Scope.{header_of, scope_of}
use Rattle.sql_names.specs.Tables.{AreNumbered, first_unknown}
use Rattle.sql_validator.proofs.Resolving.{is_refused, is_resolved, types-small}
use Rattle.sql_validator.proofs.validator.resolved.Goals as goal

pub resolved_over-requires-clause-numbered : goal.resolved_over-requires-clause-numbered
resolved_over-requires-clause-numbered c =
    types-small c.args.schema.now c.as_slice-from.result.now c.as_slice.result.now c.requires.valid c.if-from.false (c.as_slice.ensures ∙ c.in_ok-scope.ensures)

pub returns-in-Ok-resolved_over-clause-made : goal.returns-in-Ok-resolved_over-clause-made
returns-in-Ok-resolved_over-clause-made c =
    let F : List FromEntry → Type 0 = λ from. length from ≤ FROM_LIMIT in
    let K : List FromEntry → Type 0 = λ from. first_unknown c.args.schema.now from ≡ None in
    let N : List FromEntry → Type 0 = λ from. AreNumbered c.args.schema.now from c.in-Ok.tables in
    is_resolved c.args.schema.now c.args.before c.args.select.now c.in-Ok.tables c.as_slice.result.now c.in-Ok-resolved_over.made
    (c.as_slice.ensures ∙ c.in_ok-scope.ensures ∙ ap (map (header_of c.args.schema.now)) c.as_slice-from.ensures)
    (subst K c.as_slice-from.ensures c.in-Ok.ensures.known) (subst F c.as_slice-from.ensures c.if-from.false) (subst N c.as_slice-from.ensures c.in-Ok.ensures.numbers)
    c.in-Ok-resolved_over.ensures.accepted c.in-Ok-resolved_over.ensures.made

pub returns-in-Err-resolved_over-clause-refused : goal.returns-in-Err-resolved_over-clause-refused
returns-in-Err-resolved_over-clause-refused c = λ other.
    let F : List FromEntry → Type 0 = λ from. length from ≤ FROM_LIMIT in
    let K : List FromEntry → Type 0 = λ from. first_unknown c.args.schema.now from ≡ None in
    is_refused c.args.schema.now c.args.before c.args.select.now c.as_slice.result.now c.in-Err-resolved_over.refusal
    (c.as_slice.ensures ∙ c.in_ok-scope.ensures ∙ ap (map (header_of c.args.schema.now)) c.as_slice-from.ensures)
    (subst K c.as_slice-from.ensures c.in-Ok.ensures.known) (subst F c.as_slice-from.ensures c.if-from.false)
    (c.in-Err-resolved_over.ensures.refused other)

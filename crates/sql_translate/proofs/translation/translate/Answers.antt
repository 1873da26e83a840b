use Rattle.std.proofs.Common.{◌≡◌, ◌∙◌, ap, sym, length, map, Some}
use mathlib.Core.Path.{ap₂}
use Rattle.cal_rel.specs.Tree.{tree_of}
use Rattle.sql_tree.specs.declared.select.FromEntry.{FromEntry}
use Rattle.sql_algebra.specs.Algebra.{algebra_over, from_tree}
use Rattle.sql_meaning.specs.Scope.{header_of, number_of}
use Rattle.sql_names.specs.Tables.{AreNumbered}
use Rattle.sql_translate.proofs.Accepted.{accepted-small, means-select, numbered-counted}
use Rattle.sql_translate.proofs.translation.translate.Goals as goal

pub from_tree-requires-clause-small : goal.from_tree-requires-clause-small
from_tree-requires-clause-small c =
    accepted-small c.args.schema.now c.args.checked.now c.as_slice-from.result.now c.as_slice-scope.result.now c.requires.valid c.requires.accepted c.as_slice-from.ensures
    (c.as_slice-scope.ensures ∙ c.in_ok-scope.ensures)

pub from_tree-requires-clause-counted : goal.from_tree-requires-clause-counted
from_tree-requires-clause-counted c =
    ap length c.as_slice.ensures
    ∙ numbered-counted c.args.schema.now c.args.checked.now.select.from c.args.checked.now.tables c.requires.accepted.checked.tables
    ∙ sym (ap length c.as_slice-from.ensures)

pub tree_over-requires : goal.tree_over-requires
tree_over-requires c =
    accepted-small c.args.schema.now c.args.checked.now c.as_slice-from.result.now c.as_slice-scope.result.now c.requires.valid c.requires.accepted c.as_slice-from.ensures
    (c.as_slice-scope.ensures ∙ c.in_ok-scope.ensures)

pub order_keys-requires-clause-small : goal.order_keys-requires-clause-small
order_keys-requires-clause-small c =
    accepted-small c.args.schema.now c.args.checked.now c.as_slice-from.result.now c.as_slice-scope.result.now c.requires.valid c.requires.accepted c.as_slice-from.ensures
    (c.as_slice-scope.ensures ∙ c.in_ok-scope.ensures)

pub returns-clause-means : goal.returns-clause-means
returns-clause-means c =
    let are : AreNumbered c.args.schema.now c.as_slice-from.result.now c.as_slice.result.now =
    ap (map (λ n. Some n)) c.as_slice.ensures ∙ c.requires.accepted.checked.tables ∙ sym (ap (map (λ (entry : FromEntry). number_of c.args.schema.now entry.table)) c.as_slice-from.ensures) in
    means-select c.args.schema.now c.requires.accepted.before c.args.checked.now.select (tree_of c.in_ok-tree.tree) c.requires.valid c.requires.formed c.requires.accepted.checked.accepted
    (c.in_ok-tree.ensures
    ∙ ap₂ (λ hs t. algebra_over hs c.args.checked.now.select t)
    (c.as_slice-scope.ensures ∙ c.in_ok-scope.ensures ∙ ap (map (header_of c.args.schema.now)) c.as_slice-from.ensures)
    (c.in_ok-joined.ensures c.args.schema.now are (c.as_slice-scope.ensures ∙ c.in_ok-scope.ensures) ∙ ap (from_tree c.args.schema.now) c.as_slice-from.ensures))

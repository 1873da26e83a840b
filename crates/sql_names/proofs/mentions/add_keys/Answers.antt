use Rattle.std.proofs.Common.{◌∙◌, ◌++◌, ap, sym, map}
use Rattle.sql_tree.specs.declared.select.OrderKey.{OrderKey}
use Rattle.sql_meaning.specs.Mentions.{column_mention, named_by}
use Rattle.sql_names.proofs.Mentioned.{flat-whole, map-flat_map}
use Rattle.sql_names.proofs.mentions.add_keys.Goals as goal

pub returns : goal.returns
returns c =
    flat-whole (λ (key : OrderKey). map (column_mention c.args.scope.now) (named_by key.by)) c.args.keys.now c.loop-key.key-index c.args.all.now c.loop-key.all c.loop-key-test.false c.loop-key.invariant
    ∙ ap (λ ms. c.args.all.now ++ ms) (sym (map-flat_map (column_mention c.args.scope.now) (λ (key : OrderKey). named_by key.by) c.args.keys.now))

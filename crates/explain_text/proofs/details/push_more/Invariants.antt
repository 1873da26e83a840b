use Rattle.std.proofs.Common.{◌≡◌, ◌++◌, take}
use Rattle.std.specs.Prelude.{string_bytes}
use Rattle.script_text.specs.Values.{more}
use Rattle.explain_text.proofs.details.push_more.Given as goal

abbrev pub invariant-loop-item : goal.invariant-loop-item
invariant-loop-item g l = string_bytes l.out ≡ string_bytes l.initial.out ++ more g.T.Print.text (take l.item-index l.items)

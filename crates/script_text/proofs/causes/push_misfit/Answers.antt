use Rattle.std.proofs.Common.{◌∙◌, ◌++◌, ℤ, ap, codes, string_bytes}
use Rattle.std.specs.Int.{w128}
use Rattle.std.specs.Prelude.{decimal}
use Rattle.std.proofs.lemmas.Int.{to_z-of_z}
use Rattle.std.proofs.lemmas.Result.{on_ok_weaker}
use Rattle.script_text.specs.Values.{number_text}
use Rattle.script_text.proofs.PrintLemmas.{three_pieces}
use Rattle.script_text.proofs.causes.push_misfit.Goals as goal

pub returns : goal.returns
returns c =
    let lo = ap (λ (n : ℤ). string_bytes c.push_counted.new.out ++ (codes " lo " ++ number_text n)) (to_z-of_z w128 c.args.lo c.ranges.lo) in
    let hi = ap (λ (n : ℤ). string_bytes c.push_numbered.new.out ++ (codes " hi " ++ number_text n)) (to_z-of_z w128 c.args.hi c.ranges.hi) in
    on_ok_weaker c.push_numbered-2.result
    (λ last. three_pieces (string_bytes c.args.out.now) (codes "MayNotFit place " ++ decimal c.args.place) (codes " lo " ++ number_text c.args.lo) (codes " hi " ++ number_text c.args.hi)
    (string_bytes c.push_counted.new.out) (string_bytes c.push_numbered.new.out) (string_bytes c.push_numbered-2.new.out) c.in_ok-push_counted.ensures (c.in_ok-push_numbered.ensures ∙ lo) (last ∙ hi))
    c.push_numbered-2.ensures

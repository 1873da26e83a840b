use Rattle.std.proofs.Common.{◌≡◌, true, ◌∙◌, sym, true≢false}
use Rattle.row_exec.proofs.SplitLemmas.{rest-equation}
use Rattle.row_exec.proofs.split.rest_of_equation.Goals as goal

pub returns : goal.returns
returns c =
    rest-equation c.args.width c.args.on.now c.requires.left c.requires.right c.requires.is
    (λ e. let some : c.is_empty.result ≡ true = c.is_empty.ensures.1 (c.in_ok-pairs.ensures ∙ e) in true≢false (sym some ∙ c.if-is_empty.false))

use Rattle.std.proofs.Common.{◌≡◌, drop}
use Rattle.std.specs.List.{fold}
use Rattle.search_firings.specs.Digest.{mixed, expr_digest}
use Rattle.search_firings.proofs.digest.items_digest.Given as goal

abbrev pub invariant-loop-item : goal.invariant-loop-item
invariant-loop-item l = fold (λ d e. mixed d (expr_digest e)) l.digest (drop l.item-index l.items) ≡ fold (λ d e. mixed d (expr_digest e)) 11 l.items

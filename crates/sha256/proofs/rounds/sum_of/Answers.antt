use Rattle.std.proofs.Common.{ℕ, get_or, rules}
use Rattle.sha256.specs.Functions.{add}
use Rattle.sha256.proofs.Steps.{from_fn_items, sums_made}
use Rattle.sha256.proofs.rounds.sum_of.Goals as goal

pub returns : goal.returns
returns c =
    sums_made c.args.s c.args.t _ c.from_fn.ensures.items.long
    (from_fn_items _ (λ (k : ℕ). add (get_or c.args.s k 0) (get_or c.args.t k 0)) _ (λ i y q k. search rules) _ 0 8 c.from_fn.ensures.items.each)

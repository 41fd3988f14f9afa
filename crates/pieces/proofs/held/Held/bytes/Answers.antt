use Rattle.std.proofs.Common.{ℕ, take, ap}
use Rattle.pieces.specs.Waiting.{held_in}
use Rattle.pieces.proofs.held.Held.bytes.Goals as goal

pub returns : goal.returns
unfolding held_in
returns c = ap (λ (n : ℕ). take n c.args.self.now.bytes) c.from.ensures

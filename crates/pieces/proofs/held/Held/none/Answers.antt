use Rattle.std.proofs.Common.{refl}
use Rattle.pieces.specs.Waiting.{held_in}
use Rattle.pieces.proofs.held.Held.none.Goals as goal

pub returns : goal.returns
unfolding held_in
returns c = refl

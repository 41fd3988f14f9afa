-- The theorem of proofs/Reached.antt.
use Rattle.speakall.proofs.Reached.{reached}
use Rattle.speakall.proofs.limit_reached.Goals as goal

pub returns : goal.returns
returns c = reached

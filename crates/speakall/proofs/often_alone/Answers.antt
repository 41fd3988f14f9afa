-- The theorem of proofs/Alone.antt.
use Rattle.speakall.proofs.Alone.{often_alone}
use Rattle.speakall.proofs.often_alone.Goals as goal

pub returns : goal.returns
returns c = often_alone

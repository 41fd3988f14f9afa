-- The theorem of proofs/Limit.antt.
use Rattle.speakall.proofs.Limit.{no_more}
use Rattle.speakall.proofs.no_more.Goals as goal

pub returns : goal.returns
returns c = no_more

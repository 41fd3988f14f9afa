-- The theorem of proofs/Whole.antt.
use Rattle.speakall.proofs.Whole.{whole}
use Rattle.speakall.proofs.whole_promise.Goals as goal

pub returns : goal.returns
returns c = whole

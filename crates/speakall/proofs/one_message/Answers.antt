-- The theorem of proofs/Whole.antt.
use Rattle.speakall.proofs.Whole.{one_message}
use Rattle.speakall.proofs.one_message.Goals as goal

pub returns : goal.returns
returns c = one_message

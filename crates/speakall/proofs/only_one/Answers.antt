-- The theorem of proofs/Words.antt.
use Rattle.speakall.proofs.Words.{only_one}
use Rattle.speakall.proofs.only_one.Goals as goal

pub returns : goal.returns
returns c = only_one

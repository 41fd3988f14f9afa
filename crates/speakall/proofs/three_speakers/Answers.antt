-- The theorem of proofs/Example.antt.
use Rattle.speakall.proofs.Example.{three_speakers}
use Rattle.speakall.proofs.three_speakers.Goals as goal

pub returns : goal.returns
returns c = three_speakers

-- The theorem of proofs/Meet.antt.
use Rattle.speakall.proofs.Meet.{seldom_meet}
use Rattle.speakall.proofs.seldom_meet.Goals as goal

pub returns : goal.returns
returns c = seldom_meet

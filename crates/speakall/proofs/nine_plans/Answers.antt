-- The theorem of proofs/Example.antt.
use Rattle.speakall.proofs.Example.{nine_plans}
use Rattle.speakall.proofs.nine_plans.Goals as goal

pub returns : goal.returns
returns c = nine_plans

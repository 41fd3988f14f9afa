-- A word that stops gives the answer; else one word more is kept.
use Rattle.plan_words.proofs.Reading.{held_more}
use Rattle.plan_words.proofs.request.read_words.Goals as goal

pub loop-i-preserved : goal.loop-i-preserved
loop-i-preserved c = held_more c.args.words.now c.loop-i.i _ _ _ _ _ c.loop-i-test.true c.in-Some.ensures c.loop-i.invariant

-- From what is heard one message fits each speaker (one_message), and so the whole promise holds (whole).
-- Idea: the words heard of a speaker are sound, as many as its message has numbers, or more, and its message lies on all of them: so does no other.
use Rattle.std.proofs.Common.{arith}
use Rattle.speakall.specs.Plan.{size}
use Rattle.speakall.specs.Frame.{got}
use Rattle.speakall.specs.Promise.{OneMessage, Main}
use Rattle.speakall.proofs.Limit.{no_more}
use Rattle.speakall.proofs.Words.{only_one, agrees_off}
use Rattle.speakall.proofs.Heard.{own-agrees, own-sound}
use Rattle.speakall.proofs.Alone.{often_alone}

pub one_message : OneMessage
one_message c good ss frame s here m lm bm fits =
    let ws = got c ss s.plan in
    let own = own-agrees c.q ss s here 0 c.q in
    let f = frame.plans s here in
    only_one c.q good.4 ws (own-sound c.q ss s here 0 c.q c.q (omega arith)) (size c) 0 (omega (arith, often_alone c good ss frame s here)) m s.message lm f.1 bm f.2 (
    omega (arith, agrees_off m ws fits)) (omega (arith, agrees_off s.message ws own))

pub whole : Main
whole c good = record {
  all_read = λ ss frame s here. (own-agrees c.q ss s here 0 c.q, one_message c good ss frame s here);
  no_more = no_more c good;
}

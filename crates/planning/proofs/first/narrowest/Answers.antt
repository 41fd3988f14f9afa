-- The first side with a channel that serves has the fewest slots; after the last side there is none.
use Rattle.std.proofs.Common.{refl}
use Rattle.planning.proofs.Search.{narrower_none, narrower_more, narrower_all, narrower_found}
use Rattle.planning.proofs.first.narrowest.Goals as goal

pub loop-q-init : goal.loop-q-init
loop-q-init c = narrower_none c.args.wish

pub returns-in-Some : goal.returns-in-Some
returns-in-Some c =
    narrower_found c.args.wish c.args.sides.now c.loop-q.q-index c.requires c.loop-q-test.true _ c.in-Some.ensures c.loop-q.invariant

pub loop-q-preserved : goal.loop-q-preserved
loop-q-preserved c =
    narrower_more c.args.wish c.args.sides.now c.loop-q.q-index c.requires c.loop-q-test.true c.in_default.ensures c.loop-q.invariant

pub returns : goal.returns
returns c =
    (refl, narrower_all c.args.wish c.args.sides.now c.loop-q.q-index c.requires c.loop-q-test.false c.loop-q.invariant)

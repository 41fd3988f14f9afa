-- From one side to the next no channel lies between.
use Rattle.planning.proofs.Sides.{side_read}
use Rattle.planning.proofs.Search.{list_none, list_next_side, list_all}
use Rattle.planning.proofs.list.gathered.Goals as goal

pub loop-q-init : goal.loop-q-init
loop-q-init c = simp c.new-found.ensures.items (list_none c.args.wish)

pub add_side-requires : goal.add_side-requires
add_side-requires c =
    let e = side_read c.args.sides.now c.loop-q.q-index c.requires c.loop-q-test.true in
    simp e c.loop-q.invariant

pub loop-q-preserved : goal.loop-q-preserved
loop-q-preserved c =
    let e = side_read c.args.sides.now c.loop-q.q-index c.requires c.loop-q-test.true in
    list_next_side c.args.wish c.args.sides.now c.loop-q.q-index _ c.requires c.loop-q-test.true (simp e at c.in_ok-add_side.ensures)

pub returns : goal.returns
returns c =
    list_all c.args.wish c.args.sides.now c.loop-q.q-index _ c.requires c.loop-q-test.false c.loop-q.invariant

-- A channel that serves is put last; one that does not is passed.
use Rattle.std.proofs.Common.{vec_items}
use Rattle.planning.specs.Wishes.{settings_of}
use Rattle.planning.proofs.Search.{list_passed, list_pushed}
use Rattle.planning.proofs.list.add_side.Goals as goal
use Rattle.planning.proofs.list.add_side.Goals.{in-Some+in_ok-push, in_default}

pub loop-d-preserved : goal.loop-d-preserved
loop-d-preserved c =
    elim c.match-serving.branch [
      | in-Some+in_ok-push w ↦
          let e = w.in-Some.ensures in
          simp (w.found-is, w.in_ok-push.ensures.items)
          (list_pushed c.args.wish c.args.q c.loop-d.d (vec_items c.loop-d.found) w.in-Some.channel e.0 e.1 c.loop-d.invariant)
      | in_default w ↦
          simp w.found-is (list_passed c.args.wish c.args.q c.loop-d.d (settings_of (vec_items c.loop-d.found)) w.in_default.ensures c.loop-d.invariant)
    ]

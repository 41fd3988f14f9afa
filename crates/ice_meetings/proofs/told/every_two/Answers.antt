use Rattle.std.proofs.lemmas.List.{nil_from_length}
use Rattle.std.proofs.lemmas.Slice.{first_rest}
use Rattle.channels.specs.Settings.{settings}
use Rattle.std.proofs.Common.{vec_items, arith}
use Rattle.ice_meetings.specs.Meets.{lines_in}
use Rattle.ice_meetings.proofs.Pairs.{two_more, two_all}
use Rattle.ice_meetings.proofs.told.every_two.Goals as goal

pub loop-left-preserved : goal.loop-left-preserved
loop-left-preserved c =
    two_more (settings c.args.channel) c.args.numbers.now c.loop-left.left.now _ _ (lines_in (vec_items c.loop-left.lines)) _ (first_rest c.loop-left.left.now 0 (omega arith)) c.in_ok-meet_with.ensures c.loop-left.invariant

pub returns : goal.returns
returns c = two_all (settings c.args.channel) c.args.numbers.now c.loop-left.left.now (lines_in (vec_items c.loop-left.lines)) (nil_from_length c.loop-left.left.now (omega arith)) c.loop-left.invariant

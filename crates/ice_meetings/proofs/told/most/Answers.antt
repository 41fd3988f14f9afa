use Rattle.std.proofs.lemmas.List.{nil_from_length}
use Rattle.std.proofs.Common.{arith}
use Rattle.std.proofs.lemmas.Slice.{first_rest}
use Rattle.channels.specs.Settings.{settings}
use Rattle.ice_meetings.proofs.Counting.{most_more, most_all}
use Rattle.ice_meetings.proofs.told.most.Goals as goal

pub loop-left-preserved : goal.loop-left-preserved
loop-left-preserved c =
    most_more c.args.limit (settings c.args.channel) c.args.numbers.now c.loop-left.left.now _ _ c.loop-left.top c.in_ok-top.top (first_rest c.loop-left.left.now 0 (omega arith)) c.in_ok-top.ensures c.loop-left.invariant

pub returns : goal.returns
returns c = most_all c.args.limit (settings c.args.channel) c.args.numbers.now c.loop-left.left.now c.loop-left.top (nil_from_length c.loop-left.left.now (omega arith)) c.loop-left.invariant

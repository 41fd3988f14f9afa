use Rattle.channels.specs.Settings.{settings}
use Rattle.ice_meetings.specs.Meets.{meets_in}
use Rattle.ice_meetings.proofs.Counting.{with_more, with_done, with_all}
use Rattle.ice_meetings.proofs.told.most_with.Goals as goal

pub returns-then-top-limit : goal.returns-then-top-limit
returns-then-top-limit c =
    with_done c.args.limit (meets_in (settings c.args.channel) c.args.number) c.args.others.now c.args.most c.loop-other.other-index c.loop-other.top c.if-top-limit.true c.loop-other.invariant

pub loop-other-preserved : goal.loop-other-preserved
loop-other-preserved c =
    with_more c.args.limit (meets_in (settings c.args.channel) c.args.number) c.args.others.now c.args.most c.loop-other.other-index c.loop-other.top _ c.min.result c.max-top.result c.loop-other-test.true c.in_ok-meeting.ensures.count c.min.ensures c.max-top.ensures c.loop-other.invariant

pub returns : goal.returns
returns c =
    with_all c.args.limit (meets_in (settings c.args.channel) c.args.number) c.args.others.now c.args.most c.loop-other.other-index c.loop-other.top c.loop-other-test.false c.loop-other.invariant

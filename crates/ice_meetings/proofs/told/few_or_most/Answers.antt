use Rattle.std.proofs.Common.{vec_items, rules}
use Rattle.channels.specs.Settings.{settings}
use Rattle.std.proofs.lemmas.Result.{IfOk-weaker}
use Rattle.ice_meetings.specs.Meets.{lines_in}
use Rattle.ice_meetings.proofs.Pairs.{few, many}
use Rattle.ice_meetings.proofs.told.few_or_most.Goals as goal

pub returns-then-numbers-le-FEW : goal.returns-then-numbers-le-FEW
returns-then-numbers-le-FEW c =
    IfOk-weaker c.every_two.result _ _ (λ v e. few (settings c.args.channel) c.args.numbers.now (lines_in (vec_items v)) c.if-numbers-le-FEW.true e) c.every_two.ensures

pub returns : goal.returns
returns c = many (settings c.args.channel) c.args.numbers.now (lines_in (vec_items c.push_line.new.lines)) c.if-numbers-le-FEW.false (search rules)

use Rattle.std.proofs.Common.{rules}
use Rattle.options.proofs.Sorting.{without_more, without_all}
use Rattle.options.proofs.others.Goals as goal

pub loop-text-preserved : goal.loop-text-preserved
loop-text-preserved c =
    without_more c.args.option.now c.args.texts.now c.loop-text.text-index c.text-item.result c.as_str.result.now c.loop-text-test.true c.text-item.is (search rules) _ _ c.in_ok-keep.ensures c.loop-text.invariant

pub returns : goal.returns
returns c = without_all c.args.option.now c.args.texts.now c.loop-text.text-index _ c.loop-text-test.false c.loop-text.invariant

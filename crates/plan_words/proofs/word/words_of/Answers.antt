-- One text more, and its word.
use Rattle.std.proofs.Common.{vec_items}
use Rattle.plan_words.proofs.Meant.{meant_more}
use Rattle.plan_words.proofs.word.words_of.Goals as goal

pub loop-text-preserved : goal.loop-text-preserved
loop-text-preserved c =
    simp c.in_ok-push.ensures.items
    (meant_more c.args.texts.now c.loop-text.text-index (vec_items c.loop-text.words) c.text-item.result c.from.result c.loop-text-test.true c.text-item.is (simp c.as_str.ensures.value at c.from.ensures) c.loop-text.invariant)

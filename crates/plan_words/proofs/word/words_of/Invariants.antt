-- The words so far are those of the texts so far.
use Rattle.std.proofs.Common.{vec_items}
use Rattle.plan_words.proofs.Meant.{MeantTo}
use Rattle.plan_words.proofs.word.words_of.Given as goal

abbrev pub invariant-loop-text : goal.invariant-loop-text
invariant-loop-text l = MeantTo l.texts l.text-index (vec_items l.words)

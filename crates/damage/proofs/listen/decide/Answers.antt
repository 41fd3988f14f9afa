-- Each way to an answer.
use Rattle.std.proofs.Common.{arith}
use Rattle.damage.proofs.Answering.{answer-few, answer-none, answer-read}
use Rattle.damage.proofs.listen.decide.Goals as goal
use Rattle.messages.proofs.Listening.{filled}
use Rattle.polynomials.proofs.Sound.{sound_wider}
use Rattle.speakall.proofs.Truth.{from_true}

pub returns-then-words-message : goal.returns-then-words-message
returns-then-words-message c = answer-few _ _ c.requires c.args.words.now _ c.if-words-message.true (filled _ _ (c.fill.ensures.after (λ y e. e)))

pub new-requires : goal.new-requires
new-requires c = sound_wider _ 251 c.args.words.now (omega (arith, c.requires)) (from_true _ c.if-not-is_sound.ensures)

pub returns-in-Some : goal.returns-in-Some
returns-in-Some c = let found = rw (c.new.ensures.words, c.new.ensures.spare) at c.in-Some.ensures in answer-read _ _ c.requires c.args.words.now _ _ c.if-words-message.false c.if-not-is_sound.ensures found.0 found.1

pub returns-in-None : goal.returns-in-None
returns-in-None c =
    let none = rw (c.new.ensures.words, c.new.ensures.spare) at c.in-None.ensures in
    answer-none _ _ c.requires c.args.words.now _ c.if-words-message.false none (filled _ _ (c.fill-in-None.ensures.after (λ y e. e)))

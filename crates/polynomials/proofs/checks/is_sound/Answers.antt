-- One word more from the end on.
use Rattle.std.proofs.Common.{◌≡◌, ◌<◌, [], ◌∷◌, ◌++◌, refl, sym, ◌∙◌, rules}
use Rattle.polynomials.proofs.Backward.{begin, end, passed, turn}
use Rattle.polynomials.proofs.Sound.{seen_more, seen_none, sound_more, sound_none, sound_off, sound_twice}
use Rattle.polynomials.proofs.checks.is_sound.Goals as goal
use Rattle.polynomials.proofs.checks.is_sound.Goals.{then-not-is_word-via-then-not-is_word, then-not-is_word-via-else-not-is_word+then-seen-part}

pub loop-word-init : goal.loop-word-init
loop-word-init c = let none = begin c.args.words.now in (refl, rw none seen_none, rw none (sound_none _))

pub loop-word-preserved : goal.loop-word-preserved
loop-word-preserved c =
    let xs = c.loop-word.yielded in
    let more : passed c.args.words.now (xs ++ (c.in-Some.field-0 ∷ [])) ≡ c.in-Some.field-0.now ∷ passed c.args.words.now xs = search (rules, turn) in
    let part : c.from-part.result < 256 = search rules in
    let below : c.in-Some.field-0.now.part < 256 = rw c.from-part.ensures at part in (
      search rules,
      seen_more _ _ c.in-Some.field-0.now _ more c.from-part.ensures _ c.loop-word.invariant.0 below c.loop-word.invariant.1,
      sound_more _ _ c.in-Some.field-0.now _ more c.from-part.ensures _ (sym (c.loop-word.invariant.1 _ below) ∙ (rw c.from-part.ensures at c.if-seen-part.false)) c.if-not-is_word.ensures c.loop-word.invariant.2,
    )

pub returns-then-not-is_word : goal.returns-then-not-is_word
returns-then-not-is_word c =
    let xs = c.loop-word.yielded in
    let more : passed c.args.words.now (xs ++ (c.in-Some.field-0 ∷ [])) ≡ c.in-Some.field-0.now ∷ passed c.args.words.now xs = search (rules, turn) in
    elim c.then-not-is_word.branch [
      | then-not-is_word-via-then-not-is_word w ↦ sound_off _ _ c.in-Some.field-0.now _ more c.from-part.ensures _ _ c.args.words.now refl w.if-not-is_word.ensures
      | then-not-is_word-via-else-not-is_word+then-seen-part w ↦
          let part : c.from-part.result < 256 = search rules in
          let below : c.in-Some.field-0.now.part < 256 = rw c.from-part.ensures at part in
          sound_twice _ _ c.in-Some.field-0.now _ more c.from-part.ensures _ _ c.args.words.now refl (sym (c.loop-word.invariant.1 _ below) ∙ (rw c.from-part.ensures at w.if-seen-part.true))
    ]

pub returns : goal.returns
returns c =
    let all : passed c.args.words.now c.loop-word.yielded ≡ c.args.words.now = search (rules, end) in
    sym (rw all at c.loop-word.invariant.2)

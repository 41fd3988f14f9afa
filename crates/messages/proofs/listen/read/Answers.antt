-- Each way to a reading.
use Rattle.std.proofs.Common.{ℕ, ◌≤◌, take, drop, sym, refl, ap, ◌∙◌, arith, rules}
use Rattle.messages.proofs.Listening.{found, none}
use Rattle.messages.proofs.listen.read.Goals as goal
use Rattle.messages.proofs.listen.read.Goals.{else-interpolate-via-then-interpolate+else-fits, else-interpolate-via-else-interpolate}
use Rattle.polynomials.proofs.Sound.{sound-take}
use Rattle.polynomials.specs.Heard.{word_of}
use Rattle.speakall.proofs.Truth.{from_true}
use Rattle.std.proofs.lemmas.List.{length-map}

pub returns-then-fits-clause-made : goal.returns-then-fits-clause-made
returns-then-fits-clause-made c =
    let first = c.split_at.ensures.front ∙ ap (λ (n : ℕ). take n c.args.words.now) c.fill.auto.self in
    let others = c.split_at.ensures.back ∙ ap (λ (n : ℕ). drop n c.args.words.now) c.fill.auto.self in
    let fitted = c.if-interpolate.ensures in (
      sym (length-map c.args.words.now word_of),
      refl,
      found _ _ c.args.words.now _ _ _ c.args.channel.narrow (search rules) (search rules) first others fitted.3 (rw c.parts.ensures at c.if-not-is_sound.ensures) c.if-fits.ensures,
    )

pub returns-clause-made : goal.returns-clause-made
returns-clause-made c =
    let first = c.split_at.ensures.front ∙ ap (λ (n : ℕ). take n c.args.words.now) c.fill.auto.self in
    let others = c.split_at.ensures.back ∙ ap (λ (n : ℕ). drop n c.args.words.now) c.fill.auto.self in
    let few : c.parts.result ≤ 251 = omega (arith, c.parts.ensures, c.args.channel.narrow) in (
      omega (arith, length-map c.args.words.now word_of, c.fill.auto.self),
      elim c.else-interpolate.branch [
        | else-interpolate-via-then-interpolate+else-fits w ↦
            let fitted = w.if-interpolate.ensures in
            none _ _ c.args.words.now _ _ _ c.args.channel.narrow (search rules) (search rules) first others fitted.3 fitted.2 w.if-fits.ensures
        | else-interpolate-via-else-interpolate w ↦
            let unfitted = w.if-interpolate.ensures in
            absurd (unfitted.1 c.split_at.ensures.front_len (rw c.split_at.ensures.front (sound-take _ 251 _ c.args.words.now few (from_true _ c.if-not-is_sound.ensures))))
      ],
    )

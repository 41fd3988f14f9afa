use Rattle.std.proofs.Common.{◌≡◌, [], ◌∷◌, ◌++◌, vec_items, refl, ap, ◌∙◌, rules}
use Rattle.channels.specs.Settings.{settings}
use Rattle.frames.proofs.Faults.{heard_more, refusal_never}
use Rattle.polynomials.proofs.Backward.{passed, turn}
use Rattle.frames.proofs.frame.Frame.speak_all.Goals as goal

pub loop-speaker-preserved : goal.loop-speaker-preserved
loop-speaker-preserved c =
    let xs = c.loop-speaker.yielded in
    let s = c.in-Some.speaker in
    let more : passed c.args.speakers.now (xs ++ (s ∷ [])) ≡ s.now ∷ passed c.args.speakers.now xs = search (rules, turn) in (
      c.speak.ensures.same ∙ c.loop-speaker.invariant.0,
      heard_more (settings c.args.self.now.channel) (settings c.loop-speaker.self.channel) _ _ s.now c.deref.result.now (ap settings c.loop-speaker.invariant.0) more c.deref.ensures.value
          (vec_items c.loop-speaker.self.slots) (vec_items c.speak.new.self.slots) c.in_ok-speak.ensures.cases c.loop-speaker.invariant.1,
    )

pub returns-in_err-speak-clause-heard : goal.returns-in_err-speak-clause-heard
returns-in_err-speak-clause-heard c =
    let xs = c.loop-speaker.yielded in
    let s = c.in-Some.speaker in
    let more : passed c.args.speakers.now (xs ++ (s ∷ [])) ≡ s.now ∷ passed c.args.speakers.now xs = search (rules, turn) in
    absurd (refusal_never (settings c.args.self.now.channel) (settings c.loop-speaker.self.channel) _ _ s.now c.deref.result.now (ap settings c.loop-speaker.invariant.0) more c.deref.ensures.value
    c.args.speakers.now _ _ refl c.requires.can c.in_err-speak.ensures.cases.0)

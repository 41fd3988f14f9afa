-- The slots of the code are what the statement says is heard: at first silence, and one speaker more at a time.
-- there_silent, silent_hears, said_hears. Assumes nothing.
use Rattle.std.proofs.Common.{◌≡◌, ℕ, zero, suc, ◌+◌, ◌*◌, ◌<◌, true, List, [], ◌∷◌, replicate, sym, refl, ap, ◌∙◌, subst, ⊎_elim}
use Rattle.std.proofs.lemmas.List.{get_or-replicate}
use Rattle.std.proofs.lemmas.Bool.{cases_eq, eq-eqb, ne_eqb}
use Rattle.frames.specs.declared.slot.Slot.{Slot}
use Rattle.frames.specs.declared.slot.Slot.TheVariants.{Silence, One, Noise}
use Rattle.frames.specs.Slots.{Hears, Said, joined, slot_in, slot_of, speaker, there_in}
use Rattle.frames.proofs.Places.{place_lt}
use Rattle.speakall.specs.Frame as statement
use Rattle.speakall.specs.Frame.{heard, word_at, with_one}
use Rattle.speakall.specs.Plan.{Channel, plan_of, slot_at}

pub there_silent : (n k : ℕ) → there_in n (replicate k Silence) ≡ true
unfolding there_in
there_silent n zero = refl
there_silent n (suc k) = there_silent n k

pub silent_hears : (c : Channel) → Hears c [] (replicate (c.q * c.q) Silence)
unfolding heard
silent_hears c x y h k = ap (slot_of c) (get_or-replicate (c.q * c.q) (x * c.q + y) Silence Silence (place_lt c.q x y h k))

slot_of-joined : (c : Channel) (n w : ℕ) (v : Slot) → slot_of c (joined n w v) ≡ with_one (plan_of c n) w (slot_of c v)
slot_of-joined c n w Silence = refl
slot_of-joined c n w (One m u) = refl
slot_of-joined c n w Noise = refl

pub said_hears : (c : Channel) (n : ℕ) (m : List ℕ) (before after : List Slot) → Said c.q (plan_of c n) n m c.q before after → (ss : List statement.Speaker) → Hears c ss before →
    Hears c (speaker c n m ∷ ss) after
unfolding heard
said_hears c n m before after s ss h x y l k =
    let at = slot_at c.q (plan_of c n) x in
    ⊎_elim
    (λ (e : at ≡ y). rw (eq-eqb at y e)
    (subst (λ (z : ℕ). slot_of c (slot_in c.q after x z) ≡ with_one (plan_of c n) (word_at m x) (heard c.q ss x z)) e
    (ap (slot_of c) (s.own x l) ∙ slot_of-joined c n (word_at m x) (slot_in c.q before x at) ∙ ap (with_one (plan_of c n) (word_at m x)) (h x at l (subst (λ (z : ℕ). z < c.q) (sym e) k)))))
    (λ d. rw (ne_eqb at y d) (ap (slot_of c) (s.others x y l k d) ∙ h x y l k)) (cases_eq at y)

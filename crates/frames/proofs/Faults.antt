-- The speakers of a frame one after the other: the first that cannot speak, and what is heard of those that can.
-- refusal_here, refusal_more, refusal_none, heard_more, refusal_never. Assumes nothing.
use Rattle.std.proofs.Common.{◌≡◌, ℕ, zero, suc, ◌+◌, ◌<◌, ◌≤◌, List, [], ◌∷◌, length, get_or, drop, Some, None, vec_items, Option, sym, refl, ap, ◌∙◌, subst, ap₂}
use Rattle.channels.specs.declared.fault.Fault.{Fault}
use Rattle.std.proofs.lemmas.List.{at_drop_more, at_drop_all}
use Rattle.frames.specs.declared.speaker.Speaker.{Speaker}
use Rattle.frames.specs.declared.slot.Slot.{Slot}
use Rattle.frames.specs.Slots.{Hears, Spoke, refusal, speaker}
use Rattle.frames.specs.Speakers.{or_else, refusal_in, speakers_in}
use Rattle.speakall.specs.Frame as statement
use Rattle.speakall.specs.Plan.{Channel}

none_left : (o p : Option Fault) → or_else o p ≡ None → o ≡ None
none_left None p e = refl
none_left (Some f) p e = e

none_right : (o p : Option Fault) → or_else o p ≡ None → p ≡ None
none_right None p e = e
none_right (Some f) p e = cc

module _ (c : Channel) (ss : List Speaker) (i : ℕ) (s : Speaker) (h : i < length ss) (is : s ≡ get_or ss i s) where
  refusal-step : refusal_in c (drop i ss) ≡ or_else (refusal c s.number (vec_items s.message)) (refusal_in c (drop (i + 1) ss))
  unfolding refusal_in
  refusal-step =
      at_drop_more (refusal_in c) ss i s h ∙ ap (λ (z : Speaker). or_else (refusal c z.number (vec_items z.message)) (refusal_in c (drop (i + 1) ss))) (sym is)

  -- this one cannot speak, and nobody before it
  pub refusal_here : (f : Fault) (m : List ℕ) → m ≡ vec_items s.message → refusal c s.number m ≡ Some f → refusal_in c (drop i ss) ≡ refusal_in c ss → Some f ≡ refusal_in c ss
  refusal_here f m e r t = sym (ap (λ (o : Option Fault). or_else o (refusal_in c (drop (i + 1) ss))) (ap (refusal c s.number) (sym e) ∙ r)) ∙ sym refusal-step ∙ t

  -- this one can speak
  pub refusal_more : (m : List ℕ) → m ≡ vec_items s.message → refusal c s.number m ≡ None → refusal_in c (drop i ss) ≡ refusal_in c ss → refusal_in c (drop (i + 1) ss) ≡ refusal_in c ss
  refusal_more m e r t = sym (ap (λ (o : Option Fault). or_else o (refusal_in c (drop (i + 1) ss))) (ap (refusal c s.number) (sym e) ∙ r)) ∙ sym refusal-step ∙ t

pub refusal_none : (c : Channel) (ss : List Speaker) (i : ℕ) → length ss ≤ i → refusal_in c (drop i ss) ≡ None
unfolding refusal_in
refusal_none c ss i h = at_drop_all (refusal_in c) ss i h

-- where nobody is refused, none of the last ones is
refused_nobody : (c : Channel) (ss : List Speaker) (n : ℕ) → refusal_in c ss ≡ None → refusal_in c (drop n ss) ≡ None
unfolding refusal_in
refused_nobody c ss zero r = r
refused_nobody c [] (suc n) r = r
refused_nobody c (s ∷ ss) (suc n) r = refused_nobody c ss n (none_right _ _ r)

-- one speaker, before the others
module _ (c d : Channel) (ss rest : List Speaker) (s : Speaker) (m : List ℕ) (e : d ≡ c) (is : ss ≡ s ∷ rest) (em : m ≡ vec_items s.message) where
  -- it speaks too
  pub heard_more : (before after : List Slot) → Spoke d s.number m before after → Hears c (speakers_in c rest) before → Hears c (speakers_in c ss) after
  heard_more before after spoke h =
      let said = subst (λ (x : Channel). Spoke x s.number m before after) e spoke in
      let own = ap (λ (x : List ℕ). speaker c s.number x ∷ speakers_in c rest) em ∙ sym (ap (speakers_in c) is) in
      subst (λ (l : List statement.Speaker). Hears c l after) own (said.heard (speakers_in c rest) h)

  -- where nobody of all is refused, its refusal cannot come
  pub refusal_never : (all : List Speaker) (n : ℕ) (f : Fault) → ss ≡ drop n all → refusal_in c all ≡ None → refusal d s.number m ≡ Some f → ⊥
  unfolding refusal_in
  refusal_never all n f last r t =
      let left : refusal_in c (s ∷ rest) ≡ None = sym (ap (refusal_in c) is) ∙ ap (refusal_in c) last ∙ refused_nobody c all n r in
      let none : refusal c s.number (vec_items s.message) ≡ None = none_left _ _ left in
      let some : refusal c s.number (vec_items s.message) ≡ Some f = ap₂ (λ (x : Channel) (n : List ℕ). refusal x s.number n) (sym e) (sym em) ∙ t in
      cc

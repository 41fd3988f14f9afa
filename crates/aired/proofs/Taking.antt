-- Records put into the slots of a frame, one record after the other.
-- one_here; placed_more, outside_more, outside_here, placed_all, outside_all. Assumes nothing.
use Rattle.std.proofs.Common.{◌≡◌, ℕ, ◌+◌, ◌*◌, ◌^◌, ◌<◌, ◌≤◌, Bool, true, false, cond, ◌&&◌, ltb, List, length, get_or, drop, set, Some, None, Ok, Err, Result, sym, refl, ap, ◌∙◌, MatchResult}
use Rattle.std.proofs.lemmas.List.{at_drop_more, at_drop_all}
use Rattle.std.proofs.lemmas.Bool.{and_parts, eq-eqb}
use Rattle.channels.specs.declared.fault.Fault.{Fault}
use Rattle.channels.specs.declared.fault.Fault.TheVariants.{Order, Sender}
use Rattle.frames.specs.declared.slot.Slot.{Slot}
use Rattle.frames.specs.declared.slot.Slot.TheVariants.{One, Noise}
use Rattle.frames.specs.Slots.{is_there, misplaced}
use Rattle.frames.specs.Speakers.{or_else}
use Rattle.records.specs.declared.heard.Heard.{Heard}
use Rattle.records.specs.declared.heard.What.{What}
use Rattle.records.specs.declared.heard.What.TheVariants.{Word, Noise as NoiseHeard}
use Rattle.speakall.specs.Plan.{Channel}
use Rattle.words.specs.Counting.{is_counted, sender_in, word_in}
use Rattle.aired.specs.Aired.{outside, outside_one, placed, placed_one, taken_as, taken_for}

counted_there : (c : Channel) (f x y : ℕ) (bytes : List ℕ) → is_counted c f x y bytes ≡ true → ltb (sender_in bytes) (c.q ^ c.d) ≡ true
unfolding is_counted
counted_there c f x y bytes t =
    let a = and_parts _ _ t in
    let b = and_parts _ _ a.0 in
    let d = and_parts _ _ b.0 in
    (and_parts _ _ d.0).1

-- whatever a record is taken for, it is no word of a sender that isn't there
taken_for_there : (c : Channel) (f x y : ℕ) (what : What) → is_there (c.q ^ c.d) (taken_for c f x y what) ≡ true
taken_for_there c f x y NoiseHeard = refl
taken_for_there c f x y (Word bytes) = go (is_counted c f x y bytes) (counted_there c f x y bytes)
  where
    go : (b : Bool) → (b ≡ true → ltb (sender_in bytes) (c.q ^ c.d) ≡ true) → is_there (c.q ^ c.d) (cond b (One (sender_in bytes) (word_in bytes)) Noise) ≡ true
    go true t = t refl
    go false t = refl

taken_there : (c : Channel) (h : Heard) → is_there (c.q ^ c.d) (taken_as c h) ≡ true
taken_there c h = taken_for_there c h.frame h.part h.slot h.what

in_place : (b t : Bool) → t ≡ true → cond b (cond t None (Some Sender)) (Some Order) ≡ None → b ≡ true
in_place true t e m = refl
in_place false t e m = cc

out_of_place : (b t : Bool) (f : Fault) → t ≡ true → cond b (cond t None (Some Sender)) (Some Order) ≡ Some f → (b ≡ false) × (Some Order ≡ Some f)
out_of_place true true f e m = cc
out_of_place true false f e m = cc
out_of_place false t f e m = (refl, m)

-- one of this frame is put into its slot
one_put : (c g : Channel) (f : ℕ) (h : Heard) (s : List Slot) (v : Slot) → h.frame ≡ f → g ≡ c → v ≡ taken_as g h → misplaced c h.part h.slot v ≡ None →
    (outside_one c f h ≡ None) × (set s (h.part * c.q + h.slot) v ≡ placed_one c f h s)
one_put c g f h s v e same t' m =
    let t : v ≡ taken_as c h = t' ∙ ap (λ (z : Channel). taken_as z h) same in
    let b = in_place _ _ (taken_there c h) (rw t at m) in (
      ap (λ t. cond t (cond (ltb h.part c.q && ltb h.slot c.q) None (Some Order)) None) (eq-eqb h.frame f e) ∙ ap (λ t. cond t None (Some Order)) b,
      ap (set s (h.part * c.q + h.slot)) t ∙ sym (ap (λ t. cond t (set s (h.part * c.q + h.slot) (taken_as c h)) s) (eq-eqb h.frame f e)),
    )

-- or its slot isn't there
one-not : (c g : Channel) (f : ℕ) (h : Heard) (v : Slot) (fault : Fault) → h.frame ≡ f → g ≡ c → v ≡ taken_as g h → misplaced c h.part h.slot v ≡ Some fault → outside_one c f h ≡ Some fault
one-not c g f h v fault e same t' m =
    let t : v ≡ taken_as c h = t' ∙ ap (λ (z : Channel). taken_as z h) same in
    let o = out_of_place _ _ fault (taken_there c h) (rw t at m) in
    ap (λ t. cond t (cond (ltb h.part c.q && ltb h.slot c.q) None (Some Order)) None) (eq-eqb h.frame f e) ∙ ap (λ t. cond t None (Some Order)) o.0 ∙ o.1

-- what comes of a record of this frame, whichever it is
pub one_here : (c g : Channel) (f : ℕ) (h : Heard) (s after : List Slot) (v : Slot) (r : Result (Unit {0}) Fault) → h.frame ≡ f → g ≡ c → v ≡ taken_as g h →
    MatchResult r (λ _. (misplaced c h.part h.slot v ≡ None) × (after ≡ set s (h.part * c.q + h.slot) v)) (λ e. (misplaced c h.part h.slot v ≡ Some e) × (after ≡ s)) →
    MatchResult r (λ _. (outside_one c f h ≡ None) × (after ≡ placed_one c f h s)) (λ e. outside_one c f h ≡ Some e)
one_here c g f h s after v (Ok u) e same t m = let p = one_put c g f h s v e same t m.0 in (p.0, m.1 ∙ p.1)
one_here c g f h s after v (Err fault) e same t m = one-not c g f h v fault e same t m.0

module _ (c g : Channel) (same : g ≡ c) (f : ℕ) (hs : List Heard) (i : ℕ) (d h : Heard) (b : i < length hs) (is : h ≡ get_or hs i d) where
  outside-step : outside c f (drop i hs) ≡ or_else (outside_one c f h) (outside c f (drop (i + 1) hs))
  unfolding outside
  outside-step = at_drop_more (outside c f) hs i d b ∙ ap (λ (z : Heard). or_else (outside_one c f z) (outside c f (drop (i + 1) hs))) (sym is)

  pub placed_more : (s after : List Slot) → after ≡ placed_one g f h s → placed c f (drop (i + 1) hs) after ≡ placed c f (drop i hs) s
  unfolding placed
  placed_more s after e =
      ap (placed c f (drop (i + 1) hs)) (e ∙ ap (λ (z : Channel). placed_one z f h s) same) ∙ sym (at_drop_more (λ l. placed c f l s) hs i d b ∙ ap (λ (z : Heard). placed c f (drop (i + 1) hs) (placed_one c f z s)) (sym is))

  pub outside_more : outside_one g f h ≡ None → outside c f (drop (i + 1) hs) ≡ outside c f (drop i hs)
  outside_more e = sym (outside-step ∙ ap (λ o. or_else o (outside c f (drop (i + 1) hs))) (ap (λ (z : Channel). outside_one z f h) (sym same) ∙ e))

  pub outside_here : (fault : Fault) → outside_one g f h ≡ Some fault → outside c f (drop i hs) ≡ Some fault
  outside_here fault e = outside-step ∙ ap (λ o. or_else o (outside c f (drop (i + 1) hs))) (ap (λ (z : Channel). outside_one z f h) (sym same) ∙ e)

pub placed_all : (c : Channel) (f : ℕ) (hs : List Heard) (i : ℕ) (s : List Slot) → length hs ≤ i → placed c f (drop i hs) s ≡ s
unfolding placed
placed_all c f hs i s h = at_drop_all (λ l. placed c f l s) hs i h

pub outside_all : (c : Channel) (f : ℕ) (hs : List Heard) (i : ℕ) → length hs ≤ i → outside c f (drop i hs) ≡ None
unfolding outside
outside_all c f hs i h = at_drop_all (outside c f) hs i h

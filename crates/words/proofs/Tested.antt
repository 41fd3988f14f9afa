-- What counts, as the test says it.
-- MatchOption-then_some, tested_none, tested_some. Assumes nothing.
use Rattle.std.proofs.Common.{◌≡◌, ℕ, ◌%◌, ◌^◌, ◌≤◌, Bool, true, false, ◌&&◌, eqb, ltb, List, Option, MatchOption, subst, sym, refl, arith}
use Rattle.std.specs.Bool.{then_some}
use Rattle.std.specs.Str.{bytes_eq}
use Rattle.std.proofs.lemmas.Slice.Eq.{bytes_eq-Decides}
use Rattle.std.proofs.lemmas.Bool.{and_parts, and_from, ltb-true, lt-ltb, eqb-true, eq-eqb}
use Rattle.speakall.specs.Plan.{Channel, slot_at, plan_of}
use Rattle.speakall.specs.Frame.{p}
use Rattle.words.specs.Bytes.{air_bytes}
use Rattle.words.specs.Counting.{Counts, sender_in, word_in, is_counted}
use Rattle.words.proofs.Said.{sender_read, word_read}

-- what a test gives by `then_some`
pub MatchOption-then_some : {A : Type 0} (r : Option A) (b : Bool) (x : A) (P : Type 0) (Q : A → Type 0) → r ≡ then_some b x → (b ≡ true → Q x) → (b ≡ false → P) → MatchOption r P Q
MatchOption-then_some r true x P Q e t f = subst (λ o. MatchOption o P Q) (sym e) (t refl)
MatchOption-then_some r false x P Q e t f = subst (λ o. MatchOption o P Q) (sym e) (f refl)

false_from : (b : Bool) → (b ≡ true → ⊥) → b ≡ false
false_from true n = absurd (n refl)
false_from false n = refl

module _ (c : Channel) (frame part slot : ℕ) (bs : List ℕ) where
  -- the test, of a sender and a word that need not be those in the bytes
  abbrev test : ℕ → ℕ → Bool
  test s w = bytes_eq bs (air_bytes s (frame % 256) w part) && ltb s (c.q ^ c.d) && ltb part c.q && eqb slot (slot_at c.q (plan_of c s) part) && ltb w p

  test_from : (s w : ℕ) → Counts c frame part slot bs s w → test s w ≡ true
  test_from s w k =
      and_from _ _ (and_from _ _ (and_from _ _ (and_from _ _ ((bytes_eq-Decides bs _).1 k.said) (lt-ltb _ _ k.speaks.there)) (lt-ltb _ _ k.speaks.in-part)) (eq-eqb _ _ k.speaks.in-slot)) (lt-ltb _ _ k.below)

  counts_from : (s w : ℕ) → test s w ≡ true → Counts c frame part slot bs s w
  counts_from s w t =
      let a = and_parts _ (ltb w p) t in
      let b = and_parts _ (eqb slot (slot_at c.q (plan_of c s) part)) a.0 in
      let d = and_parts _ (ltb part c.q) b.0 in
      let e = and_parts _ (ltb s (c.q ^ c.d)) d.0 in
      record {
        said = (bytes_eq-Decides bs _).0 e.0;
        speaks = record { there = ltb-true _ _ e.1; in-part = ltb-true _ _ d.1; in-slot = eqb-true _ _ b.1 };
        below = ltb-true _ _ a.1;
      }

  pub tested_none : ((s w : ℕ) → Counts c frame part slot bs s w → ⊥) → is_counted c frame part slot bs ≡ false
  unfolding is_counted
  tested_none n = false_from _ (λ t. n _ _ (counts_from (sender_in bs) (word_in bs) t))

  pub tested_some : (s w : ℕ) → c.q ^ c.d ≤ 65536 → Counts c frame part slot bs s w → (is_counted c frame part slot bs ≡ true) × (s ≡ sender_in bs) × (w ≡ word_in bs)
  unfolding is_counted
  tested_some s w h k =
      let there = k.speaks.there in
      let below = k.below in
      let a = sender_read bs s (frame % 256) w part k.said (omega arith) in
      let b = word_read bs s (frame % 256) w part k.said (omega arith) in
      (rw (a, b) (test_from s w k), sym a, sym b)

-- What counts of bytes that are some word's.
-- Here, counts_here, counts_not. Assumes nothing.
use Rattle.std.proofs.Common.{◌≡◌, ℕ, ◌%◌, ◌^◌, ◌<◌, ◌≤◌, List, sym, ap, ◌∙◌, subst, arith}
use Rattle.speakall.specs.Plan.{Channel}
use Rattle.speakall.specs.Frame.{p}
use Rattle.words.specs.Bytes.{air_bytes}
use Rattle.words.specs.Counting.{Counts, Speaks}
use Rattle.words.proofs.Said.{frame_read, sender_read, word_read}

-- the word of these numbers counts here
abbrev pub Here : Channel → (frame part slot s f w : ℕ) → Type 0
Here c frame part slot s f w = (f ≡ frame % 256) × (w < p) × Speaks c s part slot

pub counts_here : (c : Channel) (frame part slot s f w : ℕ) (bs : List ℕ) → bs ≡ air_bytes s f w part → Here c frame part slot s f w → Counts c frame part slot bs s w
counts_here c frame part slot s f w bs e h = record {
  said = e ∙ ap (λ (g : ℕ). air_bytes s g w part) h.0;
  speaks = h.2;
  below = h.1;
}

-- whatever counts of these bytes is what they say
counts_same : (c : Channel) (frame part slot s f w : ℕ) (bs : List ℕ) → s < 2 ^ 24 → w < 2 ^ 32 → c.q ^ c.d ≤ 65536 → bs ≡ air_bytes s f w part →
    (t v : ℕ) → Counts c frame part slot bs t v → (f ≡ frame % 256) × (s ≡ t) × (w ≡ v)
counts_same c frame part slot s f w bs hs hw hc e t v k =
    let there = k.speaks.there in
    let below = k.below in (
      sym (frame_read bs s f w part e) ∙ frame_read bs t (frame % 256) v part k.said,
      sym (sender_read bs s f w part e hs) ∙ sender_read bs t (frame % 256) v part k.said (omega arith),
      sym (word_read bs s f w part e hw) ∙ word_read bs t (frame % 256) v part k.said (omega arith),
    )

pub counts_not : (c : Channel) (frame part slot s f w : ℕ) (bs : List ℕ) → s < 2 ^ 24 → w < 2 ^ 32 → c.q ^ c.d ≤ 65536 → bs ≡ air_bytes s f w part →
    (Here c frame part slot s f w → ⊥) → (t v : ℕ) → Counts c frame part slot bs t v → ⊥
counts_not c frame part slot s f w bs hs hw hc e n t v k =
    let m = counts_same c frame part slot s f w bs hs hw hc e t v k in
    n (m.0, subst (λ (u : ℕ). u < p) (sym m.2) k.below, subst (λ (u : ℕ). Speaks c u part slot) (sym m.1) k.speaks)

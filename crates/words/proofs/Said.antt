-- The bytes of a word say who said what in which frame, and no other numbers have them.
-- frame_read, sender_read, word_read, not-said. Assumes nothing.
use Rattle.std.proofs.Common.{◌≡◌, ℕ, ◌+◌, ◌*◌, ◌/◌, ◌%◌, ◌^◌, ◌<◌, List, get_or, sym, ap, ◌∙◌, arith}
use Rattle.words.specs.Bytes.{air_bytes}
use Rattle.words.specs.Counting.{sender_in, word_in}

-- the bytes of a number that was put together of bytes
three : (a b c : ℕ) → a < 256 → b < 256 → c < 256 → let n = a * 65536 + b * 256 + c in (n / 65536 % 256 ≡ a) × (n / 256 % 256 ≡ b) × (n % 256 ≡ c)
three a b c ha hb hc = (omega arith, omega arith, omega arith)

four : (a b c d : ℕ) → a < 256 → b < 256 → c < 256 → d < 256 →
    let n = a * 16777216 + b * 65536 + c * 256 + d in (n / 16777216 % 256 ≡ a) × (n / 65536 % 256 ≡ b) × (n / 256 % 256 ≡ c) × (n % 256 ≡ d)
four a b c d ha hb hc hd = (omega arith, omega arith, omega arith, omega arith)

-- a number of four bytes is put together of them
together : (n : ℕ) → n < 2 ^ 32 → n / 16777216 % 256 * 16777216 + n / 65536 % 256 * 65536 + n / 256 % 256 * 256 + n % 256 ≡ n
together n h =
    let a : n / 256 ≡ n / 65536 * 256 + n / 256 % 256 = omega arith in
    let b : n / 65536 ≡ n / 16777216 * 256 + n / 65536 % 256 = omega arith in
    let c : n / 16777216 % 256 ≡ n / 16777216 = omega arith in
    omega arith

-- what is read off the bytes of a word is what they say
module _ (bs : List ℕ) (s f w x : ℕ) (e : bs ≡ air_bytes s f w x) where
  at : (i : ℕ) → get_or bs i 0 ≡ get_or (air_bytes s f w x) i 0
  at i = ap (λ (b : List ℕ). get_or b i 0) e

  pub frame_read : get_or bs 3 0 ≡ f
  frame_read = at 3

  pub sender_read : s < 2 ^ 24 → sender_in bs ≡ s
  sender_read h =
      let b = together s (omega arith) in
      rw (at 0, at 1, at 2) (omega arith)

  pub word_read : w < 2 ^ 32 → word_in bs ≡ w
  word_read h = rw (at 4, at 5, at 6, at 7) (together w h)

  -- and it has the same bytes, however large the numbers were
  said_again : air_bytes (sender_in bs) (get_or bs 3 0) (word_in bs) x ≡ bs
  said_again =
      let t = three (s / 65536 % 256) (s / 256 % 256) (s % 256) (omega arith) (omega arith) (omega arith) in
      let u = four (w / 16777216 % 256) (w / 65536 % 256) (w / 256 % 256) (w % 256) (omega arith) (omega arith) (omega arith) (omega arith) in
      rw (at 0, at 1, at 2, at 3, at 4, at 5, at 6, at 7, t.0, t.1, t.2, u.0, u.1, u.2, u.3) (sym e)

-- where what is read off has other bytes, no numbers have these
pub not-said : (bs again : List ℕ) (s f w x : ℕ) → s ≡ sender_in bs → f ≡ get_or bs 3 0 → w ≡ word_in bs → again ≡ air_bytes s f w x → (bs ≡ again → ⊥) →
    (t g v : ℕ) → bs ≡ air_bytes t g v x → ⊥
not-said bs again s f w x a b c e n t g v h = n (sym (e ∙ rw (a, b, c) (said_again bs t g v x h)))

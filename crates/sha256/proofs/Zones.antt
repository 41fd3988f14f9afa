-- A padded message by zones: its own bytes, the byte 128, zeros, the length; and its words and blocks, one after the other.
-- padding-first, padding-zero, padding_field, padded_first, padded_rest, word_made, words_made, blocks_none, blocks_more, digest_blocks. Assumes nothing.
use Rattle.std.proofs.Common.{◌≡◌, ℕ, suc, ◌+◌, ◌-◌, ◌*◌, ◌/◌, ◌^◌, ◌<◌, ◌≤◌, List, ◌∷◌, ◌++◌, length, get_or, replicate, sym, refl, ap, ◌∙◌, add-one, arith}
use Rattle.std.proofs.lemmas.List.{get_or_append_left, get_or-append_right, get_or-replicate, length-append, length-replicate}
use Rattle.std.specs.Int.{from_be_bytes, w32}
use Rattle.std.proofs.lemmas.List.FromFn.{fill_by_all}
use Rattle.sha256.specs.Constants.{initial}
use Rattle.sha256.specs.Padding.{zeros, length_field, padding, padded, word_at, words_from}
use Rattle.sha256.specs.Hash.{compressed, blocks_done, bytes_of, digest}

pub padding-first : (n i : ℕ) → i ≡ 0 → 128 ≡ get_or (padding n) i 0
unfolding padding
padding-first n i e = rw e

-- the byte 128 and the zeros
front : ℕ → List ℕ
front n = 128 ∷ replicate (zeros n) 0

length_front : (n : ℕ) → length (front n) ≡ zeros n + 1
unfolding front
length_front n = let l = length-replicate {A = ℕ} (zeros n) 0 in omega arith

pub padding-zero : (n i : ℕ) → 0 < i → i ≤ zeros n → 0 ≡ get_or (padding n) i 0
unfolding padding front
padding-zero n i p h =
    let l = length_front n in
    let e : i ≡ suc (i - 1) = omega arith in
    let z : get_or (front n) i 0 ≡ 0 = ap (λ (j : ℕ). get_or (front n) j 0) e ∙ get_or-replicate (zeros n) (i - 1) 0 0 (omega arith) in
    sym (get_or_append_left (front n) (length_field (8 * n)) 0 i (omega arith) ∙ z)

pub padding_field : (n i : ℕ) → zeros n < i → get_or (length_field (8 * n)) (i - zeros n - 1) 0 ≡ get_or (padding n) i 0
unfolding padding front
padding_field n i h =
    let e : i - (zeros n + 1) ≡ i - zeros n - 1 = omega arith in
    sym (get_or-append_right (front n) (length_field (8 * n)) (zeros n + 1) i 0 (length_front n) (omega arith) ∙ ap (λ (j : ℕ). get_or (length_field (8 * n)) j 0) e)

pub padded_first : (m : List ℕ) (i : ℕ) → i < length m → get_or m i 0 ≡ get_or (padded m) i 0
unfolding padded
padded_first m i h = sym (get_or_append_left m (padding (length m)) 0 i h)

pub padded_rest : (a b : List ℕ) (i : ℕ) → length a + length b ≤ i → get_or (padding (length a + length b)) (i - (length a + length b)) 0 ≡ get_or (padded (a ++ b)) i 0
unfolding padded
padded_rest a b i h =
    let l = length-append a b in
    sym (get_or-append_right (a ++ b) (padding (length (a ++ b))) (length a + length b) i 0 l h ∙ ap (λ (n : ℕ). get_or (padding n) (i - (length a + length b)) 0) l)

pub word_made : (bs ws : List ℕ) (n : ℕ) → length ws ≡ 4 → ((k : ℕ) → k < 4 → get_or ws k 0 ≡ get_or bs (4 * n + k) 0) → from_be_bytes w32 ws ≡ word_at bs n
word_made bs ws n l h =
    let first : 4 * n + 0 ≡ 4 * n = omega arith in
    ap (from_be_bytes w32) (fill_by_all (λ (k : ℕ). get_or bs (4 * n + k) 0) ws 4 0 l h) ∙ ap (λ (i : ℕ). get_or bs i 0 * 2 ^ 24 + get_or bs (4 * n + 1) 0 * 2 ^ 16 + get_or bs (4 * n + 2) 0 * 2 ^ 8 + get_or bs (4 * n + 3) 0) first

pub words_made : (bs ws : List ℕ) (from : ℕ) → length ws ≡ 16 → ((k : ℕ) → k < 16 → get_or ws k 0 ≡ word_at bs (from + k)) → ws ≡ words_from bs from 16
unfolding words_from
words_made bs ws from l h = fill_by_all (λ (k : ℕ). word_at bs (from + k)) ws 16 0 l h

pub blocks_none : (bs : List ℕ) → initial ≡ blocks_done bs 0
unfolding blocks_done
blocks_none bs = refl

pub blocks_more : (bs s w : List ℕ) (n : ℕ) → s ≡ blocks_done bs n → w ≡ words_from bs (16 * n) 16 → compressed s w ≡ blocks_done bs (n + 1)
unfolding blocks_done
blocks_more bs s w n e f = ap (λ t. compressed t w) e ∙ ap (λ v. compressed (blocks_done bs n) v) f ∙ ap (blocks_done bs) (sym (add-one n))

length-padded : (m : List ℕ) → length (padded m) ≡ 64 * ((length m + 8) / 64 + 1)
unfolding padded padding front
length-padded m =
    let a = length-append m (padding (length m)) in
    let b = length-append (front (length m)) (length_field (8 * length m)) in
    let c = length_front (length m) in
    omega arith

pub digest_blocks : (m : List ℕ) (n : ℕ) → n ≡ length m → digest m ≡ bytes_of (blocks_done (padded m) ((n + 8) / 64 + 1)) 8
unfolding digest
digest_blocks m n e =
    let l = length-padded m in
    let k : length (padded m) / 64 ≡ (n + 8) / 64 + 1 = omega arith in
    ap (λ (j : ℕ). bytes_of (blocks_done (padded m) j) 8) k

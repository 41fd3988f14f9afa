-- The code's words as the words of the statements.
-- word_of, words_in, part_at, Reduced, Slope, Product, Fitted. Assumes nothing.
use Rattle.std.specs.Prelude.{◌≡◌, ℕ, ◌+◌, ◌*◌, ◌%◌, ◌<◌, Bool, true, false, T, List, map, length, slice_index, slice_index_or}
use Rattle.speakall.specs.Code.{sound_in}
use Rattle.speakall.specs.Frame.{p, Word, agrees, word_at}
use Rattle.polynomials.specs.declared.words.PartWord.{PartWord}

abbrev pub word_of : PartWord → Word
word_of w = record { part = w.part; word = w.value }

-- words heard of one sender, each with its part
abbrev pub words_in : List PartWord → List Word
words_in ws = map word_of ws

-- the part of the word at place k
abbrev pub part_at : List PartWord → ℕ → ℕ
part_at ws k = (slice_index_or ws k (record { part = 0; value = 0 })).part

-- all below p
abbrev pub Reduced : List ℕ → Type 0
Reduced xs = (k : ℕ) → slice_index xs k < p

-- modulo p, the line from (x₀, y₀) to (x, y) rises by r for each step: r * (x - x₀) is y - y₀
abbrev pub Slope : (x y x₀ y₀ r : ℕ) → Type 0
Slope x y x₀ y₀ r = (r * x + y₀) % p ≡ (r * x₀ + y) % p

-- modulo p, the polynomial f is y₀ + (X - x₀) g: their values at every x are the same
abbrev pub Product : (x₀ y₀ : ℕ) (g f : List ℕ) → Type 0
Product x₀ y₀ g f = (x : ℕ) → (word_at f x + x₀ * word_at g x) % p ≡ (y₀ + x * word_at g x) % p

-- what is left where values stood: for as many words, if they are sound, the coefficients below p of a polynomial on which they lie; otherwise the same values
abbrev pub Fitted : List PartWord → List ℕ → Bool → List ℕ → Type 0
Fitted ws before true after = (length ws ≡ length before) × T (sound_in 251 (words_in ws)) × Reduced after × T (agrees after (words_in ws))
Fitted ws before false after = (after ≡ before) × (length ws ≡ length before → T (sound_in 251 (words_in ws)) → ⊥)

-- Nine bytes are one block: its words, and the digest.
-- nine_words, nine_digest. Assumes nothing.
use Rattle.std.proofs.Common.{◌≡◌, ℕ, ◌+◌, ◌*◌, List, [], ◌∷◌, length, get_or, take, sym, refl, ap}
use Rattle.std.proofs.lemmas.List.FromFn.{fill_by_all}
use Rattle.sha256.specs.Constants.{initial}
use Rattle.sha256.specs.Padding.{padding, padded, words_from}
use Rattle.sha256.specs.Hash.{blocks_done, bytes_of, compressed, digest, word_bytes}
use Rattle.sha256.proofs.Zones.{digest_blocks}

pub nine_words : (xs : List ℕ) → length xs ≡ 9 → words_from (padded xs) 0 16 ≡
    (get_or xs 0 0 * 16777216 + get_or xs 1 0 * 65536 + get_or xs 2 0 * 256 + get_or xs 3 0) ∷
    (get_or xs 4 0 * 16777216 + get_or xs 5 0 * 65536 + get_or xs 6 0 * 256 + get_or xs 7 0) ∷
    (get_or xs 8 0 * 16777216 + 8388608 + 0 + 0) ∷ 0 ∷ 0 ∷ 0 ∷ 0 ∷ 0 ∷ 0 ∷ 0 ∷ 0 ∷ 0 ∷ 0 ∷ 0 ∷ 0 ∷ 72 ∷ []
unfolding padding padded words_from
nine_words xs l = ap (λ ys. words_from (padded ys) 0 16) (fill_by_all (λ (k : ℕ). get_or xs k 0) xs 9 0 l (λ k h. refl))

-- one block, and the first word after it
pub nine_digest : (xs : List ℕ) → length xs ≡ 9 → take 4 (digest xs) ≡ word_bytes (get_or (compressed initial (words_from (padded xs) 0 16)) 0 0)
unfolding blocks_done bytes_of
nine_digest xs l = ap (take 4) (digest_blocks xs 9 (sym l))

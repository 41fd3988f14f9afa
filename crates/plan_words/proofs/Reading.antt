-- The words are read one after the other: those read are sound, and the answer is the one for all.
-- Held, held_more. Assumes nothing.
use Rattle.std.proofs.Common.{◌≡◌, ℕ, ◌+◌, ◌<◌, ◌≤◌, Bool, ◌||◌, List, [], ◌∷◌, ◌++◌, length, get_or, take, sym, refl, ap}
use Rattle.std.specs.List.{AllByRecursion}
use Rattle.std.proofs.lemmas.List.{take_more}
use Rattle.std.proofs.ByRecursion.{All-push}
use Rattle.plan_words.specs.declared.word.Word.{Word}
use Rattle.plan_words.specs.declared.word.Word.TheVariants as word
use Rattle.plan_words.specs.Words.{Fine, Sound, is_raw, numbers_of}

numbers_append : (vs ws : List Word) → numbers_of (vs ++ ws) ≡ numbers_of vs ++ numbers_of ws
numbers_append [] ws = refl
numbers_append (word.Help ∷ vs) ws = numbers_append vs ws
numbers_append (word.Raw ∷ vs) ws = numbers_append vs ws
numbers_append (word.Unknown ∷ vs) ws = numbers_append vs ws
numbers_append (word.Number n ∷ vs) ws = ap (λ ns. n ∷ ns) (numbers_append vs ws)
numbers_append (word.NoNumber ∷ vs) ws = numbers_append vs ws

raw_append : (vs ws : List Word) → is_raw (vs ++ ws) ≡ (is_raw vs || is_raw ws)
raw_append [] ws = refl
raw_append (word.Help ∷ vs) ws = raw_append vs ws
raw_append (word.Raw ∷ vs) ws = refl
raw_append (word.Unknown ∷ vs) ws = raw_append vs ws
raw_append (word.Number n ∷ vs) ws = raw_append vs ws
raw_append (word.NoNumber ∷ vs) ws = raw_append vs ws

-- what was kept of the words read so far
pub record Held (r : Bool) (n : List ℕ) (ws : List Word) : Type 0 where
  pub fine : AllByRecursion Fine ws
  pub numbers : numbers_of ws ≡ n
  pub raw : is_raw ws ≡ r
  pub few : length n ≤ 3

sound : (r : Bool) (n : List ℕ) (ws : List Word) → Held r n ws → Sound ws
sound r n ws h = record { fine = h.fine; few = rw h.numbers h.few }

pub held_more : (ws : List Word) (i : ℕ) (d : Word) (r s : Bool) (n m : List ℕ) → i < length ws → Fine (get_or ws i d) × (m ≡ n ++ numbers_of (get_or ws i d ∷ [])) × (s ≡ (r || is_raw (get_or ws i d ∷ []))) × (length m ≤ 3) → Held r n (take i ws) → Held s m (take (i + 1) ws)
held_more ws i d r s n m l j h =
    let w = get_or ws i d in
    let t : take (i + 1) ws ≡ take i ws ++ (w ∷ []) = take_more ws i d l in
    record {
      fine = rw t (All-push Fine (take i ws) w h.fine j.0);
      numbers = rw (t, numbers_append (take i ws) (w ∷ []), h.numbers) (sym j.1);
      raw = rw (t, raw_append (take i ws) (w ∷ []), h.raw) (sym j.2);
      few = j.3;
    }

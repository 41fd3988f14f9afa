-- The answer to words: each of its parts from the relation of what is to be made of them (answer), and each way to it.
use Rattle.std.proofs.Common.{◌≡◌, ℕ, ◌+◌, ◌<◌, ◌≤◌, Bool, true, false, cond, T, eqb, List, [], ◌∷◌, length, take, sym, arith}
use mir.Facts.{yes_and}
use Rattle.std.proofs.lemmas.List.{length-map, length-take-le}
use Rattle.damage.specs.Made.{Answer}
use Rattle.damage.specs.Seeking.{NoneNear, NoneOn}
use Rattle.messages.proofs.Listening.{agrees-take}
use Rattle.messages.specs.Made.{Cleared, Zeros, read_of}
use Rattle.messages.specs.declared.listen.Reading.{Reading}
use Rattle.messages.specs.declared.listen.Reading.TheVariants.{TooFew, Message, Doubtful}
use Rattle.polynomials.proofs.Sound.{sound-take}
use Rattle.polynomials.specs.Heard.{word_of, words_in}
use Rattle.polynomials.specs.declared.words.PartWord.{PartWord}
use Rattle.readings.proofs.Answers.{damaged, few_units, made_reads, near_found}
use Rattle.readings.specs.Reads.{Made, Near, spare}
use Rattle.speakall.proofs.Truth.{from_true}
use Rattle.speakall.specs.Code.{off_of, sound_in}
use Rattle.speakall.specs.Frame.{Word, agrees, word_at}

off-agrees : (m : List ℕ) (ws : List Word) → off_of m ws ≡ 0 → T (agrees m ws)
unfolding agrees off_of
off-agrees m [] e = tt
off-agrees m (w ∷ ws) e = yes_and _ _ (here (eqb (word_at m w.part) w.word) e) (off-agrees m ws (omega arith))
  where
    here : (b : Bool) → cond b 0 1 + off_of m ws ≡ 0 → T b
    here true e = tt
    here false e = absurd (omega arith)

-- where no word may be off, the first s words decide
pub none_first : (s e : ℕ) (ws : List PartWord) → e ≡ 0 → s ≤ length ws → T (sound_in 251 (words_in ws)) → NoneOn s e ws (take s ws) → NoneNear s e ws
none_first s e ws zero' le sound none m near = none (length-take-le s ws le) (sound-take 251 251 s ws (omega arith) sound) m near (agrees-take m s ws (off-agrees m (words_in ws) (omega (arith, near.near)))).0

module _ (q s : ℕ) (small : q < 252) (ws : List PartWord) where
  answer : (r : Reading) (left : List ℕ) → Made q s (words_in ws) (read_of r left) → Cleared r left → Answer q s (words_in ws) r left
  answer r left made cleared = record { made = made; so = made_reads q s small (words_in ws) (read_of r left) made; damage = damaged q s small (words_in ws) (read_of r left) made; cleared = cleared }

  pub answer-few : (left : List ℕ) → length ws < s → Zeros left → Answer q s (words_in ws) (TooFew (length ws)) left
  answer-few left few zeros = answer (TooFew (length ws)) left (sym (length-map ws word_of), rw (length-map ws word_of) few) zeros

  pub answer-read : (left : List ℕ) (o : ℕ) → s ≤ length ws → true ≡ sound_in q (words_in ws) → o ≡ off_of left (words_in ws) → Near s (spare (length ws) s) (words_in ws) left → Answer q s (words_in ws) (Message (length ws) o) left
  answer-read left o enough sound is near =
      let near' : Near s (spare (length (words_in ws)) s) (words_in ws) left = rw (length-map ws word_of) near in
      answer (Message (length ws) o) left (sym (length-map ws word_of), is, near_found q s (few_units q small) (words_in ws) (rw (length-map ws word_of) enough) (from_true _ sound) left near') tt

  pub answer-none : (left : List ℕ) → s ≤ length ws → NoneNear s (spare (length ws) s) ws → Zeros left → Answer q s (words_in ws) Doubtful left
  answer-none left enough none zeros = answer Doubtful left (rw (length-map ws word_of) (enough, λ sound m near. none m near)) zeros

-- The slots, words and answers by definition are a term of the system's record (coded), for every channel.
-- Idea: what is read was tested, whatever the words; and that p is prime lets parts be as large as the record allows.
use Rattle.std.proofs.Common.{◌≡◌, ℕ, ◌+◌, ◌*◌, ◌<◌, ◌≤◌, Bool, not, ◌&&◌, T, ltb, leb, List, [], ◌∷◌, length, sym, refl, ap, ◌∙◌, subst, ⊎_elim, arith}
use mathlib.Core.List.{Memᴰ}
use Rattle.std.proofs.lemmas.Bool.{cases_lt, cond_both, leb-true, le-ltb, lt-ltb}
use Rattle.readings.proofs.Answers.{few_units, reads_few, reads_near}
use Rattle.readings.proofs.First.{first_read_any}
use Rattle.readings.proofs.Prime.{prime_units}
use Rattle.readings.specs.Damage.{Coded}
use Rattle.readings.specs.Reads.{Near, limit, read_as, reads, spare}
use Rattle.speakall.proofs.Alone.{often_alone}
use Rattle.speakall.proofs.Heard.{own-agrees, own-sound}
use Rattle.speakall.proofs.Words.{agrees_off}
use Rattle.speakall.specs.Code.{Code, Read, TooFew, Reads, Doubtful, has_part, off_of, sound, sound_in}
use Rattle.speakall.specs.Frame.{Speaker, Word, got, p, word_at}
use Rattle.speakall.specs.Plan.{Channel, Good, below, size, slot_at}
use Rattle.speakall.specs.Promise.{Frame}

-- what the record asks of a message that is read
abbrev So : ℕ → List Word → Read → Type 0
So s ws r = (m : List ℕ) (n o : ℕ) → r ≡ Reads m n o → (length m ≡ s) × T (below limit m) × (n ≡ length ws) × (2 * o + s ≤ length ws) × (off_of m ws ≡ o)

so_few : (s k : ℕ) (ws : List Word) → So s ws (TooFew k)
so_few s k ws m n o e = let z : ◌≡◌ {A = ℕ} 0 1 = cc in absurd (omega arith)

so_doubtful : (s : ℕ) (ws : List Word) → So s ws Doubtful
so_doubtful s ws m n o e = let z : ◌≡◌ {A = ℕ} 0 1 = cc in absurd (omega arith)

so_read : (s : ℕ) (ws : List Word) (m : List ℕ) → s ≤ length ws → length m ≡ s → T (below limit m) → off_of m ws ≤ spare (length ws) s → So s ws (Reads m (length ws) (off_of m ws))
so_read s ws m enough l b near n w o e =
    let em : m ≡ n = cc in
    let ew : length ws ≡ w = cc in
    let eo : off_of m ws ≡ o = cc in
    (ap length (sym em) ∙ l, subst (λ (k : List ℕ). T (below limit k)) em b, sym ew, omega arith, ap (λ (k : List ℕ). off_of k ws) (sym em) ∙ eo)

read_so : (s : ℕ) (ws : List Word) → So s ws (reads s ws)
unfolding reads
read_so s ws = ⊎_elim (λ (few : length ws < s). rw (lt-ltb (length ws) s few) (so_few s (length ws) ws)) (
    λ (enough : s ≤ length ws). rw (le-ltb (length ws) s enough) (first_read_any (So s ws) s limit (read_as (spare (length ws) s) ws) (so_doubtful s ws) (
    λ m l b. cond_both (leb (off_of m ws) (spare (length ws) s)) (Reads m (length ws) (off_of m ws)) Doubtful (So s ws) (λ f. so_read s ws m enough l b (leb-true _ _ f)) (λ f. so_doubtful s ws)))) (cases_lt (length ws) s)

sound_in_lem : (ws : List Word) → T (sound ws) → T (sound_in p ws)
unfolding sound sound_in
sound_in_lem ws h = subst T (same ws) h
  where
    same : (ws : List Word) → sound ws ≡ sound_in p ws
    same [] = refl
    same (w ∷ ws) = ap (λ (b : Bool). not (has_part w.part ws) && ltb w.part p && ltb w.word p && b) (same ws)

all_read : (c : Channel) → Good c → (ss : List Speaker) → Frame c ss → (s : Speaker) → Memᴰ s ss → T (below limit s.message) →
    reads (size c) (got c ss s.plan) ≡ Reads s.message (length (got c ss s.plan)) 0
all_read c good ss frame s here small =
    let ws = got c ss s.plan in
    let none = agrees_off s.message ws (own-agrees c.q ss s here 0 c.q) in
    let near : Near (size c) (spare (length ws) (size c)) ws s.message = record { long = (frame.plans s here).1; small = small; near = omega arith } in
    reads_near c.q (size c) (few_units c.q good.4) ws (often_alone c good ss frame s here) (own-sound c.q ss s here 0 c.q c.q (omega arith)) s.message near ∙ ap (Reads s.message (length ws)) none

code : (c : Channel) → Code c
code c = record {
  slot = slot_at c.q;
  word = word_at;
  reads = reads (size c);
  slot_so = λ f x is lt. refl;
  word_so = λ m x l b lt. refl;
  too_few = reads_few (size c);
  reads_so = read_so (size c);
  found = λ ws m good l b near four. reads_near p (size c) prime_units ws (omega arith) (sound_in_lem ws good) m (record { long = l; small = b; near = omega arith });
  all_read = all_read c;
}

pub coded : Coded
unfolding code
coded c = record { code = code c; slot_is = λ f x. refl; word_is = λ m x. refl; reads_is = λ ws. refl }

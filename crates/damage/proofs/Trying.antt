-- Trying a polynomial: it is the only one through the words kept, so if it is not near enough, no message on them is (tried).
-- And what is kept: the words left, one more at each turn (kept_more, kept_all), sound and on a message where all words left are (tried-left).
use Rattle.std.proofs.Common.{◌≡◌, ℕ, ◌+◌, ◌-◌, ◌*◌, ◌/◌, ◌<◌, ◌≤◌, min, Bool, true, false, cond, not, ◌&&◌, T, leb, List, [], ◌∷◌, ◌++◌, length, get_or, take, set, Some, None, Option, map, zero-add, sym, refl, ap, ◌∙◌, subst, ⊎_elim, mul-le-mul_right, mod-lt, le-div_iff_mul-le, div-mul-le_self, arith}
use native.Mathlib.Nat.{mod-add-div}
use Rattle.std.proofs.lemmas.List.{get_or-map, get_or-take, length-map, length-take, length-take-le, take_all, take_more, take_more_set}
use Rattle.std.proofs.lemmas.List.FromFn.{get_or-enumerate_from, length-enumerate_from}
use Rattle.std.proofs.lemmas.Iterator.{YieldsList}
use Rattle.std.proofs.lemmas.Iterator.Consumers.{YieldsList-end, YieldsList-turn}
use Rattle.std.specs.Iterator.{Yields}
use Rattle.std.specs.List.{enumerate_from, filter}
use Rattle.std.specs.Option.{is_some}
use Rattle.std.proofs.lemmas.Bool.{and_from, and_parts, cases_lt, le-leb, leb-true}
use Rattle.messages.proofs.Listening.{agrees-take, below_reduced}
use Rattle.polynomials.proofs.Sound.{sound-take}
use Rattle.readings.proofs.Blocks.{length-left, map-left, sound-left}
use Rattle.damage.specs.Seeking.{NoneNear, NoneOn, Tried, near}
use Rattle.polynomials.specs.Heard.{Reduced, word_of, words_in}
use Rattle.polynomials.specs.declared.words.PartWord.{PartWord}
use Rattle.readings.proofs.Answers.{below-p, few_units, only_near}
use Rattle.readings.proofs.Chosen.{NoI, none_near}
use Rattle.readings.specs.Blocks.{Fails, is_among, left}
use Rattle.readings.specs.Reads.{Near, limit}
use Rattle.speakall.proofs.Truth.{true_from}
use Rattle.speakall.proofs.Words.{agrees_off}
use Rattle.speakall.specs.Code.{off_of, sound_in}
use Rattle.speakall.specs.Frame.{agrees}
use Rattle.speakall.specs.Plan.{below}

-- f goes through the words kept
pub tried : (s e : ℕ) (ws kept : List PartWord) (f : List ℕ) (r : Option ℕ) → length f ≡ s → Reduced f → T (agrees f (words_in kept)) → r ≡ near e ws f → Tried s e ws (NoneOn s e ws kept) r f
tried s e ws kept f r lf reduced on is = rw is (go (below limit f && leb (off_of f (words_in ws)) e) refl)
  where
    go : (b : Bool) → (below limit f && leb (off_of f (words_in ws)) e) ≡ b → Tried s e ws (NoneOn s e ws kept) (cond b (Some (off_of f (words_in ws))) None) f
    go true t = let both = and_parts _ _ t in (refl, record { long = lf; small = subst T (sym both.0) tt; near = leb-true _ _ both.1 })
    go false t = λ lk sound m close on-m.
        let le : s ≤ length (words_in kept) = omega (arith, length-map kept word_of) in
        let same : m ≡ f = only_near 251 s (few_units 251 (omega arith)) (words_in kept) le sound m f close.long lf (below-p m close.small) (below_reduced f reduced) (omega (arith, agrees_off m (words_in kept) on-m)) (omega (arith, agrees_off f (words_in kept) on)) in
        let it : Near s e (words_in ws) f = subst (Near s e (words_in ws)) same close in
        let z : true ≡ false = sym (and_from _ _ (true_from _ it.small) (le-leb _ _ it.near)) ∙ t in
        cc

-- the words that are left, each with its place
abbrev pub left_at : List PartWord → (b : ℕ) → List ℕ → List (ℕ × PartWord)
left_at ws b out = filter (λ p. not (is_among (p.0 / b) out)) (enumerate_from 0 ws)

left-at : (b : ℕ) (out : List ℕ) (x : ℕ) (ws : List PartWord) → map (λ (p : ℕ × PartWord). p.1) (filter (λ p. not (is_among (p.0 / b) out)) (enumerate_from x ws)) ≡ left b out x ws
unfolding left
left-at b out x [] = refl
left-at b out x (w ∷ ws) = go (is_among (x / b) out) (left-at b out (x + 1) ws)
  where
    go : (t : Bool) → map (λ (p : ℕ × PartWord). p.1) (filter (λ p. not (is_among (p.0 / b) out)) (enumerate_from (x + 1) ws)) ≡ left b out (x + 1) ws → map (λ (p : ℕ × PartWord). p.1) (cond (not t) ((x, w) ∷ filter (λ p. not (is_among (p.0 / b) out)) (enumerate_from (x + 1) ws)) (filter (λ p. not (is_among (p.0 / b) out)) (enumerate_from (x + 1) ws))) ≡ cond t (left b out (x + 1) ws) (w ∷ left b out (x + 1) ws)
    go true e = e
    go false e = ap (λ (l : List PartWord). w ∷ l) e

-- a turn and the end of a loop over a chain of iterators, with the loop's own facts first
module _ {S A B : Type 0} {steps : S → Option A → S → Type 0} {v : A → B} {s : S} {all : List B} (xs : List A) (t : S) (yielded : Yields steps s xs t) (r : Option A) (u : S) (step : steps t r u) where
  pub turn : (x : A) → r ≡ Some x → YieldsList steps v s all → (length xs < length all) × (v x ≡ get_or all (length xs) (v x))
  turn x is chain = YieldsList-turn chain xs t yielded r u x is step

  pub end : r ≡ None → YieldsList steps v s all → length xs ≡ length all
  end is chain = (YieldsList-end chain xs t yielded r u is step).1

-- the first k of them are copied: one more, and all for which there is room
module _ (ws kept : List PartWord) (b : ℕ) (out : List ℕ) (n k : ℕ) (long : length kept ≡ n) (copied : take k kept ≡ take k (left b out 0 ws)) where
  pub kept_more : (place i j : ℕ) (w : PartWord) → j ≡ k + 1 → let all = enumerate_from 0 (take n (left_at ws b out)) in (k < length all) × ((place, (i, w)) ≡ get_or all k (place, (i, w))) → take j (set kept place w) ≡ take j (left b out 0 ws)
  kept_more place i j w next at =
      let some = left_at ws b out in
      let same = left-at b out 0 ws in
      let lt : k < length (take n some) = omega (arith, at.0, length-enumerate_from 0 (take n some)) in
      let room : k < n = omega (arith, length-take n some) in
      let there : k < length some = omega (arith, length-take n some) in
      let pair = at.1 ∙ get_or-enumerate_from 0 (take n some) k (place, (i, w)) lt in
      let is : place ≡ k = ap (λ (p : ℕ × (ℕ × PartWord)). p.0) pair ∙ zero-add k in
      let word : w ≡ get_or (left b out 0 ws) k w =
      ap (λ (p : ℕ × (ℕ × PartWord)). p.1.1) pair ∙ ap (λ (p : ℕ × PartWord). p.1) (get_or-take n some k (i, w) room) ∙
      sym (get_or-map (λ (p : ℕ × PartWord). p.1) some k (i, w) w there) ∙ ap (λ (l : List PartWord). get_or l k w) same in
      let end : k < length (left b out 0 ws) = omega (arith, ap length same, length-map some (λ (p : ℕ × PartWord). p.1)) in
      rw (next, is) (take_more_set kept k w (omega arith) ∙ ap (λ (l : List PartWord). l ++ (w ∷ [])) copied ∙
      ap (λ (v : PartWord). take k (left b out 0 ws) ++ (v ∷ [])) word ∙ sym (take_more (left b out 0 ws) k w end))

  pub kept_all : k ≡ length (enumerate_from 0 (take n (left_at ws b out))) → n ≤ length (left b out 0 ws) → kept ≡ take n (left b out 0 ws)
  kept_all is enough =
      let some = left_at ws b out in
      let all : k ≡ n = omega (arith, is, length-enumerate_from 0 (take n some), length-take n some, ap length (left-at b out 0 ws), length-map some (λ (p : ℕ × PartWord). p.1)) in
      sym (take_all k kept (omega arith)) ∙ copied ∙ ap (λ (n : ℕ). take n (left b out 0 ws)) all

pub tried-weaker : (s e : ℕ) (ws : List PartWord) (A B : Type 0) (r : Option ℕ) (f : List ℕ) → (A → B) → Tried s e ws A r f → Tried s e ws B r f
tried-weaker s e ws A B None f to t = to t
tried-weaker s e ws A B (Some o) f to t = t

pub tried-some : (s e : ℕ) (ws : List PartWord) (A B : Type 0) (r : Option ℕ) (f : List ℕ) → true ≡ is_some r → Tried s e ws A r f → Tried s e ws B r f
tried-some s e ws A B None f is t = cc
tried-some s e ws A B (Some o) f is t = t

-- no message on the words kept is none on all words left
pub tried-left : (s e : ℕ) (ws kept : List PartWord) (b : ℕ) (out : List ℕ) (r : Option ℕ) (f : List ℕ) → T (sound_in 251 (words_in ws)) → s ≤ length (left b out 0 ws) → kept ≡ take s (left b out 0 ws) → Tried s e ws (NoneOn s e ws kept) r f → Tried s e ws (Fails s e (words_in ws) b out) r f
tried-left s e ws kept b out r f sound room is = tried-weaker s e ws (NoneOn s e ws kept) (Fails s e (words_in ws) b out) r f fails
  where
    fails : NoneOn s e ws kept → Fails s e (words_in ws) b out
    fails none m near on =
        let all = map-left word_of b out 0 ws in
        none (ap length is ∙ length-take-le s (left b out 0 ws) room) (
        subst (λ (l : List PartWord). T (sound_in 251 (words_in l))) (sym is) (sound-take 251 251 s (left b out 0 ws) (omega arith) (rw all (sound-left 251 b 0 out (words_in ws) sound)))) m near (
        subst (λ (l : List PartWord). T (agrees m (words_in l))) (sym is) (agrees-take m s (left b out 0 ws) (rw all on)).0)

-- without any e blocks s words or more are left
pub left-enough : (s e : ℕ) (ws : List PartWord) (b : ℕ) (out : List ℕ) → 0 < e → 0 < b → b ≡ (length ws - s) / e → s ≤ length ws → length out ≤ e → s ≤ length (left b out 0 ws)
left-enough s e ws b out some pos is le few =
    let all = length-left b out 0 ws pos in
    let most = mul-le-mul_right b few in
    let fits : b * e ≤ length ws - s = rw is (div-mul-le_self (length ws - s) e) in
    omega arith

-- the blocks: some words each, as many as may be left out or more, and all words are in them
module _ (w s e : ℕ) (some : 0 < e) (enough : 2 * e + s ≤ w) where
  pub block-some : 0 < (w - s) / e
  block-some = (le-div_iff_mul-le some).1 (omega arith)

  pub blocks-all : w ≤ ((w - 1) / ((w - s) / e) + 1) * ((w - s) / e)
  blocks-all =
      let b = (w - s) / e in
      let parts = mod-add-div (w - 1) b in
      let low = mod-lt (w - 1) block-some in
      omega arith

  pub blocks-many : e ≤ (w - 1) / ((w - s) / e) + 1
  blocks-many =
      let b = (w - s) / e in
      let n = (w - 1) / b + 1 in
      let taken = div-mul-le_self (w - s) e in
      let all = blocks-all in
      ⊎_elim (λ (lt : n < e). let more = mul-le-mul_right b lt in let pos = block-some in absurd (omega arith)) (λ (le : e ≤ n). le) (cases_lt n e)

pub length_taken : (n : ℕ) (xs : List ℕ) → length (take (n - 0) xs) ≤ n
length_taken n xs = rw (length-take (n - 0) xs) (omega arith)

-- a front of s elements, however many were asked for
pub front : (kept all : List PartWord) (n s : ℕ) → kept ≡ take n all → length kept ≡ s → s ≤ length all → kept ≡ take s all
front kept all n s e l le =
    let long : min n (length all) ≡ s = sym (length-take n all) ∙ ap length (sym e) ∙ l in
    ⊎_elim (λ (h : n < length all). let f : n ≡ s = omega arith in e ∙ ap (λ (k : ℕ). take k all) f) (λ (h : length all ≤ n). e ∙ take_all n all h ∙ sym (take_all s all (omega arith))) (cases_lt n (length all))

pub tried-none : (s e : ℕ) (ws : List PartWord) (A : Type 0) (r : Option ℕ) (f : List ℕ) → r ≡ None → A → Tried s e ws A r f
tried-none s e ws A r f is a = rw is a

-- where all sets of blocks fail
pub sets-fail : (s e : ℕ) (ws : List PartWord) (i : ℕ) → 0 < e → e ≤ 4 → 2 * e + s ≤ length ws → (length ws - 1) / ((length ws - s) / e) + 1 ≤ i → NoI s e (words_in ws) ((length ws - s) / e) i → NoneNear s e ws
sets-fail s e ws i some few enough all fails =
    let w = length ws in
    none_near s e (words_in ws) ((w - s) / e) ((w - 1) / ((w - s) / e) + 1) some few (block-some w s e some enough) (blocks-many w s e some enough) (
    rw (length-map ws word_of) (blocks-all w s e some enough)) (λ j lt. fails j (omega arith))

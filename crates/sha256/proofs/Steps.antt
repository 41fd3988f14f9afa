-- One step of each loop: a word of the schedule, a round, a word written as bytes.
-- schedule_none, schedule_more, schedule_all, round_of, all_rounds, bytes_made, sums_made, from_fn_items. Assumes nothing.
use Rattle.std.proofs.Common.{◌≡◌, ℕ, zero, suc, ◌+◌, ◌<◌, ◌≤◌, List, [], ◌∷◌, ◌++◌, length, get_or, take, set, sym, refl, ap, subst, ◌∙◌, add-one, arith}
use Rattle.std.proofs.lemmas.List.{get_or-take, take_all, take_more_set}
use Rattle.std.specs.Fn.{Called}
use Rattle.std.specs.Array.{IsFromFnResultFrom}
use denote.Param.Members.{Mut}
use Rattle.std.specs.List.{flat_map, fold, zip}
use Rattle.std.proofs.Math.Seq.{take-suc}
use Rattle.std.proofs.lemmas.List.Sums.{fold-append}
use Rattle.std.proofs.lemmas.Slice.Zip.{length-zip, get_or-zip}
use Rattle.std.proofs.lemmas.List.FromFn.{fill_by_all}
use Rattle.sha256.specs.Constants.{constants}
use Rattle.sha256.specs.Functions.{add}
use Rattle.sha256.specs.Hash.{sums, next_word, schedule, round_on, rounds, word_bytes, bytes_of}

pub schedule_none : (m : List ℕ) → m ≡ schedule m 0
unfolding schedule
schedule_none m = refl

pub schedule_more : (m w : List ℕ) (n : ℕ) → length w ≡ 64 → n < 48 → take (n + 16) w ≡ schedule m n → take (n + 1 + 16) (set w (n + 16) (next_word w n)) ≡ schedule m (n + 1)
unfolding schedule
schedule_more m w n l h e =
    let s : schedule m (n + 1) ≡ schedule m n ++ (next_word (schedule m n) n ∷ []) = ap (schedule m) (add-one n) in
    let k : n + 1 + 16 ≡ n + 16 + 1 = omega arith in
    let a = get_or-take (n + 16) w (n + 14) 0 (omega arith) in
    let b = get_or-take (n + 16) w (n + 9) 0 (omega arith) in
    let c = get_or-take (n + 16) w (n + 1) 0 (omega arith) in
    let d = get_or-take (n + 16) w n 0 (omega arith) in
    let x : next_word (take (n + 16) w) n ≡ next_word w n = rw (a, b, c, d) in
    let t = take_more_set w (n + 16) (next_word w n) (omega arith) in
    rw (k, s, ← e, x) t

pub schedule_all : (m w : List ℕ) (n : ℕ) → take (n + 16) w ≡ schedule m n → length w ≡ 64 → 48 ≤ n → n ≤ 48 → w ≡ schedule m 48
schedule_all m w n e l g h = sym (take_all (n + 16) w (omega arith)) ∙ e ∙ ap (schedule m) (omega arith)

-- a round, of the constant and the word that stand beside each other
abbrev pub round_of : List ℕ → ℕ × ℕ → List ℕ
round_of s p = round_on s p.0 p.1

some_rounds : (w s : List ℕ) (n : ℕ) → length w ≡ 64 → n ≤ 64 → fold round_of s (take n (zip constants w)) ≡ rounds w s n
unfolding rounds
some_rounds w s zero l h = refl
some_rounds w s (suc n) l h =
    let k = length-zip constants w in
    let e = take-suc (zip constants w) n (0, 0) (omega arith) in
    let g = get_or-zip constants w n (0, 0) (omega arith) (omega arith) in
    ap (fold round_of s) e ∙ fold-append round_of s (take n (zip constants w)) (get_or (zip constants w) n (0, 0) ∷ []) ∙ ap (λ p. round_of (fold round_of s (take n (zip constants w))) p) g
    ∙ ap (λ t. round_on t (get_or constants n 0) (get_or w n 0)) (some_rounds w s n l (omega arith))

pub all_rounds : (w s : List ℕ) → length w ≡ 64 → fold round_of s (zip constants w) ≡ rounds w s 64
all_rounds w s l =
    let k = length-zip constants w in
    ap (fold round_of s) (sym (take_all 64 (zip constants w) (omega arith))) ∙ some_rounds w s 64 l (omega arith)

pub bytes_made : (s : List ℕ) (bs : List (List ℕ)) → length bs ≡ 8 → ((k : ℕ) → k < 8 → get_or bs k [] ≡ word_bytes (get_or s k 0)) → flat_map (λ b. b) bs ≡ bytes_of s 8
unfolding bytes_of
bytes_made s bs l h = ap (flat_map (λ b. b)) (fill_by_all (λ (k : ℕ). word_bytes (get_or s k 0)) bs 8 [] l h)

pub sums_made : (s t r : List ℕ) → length r ≡ 8 → ((k : ℕ) → k < 8 → get_or r k 0 ≡ add (get_or s k 0) (get_or t k 0)) → r ≡ sums s t
sums_made s t r l h = fill_by_all (λ (k : ℕ). add (get_or s k 0) (get_or t k 0)) r 8 0 l h

-- what an array of a function's results holds, where the calls leave the function as it was
module _ {F B : Type 0} (g : Mut F (ℕ × Unit {0}) B) (h : ℕ → B) (f : F) (same : (i : ℕ) (y : B) (q : F) → Called g f (i, tt) y q → (q ≡ f) × (y ≡ h i)) (ys : List B) (d : B) where
  items_from : (i n : ℕ) (p : F) → p ≡ f → IsFromFnResultFrom g p ys i n → (k : ℕ) → k < n → get_or ys (i + k) d ≡ h (i + k)
  items_from i zero p e r k l = absurd (omega arith)
  items_from i (suc n) p e r zero l =
      let s = same i r.1 r.0 (subst (λ (o : F). Called g o (i, tt) r.1 r.0) e r.3) in
      let z : i + 0 ≡ i = omega arith in
      rw z (r.2.1 d ∙ s.1)
  items_from i (suc n) p e r (suc k) l =
      let s = same i r.1 r.0 (subst (λ (o : F). Called g o (i, tt) r.1 r.0) e r.3) in
      let j : i + suc k ≡ i + 1 + k = omega arith in
      rw j (items_from (i + 1) n r.0 s.0 r.4 k (omega arith))

  pub from_fn_items : (n : ℕ) → IsFromFnResultFrom g f ys 0 n → (k : ℕ) → k < n → get_or ys k d ≡ h k
  from_fn_items n r k l = let e : 0 + k ≡ k = omega arith in rw (← e) (items_from 0 n f refl r k l)

-- Any e blocks that some words off a message lie in are among the sets of e blocks, highest first, that the search goes through (none_near).
-- Idea: from the highest block down, a block is chosen if it has a word off, or if all blocks left are needed to make e.
use Rattle.std.proofs.Common.{◌≡◌, ℕ, zero, suc, ◌*◌, ◌<◌, ◌≤◌, false, eqb, List, [], ◌∷◌, length, take, ⊎_elim, arith}
use Rattle.std.proofs.lemmas.Bool.{cases_eq, cases_lt, eqb-false, or_parts}
use Rattle.readings.proofs.Blocks.{agrees-left, off_in, off_blocks, sum_to}
use Rattle.readings.specs.Blocks.{Fails, end_block, first_block, is_among}
use Rattle.readings.specs.Reads.{Near}
use Rattle.speakall.specs.Frame.{Word}

-- t blocks below n, the highest first, and no other block below n has anything
abbrev Chosen : (g : ℕ → ℕ) (t n : ℕ) → Type 0
Chosen g zero n = (y : ℕ) → y < n → g y ≡ 0
Chosen g (suc t) n = (i : ℕ) × (i < n) × ((y : ℕ) → i < y → y < n → g y ≡ 0) × Chosen g t i

chosen_all : (g : ℕ → ℕ) (n : ℕ) → Chosen g n n
chosen_all g zero = λ y h. absurd (omega arith)
chosen_all g (suc n) = (n, omega arith, (λ y l h. absurd (omega arith)), chosen_all g n)

chosen_none : (g : ℕ → ℕ) (n : ℕ) → sum_to g n ≡ 0 → (y : ℕ) → y < n → g y ≡ 0
unfolding sum_to
chosen_none g zero e y h = absurd (omega arith)
chosen_none g (suc n) e y h = ⊎_elim (λ (f : y ≡ n). rw f (omega arith)) (λ (ne : y ≡ n → ⊥). chosen_none g n (omega arith) y (omega arith)) (cases_eq y n)

-- block n, which has nothing, is not chosen
chosen_past : (g : ℕ → ℕ) (t n : ℕ) → g n ≡ 0 → Chosen g (suc t) n → Chosen g (suc t) (suc n)
chosen_past g t n e (i, h, none, rest) = (i, omega arith, (λ y l k. ⊎_elim (λ (f : y ≡ n). rw f e) (λ (ne : y ≡ n → ⊥). none y l (omega arith)) (cases_eq y n)), rest)

chosen : (g : ℕ → ℕ) (t n : ℕ) → sum_to g n ≤ t → t ≤ n → Chosen g t n
unfolding sum_to
chosen g zero n s h = chosen_none g n (omega arith)
chosen g (suc t) zero s h = absurd (omega arith)
chosen g (suc t) (suc n) s h =
    ⊎_elim (λ (full : t ≡ n). rw full (chosen_all g (suc n))) (λ (ne : t ≡ n → ⊥). ⊎_elim (λ (e : g n ≡ 0). chosen_past g t n e (chosen g (suc t) n (omega arith) (omega arith))) (
    λ (ne : g n ≡ 0 → ⊥). (n, omega arith, (λ y l k. absurd (omega arith)), chosen g t n (omega arith) (omega arith))) (cases_eq (g n) 0)) (cases_eq t n)

picks : (g : ℕ → ℕ) (t n : ℕ) → Chosen g t n → List ℕ
picks g zero n c = []
picks g (suc t) n (i, h, none, rest) = i ∷ picks g t i rest

outside : (g : ℕ → ℕ) (t n : ℕ) (c : Chosen g t n) (y : ℕ) → y < n → is_among y (picks g t n c) ≡ false → g y ≡ 0
unfolding picks is_among
outside g zero n c y h e = c y h
outside g (suc t) n (i, k, none, rest) y h e =
    let both = or_parts (eqb y i) (is_among y (picks g t i rest)) e in
    let ne = eqb-false y i both.0 in
    ⊎_elim (λ (l : y < i). outside g t i rest y l both.1) (λ (l : i ≤ y). none y (omega arith) h) (cases_lt y i)

-- the loops over sets of e blocks: a level that is not needed goes through one block, that of the level before
module _ (s e : ℕ) (ws : List Word) (b : ℕ) where
  abbrev pub NoL : (i j k n : ℕ) → Type 0
  NoL i j k n = (l : ℕ) → first_block e 4 k ≤ l → l < n → Fails s e ws b (take e (i ∷ j ∷ k ∷ l ∷ []))

  abbrev pub NoK : (i j n : ℕ) → Type 0
  NoK i j n = (k : ℕ) → first_block e 3 j ≤ k → k < n → NoL i j k (end_block e 4 k)

  abbrev pub NoJ : (i n : ℕ) → Type 0
  NoJ i n = (j : ℕ) → first_block e 2 i ≤ j → j < n → NoK i j (end_block e 3 j)

  abbrev pub NoI : (n : ℕ) → Type 0
  NoI n = (i : ℕ) → i < n → NoJ i (end_block e 2 i)

sets : (s e : ℕ) (ws : List Word) (b : ℕ) (g : ℕ → ℕ) (n : ℕ) → 0 < e → e ≤ 4 → NoI s e ws b n → (c : Chosen g e n) → Fails s e ws b (picks g e n c)
unfolding picks
sets s zero ws b g n pos few fails c = absurd (omega arith)
sets s (suc zero) ws b g n pos few fails (i, hi, ni, z) = fails i hi i (omega arith) (omega arith) i (omega arith) (omega arith) i (omega arith) (omega arith)
sets s (suc (suc zero)) ws b g n pos few fails (i, hi, ni, (j, hj, nj, z)) = fails i hi j (omega arith) hj j (omega arith) (omega arith) j (omega arith) (omega arith)
sets s (suc (suc (suc zero))) ws b g n pos few fails (i, hi, ni, (j, hj, nj, (k, hk, nk, z))) = fails i hi j (omega arith) hj k (omega arith) hk k (omega arith) (omega arith)
sets s (suc (suc (suc (suc zero)))) ws b g n pos few fails (i, hi, ni, (j, hj, nj, (k, hk, nk, (l, hl, nl, z)))) = fails i hi j (omega arith) hj k (omega arith) hk l (omega arith) hl
sets s (suc (suc (suc (suc (suc t))))) ws b g n pos few fails c = absurd (omega arith)

-- where every set of blocks fails, no message is near
pub none_near : (s e : ℕ) (ws : List Word) (b n : ℕ) → 0 < e → e ≤ 4 → 0 < b → e ≤ n → length ws ≤ n * b → NoI s e ws b n → (m : List ℕ) → Near s e ws m → ⊥
none_near s e ws b n pos few some many whole fails m near =
    let g = off_in m b 0 ws in
    let c = chosen g e n (omega (arith, off_blocks m b 0 n ws, near.near)) many in
    sets s e ws b g n pos few fails c m near (agrees-left m b n 0 (picks g e n c) ws some (omega arith) (outside g e n c))

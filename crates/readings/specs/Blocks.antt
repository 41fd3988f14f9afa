-- Words left out in blocks: looking for a message leaves out some blocks of words, and takes the words left.
-- is_among, left, Fails, first_block, end_block. Assumes nothing.
use Rattle.std.specs.Prelude.{ℕ, ◌+◌, ◌/◌, Bool, false, cond, ◌||◌, T, List, [], ◌∷◌, ◌==◌, nat_lt}
use Rattle.readings.specs.Reads.{Near}
use Rattle.speakall.specs.Frame.{Word, agrees}

unfoldable pub is_among : ℕ → List ℕ → Bool
is_among x [] = false
is_among x (y ∷ ys) = x == y || is_among x ys

-- what is left of a list, whose first element has the place x, without the blocks `out` of b places each
unfoldable pub left : {X : Type 0} → (b : ℕ) (out : List ℕ) (x : ℕ) → List X → List X
left b out x [] = []
left b out x (w ∷ ws) = cond (is_among (x / b) out) (left b out (x + 1) ws) (w ∷ left b out (x + 1) ws)

-- no message that at most e words are off lies on all words left
abbrev pub Fails : (s e : ℕ) (ws : List Word) (b : ℕ) (out : List ℕ) → Type 0
Fails s e ws b out = (m : List ℕ) → Near s e ws m → T (agrees m (left b out 0 ws)) → ⊥

-- a loop goes through the blocks below the one that the loop around it is at; where fewer than `level` blocks are to be left out, only through that one again
abbrev pub first_block : (e level above : ℕ) → ℕ
first_block e level above = cond (nat_lt e level) above 0

abbrev pub end_block : (e level above : ℕ) → ℕ
end_block e level above = cond (nat_lt e level) (above + 1) above

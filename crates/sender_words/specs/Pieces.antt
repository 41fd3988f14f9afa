-- A text cut at a character, and the numbers between its commas.
-- up_to, after, lent, pieces, Writes, Listed. Assumes nothing.
use Rattle.std.specs.Prelude.{◌≡◌, ℕ, cond, List, [], ◌∷◌, Some, None, Ok, Err, vec_items, Option, Result, Vec, ◌==◌}
use Rattle.std.specs.Borrow.{Bor}
use Rattle.command_words.specs.Each.{Each}
use Rattle.command_words.specs.Numbers.{IsNumber, number_of}
use Rattle.std.specs.List.{AllByRecursion, slice_split}
use Rattle.sender_words.specs.declared.spoken.Wrong.{Wrong}
use Rattle.sender_words.specs.declared.spoken.Wrong.TheVariants.{NoSender, NoMessage, Memory}
use Rattle.std.specs.declared.alloc.Global.{Global}

-- what stands before the first c, or all of a text that has none
unfoldable pub up_to : (c : ℕ) → List ℕ → List ℕ
up_to c [] = []
up_to c (b ∷ bs) = cond (b == c) [] (b ∷ up_to c bs)

-- what stands after the first c
unfoldable pub after : (c : ℕ) → List ℕ → Option (List ℕ)
after c [] = None
after c (b ∷ bs) = cond (b == c) (Some bs) (after c bs)

-- what a lent text holds
abbrev pub lent : Option (Bor (List ℕ)) → Option (List ℕ)
lent None = None
lent (Some x) = Some x.now

-- what stands between the c's of a text, before the first and after the last: one piece more than there are c's
abbrev pub pieces : (c : ℕ) → List ℕ → List (List ℕ)
pieces c text = slice_split (λ b. b == c) text

-- a text writes this number
abbrev pub Writes : List ℕ → ℕ → Type 0
Writes text n = IsNumber text × (number_of text ≡ n)

-- the numbers that stand between the commas; no message exactly where one of them is no number, and want of memory may always be
abbrev pub Listed : List ℕ → Result (Vec ℕ Global) Wrong → Type 0
Listed text (Ok v) = Each Writes (pieces 44 text) (vec_items v)
Listed text (Err NoSender) = ⊥
Listed text (Err NoMessage) = AllByRecursion IsNumber (pieces 44 text) → ⊥
Listed text (Err Memory) = Unit {0}

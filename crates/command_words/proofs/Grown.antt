-- A list that is made of another, one item after the other: each stands in a relation to its own.
-- each_push, each_length, each_none, each_more. Assumes nothing.
use Rattle.std.proofs.Common.{◌≡◌, ℕ, suc, ◌+◌, ◌<◌, List, [], ◌∷◌, ◌++◌, length, get_or, take, sym, refl, ap, ◌∙◌}
use Rattle.std.proofs.lemmas.List.{take_more}
use Rattle.command_words.specs.Each.{Each}

module _ {X Y : Type 0} (R : X → Y → Type 0) where
  pub each_push : (xs : List X) (ys : List Y) (x : X) (y : Y) → Each R xs ys → R x y → Each R (xs ++ (x ∷ [])) (ys ++ (y ∷ []))
  unfolding Each
  each_push [] [] x y e r = (r, tt)
  each_push [] (z ∷ zs) x y e r = absurd e
  each_push (w ∷ ws) [] x y e r = absurd e
  each_push (w ∷ ws) (z ∷ zs) x y e r = (e.0, each_push ws zs x y e.1 r)

  pub each_length : (xs : List X) (ys : List Y) → Each R xs ys → length ys ≡ length xs
  unfolding Each
  each_length [] [] e = refl
  each_length [] (y ∷ ys) e = absurd e
  each_length (x ∷ xs) [] e = absurd e
  each_length (x ∷ xs) (y ∷ ys) e = ap suc (each_length xs ys e.1)

  pub each_none : (xs : List X) → Each R (take 0 xs) []
  unfolding Each
  each_none xs = tt

  pub each_more : (xs : List X) (i : ℕ) (ys : List Y) (x : X) (y : Y) → i < length xs → x ≡ get_or xs i x → R x y → Each R (take i xs) ys → Each R (take (i + 1) xs) (ys ++ (y ∷ []))
  each_more xs i ys x y h e r so =
      let t : take (i + 1) xs ≡ take i xs ++ (x ∷ []) = take_more xs i x h ∙ ap (λ (z : X). take i xs ++ (z ∷ [])) (sym e) in
      rw t (each_push (take i xs) ys x y so r)

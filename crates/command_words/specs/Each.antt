-- Two lists, place by place.
-- Each. Assumes nothing.
use Rattle.std.specs.Prelude.{List, [], ◌∷◌}

-- they are equally long, and the items in each place stand in the relation
unfoldable pub Each : {X Y : Type 0} → (X → Y → Type 0) → List X → List Y → Type 0
Each R [] [] = Unit {0}
Each R [] (y ∷ ys) = ⊥
Each R (x ∷ xs) [] = ⊥
Each R (x ∷ xs) (y ∷ ys) = R x y × Each R xs ys

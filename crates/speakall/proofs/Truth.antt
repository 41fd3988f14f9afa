-- A test that came out true, as an equation and as a fact.
-- true_from, from_true. Assumes nothing.
use Rattle.std.proofs.Common.{◌≡◌, Bool, true, false, T, refl, subst}

pub true_from : (b : Bool) → T b → b ≡ true
true_from true t = refl
true_from false t = absurd t

pub from_true : (b : Bool) → true ≡ b → T b
from_true b e = subst T e tt

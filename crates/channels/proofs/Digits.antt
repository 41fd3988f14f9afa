-- A number's digits, one after the other, and the digits of a plan, from the highest down.
-- Written, written_none, written_more, written_all, one_lower. Assumes nothing.
use Rattle.std.proofs.Common.{◌≡◌, ℕ, suc, ◌+◌, ◌-◌, ◌/◌, ◌%◌, ◌<◌, ◌≤◌, List, [], ◌∷◌, ◌++◌, length, take, set, sym, ap, ◌∙◌, arith}
use Rattle.std.proofs.lemmas.List.{append_assoc, take_more_set, append-nil, length-set, take_all}
use Rattle.speakall.specs.Plan.{digits}

-- the invariant of the loop over the digits: those written, and then those of what is left of the number, are all
pub Written : (q n i rest : ℕ) → List ℕ → Type 0
Written q n i rest ds = take i ds ++ digits q rest (length ds - i) ≡ digits q n (length ds)

pub written_none : (q n : ℕ) (ds : List ℕ) → Written q n 0 n ds
unfolding Written
written_none q n ds = ap (digits q n) (omega arith)

pub written_more : (q n i rest : ℕ) (ds : List ℕ) → i < length ds → Written q n i rest ds → Written q n (i + 1) (rest / q) (set ds i (rest % q))
unfolding Written digits
written_more q n i rest ds h w =
    let e : length ds - i ≡ suc (length ds - (i + 1)) = omega arith in
    let s : digits q rest (length ds - i) ≡ (rest % q) ∷ digits q (rest / q) (length ds - (i + 1)) = ap (digits q rest) e in
    rw (length-set ds i (rest % q)) (ap (λ xs. xs ++ digits q (rest / q) (length ds - (i + 1))) (take_more_set ds i (rest % q) h) ∙ append_assoc (take i ds) (rest % q ∷ []) (digits q (rest / q) (length ds - (i + 1)))
    ∙ ap (λ xs. take i ds ++ xs) (sym s) ∙ w)

pub written_all : (q n i rest : ℕ) (ds : List ℕ) → length ds ≤ i → Written q n i rest ds → ds ≡ digits q n (length ds)
unfolding Written digits
written_all q n i rest ds h w =
    let e : length ds - i ≡ 0 = omega arith in
    sym (take_all i ds h) ∙ sym (append-nil (take i ds)) ∙ ap (λ m. take i ds ++ digits q rest m) (sym e) ∙ w

-- the last of the lower digits joins the higher ones
pub one_lower : {ds lower : List ℕ} (left : List ℕ) (d : ℕ) (higher : List ℕ) → ds ≡ lower ++ higher → lower ≡ left ++ (d ∷ []) → ds ≡ left ++ (d ∷ higher)
one_lower left d higher e last = e ∙ ap (λ xs. xs ++ higher) last ∙ append_assoc left (d ∷ []) higher

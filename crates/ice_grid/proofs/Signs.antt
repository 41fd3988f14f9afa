-- The letter of a sender is looked for place by place: what is left decides. Rows grow by a sign at a time, and the lines above by a place.
-- letter_here, letter_more, letter_none; put_both; signs_none, signs_more, signs_not, signs_all; header_none, header_more; header_here, header_not; places, headers_more; label_padded. Assumes nothing.
use Rattle.std.proofs.Common.{◌≡◌, ℕ, ◌+◌, ◌-◌, ◌/◌, ◌%◌, ◌^◌, ◌<◌, ◌≤◌, Bool, true, false, cond, eqb, ltb, List, [], ◌∷◌, ◌++◌, ◌⊎◌, length, get_or, take, string_bytes, codes, decimal, String, sym, refl, ap, ◌∙◌, ⊎_elim, append_assoc, add-one, arith}
use lib.Utf8.{encode}
use Rattle.std.specs.List.{flat_map}
use Rattle.std.specs.Fmt.{before_digits, char_count, fill_after_digits, fill_text, format_spec, padded_integral}
use Rattle.std.proofs.lemmas.Fmt.{decimal_digit, decimal_step}
use Rattle.std.proofs.lemmas.Grind.{flat_map-append}
use Rattle.std.proofs.lemmas.List.{append-nil, length-append, map_push, take_more}
use Rattle.std.proofs.lemmas.Bool.{cases_lt, cond-false, cond-true, eq-eqb, le-ltb, lt-ltb, ne_eqb}
use Rattle.std.specs.declared.alloc.Global.{Global}
use Rattle.frames.specs.declared.slot.Slot.{Slot}
use Rattle.frames.specs.Slots.{slot_in}
use Rattle.ice_grid.specs.Marks.{blanks_of, digit_of, digits_to, header_of, letter_of, lines_in, mark_of, marks_to, signs_of}

no_letter : (n : ℕ) (xs : List ℕ) → letter_of n xs [] ≡ 63
unfolding letter_of
no_letter n [] = refl
no_letter n (x ∷ xs) = refl

module _ (n : ℕ) (xs ys : List ℕ) where
  letter_same : (ms ls : List ℕ) → xs ≡ ms → ys ≡ ls → letter_of n xs ys ≡ letter_of n ms ls
  letter_same ms ls a b = ap (λ zs. letter_of n zs ys) a ∙ ap (letter_of n ms) b

  letter_step : (ms ls : List ℕ) (m l : ℕ) → xs ≡ m ∷ ms → ys ≡ l ∷ ls → letter_of n xs ys ≡ cond (eqb m n) l (letter_of n ms ls)
  unfolding letter_of
  letter_step ms ls m l a b = letter_same (m ∷ ms) (l ∷ ls) a b

  pub letter_here : (ms ls : List ℕ) (m l : ℕ) → xs ≡ m ∷ ms → ys ≡ l ∷ ls → m ≡ n → letter_of n xs ys ≡ l
  letter_here ms ls m l a b e = letter_step ms ls m l a b ∙ ap (λ t. cond t l (letter_of n ms ls)) (eq-eqb m n e)

  pub letter_more : (ms ls : List ℕ) (m l : ℕ) → xs ≡ m ∷ ms → ys ≡ l ∷ ls → (m ≡ n → ⊥) → letter_of n xs ys ≡ letter_of n ms ls
  letter_more ms ls m l a b e = letter_step ms ls m l a b ∙ ap (λ t. cond t l (letter_of n ms ls)) (ne_eqb m n e)

  -- past the last number, or past the last letter
  pub letter_none : (xs ≡ []) ⊎ (ys ≡ []) → letter_of n xs ys ≡ 63
  unfolding letter_of
  letter_none h = ⊎_elim (λ a. ap (λ zs. letter_of n zs ys) a) (λ b. ap (letter_of n xs) b ∙ no_letter n xs) h

pub put_both : (s t u a b : List ℕ) → t ≡ s ++ a → u ≡ t ++ b → u ≡ s ++ (a ++ b)
put_both s t u a b e f = f ∙ ap (λ (z : List ℕ). z ++ b) e ∙ append_assoc s a b

cond_nothing : (b : Bool) → cond {A = List ℕ} b [] [] ≡ []
cond_nothing true = refl
cond_nothing false = refl

module _ (q : ℕ) (ss : List Slot) (ns : List ℕ) (y : ℕ) where
  abbrev pub signs_to : ℕ → List ℕ
  signs_to n = cond (ltb y q) (marks_to q ss ns y n) []

  pub signs_none : (t : List ℕ) → t ≡ t ++ signs_to 0
  unfolding marks_to
  signs_none t = sym (ap (λ (z : List ℕ). t ++ z) (cond_nothing (ltb y q)) ∙ append-nil t)

  -- a sign more of a slot that is there
  pub signs_more : (n : ℕ) (had t u : List ℕ) (s : Slot) (m : ℕ) → t ≡ had ++ signs_to n → y < q → s ≡ slot_in q ss n y → m ≡ mark_of s ns → u ≡ t ++ (encode 32 ++ encode m) → u ≡ had ++ signs_to (n + 1)
  unfolding marks_to
  signs_more n had t u s m e h a b g =
      let one : List ℕ = encode 32 ++ encode (mark_of (slot_in q ss n y) ns) in
      let k : m ≡ mark_of (slot_in q ss n y) ns = b ∙ ap (λ (z : Slot). mark_of z ns) a in
      let old : signs_to n ≡ marks_to q ss ns y n = cond-true _ _ _ (lt-ltb y q h) in
      let new : signs_to (n + 1) ≡ marks_to q ss ns y n ++ one = cond-true _ _ _ (lt-ltb y q h) ∙ ap (marks_to q ss ns y) (add-one n) in
      put_both had t u (signs_to n) one e (g ∙ ap (λ (z : ℕ). t ++ (encode 32 ++ encode z)) k) ∙ ap (λ (z : List ℕ). had ++ (z ++ one)) old ∙ ap (λ (z : List ℕ). had ++ z) (sym new)

  -- and none of one that isn't
  pub signs_not : (n : ℕ) (had t : List ℕ) → t ≡ had ++ signs_to n → q ≤ y → t ≡ had ++ signs_to (n + 1)
  signs_not n had t e h =
      let old : signs_to n ≡ [] = cond-false _ _ _ (le-ltb y q h) in
      let new : signs_to (n + 1) ≡ [] = cond-false _ _ _ (le-ltb y q h) in
      e ∙ ap (λ (z : List ℕ). had ++ z) (old ∙ sym new)

  pub signs_all : (n : ℕ) (had t : List ℕ) → t ≡ had ++ signs_to n → n ≡ q → t ≡ had ++ signs_of q ss ns y
  unfolding signs_of
  signs_all n had t e h = e ∙ ap (λ (z : ℕ). had ++ signs_to z) h

module _ (place : ℕ) where
  pub header_none : (h t : List ℕ) → t ≡ h → t ≡ h ++ digits_to place 0
  unfolding digits_to
  header_none h t e = e ∙ sym (append-nil h)

  digits_more : (n : ℕ) → digits_to place (n + 1) ≡ digits_to place n ++ (encode 32 ++ encode (digit_of n place))
  unfolding digits_to
  digits_more n = ap (digits_to place) (add-one n)

  pub header_more : (n : ℕ) (h t u : List ℕ) (m : ℕ) → t ≡ h ++ digits_to place n → m ≡ digit_of n place → u ≡ t ++ (encode 32 ++ encode m) → u ≡ h ++ digits_to place (n + 1)
  header_more n h t u m e b g =
      put_both h t u (digits_to place n) (encode 32 ++ encode (digit_of n place)) e (g ∙ ap (λ (z : ℕ). t ++ (encode 32 ++ encode z)) b) ∙ ap (λ (z : List ℕ). h ++ z) (sym (digits_more n))

module _ (q place : ℕ) (vs : List (String Global)) where
  pub header_here : (ws : List (String Global)) (x : String Global) → place < q → string_bytes x ≡ codes "   " ++ digits_to place q → ws ≡ vs ++ (x ∷ []) → lines_in ws ≡ lines_in vs ++ header_of q place
  unfolding header_of
  header_here ws x h e g =
      rw (lt-ltb place q h) (ap lines_in g ∙ map_push string_bytes vs x ∙ ap (λ (z : List ℕ). lines_in vs ++ (z ∷ [])) e)

  pub header_not : q ≤ place → lines_in vs ≡ lines_in vs ++ header_of q place
  unfolding header_of
  header_not h = rw (le-ltb place q h) (sym (append-nil (lines_in vs)))

abbrev pub places : List ℕ
places = 100 ∷ 10 ∷ 1 ∷ []

module _ (q : ℕ) where
  pub headers_more : (i : ℕ) (ls us : List (List ℕ)) → i < 3 → ls ≡ flat_map (header_of q) (take i places) → us ≡ ls ++ header_of q (get_or places i 0) → us ≡ flat_map (header_of q) (take (i + 1) places)
  headers_more i ls us h e g =
      g ∙ ap (λ (z : List (List ℕ)). z ++ header_of q (get_or places i 0)) e
      ∙ ap (λ (z : List (List ℕ)). flat_map (header_of q) (take i places) ++ z) (sym (append-nil (header_of q (get_or places i 0))))
      ∙ sym (ap (flat_map (header_of q)) (take_more places i 0 h) ∙ flat_map-append (header_of q) (take i places) (get_or places i 0 ∷ []))

-- a number in three places
padded_by : (n k : ℕ) → length (decimal n) ≡ k → padded_integral (format_spec 32 0 0 3 (2 ^ 64 - 1)) false [] (decimal n) ≡ before_digits (format_spec 32 0 0 3 (2 ^ 64 - 1)) false [] k ++ (decimal n ++ fill_text (format_spec 32 0 0 3 (2 ^ 64 - 1)) (fill_after_digits (format_spec 32 0 0 3 (2 ^ 64 - 1)) false [] k))
unfolding padded_integral
padded_by n k e = ap (λ (j : ℕ). before_digits (format_spec 32 0 0 3 (2 ^ 64 - 1)) false [] j ++ (decimal n ++ fill_text (format_spec 32 0 0 3 (2 ^ 64 - 1)) (fill_after_digits (format_spec 32 0 0 3 (2 ^ 64 - 1)) false [] j))) e

one_digit : (n : ℕ) → n < 10 → length (decimal n) ≡ 1
one_digit n h = ap length (decimal_digit n h)

two_digits : (n : ℕ) → 10 ≤ n → n < 100 → length (decimal n) ≡ 2
two_digits n g h =
    ap length (decimal_step n g (omega arith)) ∙ length-append (decimal (n / 10)) ((48 + n % 10) ∷ []) ∙ ap (λ (k : ℕ). k + 1) (one_digit (n / 10) (omega arith))

three_digits : (n : ℕ) → 100 ≤ n → n < 1000 → length (decimal n) ≡ 3
three_digits n g h =
    ap length (decimal_step n (omega arith) (omega arith)) ∙ length-append (decimal (n / 10)) ((48 + n % 10) ∷ []) ∙ ap (λ (k : ℕ). k + 1) (two_digits (n / 10) (omega arith) (omega arith))

pub label_padded : (n : ℕ) → n < 256 → padded_integral (format_spec 32 0 0 3 (2 ^ 64 - 1)) false [] (decimal n) ≡ blanks_of n ++ decimal n
unfolding char_count encode
label_padded n h =
    let whole = append-nil (decimal n) in
    ⊎_elim
    (λ a. padded_by n 1 (one_digit n a) ∙ ap (λ z. codes "  " ++ z) whole ∙ ap (λ z. z ++ decimal n) (sym (cond-true _ _ _ (lt-ltb n 10 a))))
    (λ a.
    ⊎_elim
    (λ b. padded_by n 2 (two_digits n a b) ∙ ap (λ z. codes " " ++ z) whole ∙ ap (λ z. z ++ decimal n) (sym (cond-false _ _ _ (le-ltb n 10 a) ∙ cond-true _ _ _ (lt-ltb n 100 b))))
    (λ b. padded_by n 3 (three_digits n b (omega arith)) ∙ whole ∙ ap (λ z. z ++ decimal n) (sym (cond-false _ _ _ (le-ltb n 10 a) ∙ cond-false _ _ _ (le-ltb n 100 b))))
    (cases_lt n 100))
    (cases_lt n 10)

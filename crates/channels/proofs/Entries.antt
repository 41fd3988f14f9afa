-- From the test over the whole table of inverses to each of its entries: one induction over a row, one step over the rows.
-- rows_entry, rows_more. Assumes nothing.
use Rattle.std.proofs.Common.{◌≡◌, ℕ, zero, suc, ◌+◌, ◌-◌, ◌*◌, ◌%◌, ◌<◌, true, ◌&&◌, eqb, ltb, List, [], ◌∷◌, length, get_or, take, drop, sym, ◌∙◌, subst, add-zero, arith}
use Rattle.std.proofs.lemmas.List.{at_drop_more}
use Rattle.std.proofs.lemmas.Bool.{and_parts, ltb-true, eqb-true}
use Rattle.channels.specs.Rows.{Inverse, row, rows}

row_entry : (q a : ℕ) (vs : List ℕ) → row q a vs ≡ true → (i : ℕ) → i < length vs → Inverse q (a + i) (get_or vs i 0)
row_entry q a [] t i h = absurd (omega arith)
row_entry q a (v ∷ vs) t zero h =
    let x = and_parts (ltb v q && eqb ((a * v) % q) 1) (row q (suc a) vs) t in
    let y = and_parts (ltb v q) (eqb ((a * v) % q) 1) x.0 in
    rw (add-zero a) (ltb-true v q y.0, eqb-true ((a * v) % q) 1 y.1)
row_entry q a (v ∷ vs) t (suc i) h =
    let x = and_parts (ltb v q && eqb ((a * v) % q) 1) (row q (suc a) vs) t in
    let r = row_entry q (suc a) vs x.1 i (omega arith) in
    subst (λ (b : ℕ). Inverse q b (get_or vs i 0)) (omega arith) r

module _ (qs vs : List ℕ) (i q : ℕ) (h : i < length qs) (e : q ≡ get_or qs i 0) (t : rows (drop i qs) vs ≡ true) where
  at_row : (eqb (length (take (q - 1) vs)) (q - 1) && row q 1 (take (q - 1) vs) && rows (drop (i + 1) qs) (drop (q - 1) vs)) ≡ true
  at_row = subst (λ (x : ℕ). (eqb (length (take (x - 1) vs)) (x - 1) && row x 1 (take (x - 1) vs) && rows (drop (i + 1) qs) (drop (x - 1) vs)) ≡ true) (sym e)
      (sym (at_drop_more (λ l. rows l vs) qs i 0 h) ∙ t)

  parts : (length (take (q - 1) vs) ≡ q - 1) × (row q 1 (take (q - 1) vs) ≡ true) × (rows (drop (i + 1) qs) (drop (q - 1) vs) ≡ true)
  parts =
      let a = and_parts (eqb (length (take (q - 1) vs)) (q - 1) && row q 1 (take (q - 1) vs)) (rows (drop (i + 1) qs) (drop (q - 1) vs)) at_row in
      let b = and_parts (eqb (length (take (q - 1) vs)) (q - 1)) (row q 1 (take (q - 1) vs)) a.0 in
      (eqb-true (length (take (q - 1) vs)) (q - 1) b.0, b.1, a.1)

  -- an entry of the row of q
  pub rows_entry : (a : ℕ) → 0 < a → a < q → Inverse q a (get_or (take (q - 1) vs) (a - 1) 0)
  rows_entry a p l =
      let long = parts.0 in
      let r = row_entry q 1 (take (q - 1) vs) parts.1 (a - 1) (omega arith) in
      subst (λ (b : ℕ). Inverse q b (get_or (take (q - 1) vs) (a - 1) 0)) (omega arith) r

  -- the rows after it
  pub rows_more : rows (drop (i + 1) qs) (drop (q - 1) vs) ≡ true
  rows_more = parts.2

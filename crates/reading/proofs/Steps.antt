-- One step of a reading, by what stands first.
-- read_none, read_more, read_wrong, read_short. Assumes nothing.
use Rattle.std.proofs.Common.{◌≡◌, ℕ, zero, suc, ◌+◌, ◌-◌, ◌<◌, ◌≤◌, List, [], ◌∷◌, length, drop, refl, ap, ◌∙◌, arith, Ok, Err, Result}
use Rattle.channels.specs.declared.fault.Fault.{Fault}
use Rattle.records.specs.declared.unread.Unread.{Unread}
use Rattle.records.specs.declared.unread.Unread.TheVariants.{Wrong, Short}
use Rattle.reading.specs.Reading.{Format, finished, cut_at, fault_at, onto, stepped, read_from}

module _ {A : Type 0} (f : Format A) where
  at_byte : (low a b skip : ℕ) (bs : List ℕ) → a ≡ b → read_from f low a skip bs ≡ read_from f low b skip bs
  at_byte low a b skip bs e = ap (λ n. read_from f low n skip bs) e

  read_skip : (low at skip : ℕ) (bs : List ℕ) → skip ≤ length bs → read_from f low at skip bs ≡ read_from f low (at + skip) 0 (drop skip bs)
  unfolding read_from
  read_skip low at zero bs h = at_byte low at (at + 0) 0 bs (omega arith)
  read_skip low at (suc skip) [] h = absurd (omega arith)
  read_skip low at (suc skip) (b ∷ bs) h = read_skip low (at + 1) skip bs (omega arith) ∙ at_byte low (at + 1 + skip) (at + suc skip) 0 (drop skip bs) (omega arith)

  pub read_none : (low at : ℕ) (bs : List ℕ) → length bs ≡ 0 → read_from f low at 0 bs ≡ record { given = []; ending = finished }
  unfolding read_from
  read_none low at [] h = refl
  read_none low at (b ∷ bs) h = absurd (omega arith)

  first_step : (low at b : ℕ) (bs : List ℕ) (r : Result A Unread) → f.first low (b ∷ bs) ≡ r → read_from f low at 0 (b ∷ bs) ≡ stepped at r (λ x. read_from f (f.after x) (at + 1) (f.size x - 1) bs)
  unfolding read_from
  first_step low at b bs r e = ap (λ y. stepped at y (λ x. read_from f (f.after x) (at + 1) (f.size x - 1) bs)) e

  skipped : (low at n b : ℕ) (bs : List ℕ) → 0 < n → n ≤ length (b ∷ bs) → read_from f low (at + 1) (n - 1) bs ≡ read_from f low (at + n) 0 (drop n (b ∷ bs))
  skipped low at zero b bs p h = absurd (omega arith)
  skipped low at (suc n) b bs p h =
      let e : suc n - 1 ≡ n = omega arith in
      rw e (read_skip low (at + 1) n bs (omega arith) ∙ at_byte low (at + 1 + n) (at + suc n) 0 (drop n bs) (omega arith))

  pub read_more : (low at : ℕ) (bs : List ℕ) (x : A) → 0 < f.size x → f.size x ≤ length bs → f.first low bs ≡ Ok x →
      read_from f low at 0 bs ≡ onto (x ∷ []) (read_from f (f.after x) (at + f.size x) 0 (drop (f.size x) bs))
  read_more low at [] x p h e = absurd (omega arith)
  read_more low at (b ∷ bs) x p h e = first_step low at b bs (Ok x) e ∙ ap (onto (x ∷ [])) (skipped (f.after x) at (f.size x) b bs p h)

  pub read_wrong : (low at : ℕ) (bs : List ℕ) (g : Fault) → 0 < length bs → f.first low bs ≡ Err (Wrong g) → read_from f low at 0 bs ≡ record { given = []; ending = fault_at g at }
  read_wrong low at [] g h e = absurd (omega arith)
  read_wrong low at (b ∷ bs) g h e = first_step low at b bs (Err (Wrong g)) e

  pub read_short : (low at : ℕ) (bs : List ℕ) → 0 < length bs → f.first low bs ≡ Err Short → read_from f low at 0 bs ≡ record { given = []; ending = cut_at at }
  read_short low at [] h e = absurd (omega arith)
  read_short low at (b ∷ bs) h e = first_step low at b bs (Err Short) e

-- What bytes after a fault change, and what a cut loses, for records of any kind that are found by their own bytes alone.
-- fault_stays, last_lost. Assumes nothing.
use Rattle.std.proofs.Common.{◌≡◌, ℕ, zero, suc, ◌+◌, ◌-◌, ◌<◌, ◌≤◌, List, [], ◌∷◌, ◌++◌, length, take, drop, sym, refl, ap, ◌∙◌, subst, ⊎_elim, arith, Ok, Err, Result}
use Rattle.std.proofs.lemmas.List.{length-append, length-drop, length-take, drop-append-le, take-append-drop, take-take}
use Rattle.std.proofs.lemmas.Bool.{cases_lt}
use Rattle.std.proofs.lemmas.Slice.{between_is}
use Rattle.channels.specs.declared.fault.Fault.{Fault}
use Rattle.records.specs.declared.unread.Unread.{Unread}
use Rattle.records.specs.declared.unread.Unread.TheVariants.{Wrong, Short}
use Rattle.reading.specs.Reading.{Format, Lawful, fault_at, onto, read_from, FaultStays, LastLost, begun_before}
use Rattle.reading.proofs.Steps.{read_none, read_more, read_wrong, read_short}

module _ {A : Type 0} (f : Format A) (law : Lawful f) where
  -- of bytes of at most so many; by induction over how many
  abbrev StaysTo : ℕ → Type 0
  StaysTo n = (low at byte : ℕ) (fault : Fault) (bs more : List ℕ) → length bs ≤ n → (read_from f low at 0 bs).ending ≡ fault_at fault byte → read_from f low at 0 (bs ++ more) ≡ read_from f low at 0 bs

  stays_at : (n low at byte : ℕ) (fault : Fault) (bs more : List ℕ) (r : Result A Unread) → StaysTo n → f.first low bs ≡ r → 0 < length bs → length bs ≤ suc n → (read_from f low at 0 bs).ending ≡ fault_at fault byte →
      read_from f low at 0 (bs ++ more) ≡ read_from f low at 0 bs
  stays_at n low at byte fault bs more (Ok x) shorter o p l e =
      let s = law.sized low bs x o in
      let one = read_more f low at bs x s.0 s.1 o in
      let two = read_more f low at (bs ++ more) x s.0 (simp length-append (omega arith)) (law.whole_more low bs more x o) in
      let less : length (drop (f.size x) bs) ≤ n = simp length-drop (omega arith) in
      let rest = shorter (f.after x) (at + f.size x) byte fault (drop (f.size x) bs) more less (sym (ap (λ r. r.ending) one) ∙ e) in
      two ∙ ap (λ ys. onto (x ∷ []) (read_from f (f.after x) (at + f.size x) 0 ys)) (drop-append-le (f.size x) bs more s.1) ∙ ap (onto (x ∷ [])) rest ∙ sym one
  stays_at n low at byte fault bs more (Err (Wrong g)) shorter o p l e =
      read_wrong f low at (bs ++ more) g (simp length-append (omega arith)) (law.wrong_more low bs more g o) ∙ sym (read_wrong f low at bs g p o)
  stays_at n low at byte fault bs more (Err Short) shorter o p l e =
      let z = sym (ap (λ r. r.ending) (read_short f low at bs p o)) ∙ e in let y : ◌≡◌ {A = ℕ} 0 1 = cc in absurd (omega arith)

  stays : (n : ℕ) → StaysTo n
  stays n low at byte fault [] more l e = let z = sym (ap (λ r. r.ending) (read_none f low at [] refl)) ∙ e in let y : ◌≡◌ {A = ℕ} 0 1 = cc in absurd (omega arith)
  stays zero low at byte fault (b ∷ bs) more l e = absurd (omega arith)
  stays (suc n) low at byte fault (b ∷ bs) more l e = stays_at n low at byte fault (b ∷ bs) more (f.first low (b ∷ bs)) (stays n) refl (omega arith) l e

  pub fault_stays : FaultStays f
  fault_stays low at byte fault bs more e = stays (length bs) low at byte fault bs more (omega arith) e

  -- what a cut leaves of what stands first
  found_again : (low : ℕ) (bs : List ℕ) (c : ℕ) (y : A) → f.first low (take c bs) ≡ Ok y → f.first low bs ≡ Ok y
  found_again low bs c y e = subst (λ ys. f.first low ys ≡ Ok y) (take-append-drop c bs) (law.whole_more low (take c bs) (drop c bs) y e)

  pub found_cut : (low : ℕ) (bs : List ℕ) (c : ℕ) (x : A) → f.first low bs ≡ Ok x → f.size x ≤ c → f.first low (take c bs) ≡ Ok x
  found_cut low bs c x e h =
      let own = law.whole_more low (take (f.size x) bs) (drop (f.size x) (take c bs)) x (law.whole-own low bs x e) in
      let same : take (f.size x) bs ++ drop (f.size x) (take c bs) ≡ take c bs = ap (λ ys. ys ++ drop (f.size x) (take c bs)) (sym (take-take (f.size x) c bs h)) ∙ take-append-drop (f.size x) (take c bs) in
      subst (λ ys. f.first low ys ≡ Ok x) same own

  -- nothing is read of bytes that begin with no whole record
  none_of : (low at : ℕ) (bs : List ℕ) (r : Result A Unread) → f.first low bs ≡ r → ((x : A) → f.first low bs ≡ Ok x → ⊥) → (read_from f low at 0 bs).given ≡ []
  none_of low at [] r e n = ap (λ r. r.given) (read_none f low at [] refl)
  none_of low at (b ∷ bs) (Ok x) e n = absurd (n x e)
  none_of low at (b ∷ bs) (Err (Wrong g)) e n = ap (λ r. r.given) (read_wrong f low at (b ∷ bs) g (omega arith) e)
  none_of low at (b ∷ bs) (Err Short) e n = ap (λ r. r.given) (read_short f low at (b ∷ bs) (omega arith) e)

  abbrev Kept : (cut : ℕ) → (kept all : List A) → Type 0
  Kept cut kept all = (kept ≡ take (length kept) all) × (begun_before f.size cut all ≤ length kept + 1)

  begun_nothing : (cut : ℕ) → begun_before f.size cut [] ≤ 1
  unfolding begun_before
  begun_nothing cut = omega arith

  begun_zero : (all : List A) → begun_before f.size 0 all ≤ 1
  unfolding begun_before
  begun_zero [] = omega arith
  begun_zero (x ∷ xs) = omega arith

  begun_more : (cut : ℕ) (x : A) (xs : List A) → 0 < cut → begun_before f.size cut (x ∷ xs) ≡ suc (begun_before f.size (cut - f.size x) xs)
  unfolding begun_before
  begun_more zero x xs h = absurd (omega arith)
  begun_more (suc cut) x xs h = refl

  none_zero : (all : List A) → begun_before f.size 0 all ≡ 0
  unfolding begun_before
  none_zero [] = refl
  none_zero (x ∷ xs) = refl

  -- a record that the cut leaves whole
  kept_more : (cut : ℕ) (x : A) (kept all : List A) → 0 < cut → Kept (cut - f.size x) kept all → Kept cut (x ∷ kept) (x ∷ all)
  kept_more cut x kept all p k = (ap (λ ys. x ∷ ys) k.0, rw (begun_more cut x all p) (omega (arith, k.1)))

  -- a record that it does not
  kept_last : (cut : ℕ) (x : A) (all : List A) → 0 < cut → cut ≤ f.size x → Kept cut [] (x ∷ all)
  kept_last cut x all p h =
      let z : cut - f.size x ≡ 0 = omega arith in
      (refl, rw (begun_more cut x all p, z, none_zero all) (omega arith))

  abbrev LostTo : ℕ → Type 0
  LostTo n = (low at cut : ℕ) (bs : List ℕ) → length bs ≤ n → Kept cut (read_from f low at 0 (take cut bs)).given (read_from f low at 0 bs).given

  lost_whole : (n low at cut : ℕ) (bs : List ℕ) (x : A) → LostTo n → f.first low bs ≡ Ok x → 0 < cut → length bs ≤ suc n → f.size x ≤ cut →
      Kept cut (read_from f low at 0 (take cut bs)).given (read_from f low at 0 bs).given
  lost_whole n low at cut bs x shorter o p l h =
      let s = law.sized low bs x o in
      let one = read_more f low at bs x s.0 s.1 o in
      let two = read_more f low at (take cut bs) x s.0 (simp length-take (omega arith)) (found_cut low bs cut x o h) in
      let less : length (drop (f.size x) bs) ≤ n = simp length-drop (omega arith) in
      let rest = shorter (f.after x) (at + f.size x) (cut - f.size x) (drop (f.size x) bs) less in
      let same : take (cut - f.size x) (drop (f.size x) bs) ≡ drop (f.size x) (take cut bs) = between_is bs (f.size x) cut in
      rw (one, two, ← same) (kept_more cut x _ _ p rest)

  -- where nothing is read of the whole, nothing is of its front
  lost_none : (low at cut : ℕ) (bs : List ℕ) (r : Result A Unread) → f.first low bs ≡ r → ((x : A) → r ≡ Ok x → ⊥) → Kept cut (read_from f low at 0 (take cut bs)).given (read_from f low at 0 bs).given
  lost_none low at cut bs r o n =
      let all = none_of low at bs r o (λ x e. n x (sym o ∙ e)) in
      let front = none_of low at (take cut bs) (f.first low (take cut bs)) refl (λ y e. n y (sym o ∙ found_again low bs cut y e)) in
      rw (all, front) (refl, begun_nothing cut)

  -- a record that the cut goes through is not whole in front of it
  lost_last : (low at cut : ℕ) (bs : List ℕ) (x : A) → f.first low bs ≡ Ok x → 0 < cut → cut < f.size x → Kept cut (read_from f low at 0 (take cut bs)).given (read_from f low at 0 bs).given
  lost_last low at cut bs x o p h =
      let s = law.sized low bs x o in
      let one = read_more f low at bs x s.0 s.1 o in
      let front = none_of low at (take cut bs) (f.first low (take cut bs)) refl (λ y e.
      let t = law.sized low (take cut bs) y e in
      let m : length (take cut bs) ≤ cut = simp length-take (omega arith) in
      let whole : ◌≡◌ {A = Result A Unread} (Ok y) (Ok x) = sym (found_again low bs cut y e) ∙ o in
      let same : y ≡ x = cc in
      let size = ap f.size same in
      omega arith) in
      rw (one, front) (kept_last cut x _ p (omega arith))

  lost_at : (n low at cut : ℕ) (bs : List ℕ) (r : Result A Unread) → LostTo n → f.first low bs ≡ r → 0 < cut → length bs ≤ suc n → Kept cut (read_from f low at 0 (take cut bs)).given (read_from f low at 0 bs).given
  lost_at n low at cut bs (Ok x) shorter o p l = ⊎_elim (λ h. lost_last low at cut bs x o p h) (λ h. lost_whole n low at cut bs x shorter o p l h) (cases_lt cut (f.size x))
  lost_at n low at cut bs (Err (Wrong g)) shorter o p l = lost_none low at cut bs (Err (Wrong g)) o (λ x e. let y : ◌≡◌ {A = ℕ} 0 1 = cc in absurd (omega arith))
  lost_at n low at cut bs (Err Short) shorter o p l = lost_none low at cut bs (Err Short) o (λ x e. let y : ◌≡◌ {A = ℕ} 0 1 = cc in absurd (omega arith))

  lost : (n : ℕ) → LostTo n
  lost n low at zero bs l = rw (read_none f low at [] refl) (refl, begun_zero (read_from f low at 0 bs).given)
  lost n low at (suc cut) [] l = rw (read_none f low at [] refl) (refl, begun_nothing (suc cut))
  lost zero low at (suc cut) (b ∷ bs) l = absurd (omega arith)
  lost (suc n) low at (suc cut) (b ∷ bs) l = lost_at n low at (suc cut) (b ∷ bs) (f.first low (b ∷ bs)) (lost n) refl (omega arith) l

  pub last_lost : LastLost f
  last_lost low at cut bs = lost (length bs) low at cut bs (omega arith)

-- A record that its last byte makes whole, and where a reading that began elsewhere stops.
-- last_byte, byte_whole, byte_wrong, elsewhere. Assumes nothing.
use Rattle.std.proofs.Common.{◌≡◌, ℕ, zero, suc, ◌+◌, ◌-◌, ◌<◌, min, List, [], ◌∷◌, ◌++◌, length, sym, refl, ap, ◌∙◌, ⊎_elim, arith, Ok, Err, Result}
use Rattle.std.proofs.lemmas.List.{drop_at, length-append, take_at}
use Rattle.std.proofs.lemmas.Bool.{cases_lt}
use Rattle.channels.specs.declared.fault.Fault.{Fault}
use Rattle.records.specs.declared.unread.Unread.{Unread}
use Rattle.records.specs.declared.unread.Unread.TheVariants.{Wrong, Short}
use Rattle.reading.specs.Reading.{Lawful, Ending, Format, Reading, finished, cut_at, fault_at, onto, read_from, stepped}
use Rattle.reading.proofs.Steps.{read_more, read_wrong}
use Rattle.reading.proofs.Cuts.{found_cut}
use Rattle.reading.proofs.HeardLaws.{clash}

module _ {A : Type 0} (f : Format A) (law : Lawful f) where
  -- bytes that were short, and with one more are a record, are all its bytes
  pub last_byte : (low b : ℕ) (front : List ℕ) (x : A) → f.first low front ≡ Err Short → f.first low (front ++ (b ∷ [])) ≡ Ok x → f.size x ≡ length front + 1
  last_byte low b front x s e =
      let z = law.sized low (front ++ (b ∷ [])) x e in
      let l = length-append front (b ∷ []) in
      ⊎_elim (λ h. omega (arith, z.1))
      (λ h. clash x (sym s ∙ ap (f.first low) (sym (take_at front (b ∷ []) (length front) refl)) ∙ found_cut f law low (front ++ (b ∷ [])) (length front) x e h)) (cases_lt (length front) (f.size x))

  pub byte_whole : (low byte : ℕ) (held more : List ℕ) (x : A) → f.first low held ≡ Ok x → f.size x ≡ length held →
      read_from f low byte 0 (held ++ more) ≡ onto (x ∷ []) (read_from f (f.after x) (byte + length held) 0 more)
  byte_whole low byte held more x e s =
      let z = law.sized low held x e in
      read_more f low byte (held ++ more) x z.0 (simp length-append (omega arith)) (law.whole_more low held more x e)
      ∙ rw (s, drop_at held more (length held) refl) refl

  pub byte_wrong : (low byte : ℕ) (held more : List ℕ) (g : Fault) → 0 < length held → f.first low held ≡ Err (Wrong g) → read_from f low byte 0 (held ++ more) ≡ record { given = []; ending = fault_at g byte }
  byte_wrong low byte held more g p e = read_wrong f low byte (held ++ more) g (simp length-append (omega arith)) (law.wrong_more low held more g e)

-- the same ending, up to a byte that is counted to at most m
abbrev pub Alike : (m : ℕ) → Ending → Ending → Type 0
Alike m finished finished = Unit {0}
Alike m finished (cut_at b) = ⊥
Alike m finished (fault_at g b) = ⊥
Alike m (cut_at a) finished = ⊥
Alike m (cut_at a) (cut_at b) = min a m ≡ min b m
Alike m (cut_at a) (fault_at g b) = ⊥
Alike m (fault_at g a) finished = ⊥
Alike m (fault_at g a) (cut_at b) = ⊥
Alike m (fault_at g a) (fault_at h b) = (g ≡ h) × (min a m ≡ min b m)

module _ {A : Type 0} (f : Format A) (m : ℕ) where
  abbrev Same : Reading A → Reading A → Type 0
  Same r s = (r.given ≡ s.given) × Alike m r.ending s.ending

  same_step : (a b : ℕ) (o : Result A Unread) (one two : A → Reading A) → min a m ≡ min b m → ((x : A) → Same (one x) (two x)) → Same (stepped a o one) (stepped b o two)
  same_step a b (Ok x) one two e h = (ap (λ ys. x ∷ ys) (h x).0, (h x).1)
  same_step a b (Err (Wrong g)) one two e h = (refl, (refl, e))
  same_step a b (Err Short) one two e h = (refl, e)

  -- a reading does not depend on the byte at which it began, but for the byte that it tells
  pub elsewhere : (low a b skip : ℕ) (bs : List ℕ) → min a m ≡ min b m → Same (read_from f low a skip bs) (read_from f low b skip bs)
  unfolding read_from
  elsewhere low a b skip [] e = (refl, tt)
  elsewhere low a b (suc skip) (x ∷ bs) e = elsewhere low (a + 1) (b + 1) skip bs (omega arith)
  elsewhere low a b zero (x ∷ bs) e = same_step a b (f.first low (x ∷ bs)) _ _ e (λ y. elsewhere (f.after y) (a + 1) (b + 1) (f.size y - 1) bs (omega arith))

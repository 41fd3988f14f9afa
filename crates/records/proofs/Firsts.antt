-- What stands first in some bytes, by cases: nothing, another kind, too few bytes, and the rest.
-- first_none, first-other, first_cut, first_then; kind_is, kind_refused, channel_refused, kind_cut; channel_made, channel-not; heard-word_cut, heard_unknown, heard-word, heard_noise, heard_made;
-- counted_cut, counted; rest_short, rest_long. Assumes nothing.
use Rattle.std.proofs.Common.{◌≡◌, ℕ, ◌+◌, ◌-◌, ◌*◌, ◌<◌, ◌≤◌, Bool, true, false, cond, eqb, ltb, List, [], ◌∷◌, length, get_or, take, drop, sym, refl, ap, ◌∙◌, arith, Ok, Err, Result}
use Rattle.std.proofs.lemmas.List.{take_rest, length-drop}
use Rattle.std.proofs.lemmas.Result.{err_from_is_err_and}
use Rattle.std.specs.Result.{IsErrAnd}
use Rattle.std.proofs.lemmas.Bool.{eqb-true, ltb-false}
use Rattle.std.proofs.lemmas.Bool.Decides.{nat_tests}
use Rattle.channels.specs.declared.channel.Channel.{Channel}
use Rattle.channels.specs.declared.fault.Fault.{Fault}
use Rattle.channels.specs.declared.fault.Fault.TheVariants.{Kind as FaultKind, Channel as FaultChannel}
use Rattle.channels.specs.Settings.{settings, Made}
use Rattle.channels.specs.Valid.{Valid, is_valid}
use Rattle.channels.proofs.Facts.{test_from_valid, fit_from_test}
use Rattle.records.specs.declared.unread.Unread.{Unread}
use Rattle.records.specs.declared.unread.Unread.TheVariants.{Wrong, Short}
use Rattle.records.specs.declared.heard.What.{What}
use Rattle.records.specs.declared.heard.What.TheVariants.{Word, Noise}
use Rattle.records.specs.declared.heard.Heard.{Heard}
use Rattle.records.specs.Kinds.{after_kind, of_kind}
use Rattle.records.specs.Channels.{channel_in, settled}
use Rattle.records.specs.Hearing.{whole_in, headed}
use Rattle.records.specs.Messages.{count_in}
use Rattle.records.specs.Numbers.{four_at}
use Rattle.speakall.specs.Plan as statement

false_from : (b : Bool) → (b ≡ true → ⊥) → b ≡ false
false_from true n = absurd (n refl)
false_from false n = refl

-- which way a found record was come to
way : {A : Type 0} (a b c : Bool) (found : Result A Unread) (x : A) → cond a (Err Short) (cond b (cond c (Err Short) found) (Err (Wrong FaultKind))) ≡ Ok x → (a ≡ false) × (b ≡ true) × (c ≡ false) × (found ≡ Ok x)
way true b c found x e = let z : ◌≡◌ {A = ℕ} 0 1 = cc in absurd (omega arith)
way false true true found x e = let z : ◌≡◌ {A = ℕ} 0 1 = cc in absurd (omega arith)
way false true false found x e = (refl, refl, refl, e)
way false false c found x e = let z : ◌≡◌ {A = ℕ} 0 1 = cc in absurd (omega arith)

module _ {A : Type 0} (kind least : ℕ) (bs : List ℕ) (found : Result A Unread) where
  pub first_none : length bs ≡ 0 → (Err Short) ≡ of_kind kind least bs found
  unfolding of_kind
  first_none e = grind (arith, nat_tests)

  pub first-other : 0 < length bs → (get_or bs 0 0 ≡ kind → ⊥) → Err (Wrong FaultKind) ≡ of_kind kind least bs found
  unfolding of_kind
  first-other h n = grind (arith, nat_tests)

  pub first_cut : 0 < length bs → get_or bs 0 0 ≡ kind → length bs < least → (Err Short) ≡ of_kind kind least bs found
  unfolding of_kind
  first_cut h e l = grind (arith, nat_tests)

  pub first_then : 0 < least → least ≤ length bs → get_or bs 0 0 ≡ kind → of_kind kind least bs found ≡ found
  unfolding of_kind
  first_then p h e = grind (arith, nat_tests)

  -- and what is then known of the bytes
  pub first-whole : (x : A) → of_kind kind least bs found ≡ Ok x → (least ≤ length bs) × (get_or bs 0 0 ≡ kind) × (found ≡ Ok x)
  unfolding of_kind
  first-whole x e =
      let w = way (eqb (length bs) 0) (eqb (get_or bs 0 0) kind) (ltb (length bs) least) found x e in
      (ltb-false (length bs) least w.2, eqb-true (get_or bs 0 0) kind w.1, w.3)

-- what stands after the byte of a kind, and why nothing does
pub kind_is : (kind : ℕ) (bs rest : List ℕ) → after_kind kind bs ≡ Ok rest → bs ≡ kind ∷ rest
kind_is kind [] rest e = let z : ◌≡◌ {A = ℕ} 0 1 = cc in absurd (omega arith)
kind_is kind (b ∷ bs) rest e = grind (arith, nat_tests)

refused : {A : Type 0} (kind least : ℕ) (bs : List ℕ) (found : Result A Unread) (u : Unread) → after_kind kind bs ≡ Err u → Err u ≡ of_kind kind least bs found
unfolding of_kind
refused kind least [] found u e = let z : u ≡ Short = cc in ap Err z
refused kind least (b ∷ bs) found u e = grind (arith, nat_tests)

-- what a parser hands on that is refused by the kind
pub kind_refused : {A : Type 0} (kind least : ℕ) (bs : List ℕ) (found r : Result A Unread) (u : Unread) → IsErrAnd r (λ v. v ≡ u) → after_kind kind bs ≡ Err u → r ≡ of_kind kind least bs found
kind_refused kind least bs found r u i e = let p = err_from_is_err_and r i in rw (p.1, p.2) (refused kind least bs found u e)

pub channel_refused : (bs : List ℕ) (r : Result Channel Unread) (u : Unread) → IsErrAnd r (λ v. v ≡ u) → after_kind 1 bs ≡ Err u → settled r ≡ channel_in bs
channel_refused bs r u i e = let p = err_from_is_err_and r i in rw (p.1, p.2) (refused 1 4 bs _ u e)

-- too few bytes after it
pub kind_cut : {A : Type 0} (kind least : ℕ) (bs rest : List ℕ) (found : Result A Unread) → after_kind kind bs ≡ Ok rest → length rest + 1 < least → Err Short ≡ of_kind kind least bs found
kind_cut kind least bs rest found e l = let z = kind_is kind bs rest e in rw (kind_is kind bs rest e) (first_cut kind least (kind ∷ rest) found (omega arith) refl (omega arith))

module _ (bs : List ℕ) where
  pub channel_made : (c : Channel) → 4 ≤ length bs → get_or bs 0 0 ≡ 1 → Made c (get_or bs 1 0) (get_or bs 2 0) (get_or bs 3 0) → ◌≡◌ {A = Result statement.Channel Unread} (Ok (settings c)) (channel_in bs)
  channel_made c h e m = sym (first_then 1 4 bs _ (omega arith) h e ∙ rw (test_from_valid _ _ _ m.good) (ap Ok (sym m.same)))

  pub channel-not : (f : Fault) → 4 ≤ length bs → get_or bs 0 0 ≡ 1 → f ≡ FaultChannel → (Valid (get_or bs 1 0) (get_or bs 2 0) (get_or bs 3 0) → ⊥) → ◌≡◌ {A = Result statement.Channel Unread} (Err (Wrong f)) (channel_in bs)
  channel-not f h e g n =
      sym (first_then 1 4 bs _ (omega arith) h e ∙ rw (false_from (is_valid (get_or bs 1 0) (get_or bs 2 0) (get_or bs 3 0)) (λ t. n (fit_from_test _ _ _ t).good)) (ap (λ (x : Fault). Err (Wrong x)) (sym g)))

  pub heard-word_cut : 8 ≤ length bs → get_or bs 0 0 ≡ 3 → get_or bs 7 0 ≡ 1 → length bs < 20 → ◌≡◌ {A = Result Heard Unread} (Err Short) (whole_in bs)
  heard-word_cut h e w l = sym (first_then 3 8 bs _ (omega arith) h e ∙ grind (arith, nat_tests))

  pub heard_unknown : 8 ≤ length bs → get_or bs 0 0 ≡ 3 → (get_or bs 7 0 ≡ 1 → ⊥) → (get_or bs 7 0 ≡ 2 → ⊥) → ◌≡◌ {A = Result Heard Unread} (Err (Wrong FaultKind)) (whole_in bs)
  heard_unknown h e m n = sym (first_then 3 8 bs _ (omega arith) h e ∙ grind (arith, nat_tests))

  pub heard-word : 20 ≤ length bs → get_or bs 0 0 ≡ 3 → get_or bs 7 0 ≡ 1 → Ok (headed bs (Word (take 12 (drop 8 bs)))) ≡ whole_in bs
  heard-word h e w = sym (first_then 3 8 bs _ (omega arith) (omega arith) e ∙ grind (arith, nat_tests))

  pub heard_noise : 8 ≤ length bs → get_or bs 0 0 ≡ 3 → get_or bs 7 0 ≡ 2 → Ok (headed bs Noise) ≡ whole_in bs
  heard_noise h e w = sym (first_then 3 8 bs _ (omega arith) h e ∙ grind (arith, nat_tests))

  pub heard_made : (frame : ℕ) (what w : What) → frame ≡ four_at 1 bs → what ≡ w → Ok (headed bs w) ≡ whole_in bs →
      Ok (record { frame = frame; part = get_or bs 5 0; slot = get_or bs 6 0; what = what }) ≡ whole_in bs
  heard_made frame what w e g h = rw (e, g) h

  -- what is left after so many bytes, as a slice has it
  pub rest_short : (at n : ℕ) → length (take (length bs - at) (drop at bs)) < n → at ≤ length bs → length bs < at + n
  rest_short at n h l = omega (arith, simp (take_rest, length-drop) at h)

  pub rest_long : (at n : ℕ) → n ≤ length (take (length bs - at) (drop at bs)) → at ≤ length bs → at + n ≤ length bs
  rest_long at n h l = omega (arith, simp (take_rest, length-drop) at h)

-- a record whose length a count in it decides
module _ {A : Type 0} (kind least size : ℕ) (bs : List ℕ) (x : A) where
  pub counted_cut : 0 < least → least ≤ length bs → get_or bs 0 0 ≡ kind → length bs < size → ◌≡◌ {A = Result A Unread} (Err Short) (of_kind kind least bs (cond (ltb (length bs) size) (Err Short) (Ok x)))
  counted_cut p h e l = sym (first_then kind least bs _ p h e ∙ grind (arith, nat_tests))

  pub counted : 0 < least → least ≤ length bs → get_or bs 0 0 ≡ kind → size ≤ length bs → ◌≡◌ {A = Result A Unread} (Ok x) (of_kind kind least bs (cond (ltb (length bs) size) (Err Short) (Ok x)))
  counted p h e l = sym (first_then kind least bs _ p h e ∙ grind (arith, nat_tests))

-- a message that was found has all its numbers
counted-within : {A : Type 0} (b : Bool) (x y : A) → cond b (Err Short) (Ok x) ≡ Ok y → (b ≡ false) × (x ≡ y)
counted-within true x y e = let z : ◌≡◌ {A = ℕ} 0 1 = cc in absurd (omega arith)
counted-within false x y e = (refl, cc)

pub count_within : (bs : List ℕ) (n : ℕ) → count_in bs ≡ Ok n → 2 + 4 * n ≤ length bs
count_within bs n e =
    let w = counted-within (ltb (length bs) (2 + 4 * get_or bs 1 0)) (get_or bs 1 0) n (first-whole 2 2 bs _ n e).2 in
    let l = ltb-false (length bs) (2 + 4 * get_or bs 1 0) w.0 in
    rw w.1 at l

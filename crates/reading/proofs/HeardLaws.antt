-- A record of what was heard is found by its own bytes.
-- heard_short, heard_lawful. Assumes nothing.
use Rattle.std.proofs.Common.{◌≡◌, ℕ, ◌<◌, ◌≤◌, Bool, true, false, cond, List, ◌++◌, length, get_or, take, drop, sym, refl, ap, ◌∙◌, ⊎_elim, arith, Ok, Err, Result}
use Rattle.std.proofs.lemmas.List.{length-append, length-take, drop-append-le, take-append-le, take-append-drop, get_or_append_left, get_or-take, length-drop}
use Rattle.std.proofs.lemmas.Bool.{cases_lt, cases_eq}
use Rattle.channels.specs.declared.fault.Fault.{Fault}
use Rattle.channels.specs.declared.fault.Fault.TheVariants.{Kind as FaultKind, Order as FaultOrder}
use Rattle.records.specs.declared.unread.Unread.{Unread}
use Rattle.records.specs.declared.unread.Unread.TheVariants.{Wrong, Short}
use Rattle.records.specs.declared.heard.What.{What}
use Rattle.records.specs.declared.heard.What.TheVariants.{Word, Noise}
use Rattle.records.specs.declared.heard.Heard.{Heard}
use Rattle.records.specs.Hearing.{headed, heard_in, heard_size, in_order, whole_in}
use Rattle.records.proofs.Firsts.{first_none, first-other, first_cut, heard-word_cut, heard_unknown, heard-word, heard_noise}
use Rattle.reading.specs.Reading.{Lawful}
use Rattle.reading.specs.Formats.{heard_format}

-- which record stands first
data View (bs : List ℕ) : Type 0 where
  none : length bs ≡ 0 → View bs
  other : 0 < length bs → (get_or bs 0 0 ≡ 3 → ⊥) → View bs
  cut : 0 < length bs → get_or bs 0 0 ≡ 3 → length bs < 8 → View bs
  word_cut : 8 ≤ length bs → get_or bs 0 0 ≡ 3 → get_or bs 7 0 ≡ 1 → length bs < 20 → View bs
  a_word : 20 ≤ length bs → get_or bs 0 0 ≡ 3 → get_or bs 7 0 ≡ 1 → View bs
  a_noise : 8 ≤ length bs → get_or bs 0 0 ≡ 3 → get_or bs 7 0 ≡ 2 → View bs
  unknown : 8 ≤ length bs → get_or bs 0 0 ≡ 3 → (get_or bs 7 0 ≡ 1 → ⊥) → (get_or bs 7 0 ≡ 2 → ⊥) → View bs

view : (bs : List ℕ) → View bs
view bs =
    ⊎_elim (λ z. none z)
    (λ nz. ⊎_elim (λ k. ⊎_elim (λ c. cut (omega arith) k c)
    (λ l. ⊎_elim (λ w. ⊎_elim (λ c. word_cut l k w c) (λ a. a_word a k w) (cases_lt (length bs) 20))
    (λ nw. ⊎_elim (λ n. a_noise l k n) (λ nn. unknown l k nw nn) (cases_eq (get_or bs 7 0) 2)) (cases_eq (get_or bs 7 0) 1))
    (cases_lt (length bs) 8))
    (λ nk. other (omega arith) nk) (cases_eq (get_or bs 0 0) 3))
    (cases_eq (length bs) 0)

-- bytes after eight do not change the first eight
module _ (bs more : List ℕ) where
  at : (i : ℕ) → i < length bs → get_or (bs ++ more) i 0 ≡ get_or bs i 0
  at i h = get_or_append_left bs more 0 i h

  head_more : (what : What) → 8 ≤ length bs → headed (bs ++ more) what ≡ headed bs what
  head_more what h = rw (at 1 (omega arith), at 2 (omega arith), at 3 (omega arith), at 4 (omega arith), at 5 (omega arith), at 6 (omega arith)) refl

  word_more : 20 ≤ length bs → take 12 (drop 8 (bs ++ more)) ≡ take 12 (drop 8 bs)
  word_more h =
      let l : 12 ≤ length (drop 8 bs) = simp length-drop (omega arith) in
      ap (take 12) (drop-append-le 8 bs more (omega arith)) ∙ take-append-le 12 (drop 8 bs) more l

  longer : (n : ℕ) → n ≤ length bs → n ≤ length (bs ++ more)
  longer n h = simp length-append (omega arith)

  -- where a record can be told, bytes after it change nothing
  whole-stays : View bs → (whole_in bs ≡ Err Short → ⊥) → whole_in (bs ++ more) ≡ whole_in bs
  whole-stays (none z) n = absurd (n (sym (first_none 3 8 bs _ z)))
  whole-stays (other p k) n = sym (first-other 3 8 (bs ++ more) _ (longer 1 p) (λ e. k (sym (at 0 p) ∙ e))) ∙ first-other 3 8 bs _ p k
  whole-stays (cut p k c) n = absurd (n (sym (first_cut 3 8 bs _ p k c)))
  whole-stays (word_cut l k w c) n = absurd (n (sym (heard-word_cut bs l k w c)))
  whole-stays (a_word l k w) n =
      sym (heard-word (bs ++ more) (longer 20 l) (at 0 (omega arith) ∙ k) (at 7 (omega arith) ∙ w)) ∙ ap Ok (head_more (Word (take 12 (drop 8 (bs ++ more)))) (omega arith) ∙ ap (λ x. headed bs (Word x)) (word_more l)) ∙ heard-word bs l k w
  whole-stays (a_noise l k w) n = sym (heard_noise (bs ++ more) (longer 8 l) (at 0 (omega arith) ∙ k) (at 7 (omega arith) ∙ w)) ∙ ap Ok (head_more Noise l) ∙ heard_noise bs l k w
  whole-stays (unknown l k nw nn) n =
      sym (heard_unknown (bs ++ more) (longer 8 l) (at 0 (omega arith) ∙ k) (λ e. nw (sym (at 7 (omega arith)) ∙ e)) (λ e. nn (sym (at 7 (omega arith)) ∙ e))) ∙ heard_unknown bs l k nw nn

pub clash : {A : Type 0} {B : Type 0} {u : Unread} (x : A) → ◌≡◌ {A = Result A Unread} (Err u) (Ok x) → B
clash x e = let z : ◌≡◌ {A = ℕ} 0 1 = cc in absurd (omega arith)

pub short-wrong : {A : Type 0} {B : Type 0} (g : Fault) → ◌≡◌ {A = Result A Unread} (Err Short) (Err (Wrong g)) → B
short-wrong g e = let z : ◌≡◌ {A = ℕ} 0 1 = cc in absurd (omega arith)

pub whole_same : {A : Type 0} (x y : A) → ◌≡◌ {A = Result A Unread} (Ok x) (Ok y) → x ≡ y
whole_same x y e = cc

-- a record of a word has 20 bytes at hand, and one of noise 8
whole-sized : (bs : List ℕ) (h : Heard) → View bs → whole_in bs ≡ Ok h → (7 < heard_size h) × (heard_size h ≤ length bs) × (whole_in (take (heard_size h) bs) ≡ Err Short → ⊥)
whole-sized bs h (none z) e = clash h (first_none 3 8 bs _ z ∙ e)
whole-sized bs h (other p k) e = clash h (first-other 3 8 bs _ p k ∙ e)
whole-sized bs h (cut p k c) e = clash h (first_cut 3 8 bs _ p k c ∙ e)
whole-sized bs h (word_cut l k w c) e = clash h (heard-word_cut bs l k w c ∙ e)
whole-sized bs h (a_word l k w) e =
    let same = whole_same _ h (heard-word bs l k w ∙ e) in
    let size : heard_size h ≡ 20 = ap heard_size (sym same) in
    (omega arith, omega arith, rw size (λ s. clash _ (sym s ∙ sym (heard-word (take 20 bs) (simp length-take (omega arith)) (get_or-take 20 bs 0 0 (omega arith) ∙ k) (get_or-take 20 bs 7 0 (omega arith) ∙ w)))))
whole-sized bs h (a_noise l k w) e =
    let same = whole_same _ h (heard_noise bs l k w ∙ e) in
    let size : heard_size h ≡ 8 = ap heard_size (sym same) in
    (omega arith, omega arith, rw size (λ s. clash _ (sym s ∙ sym (heard_noise (take 8 bs) (simp length-take (omega arith)) (get_or-take 8 bs 0 0 (omega arith) ∙ k) (get_or-take 8 bs 7 0 (omega arith) ∙ w)))))
whole-sized bs h (unknown l k nw nn) e = clash h (heard_unknown bs l k nw nn ∙ e)

-- what is short has fewer than 20 bytes
whole_short : (bs : List ℕ) → View bs → whole_in bs ≡ Err Short → length bs < 20
whole_short bs (none z) e = omega arith
whole_short bs (other p k) e = short-wrong FaultKind (sym e ∙ sym (first-other 3 8 bs _ p k))
whole_short bs (cut p k c) e = omega arith
whole_short bs (word_cut l k w c) e = c
whole_short bs (a_word l k w) e = clash _ (sym e ∙ sym (heard-word bs l k w))
whole_short bs (a_noise l k w) e = clash _ (sym e ∙ sym (heard_noise bs l k w))
whole_short bs (unknown l k nw nn) e = short-wrong FaultKind (sym e ∙ sym (heard_unknown bs l k nw nn))

-- the order of records makes none of another, and none short
chosen : (b : Bool) (h x : Heard) → cond b (Ok h) (Err (Wrong FaultOrder)) ≡ Ok x → h ≡ x
chosen true h x e = whole_same h x e
chosen false h x e = clash x e

never_short : (b : Bool) (h : Heard) → cond b (Ok h) (Err (Wrong FaultOrder)) ≡ Err Short → ◌≡◌ {A = Result Heard Unread} (Ok h) (Err Short)
never_short true h e = e
never_short false h e = short-wrong FaultOrder (sym e)

order_whole : (q low : ℕ) (r : Result Heard Unread) (x : Heard) → in_order q low r ≡ Ok x → r ≡ Ok x
order_whole q low (Ok h) x e = ap Ok (chosen _ h x e)
order_whole q low (Err u) x e = clash x e

order_short : (q low : ℕ) (r : Result Heard Unread) → in_order q low r ≡ Err Short → r ≡ Err Short
order_short q low (Ok h) e = never_short _ h e
order_short q low (Err u) e = e

pub heard_short : (q low : ℕ) (bs : List ℕ) → heard_in q low bs ≡ Err Short → length bs < 20
heard_short q low bs e = whole_short bs (view bs) (order_short q low (whole_in bs) e)

module _ (q low : ℕ) (bs : List ℕ) where
  stays : (more : List ℕ) → (heard_in q low bs ≡ Err Short → ⊥) → heard_in q low (bs ++ more) ≡ heard_in q low bs
  stays more n = ap (in_order q low) (whole-stays bs more (view bs) (λ s. n (ap (in_order q low) s)))

  own : (x : Heard) → heard_in q low bs ≡ Ok x → heard_in q low (take (heard_size x) bs) ≡ Ok x
  own x e =
      let s = whole-sized bs x (view bs) (order_whole q low (whole_in bs) x e) in
      let front = whole-stays (take (heard_size x) bs) (drop (heard_size x) bs) (view (take (heard_size x) bs)) s.2 in
      ap (in_order q low) (sym front ∙ ap whole_in (take-append-drop (heard_size x) bs)) ∙ e

pub heard_lawful : (q : ℕ) → Lawful (heard_format q)
heard_lawful q = record {
  sized = λ low bs x e. let s = whole-sized bs x (view bs) (order_whole q low (whole_in bs) x e) in (omega (arith, s.0), s.1);
  whole_more = λ low bs more x e. stays q low bs more (λ s. clash x (sym s ∙ e)) ∙ e;
  wrong_more = λ low bs more g e. stays q low bs more (λ s. short-wrong g (sym s ∙ e)) ∙ e;
  whole-own = λ low bs x e. own q low bs x e;
}

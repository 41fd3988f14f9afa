-- A message to a sender is found by its own bytes.
-- message_lawful, message_whole. Assumes nothing.
use Rattle.std.proofs.Common.{◌≡◌, ℕ, ◌+◌, ◌*◌, ◌<◌, ◌≤◌, Bool, true, false, cond, ◌&&◌, eqb, List, ◌++◌, length, get_or, take, drop, sym, refl, ap, ◌∙◌, ⊎_elim, arith, Ok, Err, Result}
use Rattle.std.proofs.lemmas.List.{length-append, length-take, length-take-le, drop-append-le, take-append-le, take-append-drop, get_or_append_left, get_or-take, length-drop}
use Rattle.std.proofs.lemmas.Bool.{and_parts, cases_lt, cases_eq, eqb-true}
use Rattle.channels.specs.declared.fault.Fault.TheVariants.{Message as FaultMessage}
use Rattle.records.specs.declared.unread.Unread.{Unread}
use Rattle.records.specs.declared.unread.Unread.TheVariants.{Wrong, Short}
use Rattle.records.specs.Messages.{count_in, message_in, message_size, sized}
use Rattle.records.specs.Numbers.{are_small, numbers_of}
use Rattle.records.proofs.Firsts.{first_none, first-other, first_cut, counted, counted_cut, count_within}
use Rattle.records.proofs.Fours.{length_numbers}
use Rattle.reading.specs.Reading.{Lawful}
use Rattle.reading.specs.Formats.{message_format}
use Rattle.reading.proofs.HeardLaws.{clash, short-wrong, whole_same}

-- which message stands first
data View (bs : List ℕ) : Type 0 where
  none : length bs ≡ 0 → View bs
  other : 0 < length bs → (get_or bs 0 0 ≡ 2 → ⊥) → View bs
  cut : 0 < length bs → get_or bs 0 0 ≡ 2 → length bs < 2 → View bs
  numbers_cut : 2 ≤ length bs → get_or bs 0 0 ≡ 2 → length bs < 2 + 4 * get_or bs 1 0 → View bs
  all : 2 ≤ length bs → get_or bs 0 0 ≡ 2 → 2 + 4 * get_or bs 1 0 ≤ length bs → View bs

view : (bs : List ℕ) → View bs
view bs =
    ⊎_elim (λ z. none z)
    (λ nz. ⊎_elim (λ k. ⊎_elim (λ c. cut (omega arith) k c) (λ l. ⊎_elim (λ c. numbers_cut l k c) (λ a. all l k a) (cases_lt (length bs) (2 + 4 * get_or bs 1 0))) (cases_lt (length bs) 2))
    (λ nk. other (omega arith) nk) (cases_eq (get_or bs 0 0) 2))
    (cases_eq (length bs) 0)

count_stays : (bs more : List ℕ) → View bs → (count_in bs ≡ Err Short → ⊥) → count_in (bs ++ more) ≡ count_in bs
count_stays bs more (none z) n = absurd (n (sym (first_none 2 2 bs _ z)))
count_stays bs more (other p k) n = sym (first-other 2 2 (bs ++ more) _ (simp length-append (omega arith)) (λ e. k (sym (get_or_append_left bs more 0 0 p) ∙ e))) ∙ first-other 2 2 bs _ p k
count_stays bs more (cut p k c) n = absurd (n (sym (first_cut 2 2 bs _ p k c)))
count_stays bs more (numbers_cut l k c) n = absurd (n (sym (counted_cut 2 2 _ bs _ (omega arith) l k c)))
count_stays bs more (all l k a) n =
    let zero-at = get_or_append_left bs more 0 0 (omega arith) in
    let one_at = get_or_append_left bs more 0 1 (omega arith) in
    let far : 2 + 4 * get_or (bs ++ more) 1 0 ≤ length (bs ++ more) = rw one_at (simp length-append (omega arith)) in
    sym (counted 2 2 _ (bs ++ more) _ (omega arith) (simp length-append (omega arith)) (zero-at ∙ k) far) ∙ ap Ok one_at ∙ counted 2 2 _ bs _ (omega arith) l k a

-- as many numbers as the count says
numbers_at : (bs : List ℕ) (n : ℕ) → 2 + 4 * n ≤ length bs → length (numbers_of (take (4 * n) (drop 2 bs))) ≡ n
numbers_at bs n h = length_numbers n (take (4 * n) (drop 2 bs)) (simp (length-take, length-drop) (omega arith))

chosen : {A : Type 0} (b : Bool) (h x : A) → cond b (Ok h) (Err (Wrong FaultMessage)) ≡ Ok x → (b ≡ true) × (h ≡ x)
chosen true h x e = (refl, whole_same h x e)
chosen false h x e = clash x e

never_short : {A : Type 0} (b : Bool) (h : A) → cond b (Ok h) (Err (Wrong FaultMessage)) ≡ Err Short → ◌≡◌ {A = Result A Unread} (Ok h) (Err Short)
never_short true h e = e
never_short false h e = short-wrong FaultMessage (sym e)

count_whole : (bs : List ℕ) (n : ℕ) → View bs → count_in bs ≡ Ok n → (2 ≤ length bs) × (get_or bs 0 0 ≡ 2) × (get_or bs 1 0 ≡ n)
count_whole bs n (none z) e = clash n (first_none 2 2 bs _ z ∙ e)
count_whole bs n (other p k) e = clash n (first-other 2 2 bs _ p k ∙ e)
count_whole bs n (cut p k c) e = clash n (first_cut 2 2 bs _ p k c ∙ e)
count_whole bs n (numbers_cut l k c) e = clash n (counted_cut 2 2 _ bs _ (omega arith) l k c ∙ e)
count_whole bs n (all l k a) e = (l, k, whole_same (get_or bs 1 0) n (counted 2 2 _ bs _ (omega arith) l k a ∙ e))

-- a message is the numbers behind its count
sized-whole : (s : ℕ) (bs : List ℕ) (r : Result ℕ Unread) (x : List ℕ) → sized s bs r ≡ Ok x → (n : ℕ) × (r ≡ Ok n) × (numbers_of (take (4 * n) (drop 2 bs)) ≡ x) × (n ≡ s)
sized-whole s bs (Ok n) x e =
    let m = chosen (eqb n s && are_small (numbers_of (take (4 * n) (drop 2 bs)))) _ x e in
    (n, refl, m.1, eqb-true n s (and_parts (eqb n s) _ m.0).0)
sized-whole s bs (Err u) x e = clash x e

sized_same : (s : ℕ) (bs cs : List ℕ) (r : Result ℕ Unread) → ((n : ℕ) → r ≡ Ok n → take (4 * n) (drop 2 cs) ≡ take (4 * n) (drop 2 bs)) → sized s cs r ≡ sized s bs r
sized_same s bs cs (Ok n) h = ap (λ (ys : List ℕ). cond (eqb n s && are_small (numbers_of ys)) (Ok (numbers_of ys)) (Err (Wrong FaultMessage))) (h n refl)
sized_same s bs cs (Err u) h = refl

sized_short : (s : ℕ) (bs : List ℕ) (r : Result ℕ Unread) (n : ℕ) → r ≡ Ok n → sized s bs r ≡ Err Short → ⊥
sized_short s bs (Ok m) n e h = clash _ (sym (never_short _ _ h))
sized_short s bs (Err u) n e h = clash n e

stays : (s : ℕ) (bs more : List ℕ) → (message_in s bs ≡ Err Short → ⊥) → message_in s (bs ++ more) ≡ message_in s bs
stays s bs more n =
    ap (sized s (bs ++ more)) (count_stays bs more (view bs) (λ z. n (ap (sized s bs) z))) ∙ sized_same s bs (bs ++ more) (count_in bs) (λ m e.
    let w = count_within bs m e in
    let l : 4 * m ≤ length (drop 2 bs) = simp length-drop (omega arith) in
    ap (take (4 * m)) (drop-append-le 2 bs more (omega arith)) ∙ take-append-le (4 * m) (drop 2 bs) more l)

-- how many numbers a message has, and how many bytes
pub message_whole : (s : ℕ) (bs : List ℕ) (x : List ℕ) → message_in s bs ≡ Ok x → (count_in bs ≡ Ok (length x)) × (message_size x ≤ length bs) × (length x ≡ s)
message_whole s bs x e =
    let m = sized-whole s bs (count_in bs) x e in
    let w = count_within bs m.0 m.1 in
    let l : length x ≡ m.0 = ap length (sym m.2) ∙ numbers_at bs m.0 w in
    (m.1 ∙ ap Ok (sym l), omega arith, l ∙ m.3)

own : (s : ℕ) (bs x : List ℕ) → message_in s bs ≡ Ok x → message_in s (take (message_size x) bs) ≡ Ok x
own s bs x e =
    let w = message_whole s bs x e in
    let c = count_whole bs (length x) (view bs) w.0 in
    let front = take (message_size x) bs in
    let long : length (take (message_size x) bs) ≡ message_size x = length-take-le (message_size x) bs w.1 in
    let kind : get_or (take (message_size x) bs) 0 0 ≡ 2 = get_or-take (message_size x) bs 0 0 (omega arith) ∙ c.1 in
    let n : get_or (take (message_size x) bs) 1 0 ≡ length x = get_or-take (message_size x) bs 1 0 (omega arith) ∙ c.2 in
    let far : 2 + 4 * get_or (take (message_size x) bs) 1 0 ≤ length (take (message_size x) bs) = rw (n, long) (omega arith) in
    let count = sym (counted 2 2 (2 + 4 * get_or front 1 0) front (get_or front 1 0) (omega arith) (omega arith) kind far) in
    sym (stays s front (drop (message_size x) bs) (sized_short s front (count_in front) (get_or front 1 0) count)) ∙ ap (message_in s) (take-append-drop (message_size x) bs) ∙ e

pub message_lawful : (s : ℕ) → Lawful (message_format s)
message_lawful s = record {
  sized = λ low bs x e. (omega arith, (message_whole s bs x e).1);
  whole_more = λ low bs more x e. stays s bs more (λ z. clash x (sym z ∙ e)) ∙ e;
  wrong_more = λ low bs more g e. stays s bs more (λ z. short-wrong g (sym z ∙ e)) ∙ e;
  whole-own = λ low bs x e. own s bs x e;
}

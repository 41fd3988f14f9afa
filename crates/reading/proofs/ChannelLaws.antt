-- The record of a channel is found by its own bytes.
-- channel-stays, channel_short. Assumes nothing.
use Rattle.std.proofs.Common.{◌≡◌, ℕ, ◌<◌, ◌≤◌, Bool, true, false, cond, List, ◌++◌, length, get_or, sym, ◌∙◌, ⊎_elim, arith, Ok, Err}
use Rattle.std.proofs.lemmas.List.{length-append, get_or_append_left}
use Rattle.std.proofs.lemmas.Bool.{cases_lt, cases_eq}
use Rattle.channels.specs.declared.fault.Fault.{Fault}
use Rattle.channels.specs.declared.fault.Fault.TheVariants.{Kind as FaultKind}
use Rattle.records.specs.Channels.{channel_in}
use Rattle.records.specs.declared.unread.Unread.TheVariants.{Wrong, Short}
use Rattle.records.proofs.Firsts.{first_none, first-other, first_cut, first_then}
use Rattle.reading.proofs.HeardLaws.{clash, short-wrong}

never_short : {A : Type 0} (b : Bool) (x : A) (g : Fault) → cond b (Ok x) (Err (Wrong g)) ≡ Err Short → ⊥
never_short true x g e = clash x (sym e)
never_short false x g e = short-wrong g (sym e)

pub channel_short : (bs : List ℕ) → channel_in bs ≡ Err Short → length bs < 4
channel_short bs e =
    ⊎_elim (λ h. h)
    (λ l. ⊎_elim (λ k. absurd (never_short _ _ _ (sym (first_then 1 4 bs _ (omega arith) l k) ∙ e))) (λ k. short-wrong FaultKind (sym e ∙ sym (first-other 1 4 bs _ (omega arith) k))) (cases_eq (get_or bs 0 0) 1))
    (cases_lt (length bs) 4)

-- all four bytes are there
four_stay : (bs more : List ℕ) → get_or bs 0 0 ≡ 1 → 4 ≤ length bs → channel_in (bs ++ more) ≡ channel_in bs
four_stay bs more k l =
    let long : 4 ≤ length (bs ++ more) = simp length-append (omega arith) in
    first_then 1 4 (bs ++ more) _ (omega arith) long (get_or_append_left bs more 0 0 (omega arith) ∙ k)
    ∙ rw (get_or_append_left bs more 0 1 (omega arith), get_or_append_left bs more 0 2 (omega arith), get_or_append_left bs more 0 3 (omega arith)) (sym (first_then 1 4 bs _ (omega arith) l k))

other-stays : (bs more : List ℕ) → (get_or bs 0 0 ≡ 1 → ⊥) → 0 < length bs → channel_in (bs ++ more) ≡ channel_in bs
other-stays bs more k p =
    let long : 0 < length (bs ++ more) = simp length-append (omega arith) in
    sym (first-other 1 4 (bs ++ more) _ long (λ e. k (sym (get_or_append_left bs more 0 0 p) ∙ e))) ∙ first-other 1 4 bs _ p k

pub channel-stays : (bs more : List ℕ) → (channel_in bs ≡ Err Short → ⊥) → channel_in (bs ++ more) ≡ channel_in bs
channel-stays bs more n =
    ⊎_elim (λ z. absurd (n (sym (first_none 1 4 bs _ z))))
    (λ nz. ⊎_elim (λ k. ⊎_elim (λ c. absurd (n (sym (first_cut 1 4 bs _ (omega arith) k c)))) (λ l. four_stay bs more k l) (cases_lt (length bs) 4)) (λ k. other-stays bs more k (omega arith)) (cases_eq (get_or bs 0 0) 1))
    (cases_eq (length bs) 0)

-- A whole input: its channel, and then its records.
-- channel_long, seen_more, message_there, message_taken. Assumes nothing.
use Rattle.std.proofs.Common.{◌≡◌, ℕ, ◌+◌, ◌-◌, ◌*◌, ◌≤◌, List, [], ◌∷◌, ◌++◌, map, length, take, drop, sym, refl, ap, ◌∙◌, arith, Ok}
use Rattle.std.proofs.lemmas.List.{map-append}
use Rattle.records.specs.Channels.{channel_in}
use Rattle.records.specs.Messages.{message_in, message_size}
use Rattle.records.specs.Numbers.{numbers_of}
use Rattle.records.proofs.Firsts.{first-whole}
use Rattle.reading.proofs.MessageLaws.{message_whole}
use Rattle.speakall.specs.Plan as statement

pub channel_long : (bs : List ℕ) (x : statement.Channel) → channel_in bs ≡ Ok x → 4 ≤ length bs
channel_long bs x e = (first-whole 1 4 bs _ x e).0

-- one record more, as it is seen
pub seen_more : {R A : Type 0} (seen : R → A) (read more : List R) (x : R) → more ≡ read ++ (x ∷ []) → map seen more ≡ map seen read ++ (seen x ∷ [])
seen_more seen read more x e = rw e (map-append seen read (x ∷ []))

-- a message that was found has all its numbers, as many as a message has
pub message_there : (s : ℕ) (left : List ℕ) (n m : ℕ) → Ok (numbers_of (take (4 * n) (drop 2 left))) ≡ message_in s left → n ≡ s → m ≡ n →
    (2 + 4 * m ≤ length left) × (length (numbers_of (take (4 * n) (drop 2 left))) ≡ n)
message_there s left n m e k z =
    let w = message_whole s left (numbers_of (take (4 * n) (drop 2 left))) (sym e) in
    let l = w.2 ∙ sym k in
    (omega (arith, w.1), l)

-- and these are taken out of its bytes
pub message_taken : (s : ℕ) (bs : List ℕ) (n m : ℕ) (items : List ℕ) → Ok (numbers_of (take (4 * n) (drop 2 bs))) ≡ message_in s bs → length (numbers_of (take (4 * n) (drop 2 bs))) ≡ n → m ≡ n →
    items ≡ numbers_of (take (2 + 4 * m - 2) (drop 2 bs)) → (message_in s bs ≡ Ok items) × (2 + 4 * m ≡ message_size items) × (◌≡◌ {A = ℕ} 0 0)
message_taken s bs n m items o l e k =
    let four : 2 + 4 * m - 2 ≡ 4 * n = omega arith in
    let same : items ≡ numbers_of (take (4 * n) (drop 2 bs)) = rw (k, four) refl in
    (sym o ∙ ap Ok (sym same), omega (arith, ap length same), refl)

use Rattle.std.proofs.Common.{◌≡◌, ℕ, ◌+◌, ◌-◌, ◌^◌, ◌<◌, min, List, [], ◌∷◌, length, Some, Err, ap, sym, ◌∙◌, arith, rules}
use Rattle.std.proofs.lemmas.List.{length-append}
use Rattle.channels.specs.Settings.{settings}
use Rattle.records.specs.Hearing.{after_heard, heard_in}
use Rattle.reading.proofs.HeardLaws.{heard_short}
use Rattle.pieces.specs.Coming.{after, coming}
use Rattle.pieces.specs.Waiting.{held_in}
use Rattle.pieces.specs.declared.phase.Phase.TheVariants.{Records, Over}
use Rattle.pieces.proofs.Stepping.{heard-waits, heard-whole, heard_wrong}
use Rattle.pieces.proofs.heard_reader.step.heard_in.Goals as goal

pub at-requires-clause-waited : goal.at-requires-clause-waited
at-requires-clause-waited c = rw c.none.ensures (heard-waits _ _)

pub at-requires-in-Err-Short-clause-few : goal.at-requires-in-Err-Short-clause-few
at-requires-in-Err-Short-clause-few c =
    heard_short c.args.channel.q c.args.low (held_in c.args.held) (ap (heard_in c.args.channel.q c.args.low) (sym c.bytes.ensures) ∙ sym c.first.ensures ∙ c.in-Err-Short.is ∙ ap Err c.in-Err-Short.field-0-is)

pub returns-in-Ok : goal.returns-in-Ok
returns-in-Ok c = λ more.
    let (front, b, held, short) = c.requires in
    let far : c.saturating_add-next.result ≡ min (c.args.byte + length (held_in c.args.held)) (2 ^ 64 - 1) =
    c.saturating_add-next.ensures ∙ ap (λ (n : ℕ). min (c.args.byte + n) (2 ^ 64 - 1)) (c.from.ensures ∙ c.count.ensures) in
    let low : c.place.result + 1 ≡ after_heard c.in-Ok.heard = ap (λ (n : ℕ). n + 1) c.place.ensures in
    heard-whole (Some (settings c.args.channel)) c.args.channel.q c.args.low c.args.byte (held_in c.args.held) more front b c.saturating_add-next.result c.in-Ok.heard short held
    (ap (heard_in c.args.channel.q c.args.low) (sym c.bytes.ensures) ∙ sym c.first.ensures ∙ c.in-Ok.is) far
    ∙ ap (after (c.in-Ok.heard ∷ [])) (ap (λ (n : ℕ). coming (Records c.args.channel n) c.saturating_add-next.result [] more) (sym low)
    ∙ sym (c.at.ensures more ∙ ap (λ (bs : List ℕ). coming (Records c.args.channel (c.place.result + 1)) c.saturating_add-next.result bs more) c.none.ensures))

pub returns-in-Err-Wrong : goal.returns-in-Err-Wrong
returns-in-Err-Wrong c = λ more.
    let (front, b, held, short) = c.requires in
    let some : 0 < length (held_in c.args.held) = omega (arith, ap length held, length-append front (b ∷ [])) in
    heard_wrong (Some (settings c.args.channel)) c.args.channel.q c.args.low c.args.byte (held_in c.args.held) more c.in-Err-Wrong.fault some (search rules)
    (ap (heard_in c.args.channel.q c.args.low) (sym c.bytes.ensures) ∙ sym c.first.ensures ∙ c.in-Err-Wrong.is ∙ ap Err c.in-Err-Wrong.field-0-is)
    ∙ sym (c.at-in-Err-Wrong.ensures more ∙ ap (λ (bs : List ℕ). coming (Over (Some c.args.channel) (record { fault = c.in-Err-Wrong.fault; byte = c.args.byte })) c.args.byte bs more) c.none-in-Err-Wrong.ensures)

use Rattle.std.proofs.Common.{ℕ, List, Err, None, ap, sym, ◌∙◌, arith}
use Rattle.records.specs.Channels.{channel_in, settled}
use Rattle.reading.proofs.ChannelLaws.{channel_short}
use Rattle.pieces.specs.Coming.{coming}
use Rattle.pieces.specs.Waiting.{held_in}
use Rattle.pieces.specs.declared.phase.Phase.TheVariants.{Records, Over}
use Rattle.pieces.proofs.Stepping.{heard-waits, opened-whole, opened_wrong}
use Rattle.pieces.proofs.heard_reader.step.opened.Goals as goal

pub at-requires-clause-waited : goal.at-requires-clause-waited
at-requires-clause-waited c = rw c.none.ensures (heard-waits _ _)

pub at-requires-in-Err-Short-clause-few : goal.at-requires-in-Err-Short-clause-few
at-requires-in-Err-Short-clause-few c =
    let few = channel_short (held_in c.args.held) (ap channel_in (sym c.bytes.ensures) ∙ sym c.channel_first.ensures ∙ ap settled (c.in-Err-Short.is ∙ ap Err c.in-Err-Short.field-0-is)) in
    omega arith

pub returns-in-Ok : goal.returns-in-Ok
returns-in-Ok c = λ more.
    let (front, b, held, short) = c.requires in
    opened-whole front (held_in c.args.held) more b c.in-Ok.channel short held (ap channel_in (sym c.bytes.ensures) ∙ sym c.channel_first.ensures ∙ ap settled c.in-Ok.is)
    ∙ sym (c.at.ensures more ∙ ap (λ (bs : List ℕ). coming (Records c.in-Ok.channel 0) 4 bs more) c.none.ensures)

pub returns-in-Err-Wrong : goal.returns-in-Err-Wrong
returns-in-Err-Wrong c = λ more.
    opened_wrong (held_in c.args.held) more c.in-Err-Wrong.fault (ap channel_in (sym c.bytes.ensures) ∙ sym c.channel_first.ensures ∙ ap settled (c.in-Err-Wrong.is ∙ ap Err c.in-Err-Wrong.field-0-is))
    ∙ sym (c.at-in-Err-Wrong.ensures more ∙ ap (λ (bs : List ℕ). coming (Over None (record { fault = c.in-Err-Wrong.fault; byte = 0 })) 0 bs more) c.none-in-Err-Wrong.ensures)

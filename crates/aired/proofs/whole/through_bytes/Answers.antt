use Rattle.std.proofs.Common.{◌≡◌, Some, None, sym, ap, ◌∙◌, rules}
use Rattle.channels.specs.Settings.{settings}
use Rattle.aired.proofs.Returning.{came_back, never_none, same-channel, only_memory, bytes_are, returned}
use Rattle.aired.proofs.whole.through_bytes.Goals as goal

pub returns-in_err-channel : goal.returns-in_err-channel
returns-in_err-channel c =
    let none : c.in_ok-input.input.channel ≡ None = search rules in
    let came = came_back (settings c.args.frame.now.channel) _ _ _ c.args.frame.now.channel.wide c.args.frame.now.channel.narrow (ap settings c.channel.ensures) _ _ _ _ c.in_ok-input.input c.in_ok-records.ensures c.deref.ensures.value
    c.in_ok-bytes.ensures.back c.deref-2.ensures.value c.in_ok-input.ensures in
    absurd (never_none _ _ none came.0)

pub returns-in_err-frame : goal.returns-in_err-frame
returns-in_err-frame c =
    let came = came_back (settings c.args.frame.now.channel) _ _ _ c.args.frame.now.channel.wide c.args.frame.now.channel.narrow (ap settings c.channel.ensures) _ _ _ _ c.in_ok-input.input c.in_ok-records.ensures c.deref.ensures.value
    c.in_ok-bytes.ensures.back c.deref-2.ensures.value c.in_ok-input.ensures in
    let some : c.in_ok-input.input.channel ≡ Some c.in_ok-channel.channel = search rules in
    let same = same-channel _ _ _ some came.0 in
    let memory = only_memory (settings c.args.frame.now.channel) _ _ _ c.args.frame.now.channel.wide c.args.frame.now.channel.narrow same _ _ _ came.1 c.deref-3.ensures.value c.in_err-frame.ensures.placed in
    record { bytes = search (rules, memory); back = search rules }

pub returns : goal.returns
returns c =
    let came = came_back (settings c.args.frame.now.channel) _ _ _ c.args.frame.now.channel.wide c.args.frame.now.channel.narrow (ap settings c.channel.ensures) _ _ _ _ c.in_ok-input.input c.in_ok-records.ensures c.deref.ensures.value
    c.in_ok-bytes.ensures.back c.deref-2.ensures.value c.in_ok-input.ensures in
    let some : c.in_ok-input.input.channel ≡ Some c.in_ok-channel.channel = search rules in
    let same = same-channel _ _ _ some came.0 in
    let end = c.in_ok-frame.ensures in
    record {
      bytes = (
        bytes_are (settings c.args.frame.now.channel) _ _ _ c.args.frame.now.channel.wide c.args.frame.now.channel.narrow (ap settings c.channel.ensures) _ _ _ c.in_ok-records.ensures c.deref.ensures.value c.in_ok-bytes.ensures.bytes,
        ap settings end.placed.0 ∙ same,
      );
      back = returned (settings c.args.frame.now.channel) _ _ _ c.args.frame.now.channel.wide c.args.frame.now.channel.narrow same _ _ _ came.1 c.deref-3.ensures.value (sym c.args.frame.now.slots.ok.0 ∙ c.args.frame.now.whole) c.args.frame.now.there end.kept;
    }

use Rattle.std.proofs.Common.{sym, ap, ◌∙◌, rules}
use Rattle.channels.specs.Settings.{settings}
use Rattle.records.specs.Channels.{settled}
use Rattle.readers.proofs.Wholes.{channel_long}
use Rattle.readers.proofs.input_read.read_input.Goals as goal

pub slice_bounds-read_records-count : goal.slice_bounds-read_records-count
slice_bounds-read_records-count g c = channel_long c.args.bytes.now (settings c.in-Ok.channel) (sym c.channel_first-found.ensures ∙ ap settled c.in-Ok.is)

pub slice_bounds-read_records-start : goal.slice_bounds-read_records-start
slice_bounds-read_records-start g c =
    let l = channel_long c.args.bytes.now (settings c.in-Ok.channel) (sym c.channel_first-found.ensures ∙ ap settled c.in-Ok.is) in
    search rules

use Rattle.channels.specs.Settings.{settings}
use Rattle.reading.proofs.Cuts.{fault_stays, last_lost}
use Rattle.readers.proofs.records_read.read_records.Goals as goal

pub returns-clause-stays : goal.returns-clause-stays
returns-clause-stays g c = fault_stays (g.R.Record.format (settings c.args.channel)) (g.met.R.Record.lawful (settings c.args.channel))

pub returns-clause-lost : goal.returns-clause-lost
returns-clause-lost g c = last_lost (g.R.Record.format (settings c.args.channel)) (g.met.R.Record.lawful (settings c.args.channel))

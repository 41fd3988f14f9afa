-- The fault of a record that is not read.
-- fault_of. Assumes nothing.
use Rattle.channels.specs.declared.fault.Fault.{Fault}
use Rattle.channels.specs.declared.fault.Fault.TheVariants.{Kind as FaultKind}
use Rattle.records.specs.declared.unread.Unread.{Unread}
use Rattle.records.specs.declared.unread.Unread.TheVariants.{Wrong, Short}

-- where no more bytes come, a record that is cut has fault 1
abbrev pub fault_of : Unread → Fault
fault_of (Wrong f) = f
fault_of Short = FaultKind

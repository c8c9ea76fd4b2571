-- The statuses with which the program ends, and their numbers.
use Rattle.std.specs.Prelude.{Err, Ok, Result, ℕ}
use Rattle.fault_io.specs.declared.writing.WriteFault.{WriteFault as SinkFault}
use Rattle.cluster_program.specs.declared.status.Status.{Status}
use Rattle.cluster_program.specs.declared.status.Status.TheVariants.{Done, Limit, NoMemory, NotEnabled, ReadFault, Refused, Usage, WriteFault}

abbrev pub status_number : Status → ℕ
status_number Done = 0
status_number Usage = 2
status_number Refused = 3
status_number NotEnabled = 4
status_number ReadFault = 5
status_number WriteFault = 6
status_number Limit = 7
status_number NoMemory = 8

-- a failed write wins over what went before it
abbrev pub status_after : Status → Result (Unit {0}) SinkFault → Status
status_after status (Ok nothing) = status
status_after status (Err fault) = WriteFault

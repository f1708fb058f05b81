-- The exit code of the process for each way in which a run ends.
use Rattle.std.specs.Prelude.{ℕ}
use Rattle.px_types.specs.declared.status.Status.{Status}
use Rattle.px_types.specs.declared.status.Status.TheVariants.{Ok, Refused, Usage, Memory, ReadFault, WriteFault, Device, Host, NoSuchSink, HistoryFull, Denied, BadReply, Gone, Silent}

abbrev pub exit_code : Status → ℕ
exit_code Ok = 0
exit_code Refused = 1
exit_code Usage = 2
exit_code Memory = 3
exit_code ReadFault = 4
exit_code WriteFault = 5
exit_code Device = 6
exit_code Host = 7
exit_code NoSuchSink = 8
exit_code HistoryFull = 9
exit_code Denied = 10
exit_code BadReply = 11
exit_code Gone = 12
exit_code Silent = 13

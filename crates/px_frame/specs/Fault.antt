-- The numbers of faults in recorded sessions.
use Rattle.std.specs.Prelude.{ℕ}
use Rattle.px_frame.specs.declared.fault.FrameFault.{FrameFault}
use Rattle.px_frame.specs.declared.fault.FrameFault.TheVariants.{ZeroLength, TooLong, PacketFlags, SharedMemory, SeekMode}

abbrev pub code_of : FrameFault → ℕ
code_of ZeroLength = 1
code_of TooLong = 2
code_of PacketFlags = 3
code_of SharedMemory = 4
code_of SeekMode = 5

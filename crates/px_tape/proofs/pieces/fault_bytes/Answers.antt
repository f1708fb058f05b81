use Rattle.px_tape.proofs.Faults.{zero_length, too_long, packet_flags, shared_memory, seek_mode}
use Rattle.px_tape.proofs.pieces.fault_bytes.Goals as goal

pub returns-in-ZeroLength : goal.returns-in-ZeroLength
returns-in-ZeroLength c = zero_length c.args.fault c.in-ZeroLength.is

pub returns-in-TooLong : goal.returns-in-TooLong
returns-in-TooLong c = too_long c.args.fault c.in-TooLong.is

pub returns-in-PacketFlags : goal.returns-in-PacketFlags
returns-in-PacketFlags c = packet_flags c.args.fault c.in-PacketFlags.is

pub returns-in-SharedMemory : goal.returns-in-SharedMemory
returns-in-SharedMemory c = shared_memory c.args.fault c.in-SharedMemory.is

pub returns-in-SeekMode : goal.returns-in-SeekMode
returns-in-SeekMode c = seek_mode c.args.fault c.in-SeekMode.is

use Rattle.std.proofs.Common.{arith}
use Rattle.px_frame.proofs.DescriptorLemmas.{spelled}
use Rattle.px_frame.proofs.descriptor.Descriptor.from_bytes.Goals as goal

pub returns-clause-bytes : goal.returns-clause-bytes
returns-clause-bytes c = spelled _ c.args.bytes.now (omega arith) c.word.ensures c.word-2.ensures c.word-3.ensures c.word-4.ensures c.word-5.ensures

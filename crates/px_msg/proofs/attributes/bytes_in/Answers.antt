use Rattle.std.proofs.Common.{arith}
use Rattle.std.proofs.Math.Nat.{mul-le-mul_right}
use Rattle.px_msg.proofs.attributes.bytes_in.Goals as goal

pub overflow_mul-result : goal.overflow_mul-result
overflow_mul-result c = let h = mul-le-mul_right c.args.size c.requires.within in omega (arith, h, c.requires.bytes)

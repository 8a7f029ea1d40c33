use Rattle.addr_slice.proofs.Rows.{least-trailing_zeros}
use Rattle.std.proofs.Common.{arith}
use Rattle.addr_slice.proofs.bits.least_bit.Goals as goal

pub returns-clause-least : goal.returns-clause-least
returns-clause-least c = least-trailing_zeros c.args.row c.requires (omega arith)

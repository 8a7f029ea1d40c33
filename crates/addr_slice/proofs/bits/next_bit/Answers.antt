use Rattle.std.proofs.Common.{arith}
use Rattle.addr_slice.proofs.Rows.{next_bit-none, next_bit-some}
use Rattle.addr_slice.proofs.bits.next_bit.Goals as goal

pub returns-then-rest-eq0-clause-next : goal.returns-then-rest-eq0-clause-next
returns-then-rest-eq0-clause-next c = next_bit-none c.args.row c.args.from (omega arith)

pub returns-else-rest-eq0-clause-within : goal.returns-else-rest-eq0-clause-within
returns-else-rest-eq0-clause-within c = (next_bit-some c.args.row c.args.from c.least_bit.result (omega arith) c.least_bit.ensures.least).0

pub returns-else-rest-eq0-clause-next : goal.returns-else-rest-eq0-clause-next
returns-else-rest-eq0-clause-next c = (next_bit-some c.args.row c.args.from c.least_bit.result (omega arith) c.least_bit.ensures.least).1

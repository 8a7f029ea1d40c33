use Rattle.addr_slice.proofs.Rows.{some-from_has_bit, has_bit-with_same, has_bit-with_other}
use Rattle.addr_slice.proofs.bits.with_bit.Goals as goal

pub returns-clause-some : goal.returns-clause-some
returns-clause-some c = some-from_has_bit _ c.args.bit (has_bit-with_same c.args.row c.args.bit c.requires)

pub returns-clause-set : goal.returns-clause-set
returns-clause-set c = has_bit-with_same c.args.row c.args.bit c.requires

pub returns-clause-others : goal.returns-clause-others
returns-clause-others c k apart = has_bit-with_other c.args.row c.args.bit k c.requires apart

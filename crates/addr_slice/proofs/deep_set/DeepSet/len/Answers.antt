use Rattle.std.proofs.Common.{length, ap, arith}
use Rattle.addr_slice.proofs.Sets.{length-flags_of}
use Rattle.addr_slice.proofs.deep_set.DeepSet.len.Goals as goal

pub returns-clause-len : goal.returns-clause-len
returns-clause-len c = omega (arith, ap length c.self.view_is, length-flags_of c.self.inside.count c.self.inside.rows.items)

pub returns-clause-few : goal.returns-clause-few
returns-clause-few c = omega (arith, ap length c.self.view_is, length-flags_of c.self.inside.count c.self.inside.rows.items)

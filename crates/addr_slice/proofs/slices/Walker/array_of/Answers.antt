use Rattle.std.proofs.Common.{◌<◌, length, subst, sym}
use Rattle.std.specs.Prelude.{IfSome}
use Rattle.nest_syntax.specs.Arrays.{arrays_of}
use Rattle.nest_mean.proofs.Scan.{is_there}
use Rattle.addr_slice.proofs.slices.Walker.array_of.Goals as goal

pub returns-clause-there : goal.returns-clause-there
returns-clause-there c = subst (λ found. IfSome found (λ n. n < length (arrays_of c.args.self.now.checked.now.decls))) (sym c.array_of.ensures) (is_there (arrays_of c.args.self.now.checked.now.decls) c.args.name)

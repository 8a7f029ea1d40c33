use Rattle.std.proofs.Common.{◌≡◌, ℕ, ◌<◌, Option, sym, subst, arith}
use Rattle.std.specs.Prelude.{IfSome}
use Rattle.std.proofs.lemmas.Grind.{common_steps}
use Rattle.nest_check.specs.Tables.{scalar_of}
use Rattle.nest_check.proofs.Few.{scalar_below}
use Rattle.nest_check.proofs.checked.Checked.scalar_of.Goals as goal

pub returns-clause-few : goal.returns-clause-few
returns-clause-few c =
    let is : c.unwrap_or.result ≡ scalar_of c.self.inside.program c.args.name = grind (arith, common_steps) in
    subst (λ (o : Option ℕ). IfSome o (λ scalar. scalar < 32)) (sym is) (scalar_below c.self.inside.program c.args.name c.self.invariant.keeps)

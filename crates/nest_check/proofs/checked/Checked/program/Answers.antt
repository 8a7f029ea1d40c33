use Rattle.std.proofs.Common.{◌≤◌, ◌<◌, ◌^◌, length, sum, subst, arith}
use Rattle.nest_syntax.specs.Arrays.{arrays_of, sizes_of}
use Rattle.nest_syntax.specs.Shape.{bodies_of}
use Rattle.nest_syntax.specs.declared.tree.Program.{Program}
use Rattle.nest_check.proofs.Distinct.{few_decls}
use Rattle.nest_check.proofs.Few.{few_words}
use Rattle.nest_check.proofs.Bodies.{few_bodies}
use Rattle.nest_check.proofs.checked.Checked.program.Goals as goal

pub returns-clause-few_decls : goal.returns-clause-few_decls
returns-clause-few_decls c =
    let few = few_decls c.self.inside.program c.self.invariant.named c.self.invariant.keeps in
    subst (λ (p : Program). length p.decls < 2 ^ 32) c.self.view_is (let less : length c.self.inside.program.decls < 4294967296 = omega (arith, few) in less)

pub returns-clause-few_bodies : goal.returns-clause-few_bodies
returns-clause-few_bodies c = subst (λ (p : Program). length (bodies_of p) ≤ 4096) c.self.view_is (few_bodies c.self.inside.program c.self.invariant.keeps)

pub returns-clause-few_words : goal.returns-clause-few_words
returns-clause-few_words c = subst (λ (p : Program). sum (sizes_of (arrays_of p.decls)) ≤ 1048576) c.self.view_is (few_words c.self.inside.program c.self.invariant.keeps)

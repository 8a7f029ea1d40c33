use Rattle.std.proofs.Common.{◌≡◌, arith}
use Rattle.std.proofs.lemmas.Grind.{common_steps}
use Rattle.nest_print.specs.Canonical as text
use Rattle.nest_print.proofs.Programs.{printed_comes_back}
use Rattle.nest_print.proofs.print.print_program.Goals as goal

pub returns-clause-comes_back : goal.returns-clause-comes_back
returns-clause-comes_back c = λ spelled again are.
    let same : c.regions.out.items ≡ text.canonical_text c.args.program.now = grind (arith, common_steps) in
    printed_comes_back c.requires.names.differ same spelled are

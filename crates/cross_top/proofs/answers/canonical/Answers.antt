use Rattle.std.proofs.Common.{ap, ◌∙◌}
use Rattle.nest_syntax.specs.declared.tree.Program.{Program}
use Rattle.nest_print.specs.Canonical.{canonical_text}
use Rattle.cross_top.specs.declared.status.Status.TheVariants as status
use Rattle.cross_top.proofs.answers.canonical.Goals as goal

pub returns : goal.returns
returns c =
    let text = c.in_ok-text.ensures.canonical ∙ ap (λ (p : Program). canonical_text p) c.program.ensures.same in
    λ i. record { status = status.Done; bytes = text i; history = c.new.ensures.items i }

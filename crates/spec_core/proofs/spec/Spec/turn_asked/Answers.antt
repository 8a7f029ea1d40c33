use Rattle.std.proofs.Common.{◌≡◌, Some, sym, ap, ◌∙◌}
use Rattle.progress_board.specs.declared.actors.Ask.TheVariants.{Ready}
use Rattle.progress_board.specs.declared.actors.Work.TheVariants as work
use Rattle.spec_core.proofs.spec.Spec.turn_asked.Goals as goal

pub returns-in-Some-Hop : goal.returns-in-Some-Hop
returns-in-Some-Hop g c = λ asked_so.
    let held = c.in-Some-Hop.ensures.holds (ap Some c.in-Some-Hop.field-0-is) in
    let no : Ready (work.Hop held.0) ≡ Ready (work.Turn c.args.row) = sym held.1 ∙ asked_so in
    cc

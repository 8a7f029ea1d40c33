use Rattle.std.proofs.Common.{ap, ◌∙◌}
use Rattle.spec_machine.specs.Facts.{restored}
use Rattle.spec_core.specs.Reports.{abort_in}
use Rattle.spec_core.specs.Tallies.{Tallied}
use Rattle.spec_core.proofs.Tallying.{restore_kept, restore_is}
use Rattle.spec_core.proofs.tally.Tally.restore.Goals as goal

pub invariant_of-self : goal.invariant_of-self
invariant_of-self c = let a = c.list_at.ensures in rw a (restore_kept c.self.inside.report c.args.cause c.self.invariant)

pub returns : goal.returns
returns c =
    let a = c.list_at.ensures in
    rw a (restore_is c.self.inside.report c.args.cause c.self.invariant
    ∙ ap (λ (t : Tallied). let u : Tallied = record t { facts = restored (abort_in c.args.cause) t.facts } in u) c.self.view_is)

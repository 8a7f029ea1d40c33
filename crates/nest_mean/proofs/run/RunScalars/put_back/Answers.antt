use Rattle.std.proofs.Common.{length, sym, ap, ◌∙◌}
use Rattle.nest_mean.specs.NamesChanged.{changed_in_loop}
use Rattle.nest_mean.proofs.Kept.{length-taken}
use Rattle.nest_mean.proofs.run.RunScalars.put_back.Goals as goal

pub invariant_of-self : goal.invariant_of-self
invariant_of-self c = c.self.invariant ∙ sym (ap length c.put_back.ensures ∙ length-taken (changed_in_loop c.args.invoked.now) c.self.inside.aside c.self.inside.present)

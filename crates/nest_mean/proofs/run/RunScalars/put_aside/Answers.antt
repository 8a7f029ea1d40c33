use Rattle.std.proofs.Common.{length, sym, ap, ◌∙◌, subst}
use Rattle.nest_mean.specs.NamesChanged.{changed_in_loop}
use Rattle.nest_mean.specs.Saved.{AreSaved}
use Rattle.nest_mean.proofs.Kept.{saves, length-taken}
use Rattle.nest_mean.proofs.run.RunScalars.put_aside.Goals as goal

pub invariant_of-self : goal.invariant_of-self
invariant_of-self c = ap length c.put_aside.ensures ∙ length-taken (changed_in_loop c.args.invoked.now) c.self.inside.present c.self.inside.aside ∙ c.self.invariant

pub returns-clause-saved : goal.returns-clause-saved
returns-clause-saved c =
    rw (sym c.self.view_is) (subst (AreSaved (changed_in_loop c.args.invoked.now) c.self.inside.present) (sym c.put_aside.ensures) (saves (changed_in_loop c.args.invoked.now) c.self.inside.present c.self.inside.aside c.self.invariant))

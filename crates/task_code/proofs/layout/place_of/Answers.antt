use Rattle.std.proofs.Common.{◌≡◌, ◌<◌, length, sym, ◌∙◌, subst}
use Rattle.std.specs.Prelude.{IfSome}
use Rattle.task_code.proofs.Places.{place_is, place_inside}
use Rattle.task_code.proofs.layout.place_of.Goals as goal

pub returns-clause-place : goal.returns-clause-place
returns-clause-place c = c.position_of.ensures ∙ place_is c.args.names.now c.args.name

pub returns-clause-inside : goal.returns-clause-inside
returns-clause-inside c = subst (λ p. IfSome p (λ place. place < length c.args.names.now)) (sym (c.position_of.ensures ∙ place_is c.args.names.now c.args.name)) (place_inside c.args.names.now c.args.name)

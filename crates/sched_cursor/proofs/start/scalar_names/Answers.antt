use Rattle.std.proofs.Common.{◌<◌, ◌+◌, sym, ◌∙◌, subst}
use Rattle.std.specs.Prelude.{IfSome}
use Rattle.sched_cursor.proofs.Numbers.{Numbers, none_numbered, numbered_next, not_numbered}
use Rattle.sched_cursor.proofs.start.scalar_names.Goals.{in-Some, in_default}
use Rattle.sched_cursor.proofs.start.scalar_names.Goals as goal

pub loop-name-init : goal.loop-name-init
loop-name-init c = none_numbered _

pub loop-name-preserved : goal.loop-name-preserved
loop-name-preserved c = elim c.match-scalar_of.branch [
  | in-Some w ↦ subst (λ n. Numbers c.args.checked.now (c.loop-name.name + 1) n) (sym w.names-is)
      (numbered_next c.args.checked.now c.loop-name.name w.in-Some.number c.loop-name.names (sym c.scalar_of.ensures.number ∙ w.in-Some.is)
      (subst (λ r. IfSome r (λ s. s < 32)) w.in-Some.is c.scalar_of.ensures.few) c.loop-name.invariant)
  | in_default w ↦ subst (λ n. Numbers c.args.checked.now (c.loop-name.name + 1) n) (sym w.names-is)
      (not_numbered c.args.checked.now c.loop-name.name c.loop-name.names (sym c.scalar_of.ensures.number ∙ w.in_default.is) c.loop-name.invariant)
]

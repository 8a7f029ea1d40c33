use Rattle.nest_runtime.proofs.Speculation.{histories_speculate}
use Rattle.nest_runtime.proofs.laws.histories_speculate.Goals as goal

pub returns : goal.returns
returns g c =
    histories_speculate _ g.met.G.Signature.holds_what_is_noted c.histories_commit_truly.ensures c.histories_give_up_for_cause.ensures c.histories_give_up_once.ensures c.histories_give_up_for_trap.ensures c.histories_count_steps.ensures c.histories_end_as_job.ensures

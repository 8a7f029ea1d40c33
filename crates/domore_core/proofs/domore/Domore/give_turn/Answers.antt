use Rattle.std.proofs.Common.{ap, ◌∙◌}
use Rattle.progress_board.specs.declared.actors.Ask.TheVariants.{Ready}
use Rattle.progress_board.specs.declared.actors.Work.TheVariants as work
use Rattle.domore_core.specs.declared.moves.Move.TheVariants.{Turn}
use Rattle.domore_core.proofs.Asking.{asked_by, some_move, made_turn}
use Rattle.domore_core.proofs.domore.Domore.give_turn.Goals as goal

pub number-number-requires : goal.number-number-requires
number-number-requires c = some_move c.args.self.now c.args.actor (Turn c.in-Some.turn) c.in-Some.ensures.0

pub returns-in-Some-clause-made : goal.returns-in-Some-clause-made
returns-in-Some-clause-made c = (
  asked_by c.args.self.now c.args.actor (Turn c.in-Some.turn) c.in-Some.ensures.0 ∙ ap (λ r. Ready (work.Turn r)) c.in-Some.ensures.1,
  c.apply.ensures,
  made_turn c.args.self.now c.args.actor c.in-Some.turn c.args.row c.number-number.result c.in-Some.ensures.0 c.in-Some.ensures.1 c.number-number.ensures,
)

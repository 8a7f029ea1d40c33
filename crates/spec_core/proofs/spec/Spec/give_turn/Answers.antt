use Rattle.std.proofs.Common.{ap, ◌∙◌}
use Rattle.progress_board.specs.declared.actors.Ask.TheVariants.{Ready}
use Rattle.progress_board.specs.declared.actors.Work.TheVariants as work
use Rattle.spec_core.specs.declared.moves.Move.TheVariants.{Turn}
use Rattle.spec_core.specs.Signatures.{signs}
use Rattle.spec_core.proofs.Asking.{asked_by}
use Rattle.spec_core.proofs.spec.Spec.give_turn.Goals as goal

pub returns-in-Some-clause-made : goal.returns-in-Some-clause-made
returns-in-Some-clause-made g c = (
  asked_by (signs g.G.Signature.EXACT g.G.Signature.holds g.G.Signature.nothing g.G.Signature.with_note) c.args.self.now c.args.actor (Turn c.in-Some.turn) c.in-Some.ensures.0 ∙ ap (λ r. Ready (work.Turn r)) c.in-Some.ensures.1,
  c.apply.ensures,
  c.made_by_turn-made.ensures,
)

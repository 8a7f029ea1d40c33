use Rattle.std.proofs.Common.{ap, ◌∙◌}
use Rattle.std.specs.Option.{option_map}
use Rattle.domore_core.specs.Moves.{told}
use Rattle.domore_core.specs.Engine.{Engine, move_of}
use Rattle.domore_core.proofs.Going.{goes_on}
use Rattle.domore_core.proofs.domore.Domore.next_move.Goals as goal

pub next_move-requires-clause-tickets : goal.next_move-requires-clause-tickets
next_move-requires-clause-tickets c = (goes_on _ c.self.invariant.legal).tickets

pub returns : goal.returns
returns c = c.next_move.ensures ∙ ap (λ (e : Engine). option_map told (move_of e c.args.actor)) c.self.view_is

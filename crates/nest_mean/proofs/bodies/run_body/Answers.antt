use Rattle.nest_mean.proofs.Locals.{turn_ends, turn_keeps}
use Rattle.nest_mean.proofs.bodies.run_body.Goals as goal

pub returns-clause-turn : goal.returns-clause-turn
returns-clause-turn c = turn_ends _ _ _ _ _ _ _ _ c.clear_locals.ensures c.run_block.ensures

pub returns-clause-names : goal.returns-clause-names
returns-clause-names c = (turn_keeps _ _ _ _ _ _ _ _ c.clear_locals.ensures c.run_block.ensures).many

pub returns-clause-others : goal.returns-clause-others
returns-clause-others c = (turn_keeps _ _ _ _ _ _ _ _ c.clear_locals.ensures c.run_block.ensures).others

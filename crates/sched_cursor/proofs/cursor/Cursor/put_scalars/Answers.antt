use Rattle.std.proofs.Common.{length, ap, ◌∙◌}
use Rattle.sched_cursor.proofs.Given.{as_many_with, as_many_named}
use Rattle.sched_cursor.proofs.cursor.Cursor.put_scalars.Goals as goal

pub returns-clause-names : goal.returns-clause-names
returns-clause-names c = ap length c.put.ensures ∙ as_many_with _ _ _ ∙ ap length c.put_named.ensures ∙ as_many_named c.self.inside.scalars c.self.inside.names c.args.into.now

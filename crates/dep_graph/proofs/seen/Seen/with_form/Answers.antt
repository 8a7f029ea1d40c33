use Rattle.dep_graph.proofs.Near.{match_self}
use Rattle.dep_graph.proofs.seen.Seen.with_form.Goals as goal

pub returns-in-Nothing-clause-is : goal.returns-in-Nothing-clause-is
returns-in-Nothing-clause-is c = (match_self c.args.subscript.now.form, (c.of.result, c.of.ensures, c.of-in-Nothing.ensures))

use Rattle.sched_cursor.proofs.Cursors.{goes_on}
use Rattle.sched_cursor.proofs.cursor.Cursor.advance.Goals as goal

pub returns-clause-of : goal.returns-clause-of
returns-clause-of c = goes_on c.args.checked.now c.args.words.now.words _ _ c.go.result c.requires.of c.go.ensures.moved c.go.ensures.kept

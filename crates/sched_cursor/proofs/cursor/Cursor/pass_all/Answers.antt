use Rattle.std.proofs.Common.{sym, subst}
use Rattle.sched_cursor.specs.Laws.{IsCursorOf}
use Rattle.sched_cursor.proofs.Cursors.{goes_past}
use Rattle.sched_cursor.proofs.cursor.Cursor.pass_all.Goals as goal

pub returns-clause-of : goal.returns-clause-of
returns-clause-of c = subst (IsCursorOf c.args.checked.now) (sym c.pass_turns.ensures) (goes_past c.args.checked.now _ c.requires.of)

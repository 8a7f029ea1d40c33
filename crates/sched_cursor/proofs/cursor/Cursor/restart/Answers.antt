use Rattle.std.proofs.Common.{sym, subst}
use Rattle.sched_cursor.specs.Laws.{IsCursorOf}
use Rattle.sched_cursor.proofs.Cursors.{goes_back}
use Rattle.sched_cursor.proofs.cursor.Cursor.restart.Goals as goal

pub returns-clause-of : goal.returns-clause-of
returns-clause-of c = subst (IsCursorOf c.args.checked.now) (sym c.begin_anew.ensures) (goes_back c.args.checked.now _ c.requires)

use Rattle.sched_cursor.specs.Laws.{IsCursorOf}
use Rattle.course_tables.proofs.courses.show_events.Given as goal

abbrev pub invariant-loop-event : goal.invariant-loop-event
invariant-loop-event l = IsCursorOf l.checked l.cursor

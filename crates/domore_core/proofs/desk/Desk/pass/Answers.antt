use Rattle.std.proofs.Common.{ap, sym, ◌∙◌}
use Rattle.sched_cursor.specs.Events.{purpose_at}
use Rattle.domore_core.specs.Tables.{purpose_behind}
use Rattle.domore_core.proofs.Purposes.{carried_is, counted_is}
use Rattle.domore_core.proofs.desk.Desk.pass.Goals as goal

pub returns-clause-counted : goal.returns-clause-counted
returns-clause-counted c = counted_is c.go_behind-trap.result (purpose_at c.args.self.now.cursor c.args.self.now.cursor.at) c.is_inside-stands_inside.result c.is_none.result c.args.self.now.cursor.next c.next-next.result c.args.self.now.tally c.begin_if.new.self
    (carried_is c.go_behind-trap.result c.is_none.result c.is_none.ensures) c.next-next.ensures.same (λ none. c.go_behind-trap.ensures.headed none c.requires.other ∙ ap purpose_behind (sym c.is_inside-stands_inside.ensures)) c.begin_if.ensures

use Rattle.std.proofs.Common.{ap, subst, ◌∙◌}
use Rattle.nest_syntax.specs.Course.{Purpose}
use Rattle.nest_syntax.specs.Arrays.{arrays_of}
use Rattle.sched_cursor.specs.Events.{purpose_at}
use Rattle.nest_setup.specs.Laws.{IsAnswered}
use Rattle.domore_core.specs.Tables.{state_of, setup_by, counted_by}
use Rattle.domore_core.proofs.Purposes.{HasPurpose}
use Rattle.domore_core.proofs.Scheduling.{purpose_of_event, ordinary, passed, closed}
use Rattle.domore_core.proofs.table.Table.scalar.Goals as goal

pub returns-clause-computes : goal.returns-clause-computes
returns-clause-computes c = λ purpose trap rest is.
    let s = state_of c.args.self.now in
    let arrays = arrays_of c.args.plan.now.job.program.decls in
    let answered = subst (IsAnswered s.cursor s.words c.pass-self.result c.pass-self.new.self.cursor) is c.pass-self.ensures.answered in
    let counts = subst (HasPurpose (purpose_at s.cursor s.cursor.at)) is (purpose_of_event arrays c.args.plan.now.job.opening.words s.cursor) in
    passed (setup_by c.args.plan.now) s c.pass-self.result c.pass-self.new.self.cursor c.pass-self.new.self.tally.facts purpose trap rest c.requires.untrapped answered.0 answered.1 c.pass-self.ensures.next c.pass-self.ensures.kept
    (c.pass-self.ensures.counted ∙ ap (λ (p : Purpose). counted_by c.pass-self.result s.next p s.facts) counts)

pub returns-clause-closes : goal.returns-clause-closes
returns-clause-closes c = λ rest is.
    let s = state_of c.args.self.now in
    let arrays = arrays_of c.args.plan.now.job.program.decls in
    let answered = subst (IsAnswered s.cursor s.words c.pass-self.result c.pass-self.new.self.cursor) is c.pass-self.ensures.answered in
    closed s c.pass-self.result c.pass-self.new.self.cursor c.pass-self.new.self.tally.facts (purpose_at s.cursor s.cursor.at) rest c.requires.untrapped answered.0 answered.1 c.pass-self.ensures.next c.pass-self.ensures.counted (ordinary arrays c.args.plan.now.job.opening.words s.cursor rest is)

use Rattle.std.proofs.Common.{◌≡◌, ℕ, Option, Some, None, Ok, Err, refl, sym, ap, ◌∙◌, subst}
use Rattle.nest_syntax.specs.declared.tree.Program.{Program}
use Rattle.nest_syntax.specs.Arrays.{arrays_of}
use Rattle.sched_cursor.specs.Events.{as_answer, placed, after_event}
use Rattle.domore_core.specs.Below.{answers_tell_events}
use Rattle.domore_core.proofs.Answering.{next_is, header_is}
use Rattle.domore_core.proofs.passing.go_behind.Goals as goal

pub advance-requires-clause-of : goal.advance-requires-clause-of
advance-requires-clause-of c = rw c.checked.ensures.same c.requires.of

pub advance-requires-clause-sizes : goal.advance-requires-clause-sizes
advance-requires-clause-sizes c = rw c.checked.ensures.same c.requires.sizes

pub returns-clause-of : goal.returns-clause-of
returns-clause-of c = rw c.checked.ensures.same at c.advance.ensures.of

pub returns-clause-answered : goal.returns-clause-answered
returns-clause-answered c = answers_tell_events (arrays_of c.args.plan.now.job.program.decls) c.args.plan.now.job.opening.words c.args.words.now.words c.args.cursor.now c.advance.new.self c.advance.result c.requires.fixed (subst (λ (p : Program). as_answer c.advance.result c.advance.new.self ≡ placed c.args.cursor.now.next (after_event (arrays_of p.decls) c.args.cursor.now c.args.words.now.words)) c.checked.ensures.same c.advance.ensures.moved) c.advance.ensures.kept

pub returns-clause-next : goal.returns-clause-next
returns-clause-next c = next_is (arrays_of c.args.plan.now.job.program.decls) c.args.words.now.words c.args.cursor.now c.advance.new.self c.advance.result (subst (λ (p : Program). as_answer c.advance.result c.advance.new.self ≡ placed c.args.cursor.now.next (after_event (arrays_of p.decls) c.args.cursor.now c.args.words.now.words)) c.checked.ensures.same c.advance.ensures.moved) c.advance.ensures.kept

pub returns-clause-headed : goal.returns-clause-headed
returns-clause-headed c = header_is (arrays_of c.args.plan.now.job.program.decls) c.args.words.now.words c.args.cursor.now c.advance.new.self c.advance.result (subst (λ (p : Program). as_answer c.advance.result c.advance.new.self ≡ placed c.args.cursor.now.next (after_event (arrays_of p.decls) c.args.cursor.now c.args.words.now.words)) c.checked.ensures.same c.advance.ensures.moved)

use Rattle.std.proofs.Common.{◌≡◌, Some, subst}
use Rattle.std.specs.Prelude.{IfOk}
use Rattle.task_code.specs.Compiled.{Emits, GivesBy}
use Rattle.task_code.proofs.Emitted.{if_ok}
use Rattle.task_code.proofs.Sized.{sized_made, sized_after}
use Rattle.task_code.proofs.Added.{gives_code}
use Rattle.task_code.proofs.changes.give.Goals as goal

pub returns-in_ok-give-in-Some-clause-code : goal.returns-in_ok-give-in-Some-clause-code
returns-in_ok-give-in-Some-clause-code c =
    subst (λ o. IfOk c.emit-in-Some-2.result (λ entry. Emits c.args.code.now.items c.emit-in-Some-2.new.code.items (λ code. GivesBy o c.args.register c.args.value c.args.into c.args.line c.args.next code entry))) c.in-Some.ensures
    (if_ok c.emit-in-Some-2.result _ _ (rw c.computing.ensures at c.emit-in-Some-2.ensures.code)
    (λ entry second. gives_code _ _ _ c.in-Some.op c.args.register c.args.value c.args.into c.args.line c.args.next c.in_ok-give-in-Some.give entry (rw c.giving-in-Some.ensures at c.in_ok-give-in-Some.ensures.code) second))

pub returns-in_ok-give-in-Some-clause-sized : goal.returns-in_ok-give-in-Some-clause-sized
returns-in_ok-give-in-Some-clause-sized c sizes =
    sized_after sizes c.emit-in-Some-2.result _ _ _ (c.in_ok-give-in-Some.ensures.sized sizes (sized_made sizes _ _ c.giving-in-Some.ensures tt)) (c.emit-in-Some-2.ensures.sized sizes (sized_made sizes _ _ c.computing.ensures tt))

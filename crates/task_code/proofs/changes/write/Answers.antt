use Rattle.std.proofs.Common.{◌≡◌, Some, subst}
use Rattle.std.specs.Prelude.{IfOk}
use Rattle.task_code.specs.Compiled.{Emits, WritesBy}
use Rattle.task_code.proofs.Emitted.{if_ok}
use Rattle.task_code.proofs.Sized.{sized_made, sized_then, sized_after}
use Rattle.task_code.proofs.Added.{writes_code}
use Rattle.task_code.proofs.changes.write.Goals as goal

pub returns-in_ok-calculate-in-Some-clause-code : goal.returns-in_ok-calculate-in-Some-clause-code
returns-in_ok-calculate-in-Some-clause-code c =
    subst (λ o. IfOk c.emit-in-Some-3.result (λ entry. Emits c.args.code.now.items c.emit-in-Some-3.new.code.items (λ code. WritesBy o c.args.to c.args.value c.args.into c.args.line c.args.next code entry))) c.in-Some.ensures
    (if_ok c.emit-in-Some-3.result _ _ c.emit-in-Some-3.ensures.code
    (λ entry third. writes_code c.in-Some.op c.args.to c.args.value c.args.into c.args.line c.args.next c.in_ok-store-in-Some.store c.in_ok-calculate-in-Some.calculate entry _ _ _ _
    (rw c.storing-in-Some.ensures at c.in_ok-store-in-Some.ensures.code) (rw c.computing.ensures at c.in_ok-calculate-in-Some.ensures.code) third))

pub returns-in_ok-calculate-in-Some-clause-sized : goal.returns-in_ok-calculate-in-Some-clause-sized
returns-in_ok-calculate-in-Some-clause-sized c sizes of =
    sized_after sizes c.emit-in-Some-3.result _ _ _
    (sized_then sizes _ _ _ (c.in_ok-store-in-Some.ensures.sized sizes (sized_made sizes _ _ c.storing-in-Some.ensures of)) (c.in_ok-calculate-in-Some.ensures.sized sizes (sized_made sizes _ _ c.computing.ensures tt)))
    (c.emit-in-Some-3.ensures.sized sizes of)

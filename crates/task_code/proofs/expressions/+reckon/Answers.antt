use Rattle.std.proofs.Common.{◌≡◌, ◌<◌, ◌+◌, List, true, sym, subst}
use Rattle.std.specs.Prelude.{IsTrue, IfOk}
use Rattle.nest_syntax.specs.declared.tree.Expr.TheVariants as expr
use Rattle.nest_syntax.specs.Arrays.{arrays_of, sizes_of}
use Rattle.task_code.specs.Code.{instruction_at}
use Rattle.task_code.specs.Ready.{expr_ready, is_leaf}
use Rattle.task_code.specs.Sized.{IsSized, IsOfArray}
use Rattle.task_code.specs.Compiled.{Emits, Reckons, Opens, closing}
use Rattle.task_code.proofs.Emitted.{if_ok}
use Rattle.task_code.proofs.Sized.{sized_then, sized_after, subscript_sized, closing_sized}
use Rattle.task_code.proofs.Leaves.{has_few, choice_ready, leaf-word, leaf-unary, leaf-binary, leaf-choice}
use Rattle.task_code.proofs.Codes.{word_code, unary_code, binary_code, choice_code}
use Rattle.task_code.proofs.expressions.+reckon.Goals as goal

pub returns-in_ok-load-in-Word-clause-code : goal.returns-in_ok-load-in-Word-clause-code
returns-in_ok-load-in-Word-clause-code t c =
    let program = c.args.layout.now.checked.now in
    let locals = c.args.layout.now.locals.now in
    let few : c.args.into < 32 = has_few program locals c.args.into _ (leaf-word c.in-Word.array c.in-Word.place) (rw c.in-Word.is at c.requires.ready) in
    let reckons : IfOk c.reckon.result (λ entry. Emits c.emit.new.code.items c.reckon.new.code.items (λ code. Reckons program locals c.args.line c.get-in-Word.result.now c.args.into c.in_ok-load-in-Word.load code entry)) = c.reckon.ensures.code in
    rw c.in-Word.is
    (if_ok c.reckon.result _ _ (rw c.get-in-Word.ensures at reckons)
    (λ entry does. word_code program locals c.args.line c.args.into c.args.next few _ _ _ c.in-Word.array c.in-Word.place c.in_ok-load-in-Word.load entry
    (rw (c.subscript-from.ensures, c.operand.ensures, c.get.ensures) at c.in_ok-load-in-Word.ensures.code) does))

pub returns-in_ok-node-in-Unary-clause-code : goal.returns-in_ok-node-in-Unary-clause-code
returns-in_ok-node-in-Unary-clause-code t c =
    let program = c.args.layout.now.checked.now in
    let locals = c.args.layout.now.locals.now in
    let few : c.args.into < 32 = has_few program locals c.args.into _ (leaf-unary c.in-Unary.op c.in-Unary.part) (rw c.in-Unary.is at c.requires.ready) in
    let reckons : IfOk c.reckon-in-Unary.result (λ entry. Emits c.emit-in-Unary.new.code.items c.reckon-in-Unary.new.code.items (λ code. Reckons program locals c.args.line c.get-in-Unary-2.result.now c.args.into c.in_ok-node-in-Unary.node code entry)) = c.reckon-in-Unary.ensures.code in
    rw c.in-Unary.is
    (if_ok c.reckon-in-Unary.result _ _ (rw c.get-in-Unary-2.ensures at reckons)
    (λ entry does. unary_code program locals c.args.line c.args.into c.args.next few _ _ _ c.in-Unary.op c.in-Unary.part c.in_ok-node-in-Unary.node entry
    (rw (c.operand-in-Unary.ensures, c.get-in-Unary.ensures) at c.in_ok-node-in-Unary.ensures.code) does))

pub returns-in_ok-decision-in-Binary-clause-code : goal.returns-in_ok-decision-in-Binary-clause-code
returns-in_ok-decision-in-Binary-clause-code t c =
    let program = c.args.layout.now.checked.now in
    let locals = c.args.layout.now.locals.now in
    let few : c.args.into < 32 = has_few program locals c.args.into _ (leaf-binary c.in-Binary.op c.in-Binary.left c.in-Binary.right) (rw c.in-Binary.is at c.requires.ready) in
    let right : Emits c.emit-in-Binary.new.code.items c.reckon-in-Binary.new.code.items (λ code. Reckons program locals c.args.line c.get-in-Binary-3.result.now (c.args.into + 1) c.in_ok-close-in-Binary.close code c.in_ok-other-in-Binary.other) = c.in_ok-other-in-Binary.ensures.code in
    let left : IfOk c.reckon-in-Binary-2.result (λ entry. Emits c.decide.new.code.items c.reckon-in-Binary-2.new.code.items (λ code. Reckons program locals c.args.line c.get-in-Binary-4.result.now c.args.into c.in_ok-decision-in-Binary.decision code entry)) = c.reckon-in-Binary-2.ensures.code in
    rw c.in-Binary.is
    (if_ok c.reckon-in-Binary-2.result _ _ (rw c.get-in-Binary-4.ensures at left)
    (λ entry does. binary_code program locals c.args.line c.args.into c.args.next few c.in-Binary.op c.in-Binary.left c.in-Binary.right c.in_ok-close-in-Binary.close c.in_ok-other-in-Binary.other c.in_ok-decision-in-Binary.decision entry _ _ _ _ _
    (rw (c.closing.ensures, c.operand-first.ensures, c.operand-second.ensures, c.get-in-Binary.ensures, c.get-in-Binary-2.ensures) at c.in_ok-close-in-Binary.ensures.code)
    (rw c.get-in-Binary-3.ensures at right)
    (rw (c.operand-first.ensures, c.get-in-Binary.ensures) at c.in_ok-decision-in-Binary.ensures.code) does))

pub returns-in_ok-node-in-Choice-clause-code : goal.returns-in_ok-node-in-Choice-clause-code
returns-in_ok-node-in-Choice-clause-code t c =
    let program = c.args.layout.now.checked.now in
    let locals = c.args.layout.now.locals.now in
    let ready : IsTrue (expr_ready program locals (expr.Choice c.in-Choice.test c.in-Choice.first c.in-Choice.second) c.args.into) = rw c.in-Choice.is at c.requires.ready in
    let few : c.args.into < 32 = has_few program locals c.args.into _ (leaf-choice c.in-Choice.test c.in-Choice.first c.in-Choice.second) ready in
    let parts = choice_ready program locals c.args.into c.in-Choice.test c.in-Choice.first c.in-Choice.second ready in
    let second : Emits c.args.code.now.items c.reckon-in-Choice.new.code.items (λ code. Reckons program locals c.args.line c.get-in-Choice.result.now c.args.into c.args.next code c.in_ok-on_zero-in-Choice.on_zero) = c.in_ok-on_zero-in-Choice.ensures.code in
    let first : Emits c.reckon-in-Choice.new.code.items c.reckon-in-Choice-2.new.code.items (λ code. Reckons program locals c.args.line c.get-in-Choice-2.result.now c.args.into c.args.next code c.in_ok-on_other-in-Choice.on_other) = c.in_ok-on_other-in-Choice.ensures.code in
    let test : IfOk c.reckon-in-Choice-3.result (λ entry. Emits c.emit-in-Choice.new.code.items c.reckon-in-Choice-3.new.code.items (λ code. Reckons program locals c.args.line c.get-in-Choice-6.result.now c.args.into c.in_ok-node-in-Choice.node code entry)) = c.reckon-in-Choice-3.ensures.code in
    let second_empty : is_leaf c.get-in-Choice.result.now ≡ true → c.in_ok-on_zero-in-Choice.on_zero ≡ c.args.next = c.in_ok-on_zero-in-Choice.ensures.leaf in
    let first_empty : is_leaf c.get-in-Choice-2.result.now ≡ true → c.in_ok-on_other-in-Choice.on_other ≡ c.args.next = c.in_ok-on_other-in-Choice.ensures.leaf in
    rw c.in-Choice.is
    (if_ok c.reckon-in-Choice-3.result _ _ (rw c.get-in-Choice-6.ensures at test)
    (λ entry does. choice_code program locals c.args.line c.args.into c.args.next few c.in-Choice.test c.in-Choice.first c.in-Choice.second c.in_ok-on_zero-in-Choice.on_zero c.in_ok-on_other-in-Choice.on_other c.in_ok-node-in-Choice.node entry _ _ _ _ _
    parts.0 parts.1 (rw c.get-in-Choice.ensures at second_empty) (rw c.get-in-Choice-2.ensures at first_empty)
    (rw c.get-in-Choice.ensures at second) (rw c.get-in-Choice-2.ensures at first)
    (rw (c.operand-in-Choice.ensures, c.way.ensures, c.way-in-Choice.ensures, c.get-in-Choice-3.ensures, c.get-in-Choice-4.ensures, c.get-in-Choice-5.ensures) at c.in_ok-node-in-Choice.ensures.code) does))

pub returns-in_ok-load-in-Word-clause-sized : goal.returns-in_ok-load-in-Word-clause-sized
returns-in_ok-load-in-Word-clause-sized t c =
    let from : IsOfArray (sizes_of (arrays_of c.args.layout.now.checked.now.decls)) c.subscript-from.result = subst (IsOfArray _) (sym c.subscript-from.ensures) (subscript_sized c.args.layout.now.checked.now c.in-Word.array _ c.args.line) in
    sized_after _ c.reckon.result _ _ _ (c.in_ok-load-in-Word.ensures.sized _ from) c.reckon.ensures.sized

pub returns-in_ok-node-in-Unary-clause-sized : goal.returns-in_ok-node-in-Unary-clause-sized
returns-in_ok-node-in-Unary-clause-sized t c = sized_after _ c.reckon-in-Unary.result _ _ _ (c.in_ok-node-in-Unary.ensures.sized _ tt) c.reckon-in-Unary.ensures.sized

pub returns-in_ok-decision-in-Binary-clause-sized : goal.returns-in_ok-decision-in-Binary-clause-sized
returns-in_ok-decision-in-Binary-clause-sized t c =
    let sizes = sizes_of (arrays_of c.args.layout.now.checked.now.decls) in
    let close : IsSized sizes c.closing.result = subst (IsSized sizes) (sym c.closing.ensures) (closing_sized sizes c.in-Binary.op _ _ c.args.into c.args.line c.args.next) in
    sized_after _ c.reckon-in-Binary-2.result _ _ _ (sized_then _ _ _ _ (sized_then _ _ _ _ (c.in_ok-close-in-Binary.ensures.sized sizes close) c.in_ok-other-in-Binary.ensures.sized) (c.in_ok-decision-in-Binary.ensures.sized sizes)) c.reckon-in-Binary-2.ensures.sized

pub returns-in_ok-node-in-Choice-clause-sized : goal.returns-in_ok-node-in-Choice-clause-sized
returns-in_ok-node-in-Choice-clause-sized t c =
    sized_after _ c.reckon-in-Choice-3.result _ _ _ (sized_then _ _ _ _ (sized_then _ _ _ _ c.in_ok-on_zero-in-Choice.ensures.sized c.in_ok-on_other-in-Choice.ensures.sized) (c.in_ok-node-in-Choice.ensures.sized _ tt)) c.reckon-in-Choice-3.ensures.sized

use Rattle.std.proofs.Common.{◌≡◌, ℕ, ◌+◌, ◌-◌, List, ◌∷◌, ◌++◌, [], length, drop, map, refl, sym, ◌∙◌, subst, arith, add-one, append_assoc}
use Rattle.std.specs.List.{flat_map}
use Rattle.std.proofs.lemmas.List.{drop_more}
use Rattle.nest_syntax.specs.declared.tree.Stmt.TheVariants as stmt
use Rattle.nest_syntax.specs.Course.{Setting, Item, Tested, chosen, item_of, tested_of}
use Rattle.sched_cursor.specs.declared.node.Next.{Next}
use Rattle.sched_cursor.specs.declared.node.Next.TheVariants as next
use Rattle.sched_cursor.specs.declared.node.Node.{Node}
use Rattle.sched_cursor.specs.declared.node.Node.TheVariants as node
use Rattle.sched_cursor.specs.Doings.{Doing, doings, doings_in_arm, doings_of}
use Rattle.sched_cursor.specs.Scripts.{Puts, header_of}
use Rattle.sched_cursor.proofs.Putting.{pushed, puts_declare, puts_assign, puts_write, puts_invocation, puts_arm, puts_as, puts_more, if_puts}
use Rattle.sched_cursor.proofs.script.Script.+items.Goals as goal

pub arm-returns : goal.arm-returns
arm-returns t c =
    pushed (λ (n : List Node) (f : ℕ) (s : Next). (nodes : List Node) (first : ℕ) (arms : Setting → List Tested) (other : Setting → Item) (does : List Doing)
    → Puts nodes first c.args.self.now.nodes.items c.args.self.now.first (λ (st : Setting). chosen (arms st) (other st)) does c.args.next c.args.otherwise
    → Puts nodes first n f (λ (st : Setting). chosen (tested_of st c.args.arm.now ∷ arms st) (other st)) (doings_in_arm c.args.arm.now ++ does) c.args.next s) _ _ _ _ _
    (λ nodes first arms other does rest. puts_arm nodes _ _ first _ _ c.args.arm.now arms other does c.args.next c.args.otherwise _ rest (rw c.as_slice.ensures at c.in_ok-taken.ensures)) c.push.result (rw c.in_ok-test.ensures at c.push.ensures)

pub arms-loop-k-preserved : goal.arms-loop-k-preserved
arms-loop-k-preserved t c =
    let k = c.loop-k.k in
    let back : k - 1 + 1 ≡ k = omega arith in
    let arm = c.index-arms-k.result in
    rw (drop_more c.args.arms.now (k - 1) arm (omega arith), back, ← c.index-arms-k.is)
    (λ nodes first other does before. puts_as nodes first _ _ _ _ (doings_in_arm arm ++ (flat_map doings_in_arm (drop k c.args.arms.now) ++ does)) ((doings_in_arm arm ++ flat_map doings_in_arm (drop k c.args.arms.now)) ++ does) _ _ (λ s. refl)
    (append_assoc (doings_in_arm arm) (flat_map doings_in_arm (drop k c.args.arms.now)) does)
    (c.in_ok-start.ensures nodes first (λ (s : Setting). map (tested_of s) (drop k c.args.arms.now)) other (flat_map doings_in_arm (drop k c.args.arms.now) ++ does) (c.loop-k.invariant nodes first other does before)))

pub arms-returns : goal.arms-returns
arms-returns t c = let start : c.loop-k.k ≡ 0 = omega arith in rw start at c.loop-k.invariant

pub block-loop-k-preserved : goal.block-loop-k-preserved
block-loop-k-preserved t c =
    let k = c.loop-k.k in
    let back : k - 1 + 1 ≡ k = omega arith in
    let item = c.index-stmts-k.result in
    rw (drop_more c.args.stmts.now (k - 1) item (omega arith), back, ← c.index-stmts-k.is)
    (puts_more _ _ _ _ _ _ (λ (s : Setting). item_of s item) (λ (s : Setting). map (item_of s) (drop k c.args.stmts.now)) (doings item) (doings_of (drop k c.args.stmts.now)) _ _ _ c.loop-k.invariant c.in_ok-start.ensures)

pub item-returns-in-Declare : goal.item-returns-in-Declare
item-returns-in-Declare t c =
    rw c.in-Declare.is (pushed (λ (n : List Node) (f : ℕ) (s : Next). Puts c.args.self.now.nodes.items c.args.self.now.first n f (λ (st : Setting). item_of st (stmt.Declare c.in-Declare.line c.in-Declare.name c.in-Declare.value)) (doings (stmt.Declare c.in-Declare.line c.in-Declare.name c.in-Declare.value)) c.args.next s) _ _ _ _ _
    (puts_declare _ _ c.in-Declare.line c.in-Declare.name c.in-Declare.value c.args.next) c.change.result c.change.ensures)

pub item-returns-in-Assign : goal.item-returns-in-Assign
item-returns-in-Assign t c =
    rw c.in-Assign.is (pushed (λ (n : List Node) (f : ℕ) (s : Next). Puts c.args.self.now.nodes.items c.args.self.now.first n f (λ (st : Setting). item_of st (stmt.Assign c.in-Assign.line c.in-Assign.name c.in-Assign.op c.in-Assign.value)) (doings (stmt.Assign c.in-Assign.line c.in-Assign.name c.in-Assign.op c.in-Assign.value)) c.args.next s) _ _ _ _ _
    (puts_assign _ _ c.in-Assign.line c.in-Assign.name c.in-Assign.op c.in-Assign.value c.args.next) c.change-in-Assign.result c.change-in-Assign.ensures)

pub item-returns-in_ok-body-in-Write : goal.item-returns-in_ok-body-in-Write
item-returns-in_ok-body-in-Write t c =
    let w = c.in-Write in
    let nodes = c.args.self.now.nodes.items in
    let body = c.in_ok-body-in-Write.body in
    let said = c.in_ok-body-in-Write.ensures in
    let this = node.Write w.line body c.args.next in
    rw w.is (pushed (λ (n : List Node) (f : ℕ) (s : Next). Puts nodes c.args.self.now.first n f (λ (st : Setting). item_of st (stmt.Write w.line w.array w.place w.op w.value)) (doings (stmt.Write w.line w.array w.place w.op w.value)) c.args.next s) nodes _ body _ this
    (subst (λ f. Puts nodes f (nodes ++ this ∷ []) body (λ (st : Setting). item_of st (stmt.Write w.line w.array w.place w.op w.value)) (doings (stmt.Write w.line w.array w.place w.op w.value)) c.args.next (next.Node (length nodes))) (sym (said.0 ∙ add-one body))
    (puts_write nodes body w.line w.array w.place w.op w.value c.args.next)) c.push.result (rw (said.1, said.2) at c.push.ensures))

pub item-returns-in_ok-otherwise-in-If : goal.item-returns-in_ok-otherwise-in-If
item-returns-in_ok-otherwise-in-If t c =
    rw c.in-If.is (if_puts c.arms.result _ _ _ _ _ _ c.in-If.arms c.in-If.other c.args.next c.in_ok-otherwise-in-If.otherwise (rw c.as_slice.ensures at c.in_ok-otherwise-in-If.ensures) (rw c.as_slice-in-If.ensures at c.arms.ensures))

pub item-returns-in_ok-body-in-Loop : goal.item-returns-in_ok-body-in-Loop
item-returns-in_ok-body-in-Loop t c =
    let invoked = c.in-Loop.invoked in
    let nodes = c.args.self.now.nodes.items in
    let body = c.in_ok-body-in-Loop.body in
    let said = c.in_ok-body-in-Loop.ensures in
    let this = node.Invoke (header_of invoked) body c.args.next in
    rw c.in-Loop.is (pushed (λ (n : List Node) (f : ℕ) (s : Next). Puts nodes c.args.self.now.first n f (λ (st : Setting). item_of st (stmt.Loop invoked)) (doings (stmt.Loop invoked)) c.args.next s) nodes _ body _ this
    (subst (λ f. Puts nodes f (nodes ++ this ∷ []) body (λ (st : Setting). item_of st (stmt.Loop invoked)) (doings (stmt.Loop invoked)) c.args.next (next.Node (length nodes))) (sym (said.0 ∙ add-one body))
    (puts_invocation nodes body invoked c.args.next)) c.push-in-Loop.result (rw (c.in_ok-header-in-Loop.ensures, said.1, said.2) at c.push-in-Loop.ensures))

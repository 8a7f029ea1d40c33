use Rattle.std.proofs.Common.{refl, sym, arith, ◌∙◌, ◌∷◌}
use Rattle.nest_lex.specs.declared.token.Mark.TheVariants as mark
use Rattle.nest_lex.specs.declared.token.Keyword.TheVariants as word
use Rattle.nest_parse.specs.Expected.{This, Word, Statements, Elses, LoopName, AnyName, Subscript, initial_then, assigned_then, arm_then, Step, value_then, block_then, test_then}
use Rattle.nest_syntax.specs.declared.tree.Stmt.TheVariants as stmt
use Rattle.nest_parse.specs.Grammar.{turns, statement, no_statement}
use Rattle.nest_parse.proofs.Chains.{refused}
use Rattle.nest_parse.proofs.Listing.{listed_next, no_more_listed}
use Rattle.nest_parse.proofs.Blocks.{block_read, arm_read, armed, else_if_opens, armed_on, else_opens, else_read, branch_read, variable_stopped, turns_read, turned_read, none_next, next_read, next_stopped}
use Rattle.nest_parse.proofs.cursor.Cursor.+block.Goals as goal

pub block-returns-in_err-body-clause-reads : goal.block-returns-in_err-body-clause-reads
block-returns-in_err-body-clause-reads t c = refused c.from_residual-in_err-body.result c.from_residual-in_err-body.ensures.1 (λ k. This mark.CloseCurly ∷ k) (λ k. c.in_ok-sign.ensures.reads.goes (Statements ∷ This mark.CloseCurly ∷ k)) c.in_err-body.ensures.reads

pub block-returns-in_err-sign-2-clause-reads : goal.block-returns-in_err-sign-2-clause-reads
block-returns-in_err-sign-2-clause-reads t c = refused c.from_residual-in_err-sign-2.result c.from_residual-in_err-sign-2.ensures.1 (λ k. k) (λ k. c.in_ok-sign.ensures.reads.goes (Statements ∷ This mark.CloseCurly ∷ k) ∙ c.in_ok-body.ensures.reads.goes (This mark.CloseCurly ∷ k)) c.in_err-sign-2.ensures.reads

pub block-returns-clause-reads : goal.block-returns-clause-reads
block-returns-clause-reads t c = block_read c.in_ok-sign.ensures.reads c.in_ok-body.ensures.reads c.in_ok-sign-2.ensures.reads

pub statement-returns-clause-reads : goal.statement-returns-clause-reads
statement-returns-clause-reads t c = none_next c.if-pass_keyword.ensures.takes c.in_default.ensures.takes c.if-pass_keyword-2.ensures.takes c.if-pass_keyword-3.ensures.takes

pub arm-returns-in_err-test-clause-reads : goal.arm-returns-in_err-test-clause-reads
arm-returns-in_err-test-clause-reads t c = refused c.from_residual-in_err-test.result c.from_residual-in_err-test.ensures.1 (λ k. block_then k) (λ k. c.in_ok-sign.ensures.reads.goes (value_then (This mark.CloseRound ∷ block_then k))) c.in_err-test.ensures.reads

pub arm-returns-in_err-body-clause-reads : goal.arm-returns-in_err-body-clause-reads
arm-returns-in_err-body-clause-reads t c = refused c.from_residual-in_err-body.result c.from_residual-in_err-body.ensures.1 (λ k. k) (λ k. c.in_ok-sign.ensures.reads.goes (value_then (This mark.CloseRound ∷ block_then k)) ∙ c.in_ok-test.ensures.reads.goes (block_then k)) c.in_err-body.ensures.reads

pub arm-returns-clause-reads : goal.arm-returns-clause-reads
arm-returns-clause-reads t c = arm_read c.in_ok-sign.ensures.reads c.in_ok-test.ensures.reads c.in_ok-body.ensures.reads

pub branch-returns-in_err-first-clause-reads : goal.branch-returns-in_err-first-clause-reads
branch-returns-in_err-first-clause-reads t c = refused c.from_residual.result c.from_residual.ensures.1 (λ k. Elses ∷ k) (λ k. refl) c.in_err-first.ensures.reads

pub branch-arms-init : goal.branch-arms-init
branch-arms-init t c = armed c.in_ok-first.ensures.reads c.in_ok-first.ensures.shorter c.new-arms.ensures c.in_ok-push.ensures.ok

pub branch-returns-in_err-other-clause-reads : goal.branch-returns-in_err-other-clause-reads
branch-returns-in_err-other-clause-reads t c = refused c.from_residual-in_err-other.result c.from_residual-in_err-other.ensures.1 (λ k. k) (λ k. else_opens c.arms.invariant c.arms-test.ensures.takes c.if-not-pass_keyword.ensures.takes k) c.in_err-other.ensures.reads

pub branch-returns-then-not-pass_keyword-clause-reads : goal.branch-returns-then-not-pass_keyword-clause-reads
branch-returns-then-not-pass_keyword-clause-reads t c = else_read c.arms.invariant c.arms-test.ensures.takes c.if-not-pass_keyword.ensures.takes c.in_ok-other.ensures.reads

pub branch-returns-in_err-next-clause-reads : goal.branch-returns-in_err-next-clause-reads
branch-returns-in_err-next-clause-reads t c = refused c.from_residual-in_err-next.result c.from_residual-in_err-next.ensures.1 (λ k. Elses ∷ k) (λ k. else_if_opens c.arms.invariant c.arms-test.ensures.takes c.if-not-pass_keyword.ensures.takes k) c.in_err-next.ensures.reads

pub branch-arms-preserved : goal.branch-arms-preserved
branch-arms-preserved t c = armed_on c.arms.invariant c.arms-test.ensures.takes c.line-line.ensures c.if-not-pass_keyword.ensures.takes c.in_ok-next.ensures.reads (omega (arith, c.arms-test.ensures.shorter, c.if-not-pass_keyword.ensures.shorter, c.in_ok-next.ensures.shorter)) c.in_ok-push-2.ensures.ok

pub branch-returns-clause-reads : goal.branch-returns-clause-reads
branch-returns-clause-reads t c = rw c.new.ensures (branch_read c.arms.invariant c.arms-test.ensures.takes)

pub turns-returns-in_err-name-clause-reads : goal.turns-returns-in_err-name-clause-reads
turns-returns-in_err-name-clause-reads t c = refused c.from_residual-in_err-name.result c.from_residual-in_err-name.ensures.1 (λ k. k) (λ k. c.in_ok-sign.ensures.reads.goes (Word word.Long ∷ LoopName ∷ k) ∙ c.in_ok-keyword.ensures.reads.goes (LoopName ∷ k)) (variable_stopped c.in_err-name.ensures.reads)

pub turns-returns-clause-reads : goal.turns-returns-clause-reads
turns-returns-clause-reads t c = turns_read c.in_ok-sign.ensures.reads c.in_ok-keyword.ensures.reads c.in_ok-name.ensures.reads c.turned.result c.turned.ensures.reads

pub turned-returns-in_err-low-clause-reads : goal.turned-returns-in_err-low-clause-reads
turned-returns-in_err-low-clause-reads t c = refused c.from_residual.result c.from_residual.ensures.1 (λ k. test_then c.args.name (Step c.args.name ∷ This mark.CloseRound ∷ block_then k)) (λ k. refl) c.in_err-low.ensures.reads

pub turned-returns-in_err-through-clause-reads : goal.turned-returns-in_err-through-clause-reads
turned-returns-in_err-through-clause-reads t c = refused c.from_residual-in_err-through.result c.from_residual-in_err-through.ensures.1 (λ k. Step c.args.name ∷ This mark.CloseRound ∷ block_then k) (λ k. c.in_ok-low.ensures.reads.goes (test_then c.args.name (Step c.args.name ∷ This mark.CloseRound ∷ block_then k))) c.in_err-through.ensures.reads

pub turned-returns-in_err-step-clause-reads : goal.turned-returns-in_err-step-clause-reads
turned-returns-in_err-step-clause-reads t c = refused c.from_residual-in_err-step.result c.from_residual-in_err-step.ensures.1 (λ k. This mark.CloseRound ∷ block_then k) (λ k. c.in_ok-low.ensures.reads.goes (test_then c.args.name (Step c.args.name ∷ This mark.CloseRound ∷ block_then k)) ∙ c.in_ok-through.ensures.reads.goes (Step c.args.name ∷ This mark.CloseRound ∷ block_then k)) c.in_err-step.ensures.reads

pub turned-returns-in_err-sign-clause-reads : goal.turned-returns-in_err-sign-clause-reads
turned-returns-in_err-sign-clause-reads t c = refused c.from_residual-in_err-sign.result c.from_residual-in_err-sign.ensures.1 (λ k. block_then k) (λ k. c.in_ok-low.ensures.reads.goes (test_then c.args.name (Step c.args.name ∷ This mark.CloseRound ∷ block_then k)) ∙ (c.in_ok-through.ensures.reads.goes (Step c.args.name ∷ This mark.CloseRound ∷ block_then k) ∙ c.in_ok-step.ensures.reads.goes (This mark.CloseRound ∷ block_then k))) c.in_err-sign.ensures.reads

pub turned-returns-in_err-body-clause-reads : goal.turned-returns-in_err-body-clause-reads
turned-returns-in_err-body-clause-reads t c = refused c.from_residual-in_err-body.result c.from_residual-in_err-body.ensures.1 (λ k. k) (λ k. c.in_ok-low.ensures.reads.goes (test_then c.args.name (Step c.args.name ∷ This mark.CloseRound ∷ block_then k)) ∙ (c.in_ok-through.ensures.reads.goes (Step c.args.name ∷ This mark.CloseRound ∷ block_then k) ∙ (c.in_ok-step.ensures.reads.goes (This mark.CloseRound ∷ block_then k) ∙ c.in_ok-sign.ensures.reads.goes (block_then k)))) c.in_err-body.ensures.reads

pub turned-returns-clause-reads : goal.turned-returns-clause-reads
turned-returns-clause-reads t c = turned_read c.in_ok-low.ensures.reads c.in_ok-through.ensures.reads c.in_ok-step.ensures.reads c.in_ok-sign.ensures.reads c.in_ok-body.ensures.reads

pub statement-returns-in_err-local-clause-reads : goal.statement-returns-in_err-local-clause-reads
statement-returns-in_err-local-clause-reads t c = next_stopped (λ k. AnyName ∷ initial_then k) c.from_residual.result c.from_residual.ensures.1 (c.if-pass_keyword.ensures.takes.1) (λ k. refl) c.in_err-local.ensures.reads

pub statement-returns-in_err-target-clause-reads : goal.statement-returns-in_err-target-clause-reads
statement-returns-in_err-target-clause-reads t c = next_stopped (λ k. Subscript ∷ assigned_then k) c.from_residual-in_err-target.result c.from_residual-in_err-target.ensures.1 (sym c.if-pass_keyword.ensures.takes.stays ∙ c.in-Some.ensures.takes.1) (λ k. refl) c.in_err-target.ensures.reads

pub statement-returns-in_err-branch-clause-reads : goal.statement-returns-in_err-branch-clause-reads
statement-returns-in_err-branch-clause-reads t c = next_stopped (λ k. arm_then (Elses ∷ k)) c.from_residual-in_err-branch.result c.from_residual-in_err-branch.ensures.1 (sym (c.in_default.ensures.takes.stays ∙ c.if-pass_keyword.ensures.takes.stays) ∙ c.if-pass_keyword-2.ensures.takes.1) (λ k. refl) c.in_err-branch.ensures.reads

pub statement-returns-then-pass_keyword-3-clause-reads : goal.statement-returns-then-pass_keyword-3-clause-reads
statement-returns-then-pass_keyword-3-clause-reads t c = next_read (λ k. This mark.OpenRound ∷ Word word.Long ∷ LoopName ∷ k) stmt.Loop (sym (c.if-pass_keyword-2.ensures.takes.stays ∙ (c.in_default.ensures.takes.stays ∙ c.if-pass_keyword.ensures.takes.stays)) ∙ c.if-pass_keyword-3.ensures.takes.1) c.line-line.ensures (λ k. refl) (λ ts r y x. turns x) c.in_ok-turns.ensures.reads

pub statements-list-preserved : goal.statements-list-preserved
statements-list-preserved t c = listed_next c.list.invariant (λ ts m r y ys a b. statement a b) c.in_ok-stmt.ensures.reads c.in-Some.is c.in_ok-stmt.ensures.shorter c.in_ok-push.ensures.ok

pub statements-returns-clause-reads : goal.statements-returns-clause-reads
statements-returns-clause-reads t c = no_more_listed c.list.invariant (λ r. no_statement) c.in_ok-stmt.ensures.reads c.in_default.is

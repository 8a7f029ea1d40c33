use Rattle.std.proofs.Common.{refl, ◌∙◌, ◌∷◌}
use Rattle.nest_parse.specs.Expected.{This, Tail, value_then}
use Rattle.nest_parse.proofs.Chains.{refused}
use Rattle.nest_parse.proofs.Values.{started, operator_opens, joined_on, all_joined, lowest, value_plain, question_opens, choice_read, scalar_read, place_opens, word_read, named_handed, parentheses_handed, sign_opens, signed_read, number_opens, literal_read}
use Rattle.nest_parse.proofs.cursor.Cursor.+value.Goals as goal

pub behind_name-returns-then-not-pass_mark-clause-reads : goal.behind_name-returns-then-not-pass_mark-clause-reads
behind_name-returns-then-not-pass_mark-clause-reads t c = scalar_read c.if-not-pass_mark.ensures.takes

pub behind_name-returns-in_err-place-clause-reads : goal.behind_name-returns-in_err-place-clause-reads
behind_name-returns-in_err-place-clause-reads t c = refused c.from_residual.result c.from_residual.ensures.1 (λ k. k) (λ k. place_opens c.if-not-pass_mark.ensures.takes k) c.in_err-place.ensures.reads

pub behind_name-returns-clause-reads : goal.behind_name-returns-clause-reads
behind_name-returns-clause-reads t c = rw c.in_ok-new.ensures (word_read c.if-not-pass_mark.ensures.takes c.in_ok-place.ensures.reads)

pub chain-joins-init : goal.chain-joins-init
chain-joins-init t c = started c.in_ok-left.ensures.reads c.in_ok-left.ensures.shorter

pub chain-returns-in_err-right-clause-reads : goal.chain-returns-in_err-right-clause-reads
chain-returns-in_err-right-clause-reads t c = refused c.from_residual-in_err-right.result c.from_residual-in_err-right.ensures.1 (λ k. Tail c.args.depth ∷ k) (λ k. c.joins.invariant.goes k ∙ operator_opens c.in-Some.ensures.takes k) c.in_err-right.ensures.reads

pub chain-joins-preserved : goal.chain-joins-preserved
chain-joins-preserved t c = rw (c.in_ok-new.ensures, c.in_ok-new-2.ensures) (joined_on c.joins.invariant c.in-Some.ensures.takes c.in_ok-right.ensures.reads c.in-Some.ensures.shorter c.in_ok-right.ensures.shorter)

pub chain-returns-clause-reads : goal.chain-returns-clause-reads
chain-returns-clause-reads t c = all_joined c.joins.invariant c.in_default.ensures.takes

pub terms-returns-then-depth-eq0-clause-reads : goal.terms-returns-then-depth-eq0-clause-reads
terms-returns-then-depth-eq0-clause-reads t c = rw c.if-depth-eq0.true (lowest c.factor.result c.factor.ensures.reads)

pub value-returns-then-not-pass_mark-clause-reads : goal.value-returns-then-not-pass_mark-clause-reads
value-returns-then-not-pass_mark-clause-reads t c = value_plain c.in_ok-test.ensures.reads c.if-not-pass_mark.ensures.takes

pub value-returns-in_err-first-clause-reads : goal.value-returns-in_err-first-clause-reads
value-returns-in_err-first-clause-reads t c = refused c.from_residual-in_err-first.result c.from_residual-in_err-first.ensures.1 (λ k. value_then k) (λ k. question_opens c.in_ok-test.ensures.reads c.if-not-pass_mark.ensures.takes k) c.in_err-first.ensures.reads

pub value-returns-in_err-second-clause-reads : goal.value-returns-in_err-second-clause-reads
value-returns-in_err-second-clause-reads t c = refused c.from_residual-in_err-second.result c.from_residual-in_err-second.ensures.1 (λ k. k) (λ k. question_opens c.in_ok-test.ensures.reads c.if-not-pass_mark.ensures.takes k ∙ c.in_ok-first.ensures.reads.goes (value_then k)) c.in_err-second.ensures.reads

pub value-returns-clause-reads : goal.value-returns-clause-reads
value-returns-clause-reads t c = rw (c.in_ok-new.ensures, c.in_ok-new-2.ensures, c.in_ok-new-3.ensures) (choice_read c.in_ok-test.ensures.reads c.if-not-pass_mark.ensures.takes c.in_ok-first.ensures.reads c.in_ok-second.ensures.reads)

pub value_then-returns-in_err-value-clause-reads : goal.value_then-returns-in_err-value-clause-reads
value_then-returns-in_err-value-clause-reads t c = refused c.from_residual.result c.from_residual.ensures.1 (λ k. This c.args.mark ∷ k) (λ k. refl) c.in_err-value.ensures.reads

pub value_then-returns-in_err-sign-clause-reads : goal.value_then-returns-in_err-sign-clause-reads
value_then-returns-in_err-sign-clause-reads t c = refused c.from_residual-in_err-sign.result c.from_residual-in_err-sign.ensures.1 (λ k. k) (λ k. c.in_ok-value.ensures.reads.goes (This c.args.mark ∷ k)) c.in_err-sign.ensures.reads

pub factor-returns-in-Some-clause-reads : goal.factor-returns-in-Some-clause-reads
factor-returns-in-Some-clause-reads t c = named_handed c.behind_name.result c.in-Some.ensures.takes c.behind_name.ensures.reads

pub factor-returns-then-pass_mark-clause-reads : goal.factor-returns-then-pass_mark-clause-reads
factor-returns-then-pass_mark-clause-reads t c = parentheses_handed c.value_then.result c.in_default.ensures.takes c.if-pass_mark.ensures.takes c.value_then.ensures.reads

pub factor-returns-in_err-part-clause-reads : goal.factor-returns-in_err-part-clause-reads
factor-returns-in_err-part-clause-reads t c = refused c.from_residual.result c.from_residual.ensures.1 (λ k. k) (λ k. sign_opens (record { m = _; mid = _; no_name = c.in_default.ensures.takes; no_opening = c.if-pass_mark.ensures.takes; op = c.in-Some-pass_unary.ensures.takes }) k) c.in_err-part.ensures.reads

pub factor-returns-in-Some-pass_unary-clause-reads : goal.factor-returns-in-Some-pass_unary-clause-reads
factor-returns-in-Some-pass_unary-clause-reads t c = rw c.in_ok-new.ensures (signed_read (record { m = _; mid = _; no_name = c.in_default.ensures.takes; no_opening = c.if-pass_mark.ensures.takes; op = c.in-Some-pass_unary.ensures.takes }) c.in_ok-part.ensures.reads)

pub factor-returns-in_err-number-clause-reads : goal.factor-returns-in_err-number-clause-reads
factor-returns-in_err-number-clause-reads t c = refused c.from_residual-in_err-number.result c.from_residual-in_err-number.ensures.1 (λ k. k) (λ k. number_opens (record { m = _; mid = _; no_name = c.in_default.ensures.takes; no_opening = c.if-pass_mark.ensures.takes; no_op = c.in_default-pass_unary.ensures.takes }) k) c.in_err-number.ensures.reads

pub factor-returns-clause-reads : goal.factor-returns-clause-reads
factor-returns-clause-reads t c = rw c.literal.ensures (literal_read (record { m = _; mid = _; no_name = c.in_default.ensures.takes; no_opening = c.if-pass_mark.ensures.takes; no_op = c.in_default-pass_unary.ensures.takes }) c.in_ok-number.ensures.reads)

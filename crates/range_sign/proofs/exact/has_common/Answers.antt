use Rattle.std.proofs.Common.{sym, ◌∙◌, arith}
use Rattle.std.proofs.lemmas.Bool.{and_from}
use Rattle.addr_slice.specs.Claims.{is_set}
use Rattle.range_sign.proofs.Words.{none-more, none-left, some-here, not-others}
use Rattle.range_sign.proofs.exact.has_common.Goals as goal

pub words-preserved : goal.words-preserved
words-preserved c = record {
  begun = omega (arith, c.words.invariant.begun, c.in-Some.ensures.0);
  inside = omega arith;
  passed = none-more c.args.first.now c.args.second.now c.args.third.now c.args.start c.words.from c.in-Some.word c.words.invariant.passed c.in-Some.ensures.2 (not-others c.args.first.now c.args.second.now c.args.third.now c.args.start c.in-Some.word (sym c.is_in_either.ensures ∙ c.if-is_in_either.false));
}

pub returns-then-word-end : goal.returns-then-word-end
returns-then-word-end c = sym (none-left c.args.first.now c.args.second.now c.args.third.now c.args.start c.words.from c.args.count c.words.invariant.passed (λ k low high. c.in-Some.ensures.2 k low (omega (arith, high, c.if-word-end.true))))

pub returns-then-is_in_either : goal.returns-then-is_in_either
returns-then-is_in_either c =
    sym (some-here c.args.first.now c.args.second.now c.args.third.now c.args.start c.args.count c.in-Some.word (omega (arith, c.words.invariant.begun, c.in-Some.ensures.0)) (omega (arith, c.if-word-end.false))
    (and_from (is_set c.args.first.now c.in-Some.word) _ c.in-Some.ensures.1 (sym c.is_in_either.ensures ∙ c.if-is_in_either.true)))

pub returns : goal.returns
returns c = sym (none-left c.args.first.now c.args.second.now c.args.third.now c.args.start c.words.from c.args.count c.words.invariant.passed (λ k low high. c.in_default.ensures k low))

use Rattle.std.proofs.Common.{sym, ◌∙◌}
use Rattle.cross_top.proofs.Replies.{generated_printed, generated_run}
use Rattle.cross_top.proofs.answers.answer_generated.Goals as goal

pub returns-then-is_gen : goal.returns-then-is_gen
returns-then-is_gen c = generated_printed c.done.result c.args.call.now _ c.in_ok-text.text.items c.in_ok-text.ensures.text (sym c.if-is_gen.ensures) c.done.ensures

pub returns-else-is_gen : goal.returns-else-is_gen
returns-else-is_gen c = generated_run c.answer_input.result c.args.call.now _ _ (c.as_slice.ensures.value ∙ c.in_ok-text.ensures.text) (sym c.if-is_gen.ensures) c.answer_input.ensures

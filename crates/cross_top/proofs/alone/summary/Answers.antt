use Rattle.std.proofs.Common.{rules, SFits, w64, ◌≡◌, ◌∙◌, ℤ, IfOk, subst}
use Rattle.std.proofs.lemmas.Int.{to_z-of_z}
use Rattle.nest_report.specs.Report.{summary_text}
use Rattle.cross_top.proofs.alone.summary.Goals as goal

pub returns : goal.returns
returns c =
    let call = c.args.call.now in
    let fits : SFits w64 c.sum_words-sum.result = search rules in
    subst (λ (s : ℤ). IfOk c.print_summary.result (λ text. text.items ≡ summary_text call.seed call.size c.args.facts.now s)) (to_z-of_z w64 c.sum_words-sum.result fits ∙ c.sum_words-sum.ensures) c.print_summary.ensures

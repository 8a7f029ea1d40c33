use Rattle.std.proofs.Common.{◌≡◌, ◌++◌, Bool, IfOk, if◌then◌else◌, subst}
use Rattle.nest_data.specs.Sum.{written_words, sum_of}
use Rattle.nest_data.specs.Text.{array_lines}
use Rattle.nest_report.specs.Report.{report_text, summary_text}
use Rattle.cross_top.proofs.alone.done_text.Goals as goal

pub returns-then-is_summary : goal.returns-then-is_summary
returns-then-is_summary c =
    let call = c.args.call.now in let program = c.args.checked.now in let words = c.args.words.now in let facts = c.args.facts.now in
    subst (λ (b : Bool). IfOk c.summary.result (λ text. text.items ≡ (if b then summary_text call.seed call.size facts (sum_of (written_words words 0 program.decls)) else array_lines program.names words 0 program.decls ++ report_text program facts))) c.if-is_summary.ensures c.summary.ensures

pub returns-else-is_summary : goal.returns-else-is_summary
returns-else-is_summary c =
    let call = c.args.call.now in let program = c.args.checked.now in let words = c.args.words.now in let facts = c.args.facts.now in
    subst (λ (b : Bool). IfOk c.arrays_and_report.result (λ text. text.items ≡ (if b then summary_text call.seed call.size facts (sum_of (written_words words 0 program.decls)) else array_lines program.names words 0 program.decls ++ report_text program facts))) c.if-is_summary.ensures c.arrays_and_report.ensures

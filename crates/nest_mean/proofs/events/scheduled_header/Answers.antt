use Rattle.std.proofs.Common.{if◌then◌else◌, ap, ◌∙◌}
use Rattle.nest_syntax.specs.Arrays.{arrays_of}
use Rattle.nest_mean.specs.CourseParts.{header}
use Rattle.nest_mean.proofs.events.scheduled_header.Goals as goal

pub returns-clause-value : goal.returns-clause-value
returns-clause-value c =
    let words = c.words_of_event-words.ensures.words ∙ ap (λ drains. if drains then c.args.run.now.words.words else c.args.job.now.opening.words) c.has_drain.ensures in
    rw (c.checked-checked.ensures.same, c.present.ensures) at (c.header_on.ensures.value ∙ ap (header (arrays_of c.checked-checked.result.now.decls) c.args.headed.now c.present.result.now) words)

use Rattle.std.proofs.Common.{map, ap, ◌∙◌}
use Rattle.nest_syntax.specs.Lowest.{lower_of, lines_where}
use Rattle.data_local.specs.Loops.{line_of}
use Rattle.data_local.specs.Breaches.{has_data_bound}
use Rattle.data_local.proofs.Lowests.{body_lowers}
use Rattle.data_local.proofs.bounds.note_data_bounds.Goals as goal

pub returns : goal.returns
returns c = λ arrays tells.
    body_lowers arrays c.args.body.now c.in_ok-locals.locals (map (λ x. x.now) c.in_ok-inner.inner.items) c.args.found.now c.note_where_data.new.found (c.in_ok-locals.ensures arrays tells) c.in_ok-inner.ensures
    (c.note_where_data.ensures arrays tells ∙ ap (λ ls. lower_of c.args.found.now (lines_where line_of (has_data_bound arrays c.in_ok-locals.locals) (map (λ x. x.now) ls))) c.deref.ensures.value)

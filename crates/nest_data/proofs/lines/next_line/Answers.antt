use Rattle.std.proofs.Common.{◌∷◌, List, ℕ, take, sym, ap, ◌∙◌}
use Rattle.std.proofs.lemmas.List.Quantifiers.{position-Some}
use Rattle.nest_data.specs.Lines.{is_line_feed, lines_of}
use Rattle.nest_data.proofs.Fronts.{first_line, last_line}
use Rattle.nest_data.proofs.Parted.{none_pass, behind}
use Rattle.nest_data.proofs.lines.next_line.Goals as goal

pub returns-in-Some-clause-lines : goal.returns-in-Some-clause-lines
returns-in-Some-clause-lines c =
    let at = position-Some is_line_feed c.args.bytes.now c.in-Some.end 0 (sym c.in-Some.ensures) in
    first_line c.args.bytes.now c.in-Some.end at.0 at.1 at.2
    ∙ ap (λ (rest : List ℕ). take c.in-Some.end c.args.bytes.now ∷ lines_of rest) (behind c.args.bytes.now c.in-Some.end)

pub returns-in-None-clause-lines : goal.returns-in-None-clause-lines
returns-in-None-clause-lines c = last_line c.args.bytes.now c.requires (λ k below. none_pass is_line_feed c.args.bytes.now k 0 (sym c.in-None.ensures) below)

use Rattle.std.proofs.Common.{sym, ap, ◌∙◌, ◌-◌, rules, SFits, w64}
use Rattle.std.proofs.lemmas.Int.{to_z-of_z}
use Rattle.nest_syntax.specs.Words.{variable}
use Rattle.task_frame.specs.Pieces.{opening_of}
use Rattle.nest_setup.proofs.Begun.{in_places_same}
use Rattle.spec_core.proofs.pieces.first_piece.Goals as goal

pub returns : goal.returns
returns c =
    let x = c.args.epoch.now in
    let low : SFits w64 x.low = search rules in
    let fits : SFits w64 c.value_in_turn-value.result = search rules in
    c.opening.ensures
    ∙ ap (λ v. opening_of c.args.code.now x.body v x.env) (to_z-of_z w64 c.value_in_turn-value.result fits)
    ∙ ap (λ v. opening_of c.args.code.now x.body v x.env) c.value_in_turn-value.ensures
    ∙ ap (λ l. opening_of c.args.code.now x.body (variable l x.step (c.args.number - x.first)) x.env) (to_z-of_z w64 x.low low)
    ∙ ap (opening_of c.args.code.now x.body (variable x.low x.step (c.args.number - x.first))) (sym (in_places_same x.env (search rules)))

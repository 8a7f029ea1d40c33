use Rattle.std.proofs.Common.{sym, ap, ◌∙◌, rules, SFits, w64}
use Rattle.std.proofs.lemmas.Int.{to_z-of_z}
use Rattle.task_frame.specs.Pieces.{opening_of}
use Rattle.domore_core.specs.Below.{places_are_kept}
use Rattle.domore_core.proofs.pieces.first_piece.Goals as goal

pub returns : goal.returns
returns c =
    let fits : SFits w64 c.args.value = search rules in
    c.opening.ensures
    ∙ ap (λ v. opening_of c.args.code.now c.args.body v c.args.env.now) (to_z-of_z w64 c.args.value fits)
    ∙ ap (opening_of c.args.code.now c.args.body c.args.value) (sym (places_are_kept c.args.env.now (search rules)))

use Rattle.std.proofs.Common.{◌≡◌, false, arith, sym, ap, ◌∙◌, subst}
use Rattle.nest_syntax.specs.declared.tree.Program.{Program}
use Rattle.nest_syntax.specs.Arrays.{arrays_of, sizes_of}
use Rattle.nest_syntax.specs.Turn.{turn_of}
use Rattle.nest_syntax.specs.Reads.{on_words}
use Rattle.nest_syntax.specs.Among.{is_among}
use Rattle.nest_mean.specs.NamesChanged.{names_changed}
use Rattle.nest_mean.specs.TurnRun.{ended}
use Rattle.nest_mean.proofs.Numbers.{body_is, too_many}
use Rattle.nest_mean.proofs.Locals.{assigns_locals}
use Rattle.nest_mean.proofs.bodies.run_turn.Goals as goal

pub returns-in-Ok-clause-turn : goal.returns-in-Ok-clause-turn
returns-in-Ok-clause-turn c =
    let arrays = arrays_of c.args.checked.now.decls in
    let regions = c.as_slice.ensures ∙ ap (λ (p : Program). p.regions) c.program.ensures.same in
    subst (λ body. on_words (sizes_of arrays) (turn_of arrays body c.args.scalars.now) c.args.words.now.words ≡ ended c.run_body.result c.run_body.new.words.words) (sym (body_is c.args.checked.now c.as_slice.result.now c.args.body c.in-Ok.stmts.now regions c.in-Ok.ensures)) c.run_body.ensures.turn

pub returns-in-Ok-clause-others : goal.returns-in-Ok-clause-others
returns-in-Ok-clause-others c = λ name apart.
    let regions = c.as_slice.ensures ∙ ap (λ (p : Program). p.regions) c.program.ensures.same in
    let body = body_is c.args.checked.now c.as_slice.result.now c.args.body c.in-Ok.stmts.now regions c.in-Ok.ensures in
    c.run_body.ensures.others name (subst (λ stmts. is_among (names_changed stmts) name ≡ false) body (assigns_locals c.args.checked.now c.program.ensures.keeps c.args.body name apart))

pub returns-in-Err-clause-turn : goal.returns-in-Err-clause-turn
returns-in-Err-clause-turn c =
    let regions = c.as_slice.ensures ∙ ap (λ (p : Program). p.regions) c.program.ensures.same in
    let over = too_many c.args.checked.now c.as_slice.result.now c.args.body _ regions c.in-Err.ensures in
    absurd (omega (arith, over, c.requires.there))

use Rattle.std.proofs.Common.{◌≡◌, Some, true, false, sym, ap, ◌∙◌}
use denote.Enum.Bare.{sameb, same_true}
use Rattle.spec_core.specs.contracts.moves.Turn.{the_type}
use Rattle.spec_core.specs.declared.moves.Turn.TheVariants as turn
use Rattle.spec_core.specs.declared.moves.Move.TheVariants.{Turn}
use Rattle.spec_core.specs.declared.moves.Turn.{Turn as OwnMove}
use Rattle.spec_core.specs.Signatures.{signs}
use Rattle.spec_core.specs.Engine.{Engine, told_of, made_by, number_by}
use Rattle.spec_core.proofs.Going.{legal_goes_on}
use Rattle.spec_core.proofs.Working.{turn_made, check_is_made}
use Rattle.spec_core.proofs.spec.Spec.made_by_turn.Goals as goal

pub made_by_check-requires-clause-goes : goal.made_by_check-requires-clause-goes
made_by_check-requires-clause-goes g c = legal_goes_on (signs g.G.Signature.EXACT g.G.Signature.holds g.G.Signature.nothing g.G.Signature.with_note) g.met.G.Signature.holds_what_is_noted _ c.self.invariant.legal

pub returns-then-eq : goal.returns-then-eq
returns-then-eq g c =
    let goes = legal_goes_on (signs g.G.Signature.EXACT g.G.Signature.holds g.G.Signature.nothing g.G.Signature.with_note) g.met.G.Signature.holds_what_is_noted _ c.self.invariant.legal in
    let is = ap (λ (e : Engine g.row.G.Denot). told_of (signs g.G.Signature.EXACT g.G.Signature.holds g.G.Signature.nothing g.G.Signature.with_note) e c.args.actor) c.self.view_is ∙ c.requires ∙ ap (λ (t : OwnMove). Some (Turn t)) (same_true the_type tt c.args.turn turn.Check (sym c.if-eq.ensures)) in
    check_is_made (signs g.G.Signature.EXACT g.G.Signature.holds g.G.Signature.nothing g.G.Signature.with_note) _ c.self.inside.plan c.self.inside.table c.self.invariant c.args.actor goes c.made_by_check.result is c.made_by_check.ensures
    ∙ ap (λ (e : Engine g.row.G.Denot). made_by (signs g.G.Signature.EXACT g.G.Signature.holds g.G.Signature.nothing g.G.Signature.with_note) e c.args.actor) c.self.view_is

pub returns : goal.returns
returns g c =
    let goes = legal_goes_on (signs g.G.Signature.EXACT g.G.Signature.holds g.G.Signature.nothing g.G.Signature.with_note) g.met.G.Signature.holds_what_is_noted _ c.self.invariant.legal in
    let is = ap (λ (e : Engine g.row.G.Denot). told_of (signs g.G.Signature.EXACT g.G.Signature.holds g.G.Signature.nothing g.G.Signature.with_note) e c.args.actor) c.self.view_is ∙ c.requires in
    let number = c.number.ensures ∙ ap (λ (e : Engine g.row.G.Denot). number_by e.state e.options.workers c.args.actor) (sym c.self.view_is) in
    turn_made (signs g.G.Signature.EXACT g.G.Signature.holds g.G.Signature.nothing g.G.Signature.with_note) _ c.self.inside.plan c.self.inside.table c.self.invariant c.args.actor goes c.args.turn c.row.result c.number.result is (λ check. let no : false ≡ true = c.if-eq.ensures ∙ ap (λ (t : OwnMove). sameb the_type t turn.Check) check in cc) c.row.ensures number
    ∙ ap (λ (e : Engine g.row.G.Denot). made_by (signs g.G.Signature.EXACT g.G.Signature.holds g.G.Signature.nothing g.G.Signature.with_note) e c.args.actor) c.self.view_is

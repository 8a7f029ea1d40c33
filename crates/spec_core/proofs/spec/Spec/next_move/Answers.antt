use Rattle.std.proofs.Common.{sym, ap, ◌∙◌}
use Rattle.spec_core.specs.Signatures.{signs}
use Rattle.spec_core.specs.Engine.{Engine, told_of, asked}
use Rattle.spec_core.proofs.Going.{legal_goes_on}
use Rattle.spec_core.proofs.Working.{hops, asks_hop}
use Rattle.spec_core.proofs.spec.Spec.next_move.Goals as goal

pub next_move-requires-clause-goes : goal.next_move-requires-clause-goes
next_move-requires-clause-goes g c = legal_goes_on (signs g.G.Signature.EXACT g.G.Signature.holds g.G.Signature.nothing g.G.Signature.with_note) g.met.G.Signature.holds_what_is_noted _ c.self.invariant.legal

pub returns-clause-is : goal.returns-clause-is
returns-clause-is g c = c.next_move.ensures ∙ ap (λ (e : Engine g.row.G.Denot). told_of (signs g.G.Signature.EXACT g.G.Signature.holds g.G.Signature.nothing g.G.Signature.with_note) e c.args.actor) c.self.view_is

pub returns-clause-holds : goal.returns-clause-holds
returns-clause-holds g c = λ hop.
    let is = sym c.next_move.ensures ∙ hop in
    let h = hops (signs g.G.Signature.EXACT g.G.Signature.holds g.G.Signature.nothing g.G.Signature.with_note) _ c.self.inside.plan c.self.inside.table c.self.invariant c.args.actor is in
    (h.piece, ap (λ (e : Engine g.row.G.Denot). asked (signs g.G.Signature.EXACT g.G.Signature.holds g.G.Signature.nothing g.G.Signature.with_note) e c.args.actor) (sym c.self.view_is) ∙ asks_hop (signs g.G.Signature.EXACT g.G.Signature.holds g.G.Signature.nothing g.G.Signature.with_note) _ c.self.inside.plan c.self.inside.table c.self.invariant c.args.actor h is)

use Rattle.std.proofs.Common.{◌≡◌, None, Some, sym, ap, ◌∙◌}
use Rattle.task_frame.specs.declared.piece.Piece.{Piece}
use Rattle.progress_board.specs.declared.actors.Ask.TheVariants.{Ready}
use Rattle.progress_board.specs.declared.actors.Work.TheVariants as work
use Rattle.spec_core.specs.Signatures.{signs}
use Rattle.spec_core.specs.Engine.{Engine, told_of, asked}
use Rattle.spec_core.proofs.Working.{hops, asks_hop}
use Rattle.spec_core.proofs.spec.Spec.held_work.Goals as goal

pub returns-in-Some : goal.returns-in-Some
returns-in-Some g c =
    let u = c.args.actor in
    let is = ap (λ (e : Engine g.row.G.Denot). told_of (signs g.G.Signature.EXACT g.G.Signature.holds g.G.Signature.nothing g.G.Signature.with_note) e u) c.self.view_is ∙ c.requires in
    let h = hops (signs g.G.Signature.EXACT g.G.Signature.holds g.G.Signature.nothing g.G.Signature.with_note) _ c.self.inside.plan c.self.inside.table c.self.invariant u is in
    let asks = ap (λ (e : Engine g.row.G.Denot). asked (signs g.G.Signature.EXACT g.G.Signature.holds g.G.Signature.nothing g.G.Signature.with_note) e u) (sym c.self.view_is) ∙ asks_hop (signs g.G.Signature.EXACT g.G.Signature.holds g.G.Signature.nothing g.G.Signature.with_note) _ c.self.inside.plan c.self.inside.table c.self.invariant u h is in
    let found = c.in-Some.ensures h.there.number h.piece h.there.bench_is in
    let same : c.in-Some.piece ≡ h.piece = cc in
    ap (λ (p : Piece). Ready (work.Hop p)) same ∙ sym asks

pub returns-in-None : goal.returns-in-None
returns-in-None g c =
    let u = c.args.actor in
    let is = ap (λ (e : Engine g.row.G.Denot). told_of (signs g.G.Signature.EXACT g.G.Signature.holds g.G.Signature.nothing g.G.Signature.with_note) e u) c.self.view_is ∙ c.requires in
    let h = hops (signs g.G.Signature.EXACT g.G.Signature.holds g.G.Signature.nothing g.G.Signature.with_note) _ c.self.inside.plan c.self.inside.table c.self.invariant u is in
    absurd (let none : None ≡ Some h.piece = c.in-None.ensures h.there.number h.piece h.there.bench_is in cc)

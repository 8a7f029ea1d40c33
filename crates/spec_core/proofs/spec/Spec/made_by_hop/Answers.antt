use Rattle.std.proofs.Common.{suc, nat_lt, sym, ap, ◌∙◌}
use Rattle.task_hop.specs.declared.stop.Stop.{Stop}
use Rattle.spec_machine.specs.Machine.{to}
use Rattle.spec_core.specs.Signatures.{signs}
use Rattle.spec_core.specs.Hands.{bench_at}
use Rattle.spec_core.specs.Engine.{Engine, asked, made_by, number_by, row_at}
use Rattle.spec_core.specs.Tables.{state_of, setup_by}
use Rattle.spec_core.proofs.Going.{legal_goes_on}
use Rattle.spec_core.proofs.Working.{hop_for, hop_made}
use Rattle.spec_core.proofs.spec.Spec.made_by_hop.Goals as goal

pub row_at-requires-clause-goes : goal.row_at-requires-clause-goes
row_at-requires-clause-goes g c = legal_goes_on (signs g.G.Signature.EXACT g.G.Signature.holds g.G.Signature.nothing g.G.Signature.with_note) g.met.G.Signature.holds_what_is_noted _ c.self.invariant.legal

pub row_at-requires-clause-calm : goal.row_at-requires-clause-calm
row_at-requires-clause-calm g c = (hop_for (signs g.G.Signature.EXACT g.G.Signature.holds g.G.Signature.nothing g.G.Signature.with_note) _ c.self.inside.plan c.self.inside.table c.self.invariant c.args.actor c.args.worked.now (ap (λ (e : Engine g.row.G.Denot). asked (signs g.G.Signature.EXACT g.G.Signature.holds g.G.Signature.nothing g.G.Signature.with_note) e c.args.actor) c.self.view_is ∙ c.requires)).calm

pub row_at-requires-clause-own : goal.row_at-requires-clause-own
row_at-requires-clause-own g c = (hop_for (signs g.G.Signature.EXACT g.G.Signature.holds g.G.Signature.nothing g.G.Signature.with_note) _ c.self.inside.plan c.self.inside.table c.self.invariant c.args.actor c.args.worked.now (ap (λ (e : Engine g.row.G.Denot). asked (signs g.G.Signature.EXACT g.G.Signature.holds g.G.Signature.nothing g.G.Signature.with_note) e c.args.actor) c.self.view_is ∙ c.requires)).own

pub row_at-requires-clause-stands : goal.row_at-requires-clause-stands
row_at-requires-clause-stands g c =
    let h = hop_for (signs g.G.Signature.EXACT g.G.Signature.holds g.G.Signature.nothing g.G.Signature.with_note) _ c.self.inside.plan c.self.inside.table c.self.invariant c.args.actor c.args.worked.now (ap (λ (e : Engine g.row.G.Denot). asked (signs g.G.Signature.EXACT g.G.Signature.holds g.G.Signature.nothing g.G.Signature.with_note) e c.args.actor) c.self.view_is ∙ c.requires) in
    (h.number, c.args.worked.now, h.bench_is)

pub returns : goal.returns
returns g c =
    let u = c.args.actor in
    let table = c.self.inside.table in
    let h = hop_for (signs g.G.Signature.EXACT g.G.Signature.holds g.G.Signature.nothing g.G.Signature.with_note) _ c.self.inside.plan table c.self.invariant u c.args.worked.now (ap (λ (e : Engine g.row.G.Denot). asked (signs g.G.Signature.EXACT g.G.Signature.holds g.G.Signature.nothing g.G.Signature.with_note) e u) c.self.view_is ∙ c.requires) in
    let row = c.row_at.ensures h.number c.args.worked.now h.bench_is ∙ ap (λ (s : Stop). row_at s (nat_lt (suc h.number) (to (setup_by (signs g.G.Signature.EXACT g.G.Signature.holds g.G.Signature.nothing g.G.Signature.with_note) c.self.inside.plan) (state_of table).epochs (bench_at table.seats.items u).done u))) c.stop.ensures in
    let number = c.number.ensures ∙ ap (λ (e : Engine g.row.G.Denot). number_by e.state e.options.workers u) (sym c.self.view_is) in
    hop_made (signs g.G.Signature.EXACT g.G.Signature.holds g.G.Signature.nothing g.G.Signature.with_note) _ c.self.inside.plan table c.self.invariant u c.args.worked.now h c.row_at.result c.number.result row number
    ∙ ap (λ (e : Engine g.row.G.Denot). made_by (signs g.G.Signature.EXACT g.G.Signature.holds g.G.Signature.nothing g.G.Signature.with_note) e u) c.self.view_is

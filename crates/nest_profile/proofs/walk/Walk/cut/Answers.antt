use Rattle.std.proofs.Common.{ℕ, List, [], ◌++◌, sym, subst}
use Rattle.nest_syntax.specs.Among.{Each}
use Rattle.spec_machine.specs.Segments.{cut_off}
use Rattle.spec_core.specs.Signatures.{signs}
use Rattle.nest_profile.specs.declared.row.Row.{Row}
use Rattle.nest_profile.specs.Hulls.{IsEven}
use Rattle.nest_profile.specs.Nearest.{IsNearest}
use Rattle.nest_profile.specs.Walked.{HasLooked, sizes_in}
use Rattle.nest_profile.proofs.Cutting.{cut_looked}
use Rattle.nest_profile.proofs.walk.Walk.cut.Goals as goal

pub nearest-found-requires-clause-even : goal.nearest-found-requires-clause-even
nearest-found-requires-clause-even g c = (c.requires.even.0, subst (Each (IsEven g.G.Signature.sizes_of c.requires.even.0)) (sym c.as_slice.ensures.value) c.requires.even.1)

pub returns-clause-looked : goal.returns-clause-looked
returns-clause-looked g c = λ job options start looked gathered gets has.
    let s = signs g.G.Signature.EXACT g.G.Signature.holds g.G.Signature.nothing g.G.Signature.with_note in
    let old = c.args.self.now in
    let rows = c.clear_first.new.rows.items in
    let near = subst (λ (l : List (Row g.row.G.Denot)). IsNearest g.G.Signature.sizes_of g.G.Signature.holds l old.count c.bound_by-bound.result c.nearest-found.result) c.as_slice.ensures.value c.nearest-found.ensures in
    let near_by = subst (λ (n : ℕ). IsNearest g.G.Signature.sizes_of g.G.Signature.holds old.rows.items old.count n c.nearest-found.result) c.bound_by-bound.ensures near in
    subst (λ best. HasLooked s job options start g.G.Signature.sizes_of rows 0 best (looked ++ cut_off gathered) []) (sym c.or-self.ensures)
    (cut_looked s job options start g.G.Signature.sizes_of old.rows.items rows old.count old.best c.nearest-found.result looked gathered gets has near_by
    (c.clear_first.ensures.table (sizes_in job) options.segment options.workers has.table)
    (c.clear_first.ensures.cleared (sizes_in job) options.segment options.workers has.table))

use Rattle.std.proofs.Common.{map, length, ap, ◌∙◌, subst, sym}
use Rattle.nest_syntax.specs.Among.{Each}
use Rattle.spec_core.specs.Hands.{cleared, seats_of}
use Rattle.spec_core.specs.Tables.{IsBenchBy}
use Rattle.spec_core.proofs.Clearing.{fresh, cleared_kept}
use Rattle.spec_core.proofs.table.Table.begin_anew.Goals as goal

pub returns-clause-seats : goal.returns-clause-seats
returns-clause-seats g c =
    let old = c.args.self.now in
    ap (seats_of old.seen.items) c.clear_all.ensures ∙ fresh (length (map cleared old.seats.items)) old.seen.items 0 old.seats.items

pub returns-clause-benches : goal.returns-clause-benches
returns-clause-benches g c = λ plan each. subst (Each (IsBenchBy g.G.Signature.sizes_of plan)) (sym c.clear_all.ensures) (cleared_kept g.G.Signature.sizes_of plan c.args.self.now.seats.items each)

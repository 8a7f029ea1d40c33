use Rattle.std.proofs.Common.{◌≡◌, ◌<◌, length, if◌then◌else◌, nat_lt, ap, ◌∙◌, arith, length-set}
use Rattle.nest_profile.specs.Hulls.{sign_in}
use Rattle.nest_profile.proofs.Meeting.{stands_at}
use Rattle.nest_profile.proofs.Rows.{cleared_table, cleared_more}
use Rattle.nest_profile.proofs.walk.clear_first.Goals as goal

pub epochs-preserved : goal.epochs-preserved
epochs-preserved g c = (
  length-set c.epochs.rows.items c.epochs.epoch c.clear.new.self ∙ c.epochs.invariant.0,
  λ sizes room width table.
      let rows = c.epochs.rows.items in
      let n = c.epochs.epoch in
      let row = c.index_mut.result.now in
      let nothing = g.G.Signature.nothing in
      let of = g.met.G.Signature.keeps_sizes.0 sizes in
      let before = c.epochs.invariant.1 sizes room width table in
      let low : n < length rows = omega (arith, c.epochs-test.true, c.requires.inside, c.epochs.invariant.0) in
      let there = stands_at rows n row low c.index_mut.ensures.value in (
        cleared_table g.G.Signature.sizes_of nothing sizes of rows n row c.clear.new.self there c.clear.ensures room width before.0,
        cleared_more g.G.Signature.sizes_of nothing sizes of rows n row c.clear.new.self there c.clear.ensures room width before.0 (sign_in (nothing sizes) c.args.rows.now.items) before.1,
      ),
)

pub returns-clause-table : goal.returns-clause-table
returns-clause-table g c = λ sizes room width table. (c.epochs.invariant.1 sizes room width table).0

pub returns-clause-cleared : goal.returns-clause-cleared
returns-clause-cleared g c = λ sizes room width table e u.
    let same : c.epochs.epoch ≡ c.args.count = omega (arith, c.epochs-test.false, c.epochs.auto.epoch-end) in
    (c.epochs.invariant.1 sizes room width table).1 e u
    ∙ ap (λ n. if nat_lt e n then g.G.Signature.nothing sizes else sign_in (g.G.Signature.nothing sizes) c.args.rows.now.items e u) same

use Rattle.std.proofs.Common.{◌≡◌, ◌+◌, ◌-◌, ◌<◌, length, slice_get, ap, ◌∙◌, arith}
use Rattle.nest_profile.proofs.Meeting.{apart_behind, stands_at}
use Rattle.nest_profile.proofs.nearest.meet_apart.Goals as goal

pub returns-then-meet : goal.returns-then-meet
returns-then-meet g c =
    let rows = c.args.rows.now in
    let late = c.loop-late.late in
    let d = c.args.distance in
    let low : late < length rows = omega (arith, c.loop-late-test.true, c.requires.inside) in
    let back : late - d + d ≡ late = omega (arith, c.loop-late.auto.late) in
    record {
      epoch = late - d;
      early = c.index-rows-late.result;
      late = c.index-rows-late-in-loop-late.result;
      early_there = stands_at rows (late - d) c.index-rows-late.result (omega (arith, low)) c.index-rows-late.is;
      late_there = ap (slice_get rows) back ∙ stands_at rows late c.index-rows-late-in-loop-late.result low c.index-rows-late-in-loop-late.is;
      inside = omega (arith, back, c.loop-late-test.true);
      meet = c.if-meet.ensures;
    }

pub loop-late-preserved : goal.loop-late-preserved
loop-late-preserved g c = λ m.
    let rows = c.args.rows.now in
    let late = c.loop-late.late in
    let d = c.args.distance in
    let low : late < length rows = omega (arith, c.loop-late-test.true, c.requires.inside) in
    apart_behind g.G.Signature.sizes_of g.G.Signature.holds rows c.args.count d late c.index-rows-late.result c.index-rows-late-in-loop-late.result c.loop-late.auto.late
    (stands_at rows (late - d) c.index-rows-late.result (omega (arith, low)) c.index-rows-late.is)
    (stands_at rows late c.index-rows-late-in-loop-late.result low c.index-rows-late-in-loop-late.is)
    c.if-meet.ensures m (c.loop-late.invariant m)

use Rattle.std.proofs.Common.{◌≡◌, length, replicate, pos, ap, ◌∙◌, arith}
use Rattle.sched_cursor.proofs.Clearing.{cleared, one_more, all_cleared}
use Rattle.sched_cursor.proofs.start.clear_scalars.Goals as goal

pub loop-name-preserved : goal.loop-name-preserved
loop-name-preserved c = c.set.ensures ∙ one_more c.loop-name.name c.args.scalars.now c.loop-name.scalars c.loop-name.invariant

pub returns : goal.returns
returns c =
    let at : c.loop-name.name ≡ length c.args.scalars.now = omega (arith, c.requires.all) in
    c.loop-name.invariant ∙ ap (λ n. cleared n c.args.scalars.now) at ∙ all_cleared c.args.scalars.now ∙ ap (λ n. replicate n (pos 0)) c.requires.all

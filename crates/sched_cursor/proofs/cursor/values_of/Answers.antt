use Rattle.std.proofs.Common.{◌≡◌, ◌<◌, ℤ, pos, length, replicate, set, refl, sym, ap, ◌∙◌, rules, arith}
use Rattle.std.proofs.lemmas.List.{length-replicate}
use Rattle.std.proofs.lemmas.Int.{to_z-of_z}
use Rattle.std.specs.Int.{w64}
use Rattle.sched_cursor.specs.Events.{value_of}
use Rattle.sched_cursor.proofs.Filling.{filled, one_more, all_filled}
use Rattle.sched_cursor.proofs.cursor.values_of.Goals as goal

pub loop-number-init : goal.loop-number-init
loop-number-init c = (refl, search rules)

pub loop-number-preserved : goal.loop-number-preserved
loop-number-preserved c =
    let names = c.args.names.now in
    let word = to_z-of_z w64 c.value_of.result (search rules) ∙ c.value_of.ensures in
    let inside : c.loop-number.number < length names = omega (arith, c.loop-number-test.true, c.loop-number.invariant.1) in
    (ap (set c.loop-number.values c.loop-number.number) word ∙ one_more (value_of c.args.scalars.now) c.loop-number.number names (replicate 32 (pos 0)) c.loop-number.values inside c.loop-number.invariant.0, c.loop-number.invariant.1)

pub returns : goal.returns
returns c =
    let names = c.args.names.now in
    let at : c.loop-number.number ≡ length names = omega (arith, c.loop-number-test.false, c.loop-number.auto.number-end, c.loop-number.invariant.1) in
    let zero : ℤ = pos 0 in
    c.loop-number.invariant.0 ∙ ap (λ n. filled (value_of c.args.scalars.now) n names (replicate 32 (pos 0))) at
    ∙ all_filled (value_of c.args.scalars.now) names (replicate 32 (pos 0)) (length-replicate 32 zero ∙ sym c.loop-number.invariant.1)

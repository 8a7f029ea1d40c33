use Rattle.std.proofs.Common.{◌≡◌, ◌<◌, length, subst, sym, ◌∙◌, arith}
use Rattle.std.proofs.lemmas.Grind.{common_steps}
use Rattle.task_code.proofs.Hops.{IsGathered, none_gathered, one_gathered, gathered_end, gathered_full}
use Rattle.task_code.proofs.code.TaskCode.hop.Goals as goal

pub loop-here-init : goal.loop-here-init
loop-here-init c = subst (λ ops. IsGathered c.args.self.now.instructions c.args.at ops c.args.at) (sym c.new-operations.ensures) (none_gathered _ _)

pub loop-here-preserved : goal.loop-here-preserved
loop-here-preserved c =
    let few : length c.loop-here.operations.items < 32 = grind (arith, common_steps) in
    subst (λ ops. IsGathered c.args.self.now.instructions c.args.at ops c.in-Then.next) (sym c.push.ensures.items) (one_gathered _ _ _ _ c.in-Then.operation c.in-Then.next c.loop-here.invariant few (sym c.in-Then.ensures))

pub returns-in-End : goal.returns-in-End
returns-in-End c =
    let few : length c.loop-here.operations.items < 32 = grind (arith, common_steps) in
    sym (gathered_end _ _ _ _ c.in-End.end c.loop-here.invariant few (sym c.in-End.ensures))

pub returns : goal.returns
returns c =
    let full : length c.loop-here.operations.items ≡ 32 = grind (arith, common_steps) in
    sym (gathered_full _ _ _ _ c.loop-here.invariant full)

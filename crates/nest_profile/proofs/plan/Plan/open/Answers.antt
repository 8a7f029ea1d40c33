use Rattle.std.proofs.Common.{length, slice_index_or, false, ap, sym, ◌∙◌, subst, ◌<◌, arith}
use Rattle.std.proofs.lemmas.List.{length-map}
use Rattle.nest_syntax.specs.declared.tree.Program.{Program}
use Rattle.nest_syntax.specs.Shape.{Body, invoked_by}
use Rattle.nest_partition.specs.Split.{IsSplitOf}
use Rattle.spec_core.specs.Shared.{is_shared, shared_in}
use Rattle.spec_core.proofs.Opened.{shared_there}
use Rattle.nest_profile.proofs.plan.Plan.open.Goals as goal

pub returns-clause-plan : goal.returns-clause-plan
returns-clause-plan c =
    let program = c.args.job.now.program in
    let is = c.in_ok-shared_bodies.ensures ∙ ap shared_in c.checked-2.ensures.same in
    let many = ap length is ∙ length-map (invoked_by program) (is_shared program) in
    record {
      few_workers = c.requires.few_workers;
      some_worker = omega (arith, c.requires.some_worker);
      some_epoch = omega (arith, c.requires.some_invocation);
      few_epochs = c.requires.few_invocations;
      split_is = subst (λ (p : Program). IsSplitOf p c.in_ok-partition.field-0) c.checked.ensures.same c.in_ok-partition.ensures;
      many_shared = many ∙ sym (length-map (invoked_by program) (λ (b : Body). b.stmts));
      shared = λ b below. ap (λ l. slice_index_or l b.body false) is ∙ shared_there program b (subst (λ n. b.body < n) many below);
    }

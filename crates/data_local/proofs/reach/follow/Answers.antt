use Rattle.std.proofs.Common.{◌≡◌, ◌<◌, ltb, leb, ◌||◌, ◌==◌, length, take, get_or, sym, ap, ◌∙◌, arith, rules}
use Rattle.std.proofs.lemmas.List.Sorted.{IsPartitionPoint-from_clause, IsPartitionedBy-ltb, IsPartitionedBy-leb}
use Rattle.data_local.specs.declared.reach.Edge.{Edge}
use Rattle.nest_syntax.specs.Among.{is_among}
use Rattle.data_local.specs.Reached.{is_edge}
use Rattle.data_local.proofs.Edges.{Between, between, or_false, none_before, all_up_to, one_more, or_assoc, grown_same, grown_then}
use Rattle.data_local.proofs.reach.follow.Goals as goal

pub loop-index-init : goal.loop-index-init
loop-index-init c =
    let first = IsPartitionPoint-from_clause (λ (e : Edge). ltb e.from c.args.node) _ _ c.partition_point-first.ensures.partitioned (IsPartitionedBy-ltb (λ (e : Edge). e.from) _ c.args.node c.requires) (λ a r q k. search rules) in
    let behind = IsPartitionPoint-from_clause (λ (e : Edge). leb e.from c.args.node) _ _ c.partition_point-behind.ensures.partitioned (IsPartitionedBy-leb (λ (e : Edge). e.from) _ c.args.node c.requires) (λ a r q k. search rules) in
    let parts : Between c.args.edges.now c.args.node c.partition_point-first.result c.partition_point-behind.result = between _ _ _ _ c.partition_point-first.ensures.bound c.partition_point-behind.ensures.bound first behind in
    record { grown = grown_same _; more = λ to. sym (ap (λ b. is_among c.args.found.now.keys to || b) (none_before _ _ _ to parts.lower) ∙ or_false _) }

pub loop-index-preserved : goal.loop-index-preserved
loop-index-preserved c =
    let first = IsPartitionPoint-from_clause (λ (e : Edge). ltb e.from c.args.node) _ _ c.partition_point-first.ensures.partitioned (IsPartitionedBy-ltb (λ (e : Edge). e.from) _ c.args.node c.requires) (λ a r q k. search rules) in
    let behind = IsPartitionPoint-from_clause (λ (e : Edge). leb e.from c.args.node) _ _ c.partition_point-behind.ensures.partitioned (IsPartitionedBy-leb (λ (e : Edge). e.from) _ c.args.node c.requires) (λ a r q k. search rules) in
    let parts : Between c.args.edges.now c.args.node c.partition_point-first.result c.partition_point-behind.result = between _ _ _ _ c.partition_point-first.ensures.bound c.partition_point-behind.ensures.bound first behind in
    record {
      grown = grown_then _ _ _ c.loop-index.invariant.grown c.in_ok-add.ensures.grown;
      more = λ to.
          let none : Edge = record { from = 0; to = 0 } in
          let there : c.loop-index.index < length c.args.edges.now = omega (arith, c.partition_point-behind.ensures.bound) in
          let here : (get_or c.args.edges.now c.loop-index.index none).from ≡ c.args.node = parts.here c.loop-index.index none c.loop-index.auto.index c.loop-index-test.true in
          c.in_ok-add.ensures.more to
          ∙ ap (λ b. b || (to == (get_or c.args.edges.now c.loop-index.index none).to)) (c.loop-index.invariant.more to)
          ∙ or_assoc (is_among c.args.found.now.keys to) (is_edge (take c.loop-index.index c.args.edges.now) c.args.node to) (to == (get_or c.args.edges.now c.loop-index.index none).to)
          ∙ ap (λ b. is_among c.args.found.now.keys to || b) (sym (one_more c.args.edges.now c.args.node c.loop-index.index to none there here));
    }

pub returns-clause-more : goal.returns-clause-more
returns-clause-more c =
    let first = IsPartitionPoint-from_clause (λ (e : Edge). ltb e.from c.args.node) _ _ c.partition_point-first.ensures.partitioned (IsPartitionedBy-ltb (λ (e : Edge). e.from) _ c.args.node c.requires) (λ a r q k. search rules) in
    let behind = IsPartitionPoint-from_clause (λ (e : Edge). leb e.from c.args.node) _ _ c.partition_point-behind.ensures.partitioned (IsPartitionedBy-leb (λ (e : Edge). e.from) _ c.args.node c.requires) (λ a r q k. search rules) in
    let parts : Between c.args.edges.now c.args.node c.partition_point-first.result c.partition_point-behind.result = between _ _ _ _ c.partition_point-first.ensures.bound c.partition_point-behind.ensures.bound first behind in
    let ends : c.loop-index.index ≡ c.partition_point-behind.result = omega (arith, parts.ordered, c.loop-index.auto.index-end) in
    λ to. c.loop-index.invariant.more to ∙ ap (λ b. is_among c.args.found.now.keys to || b) (ap (λ k. is_edge (take k c.args.edges.now) c.args.node to) ends ∙ all_up_to _ _ _ to c.partition_point-behind.ensures.bound parts.higher)

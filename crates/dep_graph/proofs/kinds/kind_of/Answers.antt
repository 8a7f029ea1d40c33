use Rattle.std.proofs.Common.{rules, ◌≡◌, ◌+◌, None, take}
use Rattle.std.specs.Option.{option_map}
use Rattle.dep_graph.specs.declared.accesses.Access.{Access}
use Rattle.dep_graph.specs.Kinds.{may_depend, first_where}
use Rattle.dep_graph.proofs.Firsts.{kind_goes_on, kind_ends, writes_go_on}
use Rattle.dep_graph.proofs.kinds.kind_of.Goals as goal

pub loop-k-preserved : goal.loop-k-preserved
loop-k-preserved c =
    let none : None ≡ option_map (λ (a : Access). a.at) (first_where (may_depend c.args.step c.index-accesses-k.result) (take (c.loop-k.k + 1) c.args.accesses.now)) = search rules in
    record {
      left = kind_goes_on c.args.step c.args.accesses.now c.loop-k.k c.loop-k-test.true c.index-accesses-k.result c.index-accesses-k.is _ c.loop-k.invariant.left none;
      writes = writes_go_on c.args.accesses.now c.loop-k.k c.loop-k-test.true c.index-accesses-k.result c.index-accesses-k.is _ c.loop-k.invariant.writes _ c.in_ok-note_write.ensures;
    }

pub returns : goal.returns
returns c = kind_ends c.args.step c.args.accesses.now c.loop-k.k c.loop-k-test.false _ c.loop-k.invariant.left

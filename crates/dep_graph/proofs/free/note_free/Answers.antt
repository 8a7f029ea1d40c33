use Rattle.std.proofs.Common.{sym, subst, take}
use Rattle.nest_syntax.specs.Among.{Each}
use Rattle.dep_graph.specs.Seen.{IsKnown, AreFree}
use Rattle.dep_graph.proofs.Frees.{known_more, free_here, free_more}
use Rattle.dep_graph.proofs.free.note_free.Goals as goal

pub loop-k-preserved : goal.loop-k-preserved
loop-k-preserved c =
    let all = known_more c.args.array c.args.step c.args.accesses.now c.loop-k.k c.loop-k-test.true c.index-accesses-k.result c.index-accesses-k.is c.loop-k.known c.note.new.self c.note.ensures.is c.note.ensures.kept c.loop-k.invariant.known in
    record {
      free = subst (AreFree c.args.step c.args.accesses.now) (sym c.note-in-loop-k.ensures)
          (free_more c.args.step c.args.accesses.now c.loop-k.free.items c.loop-k.k c.frees.result
          (λ free. free_here c.args.array c.args.step c.args.accesses.now c.loop-k.k c.loop-k-test.true c.index-accesses-k.result c.index-accesses-k.is c.note.new.self all (c.frees.ensures free)) c.loop-k.invariant.free);
      known = all;
    }

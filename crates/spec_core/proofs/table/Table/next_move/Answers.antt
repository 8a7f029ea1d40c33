use Rattle.std.proofs.Common.{◌<◌, sym, subst}
use Rattle.spec_core.specs.Signatures.{signs}
use Rattle.spec_core.proofs.Telling.{tells_worker, tells_scheduler}
use Rattle.spec_core.proofs.table.Table.next_move.Goals as goal

pub returns-then-actor-workers : goal.returns-then-actor-workers
returns-then-actor-workers g c =
    tells_worker (signs g.G.Signature.EXACT g.G.Signature.holds g.G.Signature.nothing g.G.Signature.with_note) _ c.args.plan.now c.args.self.now c.requires.sound c.args.actor (subst (λ n. c.args.actor < n) (sym c.requires.sound.seats) c.if-actor-workers.true) c.worker_move.result c.if-self.false c.worker_move.ensures

pub returns-then-actor-workers-2 : goal.returns-then-actor-workers-2
returns-then-actor-workers-2 g c = tells_scheduler (signs g.G.Signature.EXACT g.G.Signature.holds g.G.Signature.nothing g.G.Signature.with_note) _ c.args.plan.now c.args.self.now c.requires.sound c.args.actor c.scheduler_move.result c.if-self.false c.if-actor-workers-2.true c.scheduler_move.ensures

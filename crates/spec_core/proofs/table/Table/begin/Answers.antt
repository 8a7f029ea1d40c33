use Rattle.std.proofs.Common.{ap, ◌∙◌}
use Rattle.spec_core.specs.Signatures.{signs}
use Rattle.spec_core.specs.Hands.{bench_at, hand_of}
use Rattle.spec_core.specs.Blocks.{planned_at, block_in, first_in}
use Rattle.spec_core.proofs.Placing.{was_is}
use Rattle.spec_core.proofs.Blocks.{first_is}
use Rattle.spec_core.proofs.Standing.{idle_begun}
use Rattle.spec_core.proofs.Beginning.{room, begin_sound, begin_by}
use Rattle.spec_core.proofs.table.Table.begin.Goals as goal

pub begin-requires-clause-room : goal.begin-requires-clause-room
begin-requires-clause-room g c =
    let s = signs g.G.Signature.EXACT g.G.Signature.holds g.G.Signature.nothing g.G.Signature.with_note in
    let idle = idle_begun s _ c.args.plan.now c.args.self.now c.args.worker c.requires.plan c.requires.sound c.requires.goes c.requires.calm c.requires.own c.requires.idle in
    room s _ c.args.plan.now c.args.self.now c.args.worker c.index_mut-2.result.now c.requires.plan c.requires.sound c.requires.own c.index_mut-2.ensures.value idle c.requires.open

pub returns-clause-state : goal.returns-clause-state
returns-clause-state g c =
    let s = signs g.G.Signature.EXACT g.G.Signature.holds g.G.Signature.nothing g.G.Signature.with_note in
    let plan = c.args.plan.now in
    let old = c.args.self.now in
    let u = c.args.worker in
    let idle = idle_begun s _ plan old u c.requires.plan c.requires.sound c.requires.goes c.requires.calm c.requires.own c.requires.idle in
    let done = c.done-epoch.ensures ∙ ap (λ b. b.done) (was_is _ _ old u c.index.result.now c.requires.sound c.requires.own c.index.ensures) in
    begin_by s _ plan old u c.index_mut-2.result.now c.requires.plan c.requires.sound c.requires.own c.index_mut-2.ensures.value idle c.requires.open
    c.begin.new.self c.done-epoch.result c.finished.result (hand_of c.first_of-first.result) _ done c.begin.ensures
    (c.first_of-first.ensures ∙ ap (λ e. first_in plan.code (planned_at old.desk.epochs e) (block_in (planned_at old.desk.epochs e) plan.options.workers e u)) done ∙ first_is s plan old.desk.epochs c.requires.sound.desk.epochs (bench_at old.seats.items u).done c.requires.open u)
    c.finished.ensures g.met.G.Signature.keeps_sizes.0

pub returns-clause-sound : goal.returns-clause-sound
returns-clause-sound g c =
    let s = signs g.G.Signature.EXACT g.G.Signature.holds g.G.Signature.nothing g.G.Signature.with_note in
    let idle = idle_begun s _ c.args.plan.now c.args.self.now c.args.worker c.requires.plan c.requires.sound c.requires.goes c.requires.calm c.requires.own c.requires.idle in
    begin_sound s _ c.args.plan.now c.args.self.now c.args.worker c.index_mut-2.result.now c.requires.plan c.requires.sound c.requires.own c.index_mut-2.ensures.value idle c.requires.open
    g.met.G.Signature.keeps_sizes.0 c.begin.new.self c.done-epoch.result c.finished.result (hand_of c.first_of-first.result) c.begin.ensures

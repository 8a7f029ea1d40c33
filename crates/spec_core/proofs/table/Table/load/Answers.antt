use Rattle.std.proofs.Common.{false, refl, ap, ◌∙◌, rules, SFits, w64}
use Rattle.std.proofs.lemmas.Int.{to_z-of_z}
use Rattle.task_hop.specs.declared.frame.Frame.{Frame}
use Rattle.task_hop.specs.declared.frame.Register.TheVariants.{Temporary}
use Rattle.task_hop.specs.Registers.{with_register}
use Rattle.task_frame.specs.Pieces.{piece_at}
use Rattle.spec_core.specs.Signatures.{signs}
use Rattle.spec_core.proofs.Noting.{read_is, load_by, note_sound}
use Rattle.spec_core.proofs.table.Table.load.Goals as goal

pub returns-clause-state : goal.returns-clause-state
returns-clause-state g c = λ k p held.
    let s = signs g.G.Signature.EXACT g.G.Signature.holds g.G.Signature.nothing g.G.Signature.with_note in
    let plan = c.args.plan.now in
    let old = c.args.self.now in
    let fits : SFits w64 c.word_at-value.result = search rules in
    let value = read_is s _ plan old c.args.worker c.index_mut-seat.result.now c.requires.plan c.requires.sound c.requires.own c.index_mut-seat.ensures.value c.args.array c.args.place c.requires.inside c.requires.begun c.word_at-value.result c.word_at-value.ensures in
    load_by s _ plan old c.args.worker c.index_mut-seat.result.now c.requires.plan c.requires.sound c.requires.own c.index_mut-seat.ensures.value c.args.array c.args.place c.requires.inside c.requires.begun
    c.stand.new.self c.note_read.new.self c.index-is_fixed.result.now k p c.piece_at-piece.result (λ v. piece_at plan.code c.args.next (with_register c.args.frame (Temporary c.args.into) v)) c.index-is_fixed.ensures c.note_read.ensures held c.stand.ensures.stands
    (c.piece_at-piece.ensures ∙ ap (λ (f : Frame). piece_at plan.code c.args.next f) c.loaded.ensures ∙ ap (λ v. piece_at plan.code c.args.next (with_register c.args.frame (Temporary c.args.into) v)) (to_z-of_z w64 c.word_at-value.result fits ∙ value))

pub returns-clause-sound : goal.returns-clause-sound
returns-clause-sound g c =
    let s = signs g.G.Signature.EXACT g.G.Signature.holds g.G.Signature.nothing g.G.Signature.with_note in
    let plan = c.args.plan.now in
    let old = c.args.self.now in
    note_sound s _ plan old c.args.worker c.index_mut-seat.result.now c.requires.plan c.requires.sound c.requires.own c.index_mut-seat.ensures.value c.args.array c.args.place c.requires.inside c.requires.begun
    g.met.G.Signature.keeps_sizes.1 c.stand.new.self c.note_read.new.self false c.index-is_fixed.result.now old.words refl c.note_read.ensures c.stand.ensures.kept

use Rattle.std.proofs.Common.{true, false, ap, ◌∙◌, rules, SFits, w64}
use Rattle.std.proofs.lemmas.Int.{to_z-of_z}
use Rattle.nest_syntax.specs.Arrays.{word_number, with_word}
use Rattle.word_store.specs.Memory.{Memory}
use Rattle.task_frame.specs.Pieces.{piece_at}
use Rattle.spec_core.specs.Signatures.{signs}
use Rattle.spec_core.proofs.Noting.{store_by, note_sound}
use Rattle.spec_core.proofs.table.Table.store.Goals as goal

pub returns-clause-state : goal.returns-clause-state
returns-clause-state g c = λ k p held.
    let s = signs g.G.Signature.EXACT g.G.Signature.holds g.G.Signature.nothing g.G.Signature.with_note in
    let plan = c.args.plan.now in
    let old = c.args.self.now in
    let fits : SFits w64 c.args.value = search rules in
    let written = c.set_word.ensures ∙ ap (λ v. let m : Memory = record old.words { words = with_word old.words.words (word_number old.words.sizes c.args.array c.args.place) v } in m) (to_z-of_z w64 c.args.value fits) in
    store_by s _ plan old c.args.worker c.index_mut-seat.result.now c.requires.plan c.requires.sound c.requires.own c.index_mut-seat.ensures.value c.args.array c.args.place c.requires.inside c.requires.begun
    c.stand.new.self c.note.new.self k p c.piece_at-piece.result (piece_at plan.code c.args.next c.args.frame) c.piece_at-piece.ensures c.args.value c.set_word.new.words written c.note.ensures held c.stand.ensures.stands

pub returns-clause-sound : goal.returns-clause-sound
returns-clause-sound g c =
    let s = signs g.G.Signature.EXACT g.G.Signature.holds g.G.Signature.nothing g.G.Signature.with_note in
    let plan = c.args.plan.now in
    let old = c.args.self.now in
    note_sound s _ plan old c.args.worker c.index_mut-seat.result.now c.requires.plan c.requires.sound c.requires.own c.index_mut-seat.ensures.value c.args.array c.args.place c.requires.inside c.requires.begun
    g.met.G.Signature.keeps_sizes.1 c.stand.new.self c.note.new.self true false c.set_word.new.words (ap (λ (m : Memory). m.sizes) c.set_word.ensures) c.note.ensures c.stand.ensures.kept

use Rattle.std.proofs.Common.{◌≤◌, sym, ap, ◌∙◌, subst, arith}
use Rattle.word_store.specs.Memory.{Memory}
use Rattle.spec_core.specs.declared.table.Table.{Table}
use Rattle.spec_core.specs.Tables.{IsDeskBy}
use Rattle.spec_core.proofs.Clearing.{anew_sound, many_anew, far_few}
use Rattle.spec_core.proofs.table.Table.commit.Goals as goal

pub returns-clause-sound : goal.returns-clause-sound
returns-clause-sound g c =
    let plan = c.args.plan.now in
    let old = c.args.self.now in
    let sound = c.requires.sound in
    let anew = c.begin_anew.new.self in
    let kept = c.begin_anew.ensures.kept in
    let desk = subst (IsDeskBy plan) (sym (ap (λ (t : Table g.row.G.Denot). t.desk) kept)) sound.desk in
    let new : Table g.row.G.Denot = record anew { desk = c.commit-2.new.self; distance = c.from-self.result } in
    anew_sound g.G.Signature.sizes_of plan old new sound (many_anew anew.seen.items anew.seats.items _ c.begin_anew.ensures.seats) (c.begin_anew.ensures.benches plan sound.benches) (ap (λ (t : Table g.row.G.Denot). t.seen.items) kept)
    (ap (λ (t : Table g.row.G.Denot). t.words.sizes) kept) (ap (λ (t : Table g.row.G.Denot). t.mark.sizes) kept ∙ ap (λ (m : Memory). m.sizes) c.commit.ensures ∙ sound.sizes ∙ sym sound.mark)
    (subst (IsDeskBy plan) (sym c.commit-2.ensures) (record { cursor_is = desk.cursor_is; fresh = desk.fresh; options = desk.options; epochs = tt; few = omega arith }))
    (subst (λ n. n ≤ 64) (sym (c.from-self.ensures ∙ c.far.ensures)) (far_few plan.options.distance plan.options.engine c.requires.plan.near)) (ap (λ (t : Table g.row.G.Denot). t.checker) kept)

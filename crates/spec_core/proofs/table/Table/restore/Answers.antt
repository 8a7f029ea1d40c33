use Rattle.std.proofs.Common.{◌≡◌, None, Some, length, replicate, sym, ap, ◌∙◌, subst, arith}
use Rattle.std.specs.Option.{option_map}
use Rattle.word_store.specs.Memory.{Memory}
use Rattle.spec_machine.specs.Facts.{restored}
use Rattle.spec_machine.specs.Machine.{fresh_seat}
use Rattle.spec_core.specs.declared.desk.Desk.{Desk}
use Rattle.spec_core.specs.declared.table.Table.{Table}
use Rattle.spec_core.specs.Hands.{seats_of}
use Rattle.spec_core.specs.Reports.{abort_in}
use Rattle.spec_core.specs.Tallies.{Tallied}
use Rattle.spec_core.specs.Engine.{Stand}
use Rattle.spec_core.specs.Tables.{state_of, IsDeskBy}
use Rattle.spec_core.proofs.Clearing.{anew_sound, many_anew, none_passed}
use Rattle.spec_core.proofs.table.Table.restore.Goals as goal

pub returns-clause-state : goal.returns-clause-state
returns-clause-state g c = λ cause aborted.
    let old = c.args.self.now in
    let anew = c.begin_anew.new.self in
    let kept = c.begin_anew.ensures.kept in
    let tally = c.restore-2.new.self in
    let same : abort_in c.in-Some.cause ≡ cause = (let both : Some (abort_in c.in-Some.cause) ≡ Some cause = sym (ap (option_map abort_in) c.in-Some.is) ∙ aborted in cc) in
    let seats = sym (ap (λ (t : Table g.row.G.Denot). seats_of t.seen.items anew.seats.items) kept) ∙ c.begin_anew.ensures.seats ∙ ap (λ n. replicate n fresh_seat) c.requires.sound.seats in
    let facts = ap (λ (t : Tallied). t.facts) c.restore-2.ensures ∙ ap (λ (t : Table g.row.G.Denot). restored (abort_in c.in-Some.cause) t.desk.tally.facts) kept ∙ ap (λ a. restored a old.desk.tally.facts) same in
    (λ i. let t : Table g.row.G.Denot = record (kept i) { desk = (let d : Desk = record (kept i).desk { tally = tally } in d); distance = 0; abort = None } in state_of t)
    ∙ (λ i. let s : Stand g.row.G.Denot = record (state_of old) { words = (c.restore.ensures i).words; seats = seats i; passed = none_passed (length anew.seats.items) (length old.desk.epochs) old.seen.items i; distance = 0; abort = None; facts = facts i } in s)

pub returns-clause-sound : goal.returns-clause-sound
returns-clause-sound g c =
    let plan = c.args.plan.now in
    let old = c.args.self.now in
    let sound = c.requires.sound in
    let anew = c.begin_anew.new.self in
    let kept = c.begin_anew.ensures.kept in
    let desk = subst (IsDeskBy plan) (sym (ap (λ (t : Table g.row.G.Denot). t.desk) kept)) sound.desk in
    let new : Table g.row.G.Denot = record anew { desk = (let d : Desk = record anew.desk { tally = c.restore-2.new.self } in d); distance = 0; abort = None } in
    anew_sound g.G.Signature.sizes_of plan old new sound (many_anew anew.seen.items anew.seats.items _ c.begin_anew.ensures.seats) (c.begin_anew.ensures.benches plan sound.benches) (ap (λ (t : Table g.row.G.Denot). t.seen.items) kept)
    (ap (λ (t : Table g.row.G.Denot). t.words.sizes) kept ∙ ap (λ (m : Memory). m.sizes) c.restore.ensures ∙ sound.mark ∙ sym sound.sizes) (ap (λ (t : Table g.row.G.Denot). t.mark.sizes) kept)
    (record { cursor_is = desk.cursor_is; fresh = desk.fresh; options = ap (λ (t : Tallied). t.options) c.restore-2.ensures ∙ desk.options; epochs = desk.epochs; few = desk.few }) (omega arith) (ap (λ (t : Table g.row.G.Denot). t.checker) kept)

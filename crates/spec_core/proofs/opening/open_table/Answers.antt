use Rattle.std.proofs.Common.{◌≡◌, ◌≤◌, None, Some, length, replicate, ap, sym, subst, ◌∙◌}
use Rattle.std.proofs.lemmas.List.{length-replicate}
use Rattle.nest_syntax.specs.Among.{Each}
use Rattle.word_store.specs.Memory.{Memory}
use Rattle.spec_core.specs.Signatures.{signs}
use Rattle.spec_core.specs.Tables.{IsBenchBy, sizes_by}
use Rattle.spec_core.proofs.Opened.{fresh, opened_state, each_same, fresh_bench, near}
use Rattle.spec_core.proofs.opening.open_table.Goals as goal

pub returns-clause-state : goal.returns-clause-state
returns-clause-state g c =
    let s = signs g.G.Signature.EXACT g.G.Signature.holds g.G.Signature.nothing g.G.Signature.with_note in
    opened_state s c.args.plan.now _ _ c.in_ok-open_desk.field-0 _ c.in_ok-open_seats.field-0.items c.in_ok-open_seen.field-0.items _ _
    (ap (λ (m : Memory). m.words) (c.in_ok-copy.ensures ∙ c.words-words.ensures.same))
    (ap (λ (m : Memory). m.words) (c.in_ok-mark.ensures ∙ c.words-words.ensures.same))
    c.in_ok-open_desk.ensures.cursor c.in_ok-open_desk.ensures.rest (c.from.ensures ∙ c.far.ensures) c.in_ok-open_seats.ensures c.new.ensures

pub returns-clause-sound : goal.returns-clause-sound
returns-clause-sound g c =
    let plan = c.args.plan.now in
    let sign = g.G.Signature.nothing (sizes_by plan) in
    let seat = fresh (replicate plan.options.segment sign) in
    record {
      seats = ap length c.in_ok-open_seats.ensures ∙ length-replicate plan.options.workers seat;
      benches = subst (Each (IsBenchBy g.G.Signature.sizes_of plan)) (sym c.in_ok-open_seats.ensures)
          (each_same (IsBenchBy g.G.Signature.sizes_of plan) plan.options.workers seat (fresh_bench g.G.Signature.sizes_of plan sign (g.met.G.Signature.keeps_sizes.0 (sizes_by plan))));
      seen = c.in_ok-open_seen.ensures;
      sizes = ap (λ (m : Memory). m.sizes) (c.in_ok-copy.ensures ∙ c.words-words.ensures.same) ∙ c.words-words.ensures.runs.sizes;
      mark = ap (λ (m : Memory). m.sizes) (c.in_ok-mark.ensures ∙ c.words-words.ensures.same) ∙ c.words-words.ensures.runs.sizes;
      desk = c.in_ok-open_desk.ensures.desk;
      near = subst (λ n. n ≤ 64) (sym (c.from.ensures ∙ c.far.ensures)) (near plan.options c.requires.near);
      reached = λ names is. absurd (let none : None ≡ Some names = sym c.new.ensures ∙ is in cc);
    }

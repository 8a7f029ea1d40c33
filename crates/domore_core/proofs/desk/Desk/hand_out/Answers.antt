use Rattle.std.proofs.Common.{suc, sym, ap, ◌∙◌, subst}
use Rattle.shadow_memory.specs.Accesses.{IsNoted}
use Rattle.sched_cursor.specs.declared.event.Iteration.{Iteration}
use Rattle.sched_cursor.specs.Cursor.{Cursor}
use Rattle.sched_cursor.specs.Handed.{what_of}
use Rattle.domore_machine.specs.Facts.{iterated}
use Rattle.domore_machine.specs.Machine as machine
use Rattle.domore_core.specs.Claims.{claims_of}
use Rattle.domore_core.specs.Tables.{setup_by, claims_by, notes_below}
use Rattle.domore_core.specs.Tallies.{Tallied}
use Rattle.domore_core.proofs.Behind.{iterates_once, claims_at, ticket-is}
use Rattle.domore_core.proofs.desk.Desk.hand_out.Goals as goal

pub returns-clause-ticket : goal.returns-clause-ticket
returns-clause-ticket c = λ b rest is.
    let plan = c.args.plan.now in
    let program = plan.job.program in
    let words = plan.job.opening.words in
    let number = c.next-number.ensures.same in
    let handed = c.iteration-iteration.ensures in
    let event = c.pass_iteration.ensures.event in
    let own = c.claim.ensures.claims ∙ ap (λ (i : Iteration). claims_of program words (what_of program i)) handed
    ∙ sym (claims_at program words (claims_of program words) c.args.self.now.cursor.next _ (c.requires.next _ _ event)) ∙ ap (claims_by plan) (sym number) in
    let noted = subst (λ n. IsNoted c.args.self.now.shadow (notes_below (claims_by plan) plan.options.workers n)) (sym number) c.requires.desk.noted in
    c.ticket_for.ensures.ticket ∙ ticket-is _ _ _ b _ (machine.waits (setup_by plan)) number (handed ∙ (iterates_once b _ rest _ _ event is).0) (c.wait_and_note-waits.ensures.waits (claims_by plan) noted own)

pub returns-clause-goes : goal.returns-clause-goes
returns-clause-goes c = λ b rest is.
    let plan = c.args.plan.now in
    let program = plan.job.program in
    let words = plan.job.opening.words in
    let number = c.next-number.ensures.same in
    let handed = c.iteration-iteration.ensures in
    let event = c.pass_iteration.ensures.event in
    let there = (iterates_once b _ rest _ _ event is).1 in
    let own = c.claim.ensures.claims ∙ ap (λ (i : Iteration). claims_of program words (what_of program i)) handed
    ∙ sym (claims_at program words (claims_of program words) c.args.self.now.cursor.next _ (c.requires.next _ _ event)) ∙ ap (claims_by plan) (sym number) in
    let noted = subst (λ n. IsNoted c.args.self.now.shadow (notes_below (claims_by plan) plan.options.workers n)) (sym number) c.requires.desk.noted in
    let waits = c.as_slice.ensures.value ∙ c.listed_waits.ensures ∙ c.wait_and_note-waits.ensures.waits (claims_by plan) noted own in (
      there,
      ap (λ (x : Cursor). x.next) (sym there) ∙ c.pass_iteration.ensures.next,
      ap (λ (t : Tallied). t.facts) c.hand_out.ensures
          ∙ ap (λ ws. iterated c.next-number.result ws c.args.self.now.tally.facts) waits
          ∙ ap (λ n. iterated n (machine.waits (setup_by plan) n) c.args.self.now.tally.facts) number,
    )

pub returns-clause-desk : goal.returns-clause-desk
returns-clause-desk c =
    let plan = c.args.plan.now in
    let program = plan.job.program in
    let words = plan.job.opening.words in
    let desk = c.requires.desk in
    let number = c.next-number.ensures.same in
    let handed = c.iteration-iteration.ensures in
    let event = c.pass_iteration.ensures.event in
    let own = c.claim.ensures.claims ∙ ap (λ (i : Iteration). claims_of program words (what_of program i)) handed
    ∙ sym (claims_at program words (claims_of program words) c.args.self.now.cursor.next _ (c.requires.next _ _ event)) ∙ ap (claims_by plan) (sym number) in
    let noted = subst (λ n. IsNoted c.args.self.now.shadow (notes_below (claims_by plan) plan.options.workers n)) (sym number) desk.noted in
    record {
      cursor_is = c.pass_iteration.ensures.cursor;
      options = ap (λ (t : Tallied). t.options) c.hand_out.ensures ∙ desk.options;
      room = c.claim.ensures.room;
      words = c.wait_and_note-waits.ensures.words ∙ desk.words;
      workers = c.wait_and_note-waits.ensures.workers ∙ desk.workers;
      noted = subst (λ n. IsNoted c.wait_and_note-waits.new.shadow (notes_below (claims_by plan) plan.options.workers n)) (ap suc number ∙ sym c.pass_iteration.ensures.next) (c.wait_and_note-waits.ensures.noted (claims_by plan) noted own);
      names = c.claim.ensures.names ∙ desk.names;
    }

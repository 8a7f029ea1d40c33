-- The first ticket of a queue.
use Rattle.std.proofs.Common.{◌≡◌, ℕ, suc, ◌==◌, Option, Some, None, List, [], ◌∷◌, ◌++◌, length, drop, slice_get, refl, sym, ap, ◌∙◌, arith}
use Rattle.std.proofs.lemmas.Bool.{ne_eqb}
use Rattle.std.proofs.lemmas.List.{length-map, map-append}
use Rattle.wait_queue.specs.declared.ticket.Ticket.{Ticket as Put}
use Rattle.sched_cursor.specs.declared.event.Iteration.{Iteration}
use Rattle.domore_machine.specs.Machine.{Ticket, Idle}
use Rattle.domore_machine.specs.Invariant.{has_no_ticket}
use Rattle.domore_core.specs.declared.stage.Stage.TheVariants.{Free, Next}
use Rattle.domore_core.specs.Tickets.{ticket_of, tickets_of}
use Rattle.domore_core.specs.Stages.{stage_in, number_in}

pub first_is : (raw : List Put) (x : Put) (t : Ticket Iteration) (queue : List (Ticket Iteration)) → Some x ≡ slice_get raw 0 → tickets_of raw ≡ t ∷ queue → ticket_of x ≡ t
first_is [] x t queue is all = absurd (let no : Some x ≡ None = is in cc)
first_is (y ∷ ys) x t queue is all = let same : x ≡ y = cc in let first : ticket_of y ≡ t = cc in ap ticket_of same ∙ first

pub rest_is : (raw : List Put) (t : Ticket Iteration) (queue : List (Ticket Iteration)) → tickets_of raw ≡ t ∷ queue → tickets_of (drop 1 raw) ≡ queue
rest_is [] t queue all = absurd (let no : [] ≡ t ∷ queue = all in cc)
rest_is (y ∷ ys) t queue all = let rest : tickets_of ys ≡ queue = cc in rest

pub none_first : (raw : List Put) → None ≡ slice_get raw 0 → tickets_of raw ≡ []
none_first [] is = refl
none_first (y ∷ ys) is = absurd (let no : None ≡ Some y = is in cc)

pub next_stage : (raw : List Put) (x : Put) → Some x ≡ slice_get raw 0 → Next x.number ≡ stage_in Idle (tickets_of raw)
next_stage [] x is = absurd (let no : Some x ≡ None = is in cc)
next_stage (y ∷ ys) x is = let same : x ≡ y = cc in ap (λ (z : Put). Next z.number) same

pub free_stage : (raw : List Put) → None ≡ slice_get raw 0 → Free ≡ stage_in Idle (tickets_of raw)
free_stage [] is = refl
free_stage (y ∷ ys) is = absurd (let no : None ≡ Some y = is in cc)

pub first_number : (raw : List Put) (x : Put) → Some x ≡ slice_get raw 0 → x.number ≡ number_in Idle (tickets_of raw)
first_number [] x is = absurd (let no : Some x ≡ None = is in cc)
first_number (y ∷ ys) x is = let same : x ≡ y = cc in ap (λ (z : Put). z.number) same

pub no_number : (raw : List Put) → None ≡ slice_get raw 0 → 0 ≡ number_in Idle (tickets_of raw)
no_number [] is = refl
no_number (y ∷ ys) is = absurd (let no : None ≡ Some y = is in cc)

pub none_queued : (raw : List Put) → has_no_ticket (tickets_of raw) ≡ (length raw == 0)
none_queued [] = refl
none_queued (y ∷ ys) = sym (ne_eqb (suc (length ys)) 0 (λ same. absurd (omega arith)))

pub many_queued : (raw : List Put) → length (tickets_of raw) ≡ length raw
many_queued raw = length-map raw ticket_of

pub put_queued : (raw : List Put) (x : Put) → tickets_of (raw ++ x ∷ []) ≡ tickets_of raw ++ ticket_of x ∷ []
put_queued raw x = map-append ticket_of raw (x ∷ [])

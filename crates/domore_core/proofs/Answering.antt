-- What the answer of a cursor says of its number and of a header.
use Rattle.std.proofs.Common.{◌≡◌, ℕ, suc, ◌+◌, ℤ, Bool, true, false, if◌then◌else◌, Option, Some, None, IfSome, Result, Ok, Err, List, refl, sym, ap, ◌∙◌, subst, arith}
use Rattle.nest_syntax.specs.declared.place.Place.{Place}
use Rattle.nest_syntax.specs.Arrays.{Array}
use Rattle.settle_law.specs.Courses.{Trap}
use Rattle.sched_cursor.specs.Cursor.{Cursor}
use Rattle.sched_cursor.specs.Events.{after_event, as_answer, placed, kind_at, is_inside, is_iterating, is_iteration, purpose_at}
use Rattle.sched_cursor.specs.Laws.{EventsCount}
use Rattle.sched_cursor.proofs.Counting.{events_count}
use Rattle.domore_core.specs.Tables.{next_past, purpose_behind}
use Rattle.domore_core.proofs.Purposes.{purpose_is}
use Rattle.domore_core.proofs.Scheduling.{kind_iterates}

module _ (arrays : List Array) (words : List ℤ) (c later : Cursor) where
  -- an answer without a trap is of a cursor that goes on
  goes_on : (r : Result Cursor Trap) → as_answer None later ≡ placed c.next r → r ≡ Ok later
  goes_on (Ok after) is = let same : later ≡ after = cc in ap Ok (sym same)
  goes_on (Err trap) is = absurd (cc)

  one_more : (b : Bool) → (if b then c.next + 1 else c.next) ≡ (if b then suc c.next else c.next)
  one_more true = let e : c.next + 1 ≡ suc c.next = omega arith in e
  one_more false = refl

  pub next_is : (answer : Option Place) → as_answer answer later ≡ placed c.next (after_event arrays c words) → IfSome answer (λ place. later ≡ c) → later.next ≡ next_past answer c
  next_is None is kept =
      events_count.passed arrays words c later (goes_on (after_event arrays c words) is)
      ∙ ap (λ (b : Bool). if b then c.next + 1 else c.next) (kind_iterates arrays c c.at)
      ∙ one_more (is_iterating c.at)
  next_is (Some place) is kept = ap (λ (d : Cursor). d.next) kept

  pub header_is : (answer : Option Place) → as_answer answer later ≡ placed c.next (after_event arrays c words) → answer ≡ None → is_iterating c.at ≡ false → purpose_at c c.at ≡ purpose_behind (is_inside later.at)
  header_is answer is none other = purpose_is arrays c words later other (goes_on (after_event arrays c words) (ap (λ (o : Option Place). as_answer o later) (sym none) ∙ is))

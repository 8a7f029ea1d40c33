-- How many iterations were passed behind each event, and what events in an invocation read.
use Rattle.std.proofs.Common.{◌≡◌, ℕ, ◌+◌, ℤ, Bool, true, false, if◌then◌else◌, Option, Some, None, Result, Ok, Err, List, slice_get, refl, subst}
use Rattle.std.specs.List.{list_any}
use Rattle.nest_syntax.specs.declared.names.Line.{Line}
use Rattle.nest_syntax.specs.declared.operators.Cause.{Cause}
use Rattle.nest_syntax.specs.Arrays.{Array}
use Rattle.nest_syntax.specs.Value.{and_then, names_written, with_scalar}
use Rattle.settle_law.specs.Courses.{Trap}
use Rattle.sched_cursor.specs.declared.node.Next.TheVariants as next
use Rattle.sched_cursor.specs.declared.node.Node.{Node}
use Rattle.sched_cursor.specs.declared.node.Region.{Region}
use Rattle.sched_cursor.specs.declared.node.Invocation.{Invocation}
use Rattle.sched_cursor.specs.declared.node.At.{At}
use Rattle.sched_cursor.specs.declared.node.At.TheVariants as at
use Rattle.sched_cursor.specs.declared.event.Event.TheVariants as kind
use Rattle.sched_cursor.specs.declared.step.Step.{Step}
use Rattle.sched_cursor.specs.declared.step.Step.TheVariants as step
use Rattle.sched_cursor.specs.Turning.{has_turn, one_passed, variable_of}
use Rattle.sched_cursor.specs.Steps.{exprs_of, line_of, step_of}
use Rattle.sched_cursor.specs.Cursor.{Cursor, standing}
use Rattle.sched_cursor.specs.Events.{stepped, after_turn, at_line, after_found, after_at, kind_found, kind_at, kind_of, is_of_invocation, is_iteration}
use Rattle.sched_cursor.specs.Laws.{EventsCount}

-- so many iterations were passed, where the event doesn't trap
abbrev Passed : ℕ → Result Cursor Trap → Type 0
Passed n (Ok later) = later.next ≡ n
Passed n (Err trap) = Unit {0}

-- an event outside of an invocation
abbrev Counted : Bool → Cursor → ℕ
Counted iterates c = if iterates then c.next + 1 else c.next

step_counts : (c : Cursor) (made : Step) → (stepped c made).next ≡ c.next
step_counts c (step.Enter region) = refl
step_counts c (step.Change name new behind) = refl
step_counts c (step.Go behind) = refl
step_counts c (step.Invoke invocation) = refl

line_counts : (c : Cursor) (line : Line) (made : Result Step Cause) → Passed c.next (at_line line (and_then made (λ m. Ok (stepped c m))))
line_counts c line (Ok made) = step_counts c made
line_counts c line (Err cause) = tt

drain_counts : (c : Cursor) (drains : Bool) (result : Result Cursor Trap) → Passed c.next result → Passed (Counted (is_iteration (if drains then kind.Drain else kind.Scalar)) c) result
drain_counts c true result is = is
drain_counts c false result is = is

turn_counts : (c : Cursor) (r : Region) → (after_turn c r).next ≡ c.next
turn_counts c r = by (has_turn r.turning)
  where
    by : (b : Bool) → (if b then record c { at = at.Before r.items; region = record r { turning = one_passed r.turning }; scalars = with_scalar c.scalars r.name (variable_of r.turning) } else standing c r.leave).next ≡ c.next
    by true = refl
    by false = refl

module _ (arrays : List Array) (words : List ℤ) (c : Cursor) where
  found_counts : (found : Option Node) → Passed (Counted (is_iteration (kind_found arrays found)) c) (after_found arrays c words found)
  found_counts None = refl
  found_counts (Some this) = drain_counts c (list_any (names_written arrays) (exprs_of this)) (after_found arrays c words (Some this)) (line_counts c (line_of this) (step_of arrays this c.scalars words))

  inside_counts : (i : Invocation) (more : Bool) → (if more then record c { at = at.Inside (record i { turning = one_passed i.turning }); next = c.next + 1 } else standing c i.next).next ≡ Counted (is_iteration (if more then kind.Iterate else kind.Close)) c
  inside_counts i true = refl
  inside_counts i false = refl

  at_counts : (a : At) → Passed (Counted (is_iteration (kind_at arrays c a)) c) (after_at arrays c words a)
  at_counts (at.Before (next.Node n)) = found_counts (slice_get c.nodes n)
  at_counts (at.Before next.Turn) = turn_counts c c.region
  at_counts (at.Before next.End) = refl
  at_counts (at.Inside i) = inside_counts i (has_turn i.turning)

drain_reads : (drains : Bool) → is_of_invocation (if drains then kind.Drain else kind.Scalar) ≡ true → ⊥
drain_reads true is = cc
drain_reads false is = cc

module _ (arrays : List Array) (words words' : List ℤ) (c : Cursor) where
  found_reads : (found : Option Node) → is_of_invocation (kind_found arrays found) ≡ true → after_found arrays c words found ≡ after_found arrays c words' found
  found_reads None is = refl
  found_reads (Some this) is = absurd (drain_reads (list_any (names_written arrays) (exprs_of this)) is)

  at_reads : (a : At) → is_of_invocation (kind_at arrays c a) ≡ true → after_at arrays c words a ≡ after_at arrays c words' a
  at_reads (at.Before (next.Node n)) is = found_reads (slice_get c.nodes n) is
  at_reads (at.Before next.Turn) is = refl
  at_reads (at.Before next.End) is = refl
  at_reads (at.Inside i) is = refl

pub events_count : EventsCount
events_count = record {
  passed = λ arrays words c later is. subst (Passed (Counted (is_iteration (kind_of arrays c)) c)) is (at_counts arrays words c c.at);
  unread = λ arrays words words' c is. at_reads arrays words words' c c.at is;
}

-- The iterations of a course are of bodies of the program.
use Rattle.std.proofs.Common.{◌≡◌, ℕ, zero, suc, ◌<◌, ℤ, Bool, true, false, if◌then◌else◌, Option, Some, None, List, [], ◌∷◌, length, slice_get, refl, ap, subst}
use Rattle.std.specs.Option.{option_and_then, option_map_or}
use Rattle.std.specs.List.{list_any}
use Rattle.nest_syntax.specs.declared.tree.Program.{Program}
use Rattle.nest_syntax.specs.Shape.{bodies_of}
use Rattle.nest_syntax.specs.Value.{names_written}
use Rattle.nest_syntax.specs.Reads.{on_words}
use Rattle.nest_syntax.specs.Course.{Course, course_of}
use Rattle.nest_syntax.specs.Course as course
use Rattle.nest_syntax.specs.Outcome.{Event as Passed, Iterates, completed, iterations_among}
use Rattle.settle_law.specs.Courses.{Trap, trap_of, events_left}
use Rattle.settle_law.specs.Courses as courses
use Rattle.sched_cursor.specs.declared.event.Iteration.{Iteration}
use Rattle.sched_cursor.specs.declared.event.Event.{Event}
use Rattle.sched_cursor.specs.declared.event.Event.TheVariants as kind
use Rattle.sched_cursor.specs.declared.node.Next.TheVariants as next
use Rattle.sched_cursor.specs.declared.node.Node.{Node}
use Rattle.sched_cursor.specs.declared.node.At.{At}
use Rattle.sched_cursor.specs.declared.node.At.TheVariants as at
use Rattle.sched_cursor.specs.Turning.{has_turn}
use Rattle.sched_cursor.specs.Steps.{exprs_of}
use Rattle.sched_cursor.specs.Cursor.{Cursor}
use Rattle.sched_cursor.specs.Events.{kind_at, kind_found, purpose_at, after_at, event_of, handed_at}
use Rattle.sched_cursor.specs.Handed.{AtTells, naming_of}
use Rattle.sched_cursor.specs.Laws.{restarted, FollowsCourse, BodiesInside}
use Rattle.sched_cursor.proofs.Scheduled.{restart_tells}
use Rattle.sched_cursor.proofs.Whole.{Good, GoodBehind, here, nest, setting, good_behind, cursors_follow}

module _ (program : Program) (words : List ℤ) where
  abbrev Inside : List Passed → Type 0
  Inside events = (k body : ℕ) (scalars : List ℤ) → slice_get (iterations_among events) k ≡ Some (body, scalars) → body < length (bodies_of program)

  none_inside : (k body : ℕ) (scalars : List ℤ) → slice_get {X = ℕ × List ℤ} [] k ≡ Some (body, scalars) → body < length (bodies_of program)
  none_inside k body scalars is = absurd cc

  same_body : (a b : ℕ) (x y : List ℤ) → ◌≡◌ {A = Option (ℕ × List ℤ)} (Some (a, x)) (Some (b, y)) → a ≡ b
  same_body a b x y is = ap (λ o. option_map_or (λ (p : ℕ × List ℤ). p.0) o 0) is

  more_inside : (body : ℕ) (scalars : List ℤ) (events : List Passed) → body < length (bodies_of program) → Inside events → Inside (Iterates body scalars ∷ events)
  more_inside body scalars events small inside zero b s is = subst (λ x. x < length (bodies_of program)) (same_body body b scalars s is) small
  more_inside body scalars events small inside (suc k) b s is = inside k b s is

  -- the body of an event that is an iteration
  abbrev BodyInside : courses.Event Iteration Cursor → Type 0
  BodyInside courses.End = Unit {0}
  BodyInside (courses.Scalar purpose trap later) = Unit {0}
  BodyInside (courses.Drain purpose trap later) = Unit {0}
  BodyInside (courses.Iterate i later) = i.body < length (bodies_of program)
  BodyInside (courses.Close later) = Unit {0}

  body_inside : (c : Cursor) → Good program words c → BodyInside (here program words c)
  body_inside c good = by c.at good.tells.at
    where
      event : (a : At) → Event → courses.Event Iteration Cursor
      event a k = event_of k (purpose_at c a) (λ now. after_at (setting program words).arrays c now a) (handed_at c a) words c

      drains : (a : At) (b : Bool) → BodyInside (event_of (if b then kind.Drain else kind.Scalar) (purpose_at c a) (λ now. after_at (setting program words).arrays c now a) (handed_at c a) words c)
      drains a true = tt
      drains a false = tt

      found : (a : At) (o : Option Node) → BodyInside (event_of (kind_found (setting program words).arrays o) (purpose_at c a) (λ now. after_at (setting program words).arrays c now a) (handed_at c a) words c)
      found a None = tt
      found a (Some this) = drains a (list_any (names_written (setting program words).arrays) (exprs_of this))

      turns : (a : At) (b : Bool) → (handed_at c a).body < length (bodies_of program) → BodyInside (event_of (if b then kind.Iterate else kind.Close) (purpose_at c a) (λ now. after_at (setting program words).arrays c now a) (handed_at c a) words c)
      turns a true small = small
      turns a false small = tt

      by : (a : At) → AtTells (naming_of program) a → BodyInside (event_of (kind_at (setting program words).arrays c a) (purpose_at c a) (λ now. after_at (setting program words).arrays c now a) (handed_at c a) words c)
      by (at.Before (next.Node n)) tells = found (at.Before (next.Node n)) (slice_get c.nodes n)
      by (at.Before next.Turn) tells = tt
      by (at.Before next.End) tells = tt
      by (at.Inside i) tells = turns (at.Inside i) (has_turn i.turning) tells.body

  -- behind a trap there is nothing
  past_trap : (rest : Course) (now : Option (List ℤ)) (trap : Trap) → trap_of rest ≡ Some trap → Inside (events_left (nest program words) rest now)
  past_trap course.End now trap is = absurd cc
  past_trap (course.Failed cause line) now trap is = none_inside
  past_trap (course.Scalar purpose scalars rest) now trap is = absurd cc
  past_trap (course.Drain purpose scalars rest) now trap is = absurd cc
  past_trap (course.Iterate body scalars rest) now trap is = absurd cc
  past_trap (course.Close scalars rest) now trap is = absurd cc

  behind_event : (rest : Course) (now : Option (List ℤ)) → (trap_of rest ≡ None → Inside (events_left (nest program words) rest now)) → (trap : Option Trap) → trap_of rest ≡ trap → Inside (events_left (nest program words) rest now)
  behind_event rest now inside None is = inside is
  behind_event rest now inside (Some trap) is = past_trap rest now trap is

  left_inside : (left : Course) (now : Option (List ℤ)) (c : Cursor) → Good program words c → FollowsCourse program words c left → Inside (events_left (nest program words) left now)
  left_inside course.End now c good f = none_inside
  left_inside (course.Failed cause line) now c good f = none_inside
  left_inside (course.Scalar purpose scalars rest) now c good f =
      behind_event rest now (λ none. left_inside rest now f.0 (subst (GoodBehind program words) f.1 (good_behind program words c good)) (f.2 none)) (trap_of rest) refl
  left_inside (course.Drain purpose scalars rest) None c good f = none_inside
  left_inside (course.Drain purpose scalars rest) (Some reached) c good f =
      let behind : (words' : List ℤ) → Good program words (f.1 words') = subst (GoodBehind program words) f.2 (good_behind program words c good) in
      behind_event (rest reached) (Some reached) (λ none. left_inside (rest reached) (Some reached) (f.1 reached) (behind reached) ((f.3 reached).1 none)) (trap_of (rest reached)) refl
  left_inside (course.Iterate body scalars rest) now c good f =
      let later : Option (List ℤ) = option_and_then (λ words'. completed (on_words (nest program words).sizes ((nest program words).turn body scalars) words')) now in
      more_inside body scalars (events_left (nest program words) rest later)
      (subst (λ b. b < length (bodies_of program)) (ap (λ (i : ℕ × List ℤ). i.0) f.3) (subst BodyInside f.2 (body_inside c good)))
      (left_inside rest later f.1 (subst (GoodBehind program words) f.2 (good_behind program words c good)) f.4)
  left_inside (course.Close scalars rest) now c good f = left_inside rest now f.0 (subst (GoodBehind program words) f.1 (good_behind program words c good)) f.2

pub bodies_inside : BodiesInside
bodies_inside program words c is =
    left_inside program words (course_of program words) (Some words) (restarted program c) (record { numbers = is.names; tells = restart_tells program c is.tells }) (cursors_follow program words c is)

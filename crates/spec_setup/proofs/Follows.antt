-- A cursor that is read by invocations follows the course of its program, one event at a time.
use Rattle.std.proofs.Common.{◌≡◌, ℕ, zero, suc, ◌+◌, ◌-◌, ◌<◌, ◌≤◌, ℤ, Bool, true, false, ◌&&◌, ◌==◌, nat_lt, if◌then◌else◌, Option, Some, None, Result, Ok, Err, List, [], length, slice_get, refl, sym, ap, ◌∙◌, subst, arith}
use Rattle.std.specs.List.{list_any}
use Rattle.std.proofs.lemmas.Bool.{lt-ltb, eq-eqb}
use Rattle.nest_syntax.specs.declared.operators.Cause.{Cause}
use Rattle.nest_syntax.specs.declared.tree.Loop.{Loop}
use Rattle.nest_syntax.specs.declared.tree.Program.{Program}
use Rattle.nest_syntax.specs.declared.names.Line.{Line}
use Rattle.nest_syntax.specs.Words.{turns, counted, most_turns}
use Rattle.nest_syntax.specs.Arrays.{Array, arrays_of}
use Rattle.nest_syntax.specs.Shape.{bodies_of}
use Rattle.nest_syntax.specs.Value.{value, and_then, with_scalar, names_written}
use Rattle.nest_syntax.specs.Course.{Course, Purpose}
use Rattle.nest_syntax.specs.Course as course
use Rattle.settle_law.specs.Courses.{Nest, Trap, Follows, nest_of}
use Rattle.settle_law.specs.Courses as courses
use Rattle.sched_cursor.specs.declared.event.Event.TheVariants as kind
use Rattle.sched_cursor.specs.declared.event.Iteration.{Iteration}
use Rattle.sched_cursor.specs.declared.node.Next.{Next}
use Rattle.sched_cursor.specs.declared.node.Next.TheVariants as next
use Rattle.sched_cursor.specs.declared.node.Header.{Header}
use Rattle.sched_cursor.specs.declared.node.Node.{Node}
use Rattle.sched_cursor.specs.declared.node.Node.TheVariants as node
use Rattle.sched_cursor.specs.declared.node.Invocation.{Invocation}
use Rattle.sched_cursor.specs.declared.node.At.{At}
use Rattle.sched_cursor.specs.declared.node.At.TheVariants as at
use Rattle.sched_cursor.specs.Turning.{Turning, begun, has_turn, one_passed, variable_of}
use Rattle.sched_cursor.specs.Steps.{exprs_of, line_of, purpose_of, turning_of, changed, step_of}
use Rattle.sched_cursor.specs.Cursor.{Cursor, standing}
use Rattle.sched_cursor.specs.Events.{stepped, at_line, after_found, after_at, after_event, kind_found, kind_at, purpose_found, purpose_at, cursor_or, trap_in, event_of, event_at, handed_at, handed_in, behind_invocation}
use Rattle.sched_cursor.specs.Handed.{loop_of_body, what_of}
use Rattle.sched_cursor.specs.Laws.{IsCursorOf, FollowsCourse, BeginsWith, restarted}
use Rattle.sched_cursor.proofs.Cursors.{cursors_stay}
use Rattle.sched_cursor.proofs.Whole.{cursors_follow, whole_invocations_follow}
use Rattle.spec_machine.specs.Invocations as invocations
use Rattle.spec_machine.specs.Invocations.{Within, Outside, Inside, single, one_by_one}
use Rattle.spec_setup.specs.Setups.{Invoked, handed, is_turn_of, what_in, invoked_at, invoking, by_invocations, invocation_at}

-- no turn of the invocation is passed, where a cursor stands in one
abbrev pub Fresh : At → Type 0
Fresh (at.Before behind) = Unit {0}
Fresh (at.Inside i) = i.turning.turn ≡ 0

-- the invocations in which a cursor stands, and the headers of an event
abbrev pub entered : At → ℕ
entered (at.Before behind) = 0
entered (at.Inside i) = 1

abbrev pub headers_of : Purpose → ℕ
headers_of course.Ordinary = 0
headers_of course.Header = 1

-- Behind an event that computes no turn is passed, and an invocation is entered at a header alone.
pub record Computed (c : Cursor) (purpose : Purpose) (later : Cursor) : Type 0 where
  pub fresh : Fresh later.at
  pub next : later.next ≡ c.next
  pub headers : entered later.at ≤ headers_of purpose

module _ (arrays : List Array) (words : List ℤ) (c : Cursor) where
  abbrev ComputedOk : Purpose → Result Cursor Trap → Type 0
  ComputedOk purpose (Ok later) = Computed c purpose later
  ComputedOk purpose (Err trap) = Unit {0}

  abbrev Begun : Result Turning Cause → Type 0
  Begun (Ok turning) = turning.turn ≡ 0
  Begun (Err cause) = Unit {0}

  turning_begun : (h : Header) → Begun (turning_of arrays h c.scalars words)
  turning_begun h = by_low (value arrays c.scalars words h.low)
    where
      by_count : (low : ℤ) (r : Result ℕ Cause) → Begun (and_then r (λ trips. Ok (begun low h.step trips)))
      by_count low (Ok trips) = refl
      by_count low (Err cause) = tt

      by_high : (low : ℤ) (r : Result ℤ Cause) → Begun (and_then r (λ high. and_then (counted (turns low high h.step h.through)) (λ trips. Ok (begun low h.step trips))))
      by_high low (Ok high) = by_count low (counted (turns low high h.step h.through))
      by_high low (Err cause) = tt

      by_low : (r : Result ℤ Cause) → Begun (and_then r (λ low. and_then (value arrays c.scalars words h.high) (λ high. and_then (counted (turns low high h.step h.through)) (λ trips. Ok (begun low h.step trips)))))
      by_low (Ok low) = by_high low (value arrays c.scalars words h.high)
      by_low (Err cause) = tt

  after_step : {A B : Type 0} (purpose : Purpose) (line : Line) (make : A → B) (go : B → Cursor) (r : Result A Cause) → ((a : A) → r ≡ Ok a → Computed c purpose (go (make a)))
      → ComputedOk purpose (at_line line (and_then (and_then r (λ a. Ok (make a))) (λ made. Ok (go made))))
  after_step purpose line make go (Ok a) is = is a refl
  after_step purpose line make go (Err cause) is = tt

  at_node : (this : Node) → ComputedOk (purpose_of this) (at_line (line_of this) (and_then (step_of arrays this c.scalars words) (λ made. Ok (stepped c made))))
  at_node (node.Region header items leave) = after_step course.Ordinary header.line _ (stepped c) (turning_of arrays header c.scalars words) (λ turning got. record { fresh = tt; next = refl; headers = omega arith })
  at_node (node.Change line name o e behind) = after_step course.Ordinary line _ (stepped c) (changed arrays name o e c.scalars words) (λ new got. record { fresh = tt; next = refl; headers = omega arith })
  at_node (node.Test line test taken otherwise) = after_step course.Ordinary line _ (stepped c) (value arrays c.scalars words test) (λ v got. record { fresh = tt; next = refl; headers = omega arith })
  at_node (node.Invoke header body behind) =
      after_step course.Header header.line _ (stepped c) (turning_of arrays header c.scalars words) (λ turning got. record { fresh = subst Begun got (turning_begun header); next = refl; headers = omega arith })
  at_node (node.Write line body behind) = record { fresh = refl; next = refl; headers = omega arith }

  unmoved : (behind : Next) → c.at ≡ at.Before behind → Computed c course.Ordinary c
  unmoved behind is = record { fresh = subst Fresh (sym is) tt; next = refl; headers = subst (λ a. entered a ≤ 0) (sym is) (omega arith) }

  at_found : (behind : Next) → c.at ≡ at.Before behind → (found : Option Node) → ComputedOk (purpose_found found) (after_found arrays c words found)
  at_found behind is None = unmoved behind is
  at_found behind is (Some this) = at_node this

  at_turn : (has : Bool) → Computed c course.Ordinary (if has then record c { at = at.Before c.region.items; region = record c.region { turning = one_passed c.region.turning }; scalars = with_scalar c.scalars c.region.name (variable_of c.region.turning) } else standing c c.region.leave)
  at_turn true = record { fresh = tt; next = refl; headers = omega arith }
  at_turn false = record { fresh = tt; next = refl; headers = omega arith }

  computed : (behind : Next) → c.at ≡ at.Before behind → ComputedOk (purpose_at c (at.Before behind)) (after_at arrays c words (at.Before behind))
  computed (next.Node n) is = at_found (next.Node n) is (slice_get c.nodes n)
  computed next.Turn is = at_turn (has_turn c.region.turning)
  computed next.End is = unmoved next.End is

module _ (program : Program) (words : List ℤ) where
  abbrev arrays : List Array
  arrays = arrays_of program.decls

  abbrev nest : Nest
  nest = nest_of program words

  abbrev event : Cursor → invocations.Event Invoked Cursor
  event = invocation_at arrays words

  pub record Good (c : Cursor) : Type 0 where
    pub own : IsCursorOf program c
    pub fresh : Fresh c.at

  -- the invocation in which a cursor stands
  pub record Entered (c : Cursor) : Type 0 where
    pub invocation : Invocation
    pub there : c.at ≡ at.Inside invocation

  pub record Onto (c : Cursor) (purpose : Purpose) (later : Cursor) : Type 0 where
    pub good : Good later
    pub computes : Computed c purpose later

  -- what an event says of the cursor behind it, or of where the cursor stands
  abbrev pub Onward : Cursor → courses.Event Iteration Cursor → Type 0
  Onward c courses.End = Unit {0}
  Onward c (courses.Scalar purpose trap later) = trap ≡ None → Onto c purpose later
  Onward c (courses.Drain purpose traps later) = (now : List ℤ) → traps now ≡ None → Onto c purpose (later now)
  Onward c (courses.Iterate i later) = Entered c
  Onward c (courses.Close later) = Entered c

  pub onward : (c : Cursor) → Good c → Onward c (event_at arrays words c)
  onward c good = of_place c.at refl
    where
      onto : (now : List ℤ) (purpose : Purpose) (r : Result Cursor Trap) → after_event arrays c now ≡ r → ComputedOk arrays now c purpose r → trap_in r ≡ None → Onto c purpose (cursor_or c r)
      onto now purpose (Ok later) is computes none = record { good = record { own = cursors_stay.behind_events program now c later good.own is; fresh = computes.fresh }; computes = computes }
      onto now purpose (Err trap) is computes none = absurd (let no : Some trap ≡ None = none in cc)

      after : (behind : Next) → c.at ≡ at.Before behind → (now : List ℤ) → trap_in (after_at arrays c now (at.Before behind)) ≡ None → Onto c (purpose_at c (at.Before behind)) (cursor_or c (after_at arrays c now (at.Before behind)))
      after behind is now = onto now (purpose_at c (at.Before behind)) (after_at arrays c now (at.Before behind)) (ap (after_at arrays c now) is) (computed arrays now c behind is)

      drains : (behind : Next) → c.at ≡ at.Before behind → (b : Bool) → Onward c (event_of (if b then kind.Drain else kind.Scalar) (purpose_at c (at.Before behind)) (λ now. after_at arrays c now (at.Before behind)) (handed_at c (at.Before behind)) words c)
      drains behind is true = after behind is
      drains behind is false = after behind is words

      found : (behind : Next) → c.at ≡ at.Before behind → (o : Option Node) → Onward c (event_of (kind_found arrays o) (purpose_at c (at.Before behind)) (λ now. after_at arrays c now (at.Before behind)) (handed_at c (at.Before behind)) words c)
      found behind is None = tt
      found behind is (Some this) = drains behind is (list_any (names_written arrays) (exprs_of this))

      in_turn : (i : Invocation) → c.at ≡ at.Inside i → (b : Bool) → Onward c (event_of (if b then kind.Iterate else kind.Close) (purpose_at c (at.Inside i)) (λ now. after_at arrays c now (at.Inside i)) (handed_at c (at.Inside i)) words c)
      in_turn i is true = record { invocation = i; there = is }
      in_turn i is false = record { invocation = i; there = is }

      of_place : (a : At) → c.at ≡ a → Onward c (event_of (kind_at arrays c a) (purpose_at c a) (λ now. after_at arrays c now a) (handed_at c a) words c)
      of_place (at.Before (next.Node n)) is = found (next.Node n) is (slice_get c.nodes n)
      of_place (at.Before next.Turn) is = after next.Turn is words
      of_place (at.Before next.End) is = tt
      of_place (at.Inside i) is = in_turn i is (has_turn i.turning)

  -- each turn is told as the program's iteration
  turn_ok : (c : Cursor) (i : Invocation) → IsCursorOf program c → c.at ≡ at.Inside i → (k : ℕ) → k < i.turning.trips → is_turn_of (loop_of_body program i.body) (invoked_at c i) k ≡ true
  turn_ok c i own there k lt = by (loop_of_body program i.body) refl
    where
      by : (l : Option Loop) → loop_of_body program i.body ≡ l → is_turn_of l (invoked_at c i) k ≡ true
      by None is = lt-ltb k 1 (let few : i.turning.trips ≤ 1 = cursors_stay.alone program c i there own is in omega (arith, few, lt))
      by (Some l) is =
          let few : i.turning.trips ≤ most_turns = (cursors_stay.entered program c i there own).1 in
          let below : nat_lt k most_turns ≡ true = lt-ltb k most_turns (omega (arith, few, lt)) in
          let same : (i.turning.step == l.step) ≡ true = eq-eqb i.turning.step l.step (cursors_stay.steps program c i there own l is) in
          λ j. same j && below j

  what_is : (c : Cursor) (i : Invocation) → IsCursorOf program c → c.at ≡ at.Inside i → (k : ℕ) → k < i.turning.trips → what_in program (invoked_at c i, k) ≡ what_of program (handed_in c i k)
  what_is c i own there k lt = ap (λ b. if b then what_of program (handed (invoked_at c i) k) else (length (bodies_of program), [])) (turn_ok c i own there k lt)

  abbrev One : Within Invoked Cursor → Course → Type 0
  One = Follows nest (what_in program) (one_by_one event)

  -- behind a cursor, and inside an invocation of it
  abbrev FollowsOutside : Course → Type 0
  FollowsOutside left = (c : Cursor) → Good c → FollowsCourse program words c left → One (Outside c) left

  abbrev FollowsInside : Course → Type 0
  FollowsInside left = (c : Cursor) (i : Invocation) (n k : ℕ) → IsCursorOf program c → c.at ≡ at.Inside i → k + n ≡ i.turning.trips
      → BeginsWith program (handed_in c i) (FollowsCourse program words (behind_invocation c (at.Inside i))) n k left → One (Inside (invoked_at c i) k n (behind_invocation c (at.Inside i))) left

  pub good_behind : (c : Cursor) (i : Invocation) → IsCursorOf program c → c.at ≡ at.Inside i → Good (behind_invocation c (at.Inside i))
  good_behind c i own there = record { own = subst (λ a. IsCursorOf program (behind_invocation c a)) there (cursors_stay.behind_invocations program c own); fresh = tt }

  -- where an event of an invocation is at hand, the whole of it comes
  pub whole_comes : (left : Course) (c : Cursor) → Good c → (entered : Entered c) → FollowsCourse program words c left
      → BeginsWith program (handed_in c entered.invocation) (FollowsCourse program words (behind_invocation c (at.Inside entered.invocation))) entered.invocation.turning.trips 0 left
  whole_comes left c good entered f =
      let i = entered.invocation in
      let fresh : i.turning.turn ≡ 0 = subst Fresh entered.there good.fresh in
      let whole : BeginsWith program (handed_in c i) (FollowsCourse program words (behind_invocation c c.at)) (i.turning.trips - i.turning.turn) i.turning.turn left = whole_invocations_follow program words c i left good.own entered.there f in
      let all : i.turning.trips - i.turning.turn ≡ i.turning.trips = omega (arith, fresh) in
      subst (λ n. BeginsWith program (handed_in c i) (FollowsCourse program words (behind_invocation c (at.Inside i))) n 0 left) all
      (subst (λ k. BeginsWith program (handed_in c i) (FollowsCourse program words (behind_invocation c (at.Inside i))) (i.turning.trips - i.turning.turn) k left) fresh
      (subst (λ a. BeginsWith program (handed_in c i) (FollowsCourse program words (behind_invocation c a)) (i.turning.trips - i.turning.turn) i.turning.turn left) entered.there whole))

  begins : (left : Course) → FollowsInside left → (c : Cursor) → Good c → Entered c → FollowsCourse program words c left
      → (i : Invocation) × (c.at ≡ at.Inside i) × One (Inside (invoked_at c i) 0 i.turning.trips (behind_invocation c (at.Inside i))) left
  begins left follows c good entered f =
      let i = entered.invocation in
      (i, entered.there, follows c i i.turning.trips 0 good.own entered.there (omega arith) (whole_comes left c good entered f))

  -- the single event at a cursor that stands in an invocation
  first_same : (c : Cursor) (i : Invocation) → c.at ≡ at.Inside i → (e : courses.Event Iteration Cursor) → invoking c c.at ≡ by_invocations c e → event_at arrays words c ≡ e
      → one_by_one event (Outside c) ≡ one_by_one event (Inside (invoked_at c i) 0 i.turning.trips (behind_invocation c (at.Inside i)))
  first_same c i there e invokes is = ap (λ x. single (by_invocations c x)) is ∙ ap single (sym invokes) ∙ ap (λ a. single (invoking c a)) there

  abbrev FollowsBoth : Course → Type 0
  FollowsBoth left = FollowsOutside left × FollowsInside left

  pub follows_both : (left : Course) → FollowsBoth left
  follows_both course.End = (λ c good f. ap (λ e. single (by_invocations c e)) f, by)
    where
      by : FollowsInside course.End
      by c i zero k own there count begun = elim begun [ ]
      by c i (suc n) k own there count begun = elim begun [ ]
  follows_both (course.Failed cause line) = (λ c good f. f, by)
    where
      by : FollowsInside (course.Failed cause line)
      by c i zero k own there count begun = begun
      by c i (suc n) k own there count begun = begun
  follows_both (course.Scalar purpose scalars rest) = (
    λ c good f.
        let onto = subst (Onward c) f.1 (onward c good) in
        (Outside f.0, ap (λ e. single (by_invocations c e)) f.1, λ none. (follows_both rest).0 f.0 (onto none).good (f.2 none)),
    by,
  )
    where
      by : FollowsInside (course.Scalar purpose scalars rest)
      by c i zero k own there count begun = elim begun [ ]
      by c i (suc n) k own there count begun = elim begun [ ]
  follows_both (course.Drain purpose scalars rest) = (
    λ c good f.
        let onto = subst (Onward c) f.2 (onward c good) in
        (f.0, (λ now. Outside (f.1 now)), ap (λ e. single (by_invocations c e)) f.2, λ now. ((f.3 now).0, λ none. (follows_both (rest now)).0 (f.1 now) (onto now ((f.3 now).0 ∙ none)).good ((f.3 now).1 none))),
    by,
  )
    where
      by : FollowsInside (course.Drain purpose scalars rest)
      by c i zero k own there count begun = elim begun [ ]
      by c i (suc n) k own there count begun = elim begun [ ]
  follows_both (course.Iterate body scalars rest) = (
    λ c good f.
        let entered : Entered c = subst (Onward c) f.2 (onward c good) in
        let b = begins (course.Iterate body scalars rest) (by (follows_both rest).1) c good entered f in
        let same = first_same c b.0 b.1 (courses.Iterate f.0 f.1) refl f.2 in
        (b.2.0, b.2.1, same ∙ b.2.2, b.2.3, b.2.4),
    by (follows_both rest).1,
  )
    where
      by : FollowsInside rest → FollowsInside (course.Iterate body scalars rest)
      by others c i zero k own there count begun = elim begun [ ]
      by others c i (suc n) k own there count begun =
          let lt : k < i.turning.trips = omega (arith, count) in
          let on : suc k + n ≡ i.turning.trips = omega (arith, count) in
          ((invoked_at c i, k), Inside (invoked_at c i) (suc k) n (behind_invocation c (at.Inside i)), refl, what_is c i own there k lt ∙ begun.0, others c i n (suc k) own there on begun.1)
  follows_both (course.Close scalars rest) = (
    λ c good f.
        let entered : Entered c = subst (Onward c) f.1 (onward c good) in
        let b = begins (course.Close scalars rest) (by (follows_both rest).0) c good entered f in
        let same = first_same c b.0 b.1 (courses.Close f.0) refl f.1 in
        (b.2.0, same ∙ b.2.1, b.2.2),
    by (follows_both rest).0,
  )
    where
      by : FollowsOutside rest → FollowsInside (course.Close scalars rest)
      by others c i zero k own there count begun = (Outside (behind_invocation c (at.Inside i)), refl, others (behind_invocation c (at.Inside i)) (good_behind c i own there) begun)
      by others c i (suc n) k own there count begun = elim begun [ ]

  pub follows : (c : Cursor) → IsCursorOf program c → One (Outside (restarted program c)) nest.course
  follows c own = (follows_both nest.course).0 (restarted program c) (record { own = cursors_stay.at_start program c own; fresh = tt }) (cursors_follow program words c own)

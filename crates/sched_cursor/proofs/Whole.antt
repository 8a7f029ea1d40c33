-- A cursor along the course of its program, from the start and past whole invocations.
use Rattle.std.proofs.Common.{◌≡◌, ℕ, zero, suc, ◌+◌, ◌-◌, ℤ, Bool, true, false, if◌then◌else◌, Option, Result, Ok, Err, List, refl, sym, ap, ◌∙◌, subst, arith, add-one}
use Rattle.std.proofs.lemmas.Bool.{lt-ltb, le-ltb}
use Rattle.nest_syntax.specs.declared.tree.Program.{Program}
use Rattle.nest_syntax.specs.Course.{Course, Purpose, Ordinary, Setting, setting_of}
use Rattle.nest_syntax.specs.Course as course
use Rattle.settle_law.specs.Courses.{Nest, Trap, Follows, nest_of, trap_of}
use Rattle.settle_law.specs.Courses as courses
use Rattle.sched_cursor.specs.declared.event.Iteration.{Iteration}
use Rattle.sched_cursor.specs.declared.node.Invocation.{Invocation}
use Rattle.sched_cursor.specs.declared.node.At.TheVariants as at
use Rattle.sched_cursor.specs.declared.event.Event.{Event}
use Rattle.sched_cursor.specs.declared.event.Event.TheVariants as kind
use Rattle.sched_cursor.specs.Turning.{has_turn, one_passed}
use Rattle.sched_cursor.specs.Cursor.{Cursor, standing}
use Rattle.sched_cursor.specs.Events.{cursor_or, kind_at, purpose_at, after_at, after_event, event_of, event_when, event_at, plain_event_at, handed_in, handed_at, behind_invocation}
use Rattle.sched_cursor.specs.Scripts.{FollowsIn}
use Rattle.sched_cursor.specs.Handed.{NumbersNames, AtTells, Tells, naming_of, what_of}
use Rattle.sched_cursor.specs.Laws.{restarted, FollowsCourse, CursorsFollow, BeginsWith, WholeInvocationsFollow}
use Rattle.sched_cursor.proofs.Scheduled.{restart_tells}
use Rattle.sched_cursor.proofs.Handing.{as_told, told_event, TellsOk, tells_after, StaysOk, stays_after}

-- an event whose iterations are told otherwise is the same event
module _ {A B C : Type 0} (what : A → B) where
  ends : (e : courses.Event A C) → as_told what e ≡ courses.End → e ≡ courses.End
  ends courses.End is = refl
  ends (courses.Scalar purpose trap later) is = cc
  ends (courses.Drain purpose trap later) is = cc
  ends (courses.Iterate a later) is = cc
  ends (courses.Close later) is = cc

  computes_as : (e : courses.Event A C) (p : Purpose) (t : Option Trap) (n : C) → as_told what e ≡ courses.Scalar p t n → e ≡ courses.Scalar p t n
  computes_as courses.End p t n is = cc
  computes_as (courses.Scalar purpose trap later) p t n is = cc
  computes_as (courses.Drain purpose trap later) p t n is = cc
  computes_as (courses.Iterate a later) p t n is = cc
  computes_as (courses.Close later) p t n is = cc

  drains_as : (e : courses.Event A C) (p : Purpose) (t : List ℤ → Option Trap) (n : List ℤ → C) → as_told what e ≡ courses.Drain p t n → e ≡ courses.Drain p t n
  drains_as courses.End p t n is = cc
  drains_as (courses.Scalar purpose trap later) p t n is = cc
  drains_as (courses.Drain purpose trap later) p t n is = cc
  drains_as (courses.Iterate a later) p t n is = cc
  drains_as (courses.Close later) p t n is = cc

  iterates_as : (e : courses.Event A C) (b : B) (n : C) → as_told what e ≡ courses.Iterate b n → (a : A) × (e ≡ courses.Iterate a n) × (what a ≡ b)
  iterates_as courses.End b n is = cc
  iterates_as (courses.Scalar purpose trap later) b n is = cc
  iterates_as (courses.Drain purpose trap later) b n is = cc
  iterates_as (courses.Iterate a later) b n is = (a, (let same : later ≡ n = cc in ap (λ l. courses.Iterate a l) same), cc)
  iterates_as (courses.Close later) b n is = cc

  closes_as : (e : courses.Event A C) (n : C) → as_told what e ≡ courses.Close n → e ≡ courses.Close n
  closes_as courses.End n is = cc
  closes_as (courses.Scalar purpose trap later) n is = cc
  closes_as (courses.Drain purpose trap later) n is = cc
  closes_as (courses.Iterate a later) n is = cc
  closes_as (courses.Close later) n is = cc

-- a cursor with its names
module _ (program : Program) (words : List ℤ) where
  abbrev pub setting : Setting
  setting = setting_of program words

  abbrev pub nest : Nest
  nest = nest_of program words

  pub record Good (c : Cursor) : Type 0 where
    pub numbers : NumbersNames program c.names
    pub tells : Tells (naming_of program) c

  abbrev pub GoodBehind : courses.Event Iteration Cursor → Type 0
  GoodBehind courses.End = Unit {0}
  GoodBehind (courses.Scalar purpose trap later) = Good later
  GoodBehind (courses.Drain purpose trap later) = (now : List ℤ) → Good (later now)
  GoodBehind (courses.Iterate i later) = Good later
  GoodBehind (courses.Close later) = Good later

  abbrev pub here : Cursor → courses.Event Iteration Cursor
  here c = event_at setting.arrays words c

  good_or : (c : Cursor) → Good c → (result : Result Cursor Trap) → StaysOk c result → TellsOk (naming_of program) result → Good (cursor_or c result)
  good_or c good (Ok later) stays tells = record { numbers = subst (NumbersNames program) (sym stays.names) good.numbers; tells = tells }
  good_or c good (Err trap) stays tells = good

  pub good_behind : (c : Cursor) → Good c → GoodBehind (here c)
  good_behind c good = by (kind_at setting.arrays c c.at)
    where
      after : (now : List ℤ) → Good (cursor_or c (after_event setting.arrays c now))
      after now = good_or c good (after_event setting.arrays c now) (stays_after setting.arrays now c) (tells_after (naming_of program) setting.arrays now c good.tells)

      by : (k : Event) → GoodBehind (event_of k (purpose_at c c.at) (λ now. after_at setting.arrays c now c.at) (handed_at c c.at) words c)
      by kind.Scalar = after words
      by kind.Drain = after
      by kind.Iterate = after words
      by kind.Close = after words
      by kind.End = tt

  told : (c : Cursor) → Good c → plain_event_at setting.arrays words c ≡ as_told (what_of program) (here c)
  told c good = told_event program setting.arrays words c c.at good.numbers good.tells good.tells.at

  pub follows_told : (left : Course) (c : Cursor) → Good c → FollowsIn setting nest c left → FollowsCourse program words c left
  follows_told course.End c good f = ends (what_of program) (here c) (sym (told c good) ∙ f)
  follows_told (course.Failed cause line) c good f = f
  follows_told (course.Scalar purpose scalars rest) c good f =
      let is = computes_as (what_of program) (here c) purpose (trap_of rest) f.0 (sym (told c good) ∙ f.1) in
      let behind : Good f.0 = subst GoodBehind is (good_behind c good) in
      (f.0, is, λ none. follows_told rest f.0 behind (f.2 none))
  follows_told (course.Drain purpose scalars rest) c good f =
      let is = drains_as (what_of program) (here c) purpose f.0 f.1 (sym (told c good) ∙ f.2) in
      let behind : (now : List ℤ) → Good (f.1 now) = subst GoodBehind is (good_behind c good) in
      (f.0, f.1, is, λ now. ((f.3 now).0, λ none. follows_told (rest now) (f.1 now) (behind now) ((f.3 now).1 none)))
  follows_told (course.Iterate body scalars rest) c good f =
      let is = iterates_as (what_of program) (here c) f.0 f.1 (sym (told c good) ∙ f.2) in
      let behind : Good f.1 = subst GoodBehind is.1 (good_behind c good) in
      (is.0, f.1, is.1, is.2 ∙ f.3, follows_told rest f.1 behind f.4)
  follows_told (course.Close scalars rest) c good f =
      let is = closes_as (what_of program) (here c) f.0 (sym (told c good) ∙ f.1) in
      let behind : Good f.0 = subst GoodBehind is (good_behind c good) in
      (f.0, is, follows_told rest f.0 behind f.2)

  -- the invocation that was entered, turn by turn
  abbrev turned : Cursor → Invocation → Cursor
  turned c i = record c { at = at.Inside (record i { turning = one_passed i.turning }); next = c.next + 1 }

  abbrev inside_event : Cursor → Invocation → Bool → courses.Event Iteration Cursor
  inside_event c i has = event_of (if has then kind.Iterate else kind.Close) Ordinary (λ now. Ok (if has then turned c i else standing c i.next)) (handed_in c i i.turning.turn) words c

  inside_is : (c : Cursor) (i : Invocation) (has : Bool) → c.at ≡ at.Inside i → has_turn i.turning ≡ has → here c ≡ inside_event c i has
  inside_is c i has at_is is = ap (event_when setting.arrays words c) at_is ∙ ap (inside_event c i) is

  abbrev Past : Cursor → Invocation → Course → Type 0
  Past c i left = FollowsCourse program words (behind_invocation c (at.Inside i)) left

  same_close : (a b : Cursor) → ◌≡◌ {A = courses.Event Iteration Cursor} (courses.Close a) (courses.Close b) → a ≡ b
  same_close a b is = cc

  same_next : (a b : Cursor) (x y : Iteration) → courses.Iterate x a ≡ courses.Iterate y b → a ≡ b
  same_next a b x y is = cc

  same_handed : (a b : Cursor) (x y : Iteration) → courses.Iterate x a ≡ courses.Iterate y b → x ≡ y
  same_handed a b x y is = cc

  at_end : (c : Cursor) (i : Invocation) (left : Course) → here c ≡ courses.Close (standing c i.next) → i.turning.turn ≡ i.turning.trips → FollowsCourse program words c left
      → BeginsWith program (handed_in c i) (Past c i) 0 i.turning.turn left
  at_end c i course.End is over f = let clash = sym f ∙ is in cc
  at_end c i (course.Failed cause line) is over f = f
  at_end c i (course.Scalar purpose scalars rest) is over f = let clash = sym f.1 ∙ is in cc
  at_end c i (course.Drain purpose scalars rest) is over f = let clash = sym f.2 ∙ is in cc
  at_end c i (course.Iterate body scalars rest) is over f = let clash = sym f.2 ∙ is in cc
  at_end c i (course.Close scalars rest) is over f =
      let there : f.0 ≡ standing c i.next = same_close f.0 (standing c i.next) (sym f.1 ∙ is) in
      let count : c.next ≡ c.next + (i.turning.trips - i.turning.turn) = omega arith in
      subst (λ d. FollowsCourse program words d rest) (there ∙ ap (λ n. record c { at = at.Before i.next; next = n }) count) f.2

  at_turn : (n : ℕ) (c : Cursor) (i : Invocation) (left : Course) → here c ≡ courses.Iterate (handed_in c i i.turning.turn) (turned c i) → i.turning.turn + suc n ≡ i.turning.trips
      → ((rest : Course) → FollowsCourse program words (turned c i) rest → BeginsWith program (handed_in c i) (Past (turned c i) (record i { turning = one_passed i.turning })) n (i.turning.turn + 1) rest)
      → FollowsCourse program words c left → BeginsWith program (handed_in c i) (Past c i) (suc n) i.turning.turn left
  at_turn n c i course.End is count again f = let clash = sym f ∙ is in cc
  at_turn n c i (course.Failed cause line) is count again f = f
  at_turn n c i (course.Scalar purpose scalars rest) is count again f = let clash = sym f.1 ∙ is in cc
  at_turn n c i (course.Drain purpose scalars rest) is count again f = let clash = sym f.2 ∙ is in cc
  at_turn n c i (course.Close scalars rest) is count again f = let clash = sym f.1 ∙ is in cc
  at_turn n c i (course.Iterate body scalars rest) is count again f =
      let one = sym f.2 ∙ is in
      let there : f.1 ≡ turned c i = same_next f.1 (turned c i) f.0 (handed_in c i i.turning.turn) one in
      let what : f.0 ≡ handed_in c i i.turning.turn = same_handed f.1 (turned c i) f.0 (handed_in c i i.turning.turn) one in
      let passed : c.next + 1 + (i.turning.trips - (i.turning.turn + 1)) ≡ c.next + (i.turning.trips - i.turning.turn) = omega arith in
      let rest_is = again rest (subst (λ d. FollowsCourse program words d rest) there f.4) in (
        ap (what_of program) (sym what) ∙ f.3,
        subst (λ k. BeginsWith program (handed_in c i) (Past c i) n k rest) (add-one i.turning.turn)
            (subst (λ m. BeginsWith program (handed_in c i) (FollowsCourse program words (record c { at = at.Before i.next; next = m })) n (i.turning.turn + 1) rest) passed rest_is),
      )

  whole : (n : ℕ) (left : Course) (c : Cursor) (i : Invocation) → c.at ≡ at.Inside i → i.turning.turn + n ≡ i.turning.trips → FollowsCourse program words c left
      → BeginsWith program (handed_in c i) (Past c i) n i.turning.turn left
  whole zero left c i at_is count f = at_end c i left (inside_is c i false at_is (le-ltb i.turning.turn i.turning.trips (omega arith))) (omega arith) f
  whole (suc n) left c i at_is count f =
      at_turn n c i left (inside_is c i true at_is (lt-ltb i.turning.turn i.turning.trips (omega arith))) count
      (λ rest behind. whole n rest (turned c i) (record i { turning = one_passed i.turning }) refl (omega arith) behind) f

pub cursors_follow : CursorsFollow
cursors_follow program words c is =
    follows_told program words (course.course_of program words) (restarted program c) (record { numbers = is.names; tells = restart_tells program c is.tells })
    (is.script (setting_of program words) (nest_of program words) (restarted program c) refl refl)

pub whole_invocations_follow : WholeInvocationsFollow
whole_invocations_follow program words c i left is at_is f =
    let tells : AtTells (naming_of program) (at.Inside i) = subst (AtTells (naming_of program)) at_is is.tells.at in
    subst (λ a. BeginsWith program (handed_in c i) (FollowsCourse program words (behind_invocation c a)) (i.turning.trips - i.turning.turn) i.turning.turn left) (sym at_is)
    (whole program words (i.turning.trips - i.turning.turn) left c i at_is (omega (arith, tells.turned)) f)

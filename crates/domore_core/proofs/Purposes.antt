-- Behind an event that is no iteration the cursor stands in an invocation exactly where the event was a header.
use Rattle.std.proofs.Common.{◌≡◌, ℕ, ◌+◌, ℤ, Bool, true, false, ◌&&◌, not, is_some, is_none, if◌then◌else◌, nat_lt, Option, Some, None, Result, Ok, Err, List, slice_get, refl, sym, ap, ◌∙◌, subst}
use Rattle.nest_syntax.specs.declared.names.Line.{Line}
use Rattle.nest_syntax.specs.declared.operators.Cause.{Cause}
use Rattle.nest_syntax.specs.declared.place.Place.{Place}
use Rattle.domore_machine.specs.Facts.{computed}
use Rattle.domore_core.specs.Tallies.{Tallied}
use Rattle.domore_core.specs.Tables.{counted_by, purpose_behind}
use Rattle.nest_syntax.specs.Arrays.{Array}
use Rattle.nest_syntax.specs.Value.{and_then, value}
use Rattle.nest_syntax.specs.Course.{Purpose, Ordinary, Header}
use Rattle.settle_law.specs.Courses.{Trap}
use Rattle.settle_law.specs.Courses as courses
use Rattle.sched_cursor.specs.declared.event.Event.{Event}
use Rattle.sched_cursor.specs.declared.event.Event.TheVariants as event
use Rattle.sched_cursor.specs.declared.event.Iteration.{Iteration}
use Rattle.sched_cursor.specs.declared.node.Next.TheVariants as next
use Rattle.sched_cursor.specs.declared.node.Node.{Node}
use Rattle.sched_cursor.specs.declared.node.Node.TheVariants as node
use Rattle.sched_cursor.specs.declared.node.At.{At}
use Rattle.sched_cursor.specs.declared.node.At.TheVariants as at
use Rattle.sched_cursor.specs.Turning.{has_turn, one_passed}
use Rattle.sched_cursor.specs.Steps.{turning_of, changed, purpose_of}
use Rattle.sched_cursor.specs.Cursor.{Cursor, standing}
use Rattle.sched_cursor.specs.Events.{stepped, after_turn, after_iteration, after_found, at_line, after_at, after_event, purpose_found, purpose_at, is_inside, is_iterating, event_of, kind_at, kind_of, handed_at, trap_in, cursor_or}

-- what holds of a result where it is a cursor
abbrev AtOk : (Cursor → Type 0) → Result Cursor Trap → Type 0
AtOk P (Ok later) = P later
AtOk P (Err trap) = Unit {0}

abbrev Agrees : Purpose → Cursor → Type 0
Agrees purpose later = purpose ≡ purpose_behind (is_inside later.at)

-- a step that is made, whatever it is made of
made_ok : {A S : Type 0} (purpose : Purpose) (go : S → Cursor) (make : A → S) → ((x : A) → Agrees purpose (go (make x))) → (line : Line) (r : Result A Cause) → AtOk (Agrees purpose) (at_line line (and_then (and_then r (λ x. Ok (make x))) (λ made. Ok (go made))))
made_ok purpose go make each line (Ok x) = each x
made_ok purpose go make each line (Err cause) = tt

module _ (arrays : List Array) (c : Cursor) (words : List ℤ) where
  at_node : (this : Node) → AtOk (Agrees (purpose_of this)) (after_found arrays c words (Some this))
  at_node (node.Region header items leave) = made_ok Ordinary (stepped c) _ (λ x. refl) header.line (turning_of arrays header c.scalars words)
  at_node (node.Change line name op expr next) = made_ok Ordinary (stepped c) _ (λ x. refl) line (changed arrays name op expr c.scalars words)
  at_node (node.Test line test taken otherwise) = made_ok Ordinary (stepped c) _ (λ x. refl) line (value arrays c.scalars words test)
  at_node (node.Invoke header body next) = made_ok Header (stepped c) _ (λ x. refl) header.line (turning_of arrays header c.scalars words)
  at_node (node.Write line body next) = refl

  at_found : (o : Option Node) → is_inside c.at ≡ false → AtOk (Agrees (purpose_found o)) (after_found arrays c words o)
  at_found None before = ap purpose_behind (sym before)
  at_found (Some this) before = at_node this

  if_turn : (t : Bool) (x y : Cursor) → is_inside x.at ≡ false → is_inside y.at ≡ false → Agrees Ordinary (if t then x else y)
  if_turn true x y first second = ap purpose_behind (sym first)
  if_turn false x y first second = ap purpose_behind (sym second)

  at_place : (a : At) → c.at ≡ a → is_iterating a ≡ false → AtOk (Agrees (purpose_at c a)) (after_at arrays c words a)
  at_place (at.Before (next.Node n)) here other = at_found (slice_get c.nodes n) (ap is_inside here)
  at_place (at.Before next.Turn) here other = if_turn (has_turn c.region.turning) _ _ refl refl
  at_place (at.Before next.End) here other = ap purpose_behind (sym (ap is_inside here))
  at_place (at.Inside i) here other = subst (λ (t : Bool). Agrees Ordinary (if t then record c { at = at.Inside (record i { turning = one_passed i.turning }); next = c.next + 1 } else standing c i.next)) (sym other) refl

  pub purpose_is : (later : Cursor) → is_iterating c.at ≡ false → after_event arrays c words ≡ Ok later → purpose_at c c.at ≡ purpose_behind (is_inside later.at)
  purpose_is later other is = subst (AtOk (Agrees (purpose_at c c.at))) is (at_place c.at refl other)

-- the purpose of an event is that of the cursor's place
abbrev pub HasPurpose : Purpose → courses.Event Iteration Cursor → Type 0
HasPurpose purpose (courses.Scalar p trap rest) = purpose ≡ p
HasPurpose purpose (courses.Drain p traps rests) = purpose ≡ p
HasPurpose purpose _ = Unit {0}

pub has_purpose : (kind : Event) (purpose : Purpose) (after : List ℤ → Result Cursor Trap) (i : Iteration) (opening : List ℤ) (c : Cursor) → HasPurpose purpose (event_of kind purpose after i opening c)
has_purpose event.Scalar purpose after i opening c = refl
has_purpose event.Drain purpose after i opening c = refl
has_purpose event.Iterate purpose after i opening c = tt
has_purpose event.Close purpose after i opening c = tt
has_purpose event.End purpose after i opening c = tt

-- A header without a trap is counted, and nothing else.
pub carried_is : (answer : Option Place) (carried : Bool) → is_some answer ≡ not carried → carried ≡ is_none answer
carried_is None true is = refl
carried_is None false is = absurd (cc)
carried_is (Some place) true is = absurd (cc)
carried_is (Some place) false is = refl

abbrev headed : ℕ → Tallied → Tallied
headed at old = record old { facts = computed at Header old.facts }

pub counted_is : (answer : Option Place) (purpose : Purpose) (inside carried : Bool) (next at : ℕ) (old new : Tallied) → carried ≡ is_none answer → at ≡ next → (answer ≡ None → purpose ≡ purpose_behind inside)
    → new ≡ (if carried && inside then record old { facts = computed at Header old.facts } else old) → new.facts ≡ counted_by answer next purpose old.facts
counted_is None purpose true carried next at old new made same is counts =
    ap (λ (t : Tallied). t.facts) (counts ∙ ap (λ (b : Bool). if b && true then headed at old else old) made)
    ∙ ap (λ (k : ℕ). computed k Header old.facts) same
    ∙ ap (λ (p : Purpose). computed next p old.facts) (sym (is refl))
counted_is None purpose false carried next at old new made same is counts =
    ap (λ (t : Tallied). t.facts) (counts ∙ ap (λ (b : Bool). if b && false then headed at old else old) made)
    ∙ ap (λ (p : Purpose). computed next p old.facts) (sym (is refl))
counted_is (Some place) purpose inside carried next at old new made same is counts = ap (λ (t : Tallied). t.facts) (counts ∙ ap (λ (b : Bool). if b && inside then headed at old else old) made)

-- What the scheduler's events leave.
use Rattle.std.proofs.Common.{◌≡◌, ℕ, ℤ, Bool, true, false, if◌then◌else◌, Option, Some, None, IfSome, List, slice_get, refl, sym, ap, ◌∙◌, subst}
use Rattle.std.specs.Option.{option_map}
use Rattle.nest_syntax.specs.declared.place.Place.{Place}
use Rattle.nest_syntax.specs.Course.{Purpose, Ordinary}
use Rattle.nest_syntax.specs.Arrays.{Array}
use Rattle.settle_law.specs.Courses.{Trap}
use Rattle.settle_law.specs.Courses as courses
use Rattle.sched_cursor.specs.declared.event.Iteration.{Iteration}
use Rattle.sched_cursor.specs.declared.node.Next.TheVariants as next
use Rattle.sched_cursor.specs.declared.node.Node.{Node}
use Rattle.sched_cursor.specs.declared.node.At.{At}
use Rattle.sched_cursor.specs.declared.node.At.TheVariants as at
use Rattle.sched_cursor.specs.declared.event.Event.{Event}
use Rattle.sched_cursor.specs.declared.event.Event.TheVariants as event
use Rattle.sched_cursor.specs.Turning.{has_turn}
use Rattle.sched_cursor.specs.Steps.{exprs_of}
use Rattle.nest_syntax.specs.Value.{names_written}
use Rattle.std.specs.List.{list_any}
use Rattle.sched_cursor.specs.Cursor.{Cursor}
use Rattle.sched_cursor.specs.Events.{event_at, event_of, kind_found, kind_at, purpose_found, purpose_at, after_at, handed_at, is_iterating, is_iteration}
use Rattle.domore_machine.specs.Facts.{Facts, computed}
use Rattle.domore_machine.specs.Machine.{Setup, scalar_after}
use Rattle.task_frame.specs.declared.piece.Piece.{Piece}
use Rattle.nest_setup.specs.Laws.{place_by, IsAnswered}
use Rattle.domore_core.specs.Engine.{Stand}
use Rattle.domore_core.specs.Tables.{counted_by}
use Rattle.domore_core.proofs.Purposes.{HasPurpose, has_purpose}

-- whether an event is an iteration
abbrev pub iterates : courses.Event Iteration Cursor → Bool
iterates (courses.Iterate b rest) = true
iterates _ = false

module _ (arrays : List Array) (c : Cursor) where
  found_kind : (o : Option Node) → is_iteration (kind_found arrays o) ≡ false
  found_kind None = refl
  found_kind (Some this) = go (list_any (names_written arrays) (exprs_of this))
    where
      go : (b : Bool) → is_iteration (if b then event.Drain else event.Scalar) ≡ false
      go true = refl
      go false = refl

  pub kind_iterates : (a : At) → is_iteration (kind_at arrays c a) ≡ is_iterating a
  kind_iterates (at.Before (next.Node n)) = found_kind (slice_get c.nodes n)
  kind_iterates (at.Before next.Turn) = refl
  kind_iterates (at.Before next.End) = refl
  kind_iterates (at.Inside i) = go (has_turn i.turning)
    where
      go : (b : Bool) → is_iteration (if b then event.Iterate else event.Close) ≡ b
      go true = refl
      go false = refl

module _ (arrays : List Array) (opening : List ℤ) (c : Cursor) where
  iterates_kind : (kind : Event) → iterates (event_of kind (purpose_at c c.at) (λ words. after_at arrays c words c.at) (handed_at c c.at) opening c) ≡ is_iteration kind
  iterates_kind event.Scalar = refl
  iterates_kind event.Drain = refl
  iterates_kind event.Iterate = refl
  iterates_kind event.Close = refl
  iterates_kind event.End = refl

  pub iterating : is_iterating c.at ≡ iterates (event_at arrays opening c)
  iterating = sym (iterates_kind (kind_at arrays c c.at) ∙ kind_iterates arrays c c.at)

  pub purpose_of_event : HasPurpose (purpose_at c c.at) (event_at arrays opening c)
  purpose_of_event = has_purpose (kind_at arrays c c.at) (purpose_at c c.at) (λ words. after_at arrays c words c.at) (handed_at c c.at) opening c

-- the end of an invocation counts nothing
abbrev is_close : Event → Bool
is_close event.Close = true
is_close _ = false

abbrev closes : courses.Event Iteration Cursor → Bool
closes (courses.Close rest) = true
closes _ = false

module _ (arrays : List Array) (opening : List ℤ) (c : Cursor) where
  closes_kind : (kind : Event) → closes (event_of kind (purpose_at c c.at) (λ words. after_at arrays c words c.at) (handed_at c c.at) opening c) ≡ is_close kind
  closes_kind event.Scalar = refl
  closes_kind event.Drain = refl
  closes_kind event.Iterate = refl
  closes_kind event.Close = refl
  closes_kind event.End = refl

  found_close : (o : Option Node) → is_close (kind_found arrays o) ≡ true → purpose_found o ≡ Ordinary
  found_close None is = refl
  found_close (Some this) is = go (list_any (names_written arrays) (exprs_of this)) is
    where
      go : (b : Bool) → is_close (if b then event.Drain else event.Scalar) ≡ true → purpose_found (Some this) ≡ Ordinary
      go true e = absurd (cc)
      go false e = absurd (cc)

  close_at : (a : At) → is_close (kind_at arrays c a) ≡ true → purpose_at c a ≡ Ordinary
  close_at (at.Before (next.Node n)) is = found_close (slice_get c.nodes n) is
  close_at (at.Before next.Turn) is = refl
  close_at (at.Before next.End) is = refl
  close_at (at.Inside i) is = refl

  pub ordinary : (rest : Cursor) → event_at arrays opening c ≡ courses.Close rest → purpose_at c c.at ≡ Ordinary
  ordinary rest is = close_at c.at (sym (closes_kind (kind_at arrays c c.at)) ∙ ap closes is)

pub closed : (s : Stand) (answer : Option Place) (later : Cursor) (facts : Facts) (purpose : Purpose) (rest : Cursor)
    → s.trap ≡ None → answer ≡ None → later ≡ rest → later.next ≡ s.next → facts ≡ counted_by answer s.next purpose s.facts → purpose ≡ Ordinary
    → (let t : Stand = record s { cursor = later; next = later.next; trap = answer; facts = facts } in t) ≡ record s { cursor = rest }
closed s answer later facts purpose rest untrapped is goes same counts ordinary =
    let f : facts ≡ s.facts = counts ∙ ap (λ (o : Option Place). counted_by o s.next purpose s.facts) is ∙ ap (λ (p : Purpose). computed s.next p s.facts) ordinary in
    let t : answer ≡ s.trap = is ∙ sym untrapped in
    λ i. record s { cursor = goes i; next = same i; trap = t i; facts = f i }

-- an event that is passed leaves the state behind it, where no trap is kept
pub passed : (m : Setup Iteration Cursor Piece) (s : Stand) (answer : Option Place) (later : Cursor) (facts : Facts) (purpose : Purpose) (trap : Option Trap) (rest : Cursor)
    → s.trap ≡ None → answer ≡ option_map (place_by (record s.cursor { next = s.next })) trap → later ≡ rest → later.next ≡ s.next → IfSome answer (λ place. later ≡ s.cursor) → facts ≡ counted_by answer s.next purpose s.facts
    → (let t : Stand = record s { cursor = later; next = later.next; trap = answer; facts = facts } in t) ≡ scalar_after m s purpose trap rest
passed m s answer later facts purpose None rest untrapped is goes same kept counts =
    let f : facts ≡ computed s.next purpose s.facts = counts ∙ ap (λ (o : Option Place). counted_by o s.next purpose s.facts) is in
    let t : answer ≡ s.trap = is ∙ sym untrapped in
    λ i. record s { cursor = goes i; next = same i; trap = t i; facts = f i }
passed m s answer later facts purpose (Some trap) rest untrapped is goes same kept counts =
    let f : facts ≡ s.facts = counts ∙ ap (λ (o : Option Place). counted_by o s.next purpose s.facts) is in
    let here : later ≡ s.cursor = subst (λ (o : Option Place). IfSome o (λ place. later ≡ s.cursor)) is kept in
    λ i. record s { cursor = here i; next = same i; trap = is i; facts = f i }

-- What the scheduler's rows leave.
use Rattle.std.proofs.Common.{◌≡◌, ◌+◌, ℤ, Bool, true, false, if◌then◌else◌, Option, Some, None, Result, Ok, Err, List, [], slice_get, refl, sym, ap, ◌∙◌, subst}
use Rattle.std.specs.List.{list_any}
use Rattle.nest_syntax.specs.Arrays.{Array}
use Rattle.nest_syntax.specs.Value.{names_written}
use Rattle.nest_syntax.specs.Course.{Purpose}
use Rattle.nest_syntax.specs.Outcome.{place_of_trap}
use Rattle.settle_law.specs.Courses.{Trap}
use Rattle.task_frame.specs.declared.piece.Piece.{Piece}
use Rattle.sched_cursor.specs.declared.event.Event.{Event as Kind}
use Rattle.sched_cursor.specs.declared.event.Event.TheVariants as kind
use Rattle.sched_cursor.specs.declared.node.Next.TheVariants as next
use Rattle.sched_cursor.specs.declared.node.Node.{Node}
use Rattle.sched_cursor.specs.declared.node.At.{At}
use Rattle.sched_cursor.specs.declared.node.At.TheVariants as at
use Rattle.sched_cursor.specs.Steps.{exprs_of}
use Rattle.sched_cursor.specs.Cursor.{Cursor}
use Rattle.sched_cursor.specs.Events.{event_of, kind_found, kind_at, kind_of, purpose_at, after_at, after_event, handed_at, trap_in, cursor_or, is_inside, is_iteration}
use Rattle.sched_cursor.proofs.Counting.{events_count}
use Rattle.spec_machine.specs.Invocations.{Event, Scalar, Drain}
use Rattle.spec_machine.specs.Facts.{computed}
use Rattle.spec_machine.specs.Machine.{Setup, scalar_after}
use Rattle.spec_setup.specs.Setups.{Invoked, by_invocations, invoking, invocation_at}
use Rattle.spec_core.specs.declared.desk.Desk.{Desk}
use Rattle.spec_core.specs.declared.table.Table.{Table}
use Rattle.spec_core.specs.Engine.{Stand}
use Rattle.spec_core.specs.Tables.{state_of}

-- what an event that computes says of where it leads
abbrev pub Computes : Purpose → (List ℤ → Result Cursor Trap) → List ℤ → Cursor → Event Invoked Cursor → Type 0
Computes purpose after opening c (Scalar p t r) = (p ≡ purpose) × (t ≡ trap_in (after opening)) × (r ≡ cursor_or c (after opening))
Computes purpose after opening c (Drain p ts rs) = (p ≡ purpose) × ((words : List ℤ) → (ts words ≡ trap_in (after words)) × (rs words ≡ cursor_or c (after words)))
Computes purpose after opening c _ = Unit {0}

module _ (arrays : List Array) (opening : List ℤ) (c : Cursor) where
  abbrev after : List ℤ → Result Cursor Trap
  after words = after_at arrays c words c.at

  invokes : (a : At) → Computes (purpose_at c c.at) after opening c (invoking c a)
  invokes (at.Before n) = tt
  invokes (at.Inside i) = tt

  of_kind : (k : Kind) → Computes (purpose_at c c.at) after opening c (by_invocations c (event_of k (purpose_at c c.at) after (handed_at c c.at) opening c))
  of_kind kind.Scalar = (refl, refl, refl)
  of_kind kind.Drain = (refl, λ words. (refl, refl))
  of_kind kind.Iterate = invokes c.at
  of_kind kind.Close = invokes c.at
  of_kind kind.End = tt

  pub computes : (ev : Event Invoked Cursor) → invocation_at arrays opening c ≡ ev → Computes (purpose_at c c.at) after opening c ev
  computes ev is = subst (Computes (purpose_at c c.at) after opening c) is (of_kind (kind_of arrays c))

  found_kind : (o : Option Node) → is_iteration (kind_found arrays o) ≡ false
  found_kind None = refl
  found_kind (Some this) = go (list_any (names_written arrays) (exprs_of this))
    where
      go : (b : Bool) → is_iteration (if b then kind.Drain else kind.Scalar) ≡ false
      go true = refl
      go false = refl

  not_iterating : (a : At) → is_inside a ≡ false → is_iteration (kind_at arrays c a) ≡ false
  not_iterating (at.Before (next.Node n)) outside = found_kind (slice_get c.nodes n)
  not_iterating (at.Before next.Turn) outside = refl
  not_iterating (at.Before next.End) outside = refl
  not_iterating (at.Inside i) outside = absurd (let no_one : true ≡ false = outside in cc)

  -- outside an invocation no iteration is passed
  pub next_same : (words : List ℤ) (later : Cursor) → is_inside c.at ≡ false → after_event arrays c words ≡ Ok later → later.next ≡ c.next
  next_same words later outside is = events_count.passed arrays words c later is ∙ ap (λ b. if b then c.next + 1 else c.next) (not_iterating c.at outside)

-- a desk that passed an event that computes
pub passed_by : {G : Type 0} (m : Setup Invoked Cursor Piece G) (old : Table G) (new : Desk) (arrays : List Array) (words : List ℤ) (purpose : Purpose) (trap : Option Trap) (rest : Cursor) → is_inside old.desk.cursor.at ≡ false
    → ((rest : Cursor) → after_event arrays old.desk.cursor words ≡ Ok rest → new ≡ record old.desk { cursor = rest; tally = record old.desk.tally { facts = computed (purpose_at old.desk.cursor old.desk.cursor.at) old.desk.tally.facts } })
    → ((trap : Trap) → after_event arrays old.desk.cursor words ≡ Err trap → new ≡ record old.desk { early = Some (place_of_trap trap.cause trap.line old.desk.cursor.next true) })
    → purpose ≡ purpose_at old.desk.cursor old.desk.cursor.at → trap ≡ trap_in (after_event arrays old.desk.cursor words) → rest ≡ cursor_or old.desk.cursor (after_event arrays old.desk.cursor words)
    → state_of (record old { desk = new }) ≡ scalar_after m (state_of old) purpose trap rest
passed_by {G} m old new arrays words purpose trap rest outside goes traps purpose_is trap_is rest_is =
    by (after_event arrays old.desk.cursor words) refl ∙ sym (λ i. scalar_after m (state_of old) (purpose_is i) (trap_is i) (rest_is i))
  where
    by : (r : Result Cursor Trap) → after_event arrays old.desk.cursor words ≡ r → state_of (record old { desk = new }) ≡ scalar_after m (state_of old) (purpose_at old.desk.cursor old.desk.cursor.at) (trap_in r) (cursor_or old.desk.cursor r)
    by (Ok later) is =
        ap (λ (d : Desk). state_of (record old { desk = d })) (goes later is)
        ∙ ap (λ n. let t : Stand G = record (state_of old) { cursor = later; next = n; facts = computed (purpose_at old.desk.cursor old.desk.cursor.at) old.desk.tally.facts } in t) (next_same arrays [] old.desk.cursor words later outside is)
    by (Err t) is = ap (λ (d : Desk). state_of (record old { desk = d })) (traps t is)

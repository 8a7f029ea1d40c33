-- A cursor that was made from a program stays one.
use Rattle.std.proofs.Common.{◌≡◌, ℕ, ◌+◌, ◌*◌, ◌^◌, ◌<◌, ◌≤◌, ℤ, Bool, true, false, if◌then◌else◌, Option, Some, None, Result, Ok, Err, List, [], map, length, slice_get, refl, sym, ap, ◌∙◌, subst, arith}
use Rattle.std.specs.Prelude.{IfSome}
use Rattle.std.specs.List.{flat_map}
use Rattle.std.specs.Option.{option_map, option_and_then, option_map_or}
use Rattle.std.proofs.lemmas.Option.{slice_get-map}
use Rattle.nest_syntax.specs.declared.place.Place.{Place}
use Rattle.nest_syntax.specs.declared.tree.Loop.{Loop}
use Rattle.nest_syntax.specs.declared.tree.Program.{Program}
use Rattle.nest_syntax.specs.Named.{IsWellNamed}
use Rattle.nest_syntax.specs.Words.{most_turns}
use Rattle.nest_syntax.specs.Arrays.{arrays_of}
use Rattle.nest_syntax.specs.Shape.{Body, invoked_by, bodies_of}
use Rattle.nest_syntax.specs.Course.{Setting, in_order, region_of, setting_of}
use Rattle.nest_syntax.specs.Course as course
use Rattle.nest_syntax.proofs.Shapes.{regions_same}
use Rattle.nest_check.specs.Kept.{KeepsRules}
use Rattle.settle_law.specs.Courses.{Trap}
use Rattle.sched_cursor.specs.declared.node.Next.{Next}
use Rattle.sched_cursor.specs.declared.node.Next.TheVariants as next
use Rattle.sched_cursor.specs.declared.node.Node.{Node}
use Rattle.sched_cursor.specs.declared.node.Invocation.{Invocation}
use Rattle.sched_cursor.specs.declared.node.At.TheVariants as at
use Rattle.sched_cursor.specs.declared.event.Event.{Event}
use Rattle.sched_cursor.specs.declared.event.Event.TheVariants as event
use Rattle.sched_cursor.specs.Steps.{is_drain}
use Rattle.sched_cursor.specs.Cursor.{Cursor}
use Rattle.sched_cursor.specs.Events.{after_event, as_answer, placed, behind_invocation, kind_found, plain_event_when}
use Rattle.sched_cursor.specs.Doings.{doings_in_region, runs, AreTold}
use Rattle.sched_cursor.specs.Rooms.{MostOf, by_end, HasRoom, outside}
use Rattle.sched_cursor.specs.Scripts.{FollowsIn, PutsRegion}
use Rattle.sched_cursor.specs.Handed.{loop_of_body, variable_with_step, NumbersNames, AtTells, Tells, naming_of}
use Rattle.sched_cursor.specs.Laws.{IsCursorOf, before_entry, restarted, CursorsStay}
use Rattle.sched_cursor.proofs.Growing.{more_of}
use Rattle.sched_cursor.proofs.Handing.{Stays, StaysOk, stays_after, stays_behind, TellsOk, tells_after, tells_behind_invocation}
use Rattle.sched_cursor.proofs.Rooms.{RoomOk, room_after, room_behind, room_passed}
use Rattle.sched_cursor.proofs.Scheduled.{restart_tells, restart_tells_nodes, are_told}

stays_cursor : (program : Program) (c later : Cursor) → IsCursorOf program c → Stays c later → Tells (naming_of program) later → HasRoom later → IsCursorOf program later
stays_cursor program c later is stays tells room = record {
  script = λ setting nest d same at_is. is.script setting nest d (same ∙ stays.nodes) (at_is ∙ ap at.Before stays.entry);
  drains = stays.drains ∙ is.drains ∙ ap (map (is_drain (arrays_of program.decls))) (sym stays.nodes);
  names = subst (NumbersNames program) (sym stays.names) is.names;
  tells = tells;
  room = room;
  entry = subst (λ nodes. MostOf nodes later.entry (2 ^ 60)) (sym stays.nodes) (subst (λ e. MostOf c.nodes e (2 ^ 60)) (sym stays.entry) is.entry);
}

by_result : (program : Program) (c later : Cursor) (answer : Option Place) (result : Result Cursor Trap) → IsCursorOf program c → StaysOk c result → TellsOk (naming_of program) result → RoomOk result
    → as_answer answer later ≡ placed c.next result → IfSome answer (λ place. later ≡ c) → IsCursorOf program later
by_result program c later None (Ok there) is stays tells room moved kept = let same : there ≡ later = cc in subst (IsCursorOf program) same (stays_cursor program c there is stays tells room)
by_result program c later None (Err trap) is stays tells room moved kept = absurd cc
by_result program c later (Some place) result is stays tells room moved kept = subst (IsCursorOf program) (sym kept) is

-- behind an event, whatever the words
pub goes_on : (program : Program) (words : List ℤ) (c later : Cursor) (answer : Option Place) → IsCursorOf program c → as_answer answer later ≡ placed c.next (after_event (arrays_of program.decls) c words) → IfSome answer (λ place. later ≡ c) → IsCursorOf program later
goes_on program words c later answer is moved kept =
    by_result program c later answer (after_event (arrays_of program.decls) c words) is (stays_after (arrays_of program.decls) words c) (tells_after (naming_of program) (arrays_of program.decls) words c is.tells) (room_after (arrays_of program.decls) words c is.room) moved kept

-- behind an invocation
pub goes_past : (program : Program) (c : Cursor) → IsCursorOf program c → IsCursorOf program (behind_invocation c c.at)
goes_past program c is = stays_cursor program c (behind_invocation c c.at) is (stays_behind [] [] c) (tells_behind_invocation (naming_of program) [] [] c is.tells) (room_behind c c.at refl is.room)

-- at the start again
pub goes_back : (program : Program) (c : Cursor) → IsCursorOf program c → IsCursorOf program (restarted program c)
goes_back program c is = stays_cursor program c (restarted program c) is (record { nodes = refl; drains = refl; entry = refl; names = refl }) (restart_tells program c is.tells) (outside c.entry (2 ^ 60) refl is.entry (omega arith))

-- a script that was found for a program with its names makes a cursor
pub starts : (program : Program) (c : Cursor) (count first : ℕ) → IsWellNamed program → KeepsRules program → count ≡ length (bodies_of program) → length (bodies_of program) ≤ 4096
    → PutsRegion [] count c.nodes first (λ (s : Setting). in_order (map (region_of s) program.regions)) (flat_map doings_in_region program.regions) next.End c.entry → c.drains ≡ map (is_drain (arrays_of program.decls)) c.nodes → NumbersNames program c.names → c ≡ restarted program c → IsCursorOf program c
starts program c count first named keeps counted few puts drains names is =
    let told = puts.counts (setting_of program []) in
    let bodies : length (in_order (map (region_of (setting_of program [])) program.regions)).bodies ≡ length (bodies_of program) = ap length (regions_same (setting_of program []) program.regions) in
    let none : first ≡ 0 = omega arith in
    let all : runs (flat_map doings_in_region program.regions) ≤ 4096 = omega (arith, puts.ran, counted, few) in
    let entry : MostOf c.nodes c.entry (2 ^ 60) =
    more_of c.nodes c.entry (281474976710656 * runs (flat_map doings_in_region program.regions) + 0) (2 ^ 60) (omega (arith, all)) (puts.room c.nodes (λ n this there. there) 0 (by_end 0)) in
    let nodes = puts.tells (naming_of program) (subst (λ f. AreTold (naming_of program) f (flat_map doings_in_region program.regions)) (sym none) (are_told program named keeps)) (λ n this there. absurd cc) in
    subst (IsCursorOf program) (sym is) (record {
      script = λ setting nest later same at_is. subst (λ f. FollowsIn setting nest later ((in_order (map (region_of setting) program.regions)).events f later.scalars (λ after. course.End))) none
          (puts.enacts setting nest later (λ n this there. ap (λ nodes. slice_get nodes n) same ∙ there) at_is (λ after. course.End) (λ last same' at'. ap (plain_event_when setting.arrays setting.words last) at'));
      drains = drains;
      names = names;
      tells = restart_tells_nodes program c nodes;
      room = outside c.entry (2 ^ 60) refl entry (omega arith);
      entry = entry;
    })

-- and it stands at its start
pub starts_with : (program : Program) (regions : List Loop) (old nodes : List Node) (drains : List Bool) (count first : ℕ) (entry : Next) (scalars : List ℤ) (names : List (Option ℕ)) (c : Cursor) → IsWellNamed program → KeepsRules program
    → count ≡ length (bodies_of program) → length (bodies_of program) ≤ 4096 → PutsRegion old count nodes first (λ (s : Setting). in_order (map (region_of s) regions)) (flat_map doings_in_region regions) next.End entry
    → old ≡ [] → regions ≡ program.regions → drains ≡ map (is_drain (arrays_of program.decls)) nodes → NumbersNames program names → scalars ≡ course.opening_scalars program → c ≡ before_entry nodes drains entry scalars names → IsCursorOf program c × (c ≡ restarted program c)
starts_with program regions old nodes drains count first entry scalars names c named keeps counted few puts none all told numbers opening is =
    let begun : Cursor = before_entry nodes drains entry (course.opening_scalars program) names in
    let same : begun ≡ c = sym (is ∙ ap (λ s. before_entry nodes drains entry s names) opening) in
    let of_none : PutsRegion [] count nodes first (λ (s : Setting). in_order (map (region_of s) regions)) (flat_map doings_in_region regions) next.End entry = subst (λ ns. PutsRegion ns count nodes first (λ (s : Setting). in_order (map (region_of s) regions)) (flat_map doings_in_region regions) next.End entry) none puts in
    let of_all : PutsRegion [] count nodes first (λ (s : Setting). in_order (map (region_of s) program.regions)) (flat_map doings_in_region program.regions) next.End entry = subst (λ rs. PutsRegion [] count nodes first (λ (s : Setting). in_order (map (region_of s) rs)) (flat_map doings_in_region rs) next.End entry) all of_none in
    subst (λ d. IsCursorOf program d × (d ≡ restarted program d)) same (starts program begun count first named keeps counted few of_all told numbers refl, refl)

-- the invocation that was entered
pub inside_few : (program : Program) (c : Cursor) (i : Invocation) → c.at ≡ at.Inside i → IsCursorOf program c → (i.turning.turn ≤ i.turning.trips) × (i.turning.trips ≤ most_turns) × (i.body < length (bodies_of program))
inside_few program c i at_is is = let tells : AtTells (naming_of program) (at.Inside i) = subst (AtTells (naming_of program)) at_is is.tells.at in (tells.turned, tells.few, tells.body)

-- the loop of its body has its step
abbrev name_and_step : Loop → ℕ × ℕ
name_and_step l = (l.name, l.step)

abbrev stepping : ℕ → ℕ → ℕ × ℕ
stepping step name = (name, step)

told_of_loop : (program : Program) (body : ℕ) → variable_with_step program body ≡ option_map name_and_step (loop_of_body program body)
told_of_loop program body = by (slice_get (invoked_by program) body)
  where
    by : (found : Option Body) → option_and_then (λ (b : Body). option_map name_and_step b.header) found ≡ option_map name_and_step (option_and_then (λ (b : Body). b.header) found)
    by None = refl
    by (Some b) = refl

inside_told : (program : Program) (c : Cursor) (i : Invocation) → c.at ≡ at.Inside i → IsCursorOf program c → (l : Option Loop) → loop_of_body program i.body ≡ l → option_map name_and_step l ≡ option_map (stepping i.turning.step) i.name
inside_told program c i at_is is l there =
    let tells : AtTells (naming_of program) (at.Inside i) = subst (AtTells (naming_of program)) at_is is.tells.at in
    ap (option_map name_and_step) (sym there) ∙ sym (told_of_loop program i.body) ∙ tells.variable

inside_steps : (program : Program) (c : Cursor) (i : Invocation) → c.at ≡ at.Inside i → IsCursorOf program c → (l : Loop) → loop_of_body program i.body ≡ Some l → i.turning.step ≡ l.step
inside_steps program c i at_is is l there = by i.name (inside_told program c i at_is is (Some l) there)
  where
    by : (name : Option ℕ) → Some (name_and_step l) ≡ option_map (stepping i.turning.step) name → i.turning.step ≡ l.step
    by None e = absurd cc
    by (Some n) e = sym (ap (λ (o : Option (ℕ × ℕ)). option_map_or (λ (v : ℕ × ℕ). v.1) o 0) e)

inside_alone : (program : Program) (c : Cursor) (i : Invocation) → c.at ≡ at.Inside i → IsCursorOf program c → loop_of_body program i.body ≡ None → i.turning.trips ≤ 1
inside_alone program c i at_is is there =
    let tells : AtTells (naming_of program) (at.Inside i) = subst (AtTells (naming_of program)) at_is is.tells.at in
    tells.alone (by i.name (inside_told program c i at_is is None there))
  where
    by : (name : Option ℕ) → None ≡ option_map (stepping i.turning.step) name → name ≡ None
    by None e = refl
    by (Some n) e = absurd cc

pub cursors_stay : CursorsStay
cursors_stay = record {
  behind_events = λ program words c later is moved. goes_on program words c later None is (sym (ap (placed c.next) moved)) tt;
  behind_invocations = goes_past;
  at_start = goes_back;
  passed = λ program c is. room_passed c is.room;
  steps = inside_steps;
  alone = inside_alone;
  entered = inside_few;
}

-- the kind of an event that stands in the text, by whether it is a drain
abbrev pub kind_told : Option Bool → Event
kind_told None = event.End
kind_told (Some true) = event.Drain
kind_told (Some false) = event.Scalar

pub kind_looked_up : (program : Program) (c : Cursor) (n : ℕ) → IsCursorOf program c → kind_told (slice_get c.drains n) ≡ kind_found (arrays_of program.decls) (slice_get c.nodes n)
kind_looked_up program c n is = ap (λ drains. kind_told (slice_get drains n)) is.drains ∙ ap kind_told (slice_get-map (is_drain (arrays_of program.decls)) c.nodes n) ∙ by (slice_get c.nodes n)
  where
    by_drain : (b : Bool) → kind_told (Some b) ≡ (if b then event.Drain else event.Scalar)
    by_drain true = refl
    by_drain false = refl

    by : (found : Option Node) → kind_told (option_map (is_drain (arrays_of program.decls)) found) ≡ kind_found (arrays_of program.decls) found
    by None = refl
    by (Some this) = by_drain (is_drain (arrays_of program.decls) this)

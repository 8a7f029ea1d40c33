-- What a course keeps where its cursor goes on, and how an iteration is carried out.
use Rattle.std.proofs.Common.{◌≡◌, ℕ, suc, ◌+◌, ◌^◌, ◌<◌, ℤ, Bool, true, false, if◌then◌else◌, not, is_some, is_ok, Option, Some, None, Result, Ok, Err, List, map, length, sum, refl, sym, ap, ◌∙◌, subst, arith}
use Rattle.std.proofs.lemmas.List.{length-map}
use Rattle.std.specs.Option.{option_and_then}
use Rattle.nest_syntax.specs.declared.place.Place.{Place}
use Rattle.nest_syntax.specs.declared.tree.Program.{Program}
use Rattle.nest_syntax.specs.declared.tree.Stmt.{Stmt}
use Rattle.nest_syntax.specs.Among.{is_among}
use Rattle.nest_syntax.specs.Arrays.{Array, arrays_of, sizes_of, array_names}
use Rattle.nest_syntax.specs.Locals.{locals_of}
use Rattle.nest_syntax.specs.Shape.{bodies_of}
use Rattle.nest_syntax.specs.Outcome.{body_at, completed}
use Rattle.nest_syntax.specs.Reads.{on_words}
use Rattle.nest_syntax.specs.Turn.{effect, sequence}
use Rattle.nest_syntax.specs.Turn as turn
use Rattle.nest_syntax.specs.Value.{scalar_at}
use Rattle.nest_mean.specs.declared.bodies.TurnTrap.{TurnTrap}
use Rattle.nest_mean.specs.Nest.{Nest, CanRun, IsWellFormed}
use Rattle.nest_check.proofs.Judged.{few_arrays}
use Rattle.addr_slice.specs.Claims.{words_of}
use Rattle.nest_mean.specs.TurnRun.{ended}
use Rattle.settle_law.specs.Courses.{Trap, reached, iteration_at, nest_of}
use Rattle.sched_cursor.specs.declared.event.Event.{Event as Kind}
use Rattle.sched_cursor.specs.declared.node.Invocation.{Invocation}
use Rattle.sched_cursor.specs.declared.node.At.TheVariants as at
use Rattle.sched_cursor.specs.Cursor.{Cursor}
use Rattle.sched_cursor.specs.Events as events
use Rattle.sched_cursor.specs.Events.{kind_of, after_event, is_iteration, is_iterating, handed_at, as_answer, placed, scalars_inside}
use Rattle.sched_cursor.specs.Given.{given_at}
use Rattle.sched_cursor.specs.Handed.{what_of, naming_of, AtTells}
use Rattle.sched_cursor.specs.Laws.{IsCursorOf}
use Rattle.sched_cursor.proofs.Counting.{events_count}
use Rattle.sched_cursor.proofs.Handing.{variable_told, told_inside}
use Rattle.nest_profile.specs.declared.course.Course.{Course}
use Rattle.nest_profile.specs.Iterations.{turned_at, locals_at, variable_at, AreGiven, AreTakenOver, words_told, IsCourse}
use Rattle.nest_profile.proofs.Scalars.{zeros_same, given_right, as_many_inside}
use Rattle.nest_profile.proofs.Turned.{entered, iterating_inside}

-- what the answer to an event says of where it leads
pub gone : (n : ℕ) (later : Cursor) (answer : Option Place) (r : Result Cursor Trap) (t : Bool) → as_answer answer later ≡ placed n r → is_some answer ≡ not t → t ≡ true → r ≡ Ok later
gone n later None (Ok after) t moved is goes = let same : later ≡ after = cc in ap Ok (sym same)
gone n later None (Err trap) t moved is goes = absurd (cc)
gone n later (Some place) r t moved is goes = absurd (let no : true ≡ false = is ∙ ap not goes in cc)

pub stuck : (n : ℕ) (later : Cursor) (answer : Option Place) (r : Result Cursor Trap) (t : Bool) → as_answer answer later ≡ placed n r → is_some answer ≡ not t → t ≡ false → (trap : Trap) × (r ≡ Err trap)
stuck n later None r t moved is stays = absurd (let no : false ≡ true = is ∙ ap not stays in cc)
stuck n later (Some place) (Ok after) t moved is stays = absurd (cc)
stuck n later (Some place) (Err trap) t moved is stays = (trap, refl)

-- an event that is no iteration counts none
pub next_kept : (arrays : List Array) (words : List ℤ) (c later : Cursor) (k : Kind) → kind_of arrays c ≡ k → is_iteration k ≡ false → after_event arrays c words ≡ Ok later → later.next ≡ c.next
next_kept arrays words c later k kind none after = events_count.passed arrays words c later after ∙ ap (λ b. if b then c.next + 1 else c.next) (ap is_iteration kind ∙ none)

pub course_moved : (job : Nest) (course : Course) (later : Cursor) → IsCourse job course → IsCursorOf job.program later → later.next ≡ course.cursor.next → IsCourse job (record course { cursor = later })
course_moved job course later is own next = record { cursor_is = own; layout = is.layout; reached_is = ap (reached (nest_of job.program job.opening.words)) next ∙ is.reached_is; room = is.room; names = is.names }

-- the iteration that is handed out has the cursor's body and scalars
pub handed_is : (program : Program) (c : Cursor) (i : Invocation) → IsCursorOf program c → c.at ≡ at.Inside i → what_of program (handed_at c c.at) ≡ (i.body, scalars_inside c.scalars i)
handed_is program c i own there =
    let told : AtTells (naming_of program) (at.Inside i) = subst (AtTells (naming_of program)) there own.tells.at in
    ap (λ a. what_of program (handed_at c a)) there ∙ told_inside program c own.names own.tells i (variable_told program i told.variable)

-- where scalars were given, the turn of the iteration is that of the body with them
pub turn_is : (program : Program) (c : Cursor) (scalars : List ℤ) → IsCursorOf program c → is_iterating c.at ≡ true → AreGiven program c scalars
    → turn.turn_of (arrays_of program.decls) (body_at (bodies_of program) (handed_at c c.at).body) scalars
    ≡ turn.turn_of (arrays_of program.decls) (body_at (bodies_of program) (what_of program (handed_at c c.at)).0) (what_of program (handed_at c c.at)).1
turn_is program c scalars own iterates given =
    let e = entered c.at (iterating_inside c.at iterates) in
    let i : Invocation = e.0 in
    let there : c.at ≡ at.Inside i = e.1 in
    let stmts : List Stmt = body_at (bodies_of program) i.body in
    let same : (name : ℕ) → is_among (locals_of stmts) name ≡ false → scalar_at scalars name ≡ scalar_at (scalars_inside c.scalars i) name = subst (λ a. (name : ℕ) → is_among (locals_at program a) name ≡ false → scalar_at scalars name ≡ scalar_at (events.iteration_at c a).1 name) there given.same in
    ap (λ a. turn.turn_of (arrays_of program.decls) (body_at (bodies_of program) (handed_at c a).body) scalars) there
    ∙ ap (λ (s : List ℤ). sequence (map (effect (arrays_of program.decls)) stmts) s (λ after. turn.Finished)) (zeros_same (locals_of stmts) scalars (scalars_inside c.scalars i) (given.as_many ∙ sym (as_many_inside c i)) same)
    ∙ sym (ap (λ (b : ℕ × List ℤ). turn.turn_of (arrays_of program.decls) (body_at (bodies_of program) b.0) b.1) (handed_is program c i own there))

-- the words behind an iteration, where textual order gets there
pub reached_on : (job : Nest) (n : ℕ) (i : ℕ × List ℤ) (o : Option (List ℤ)) → iteration_at (nest_of job.program job.opening.words) n ≡ Some i → reached (nest_of job.program job.opening.words) n ≡ o
    → reached (nest_of job.program job.opening.words) (suc n) ≡ option_and_then (λ words. completed (on_words (sizes_of (arrays_of job.program.decls)) (turn.turn_of (arrays_of job.program.decls) (body_at (bodies_of job.program) i.0) i.1) words)) o
reached_on job n i o at gets =
    ap (λ o. option_and_then (λ words. option_and_then (λ (i : ℕ × List ℤ). completed (on_words (sizes_of (arrays_of job.program.decls)) (turn.turn_of (arrays_of job.program.decls) (body_at (bodies_of job.program) i.0) i.1) words)) o) (reached (nest_of job.program job.opening.words) n)) at
    ∙ ap (option_and_then (λ words. completed (on_words (sizes_of (arrays_of job.program.decls)) (turn.turn_of (arrays_of job.program.decls) (body_at (bodies_of job.program) i.0) i.1) words))) gets

pub completed_is : (result : Result (Unit {0}) TurnTrap) (words : List ℤ) (t : Bool) → t ≡ is_ok result → completed (ended result words) ≡ (if t then Some words else None)
completed_is (Ok done) words t is = ap (λ t. if t then Some words else None) (sym is)
completed_is (Err trap) words t is = ap (λ t. if t then Some words else None) (sym is)

-- scalars that are given stay so where only locals of the body change
pub given_kept : (program : Program) (c : Cursor) (scalars later : List ℤ) (body : ℕ) → is_iterating c.at ≡ true → body ≡ (handed_at c c.at).body → AreGiven program c scalars → length later ≡ length scalars
    → ((name : ℕ) → is_among (locals_of (body_at (bodies_of program) body)) name ≡ false → scalar_at later name ≡ scalar_at scalars name) → AreGiven program c later
given_kept program c scalars later body iterates is given many others = record { as_many = many ∙ given.as_many; same = λ name other. others name (local name other) ∙ given.same name other }
  where
    local : (name : ℕ) → is_among (locals_at program c.at) name ≡ false → is_among (locals_of (body_at (bodies_of program) body)) name ≡ false
    local name other =
        let e = entered c.at (iterating_inside c.at iterates) in
        subst (λ b. is_among (locals_of (body_at (bodies_of program) b)) name ≡ false) (sym (is ∙ ap (λ a. (handed_at c a).body) e.1)) (subst (λ a. is_among (locals_at program a) name ≡ false) e.1 other)

-- scalars that were taken over are given by the cursor
pub given_by : (program : Program) (c : Cursor) (scalars given : List ℤ) → is_iterating c.at ≡ true → AreTakenOver program c scalars → given ≡ given_at c c.at scalars → length given ≡ length scalars → AreGiven program c given
given_by program c scalars given iterates taken is many = by (entered c.at (iterating_inside c.at iterates))
  where
    by : (i : Invocation) × (c.at ≡ at.Inside i) → AreGiven program c given
    by (i, there) = record {
      as_many = many ∙ taken.as_many;
      same = λ name other.
          ap (λ xs. scalar_at xs name) (is ∙ ap (λ a. given_at c a scalars) there)
          ∙ given_right c i scalars name taken.as_many (λ differs. taken.same name other (λ var. differs (sym (ap variable_at there) ∙ var)))
          ∙ sym (ap (λ a. scalar_at (events.iteration_at c a).1 name) there);
    }

-- a job has few arrays
pub few_lengths : (job : Nest) (program : Program) (lengths : List ℕ) → CanRun job → program ≡ job.program → lengths ≡ sizes_of (arrays_of program.decls) → length lengths < 2 ^ 32
unfolding IsWellFormed
few_lengths job program lengths runs same is =
    let sizes : length lengths ≡ length (arrays_of job.program.decls) = ap length is ∙ ap (λ (p : Program). length (sizes_of (arrays_of p.decls))) same ∙ length-map (arrays_of job.program.decls) (λ (a : Array). a.size) in
    let names : length (array_names (arrays_of job.program.decls)) ≡ length (arrays_of job.program.decls) = length-map (arrays_of job.program.decls) (λ (a : Array). a.name) in
    omega (arith, sizes, names, few_arrays job.program runs.formed.1)

-- behind an iteration a course is what it was
pub course_behind : (job : Nest) (old ran : Course) (later : Cursor) → IsCourse job old → is_iterating old.cursor.at ≡ true → IsCursorOf job.program later → later ≡ turned_at old.cursor old.cursor.at → ran.words.sizes ≡ old.words.sizes
    → reached (nest_of job.program job.opening.words) (suc old.cursor.next) ≡ words_told ran → words_of ran.claims ≡ sum (sizes_of (arrays_of job.program.decls)) → length ran.scalars ≡ length old.cursor.scalars → IsCourse job (record ran { cursor = later })
course_behind job old ran later is iterates own turns sizes gets room many = record {
  cursor_is = own;
  layout = sizes ∙ is.layout;
  reached_is = ap (reached (nest_of job.program job.opening.words)) next ∙ gets;
  room = room;
  names = many ∙ is.cursor_is.tells.many;
}
  where
    by : (i : Invocation) × (old.cursor.at ≡ at.Inside i) → (turned_at old.cursor old.cursor.at).next ≡ suc old.cursor.next
    by (i, there) = ap (λ a. (turned_at old.cursor a).next) there ∙ (let one : old.cursor.next + 1 ≡ suc old.cursor.next = omega arith in one)

    next : later.next ≡ suc old.cursor.next
    next = ap (λ (c : Cursor). c.next) turns ∙ by (entered old.cursor.at (iterating_inside old.cursor.at iterates))

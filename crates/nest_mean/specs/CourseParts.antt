-- No caller of `run_plain` needs this. How the parts of a course are carried out, one inside the other: each is said
-- before anything that may follow it, and for any numbering of bodies in which its own stand in order.
use Rattle.std.specs.Prelude.{◌≡◌, ℕ, suc, ◌+◌, ◌*◌, ◌<◌, ◌≤◌, ◌^◌, ℤ, Bool, true, false, if◌then◌else◌, Result, Ok, Err, List, [], ◌∷◌, map, length}
use Rattle.std.specs.List.{list_any}
use Rattle.nest_syntax.specs.declared.operators.Cause.{Cause}
use Rattle.nest_syntax.specs.declared.operators.Op.{Op}
use Rattle.nest_syntax.specs.declared.tree.Expr.{Expr}
use Rattle.nest_syntax.specs.declared.tree.Stmt.{Stmt}
use Rattle.nest_syntax.specs.declared.tree.Loop.{Loop}
use Rattle.nest_syntax.specs.Words.{turns, counted, assigned, operation_of, variable, most_turns}
use Rattle.nest_syntax.specs.Arrays.{Array, sizes_of}
use Rattle.nest_syntax.specs.Value.{value, and_then, names_written, scalar_at, with_scalar}
use Rattle.nest_syntax.specs.Course.{Setting, Course, Iterate, Item, Tested, in_order, chosen, iterations, region_turns, item_of, setting_of}
use Rattle.nest_syntax.specs.Outcome.{place_of_trap, body_at, turn_in}
use Rattle.word_store.specs.Memory.{HasLayout}
use Rattle.nest_mean.specs.declared.bodies.TurnTrap.{TurnTrap}
use Rattle.nest_mean.specs.declared.run.Run.{Run}
use Rattle.nest_syntax.specs.declared.place.Place.{Place}
use Rattle.nest_mean.specs.NamesChanged.{KeepsOthers}
use Rattle.nest_mean.specs.Nest.{Nest}
use Rattle.nest_mean.specs.Finish.{Finish, trapped_with, finish_from}

-- the words on which an event evaluates these expressions: the words at that moment where one of them names a written
-- array, and else the opening ones
abbrev pub event_words : List Array → List Expr → List ℤ → List ℤ → List ℤ
event_words arrays exprs present opening = if list_any (names_written arrays) exprs then present else opening

-- the low bound and the count of turns of a loop
abbrev pub header : List Array → Loop → List ℤ → List ℤ → Result (ℤ × ℕ) Cause
header arrays l scalars words = and_then (value arrays scalars words l.low) (λ low. and_then (value arrays scalars words l.high) (λ high. and_then (counted (turns low high l.step l.through)) (λ count. Ok (low, count))))

-- the value that an assignment among the items gives a scalar
abbrev pub value_changed : List Array → ℕ → Op → Expr → List ℤ → List ℤ → Result ℤ Cause
value_changed arrays name op expr scalars words = and_then (value arrays scalars words expr) (λ right. assigned (operation_of op) (scalar_at scalars name) right)

-- a trap of iteration `number`
abbrev pub at_iteration : ℕ → Result (Unit {0}) TurnTrap → Result (Unit {0}) Place
at_iteration number (Ok done) = Ok done
at_iteration number (Err trap) = Err (place_of_trap trap.cause trap.line number false)

abbrev pub next_number : ℕ → Result (Unit {0}) TurnTrap → ℕ
next_number number (Ok done) = number + 1
next_number number (Err trap) = number

-- the arrays of a nest, and its opening words
abbrev pub setting_in : Nest → Setting
setting_in nest = setting_of nest.program nest.opening.words

-- What carrying out so many more iterations needs: words of the nest's arrays, and room to count the iterations.
pub record IsReady (nest : Nest) (most : ℕ) (run : Run) : Type 0 where
  pub sizes : HasLayout run.words nest.program.decls
  pub room : run.number + most < 2 ^ 64

-- how the rest of a course ends from a run as it stands
abbrev pub finish_of : Setting → List (List Stmt) → Course → Run → Finish
finish_of setting bodies course run = finish_from (sizes_of setting.arrays) (turn_in setting.arrays bodies) course run.number run.words.words

-- from this number on the bodies are these
abbrev pub Stand : List (List Stmt) → ℕ → List (List Stmt) → Type 0
Stand bodies first [] = Unit {0}
Stand bodies first (body ∷ others) = (body_at bodies first ≡ body) × Stand bodies (suc first) others

-- a run goes on, or ends at its trap with these words
abbrev pub Reaches : {A : Type 0} → Result A Place → List ℤ → (A → Finish) → Finish → Type 0
Reaches (Ok result) words next finish = finish ≡ next result
Reaches (Err place) words next finish = finish ≡ trapped_with place words

-- An item was carried out: whatever follows goes on from the run behind it. There were at most so many iterations for each
-- of its bodies.
pub record Passes (setting : Setting) (item : Item) (most : ℕ) (result : Result (Unit {0}) Place) (old new : Run) : Type 0 where
  pub same : (bodies : List (List Stmt)) (first : ℕ) → Stand bodies first item.bodies → (go : List ℤ → Course)
      → Reaches result new.words.words (λ done. finish_of setting bodies (go new.scalars.present) new) (finish_of setting bodies (item.events first old.scalars.present go) old)
  pub sizes : new.words.sizes ≡ old.words.sizes
  pub few : new.number ≤ old.number + most * length item.bodies

-- how many bodies stand in arms
abbrev pub bodies_in : List Tested → ℕ
bodies_in [] = 0
bodies_in (arm ∷ arms) = length arm.bodies + bodies_in arms

-- what follows arms that stand from this number of a body on
abbrev pub after_arms : List Tested → Item → ℕ → List ℤ → (List ℤ → Course) → Bool → Course
after_arms arms other first scalars go true = go scalars
after_arms arms other first scalars go false = other.events (first + bodies_in arms) scalars go

-- arms were gone through, and the items of the first whose test isn't 0 were carried out
pub record PassesArms (setting : Setting) (arms : List Tested) (taken : Result Bool Place) (old new : Run) : Type 0 where
  pub same : (bodies : List (List Stmt)) (first : ℕ) (other : Item) → Stand bodies first (chosen arms other).bodies → (go : List ℤ → Course)
      → Reaches taken new.words.words (λ was. finish_of setting bodies (after_arms arms other first new.scalars.present go was) new) (finish_of setting bodies ((chosen arms other).events first old.scalars.present go) old)
  pub sizes : new.words.sizes ≡ old.words.sizes
  pub few : new.number ≤ old.number + most_turns * bodies_in arms

-- an iteration of a body was carried out, and only scalars of these names have changed
pub record Iterates (setting : Setting) (body : List Stmt) (names : List ℕ) (result : Result (Unit {0}) Place) (old new : Run) : Type 0 where
  pub same : (bodies : List (List Stmt)) (at : ℕ) → body_at bodies at ≡ body → (rest : Course)
      → Reaches result new.words.words (λ done. finish_of setting bodies rest new) (finish_of setting bodies (Iterate at old.scalars.present rest) old)
  pub sizes : new.words.sizes ≡ old.words.sizes
  pub few : new.number ≤ old.number + 1
  pub kept : KeepsOthers names old.scalars.present new.scalars.present
  pub aside : new.scalars.aside ≡ old.scalars.aside

-- the items of a list of statements, in order
abbrev pub items_in : Setting → List Stmt → Item
items_in setting stmts = in_order (map (item_of setting) stmts)

-- all iterations of an invocation whose bounds are known were carried out, and the scalars are what they were
pub record IteratesAll (setting : Setting) (invoked : Loop) (low : ℤ) (count : ℕ) (result : Result (Unit {0}) Place) (old new : Run) : Type 0 where
  pub same : (bodies : List (List Stmt)) (at : ℕ) → body_at bodies at ≡ invoked.body → (go : List ℤ → Course)
      → Reaches result new.words.words (λ done. finish_of setting bodies (go new.scalars.present) new)
      (finish_of setting bodies (iterations count 0 at (λ k. with_scalar old.scalars.present invoked.name (variable low invoked.step k)) old.scalars.present (go old.scalars.present)) old)
  pub sizes : new.words.sizes ≡ old.words.sizes
  pub few : new.number ≤ old.number + count

-- all turns of a region whose bounds are known were carried out
pub record PassesTurns (setting : Setting) (items : Item) (region : Loop) (low : ℤ) (count : ℕ) (result : Result (Unit {0}) Place) (old new : Run) : Type 0 where
  pub same : (bodies : List (List Stmt)) (first : ℕ) → Stand bodies first items.bodies → (go : List ℤ → Course)
      → Reaches result new.words.words (λ done. finish_of setting bodies (go new.scalars.present) new) (finish_of setting bodies (region_turns count 0 (variable low region.step) region.name (items.events first) old.scalars.present go) old)
  pub sizes : new.words.sizes ≡ old.words.sizes
  pub few : new.number ≤ old.number + count * (most_turns * length items.bodies)

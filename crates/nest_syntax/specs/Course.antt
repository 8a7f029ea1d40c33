-- What the scheduler does: the course of a program, a tree of its events. A body that an item invokes stands there as
-- its number; the scheduler carries out the other items.
use Rattle.std.specs.Prelude.{ℕ, zero, suc, ◌+◌, ℤ, pos, if◌then◌else◌, Result, Ok, Err, List, [], ◌∷◌, ◌++◌, map, length, replicate}
use Rattle.std.specs.List.{list_any}
use Rattle.nest_syntax.specs.declared.names.Line.{Line}
use Rattle.nest_syntax.specs.declared.operators.Cause.{Cause}
use Rattle.nest_syntax.specs.declared.tree.Expr.{Expr}
use Rattle.nest_syntax.specs.declared.tree.Stmt.{Stmt}
use Rattle.nest_syntax.specs.declared.tree.Stmt.TheVariants as stmt
use Rattle.nest_syntax.specs.declared.tree.Stmt.TheOpen.{Stmt-F, Arm-F, Loop-F}
use Rattle.nest_syntax.specs.declared.tree.Stmt.TheFolds.{para-Stmt, para-Arm, para-Loop}
use Rattle.nest_syntax.specs.declared.tree.Arm.{Arm}
use Rattle.nest_syntax.specs.declared.tree.Loop.{Loop}
use Rattle.nest_syntax.specs.declared.tree.Decl.{Decl}
use Rattle.nest_syntax.specs.declared.tree.Decl.TheVariants as decl
use Rattle.nest_syntax.specs.declared.tree.Program.{Program}
use Rattle.nest_syntax.specs.Words.{is_zero, operation_of, assigned, turns, counted, variable}
use Rattle.nest_syntax.specs.Arrays.{Array, arrays_of}
use Rattle.nest_syntax.specs.Value.{value, and_then, scalar_at, with_scalar, names_written}
pub use Rattle.nest_syntax.specs.Shape.{bodies_of}

-- what a computing event is for: the header of an invocation, or anything else
pub data Purpose : Type 0 where
  Ordinary : Purpose
  Header : Purpose

-- Each event but the last has the scalars before it; at an iteration its variable is among them.
pub data Course : Type 0 where
  End : Course  -- the end of the program
  Failed : Cause → Line → Course  -- the event before it trapped
  Scalar : Purpose → List ℤ → Course → Course  -- an event that computes with scalars and `const` words
  Drain : Purpose → List ℤ → (List ℤ → Course) → Course  -- one that reads written arrays, on the words at that moment
  Iterate : ℕ → List ℤ → Course → Course  -- an iteration of the body with this number
  Close : List ℤ → Course → Course  -- the end of an invocation

-- the arrays of a program, and the opening words: those of `const` arrays never change
pub record Setting : Type 0 where
  pub arrays : List Array
  pub words : List ℤ

-- goes on with what an event computed
abbrev pub computed : {A : Type 0} → Line → Result A Cause → (A → Course) → Course
computed line (Ok result) go = go result
computed line (Err cause) go = Failed cause line

-- An event that evaluates these expressions: a drain where one of them names a written array.
abbrev pub event : {A : Type 0} → Setting → Purpose → List ℤ → Line → List Expr → (List ℤ → Result A Cause) → (A → Course) → Course
event setting purpose scalars line exprs compute go = if list_any (names_written setting.arrays) exprs then Drain purpose scalars (λ words. computed line (compute words) go) else Scalar purpose scalars (computed line (compute setting.words) go)

-- What an item is: the bodies that it holds, in textual order, and its events. The events name bodies by number; they
-- are given the number of the item's first body, the scalars, and what follows the item.
pub record Item : Type 0 where
  pub bodies : List (List Stmt)
  pub events : ℕ → List ℤ → (List ℤ → Course) → Course

-- items one after the other
abbrev pub in_order : List Item → Item
in_order [] = record { bodies = []; events = λ first scalars go. go scalars }
in_order (item ∷ items) = let others = in_order items in record {
  bodies = item.bodies ++ others.bodies;
  events = λ first scalars go. item.events first scalars (λ after. others.events (first + length item.bodies) after go);
}

-- no body, and one event that computes new scalars
abbrev pub computing : Setting → Line → Expr → (List ℤ → List ℤ → Result (List ℤ) Cause) → Item
computing setting line expr compute = record {
  bodies = [];
  events = λ first scalars go. event setting Ordinary scalars line (expr ∷ []) (compute scalars) go;
}

-- the iterations of an invocation that are left, n from turn k on, and its end
abbrev pub iterations : ℕ → ℕ → ℕ → (ℕ → List ℤ) → List ℤ → Course → Course
iterations zero k body scalars_in scalars rest = Close scalars rest
iterations (suc n) k body scalars_in scalars rest = Iterate body (scalars_in k) (iterations n (suc k) body scalars_in scalars rest)

-- an arm: its test is an event of its own, then come its items or what the `if` does otherwise
pub record Tested : Type 0 where
  pub bodies : List (List Stmt)
  pub events : ℕ → List ℤ → Course → (List ℤ → Course) → Course

-- the first arm whose test isn't 0, or else the last block; the items behind the `if` follow without an event
abbrev pub chosen : List Tested → Item → Item
chosen [] other = other
chosen (arm ∷ arms) other = let others = chosen arms other in record {
  bodies = arm.bodies ++ others.bodies;
  events = λ first scalars go. arm.events first scalars (others.events (first + length arm.bodies) scalars go) go;
}

-- the turns of a region that are left, n from turn k on, each an event, and the event of leaving it
abbrev pub region_turns : ℕ → ℕ → (ℕ → ℤ) → ℕ → (List ℤ → (List ℤ → Course) → Course) → List ℤ → (List ℤ → Course) → Course
region_turns zero k variable_in name items scalars go = Scalar Ordinary scalars (go scalars)
region_turns (suc n) k variable_in name items scalars go = Scalar Ordinary scalars (items (with_scalar scalars name (variable_in k)) (λ after. region_turns n (suc k) variable_in name items after go))

-- a loop is an invocation where it stands among the items, and a region where it stands at depth 1
pub record Looped : Type 0 where
  pub invocation : Item
  pub region : Item

-- one layer of the three, where each part stands beside what it is among the items
abbrev pub Layer_of_stmt : Type 0
Layer_of_stmt = Stmt-F (Stmt × Item) (Arm × Tested) (Loop × Looped)

abbrev pub Layer_of_arm : Type 0
Layer_of_arm = Arm-F (Stmt × Item) (Arm × Tested) (Loop × Looped)

abbrev pub Layer_of_loop : Type 0
Layer_of_loop = Loop-F (Stmt × Item) (Arm × Tested) (Loop × Looped)

-- the low bound and the count of turns of a loop
abbrev pub bounds : List Array → Layer_of_loop → List ℤ → List ℤ → Result (ℤ × ℕ) Cause
bounds arrays l scalars words = and_then (value arrays scalars words l.low) (λ low. and_then (value arrays scalars words l.high) (λ high. and_then (counted (turns low high l.step l.through)) (λ count. Ok (low, count))))

abbrev pub items_of : List (Stmt × Item) → Item
items_of stmts = in_order (map (λ (s : Stmt × Item). s.1) stmts)

abbrev pub item_node : Setting → Layer_of_stmt → Item
item_node setting (Stmt-F.Declare line name expr) = computing setting line expr (λ scalars words. and_then (value setting.arrays scalars words expr) (λ new. Ok (with_scalar scalars name new)))
item_node setting (Stmt-F.Assign line name op expr) = computing setting line expr (λ scalars words. and_then (value setting.arrays scalars words expr) (λ right. and_then (assigned (operation_of op) (scalar_at scalars name) right) (λ new. Ok (with_scalar scalars name new))))
item_node setting (Stmt-F.Write line name place op expr) = record {
  bodies = (stmt.Write line name place op expr ∷ []) ∷ [];
  events = λ first scalars go. Scalar Header scalars (iterations 1 0 first (λ k. scalars) scalars (go scalars));
}
item_node setting (Stmt-F.If arms other) = chosen (map (λ (a : Arm × Tested). a.1) arms) (items_of other)
item_node setting (Stmt-F.Loop l) = l.1.invocation

abbrev pub tested_node : Setting → Layer_of_arm → Tested
tested_node setting arm = let items = items_of arm.body in record {
  bodies = items.bodies;
  events = λ first scalars otherwise go. event setting Ordinary scalars arm.line (arm.test ∷ []) (λ words. value setting.arrays scalars words arm.test) (λ test. if is_zero test then otherwise else items.events first scalars go);
}

abbrev pub looped_node : Setting → Layer_of_loop → Looped
looped_node setting l = let items = items_of l.body in record {
  invocation = record {
    bodies = map (λ (s : Stmt × Item). s.0) l.body ∷ [];
    events = λ first scalars go. event setting Header scalars l.line (l.low ∷ l.high ∷ []) (bounds setting.arrays l scalars) (λ b. iterations b.1 0 first (λ k. with_scalar scalars l.name (variable b.0 l.step k)) scalars (go scalars));
  };
  region = record {
    bodies = items.bodies;
    events = λ first scalars go. event setting Ordinary scalars l.line (l.low ∷ l.high ∷ []) (bounds setting.arrays l scalars) (λ b. region_turns b.1 0 (variable b.0 l.step) l.name (items.events first) scalars go);
  };
}

-- what a statement, an arm and a loop are among the items
abbrev pub item_of : Setting → Stmt → Item
item_of setting = para-Stmt Item Tested Looped (item_node setting) (tested_node setting) (looped_node setting)

abbrev pub tested_of : Setting → Arm → Tested
tested_of setting = para-Arm Item Tested Looped (item_node setting) (tested_node setting) (looped_node setting)

abbrev pub looped_of : Setting → Loop → Looped
looped_of setting = para-Loop Item Tested Looped (item_node setting) (tested_node setting) (looped_node setting)

abbrev pub region_of : Setting → Loop → Item
region_of setting l = (looped_of setting l).region

-- the scalars as the regions begin: 0, but for those that are declared with a value
abbrev pub declared_scalars : List Decl → List ℤ → List ℤ
declared_scalars [] scalars = scalars
declared_scalars (decl.Array line name length fixed ∷ decls) scalars = declared_scalars decls scalars
declared_scalars (decl.Scalar line name value ∷ decls) scalars = declared_scalars decls (with_scalar scalars name value)

abbrev pub opening_scalars : Program → List ℤ
opening_scalars program = declared_scalars program.decls (replicate (length program.names) (pos 0))

abbrev pub setting_of : Program → List ℤ → Setting
setting_of program words = record { arrays = arrays_of program.decls; words = words }

abbrev pub whole_of : Program → List ℤ → Item
whole_of program words = in_order (map (region_of (setting_of program words)) program.regions)

-- the course of a program on these opening words
abbrev pub course_of : Program → List ℤ → Course
course_of program words = (whole_of program words).events 0 (opening_scalars program) (λ after. End)

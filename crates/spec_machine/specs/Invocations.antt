-- A cursor that is read by invocations: at an iteration it hands out the whole invocation, with the number of its
-- iterations. Taken one event at a time it is a cursor as `settle_law` knows it, so what is said there of a nest holds.
use Rattle.std.specs.Prelude.{ℕ, zero, suc, ℤ, Option, List}
use Rattle.nest_syntax.specs.Course.{Purpose}
use Rattle.settle_law.specs.Courses.{Trap}
use Rattle.settle_law.specs.Courses as courses

-- the event at which a cursor stands, with the cursor behind it; a computing one has its trap, if it traps
pub data Event (B C : Type 0) : Type 0 where
  End : Event B C
  Scalar : Purpose → Option Trap → C → Event B C
  Drain : Purpose → (List ℤ → Option Trap) → (List ℤ → C) → Event B C
  Invoke : B → ℕ → C → Event B C  -- an invocation of so many iterations, with its end

-- a place among single events: at an event of the cursor, or before turn k of an invocation, with n turns left
pub data Within (B C : Type 0) : Type 0 where
  Outside : C → Within B C
  Inside : B → ℕ → ℕ → C → Within B C

-- the single events: iteration k of an invocation has the body `(b, k)`
abbrev pub inside : {B C : Type 0} → B → ℕ → ℕ → C → courses.Event (B × ℕ) (Within B C)
inside b k zero rest = courses.Close (Outside rest)
inside b k (suc n) rest = courses.Iterate (b, k) (Inside b (suc k) n rest)

abbrev pub single : {B C : Type 0} → Event B C → courses.Event (B × ℕ) (Within B C)
single End = courses.End
single (Scalar purpose trap rest) = courses.Scalar purpose trap (Outside rest)
single (Drain purpose trap rest) = courses.Drain purpose trap (λ words. Outside (rest words))
single (Invoke b n rest) = inside b 0 n rest

abbrev pub one_by_one : {B C : Type 0} → (C → Event B C) → Within B C → courses.Event (B × ℕ) (Within B C)
one_by_one event (Outside cursor) = single (event cursor)
one_by_one event (Inside b k n rest) = inside b k n rest

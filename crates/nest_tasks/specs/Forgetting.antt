-- A machine that forgets something of its pieces. What is forgotten decides no move, so each history leads through the same
-- states, but for what is forgotten.
use Rattle.std.specs.Prelude.{◌≡◌, ℕ, ℤ, List, map}
use Rattle.std.specs.Option.{option_map}
use Rattle.settle_law.specs.Tasks.{Stop, Loads, Stores, Goes, Finishes, Traps}
use Rattle.settle_law.specs.Runs.{run}
use Rattle.domore_machine.specs.Machine.{Setup, State, Seat, Hand, Idle, Holding, Ended, Move, DoScalar, DoClose, DoDrain, DoDispatch, DoHalt, DoTake, DoPass, DoRead, DoWrite, DoGo, DoFinish, DoTrap, DoDropHeld, DoDropQueued, DoEnd, opening, step}
use Rattle.domore_machine.specs.Runs.{trace_from}

abbrev pub forget_stop : {P Q : Type 0} → (P → Q) → Stop P → Stop Q
forget_stop f (Loads w next) = Loads w (λ value. f (next value))
forget_stop f (Stores w value next) = Stores w value (f next)
forget_stop f (Goes next) = Goes (f next)
forget_stop f Finishes = Finishes
forget_stop f (Traps cause line) = Traps cause line

-- the setup with pieces that forget: `stop` tells their stops
abbrev pub forget_setup : {B C P Q : Type 0} → (P → Q) → (Q → Stop Q) → Setup B C P → Setup B C Q
forget_setup f stop m = record {
  system = record { stop = stop; fuel = λ q. 0; fixed = m.system.fixed };
  event = m.event;
  entry = λ b. f (m.entry b);
  clashes = m.clashes;
  width = m.width;
  room = m.room;
}

abbrev pub forget_hand : {P Q : Type 0} → (P → Q) → Hand P → Hand Q
forget_hand f Idle = Idle
forget_hand f (Holding k left piece) = Holding k left (f piece)
forget_hand f Ended = Ended

abbrev pub forget_seat : {B P Q : Type 0} → (P → Q) → Seat B P → Seat B Q
forget_seat f seat = record { hand = forget_hand f seat.hand; queue = seat.queue; done = seat.done }

abbrev pub forget : {B C P Q : Type 0} → (P → Q) → State B C P → State B C Q
forget f s = record { words = s.words; cursor = s.cursor; next = s.next; seats = map (forget_seat f) s.seats; trap = s.trap; halted = s.halted; facts = s.facts }

abbrev pub forget_move : {B C P Q : Type 0} → (P → Q) → Move B C P → Move B C Q
forget_move f (DoScalar purpose trap rest) = DoScalar purpose trap rest
forget_move f (DoClose rest) = DoClose rest
forget_move f (DoDrain purpose trap rest) = DoDrain purpose trap rest
forget_move f (DoDispatch b rest) = DoDispatch b rest
forget_move f DoHalt = DoHalt
forget_move f (DoTake ticket queue) = DoTake ticket queue
forget_move f (DoPass k w left piece) = DoPass k w left (f piece)
forget_move f (DoRead k w next) = DoRead k w (λ value. f (next value))
forget_move f (DoWrite k w value next) = DoWrite k w value (f next)
forget_move f (DoGo k next) = DoGo k (f next)
forget_move f (DoFinish k) = DoFinish k
forget_move f (DoTrap k cause line) = DoTrap k cause line
forget_move f (DoDropHeld k) = DoDropHeld k
forget_move f (DoDropQueued ticket queue) = DoDropQueued ticket queue
forget_move f DoEnd = DoEnd

-- Each history leads where it leads without forgetting, and makes the same accesses.
abbrev pub ForgettingKeepsHistories : Type 0 → Type 0 → Type 0 → Type 0 → Type 0
ForgettingKeepsHistories B C P Q = (m : Setup B C P) (f : P → Q) (stop : Q → Stop Q) → ((p : P) → stop (f p) ≡ forget_stop f (m.system.stop p))
    → (history : List ℕ) (cursor : C) (words : List ℤ)
    → (run (step (forget_setup f stop m)) (opening (forget_setup f stop m) cursor words) history ≡ option_map (forget f) (run (step m) (opening m cursor words) history))
    × (trace_from (forget_setup f stop m) (opening (forget_setup f stop m) cursor words) history ≡ trace_from m (opening m cursor words) history)

-- A machine that forgets something of its pieces, and keeps signatures in place of notes. What is forgotten decides no
-- move, so each history leads through the same states, but for what is forgotten.
use Rattle.std.specs.Prelude.{◌≡◌, ℕ, ℤ, List, [], map}
use Rattle.std.specs.Option.{option_map}
use Rattle.settle_law.specs.Tasks.{Stop}
use Rattle.settle_law.specs.Runs.{run}
use Rattle.nest_tasks.specs.Forgetting.{forget_stop}
use Rattle.spec_machine.specs.Signatures.{Kind}
use Rattle.spec_machine.specs.Machine.{Setup, State, Seat, Hand, Idle, Empty, Running, Stopped, Move, DoScalar, DoDrain, DoOpen, DoClose, DoCommit, DoRestore, DoConclude, DoBegin, DoRead, DoWrite, DoGo, DoNext, DoFinish, DoFail, DoTrap, DoLetGo, DoStop, DoCheck, DoAbort, opening, step}
use Rattle.spec_machine.specs.Runs.{trace_from, rollbacks_from}
use Rattle.spec_tasks.specs.Notes.{Note, sign_of, by_notes}

-- the setup with pieces that forget: `stop` tells their stops
abbrev pub forget_setup : {B C P Q G : Type 0} → (P → Q) → (Q → Stop Q) → Setup B C P G → Setup B C Q G
forget_setup f stop m = record {
  system = record { stop = stop; fuel = λ q. 0; fixed = m.system.fixed };
  event = m.event;
  entry = λ b k. f (m.entry b k);
  doall = m.doall;
  absent = m.absent;
  kind = m.kind;
  width = m.width;
  room = m.room;
  far = m.far;
}

-- the setup with notes in place of signatures
abbrev pub with_notes : {B C P G : Type 0} → Setup B C P G → Setup B C P (List Note)
with_notes m = record {
  system = m.system;
  event = m.event;
  entry = m.entry;
  doall = m.doall;
  absent = m.absent;
  kind = by_notes m.kind;
  width = m.width;
  room = m.room;
  far = m.far;
}

abbrev pub forget_hand : {P Q : Type 0} → (P → Q) → Hand P → Hand Q
forget_hand f Idle = Idle
forget_hand f Empty = Empty
forget_hand f (Running k piece) = Running k (f piece)
forget_hand f Stopped = Stopped

abbrev pub forget_seat : {P Q G : Type 0} → (P → Q) → Kind G → Seat P (List Note) → Seat Q G
forget_seat f kind seat = record { hand = forget_hand f seat.hand; done = seat.done; seen = seat.seen; signs = map (sign_of kind) seat.signs }

abbrev pub forget : {B C P Q G : Type 0} → (P → Q) → Kind G → State B C P (List Note) → State B C Q G
forget f kind s = record {
  words = s.words;
  mark = s.mark;
  cursor = s.cursor;
  next = s.next;
  early = s.early;
  epochs = s.epochs;
  sealed = s.sealed;
  distance = s.distance;
  seats = map (forget_seat f kind) s.seats;
  passed = s.passed;
  abort = s.abort;
  trap = s.trap;
  concluded = s.concluded;
  facts = s.facts;
}

abbrev pub forget_move : {B C P Q : Type 0} → (P → Q) → Move B C P → Move B C Q
forget_move f (DoScalar purpose trap rest) = DoScalar purpose trap rest
forget_move f (DoDrain purpose trap rest) = DoDrain purpose trap rest
forget_move f (DoOpen b n rest) = DoOpen b n rest
forget_move f DoClose = DoClose
forget_move f DoCommit = DoCommit
forget_move f (DoRestore cause) = DoRestore cause
forget_move f DoConclude = DoConclude
forget_move f (DoBegin hand) = DoBegin (forget_hand f hand)
forget_move f (DoRead k w next) = DoRead k w (λ value. f (next value))
forget_move f (DoWrite k w value next) = DoWrite k w value (f next)
forget_move f (DoGo k next) = DoGo k (f next)
forget_move f (DoNext k piece) = DoNext k (f piece)
forget_move f DoFinish = DoFinish
forget_move f DoFail = DoFail
forget_move f (DoTrap k cause line) = DoTrap k cause line
forget_move f DoLetGo = DoLetGo
forget_move f DoStop = DoStop
forget_move f (DoCheck p) = DoCheck p
forget_move f (DoAbort p array) = DoAbort p array

-- Each history leads where it leads without forgetting, with the same accesses and rollbacks.
abbrev pub ForgettingKeepsHistories : Type 0 → Type 0 → Type 0 → Type 0 → Type 0 → Type 0
ForgettingKeepsHistories B C P Q G = (m : Setup B C P G) (f : P → Q) (stop : Q → Stop Q) → ((p : P) → stop (f p) ≡ forget_stop f (m.system.stop p))
    → (history : List ℕ) (cursor : C) (words : List ℤ)
    → (run (step (forget_setup f stop m)) (opening (forget_setup f stop m) cursor words) history ≡ option_map (forget f m.kind) (run (step (with_notes m)) (opening (with_notes m) cursor words) history))
    × (trace_from (forget_setup f stop m) (opening (forget_setup f stop m) cursor words) [] history ≡ trace_from (with_notes m) (opening (with_notes m) cursor words) [] history)
    × (rollbacks_from (forget_setup f stop m) (opening (forget_setup f stop m) cursor words) history ≡ rollbacks_from (with_notes m) (opening (with_notes m) cursor words) history)

-- The hops of a code, one after the other, against a cut turn.
use Rattle.std.specs.Prelude.{◌≡◌, ℕ, ℤ, pos, Option, Some, None, List, replicate}
use Rattle.settle_law.specs.Cuts.{Cut, Finished, Trapped, Reads, Writes, Pauses}
use Rattle.nest_syntax.specs.Arrays.{word_number}
use Rattle.task_hop.specs.declared.frame.Frame.{Frame}
use Rattle.task_hop.specs.declared.frame.Register.TheVariants as register
use Rattle.task_hop.specs.declared.stop.Stop.TheVariants as stop
use Rattle.task_hop.specs.Registers.{with_register}
use Rattle.task_hop.specs.Meaning.{Reached, meaning}
use Rattle.task_code.specs.declared.code.Instruction.{Instruction}
use Rattle.task_code.specs.Code.{hop_at}

-- where the hop at an address comes to
abbrev pub reached_from : List Instruction → ℕ → Frame → Reached
reached_from code at frame = meaning (hop_at code at) frame

-- Where a hop comes to is the cut turn's next stop, and from the address behind it, with the frame there, the hops make
-- the rest of the cut turn; behind a read, with the word read in its temporary, for any word.
abbrev pub Unfolds : List ℕ → List Instruction → Cut → Reached → Type 0
Unfolds sizes code Finished reached = reached.stop ≡ stop.Finish
Unfolds sizes code (Trapped cause line) reached = reached.stop ≡ stop.Trap cause line
Unfolds sizes code (Reads w go) reached = (array place into next : ℕ) × (reached.stop ≡ stop.Load array place into next) × (word_number sizes array place ≡ w) × ((value : ℤ) → Unfolds sizes code (go value) (reached_from code next (with_register reached.frame (register.Temporary into) value)))
Unfolds sizes code (Writes w value rest) reached = (array place next : ℕ) × (reached.stop ≡ stop.Store array place value next) × (word_number sizes array place ≡ w) × Unfolds sizes code rest (reached_from code next reached.frame)
Unfolds sizes code (Pauses rest) reached = (next : ℕ) × (reached.stop ≡ stop.Go next) × Unfolds sizes code rest (reached_from code next reached.frame)

-- the frame on which an iteration of a body begins: the scheduler's scalars, the invocation's variable where it has one,
-- and 0 in every other register
abbrev pub with_variable : Option ℕ → ℤ → Frame → Frame
with_variable None value frame = frame
with_variable (Some slot) value frame = with_register frame (register.Local slot) value

abbrev pub opening_frame : Option ℕ → ℤ → List ℤ → Frame
opening_frame slot value env = with_variable slot value (record { env = env; locals = replicate 16 (pos 0); temps = replicate 32 (pos 0) })

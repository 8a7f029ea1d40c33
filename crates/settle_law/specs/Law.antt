-- The commuting law: what steps in any interleaving say of textual order. It holds for any family of trees, the tree of
-- each iteration by its number, and any opening words. Behind the last iteration the family may be anything, as long as
-- the trace has no access there.
use Rattle.std.specs.Prelude.{◌≡◌, ℕ, zero, suc, ◌<◌, ◌≤◌, ◌⊎◌, ℤ, Option, Some, List, [], ◌∷◌, ◌++◌}
use Rattle.std.specs.Option.{option_and_then}
use Rattle.nest_syntax.specs.declared.names.Line.{Line}
use Rattle.nest_syntax.specs.declared.operators.Cause.{Cause}
use Rattle.nest_syntax.specs.Arrays.{word_at, with_word}
use Rattle.nest_syntax.specs.Reads.{Completed, Stopped}
use Rattle.nest_syntax.specs.Outcome.{completed}
use Rattle.settle_law.specs.Trees.{Tree, Finished, Trapped, Load, Store, turn}
use Rattle.settle_law.specs.Traces.{Access, Read, Write, iteration, Each, settle, Replays, InOrder, part, Fits, IsFinished, IsTrapped, Apart}

-- the accesses that iteration k makes alone on the words, as textual order carries it out
abbrev pub accesses : ℕ → Tree → List ℤ → List Access
accesses k Finished words = []
accesses k (Trapped cause line) words = []
accesses k (Load w go) words = Read k w (word_at words w) ∷ accesses k (go (word_at words w)) words
accesses k (Store w value rest) words = Write k w value ∷ accesses k rest (with_word words w value)

-- the words when n iterations are finished in textual order, where it gets so far
abbrev pub after : (ℕ → Tree) → List ℤ → ℕ → Option (List ℤ)
after family opening zero = Some opening
after family opening (suc n) = option_and_then (λ words. completed (turn (family n) words)) (after family opening n)

-- The premises, for a number m and a trace on the words when m iterations are finished.
pub record Lawful (family : ℕ → Tree) (opening : List ℤ) (m : ℕ) (words : List ℤ) (trace : List Access) : Type 0 where
  pub reached : after family opening m ≡ Some words
  pub replays : Replays words trace
  pub in_order : InOrder trace
  pub from_m : Each (λ a. m ≤ iteration a) trace
  pub fits : (k : ℕ) → Fits (family k) (part k trace)
  -- where an iteration has an access, each lower one from m on has a finished part or is apart from it
  pub guarded : Each (λ a. (j : ℕ) → m ≤ j → j < iteration a → IsFinished (family j) (part j trace) ⊎ Apart (family j) (family (iteration a))) trace

-- all parts of the iterations from m up to and without n are finished
abbrev pub FinishedParts : (ℕ → Tree) → ℕ → ℕ → List Access → Type 0
FinishedParts family m n trace = (k : ℕ) → m ≤ k → k < n → IsFinished (family k) (part k trace)

-- How a part agrees with the iteration in textual order, on the words that textual order reaches before it: it is what
-- the iteration makes first there; a finished part is all of it and ends in the same words, and so is a trapped one.
pub record Textual (tree : Tree) (k : ℕ) (words : List ℤ) (made : List Access) : Type 0 where
  pub prefix : (others : List Access) × (made ++ others ≡ accesses k tree words)
  pub finished : IsFinished tree made → (made ≡ accesses k tree words) × (turn tree words ≡ Completed (settle words made))
  pub trapped : (cause : Cause) (line : Line) → IsTrapped tree made cause line → (made ≡ accesses k tree words) × (turn tree words ≡ Stopped cause line (settle words made))

-- Each part is textual, for every iteration from m on that textual order reaches.
abbrev pub PartsAreTextual : Type 0
PartsAreTextual = (family : ℕ → Tree) (opening : List ℤ) (m : ℕ) (words : List ℤ) (trace : List Access) → Lawful family opening m words trace → (k : ℕ) (reached : List ℤ) → m ≤ k → after family opening k ≡ Some reached → Textual (family k) k reached (part k trace)

-- Where the parts up to n are finished, textual order gets there, whatever of later iterations is in the trace.
abbrev pub FinishedPartsReach : Type 0
FinishedPartsReach = (family : ℕ → Tree) (opening : List ℤ) (m : ℕ) (words : List ℤ) (trace : List Access) → Lawful family opening m words trace → (n : ℕ) → m ≤ n → FinishedParts family m n trace → (reached : List ℤ) × (after family opening n ≡ Some reached)

-- Where the parts up to n are finished and there is no other access, the trace settles to the words of textual order.
abbrev pub FinishedPartsSettle : Type 0
FinishedPartsSettle = (family : ℕ → Tree) (opening : List ℤ) (m : ℕ) (words : List ℤ) (trace : List Access) → Lawful family opening m words trace → (n : ℕ) → m ≤ n → FinishedParts family m n trace → Each (λ a. iteration a < n) trace → after family opening n ≡ Some (settle words trace)

-- Where the parts up to n are finished, each of them is all that textual order makes there.
abbrev pub FinishedPartsAreWhole : Type 0
FinishedPartsAreWhole = (family : ℕ → Tree) (opening : List ℤ) (m : ℕ) (words : List ℤ) (trace : List Access) → Lawful family opening m words trace → (n : ℕ) → FinishedParts family m n trace → (k : ℕ) → m ≤ k → k < n → (reached : List ℤ) × (after family opening k ≡ Some reached) × (part k trace ≡ accesses k (family k) reached)

-- Where the part of n is trapped behind finished ones, textual order gets to n and traps there in the same way. Where
-- there is no access of a later iteration, the trace settles to the words of that trap.
abbrev pub TrappedPartIsTextual : Type 0
TrappedPartIsTextual = (family : ℕ → Tree) (opening : List ℤ) (m : ℕ) (words : List ℤ) (trace : List Access) → Lawful family opening m words trace → (n : ℕ) (cause : Cause) (line : Line) → m ≤ n → FinishedParts family m n trace → IsTrapped (family n) (part n trace) cause line → (reached : List ℤ) × (after family opening n ≡ Some reached) × (turn (family n) reached ≡ Stopped cause line (settle reached (part n trace))) × (Each (λ a. iteration a ≤ n) trace → settle reached (part n trace) ≡ settle words trace)

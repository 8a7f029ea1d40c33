-- Traces: the accesses that iterations make to words of written arrays, oldest first, however their steps interleave.
use Rattle.std.specs.Prelude.{◌≡◌, ℕ, ◌≤◌, ℤ, Bool, true, false, List, [], ◌∷◌, nat_le, ◌==◌}
use Rattle.nest_syntax.specs.Arrays.{word_at, with_word}
use Rattle.nest_syntax.specs.declared.names.Line.{Line}
use Rattle.nest_syntax.specs.declared.operators.Cause.{Cause}
use Rattle.settle_law.specs.Trees.{Tree, Finished, Trapped, Load, Store}

-- an access of an iteration: its number, the number of the word, and the value read or written
pub data Access : Type 0 where
  Read : ℕ → ℕ → ℤ → Access
  Write : ℕ → ℕ → ℤ → Access

-- the number of the iteration
abbrev pub iteration : Access → ℕ
iteration (Read k w value) = k
iteration (Write k w value) = k

abbrev pub Each : (Access → Type 0) → List Access → Type 0
Each P [] = Unit {0}
Each P (a ∷ trace) = P a × Each P trace

-- the words behind an access
abbrev pub apply : List ℤ → Access → List ℤ
apply words (Read k w value) = words
apply words (Write k w value) = with_word words w value

-- the words behind a trace: each word has the value of its last write, or its old one
abbrev pub settle : List ℤ → List Access → List ℤ
settle words [] = words
settle words (a ∷ trace) = settle (apply words a) trace

-- a read has the value that the word has
abbrev pub Sees : List ℤ → Access → Type 0
Sees words (Read k w value) = word_at words w ≡ value
Sees words (Write k w value) = Unit {0}

-- A trace replays from these words: each read has the value of the last write of its word before, or the word's own.
abbrev pub Replays : List ℤ → List Access → Type 0
Replays words [] = Unit {0}
Replays words (a ∷ trace) = Sees words a × Replays (apply words a) trace

-- two accesses conflict where they are to one word and one of them writes it
abbrev pub Conflict : Access → Access → Type 0
Conflict (Read j w value) (Read k u other) = ⊥
Conflict (Read j w value) (Write k u other) = w ≡ u
Conflict (Write j w value) (Read k u other) = w ≡ u
Conflict (Write j w value) (Write k u other) = w ≡ u

-- what holds of each access and each later one
abbrev pub Pairs : (Access → Access → Type 0) → List Access → Type 0
Pairs R [] = Unit {0}
Pairs R (a ∷ trace) = Each (R a) trace × Pairs R trace

-- A trace is in order where, of any two conflicting accesses, the one of the lower iteration stands first.
abbrev pub InOrder : List Access → Type 0
InOrder trace = Pairs (λ a b. Conflict a b → iteration a ≤ iteration b) trace

abbrev pub keep : Bool → Access → List Access → List Access
keep true a trace = a ∷ trace
keep false a trace = trace

-- the accesses of iteration k
abbrev pub part : ℕ → List Access → List Access
part k [] = []
part k (a ∷ trace) = keep (iteration a == k) a (part k trace)

-- the accesses of the iterations from k on
abbrev pub behind : ℕ → List Access → List Access
behind k [] = []
behind k (a ∷ trace) = keep (nat_le k (iteration a)) a (behind k trace)

-- The tree makes these accesses, in their order and with these values read, and `rest` is what is left of it.
abbrev pub Makes : Tree → List Access → Tree → Type 0
Makes tree [] rest = tree ≡ rest
Makes (Load w go) (Read k u value ∷ made) rest = (w ≡ u) × Makes (go value) made rest
Makes (Store w new tree) (Write k u value ∷ made) rest = (w ≡ u) × (new ≡ value) × Makes tree made rest
Makes _ _ rest = ⊥

-- a part fits its iteration: it is what the iteration makes first, with these values read
abbrev pub Fits : Tree → List Access → Type 0
Fits tree made = (rest : Tree) × Makes tree made rest

-- the part is all that the iteration makes, up to its end
abbrev pub IsFinished : Tree → List Access → Type 0
IsFinished tree made = Makes tree made Finished

-- the part is all that the iteration makes, up to its trap
abbrev pub IsTrapped : Tree → List Access → Cause → Line → Type 0
IsTrapped tree made cause line = Makes tree made (Trapped cause line)

-- two iterations are apart where no access of the one conflicts with one of the other, whatever they read
abbrev pub Apart : Tree → Tree → Type 0
Apart tree other = (made others : List Access) → Fits tree made → Fits other others → Each (λ a. Each (λ b. Conflict a b → ⊥) others) made

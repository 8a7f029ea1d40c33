-- The same things in the words of turns: what a turn does on words or on a list of reads, against its plain tree.
use Rattle.std.specs.Prelude.{◌≡◌, ℕ, ◌<◌, ◌-◌, ℤ, Bool, true, false, if◌then◌else◌, nat_lt, Option, Some, None, IsSome, ◌↔◌, List, [], ◌∷◌, ◌++◌, map}
use Rattle.std.specs.Option.{option_map}
use Rattle.nest_syntax.specs.declared.names.Line.{Line}
use Rattle.nest_syntax.specs.declared.operators.Cause.{Cause}
use Rattle.nest_syntax.specs.declared.tree.Program.{Program}
use Rattle.nest_syntax.specs.Arrays.{Array, arrays_of, sizes_of, is_fixed, word_number, word_at}
use Rattle.nest_syntax.specs.Turn.{Turn, Finished, Trapped, Load, Store, Op, Go}
use Rattle.nest_syntax.specs.Inside.{StaysInside}
use Rattle.nest_syntax.specs.Reads.{Reading, Stop, Finishes, Traps, More, on_words, on_reads, accesses_on}
use Rattle.nest_syntax.specs.Reads as reads
use Rattle.nest_syntax.specs.Outcome.{after as program_after, ending, iteration_turn, events_of, accesses_of}
use Rattle.settle_law.specs.Trees.{Tree, turn}
use Rattle.settle_law.specs.Trees as tree
use Rattle.settle_law.specs.Cuts.{cut, plain_turn, CanBeRead, HoldsFixed}
use Rattle.settle_law.specs.Traces.{Access, Read, Write, Each, Conflict, Makes, Apart}
use Rattle.settle_law.specs.Law.{accesses, after}
use Rattle.settle_law.specs.Claims.{Claims, Within, Covers}
use Rattle.settle_law.specs.Tasks.{System, Realises}
use Rattle.settle_law.specs.Courses.{Event, Follows, Nest, nest_of, events, iteration_at, reached, cut_at, family_of, outcome}

-- an access without the number of its iteration, and one with it
abbrev pub bare : Access → reads.Access
bare (Read k w value) = reads.Read w value
bare (Write k w value) = reads.Write w value

abbrev pub of_iteration : ℕ → reads.Access → Access
of_iteration k (reads.Read w value) = Read k w value
of_iteration k (reads.Write w value) = Write k w value

-- the values read, in order
abbrev pub values_read : List Access → List ℤ
values_read [] = []
values_read (Read k w value ∷ made) = value ∷ values_read made
values_read (Write k w value ∷ made) = values_read made

-- no word that is told is written, on any path that it can take
abbrev pub KeepsFixed : List ℕ → (ℕ → Option ℤ) → Turn → Type 0
KeepsFixed sizes fixed Finished = Unit {0}
KeepsFixed sizes fixed (Trapped cause line) = Unit {0}
KeepsFixed sizes fixed (Load array place go) = (value : ℤ) → CanBeRead (fixed (word_number sizes array place)) value → KeepsFixed sizes fixed (go value)
KeepsFixed sizes fixed (Store array place value rest) = (fixed (word_number sizes array place) ≡ None) × KeepsFixed sizes fixed rest
KeepsFixed sizes fixed (Op rest) = KeepsFixed sizes fixed rest
KeepsFixed sizes fixed (Go rest) = KeepsFixed sizes fixed rest

-- what is told of a word: its value where its array is `const`
abbrev pub told : Bool → ℤ → Option ℤ
told true value = Some value
told false value = None

-- the number of the word at a place of an array
abbrev pub number_in : List Array → ℕ → ℕ → ℕ
number_in arrays array place = word_number (sizes_of arrays) array place

-- what is told of each word that the turn reads or writes is right by its array, on any path that it can take
abbrev pub TellsFixed : List Array → (ℕ → Option ℤ) → List ℤ → Turn → Type 0
TellsFixed arrays fixed words Finished = Unit {0}
TellsFixed arrays fixed words (Trapped cause line) = Unit {0}
TellsFixed arrays fixed words (Load array place go) = (fixed (number_in arrays array place) ≡ told (is_fixed arrays array) (word_at words (number_in arrays array place))) × ((value : ℤ) → CanBeRead (fixed (number_in arrays array place)) value → TellsFixed arrays fixed words (go value))
TellsFixed arrays fixed words (Store array place value rest) = (fixed (number_in arrays array place) ≡ None) × TellsFixed arrays fixed words rest
TellsFixed arrays fixed words (Op rest) = TellsFixed arrays fixed words rest
TellsFixed arrays fixed words (Go rest) = TellsFixed arrays fixed words rest

-- whether a word, by its number over all arrays, is one of a `const` array
abbrev pub is_fixed_word : List Array → ℕ → Bool
is_fixed_word [] w = false
is_fixed_word (a ∷ arrays) w = if nat_lt w a.size then a.fixed else is_fixed_word arrays (w - a.size)

-- the `const` words of a job have their opening values
abbrev pub fixed_in : List Array → List ℤ → ℕ → Option ℤ
fixed_in arrays words w = told (is_fixed_word arrays w) (word_at words w)

-- A turn on the words is the plain tree of its cut turn on the words, in how it ends.
abbrev pub TurnIsTree : Type 0
TurnIsTree = (sizes : List ℕ) (fixed : ℕ → Option ℤ) (t : Turn) (words : List ℤ) → KeepsFixed sizes fixed t → HoldsFixed fixed words → on_words sizes t words ≡ turn (plain_turn sizes fixed t) words

-- And in the accesses that it makes.
abbrev pub AccessesAreTree : Type 0
AccessesAreTree = (arrays : List Array) (fixed : ℕ → Option ℤ) (opening : List ℤ) (t : Turn) (k : ℕ) (words : List ℤ) → TellsFixed arrays fixed opening t → HoldsFixed fixed words → map (of_iteration k) (accesses_on arrays t words) ≡ accesses k (plain_turn (sizes_of arrays) fixed t) words

-- the tree that a turn on reads leaves
abbrev pub LeftAt : Stop → Tree → Type 0
LeftAt Finishes rest = rest ≡ tree.Finished
LeftAt (Traps cause line) rest = rest ≡ tree.Trapped cause line
LeftAt More rest = (w : ℕ) × (go : ℤ → Tree) × (rest ≡ tree.Load w go)

-- What a turn on reads makes, its plain tree makes, and is left where the turn ends.
abbrev pub ReadsAreMade : Type 0
ReadsAreMade = (arrays : List Array) (fixed : ℕ → Option ℤ) (words : List ℤ) (t : Turn) (k : ℕ) (read : List ℤ) → TellsFixed arrays fixed words t → (rest : Tree) × LeftAt (on_reads arrays words t read).stop rest × Makes (plain_turn (sizes_of arrays) fixed t) (map (of_iteration k) (on_reads arrays words t read).accesses) rest

-- What a plain tree makes, the turn on the values read makes first. A part up to the end or a trap is all that it makes,
-- and the turn ends so.
pub record MadeAsRead (rest : Tree) (made : List Access) (reading : Reading) : Type 0 where
  pub prefix : (others : List reads.Access) × (map bare made ++ others ≡ reading.accesses)
  pub finished : rest ≡ tree.Finished → (map bare made ≡ reading.accesses) × (reading.stop ≡ Finishes)
  pub trapped : (cause : Cause) (line : Line) → rest ≡ tree.Trapped cause line → (map bare made ≡ reading.accesses) × (reading.stop ≡ Traps cause line)

abbrev pub MadeIsRead : Type 0
MadeIsRead = (arrays : List Array) (fixed : ℕ → Option ℤ) (words : List ℤ) (t : Turn) (made : List Access) (rest : Tree) → TellsFixed arrays fixed words t → Makes (plain_turn (sizes_of arrays) fixed t) made rest → MadeAsRead rest made (on_reads arrays words t (values_read made))

-- two turns are apart by what they make on any lists of reads
abbrev pub ReadsApart : List Array → List ℤ → Turn → Turn → Type 0
ReadsApart arrays words t other = (read others : List ℤ) → Each (λ a. Each (λ b. Conflict a b → ⊥) (map (of_iteration 1) (on_reads arrays words other others).accesses)) (map (of_iteration 0) (on_reads arrays words t read).accesses)

-- It is the same for turns as for their plain trees.
abbrev pub ReadsApartAreApart : Type 0
ReadsApartAreApart = (arrays : List Array) (fixed : ℕ → Option ℤ) (words : List ℤ) (t other : Turn) → TellsFixed arrays fixed words t → TellsFixed arrays fixed words other → ReadsApart arrays words t other ↔ Apart (plain_turn (sizes_of arrays) fixed t) (plain_turn (sizes_of arrays) fixed other)

-- the claims cover each access that the turn makes on any list of reads
abbrev pub ReadsWithin : List Array → List ℤ → Claims → Turn → Type 0
ReadsWithin arrays words claims t = (read : List ℤ) → Each (Covers claims) (map (of_iteration 0) (on_reads arrays words t read).accesses)

-- Such claims hold the plain tree, and no others do.
abbrev pub ReadsWithinAreWithin : Type 0
ReadsWithinAreWithin = (arrays : List Array) (fixed : ℕ → Option ℤ) (words : List ℤ) (claims : Claims) (t : Turn) → TellsFixed arrays fixed words t → ReadsWithin arrays words claims t ↔ Within claims (plain_turn (sizes_of arrays) fixed t)

-- The claims hold the turn: on any path that it can take, each read of a word that isn't told is claimed, and each write.
abbrev pub WithinTurn : List ℕ → (ℕ → Option ℤ) → Claims → Turn → Type 0
WithinTurn sizes fixed claims Finished = Unit {0}
WithinTurn sizes fixed claims (Trapped cause line) = Unit {0}
WithinTurn sizes fixed claims (Load array place go) = (fixed (word_number sizes array place) ≡ None → claims.read (word_number sizes array place) ≡ true) × ((value : ℤ) → CanBeRead (fixed (word_number sizes array place)) value → WithinTurn sizes fixed claims (go value))
WithinTurn sizes fixed claims (Store array place value rest) = (claims.written (word_number sizes array place) ≡ true) × WithinTurn sizes fixed claims rest
WithinTurn sizes fixed claims (Op rest) = WithinTurn sizes fixed claims rest
WithinTurn sizes fixed claims (Go rest) = WithinTurn sizes fixed claims rest

-- They are those that hold its plain tree.
abbrev pub WithinTurnIsWithin : Type 0
WithinTurnIsWithin = (sizes : List ℕ) (fixed : ℕ → Option ℤ) (claims : Claims) (t : Turn) → WithinTurn sizes fixed claims t ↔ Within claims (plain_turn sizes fixed t)

-- For a turn that stays inside its arrays, the opening words tell rightly.
abbrev pub InsideTurnsTell : Type 0
InsideTurnsTell = (arrays : List Array) (words : List ℤ) → HoldsFixed (fixed_in arrays words) words × ((t : Turn) → StaysInside arrays t → TellsFixed arrays (fixed_in arrays words) words t)

-- A turn that tells rightly writes no word that is told, and neither does one whose cut turn is realised.
abbrev pub TellingTurnsKeep : Type 0
TellingTurnsKeep = (arrays : List Array) (fixed : ℕ → Option ℤ) (words : List ℤ) (t : Turn) → TellsFixed arrays fixed words t → KeepsFixed (sizes_of arrays) fixed t

abbrev pub RealisedTurnsKeep : Type 0 → Type 0
RealisedTurnsKeep P = (sys : System P) (sizes : List ℕ) (t : Turn) (piece : P) → Realises sys (cut sizes 0 t) piece → KeepsFixed sizes sys.fixed t

-- no iteration of the nest writes a word that is told
abbrev pub NestKeepsFixed : (ℕ → Option ℤ) → Nest → Type 0
NestKeepsFixed fixed nest = (k : ℕ) (i : ℕ × List ℤ) → iteration_at nest k ≡ Some i → KeepsFixed nest.sizes fixed (nest.turn i.0 i.1)

-- each body that is handed out, which is one of an iteration of the nest, begins with a piece that realises its cut turn
abbrev pub BodiesBegin : {B P : Type 0} → System P → Nest → (B → ℕ × List ℤ) → (B → P) → Type 0
BodiesBegin {B} {P} sys nest what entry = (b : B) (k : ℕ) → iteration_at nest k ≡ Some (what b) → Realises sys (cut_at nest (what b)) (entry b)

-- A nest keeps its `const` words where a cursor follows its course and the bodies that are handed out begin so.
abbrev pub FollowedNestsKeep : Type 0 → Type 0 → Type 0 → Type 0
FollowedNestsKeep B C P = (sys : System P) (nest : Nest) (what : B → ℕ × List ℤ) (entry : B → P) (event : C → Event B C) (cursor : C) → BodiesBegin sys nest what entry → Follows nest what event cursor nest.course → NestKeepsFixed sys.fixed nest

-- The words that textual order reaches are those of the law, for the family of the nest, and the told words keep their
-- values.
abbrev pub ReachedIsAfter : Type 0
ReachedIsAfter = (fixed : ℕ → Option ℤ) (nest : Nest) → HoldsFixed fixed nest.opening → NestKeepsFixed fixed nest → (n : ℕ) (words : List ℤ) → reached nest n ≡ Some words → (after (family_of fixed nest) nest.opening n ≡ Some words) × HoldsFixed fixed words

-- And the other way round, up to the last iteration.
abbrev pub AfterIsReached : Type 0
AfterIsReached = (fixed : ℕ → Option ℤ) (nest : Nest) → HoldsFixed fixed nest.opening → NestKeepsFixed fixed nest → (n : ℕ) → ((k : ℕ) → k < n → IsSome (iteration_at nest k)) → after (family_of fixed nest) nest.opening n ≡ reached nest n

-- A program and its nest: what its iterations do, the words that it reaches, its events and its outcome.
pub record SameAsNest (program : Program) (words : List ℤ) : Type 0 where
  pub turns : (k : ℕ) → iteration_turn program words k ≡ option_map (λ (i : ℕ × List ℤ). (nest_of program words).turn i.0 i.1) (iteration_at (nest_of program words) k)
  pub reaches : (n : ℕ) → program_after program words n ≡ reached (nest_of program words) n
  pub all_events : events_of program words ≡ events (nest_of program words)
  pub ends : ending program words ≡ outcome (nest_of program words)

abbrev pub ProgramIsNest : Type 0
ProgramIsNest = (program : Program) (words : List ℤ) → SameAsNest program words

-- The accesses of an iteration of a program in textual order are those of the law for the family of its nest.
abbrev pub ProgramAccesses : Type 0
ProgramAccesses = (program : Program) (words : List ℤ) (fixed : ℕ → Option ℤ) (k : ℕ) (t : Turn) (before : List ℤ) → iteration_turn program words k ≡ Some t → TellsFixed (arrays_of program.decls) fixed words t → program_after program words k ≡ Some before → HoldsFixed fixed before → option_map (map (of_iteration k)) (accesses_of program words k) ≡ Some (accesses k (family_of fixed (nest_of program words) k) before)

-- Turns whose accesses all have a property, and turns that are apart by it.
use Rattle.std.proofs.Common.{◌≡◌, ℕ, ◌<◌, ℤ, pos, Bool, true, false, ◌||◌, if◌then◌else◌, Option, Some, None, Result, Ok, Err, List, [], ◌∷◌, map, slice_index_or, refl, sym, ap, ◌∙◌}
use Rattle.nest_syntax.specs.declared.names.Line.{Line}
use Rattle.nest_syntax.specs.declared.operators.Cause.{Cause}
use Rattle.nest_syntax.specs.Arrays.{Array, is_fixed, sizes_of, word_number, word_at}
use Rattle.nest_syntax.specs.Turn.{Turn, Finished, Trapped, Load, Store, Op, Go, done_with, inside}
use Rattle.nest_syntax.specs.Inside.{StaysInside}
use Rattle.nest_syntax.specs.Reads.{Reading, on_reads, with_access, More}
use Rattle.nest_syntax.specs.Reads as reads
use Rattle.settle_law.specs.Traces.{Access, Read, Write, Each, Conflict}
use Rattle.settle_law.specs.Reading.{of_iteration, number_in, ReadsApart}

-- what is said of an access: the number of its array, its place, and whether it writes
abbrev pub Claim : Type 1
Claim = ℕ → ℕ → Bool → Type 0

module _ (arrays : List Array) (P : Claim) where
  abbrev pub Touches : Turn → Type 0
  Touches Finished = Unit {0}
  Touches (Trapped cause line) = Unit {0}
  Touches (Load array place go) = (is_fixed arrays array ≡ false → P array place false) × ((value : ℤ) → Touches (go value))
  Touches (Store array place value rest) = (is_fixed arrays array ≡ false → P array place true) × Touches rest
  Touches (Op rest) = Touches rest
  Touches (Go rest) = Touches rest

  pub if-touches : (b : Bool) (x y : Turn) → Touches x → Touches y → Touches (if b then x else y)
  if-touches true x y a b = a
  if-touches false x y a b = b

  pub done-touches : (line : Line) (r : Result ℤ Cause) (go : ℤ → Turn) → ((x : ℤ) → r ≡ Ok x → Touches (go x)) → Touches (done_with line r go)
  done-touches line (Ok x) go h = h x refl
  done-touches line (Err cause) go h = tt

  -- a place of an array
  abbrev pub IsPlace : ℕ → ℕ → Type 0
  IsPlace array place = place < slice_index_or (sizes_of arrays) array 0

  -- an access of a turn on reads has the property
  abbrev pub IsTouched : Access → Type 0
  IsTouched (Read k w value) = (array : ℕ) × (place : ℕ) × (w ≡ number_in arrays array place) × IsPlace array place × P array place false
  IsTouched (Write k w value) = (array : ℕ) × (place : ℕ) × (w ≡ number_in arrays array place) × IsPlace array place × P array place true

  abbrev AllTouched : ℕ → Reading → Type 0
  AllTouched k reading = Each IsTouched (map (of_iteration k) reading.accesses)

  by_fixed : (k : ℕ) (b : Bool) (known unknown : Reading) → AllTouched k known → (b ≡ false → AllTouched k unknown) → AllTouched k (if b then known else unknown)
  by_fixed k true known unknown first second = first
  by_fixed k false known unknown first second = second refl

  pub touched : (k : ℕ) (words : List ℤ) (t : Turn) (read : List ℤ) → StaysInside arrays t → Touches t → AllTouched k (on_reads arrays words t read)
  touched k words Finished read stays all = tt
  touched k words (Trapped cause line) read stays all = tt
  touched k words (Load array place go) [] stays all =
      by_fixed k (is_fixed arrays array) (on_reads arrays words (go (word_at words (word_number (sizes_of arrays) array place))) []) (record { accesses = []; stop = More })
      (touched k words (go (word_at words (word_number (sizes_of arrays) array place))) [] (stays.1 (word_at words (word_number (sizes_of arrays) array place))) (all.1 (word_at words (word_number (sizes_of arrays) array place))))
      (λ is. tt)
  touched k words (Load array place go) (value ∷ read) stays all =
      by_fixed k (is_fixed arrays array) (on_reads arrays words (go (word_at words (word_number (sizes_of arrays) array place))) (value ∷ read)) (with_access (reads.Read (word_number (sizes_of arrays) array place) value) (on_reads arrays words (go value) read))
      (touched k words (go (word_at words (word_number (sizes_of arrays) array place))) (value ∷ read) (stays.1 (word_at words (word_number (sizes_of arrays) array place))) (all.1 (word_at words (word_number (sizes_of arrays) array place))))
      (λ is. ((array, place, refl, stays.0, all.0 is), touched k words (go value) read (stays.1 value) (all.1 value)))
  touched k words (Store array place value rest) read stays all = ((array, place, refl, stays.0, all.0 stays.1), touched k words rest read stays.2 all.1)
  touched k words (Op rest) read stays all = touched k words rest read stays all
  touched k words (Go rest) read stays all = touched k words rest read stays all

-- two turns are apart where no two accesses with these properties meet in a word, one of them a write
module _ (arrays : List Array) (P Q : Claim) (never : (array place other there : ℕ) (first second : Bool) → IsPlace arrays P array place → IsPlace arrays Q other there → P array place first → Q other there second → (first || second) ≡ true → number_in arrays array place ≡ number_in arrays other there → ⊥) where
  apart_two : (a b : Access) → IsTouched arrays P a → IsTouched arrays Q b → Conflict a b → ⊥
  apart_two (Read j w value) (Read k u other) p q clash = clash
  apart_two (Read j w value) (Write k u other) p q clash = never p.0 p.1 q.0 q.1 false true p.3 q.3 p.4 q.4 refl (sym p.2 ∙ clash ∙ q.2)
  apart_two (Write j w value) (Read k u other) p q clash = never p.0 p.1 q.0 q.1 true false p.3 q.3 p.4 q.4 refl (sym p.2 ∙ clash ∙ q.2)
  apart_two (Write j w value) (Write k u other) p q clash = never p.0 p.1 q.0 q.1 true true p.3 q.3 p.4 q.4 refl (sym p.2 ∙ clash ∙ q.2)

  apart_one : (a : Access) (others : List Access) → IsTouched arrays P a → Each (IsTouched arrays Q) others → Each (λ b. Conflict a b → ⊥) others
  apart_one a [] p all = tt
  apart_one a (b ∷ others) p all = (apart_two a b p all.0, apart_one a others p all.1)

  apart_all : (made others : List Access) → Each (IsTouched arrays P) made → Each (IsTouched arrays Q) others → Each (λ a. Each (λ b. Conflict a b → ⊥) others) made
  apart_all [] others all more = tt
  apart_all (a ∷ made) others all more = (apart_one a others all.0 more, apart_all made others all.1 more)

  pub reads_apart : (words : List ℤ) (t other : Turn) → StaysInside arrays t → StaysInside arrays other → Touches arrays P t → Touches arrays Q other → ReadsApart arrays words t other
  reads_apart words t other stays stays' first second = λ read others.
      apart_all (map (of_iteration 0) (on_reads arrays words t read).accesses) (map (of_iteration 1) (on_reads arrays words other others).accesses) (touched arrays P 0 words t read stays first) (touched arrays Q 1 words other others stays' second)

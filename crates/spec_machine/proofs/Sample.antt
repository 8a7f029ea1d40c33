-- The definitions on a small nest, computed: two workers, two epochs, exact signatures. A task reads a stale word, the
-- overlap is found, the segment is restored, run again in order, and committed. The setup keeps the premises of the laws.
use Rattle.std.proofs.Common.{◌≡◌, ℕ, zero, suc, ◌⊎◌, ℤ, pos, ◌+ℤ◌, Bool, true, false, ◌||◌, if◌then◌else◌, ◌==◌, Option, Some, None, IsSome, List, [], ◌∷◌, ◌++◌, slice_index_or, refl, sym, subst, inl, inr, ⊎_elim, arith}
use Rattle.std.proofs.lemmas.Bool.{true≢false, or_left, or_right, or_cases, eqb-true, eq-eqb}
use Rattle.std.specs.List.{list_any}
use Rattle.nest_syntax.specs.Turn.{Turn}
use Rattle.nest_syntax.specs.Turn as turn
use Rattle.nest_syntax.specs.Course.{Purpose, Ordinary, Header, Course}
use Rattle.nest_syntax.specs.Course as course
use Rattle.nest_syntax.specs.Outcome.{Done}
use Rattle.settle_law.specs.Traces.{Read, Write}
use Rattle.settle_law.specs.Trees.{Tree}
use Rattle.settle_law.specs.Trees as tree
use Rattle.settle_law.specs.Claims.{Claims, Within}
use Rattle.settle_law.specs.Tasks.{Stop, Loads, Stores, Finishes, System}
use Rattle.settle_law.specs.Courses.{Nest, family_of, outcome}
use Rattle.settle_law.specs.Runs.{run}
use Rattle.settle_law.specs.Reading.{BodiesBegin}
use Rattle.spec_machine.specs.Invocations.{Event, End, Scalar, Invoke}
use Rattle.spec_machine.specs.Signatures.{Kind, ClashAt, IsKind, Holds}
use Rattle.spec_machine.specs.Facts.{Overlaps}
use Rattle.spec_machine.specs.Machine.{Setup, State, opening, step, pair_of}
use Rattle.spec_machine.specs.Runs.{trace_from, is_finished, ending_of}
use Rattle.spec_machine.specs.Segments.{segments}
use Rattle.spec_machine.specs.Theorems.{words_of, IsSetupFor, Completes}
use Rattle.spec_machine.specs.Measure.{measure, bound}
use Rattle.spec_machine.proofs.Runs.{ends}

-- exact signatures: the words read and the words written
record Sign : Type 0 where
  pub reads : List ℕ
  pub writes : List ℕ

abbrev has : List ℕ → ℕ → Bool
has words w = list_any (λ u. u == w) words

abbrev meet : List ℕ → List ℕ → Bool
meet words others = list_any (has others) words

abbrev overlap_at : Sign → Sign → Option ℕ
overlap_at sign other = if meet sign.writes (other.reads ++ other.writes) || meet sign.reads other.writes then Some 0 else None

abbrev exact : Kind Sign
exact = record {
  blank = record { reads = []; writes = [] };
  with_read = λ w sign. record sign { reads = w ∷ sign.reads };
  with_written = λ w sign. record sign { writes = w ∷ sign.writes };
  overlap = overlap_at;
}

abbrev noted : Sign → Claims
noted sign = record { read = has sign.reads; written = has sign.writes }

-- an invocation sets word 0, or reads it and writes one more into word 1
data Body : Type 0 where
  Sets : ℤ → Body
  Follows : Body

data Piece : Type 0 where
  Storing : ℕ → ℤ → Piece
  Loading : Piece
  Over : Piece

-- which body of the nest below an iteration is, with which scalars
abbrev what : Body × ℕ → ℕ × List ℤ
what (Sets value, k) = (0, value ∷ [])
what (Follows, k) = (1, [])

abbrev entry_at : Body → ℕ → Piece
entry_at (Sets value) k = Storing 0 value
entry_at Follows k = Loading

abbrev stop_at : Piece → Stop Piece
stop_at (Storing w value) = Stores w value Over
stop_at Loading = Loads 0 (λ value. Storing 1 (value +ℤ pos 1))
stop_at Over = Finishes

abbrev fuel_at : Piece → ℕ
fuel_at (Storing w value) = 1
fuel_at Loading = 2
fuel_at Over = 0

abbrev pieces : System Piece
pieces = record { stop = stop_at; fuel = fuel_at; fixed = λ w. None }

-- a cursor is the list of what is left: headers, and invocations of one iteration
data Item : Type 0 where
  Head : Item
  Call : Body → Item

abbrev event_at : List Item → Event Body (List Item)
event_at [] = End
event_at (Head ∷ rest) = Scalar Header None rest
event_at (Call body ∷ rest) = Invoke body 1 rest

abbrev machine : Setup Body (List Item) Piece Sign
machine = record { system = pieces; event = event_at; entry = entry_at; doall = λ body. false; absent = Follows; kind = exact; width = 2; room = 2; far = 1 }

abbrev turn_at : ℕ → List ℤ → Turn
turn_at zero scalars = turn.Store 0 0 (slice_index_or scalars 0 (pos 0)) turn.Finished
turn_at (suc body) scalars = turn.Load 0 0 (λ value. turn.Store 0 1 (value +ℤ pos 1) turn.Finished)

abbrev nest : Nest
nest = record {
  sizes = 2 ∷ [];
  turn = turn_at;
  course = course.Scalar Header [] (course.Iterate 0 (pos 5 ∷ []) (course.Close [] (course.Scalar Header [] (course.Iterate 1 [] (course.Close [] course.End)))));
  opening = pos 0 ∷ pos 0 ∷ [];
}

abbrev items : List Item
items = Head ∷ Call (Sets (pos 5)) ∷ Head ∷ Call Follows ∷ []

abbrev from_opening : List ℕ → Option (State Body (List Item) Piece Sign)
from_opening history = run (step machine) (opening machine items nest.opening) history

-- the scheduler opens two epochs and closes the segment
abbrev opens : List ℕ
opens = 2 ∷ 2 ∷ 2 ∷ 2 ∷ 2 ∷ []

-- worker 1 runs ahead into epoch 1, and then worker 0 sets the word that it has read; the checker finds it
abbrev ahead : List ℕ
ahead = 1 ∷ 1 ∷ 1 ∷ 1 ∷ 1 ∷ 1 ∷ 0 ∷ 0 ∷ 0 ∷ 0 ∷ 0 ∷ 3 ∷ []

stale : (s : State Body (List Item) Piece Sign) × (from_opening (opens ++ ahead) ≡ Some s) × (s.words ≡ pos 5 ∷ pos 1 ∷ []) × (s.abort ≡ Some (Overlaps (pair_of 1 1 0 0) 0))
stale = (_, refl, refl, refl)

-- it can't be committed
uncommitted : from_opening (opens ++ ahead ++ 2 ∷ 2 ∷ []) ≡ None
uncommitted = refl

-- it is restored, and at distance 0 worker 1 waits for worker 0
waits : from_opening (opens ++ ahead ++ 2 ∷ 1 ∷ 1 ∷ 1 ∷ []) ≡ None
waits = refl

abbrev again : List ℕ
again = 2 ∷ 1 ∷ 1 ∷ 0 ∷ 0 ∷ 0 ∷ 1 ∷ 1 ∷ 1 ∷ 1 ∷ 0 ∷ 0 ∷ []

abbrev history : List ℕ
history = opens ++ ahead ++ again ++ 2 ∷ 2 ∷ []

-- before the commit the trace is that of textual order
trace : trace_from machine (opening machine items nest.opening) [] (opens ++ ahead ++ again) ≡ Write 0 0 (pos 5) ∷ Read 1 0 (pos 5) ∷ Write 1 1 (pos 6) ∷ []
trace = refl

whole : (s : State Body (List Item) Piece Sign) × (from_opening history ≡ Some s) × (is_finished s ≡ true) × (ending_of s ≡ Done (pos 5 ∷ pos 6 ∷ [])) × (s.facts ≡ record { invocations = 2; iterations = 2; drains = 0; segments = 1; checks = 1; rollbacks = 1; listed = record { segment = 0; cause = Overlaps (pair_of 1 1 0 0) 0 } ∷ [] })
whole = (_, refl, refl, refl, refl)

textual : outcome nest ≡ Done (pos 5 ∷ pos 6 ∷ [])
textual = refl

-- the nest has one segment of two epochs
cut : segments machine nest items ≡ (record { first = 0; count = 1; body = Sets (pos 5) } ∷ record { first = 1; count = 1; body = Follows } ∷ []) ∷ []
cut = refl

-- the signatures keep the law
meets : (xs ys : List ℕ) (w : ℕ) → has xs w ≡ true → has ys w ≡ true → meet xs ys ≡ true
meets [] ys w mine theirs = absurd (true≢false (sym mine))
meets (x ∷ xs) ys w mine theirs = ⊎_elim
    (λ same. let is : x ≡ w = eqb-true x w same in or_left (has ys x) (meet xs ys) (subst (λ u. has ys u ≡ true) (sym is) theirs))
    (λ later. or_right (has ys x) (meet xs ys) (meets xs ys w later theirs))
    (or_cases (x == w) (has xs w) mine)

met : (xs ys : List ℕ) → meet xs ys ≡ true → (w : ℕ) × (has xs w ≡ true) × (has ys w ≡ true)
met [] ys is = absurd (true≢false (sym is))
met (x ∷ xs) ys is = ⊎_elim
    (λ here. (x, or_left (x == x) (has xs x) (eq-eqb x x refl), here))
    (λ later. let r = met xs ys later in (r.0, or_right (x == r.0) (has xs r.0) r.1, r.2))
    (or_cases (has ys x) (meet xs ys) is)

has_first : (xs ys : List ℕ) (w : ℕ) → has xs w ≡ true → has (xs ++ ys) w ≡ true
has_first [] ys w is = absurd (true≢false (sym is))
has_first (x ∷ xs) ys w is = ⊎_elim (λ same. or_left (x == w) (has (xs ++ ys) w) same) (λ later. or_right (x == w) (has (xs ++ ys) w) (has_first xs ys w later)) (or_cases (x == w) (has xs w) is)

has_last : (xs ys : List ℕ) (w : ℕ) → has ys w ≡ true → has (xs ++ ys) w ≡ true
has_last [] ys w is = is
has_last (x ∷ xs) ys w is = or_right (x == w) (has (xs ++ ys) w) (has_last xs ys w is)

has_either : (xs ys : List ℕ) (w : ℕ) → has (xs ++ ys) w ≡ true → (has xs w ≡ true) ⊎ (has ys w ≡ true)
has_either [] ys w is = inr is
has_either (x ∷ xs) ys w is = ⊎_elim (λ same. inl (or_left (x == w) (has xs w) same)) (λ later. ⊎_elim (λ l. inl (or_right (x == w) (has xs w) l)) (λ r. inr r) (has_either xs ys w later)) (or_cases (x == w) (has (xs ++ ys) w) is)

told : (t : Bool) → t ≡ true → IsSome {T = ℕ} (if t then Some 0 else None)
told t is = subst (λ b. IsSome {T = ℕ} (if b then Some 0 else None)) (sym is) refl

untold : (t : Bool) → IsSome {T = ℕ} (if t then Some 0 else None) → t ≡ true
untold true is = refl
untold false is = absurd (true≢false (sym is))

abbrev writes_meet : Sign → Sign → Bool
writes_meet sign other = meet sign.writes (other.reads ++ other.writes)

overlapping : (sign other : Sign) → (writes_meet sign other ≡ true) ⊎ (meet sign.reads other.writes ≡ true) → IsSome (overlap_at sign other)
overlapping sign other (inl first) = told (writes_meet sign other || meet sign.reads other.writes) (or_left (writes_meet sign other) (meet sign.reads other.writes) first)
overlapping sign other (inr second) = told (writes_meet sign other || meet sign.reads other.writes) (or_right (writes_meet sign other) (meet sign.reads other.writes) second)

clashing : (sign other : Sign) (w : ℕ) → ClashAt (noted sign) (noted other) w → IsSome (overlap_at sign other)
clashing sign other w (inl both) = overlapping sign other (inl (meets sign.writes (other.reads ++ other.writes) w both.0 (⊎_elim (λ r. has_first other.reads other.writes w r) (λ r. has_last other.reads other.writes w r) (or_cases (has other.reads w) (has other.writes w) both.1))))
clashing sign other w (inr both) = ⊎_elim
    (λ read. overlapping sign other (inr (meets sign.reads other.writes w read both.1)))
    (λ written. overlapping sign other (inl (meets sign.writes (other.reads ++ other.writes) w written (has_last other.reads other.writes w both.1))))
    (or_cases (has sign.reads w) (has sign.writes w) both.0)

more : (sign other wider wider_other : Sign) → Holds (noted wider) (noted sign) → Holds (noted wider_other) (noted other) → IsSome (overlap_at sign other) → IsSome (overlap_at wider wider_other)
more sign other wider wider_other holds holds_other some = ⊎_elim
    (λ first. let r = met sign.writes (other.reads ++ other.writes) first in overlapping wider wider_other (inl (meets wider.writes (wider_other.reads ++ wider_other.writes) r.0 (holds.written r.0 r.1) (⊎_elim (λ x. has_first wider_other.reads wider_other.writes r.0 (holds_other.read r.0 x)) (λ x. has_last wider_other.reads wider_other.writes r.0 (holds_other.written r.0 x)) (has_either other.reads other.writes r.0 r.2)))))
    (λ second. let r = met sign.reads other.writes second in overlapping wider wider_other (inr (meets wider.reads wider_other.writes r.0 (holds.read r.0 r.1) (holds_other.written r.0 r.2))))
    (or_cases (writes_meet sign other) (meet sign.reads other.writes) (untold (writes_meet sign other || meet sign.reads other.writes) some))

is_kind : IsKind exact noted (λ w. true)
is_kind = record {
  blank_reads = λ w. refl;
  blank_writes = λ w. refl;
  read_reads = λ w u sign. refl;
  read_writes = λ w u sign. refl;
  written_reads = λ w u sign. refl;
  written_writes = λ w u sign. refl;
  clashing = λ sign other w touched clash. clashing sign other w clash;
  more = more;
}

-- iterations may touch any word
all_within : (t : Tree) → Within (words_of (λ w. true)) t
all_within tree.Finished = tt
all_within (tree.Trapped cause line) = tt
all_within (tree.Load w go) = (refl, λ value. all_within (go value))
all_within (tree.Store w value rest) = (refl, all_within rest)

-- and the setup its premises
realised : BodiesBegin pieces nest what (λ (i : Body × ℕ). entry_at i.0 i.1)
realised (Sets value, x) k at = (Over, refl, refl, omega arith, refl)
realised (Follows, x) k at = ((λ value. Storing 1 (value +ℤ pos 1)), refl, λ value can. (omega arith, (Over, refl, refl, omega arith, refl)))

setup : IsSetupFor machine nest what items noted
setup = record {
  some_worker = omega arith;
  some_room = omega arith;
  begins = realised;
  follows = (_, refl, λ none. (_, _, refl, refl, (_, refl, (_, refl, λ none. (_, _, refl, refl, (_, refl, refl))))));
  opens_fixed = λ w value told. absurd (let no : None ≡ Some value = told in cc);
  apart = λ b first x y all. absurd (true≢false (sym all));
  touched = λ w. true;
  inside = λ k. all_within (family_of machine.system.fixed nest k);
  is_kind = is_kind;
}

-- so every complete history ends so
every : (others : List ℕ) (complete : Completes machine nest items others) → ending_of complete.last ≡ Done (pos 5 ∷ pos 6 ∷ [])
every others complete = ends Body (List Item) Piece Sign machine nest what items noted setup others complete

-- the run above has 31 steps; the measure of the opening is 40, and the bound is 45 where each iteration costs 3
measured : measure machine nest (opening machine items nest.opening) ≡ 40
measured = refl

bounded : bound machine nest items (λ k. 3) ≡ 45
bounded = refl

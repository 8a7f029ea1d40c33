-- No caller of `classify` needs this. What is kept of accesses to one array, by which a further one is often known to be
-- parted from all of them.
use Rattle.std.specs.Prelude.{◌≡◌, ℕ, ◌+◌, ◌-◌, ◌^◌, ◌<◌, ◌≤◌, ◌==◌, ◌+ℤ◌, pos, Bool, true, false, Option, Some, None, List, take, get_or, slice_index_or}
use Rattle.dep_graph.specs.declared.accesses.Subscript.{Subscript}
use Rattle.dep_graph.specs.declared.accesses.Access.{Access}
use Rattle.dep_graph.specs.declared.seen.Ends.{Ends}
use Rattle.dep_graph.specs.declared.seen.Hull.{Hull}
use Rattle.dep_graph.specs.declared.seen.Seen.{Seen}
use Rattle.dep_graph.specs.declared.seen.Seen.TheVariants as seen
use Rattle.dep_graph.specs.declared.seen.Known.{Known}
use Rattle.dep_graph.specs.Kinds.{do_match, may_depend, first_where}

-- the ends of a span, with the literal, raised by 2^64
pub record AreEnds (s : Subscript) (e : Ends) : Type 0 where
  pub first : pos e.first ≡ (s.form.literal +ℤ s.span.least) +ℤ pos (2 ^ 64)
  pub last : pos e.last ≡ (s.form.literal +ℤ s.span.greatest) +ℤ pos (2 ^ 64)

-- a hull holds both ends
pub record Holds (h : Hull) (e : Ends) : Type 0 where
  pub first_above : h.least ≤ e.first
  pub last_above : h.least ≤ e.last
  pub first_below : e.first ≤ h.greatest
  pub last_below : e.last ≤ h.greatest

-- the first end of each is nearer than a stride to the last of the other
pub record AreNear (p q : Ends) (stride : ℕ) : Type 0 where
  pub low : p.first - q.last < stride
  pub low' : q.last - p.first < stride
  pub high : p.last - q.first < stride
  pub high' : q.first - p.last < stride

-- what is kept holds of a subscript
abbrev pub IsSeen : Seen → Option Subscript → Type 0
IsSeen seen.Nothing s = ⊥
IsSeen (seen.Alike form hull) (Some s) = (do_match s.form form.now ≡ true) × ((e : Ends) × AreEnds s e × Holds hull e)
IsSeen (seen.Alike form hull) None = ⊥
IsSeen seen.Anything s = Unit {0}

-- and of an access, where it is to this array
pub record IsSeenIn (known : Known) (p : Access) : Type 0 where
  pub all : IsSeen known.all p.subscript
  pub writes : p.at.write ≡ true → IsSeen known.writes p.subscript

abbrev pub IsKnown : ℕ → Known → Access → Type 0
IsKnown array known p = (p.at.array == array) ≡ true → IsSeenIn known p

-- the access with this number depends on none up to it
abbrev pub IsFree : ℕ → List Access → ℕ → Type 0
IsFree step accesses k = (q : Access) → q ≡ get_or accesses k q → first_where (may_depend step q) (take (k + 1) accesses) ≡ None

-- accesses that are told to be free are
abbrev pub AreFree : ℕ → List Access → List Bool → Type 0
AreFree step accesses free = (k : ℕ) → slice_index_or free k false ≡ true → IsFree step accesses k

-- The dependence tests. A pair of accesses to one array, one of them a write, is parted where no two turns of the
-- invocation can meet in a word by it; an invocation of which each pair is parted is DoAll.
use Rattle.std.specs.Prelude.{ℕ, ◌*◌, ◌%◌, ◌^◌, ◌==◌, nat_le, nat_lt, ℤ, pos, ◌+ℤ◌, ◌-ℤ◌, unsigned_abs, Bool, true, false, not, ◌&&◌, ◌||◌, if◌then◌else◌, Option, Some, None, List, [], ◌∷◌, ◌++◌, map}
use lib.Pointwise.{pointwise}
use Rattle.std.specs.Ordering.{int_eq}
use Rattle.nest_syntax.specs.declared.tree.Loop.{Loop}
use Rattle.nest_syntax.specs.declared.tree.Program.{Program}
use Rattle.nest_syntax.specs.Words.{is_zero}
use Rattle.dep_graph.specs.declared.forms.Form.{Form}
use Rattle.dep_graph.specs.declared.accesses.AccessAt.{AccessAt}
use Rattle.dep_graph.specs.declared.accesses.Subscript.{Subscript}
use Rattle.dep_graph.specs.declared.accesses.Access.{Access}
use Rattle.dep_graph.specs.declared.kinds.LoopKind.{LoopKind}
use Rattle.dep_graph.specs.declared.kinds.LoopKind.TheVariants as kind
use Rattle.dep_graph.specs.Accesses.{accesses_of}

abbrev pub same_factors : List ℤ → List ℤ → Bool
same_factors factors others = pointwise int_eq factors others

-- two forms match where they have the same factor of the invocation's variable and of each scalar of the scheduler
abbrev pub do_match : Form → Form → Bool
do_match f g = int_eq f.variable g.variable && same_factors f.scalars g.scalars

-- the factor of the invocation's variable is from 1 to 65,536 in size
abbrev pub is_moderate : Form → Bool
is_moderate f = nat_le 1 (unsigned_abs f.variable) && nat_le (unsigned_abs f.variable) 65536

-- how far the subscripts of two neighbouring turns stand apart
abbrev pub stride : ℕ → Form → ℕ
stride step f = unsigned_abs f.variable * step

-- no part over the variables of loops of the body
abbrev pub is_flat : Form → Bool
is_flat f = is_zero f.outer && is_zero f.inner

-- whether a size is a multiple of a number
abbrev pub is_multiple : ℕ → ℕ → Bool
is_multiple size of = if of == 0 then size == 0 else (size % of) == 0

-- how far apart the literals are, over the whole numbers
abbrev pub distance : Form → Form → ℤ
distance f g = f.literal -ℤ g.literal

-- in any two turns the subscripts differ by more than the loops of the body can make up
abbrev pub stands_apart : ℕ → Subscript → Subscript → Bool
stands_apart step p q =
    nat_lt (unsigned_abs ((distance p.form q.form +ℤ p.span.least) -ℤ q.span.greatest)) (stride step p.form)
    && nat_lt (unsigned_abs ((distance p.form q.form +ℤ p.span.greatest) -ℤ q.span.least)) (stride step p.form)

-- no number of turns makes up the distance
abbrev pub is_skipped : ℕ → Subscript → Subscript → Bool
is_skipped step p q = is_flat p.form && (is_flat q.form && (nat_le (unsigned_abs (distance p.form q.form)) (2 ^ 62) && not (is_multiple (unsigned_abs (distance p.form q.form)) (stride step p.form))))

-- two different words in each turn
abbrev pub is_elsewhere : Subscript → Subscript → Bool
is_elsewhere p q = is_flat p.form && (is_flat q.form && not (is_multiple (unsigned_abs (distance p.form q.form)) (2 ^ 64)))

abbrev pub passes_test : ℕ → Subscript → Subscript → Bool
passes_test step p q = do_match p.form q.form && ((is_moderate p.form && (stands_apart step p q || is_skipped step p q)) || (is_zero p.form.variable && is_elsewhere p q))

abbrev pub is_parted : ℕ → Option Subscript → Option Subscript → Bool
is_parted step (Some p) (Some q) = passes_test step p q
is_parted step (Some p) None = false
is_parted step None q = false

-- whether two accesses may depend on each other: one array, a write among them, and no test parts them
abbrev pub may_depend : ℕ → Access → Access → Bool
may_depend step q p = (p.at.array == q.at.array) && ((p.at.write || q.at.write) && not (is_parted step p.subscript q.subscript))

abbrev pub is_write : Access → Bool
is_write a = a.at.write

-- the first of some accesses that may depend on this one
abbrev pub first_where : {A : Type 0} → (A → Bool) → List A → Option A
first_where test [] = None
first_where test (x ∷ xs) = if test x then Some x else first_where test xs

-- The kind of an invocation, by the accesses before and those that are left: pairs are taken in the order of the later
-- access, then of the earlier one, and an access is paired with itself too.
abbrev pub behind : Option Access → Access → LoopKind → LoopKind
behind (Some p) q others = kind.Plain p.at q.at
behind None q others = others

abbrev pub kind_from : ℕ → List Access → List Access → LoopKind
kind_from step before [] = kind.DoAll
kind_from step before (q ∷ rest) = behind (first_where (may_depend step q) (before ++ q ∷ [])) q (kind_from step (before ++ q ∷ []) rest)

-- the kind of an invocation of a program
abbrev pub kind_of : Program → Loop → LoopKind
kind_of program nest = kind_from nest.step [] (accesses_of program nest)

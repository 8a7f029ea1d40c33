-- Arrays by their names.
use Rattle.std.proofs.Common.{◌≡◌, ℕ, suc, ◌+◌, ◌<◌, ◌≤◌, ◌==◌, if◌then◌else◌, true, false, Bool, not, ◌||◌, Option, Some, None, List, [], ◌∷◌, length, drop, get_or, refl, sym, ap, ◌∙◌, arith, drop-cons, add-one, eq-eqb}
use Rattle.std.specs.Prelude.{IfSome}
use Rattle.std.specs.Option.{option_map, option_map_or}
use Rattle.std.proofs.lemmas.List.{drop_all}
use Rattle.nest_syntax.specs.declared.names.Line.{Line}
use Rattle.nest_syntax.specs.declared.tree.Decl.{Decl}
use Rattle.nest_syntax.specs.declared.tree.Decl.TheVariants as decl
use Rattle.nest_syntax.specs.Arrays.{Array, arrays_of, array_of, is_fixed}
use Rattle.nest_syntax.specs.Value.{is_written}

-- an array's number is one of theirs
pub is_there : (arrays : List Array) (name : ℕ) → IfSome (array_of arrays name) (λ n. n < length arrays)
is_there [] name = tt
is_there (a ∷ arrays) name = by (a.name == name) (array_of arrays name) (is_there arrays name)
  where
    by : (here : Bool) (found : Option ℕ) → IfSome found (λ n. n < length arrays) → IfSome (if here then Some 0 else option_map suc found) (λ n. n < suc (length arrays))
    by true found there = omega arith
    by false None there = tt
    by false (Some n) there = omega (arith, there)

rest_is : (decls : List Decl) (i : ℕ) (none here : Decl) → i < length decls → get_or decls i none ≡ here → drop i decls ≡ here ∷ drop (i + 1) decls
rest_is decls i none here there is = drop-cons decls i none there ∙ ap (λ d. d ∷ drop (suc i) decls) is ∙ ap (λ k. here ∷ drop k decls) (sym (add-one i))

-- whether the array with a name is written: the declarations before place i don't tell
abbrev pub IsToldBehind : List Decl → ℕ → ℕ → Type 0
IsToldBehind decls name i = is_written (arrays_of decls) name ≡ is_written (arrays_of (drop i decls)) name

behind_first : (a : Array) (rest : List Array) (o : Option ℕ) → option_map_or (λ n. if is_fixed (a ∷ rest) n then false else true) (option_map suc o) false ≡ option_map_or (λ n. if is_fixed rest n then false else true) o false
behind_first a rest None = refl
behind_first a rest (Some n) = refl

pub told_behind_scalar : (decls : List Decl) (name i : ℕ) (none : Decl) (line : Line) (scalar : ℕ) (value : _) → i < length decls
    → get_or decls i none ≡ decl.Scalar line scalar value → IsToldBehind decls name i → IsToldBehind decls name (i + 1)
told_behind_scalar decls name i none line scalar value there is told = told ∙ ap (λ ds. is_written (arrays_of ds) name) (rest_is decls i none (decl.Scalar line scalar value) there is)

pub told_behind_array : (decls : List Decl) (name i : ℕ) (none : Decl) (line : Line) (declared size : ℕ) (fixed : Bool) → i < length decls
    → get_or decls i none ≡ decl.Array line declared size fixed → (declared == name) ≡ false → IsToldBehind decls name i → IsToldBehind decls name (i + 1)
told_behind_array decls name i none line declared size fixed there is other told =
    let rest : List Array = arrays_of (drop (i + 1) decls) in
    let here : Array = record { name = declared; size = size; fixed = fixed } in
    told ∙ ap (λ ds. is_written (arrays_of ds) name) (rest_is decls i none (decl.Array line declared size fixed) there is)
    ∙ ap (λ b. option_map_or (λ n. if is_fixed (here ∷ rest) n then false else true) (if b then Some 0 else option_map suc (array_of rest name)) false) other
    ∙ behind_first here rest (array_of rest name)

unless : (fixed : Bool) → not fixed ≡ (if fixed then false else true)
unless true = refl
unless false = refl

pub told_here : (decls : List Decl) (name i : ℕ) (none : Decl) (line : Line) (declared size : ℕ) (fixed : Bool) → i < length decls
    → get_or decls i none ≡ decl.Array line declared size fixed → declared ≡ name → IsToldBehind decls name i → not fixed ≡ is_written (arrays_of decls) name
told_here decls name i none line declared size fixed there is same told =
    let rest : List Array = arrays_of (drop (i + 1) decls) in
    let here : Array = record { name = declared; size = size; fixed = fixed } in
    unless fixed
    ∙ ap (λ b. option_map_or (λ n. if is_fixed (here ∷ rest) n then false else true) (if b then Some 0 else option_map suc (array_of rest name)) false) (sym (eq-eqb declared name same))
    ∙ ap (λ ds. is_written (arrays_of ds) name) (sym (rest_is decls i none (decl.Array line declared size fixed) there is)) ∙ sym told

pub told_nowhere : (decls : List Decl) (name i : ℕ) → length decls ≤ i → IsToldBehind decls name i → false ≡ is_written (arrays_of decls) name
told_nowhere decls name i over told = ap (λ ds. is_written (arrays_of ds) name) (sym (drop_all i decls over)) ∙ sym told

pub either_of_two : (a b : Bool) → (a || (b || false)) ≡ (a || b)
either_of_two true b = refl
either_of_two false true = refl
either_of_two false false = refl

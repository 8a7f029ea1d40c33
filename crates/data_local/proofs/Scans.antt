-- A scan of declarations for the written arrays.
use Rattle.std.proofs.Common.{◌≡◌, ◌≢◌, ℕ, suc, ◌+◌, ◌<◌, ◌≤◌, ◌==◌, ◌&&◌, ◌||◌, not, if◌then◌else◌, Bool, true, false, ℤ, Option, Some, None, List, [], ◌∷◌, length, drop, get_or, refl, sym, ap, ◌∙◌, drop-cons, add-one, ◌⊎◌, inl, inr}
use Rattle.std.specs.Option.{option_map, option_map_or}
use Rattle.std.proofs.lemmas.List.{drop_all}
use Rattle.std.proofs.lemmas.Bool.Decides.{eqb_tells}
use Rattle.nest_syntax.specs.declared.names.Line.{Line}
use Rattle.nest_syntax.specs.declared.tree.Decl.{Decl}
use Rattle.nest_syntax.specs.declared.tree.Decl.TheVariants as decl
use Rattle.nest_syntax.specs.Arrays.{Array, arrays_of, array_of, is_fixed}
use Rattle.nest_syntax.specs.Value.{is_written}
use Rattle.nest_syntax.specs.Among.{is_among}
use Rattle.data_local.specs.Written.{TellsWritten}

-- A scan that has come to declaration i: the arrays that it has seen, and those of them that are written.
abbrev pub IsScanned : List Decl → List ℕ → List ℕ → ℕ → Type 0
IsScanned decls seen names i = (name : ℕ) → is_written (arrays_of decls) name ≡ (is_among names name || (not (is_among seen name) && is_written (arrays_of (drop i decls)) name))

pub scan_begins : (decls : List Decl) → IsScanned decls [] [] 0
scan_begins decls name = refl

rest_is : (decls : List Decl) (i : ℕ) (none here : Decl) → i < length decls → get_or decls i none ≡ here → drop i decls ≡ here ∷ drop (i + 1) decls
rest_is decls i none here there is = drop-cons decls i none there ∙ ap (λ d. d ∷ drop (suc i) decls) is ∙ ap (λ k. here ∷ drop k decls) (sym (add-one i))

pub scan_passes_scalar : (decls : List Decl) (seen names : List ℕ) (i : ℕ) (none : Decl) (line : Line) (scalar : ℕ) (value : ℤ) → i < length decls
    → get_or decls i none ≡ decl.Scalar line scalar value → IsScanned decls seen names i → IsScanned decls seen names (i + 1)
scan_passes_scalar decls seen names i none line scalar value there is scan name =
    scan name ∙ ap (λ ds. is_among names name || (not (is_among seen name) && is_written (arrays_of ds) name)) (rest_is decls i none (decl.Scalar line scalar value) there is)

behind_first : (a : Array) (rest : List Array) (o : Option ℕ) → option_map_or (λ n. if is_fixed (a ∷ rest) n then false else true) (option_map suc o) false ≡ option_map_or (λ n. if is_fixed rest n then false else true) o false
behind_first a rest None = refl
behind_first a rest (Some n) = refl

written_first : (fixed : Bool) → (if fixed then false else true) ≡ not fixed
written_first true = refl
written_first false = refl

-- the first array of a list, and another one
written_here : (a : Array) (rest : List Array) (name : ℕ) → (a.name == name) ≡ true → is_written (a ∷ rest) name ≡ not a.fixed
written_here a rest name e = ap (λ b. option_map_or (λ n. if is_fixed (a ∷ rest) n then false else true) (if b then Some 0 else option_map suc (array_of rest name)) false) e ∙ written_first a.fixed

written_later : (a : Array) (rest : List Array) (name : ℕ) → (a.name == name) ≡ false → is_written (a ∷ rest) name ≡ is_written rest name
written_later a rest name e = ap (λ b. option_map_or (λ n. if is_fixed (a ∷ rest) n then false else true) (if b then Some 0 else option_map suc (array_of rest name)) false) e ∙ behind_first a rest (array_of rest name)

met_here : (named seen fixed w : Bool) → (named || (not seen && not fixed)) ≡ ((named || (true && not fixed && not seen)) || (not (seen || true) && w))
met_here true seen fixed w = refl
met_here false true true w = refl
met_here false true false w = refl
met_here false false true w = refl
met_here false false false w = refl

met_later : (named seen fixed w : Bool) → (named || (not seen && w)) ≡ ((named || (false && not fixed && not seen)) || (not (seen || false) && w))
met_later true seen fixed w = refl
met_later false true fixed w = refl
met_later false false fixed true = refl
met_later false false fixed false = refl

pub scan_passes_array : (decls : List Decl) (seen names seen' names' : List ℕ) (i : ℕ) (none : Decl) (line : Line) (declared size : ℕ) (fixed : Bool) → i < length decls
    → get_or decls i none ≡ decl.Array line declared size fixed
    → ((other : ℕ) → is_among seen' other ≡ (is_among seen other || (other == declared)))
    → ((other : ℕ) → is_among names' other ≡ (is_among names other || ((other == declared) && not fixed && not (is_among seen other))))
    → IsScanned decls seen names i → IsScanned decls seen' names' (i + 1)
scan_passes_array decls seen names seen' names' i none line declared size fixed there is more_seen more_names scan name =
    scan name
    ∙ ap (λ ds. is_among names name || (not (is_among seen name) && is_written (arrays_of ds) name)) (rest_is decls i none (decl.Array line declared size fixed) there is)
    ∙ by_name (eqb_tells name declared) (eqb_tells declared name)
    ∙ ap (λ b. b || (not (is_among seen name || (name == declared)) && is_written (arrays_of (drop (i + 1) decls)) name)) (sym (more_names name))
    ∙ ap (λ b. is_among names' name || (not b && is_written (arrays_of (drop (i + 1) decls)) name)) (sym (more_seen name))
  where
    by_name : (((name == declared) ≡ true) × (name ≡ declared)) ⊎ (((name == declared) ≡ false) × (name ≢ declared))
        → (((declared == name) ≡ true) × (declared ≡ name)) ⊎ (((declared == name) ≡ false) × (declared ≢ name))
        → (is_among names name || (not (is_among seen name) && is_written (record { name = declared; size = size; fixed = fixed } ∷ arrays_of (drop (i + 1) decls)) name))
        ≡ ((is_among names name || ((name == declared) && not fixed && not (is_among seen name))) || (not (is_among seen name || (name == declared)) && is_written (arrays_of (drop (i + 1) decls)) name))
    by_name (inl a) (inl b) =
        ap (λ w. is_among names name || (not (is_among seen name) && w)) (written_here (record { name = declared; size = size; fixed = fixed }) (arrays_of (drop (i + 1) decls)) name b.0)
        ∙ met_here (is_among names name) (is_among seen name) fixed (is_written (arrays_of (drop (i + 1) decls)) name)
        ∙ ap (λ e. (is_among names name || (e && not fixed && not (is_among seen name))) || (not (is_among seen name || e) && is_written (arrays_of (drop (i + 1) decls)) name)) (sym a.0)
    by_name (inl a) (inr b) = absurd (b.1 (sym a.1))
    by_name (inr a) (inl b) = absurd (a.1 (sym b.1))
    by_name (inr a) (inr b) =
        ap (λ w. is_among names name || (not (is_among seen name) && w)) (written_later (record { name = declared; size = size; fixed = fixed }) (arrays_of (drop (i + 1) decls)) name b.0)
        ∙ met_later (is_among names name) (is_among seen name) fixed (is_written (arrays_of (drop (i + 1) decls)) name)
        ∙ ap (λ e. (is_among names name || (e && not fixed && not (is_among seen name))) || (not (is_among seen name || e) && is_written (arrays_of (drop (i + 1) decls)) name)) (sym a.0)

or_nothing : (b c : Bool) → (b || (c && false)) ≡ b
or_nothing true c = refl
or_nothing false true = refl
or_nothing false false = refl

pub scan_ends : (decls : List Decl) (seen names : List ℕ) (i : ℕ) → length decls ≤ i → IsScanned decls seen names i → TellsWritten (arrays_of decls) names
scan_ends decls seen names i over scan name =
    sym (scan name ∙ ap (λ ds. is_among names name || (not (is_among seen name) && is_written (arrays_of ds) name)) (drop_all i decls over) ∙ or_nothing (is_among names name) (not (is_among seen name)))

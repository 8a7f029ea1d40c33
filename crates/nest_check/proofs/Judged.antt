-- What follows where no rule is broken.
use Rattle.std.proofs.Common.{◌≡◌, ℕ, zero, suc, ◌+◌, ◌<◌, ◌≤◌, Option, Some, None, List, [], ◌∷◌, ◌++◌, length, take, refl, sym, ap, ◌∙◌, subst, arith, inl}
use Rattle.std.proofs.lemmas.List.{take_all}
use Rattle.nest_syntax.specs.declared.names.Line.{Line}
use Rattle.nest_syntax.specs.declared.tree.Program.{Program}
use Rattle.nest_syntax.specs.declared.tree.Loop.{Loop}
use Rattle.nest_syntax.specs.declared.tree.Decl.{Decl}
use Rattle.nest_syntax.specs.declared.tree.Decl.TheVariants as decl
use Rattle.nest_syntax.proofs.LowerLists.{lower_of-append}
use Rattle.nest_syntax.specs.Lowest.{IsLowest, lower_of, lowest, lines_where}
use Rattle.nest_syntax.specs.Among.{IsOne}
use Rattle.nest_scope.specs.Rules.{lines_redeclared, lines_unknown, lines_const_written, lines_loop_variable_assigned, lines_scheduler_scalar_assigned}
use Rattle.nest_check.specs.ChangedBounds.{lines_of_changed_bounds}
use Rattle.nest_syntax.specs.Arrays.{arrays_of, array_names}
use Rattle.nest_syntax.specs.Shape.{Declaration}
use Rattle.nest_check.specs.Declarations.{first_of_each, lines_of, names_of}
use Rattle.nest_check.specs.Entries.{scheduler_scalars}
use Rattle.nest_check.specs.Rules.{first_behind, array_lines, region_lines, part_line, is_deep, parts_of, beyond_64, wrong_lengths, wrong_steps, deep_loops, large_regions, large_bodies, deep_expressions}
use Rattle.nest_check.specs.Kept.{KeepsRules}
use Rattle.nest_check.specs.Noted.{Judged, first_broken}
use Rattle.nest_check.specs.Broken.{Rules, no_rule, rule_and, BreaksAt, rules_on, BreaksRule, IsBroken}

pub nil_left : {A : Type 0} (xs ys : List A) → xs ++ ys ≡ [] → xs ≡ []
nil_left [] ys e = refl
nil_left (x ∷ xs) ys e = absurd (cc)

pub nil_right : {A : Type 0} (xs ys : List A) → xs ++ ys ≡ [] → ys ≡ []
nil_right [] ys e = e
nil_right (x ∷ xs) ys e = absurd (cc)

none_listed : (lines : List Line) → ((line : Line) → IsOne lines line → ⊥) → lines ≡ []
none_listed [] none = refl
none_listed (line ∷ lines) none = absurd (none line (inl refl))

pub keeps_all : (program : Program) → IsBroken program None → KeepsRules program
keeps_all program none = record {
  few = none_listed (beyond_64 program) (none 1);
  declared_once = none_listed (lines_redeclared program) (none 2);
  known = none_listed (lines_unknown program) (none 3);
  lengths = none_listed (wrong_lengths program) (none 4);
  constant = none_listed (lines_const_written program) (none 5);
  steps = none_listed (wrong_steps program) (none 6);
  levels = none_listed (deep_loops program) (none 7);
  variables = none_listed (lines_loop_variable_assigned program) (none 8);
  scheduled = none_listed (lines_scheduler_scalar_assigned program) (none 9);
  bounds = none_listed (lines_of_changed_bounds program) (none 10);
  inner = none 11;
  items = none_listed (large_regions program) (none 12);
  bodies = none_listed (large_bodies program) (none 13);
  depths = none_listed (deep_expressions program) (none 14);
}

few_behind : (many : ℕ) (lines : List Line) → first_behind many lines ≡ [] → length lines ≤ many
few_behind many [] e = omega arith
few_behind zero (line ∷ lines) e = absurd (cc)
few_behind (suc many) (line ∷ lines) e = let few = few_behind many lines e in omega (arith, few)

as_many_arrays : (decls : List Decl) → length (array_names (arrays_of decls)) ≡ length (array_lines decls)
as_many_arrays [] = refl
as_many_arrays (decl.Array line name size fixed ∷ decls) = ap suc (as_many_arrays decls)
as_many_arrays (decl.Scalar line name value ∷ decls) = as_many_arrays decls

pub few_arrays : (program : Program) → KeepsRules program → length (array_names (arrays_of program.decls)) ≤ 64
few_arrays program kept = let few = few_behind 64 (array_lines program.decls) (nil_left _ _ kept.few) in omega (arith, few, as_many_arrays program.decls)

pub few_array_lines : (program : Program) → KeepsRules program → length (array_lines program.decls) ≤ 64
few_array_lines program kept = few_behind 64 (array_lines program.decls) (nil_left _ _ kept.few)

as_many_regions : (regions : List Loop) → length (region_lines regions) ≡ length regions
as_many_regions [] = refl
as_many_regions (l ∷ regions) = ap suc (as_many_regions regions)

pub few_regions : (program : Program) → KeepsRules program → length program.regions ≤ 64
few_regions program kept =
    let few : length (region_lines program.regions) ≤ 64 = few_behind 64 (region_lines program.regions) (nil_right (first_behind 64 (array_lines program.decls)) _ kept.few) in
    let many = as_many_regions program.regions in
    omega (arith, few, many)

as_many_lines : (ds : List Declaration) → length (lines_of ds) ≡ length ds
as_many_lines [] = refl
as_many_lines (d ∷ ds) = ap suc (as_many_lines ds)

as_many_names : (ds : List Declaration) → length (names_of ds) ≡ length ds
as_many_names [] = refl
as_many_names (d ∷ ds) = ap suc (as_many_names ds)

pub few_scalars : (program : Program) → KeepsRules program → length (first_of_each (scheduler_scalars program)) ≤ 32
few_scalars program kept =
    let few : length (lines_of (first_of_each (scheduler_scalars program))) ≤ 32 = few_behind 32 (lines_of (first_of_each (scheduler_scalars program))) (nil_right (lines_where part_line is_deep (parts_of program)) _ kept.depths) in
    omega (arith, few, as_many_lines (first_of_each (scheduler_scalars program)))

pub few_scalar_names : (program : Program) → KeepsRules program → length (names_of (first_of_each (scheduler_scalars program))) ≤ 32
few_scalar_names program kept = let few = few_scalars program kept in omega (arith, few, as_many_names (first_of_each (scheduler_scalars program)))

pub all_scalars : (program : Program) → KeepsRules program → take 33 (first_of_each (scheduler_scalars program)) ≡ first_of_each (scheduler_scalars program)
all_scalars program kept = let few = few_scalars program kept in take_all 33 _ (omega (arith, few))

-- the 33rd scalar, if there is one, is among the first 33
pub behind_kept : (many : ℕ) (ds : List Declaration) → first_behind many (lines_of (take (suc many) ds)) ≡ first_behind many (lines_of ds)
behind_kept many [] = refl
behind_kept zero (d ∷ ds) = refl
behind_kept (suc many) (d ∷ ds) = behind_kept many ds

-- the first of some rules that is broken, where these are numbered from n on
abbrev pub IsFirst : ℕ → Rules → Option (ℕ × Line) → Type 0
IsFirst n rules None = (place : ℕ) (line : Line) → BreaksAt rules place line → ⊥
IsFirst n rules (Some broken) = (place : ℕ) × (broken.0 ≡ n + place) × IsLowest (BreaksAt rules place) (Some broken.1) × ((lower : ℕ) (line : Line) → lower < place → BreaksAt rules lower line → ⊥)

one_more : (n : ℕ) (Breaks : Line → Type 0) (rules : Rules) (found : Option Line) (judged : List Judged) → IsLowest Breaks found → IsFirst (suc n) rules (first_broken judged) → IsFirst n (rule_and Breaks rules) (first_broken ((n, found) ∷ judged))
one_more n Breaks rules (Some line) judged is rest = (0, omega arith, is, λ lower line less breaks. absurd (omega (arith, less)))
one_more n Breaks rules None judged is rest = by (first_broken judged) rest
  where
    before : (lower place : ℕ) (line : Line) → ((lower : ℕ) (line : Line) → lower < place → BreaksAt rules lower line → ⊥) → lower < suc place → BreaksAt (rule_and Breaks rules) lower line → ⊥
    before zero place line none less breaks = is line breaks
    before (suc lower) place line none less breaks = none lower line (omega (arith, less)) breaks

    nowhere : (place : ℕ) (line : Line) → ((place : ℕ) (line : Line) → BreaksAt rules place line → ⊥) → BreaksAt (rule_and Breaks rules) place line → ⊥
    nowhere zero line none breaks = is line breaks
    nowhere (suc place) line none breaks = none place line breaks

    by : (broken : Option (ℕ × Line)) → IsFirst (suc n) rules broken → IsFirst n (rule_and Breaks rules) broken
    by None none = λ place line breaks. nowhere place line none breaks
    by (Some broken) first = (suc first.0, omega (arith, first.1), first.2, λ lower line less breaks. before lower first.0 line first.3 less breaks)

-- rules that are numbered from n on, each with its lowest line
abbrev pub numbered : ℕ → List (Option Line) → List Judged
numbered n [] = []
numbered n (found ∷ others) = (n, found) ∷ numbered (suc n) others

abbrev pub AreLowest : Rules → List (Option Line) → Type 0
AreLowest no_rule [] = Unit {0}
AreLowest no_rule (found ∷ others) = ⊥
AreLowest (rule_and Breaks rules) [] = ⊥
AreLowest (rule_and Breaks rules) (found ∷ others) = IsLowest Breaks found × AreLowest rules others

first_from : (n : ℕ) (rules : Rules) (lines : List (Option Line)) → AreLowest rules lines → IsFirst n rules (first_broken (numbered n lines))
first_from n no_rule [] are = λ place line breaks. breaks
first_from n no_rule (found ∷ others) are = absurd are
first_from n (rule_and Breaks rules) [] are = absurd are
first_from n (rule_and Breaks rules) (found ∷ others) are = one_more n Breaks rules found (numbered (suc n) others) are.0 (first_from (suc n) rules others are.1)

first_is : (program : Program) (found : Option (ℕ × Line)) → IsFirst 1 (rules_on program) found → IsBroken program found
first_is program None none = nowhere
  where
    nowhere : (rule : ℕ) (line : Line) → BreaksRule program rule line → ⊥
    nowhere zero line breaks = breaks
    nowhere (suc place) line breaks = none place line breaks
first_is program (Some broken) first =
    let number : broken.0 ≡ suc first.0 = omega (arith, first.1) in
    (subst (λ rule. IsLowest (BreaksRule program rule) (Some broken.1)) (sym number) first.2, λ rule line less breaks. before rule line (omega (arith, less, number)) breaks)
  where
    before : (rule : ℕ) (line : Line) → rule < suc first.0 → BreaksRule program rule line → ⊥
    before zero line less breaks = breaks
    before (suc place) line less breaks = first.3 place line (omega (arith, less)) breaks

pub broken_is : (program : Program) (lines : List (Option Line)) → AreLowest (rules_on program) lines → IsBroken program (first_broken (numbered 1 lines))
broken_is program lines are = first_is program (first_broken (numbered 1 lines)) (first_from 1 (rules_on program) lines are)

pub deep_is : (program : Program) (result depths : Option Line) (kept : List Declaration) → result ≡ lower_of depths (first_behind 32 (lines_of kept)) → depths ≡ lowest (lines_where part_line is_deep (parts_of program)) → kept ≡ take 33 (first_of_each (scheduler_scalars program))
    → result ≡ lowest (deep_expressions program)
deep_is program result depths kept found expressions scalars =
    found
    ∙ ap (λ ds. lower_of depths (first_behind 32 (lines_of ds))) scalars
    ∙ ap (lower_of depths) (behind_kept 32 (first_of_each (scheduler_scalars program)))
    ∙ ap (λ d. lower_of d (first_behind 32 (lines_of (first_of_each (scheduler_scalars program))))) expressions
    ∙ sym (lower_of-append None (lines_where part_line is_deep (parts_of program)) (first_behind 32 (lines_of (first_of_each (scheduler_scalars program)))))

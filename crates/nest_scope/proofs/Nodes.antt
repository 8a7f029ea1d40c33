-- What is noted at a node of the tree: its parts one after another.
use Rattle.std.proofs.Common.{◌≡◌, ℕ, Result, Ok, Err, List, ◌∷◌, ◌++◌, map, length, refl, sym, ap, ◌∙◌}
use Rattle.std.specs.Result.{OnOk}
use Rattle.nest_syntax.specs.declared.names.Line.{Line}
use Rattle.nest_syntax.specs.declared.names.NoMemory.{NoMemory}
use Rattle.nest_syntax.specs.declared.operators.Bin.{Bin}
use Rattle.nest_syntax.specs.declared.operators.Op.{Op}
use Rattle.nest_syntax.specs.declared.tree.Expr.{Expr}
use Rattle.nest_syntax.specs.declared.tree.Expr.TheVariants as expr
use Rattle.nest_syntax.specs.declared.tree.Arm.{Arm}
use Rattle.nest_syntax.specs.declared.tree.Loop.{Loop}
use Rattle.nest_syntax.specs.declared.tree.Program.{Program}
use Rattle.nest_syntax.specs.declared.tree.Stmt.{Stmt}
use Rattle.nest_syntax.specs.declared.tree.Stmt.TheVariants as stmt
use Rattle.nest_scope.specs.declared.occurrences.Level.{Level}
use Rattle.nest_scope.specs.declared.occurrences.Action.TheVariants as action
use Rattle.nest_scope.specs.declared.occurrences.Occurrence.{Occurrence}
use Rattle.nest_scope.specs.declared.breaches.ScopeBreaches.{ScopeBreaches}
use Rattle.nest_scope.specs.Occurrences.{Scope, bound, with_bound, inner, variable_at, occurrence, read_in, in_same_scope, in_stmt, in_arm, in_loop, in_block, in_decls, in_regions, behind_decls, unbound, occurrences_of}
use Rattle.nest_scope.specs.Noted.{noted, all_noted, none_noted}
use Rattle.nest_scope.proofs.Lowest.{noted_both, noted_before}
use Rattle.nest_scope.proofs.Equations.{read-binary, read-choice, occurrences-assign, occurrences-write, occurrences-if, occurrences-arm, occurrences-loop}

module _ (line : Line) (level : Level) (scope : Scope) where
  pub binary_noted : (op : Bin) (left right e : Expr) (found one two : ScopeBreaches) → e ≡ expr.Binary op left right
      → one ≡ all_noted found (read_in line level scope left) → two ≡ all_noted one (read_in line level scope right) → two ≡ all_noted found (read_in line level scope e)
  binary_noted op left right e found one two is first second =
      noted_both found one two (read_in line level scope left) (read_in line level scope right) (read_in line level scope e) first second
      (ap (read_in line level scope) is ∙ read-binary line level scope op left right)

  pub choice_noted : (test left right e : Expr) (found one two three : ScopeBreaches) → e ≡ expr.Choice test left right
      → one ≡ all_noted found (read_in line level scope test) → two ≡ all_noted one (read_in line level scope left) → three ≡ all_noted two (read_in line level scope right) → three ≡ all_noted found (read_in line level scope e)
  choice_noted test left right e found one two three is first second third =
      noted_both found one three (read_in line level scope test) (read_in line level scope left ++ read_in line level scope right) (read_in line level scope e) first
      (noted_both one two three (read_in line level scope left) (read_in line level scope right) (read_in line level scope left ++ read_in line level scope right) second third refl)
      (ap (read_in line level scope) is ∙ read-choice line level scope test left right)

module _ (level : Level) (scope : Scope) where
  pub assign_noted : (line : Line) (name : ℕ) (op : Op) (value : Expr) (s : Stmt) (found one two : ScopeBreaches) → s ≡ stmt.Assign line name op value
      → one ≡ noted found (occurrence line level action.Assigned (bound scope name)) → two ≡ all_noted one (read_in line level scope value) → two ≡ all_noted found (in_stmt s level scope).occurrences
  assign_noted line name op value s found one two is first second =
      noted_before found one two (occurrence line level action.Assigned (bound scope name)) (read_in line level scope value) (in_stmt s level scope).occurrences first second
      (ap (λ x. (in_stmt x level scope).occurrences) is ∙ occurrences-assign level scope line name op value)

  pub write_noted : (line : Line) (array : ℕ) (place : Expr) (op : Op) (value : Expr) (s : Stmt) (found one two three : ScopeBreaches) → s ≡ stmt.Write line array place op value
      → one ≡ noted found (occurrence line level action.WordWritten (bound scope array)) → two ≡ all_noted one (read_in line level scope place) → three ≡ all_noted two (read_in line level scope value)
      → three ≡ all_noted found (in_stmt s level scope).occurrences
  write_noted line array place op value s found one two three is first second third =
      noted_before found one three (occurrence line level action.WordWritten (bound scope array)) (read_in line level scope place ++ read_in line level scope value) (in_stmt s level scope).occurrences first
      (noted_both one two three (read_in line level scope place) (read_in line level scope value) (read_in line level scope place ++ read_in line level scope value) second third refl)
      (ap (λ x. (in_stmt x level scope).occurrences) is ∙ occurrences-write level scope line array place op value)

  pub if_noted : (arms : List Arm) (other : List Stmt) (s : Stmt) (found one two : ScopeBreaches) (result : Result (Unit {0}) NoMemory) → s ≡ stmt.If arms other
      → one ≡ all_noted found (in_same_scope (map in_arm arms) level scope) → OnOk result (two ≡ all_noted one (in_block other level scope)) → OnOk result (two ≡ all_noted found (in_stmt s level scope).occurrences)
  if_noted arms other s found one two (Ok u) is first second =
      noted_both found one two (in_same_scope (map in_arm arms) level scope) (in_block other level scope) (in_stmt s level scope).occurrences first second
      (ap (λ x. (in_stmt x level scope).occurrences) is ∙ occurrences-if level scope arms other)
  if_noted arms other s found one two (Err e) is first second = second

  pub arm_noted : (arm : Arm) (found one two : ScopeBreaches) → one ≡ all_noted found (read_in arm.line level scope arm.test) → two ≡ all_noted one (in_block arm.body level scope) → two ≡ all_noted found (in_arm arm level scope)
  arm_noted arm found one two first second =
      noted_both found one two (read_in arm.line level scope arm.test) (in_block arm.body level scope) (in_arm arm level scope) first second (occurrences-arm level scope arm)

  pub loop_noted : (l : Loop) (within : Scope) (found one two three four : ScopeBreaches) → within ≡ with_bound scope l.name (variable_at level)
      → one ≡ noted found (occurrence l.line level action.Declared (bound scope l.name)) → two ≡ all_noted one (read_in l.line level scope l.low) → three ≡ all_noted two (read_in l.line level within l.high)
      → four ≡ all_noted three (in_block l.body (inner level) within) → four ≡ all_noted found (in_loop l level scope)
  loop_noted l within found one two three four is first second third fourth =
      noted_before found one four (occurrence l.line level action.Declared (bound scope l.name)) (low ++ (high within ++ body within)) (in_loop l level scope) first
      (noted_both one two four low (high within ++ body within) (low ++ (high within ++ body within)) second (noted_both two three four (high within) (body within) (high within ++ body within) third fourth refl) refl)
      (occurrences-loop level scope l ∙ ap (λ s. occurrence l.line level action.Declared (bound scope l.name) ∷ (low ++ (high s ++ body s))) (sym is))
    where
      low : List Occurrence
      low = read_in l.line level scope l.low

      high : Scope → List Occurrence
      high s = read_in l.line level s l.high

      body : Scope → List Occurrence
      body s = in_block l.body (inner level) s

-- the declarations of a program, and then its regions
pub program_noted : (program : Program) (opening behind : Scope) (found one two : ScopeBreaches) → opening ≡ unbound (length program.names) → found ≡ none_noted
    → one ≡ all_noted found (in_decls program.decls opening) → behind ≡ behind_decls program.decls opening → two ≡ all_noted one (in_regions program.regions behind)
    → two ≡ all_noted none_noted (occurrences_of program)
program_noted program opening behind found one two opens none first behind_is second =
    noted_both found one two (in_decls program.decls opening) (in_regions program.regions behind) (occurrences_of program) first second
    (ap (λ s. in_decls program.decls s ++ in_regions program.regions (behind_decls program.decls s)) (sym opens) ∙ ap (λ s. in_decls program.decls opening ++ in_regions program.regions s) (sym behind_is))
    ∙ ap (λ f. all_noted f (occurrences_of program)) none

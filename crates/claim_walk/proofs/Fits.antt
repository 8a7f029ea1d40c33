-- What the rules of a program say of a body, as a test over its statements: which names an expression may use, where a
-- slice local is given a value, and what the loops of the body are.
use Rattle.std.proofs.Common.{◌≡◌, ℕ, Bool, true, not, is_none, ◌||◌, ◌&&◌, List, [], ◌∷◌, map, sym, ap, ◌∙◌}
use Rattle.std.specs.List.{list_all}
use Rattle.nest_syntax.specs.declared.names.Line.{Line}
use Rattle.nest_syntax.specs.declared.operators.Op.{Op as Change}
use Rattle.nest_syntax.specs.declared.tree.Expr.{Expr}
use Rattle.nest_syntax.specs.declared.tree.Arm.{Arm}
use Rattle.nest_syntax.specs.declared.tree.Loop.{Loop}
use Rattle.nest_syntax.specs.declared.tree.Stmt.{Stmt}
use Rattle.nest_syntax.specs.declared.tree.Stmt.TheOpen.{Stmt-F, Arm-F, Loop-F}
use Rattle.nest_syntax.specs.declared.tree.Stmt.TheFolds.{fold-Stmt, fold-Arm, fold-Loop, fold-roll-Stmt, fold_out-Arm, fold_out-Loop}
use Rattle.nest_syntax.specs.declared.tree.Stmt.TheVariants as stmt
use Rattle.nest_syntax.specs.declared.tree.Stmt.TheVariants.{rolls-Declare, rolls-Assign, rolls-Write, rolls-If, rolls-Loop}
use Rattle.nest_syntax.specs.declared.tree.Program.{Program}
use Rattle.nest_syntax.specs.Among.{is_among}
use Rattle.nest_syntax.specs.Locals.{locals_of}
use Rattle.nest_check.specs.Tables.{scalar_of}
use Rattle.data_local.specs.Names.{scalars_in}
use Rattle.claim_walk.specs.Walk.{Setting, is_slice}

-- A part of a body: whether it fits where these names are bound, under a data test or not.
abbrev pub Test : Type 0
Test = List ℕ → Bool → Bool

-- a statement: the names that are bound behind it too
pub record Fitting : Type 0 where
  pub fits : Test
  pub behind : List ℕ → List ℕ

-- an arm: whether its test may stand there, whether it is a data test, and its block
pub record Arm_fitting : Type 0 where
  pub sees : List ℕ → Bool
  pub is_data : Bool
  pub fits : Test

abbrev pub in_turn : List Fitting → Test
in_turn [] bound under = true
in_turn (s ∷ stmts) bound under = s.fits bound under && in_turn stmts (s.behind bound) under

abbrev pub all_behind : List Fitting → List ℕ → List ℕ
all_behind [] bound = bound
all_behind (s ∷ stmts) bound = all_behind stmts (s.behind bound)

abbrev pub in_arms : List Arm_fitting → Test → Test
in_arms [] other bound under = other bound under
in_arms (arm ∷ arms) other bound under = arm.sees bound && (arm.fits bound (under || arm.is_data) && in_arms arms other bound (under || arm.is_data))

-- the names that a body uses only where it binds them: its locals, and all that aren't scalars of the scheduler
abbrev pub hidden_in : Program → List Stmt → ℕ → Bool
hidden_in program body name = is_among (locals_of body) name || is_none (scalar_of program name)

module _ (set : Setting) (hidden : ℕ → Bool) where
  -- a name that may be used: it is bound, or it isn't one of those that are used only where they are bound
  abbrev pub is_seen : List ℕ → ℕ → Bool
  is_seen bound name = is_among bound name || not (hidden name)

  abbrev pub sees : List ℕ → Expr → Bool
  sees bound e = list_all (is_seen bound) (scalars_in e)

  -- a slice local is given slice expressions alone, and under no data test
  abbrev pub gives : Bool → ℕ → Expr → Bool
  gives under name e = set.is_data_local name || (is_slice set e && not under)

  abbrev pub bounds_fit : List ℕ → ℕ → Expr → Expr → Bool
  bounds_fit bound name low high = (is_slice set low && is_slice set high) && ((sees bound low && sees bound high) && (hidden name && not (is_among bound name)))

  abbrev pub fits_node : Stmt-F Fitting Arm_fitting Test → Fitting
  fits_node (Stmt-F.Declare line name e) = record { fits = λ bound under. sees bound e && gives under name e; behind = λ bound. name ∷ bound }
  fits_node (Stmt-F.Assign line name op e) = record { fits = λ bound under. is_seen bound name && (sees bound e && gives under name e); behind = λ bound. bound }
  fits_node (Stmt-F.Write line name place op e) = record { fits = λ bound under. sees bound place && sees bound e; behind = λ bound. bound }
  fits_node (Stmt-F.If arms other) = record { fits = in_arms arms (in_turn other); behind = λ bound. bound }
  fits_node (Stmt-F.Loop inner) = record { fits = inner; behind = λ bound. bound }

  abbrev pub fits_arm_node : Arm-F Fitting Arm_fitting Test → Arm_fitting
  fits_arm_node arm = record { sees = λ bound. sees bound arm.test; is_data = not (is_slice set arm.test); fits = in_turn arm.body }

  abbrev pub fits_loop_node : Loop-F Fitting Arm_fitting Test → Test
  fits_loop_node l bound under = bounds_fit bound l.name l.low l.high && in_turn l.body (l.name ∷ bound) under

  abbrev pub fit : Stmt → Fitting
  fit = fold-Stmt Fitting Arm_fitting Test fits_node fits_arm_node fits_loop_node

  abbrev pub fit_arm : Arm → Arm_fitting
  fit_arm = fold-Arm Fitting Arm_fitting Test fits_node fits_arm_node fits_loop_node

  abbrev pub fit_loop : Loop → Test
  fit_loop = fold-Loop Fitting Arm_fitting Test fits_node fits_arm_node fits_loop_node

  abbrev pub fit_block : List Stmt → Test
  fit_block stmts = in_turn (map fit stmts)

  abbrev pub behind_block : List Stmt → List ℕ → List ℕ
  behind_block stmts = all_behind (map fit stmts)

  pub fit-declare : (line : Line) (name : ℕ) (e : Expr) → fit (stmt.Declare line name e) ≡ fits_node (Stmt-F.Declare line name e)
  fit-declare line name e = ap fit (sym (rolls-Declare line name e)) ∙ fold-roll-Stmt Fitting Arm_fitting Test fits_node fits_arm_node fits_loop_node (Stmt-F.Declare line name e)

  pub fit-assign : (line : Line) (name : ℕ) (o : Change) (e : Expr) → fit (stmt.Assign line name o e) ≡ fits_node (Stmt-F.Assign line name o e)
  fit-assign line name o e = ap fit (sym (rolls-Assign line name o e)) ∙ fold-roll-Stmt Fitting Arm_fitting Test fits_node fits_arm_node fits_loop_node (Stmt-F.Assign line name o e)

  pub fit-write : (line : Line) (name : ℕ) (p : Expr) (o : Change) (e : Expr) → fit (stmt.Write line name p o e) ≡ fits_node (Stmt-F.Write line name p o e)
  fit-write line name p o e = ap fit (sym (rolls-Write line name p o e)) ∙ fold-roll-Stmt Fitting Arm_fitting Test fits_node fits_arm_node fits_loop_node (Stmt-F.Write line name p o e)

  pub fit-if : (arms : List Arm) (other : List Stmt) → fit (stmt.If arms other) ≡ fits_node (Stmt-F.If (map fit_arm arms) (map fit other))
  fit-if arms other = ap fit (sym (rolls-If arms other)) ∙ fold-roll-Stmt Fitting Arm_fitting Test fits_node fits_arm_node fits_loop_node (Stmt-F.If arms other)

  pub fit-loop : (l : Loop) → fit (stmt.Loop l) ≡ fits_node (Stmt-F.Loop (fit_loop l))
  fit-loop l = ap fit (sym (rolls-Loop l)) ∙ fold-roll-Stmt Fitting Arm_fitting Test fits_node fits_arm_node fits_loop_node (Stmt-F.Loop l)

  pub fit_arm-is : (a : Arm) → fit_arm a ≡ record { sees = λ bound. sees bound a.test; is_data = not (is_slice set a.test); fits = fit_block a.body }
  fit_arm-is a = fold_out-Arm Fitting Arm_fitting Test fits_node fits_arm_node fits_loop_node a

  pub fit_loop-is : (l : Loop) → fit_loop l ≡ (λ bound under. bounds_fit bound l.name l.low l.high && fit_block l.body (l.name ∷ bound) under)
  fit_loop-is l = fold_out-Loop Fitting Arm_fitting Test fits_node fits_arm_node fits_loop_node l

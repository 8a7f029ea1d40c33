-- What is done at each kind of item, and what is told of it.
use Rattle.std.proofs.Common.{◌≡◌, ℕ, suc, ◌+◌, Some, None, List, [], ◌∷◌, ◌++◌, sym, ap, ◌∙◌, subst, arith}
use Rattle.std.specs.List.{flat_map}
use Rattle.std.proofs.lemmas.List.Folds.{flat_map-map}
use Rattle.nest_syntax.specs.declared.names.Line.{Line}
use Rattle.nest_syntax.specs.declared.operators.Op.{Op}
use Rattle.nest_syntax.specs.declared.tree.Expr.{Expr}
use Rattle.nest_syntax.specs.declared.tree.Arm.{Arm}
use Rattle.nest_syntax.specs.declared.tree.Loop.{Loop}
use Rattle.nest_syntax.specs.declared.tree.Stmt.{Stmt}
use Rattle.nest_syntax.specs.declared.tree.Stmt.TheOpen.{Stmt-F}
use Rattle.nest_syntax.specs.declared.tree.Stmt.TheFolds.{fold-roll-Stmt, fold_out-Arm, fold_out-Loop}
use Rattle.nest_syntax.specs.declared.tree.Stmt.TheVariants as stmt
use Rattle.nest_syntax.specs.declared.tree.Stmt.TheVariants.{rolls-Declare, rolls-Assign, rolls-Write, rolls-If, rolls-Loop}
use Rattle.sched_cursor.specs.Doings.{Doing, Sets, Runs, doings_node, arm_doings_node, loop_doings_node, doings, doings_in_arm, doings_of, runs, Naming, AreTold}

abbrev Does : Type 0
Does = List Doing

pub doings-declare : (line : Line) (name : ℕ) (e : Expr) → doings (stmt.Declare line name e) ≡ Sets name ∷ []
doings-declare line name e = ap doings (sym (rolls-Declare line name e)) ∙ fold-roll-Stmt Does Does Does doings_node arm_doings_node loop_doings_node (Stmt-F.Declare line name e)

pub doings-assign : (line : Line) (name : ℕ) (o : Op) (e : Expr) → doings (stmt.Assign line name o e) ≡ Sets name ∷ []
doings-assign line name o e = ap doings (sym (rolls-Assign line name o e)) ∙ fold-roll-Stmt Does Does Does doings_node arm_doings_node loop_doings_node (Stmt-F.Assign line name o e)

pub doings-write : (line : Line) (name : ℕ) (p : Expr) (o : Op) (e : Expr) → doings (stmt.Write line name p o e) ≡ Runs None ∷ []
doings-write line name p o e = ap doings (sym (rolls-Write line name p o e)) ∙ fold-roll-Stmt Does Does Does doings_node arm_doings_node loop_doings_node (Stmt-F.Write line name p o e)

pub doings-if : (arms : List Arm) (other : List Stmt) → doings (stmt.If arms other) ≡ flat_map doings_in_arm arms ++ doings_of other
doings-if arms other =
    ap doings (sym (rolls-If arms other)) ∙ fold-roll-Stmt Does Does Does doings_node arm_doings_node loop_doings_node (Stmt-F.If arms other)
    ∙ (λ i. flat_map-map (λ (ds : Does). ds) doings_in_arm arms i ++ flat_map-map (λ (ds : Does). ds) doings other i)

pub doings-loop : (l : Loop) → doings (stmt.Loop l) ≡ Runs (Some (l.name, l.step)) ∷ []
doings-loop l =
    ap doings (sym (rolls-Loop l)) ∙ fold-roll-Stmt Does Does Does doings_node arm_doings_node loop_doings_node (Stmt-F.Loop l)
    ∙ fold_out-Loop Does Does Does doings_node arm_doings_node loop_doings_node l

pub doings_in_arm-is : (a : Arm) → doings_in_arm a ≡ doings_of a.body
doings_in_arm-is a = fold_out-Arm Does Does Does doings_node arm_doings_node loop_doings_node a ∙ flat_map-map (λ (ds : Does). ds) doings a.body

pub runs-append : (xs ys : Does) → runs (xs ++ ys) ≡ runs xs + runs ys
runs-append [] ys = omega arith
runs-append (Sets name ∷ xs) ys = runs-append xs ys
runs-append (Runs variable ∷ xs) ys = let rest = runs-append xs ys in omega (arith, rest)

pub told_split : (naming : Naming) (first : ℕ) (xs ys : Does) → AreTold naming first (xs ++ ys) → AreTold naming first xs × AreTold naming (first + runs xs) ys
told_split naming first [] ys told = let at : first ≡ first + 0 = omega arith in (tt, subst (λ f. AreTold naming f ys) at told)
told_split naming first (Sets name ∷ xs) ys told = let rest = told_split naming first xs ys told.1 in ((told.0, rest.0), rest.1)
told_split naming first (Runs variable ∷ xs) ys told =
    let rest = told_split naming (suc first) xs ys told.1 in
    let at : suc first + runs xs ≡ first + suc (runs xs) = omega arith in
    ((told.0, rest.0), subst (λ f. AreTold naming f ys) at rest.1)

-- What the folds over the tree are at each kind of node, as equations.
use Rattle.std.proofs.Common.{◌≡◌, ℕ, ℤ, Bool, false, ◌||◌, if◌then◌else◌, Result, Ok, List, [], ◌∷◌, ◌++◌, map, sym, ap, ◌∙◌}
use Rattle.std.specs.List.{concat}
use Rattle.nest_syntax.specs.declared.names.Line.{Line}
use Rattle.nest_syntax.specs.declared.operators.Bin.{Bin}
use Rattle.nest_syntax.specs.declared.operators.Un.{Un}
use Rattle.nest_syntax.specs.declared.operators.Op.{Op as Change}
use Rattle.nest_syntax.specs.declared.operators.Cause.{Cause}
use Rattle.nest_syntax.specs.declared.tree.Expr.{Expr}
use Rattle.nest_syntax.specs.declared.tree.Expr.TheOpen.{Expr-F}
use Rattle.nest_syntax.specs.declared.tree.Expr.TheFolds.{fold-roll-Expr}
use Rattle.nest_syntax.specs.declared.tree.Expr.TheVariants as expr
use Rattle.nest_syntax.specs.declared.tree.Expr.TheVariants.{rolls-Number, rolls-Scalar, rolls-Word, rolls-Unary, rolls-Binary, rolls-Choice}
use Rattle.nest_syntax.specs.declared.tree.Arm.{Arm, roll-out-Arm, out-Arm}
use Rattle.nest_syntax.specs.declared.tree.Loop.{Loop, roll-out-Loop, out-Loop}
use Rattle.nest_syntax.specs.declared.tree.Stmt.{Stmt}
use Rattle.nest_syntax.specs.declared.tree.Stmt.TheOpen.{Stmt-F}
use Rattle.nest_syntax.specs.declared.tree.Stmt.TheFolds.{fold-roll-Stmt, fold_out-Arm, fold_out-Loop, fold-Arm, para-roll-Stmt, para-roll-Loop, para-roll-Arm}
use Rattle.nest_syntax.specs.declared.tree.Stmt.TheVariants as stmt
use Rattle.nest_syntax.specs.declared.tree.Stmt.TheVariants.{rolls-Declare, rolls-Assign, rolls-Write, rolls-If, rolls-Loop}
use Rattle.nest_syntax.specs.Words.{is_zero, apply_un, turns, counted, variable}
use Rattle.nest_syntax.specs.Arrays.{Array}
use Rattle.nest_syntax.specs.Value.{value, value_node, and_then, operate, read, scalar_at, names_written, names_written_node, is_written}
use Rattle.nest_syntax.specs.Turn.{Go, Reckoning, Effect, Arm_effect, reckoning, reckoning_node, effect, effect_node, arm_node, loop_node, loop_effect, sequence, looping}
use Rattle.nest_syntax.specs.Locals.{given, given_node, given_arm_node, given_loop_node, given_in_arm, given_in_loop, names_given}
use Rattle.nest_syntax.specs.Course.{Setting, Item, Tested, Looped, item_node, tested_node, looped_node, item_of, tested_of, looped_of}

-- the value of an expression
module _ (arrays : List Array) (scalars words : List ℤ) where
  pub value-number : (n : ℤ) → value arrays scalars words (expr.Number n) ≡ Ok n
  value-number n = ap (value arrays scalars words) (sym (rolls-Number n)) ∙ fold-roll-Expr (Result ℤ Cause) (value_node arrays scalars words) (Expr-F.Number n)

  pub value-scalar : (name : ℕ) → value arrays scalars words (expr.Scalar name) ≡ Ok (scalar_at scalars name)
  value-scalar name = ap (value arrays scalars words) (sym (rolls-Scalar name)) ∙ fold-roll-Expr (Result ℤ Cause) (value_node arrays scalars words) (Expr-F.Scalar name)

  pub value-word : (name : ℕ) (place : Expr) → value arrays scalars words (expr.Word name place) ≡ and_then (value arrays scalars words place) (read arrays words name)
  value-word name place = ap (value arrays scalars words) (sym (rolls-Word name place)) ∙ fold-roll-Expr (Result ℤ Cause) (value_node arrays scalars words) (Expr-F.Word name place)

  pub value-unary : (o : Un) (a : Expr) → value arrays scalars words (expr.Unary o a) ≡ and_then (value arrays scalars words a) (λ v. Ok (apply_un o v))
  value-unary o a = ap (value arrays scalars words) (sym (rolls-Unary o a)) ∙ fold-roll-Expr (Result ℤ Cause) (value_node arrays scalars words) (Expr-F.Unary o a)

  pub value-binary : (o : Bin) (a b : Expr) → value arrays scalars words (expr.Binary o a b) ≡ and_then (value arrays scalars words a) (λ v. operate o v (value arrays scalars words b))
  value-binary o a b = ap (value arrays scalars words) (sym (rolls-Binary o a b)) ∙ fold-roll-Expr (Result ℤ Cause) (value_node arrays scalars words) (Expr-F.Binary o a b)

  pub value-choice : (t a b : Expr) → value arrays scalars words (expr.Choice t a b) ≡ and_then (value arrays scalars words t) (λ v. if is_zero v then value arrays scalars words b else value arrays scalars words a)
  value-choice t a b = ap (value arrays scalars words) (sym (rolls-Choice t a b)) ∙ fold-roll-Expr (Result ℤ Cause) (value_node arrays scalars words) (Expr-F.Choice t a b)

-- whether an expression names a written array
module _ (arrays : List Array) where
  pub names_written-number : (n : ℤ) → names_written arrays (expr.Number n) ≡ false
  names_written-number n = ap (names_written arrays) (sym (rolls-Number n)) ∙ fold-roll-Expr Bool (names_written_node arrays) (Expr-F.Number n)

  pub names_written-scalar : (name : ℕ) → names_written arrays (expr.Scalar name) ≡ false
  names_written-scalar name = ap (names_written arrays) (sym (rolls-Scalar name)) ∙ fold-roll-Expr Bool (names_written_node arrays) (Expr-F.Scalar name)

  pub names_written-word : (name : ℕ) (place : Expr) → names_written arrays (expr.Word name place) ≡ (is_written arrays name || names_written arrays place)
  names_written-word name place = ap (names_written arrays) (sym (rolls-Word name place)) ∙ fold-roll-Expr Bool (names_written_node arrays) (Expr-F.Word name place)

  pub names_written-unary : (o : Un) (a : Expr) → names_written arrays (expr.Unary o a) ≡ names_written arrays a
  names_written-unary o a = ap (names_written arrays) (sym (rolls-Unary o a)) ∙ fold-roll-Expr Bool (names_written_node arrays) (Expr-F.Unary o a)

  pub names_written-binary : (o : Bin) (a b : Expr) → names_written arrays (expr.Binary o a b) ≡ (names_written arrays a || names_written arrays b)
  names_written-binary o a b = ap (names_written arrays) (sym (rolls-Binary o a b)) ∙ fold-roll-Expr Bool (names_written_node arrays) (Expr-F.Binary o a b)

  pub names_written-choice : (t a b : Expr) → names_written arrays (expr.Choice t a b) ≡ (names_written arrays t || (names_written arrays a || names_written arrays b))
  names_written-choice t a b = ap (names_written arrays) (sym (rolls-Choice t a b)) ∙ fold-roll-Expr Bool (names_written_node arrays) (Expr-F.Choice t a b)

-- what an expression does
module _ (arrays : List Array) where
  pub reckoning-number : (n : ℤ) → reckoning arrays (expr.Number n) ≡ reckoning_node arrays (Expr-F.Number n)
  reckoning-number n = ap (reckoning arrays) (sym (rolls-Number n)) ∙ fold-roll-Expr Reckoning (reckoning_node arrays) (Expr-F.Number n)

  pub reckoning-scalar : (name : ℕ) → reckoning arrays (expr.Scalar name) ≡ reckoning_node arrays (Expr-F.Scalar name)
  reckoning-scalar name = ap (reckoning arrays) (sym (rolls-Scalar name)) ∙ fold-roll-Expr Reckoning (reckoning_node arrays) (Expr-F.Scalar name)

  pub reckoning-word : (name : ℕ) (place : Expr) → reckoning arrays (expr.Word name place) ≡ reckoning_node arrays (Expr-F.Word name (reckoning arrays place))
  reckoning-word name place = ap (reckoning arrays) (sym (rolls-Word name place)) ∙ fold-roll-Expr Reckoning (reckoning_node arrays) (Expr-F.Word name place)

  pub reckoning-unary : (o : Un) (a : Expr) → reckoning arrays (expr.Unary o a) ≡ reckoning_node arrays (Expr-F.Unary o (reckoning arrays a))
  reckoning-unary o a = ap (reckoning arrays) (sym (rolls-Unary o a)) ∙ fold-roll-Expr Reckoning (reckoning_node arrays) (Expr-F.Unary o a)

  pub reckoning-binary : (o : Bin) (a b : Expr) → reckoning arrays (expr.Binary o a b) ≡ reckoning_node arrays (Expr-F.Binary o (reckoning arrays a) (reckoning arrays b))
  reckoning-binary o a b = ap (reckoning arrays) (sym (rolls-Binary o a b)) ∙ fold-roll-Expr Reckoning (reckoning_node arrays) (Expr-F.Binary o a b)

  pub reckoning-choice : (t a b : Expr) → reckoning arrays (expr.Choice t a b) ≡ reckoning_node arrays (Expr-F.Choice (reckoning arrays t) (reckoning arrays a) (reckoning arrays b))
  reckoning-choice t a b = ap (reckoning arrays) (sym (rolls-Choice t a b)) ∙ fold-roll-Expr Reckoning (reckoning_node arrays) (Expr-F.Choice t a b)

-- what a statement does in a body
module _ (arrays : List Array) where
  abbrev pub arm_effect : Arm → Arm_effect
  arm_effect = fold-Arm Effect Arm_effect Effect (effect_node arrays) (arm_node arrays) (loop_node arrays)

  pub effect-declare : (line : Line) (name : ℕ) (e : Expr) → effect arrays (stmt.Declare line name e) ≡ effect_node arrays (Stmt-F.Declare line name e)
  effect-declare line name e = ap (effect arrays) (sym (rolls-Declare line name e)) ∙ fold-roll-Stmt Effect Arm_effect Effect (effect_node arrays) (arm_node arrays) (loop_node arrays) (Stmt-F.Declare line name e)

  pub effect-assign : (line : Line) (name : ℕ) (o : Change) (e : Expr) → effect arrays (stmt.Assign line name o e) ≡ effect_node arrays (Stmt-F.Assign line name o e)
  effect-assign line name o e = ap (effect arrays) (sym (rolls-Assign line name o e)) ∙ fold-roll-Stmt Effect Arm_effect Effect (effect_node arrays) (arm_node arrays) (loop_node arrays) (Stmt-F.Assign line name o e)

  pub effect-write : (line : Line) (name : ℕ) (p : Expr) (o : Change) (e : Expr) → effect arrays (stmt.Write line name p o e) ≡ effect_node arrays (Stmt-F.Write line name p o e)
  effect-write line name p o e = ap (effect arrays) (sym (rolls-Write line name p o e)) ∙ fold-roll-Stmt Effect Arm_effect Effect (effect_node arrays) (arm_node arrays) (loop_node arrays) (Stmt-F.Write line name p o e)

  pub effect-if : (arms : List Arm) (other : List Stmt) → effect arrays (stmt.If arms other) ≡ effect_node arrays (Stmt-F.If (map arm_effect arms) (map (effect arrays) other))
  effect-if arms other = ap (effect arrays) (sym (rolls-If arms other)) ∙ fold-roll-Stmt Effect Arm_effect Effect (effect_node arrays) (arm_node arrays) (loop_node arrays) (Stmt-F.If arms other)

  pub effect-loop : (l : Loop) → effect arrays (stmt.Loop l) ≡ loop_effect arrays l
  effect-loop l = ap (effect arrays) (sym (rolls-Loop l)) ∙ fold-roll-Stmt Effect Arm_effect Effect (effect_node arrays) (arm_node arrays) (loop_node arrays) (Stmt-F.Loop l)

  pub arm_effect-is : (a : Arm) → arm_effect a ≡ (λ scalars otherwise go. reckoning arrays a.test a.line scalars (λ v. Go (if is_zero v then otherwise else sequence (map (effect arrays) a.body) scalars go)))
  arm_effect-is a = fold_out-Arm Effect Arm_effect Effect (effect_node arrays) (arm_node arrays) (loop_node arrays) a

  pub loop_effect-is : (l : Loop) → loop_effect arrays l ≡ (λ scalars go. reckoning arrays l.low l.line scalars (λ low. reckoning arrays l.high l.line scalars (λ high. looping l.line (counted (turns low high l.step l.through)) (variable low l.step) l.name (sequence (map (effect arrays) l.body)) scalars go)))
  loop_effect-is l = fold_out-Loop Effect Arm_effect Effect (effect_node arrays) (arm_node arrays) (loop_node arrays) l

-- the names that a statement, an arm and a loop give values
module _ (assigned : Bool) where
  pub given-declare : (line : Line) (name : ℕ) (e : Expr) → given assigned (stmt.Declare line name e) ≡ name ∷ []
  given-declare line name e = ap (given assigned) (sym (rolls-Declare line name e)) ∙ fold-roll-Stmt (List ℕ) (List ℕ) (List ℕ) (given_node assigned) given_arm_node given_loop_node (Stmt-F.Declare line name e)

  pub given-assign : (line : Line) (name : ℕ) (o : Change) (e : Expr) → given assigned (stmt.Assign line name o e) ≡ (if assigned then name ∷ [] else [])
  given-assign line name o e = ap (given assigned) (sym (rolls-Assign line name o e)) ∙ fold-roll-Stmt (List ℕ) (List ℕ) (List ℕ) (given_node assigned) given_arm_node given_loop_node (Stmt-F.Assign line name o e)

  pub given-write : (line : Line) (name : ℕ) (p : Expr) (o : Change) (e : Expr) → given assigned (stmt.Write line name p o e) ≡ []
  given-write line name p o e = ap (given assigned) (sym (rolls-Write line name p o e)) ∙ fold-roll-Stmt (List ℕ) (List ℕ) (List ℕ) (given_node assigned) given_arm_node given_loop_node (Stmt-F.Write line name p o e)

  pub given-if : (arms : List Arm) (other : List Stmt) → given assigned (stmt.If arms other) ≡ concat (map (given_in_arm assigned) arms) ++ names_given assigned other
  given-if arms other = ap (given assigned) (sym (rolls-If arms other)) ∙ fold-roll-Stmt (List ℕ) (List ℕ) (List ℕ) (given_node assigned) given_arm_node given_loop_node (Stmt-F.If arms other)

  pub given-loop : (l : Loop) → given assigned (stmt.Loop l) ≡ given_in_loop assigned l
  given-loop l = ap (given assigned) (sym (rolls-Loop l)) ∙ fold-roll-Stmt (List ℕ) (List ℕ) (List ℕ) (given_node assigned) given_arm_node given_loop_node (Stmt-F.Loop l)

  pub given_in_arm-is : (arm : Arm) → given_in_arm assigned arm ≡ names_given assigned arm.body
  given_in_arm-is arm = fold_out-Arm (List ℕ) (List ℕ) (List ℕ) (given_node assigned) given_arm_node given_loop_node arm

  pub given_in_loop-is : (l : Loop) → given_in_loop assigned l ≡ l.name ∷ names_given assigned l.body
  given_in_loop-is l = fold_out-Loop (List ℕ) (List ℕ) (List ℕ) (given_node assigned) given_arm_node given_loop_node l

-- what a statement, an arm and a loop are among the items
module _ (setting : Setting) where
  pub item-declare : (line : Line) (name : ℕ) (e : Expr) → item_of setting (stmt.Declare line name e) ≡ item_node setting (Stmt-F.Declare line name e)
  item-declare line name e = ap (item_of setting) (sym (rolls-Declare line name e)) ∙ para-roll-Stmt Item Tested Looped (item_node setting) (tested_node setting) (looped_node setting) (Stmt-F.Declare line name e)

  pub item-assign : (line : Line) (name : ℕ) (o : Change) (e : Expr) → item_of setting (stmt.Assign line name o e) ≡ item_node setting (Stmt-F.Assign line name o e)
  item-assign line name o e = ap (item_of setting) (sym (rolls-Assign line name o e)) ∙ para-roll-Stmt Item Tested Looped (item_node setting) (tested_node setting) (looped_node setting) (Stmt-F.Assign line name o e)

  pub item-write : (line : Line) (name : ℕ) (p : Expr) (o : Change) (e : Expr) → item_of setting (stmt.Write line name p o e) ≡ item_node setting (Stmt-F.Write line name p o e)
  item-write line name p o e = ap (item_of setting) (sym (rolls-Write line name p o e)) ∙ para-roll-Stmt Item Tested Looped (item_node setting) (tested_node setting) (looped_node setting) (Stmt-F.Write line name p o e)

  pub item-if : (arms : List Arm) (other : List Stmt) → item_of setting (stmt.If arms other) ≡ item_node setting (Stmt-F.If (map (λ a. (a, tested_of setting a)) arms) (map (λ s. (s, item_of setting s)) other))
  item-if arms other = ap (item_of setting) (sym (rolls-If arms other)) ∙ para-roll-Stmt Item Tested Looped (item_node setting) (tested_node setting) (looped_node setting) (Stmt-F.If arms other)

  pub item-loop : (l : Loop) → item_of setting (stmt.Loop l) ≡ (looped_of setting l).invocation
  item-loop l = ap (item_of setting) (sym (rolls-Loop l)) ∙ para-roll-Stmt Item Tested Looped (item_node setting) (tested_node setting) (looped_node setting) (Stmt-F.Loop l)

  pub looped-is : (l : Loop) → looped_of setting l ≡ looped_node setting (record { line = l.line; name = l.name; low = l.low; high = l.high; through = l.through; step = l.step; body = map (λ s. (s, item_of setting s)) l.body })
  looped-is l = ap (looped_of setting) (sym (roll-out-Loop l)) ∙ para-roll-Loop Item Tested Looped (item_node setting) (tested_node setting) (looped_node setting) (out-Loop l)

  pub tested-is : (a : Arm) → tested_of setting a ≡ tested_node setting (record { line = a.line; test = a.test; body = map (λ s. (s, item_of setting s)) a.body })
  tested-is a = ap (tested_of setting) (sym (roll-out-Arm a)) ∙ para-roll-Arm Item Tested Looped (item_node setting) (tested_node setting) (looped_node setting) (out-Arm a)

-- Where the names of a body stand, and which expressions and statements can be compiled: their names have registers, and
-- their temporaries are among those that a frame has.
use Rattle.std.specs.Prelude.{ℕ, ◌+◌, pos, Bool, true, false, ◌&&◌, nat_lt, is_some, Option, Some, None, List, slice_index_or}
use Rattle.std.specs.List.{list_all}
use Rattle.nest_syntax.specs.declared.names.Line.{Line}
use Rattle.nest_syntax.specs.declared.tree.Expr.{Expr, fold-Expr}
use Rattle.nest_syntax.specs.declared.tree.Expr.TheOpen.{Expr-F}
use Rattle.nest_syntax.specs.declared.tree.Arm.{Arm}
use Rattle.nest_syntax.specs.declared.tree.Loop.{Loop}
use Rattle.nest_syntax.specs.declared.tree.Stmt.{Stmt}
use Rattle.nest_syntax.specs.declared.tree.Stmt.TheOpen.{Stmt-F, Arm-F, Loop-F}
use Rattle.nest_syntax.specs.declared.tree.Stmt.TheFolds.{fold-Stmt, fold-Arm, fold-Loop}
use Rattle.nest_syntax.specs.declared.tree.Program.{Program}
use Rattle.nest_syntax.specs.Arrays.{arrays_of, sizes_of, array_of}
use Rattle.nest_check.specs.Declarations.{index_of_name}
use Rattle.nest_check.specs.Tables.{scalar_of}
use Rattle.task_hop.specs.declared.frame.Register.{Register}
use Rattle.task_hop.specs.declared.frame.Register.TheVariants as register
use Rattle.task_hop.specs.declared.frame.Operand.{Operand}
use Rattle.task_hop.specs.declared.frame.Operand.TheVariants as operand
use Rattle.task_hop.specs.declared.end.Subscript.{Subscript}

abbrev pub register_by : Option ℕ → Option ℕ → Option Register
register_by (Some slot) number = Some (register.Local slot)
register_by None (Some number) = Some (register.Scalar number)
register_by None None = None

-- the register of a name in a body with these locals: a local's, else a scheduler scalar's
abbrev pub register_of : Program → List ℕ → ℕ → Option Register
register_of program locals name = register_by (index_of_name locals name) (scalar_of program name)

abbrev pub operand_in : Option Register → Operand
operand_in (Some r) = operand.Held r
operand_in None = operand.Number (pos 0)

-- Where the value of an expression is, once it is reckoned: a number and a name stand for themselves, any other value is
-- in a temporary.
abbrev pub operand_node : Program → List ℕ → ℕ → Expr-F Operand → Operand
operand_node program locals into (Expr-F.Number n) = operand.Number n
operand_node program locals into (Expr-F.Scalar name) = operand_in (register_of program locals name)
operand_node program locals into (Expr-F.Word array place) = operand.Held (register.Temporary into)
operand_node program locals into (Expr-F.Unary op part) = operand.Held (register.Temporary into)
operand_node program locals into (Expr-F.Binary op left right) = operand.Held (register.Temporary into)
operand_node program locals into (Expr-F.Choice test first second) = operand.Held (register.Temporary into)

abbrev pub operand_of : Program → List ℕ → ℕ → Expr → Operand
operand_of program locals into = fold-Expr Operand (operand_node program locals into)

-- whether an expression is a number or a name
abbrev pub leaf_node : Expr-F Bool → Bool
leaf_node (Expr-F.Number n) = true
leaf_node (Expr-F.Scalar name) = true
leaf_node (Expr-F.Word array place) = false
leaf_node (Expr-F.Unary op part) = false
leaf_node (Expr-F.Binary op left right) = false
leaf_node (Expr-F.Choice test first second) = false

abbrev pub is_leaf : Expr → Bool
is_leaf = fold-Expr Bool leaf_node

-- an array as code names it; a name that is no array's has no place
abbrev pub subscript_by : List ℕ → Option ℕ → Operand → Line → Subscript
subscript_by sizes None at line = record { array = 0; size = 0; at = at; line = line }
subscript_by sizes (Some array) at line = record { array = array; size = slice_index_or sizes array 0; at = at; line = line }

abbrev pub subscript_of : Program → ℕ → Operand → Line → Subscript
subscript_of program name at line = subscript_by (sizes_of (arrays_of program.decls)) (array_of (arrays_of program.decls) name) at line

-- An expression can be reckoned with the temporaries from one on: the right operand of an operation takes those behind it.
abbrev pub ready_node : Program → List ℕ → Expr-F (ℕ → Bool) → ℕ → Bool
ready_node program locals (Expr-F.Number n) into = true
ready_node program locals (Expr-F.Scalar name) into = is_some (register_of program locals name)
ready_node program locals (Expr-F.Word array place) into = nat_lt into 32 && place into
ready_node program locals (Expr-F.Unary op part) into = nat_lt into 32 && part into
ready_node program locals (Expr-F.Binary op left right) into = nat_lt into 32 && (left into && right (into + 1))
ready_node program locals (Expr-F.Choice test first second) into = nat_lt into 32 && (test into && (first into && second into))

abbrev pub expr_ready : Program → List ℕ → Expr → ℕ → Bool
expr_ready program locals = fold-Expr (ℕ → Bool) (ready_node program locals)

-- A statement can be compiled with the temporaries from one on: the names that it gives a value are locals, and a loop
-- keeps two temporaries through its body.
abbrev pub ready_stmt_node : Program → List ℕ → Stmt-F (ℕ → Bool) (ℕ → Bool) (ℕ → Bool) → ℕ → Bool
ready_stmt_node program locals (Stmt-F.Declare line name value) into = is_some (index_of_name locals name) && (nat_lt into 32 && expr_ready program locals value into)
ready_stmt_node program locals (Stmt-F.Assign line name op value) into = is_some (index_of_name locals name) && (nat_lt into 32 && expr_ready program locals value into)
ready_stmt_node program locals (Stmt-F.Write line array place op value) into = nat_lt (into + 2) 32 && (expr_ready program locals place into && expr_ready program locals value (into + 1))
ready_stmt_node program locals (Stmt-F.If arms other) into = list_all (λ (f : ℕ → Bool). f into) arms && list_all (λ (f : ℕ → Bool). f into) other
ready_stmt_node program locals (Stmt-F.Loop l) into = l into

abbrev pub ready_arm_node : Program → List ℕ → Arm-F (ℕ → Bool) (ℕ → Bool) (ℕ → Bool) → ℕ → Bool
ready_arm_node program locals arm into = expr_ready program locals arm.test into && list_all (λ (f : ℕ → Bool). f into) arm.body

abbrev pub ready_loop_node : Program → List ℕ → Loop-F (ℕ → Bool) (ℕ → Bool) (ℕ → Bool) → ℕ → Bool
ready_loop_node program locals l into =
    is_some (index_of_name locals l.name) && (nat_lt 0 l.step && (nat_lt (into + 1) 32
    && (expr_ready program locals l.low into && (expr_ready program locals l.high (into + 1) && list_all (λ (f : ℕ → Bool). f (into + 2)) l.body))))

abbrev pub stmt_ready : Program → List ℕ → Stmt → ℕ → Bool
stmt_ready program locals = fold-Stmt (ℕ → Bool) (ℕ → Bool) (ℕ → Bool) (ready_stmt_node program locals) (ready_arm_node program locals) (ready_loop_node program locals)

abbrev pub arm_ready : Program → List ℕ → Arm → ℕ → Bool
arm_ready program locals = fold-Arm (ℕ → Bool) (ℕ → Bool) (ℕ → Bool) (ready_stmt_node program locals) (ready_arm_node program locals) (ready_loop_node program locals)

abbrev pub loop_ready : Program → List ℕ → Loop → ℕ → Bool
loop_ready program locals = fold-Loop (ℕ → Bool) (ℕ → Bool) (ℕ → Bool) (ready_stmt_node program locals) (ready_arm_node program locals) (ready_loop_node program locals)

abbrev pub block_ready : Program → List ℕ → List Stmt → ℕ → Bool
block_ready program locals stmts into = list_all (λ s. stmt_ready program locals s into) stmts

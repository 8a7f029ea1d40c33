-- The accesses of the body of an invocation: its reads and writes of written arrays in the order of evaluation, every
-- branch counted. What stands in a loop with literal bounds and no turns is never made, and is left out.
use Rattle.std.specs.Prelude.{◌≡◌, ℕ, Bool, true, false, if◌then◌else◌, Option, Some, None, List, [], ◌∷◌, ◌++◌, map}
use Rattle.std.specs.Option.{option_map, option_and_then}
use Rattle.nest_syntax.specs.declared.names.Line.{Line}
use Rattle.nest_syntax.specs.declared.operators.Op.{Op}
use Rattle.nest_syntax.specs.declared.operators.Bin.{Bin}
use Rattle.nest_syntax.specs.declared.tree.Expr.{Expr, para-Expr}
use Rattle.nest_syntax.specs.declared.tree.Expr.TheOpen.{Expr-F}
use Rattle.nest_syntax.specs.declared.tree.Arm.{Arm}
use Rattle.nest_syntax.specs.declared.tree.Loop.{Loop}
use Rattle.nest_syntax.specs.declared.tree.Stmt.{Stmt}
use Rattle.nest_syntax.specs.declared.tree.Stmt.TheOpen.{Stmt-F, Arm-F, Loop-F}
use Rattle.nest_syntax.specs.declared.tree.Stmt.TheFolds.{fold-Stmt, fold-Arm, fold-Loop}
use Rattle.nest_syntax.specs.declared.tree.Program.{Program}
use Rattle.nest_syntax.specs.Words.{operation_of}
use Rattle.nest_syntax.specs.Arrays.{arrays_of}
use Rattle.nest_syntax.specs.Value.{is_written}
use Rattle.dep_graph.specs.declared.forms.Form.{Form}
use Rattle.dep_graph.specs.declared.around.Around.{Around}
use Rattle.dep_graph.specs.declared.around.Around.TheVariants as around
use Rattle.dep_graph.specs.declared.around.Header.{Header}
use Rattle.dep_graph.specs.declared.around.Header.TheVariants as header
use Rattle.dep_graph.specs.declared.accesses.Subscript.{Subscript}
use Rattle.dep_graph.specs.declared.accesses.Access.{Access}
use Rattle.nest_syntax.specs.Among.{is_among}
use Rattle.data_local.specs.Written.{TellsWritten}
use Rattle.dep_graph.specs.Forms.{is_given, symbol_of, form_of}
use Rattle.dep_graph.specs.Spans.{header_of, within, span_of, narrow}

-- what is looked up: the written arrays of the program, and the names that the body gives
pub record Knows (program : Program) (nest : Loop) (written given : List ℕ) : Type 0 where
  pub arrays : TellsWritten (arrays_of program.decls) written
  pub names : (name : ℕ) → is_among given name ≡ is_given nest name

-- the form of a subscript with its span; where the span is too wide, the form counts as none
abbrev pub subscript_with : Around → Form → Option Subscript
subscript_with inside f = option_map (λ s. record { form = f; span = s }) (narrow (span_of inside f))

abbrev pub subscript_of : Program → Loop → Around → Expr → Option Subscript
subscript_of program nest inside place = option_and_then (subscript_with inside) (form_of (symbol_of program nest inside) place)

-- an access of an array, where it is a written one
abbrev pub access : Program → Loop → Around → ℕ → Expr → Bool → Line → List Access
access program nest inside array place write line = if is_written (arrays_of program.decls) array then record { at = record { array = array; write = write; line = line }; subscript = subscript_of program nest inside place } ∷ [] else []

-- the reads of an expression: one layer, where each part stands beside its reads
abbrev pub reads_node : Program → Loop → Line → Around → Expr-F (Expr × List Access) → List Access
reads_node program nest line inside (Expr-F.Number n) = []
reads_node program nest line inside (Expr-F.Scalar name) = []
reads_node program nest line inside (Expr-F.Word array place) = place.1 ++ access program nest inside array place.0 false line
reads_node program nest line inside (Expr-F.Unary operation part) = part.1
reads_node program nest line inside (Expr-F.Binary operation left right) = left.1 ++ right.1
reads_node program nest line inside (Expr-F.Choice test first second) = test.1 ++ (first.1 ++ second.1)

abbrev pub reads : Program → Loop → Line → Around → Expr → List Access
reads program nest line inside = para-Expr (List Access) (reads_node program nest line inside)

-- behind `op=` the word is read before it is written
abbrev pub changes : Program → Loop → Around → ℕ → Expr → Option Bin → Line → List Access
changes program nest inside array place None line = access program nest inside array place true line
changes program nest inside array place (Some operation) line = access program nest inside array place false line ++ access program nest inside array place true line

-- the accesses of a part of the body, from the loops around it
abbrev pub Accesses : Type 0
Accesses = Around → List Access

abbrev pub all_of : List Accesses → Accesses
all_of [] inside = []
all_of (part ∷ parts) inside = part inside ++ all_of parts inside

-- the block of a loop
abbrev pub turned : Header → Accesses → Accesses
turned header.Open block inside = block inside
turned header.Idle block inside = []
turned (header.Turns l) block inside = block (within inside l)

module _ (program : Program) (nest : Loop) where
  -- one layer of a statement, an arm and a loop
  abbrev pub accesses_node : Stmt-F Accesses Accesses Accesses → Accesses
  accesses_node (Stmt-F.Declare line name value) inside = reads program nest line inside value
  accesses_node (Stmt-F.Assign line name op value) inside = reads program nest line inside value
  accesses_node (Stmt-F.Write line array place op value) inside = reads program nest line inside place ++ (reads program nest line inside value ++ changes program nest inside array place (operation_of op) line)
  accesses_node (Stmt-F.If arms other) inside = all_of arms inside ++ all_of other inside
  accesses_node (Stmt-F.Loop l) inside = l inside

  abbrev pub arm_accesses_node : Arm-F Accesses Accesses Accesses → Accesses
  arm_accesses_node arm inside = reads program nest arm.line inside arm.test ++ all_of arm.body inside

  abbrev pub loop_accesses_node : Loop-F Accesses Accesses Accesses → Accesses
  loop_accesses_node l inside = reads program nest l.line inside l.low ++ (reads program nest l.line inside l.high ++ turned (header_of l.name l.low l.high l.through l.step) (all_of l.body) inside)

  -- the accesses of a statement, an arm, a loop and a block
  abbrev pub accesses : Stmt → Accesses
  accesses = fold-Stmt Accesses Accesses Accesses accesses_node arm_accesses_node loop_accesses_node

  abbrev pub arm_accesses : Arm → Accesses
  arm_accesses = fold-Arm Accesses Accesses Accesses accesses_node arm_accesses_node loop_accesses_node

  abbrev pub loop_accesses : Loop → Accesses
  loop_accesses = fold-Loop Accesses Accesses Accesses accesses_node arm_accesses_node loop_accesses_node

  abbrev pub block_accesses : List Stmt → Accesses
  block_accesses stmts = all_of (map accesses stmts)

  -- the accesses of the invocation's body
  abbrev pub accesses_of : List Access
  accesses_of = block_accesses nest.body around.Nothing

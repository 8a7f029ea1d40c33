-- The occurrences of names in a program, in the order of its text: what is done with a name where it stands, and what it
-- is bound to there. Each arm, each last `else` block and each body of a loop is a scope of its own. The scope of a
-- declared name begins behind the value of its declaration, the scope of a loop's variable behind the low bound. Where a
-- name is declared again, the later declaration counts, until its block ends.
use Rattle.std.specs.Prelude.{ℕ, Bool, true, false, List, [], ◌∷◌, ◌++◌, map, length, replicate, slice_index_or, slice_set}
use Rattle.nest_syntax.specs.declared.names.Line.{Line}
use Rattle.nest_syntax.specs.declared.tree.Expr.{Expr, fold-Expr}
use Rattle.nest_syntax.specs.declared.tree.Expr.TheOpen.{Expr-F}
use Rattle.nest_syntax.specs.declared.tree.Arm.{Arm}
use Rattle.nest_syntax.specs.declared.tree.Loop.{Loop}
use Rattle.nest_syntax.specs.declared.tree.Stmt.{Stmt}
use Rattle.nest_syntax.specs.declared.tree.Stmt.TheOpen.{Stmt-F, Arm-F, Loop-F}
use Rattle.nest_syntax.specs.declared.tree.Stmt.TheFolds.{fold-Stmt, fold-Arm, fold-Loop}
use Rattle.nest_syntax.specs.declared.tree.Decl.{Decl}
use Rattle.nest_syntax.specs.declared.tree.Decl.TheVariants as decl
use Rattle.nest_syntax.specs.declared.tree.Program.{Program}
use Rattle.nest_scope.specs.declared.occurrences.Binding.{Binding}
use Rattle.nest_scope.specs.declared.occurrences.Binding.TheVariants as binding
use Rattle.nest_scope.specs.declared.occurrences.Level.{Level}
use Rattle.nest_scope.specs.declared.occurrences.Level.TheVariants as level
use Rattle.nest_scope.specs.declared.occurrences.Action.{Action}
use Rattle.nest_scope.specs.declared.occurrences.Action.TheVariants as action
use Rattle.nest_scope.specs.declared.occurrences.Occurrence.{Occurrence}

-- a scope: what each name of the program is bound to, by the number of the name
abbrev pub Scope : Type 0
Scope = List Binding

-- what a name is bound to
abbrev pub bound : Scope → ℕ → Binding
bound scope name = slice_index_or scope name binding.Unbound

-- the scope with a new binding of a name
abbrev pub with_bound : Scope → ℕ → Binding → Scope
with_bound scope name to = slice_set scope name to

-- the level of what stands in the block of a loop
abbrev pub inner : Level → Level
inner level.Outside = level.Items
inner level.Items = level.Body
inner level.Body = level.Body

-- what a declaration at a level binds its name to
abbrev pub declared_at : Level → Binding
declared_at level.Outside = binding.SchedulerScalar
declared_at level.Items = binding.SchedulerScalar
declared_at level.Body = binding.Local

-- what a loop at a level binds its variable to
abbrev pub variable_at : Level → Binding
variable_at level.Outside = binding.RegionVariable
variable_at level.Items = binding.LoopVariable
variable_at level.Body = binding.LoopVariable

-- a name on a line, at a level: what is done with it, and what it is bound to
abbrev pub occurrence : Line → Level → Action → Binding → Occurrence
occurrence line level does to = record { line = line; level = level; action = does; binding = to }

-- the names that an expression reads: one layer, with the lists of its parts in their places
abbrev pub read_node : Line → Level → Scope → Expr-F (List Occurrence) → List Occurrence
read_node line level scope (Expr-F.Number n) = []
read_node line level scope (Expr-F.Scalar name) = occurrence line level action.ScalarRead (bound scope name) ∷ []
read_node line level scope (Expr-F.Word array place) = occurrence line level action.WordRead (bound scope array) ∷ place
read_node line level scope (Expr-F.Unary op part) = part
read_node line level scope (Expr-F.Binary op left right) = left ++ right
read_node line level scope (Expr-F.Choice test first second) = test ++ (first ++ second)

-- the names that an expression reads, each with what it is bound to in the scope
abbrev pub read_in : Line → Level → Scope → Expr → List Occurrence
read_in line level scope = fold-Expr (List Occurrence) (read_node line level scope)

-- what a statement gives in a scope: its occurrences, and the scope behind it
pub record Walked : Type 0 where
  pub occurrences : List Occurrence
  pub behind : Scope

-- what it gives, by its level and the scope before it
abbrev pub Walk : Type 0
Walk = Level → Scope → Walked

-- the occurrences of an arm or a loop, which leave the scope as it was
abbrev pub Listing : Type 0
Listing = Level → Scope → List Occurrence

-- the statements of a block, each in the scope behind the one before
abbrev pub block : List Walk → Listing
block [] level scope = []
block (stmt ∷ stmts) level scope = (stmt level scope).occurrences ++ block stmts level (stmt level scope).behind

-- arms, or regions, each in the same scope
abbrev pub in_same_scope : List Listing → Listing
in_same_scope [] level scope = []
in_same_scope (part ∷ parts) level scope = part level scope ++ in_same_scope parts level scope

-- one layer of a statement, with what its parts give in their places: a declaration binds its name behind its value
abbrev pub stmt_node : Stmt-F Walk Listing Listing → Walk
stmt_node (Stmt-F.Declare line name value) level scope = record {
  occurrences = occurrence line level action.Declared (bound scope name) ∷ read_in line level scope value;
  behind = with_bound scope name (declared_at level);
}
stmt_node (Stmt-F.Assign line name op value) level scope = record {
  occurrences = occurrence line level action.Assigned (bound scope name) ∷ read_in line level scope value;
  behind = scope;
}
stmt_node (Stmt-F.Write line array place op value) level scope = record {
  occurrences = occurrence line level action.WordWritten (bound scope array) ∷ (read_in line level scope place ++ read_in line level scope value);
  behind = scope;
}
stmt_node (Stmt-F.If arms other) level scope = record { occurrences = in_same_scope arms level scope ++ block other level scope; behind = scope }
stmt_node (Stmt-F.Loop inside) level scope = record { occurrences = inside level scope; behind = scope }

-- one layer of an arm: its test, and its block in a scope of its own
abbrev pub arm_node : Arm-F Walk Listing Listing → Listing
arm_node arm level scope = read_in arm.line level scope arm.test ++ block arm.body level scope

-- one layer of a loop: its variable is in scope in the high bound and in the block, and not in the low bound
abbrev pub loop_node : Loop-F Walk Listing Listing → Listing
loop_node l level scope = let inside = with_bound scope l.name (variable_at level) in
    occurrence l.line level action.Declared (bound scope l.name) ∷ (read_in l.line level scope l.low ++ (read_in l.line level inside l.high ++ block l.body (inner level) inside))

-- what a statement gives, and the occurrences of an arm, a loop and a block
abbrev pub in_stmt : Stmt → Walk
in_stmt = fold-Stmt Walk Listing Listing stmt_node arm_node loop_node

abbrev pub in_arm : Arm → Listing
in_arm = fold-Arm Walk Listing Listing stmt_node arm_node loop_node

abbrev pub in_loop : Loop → Listing
in_loop = fold-Loop Walk Listing Listing stmt_node arm_node loop_node

abbrev pub in_block : List Stmt → Listing
in_block stmts = block (map in_stmt stmts)

-- what the declaration of an array binds its name to
abbrev pub array_binding : Bool → Binding
array_binding true = binding.ConstArray
array_binding false = binding.Array

-- what a declaration before the regions gives in a scope
abbrev pub in_decl : Decl → Walk
in_decl (decl.Array line name length fixed) level scope = record {
  occurrences = occurrence line level action.Declared (bound scope name) ∷ [];
  behind = with_bound scope name (array_binding fixed);
}
in_decl (decl.Scalar line name value) level scope = record {
  occurrences = occurrence line level action.Declared (bound scope name) ∷ [];
  behind = with_bound scope name (declared_at level);
}

-- the scope behind declarations
abbrev pub behind_decls : List Decl → Scope → Scope
behind_decls [] scope = scope
behind_decls (d ∷ decls) scope = behind_decls decls (in_decl d level.Outside scope).behind

-- no name is bound
abbrev pub unbound : ℕ → Scope
unbound names = replicate names binding.Unbound

-- the occurrences of the declarations before the regions, and of the regions
abbrev pub in_decls : List Decl → Scope → List Occurrence
in_decls decls scope = block (map in_decl decls) level.Outside scope

abbrev pub in_regions : List Loop → Scope → List Occurrence
in_regions regions scope = in_same_scope (map in_loop regions) level.Outside scope

-- the occurrences of a program: its declarations, and its regions in the scope behind them
abbrev pub occurrences_of : Program → List Occurrence
occurrences_of program = let opening = unbound (length program.names) in
    in_decls program.decls opening ++ in_regions program.regions (behind_decls program.decls opening)

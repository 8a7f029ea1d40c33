-- What each name in a body of a checked program is.
use Rattle.std.specs.Prelude.{◌≡◌, ℕ, true, false, Option, Some, None, List}
use Rattle.nest_syntax.specs.declared.tree.Expr.{Expr}
use Rattle.nest_syntax.specs.declared.tree.Stmt.{Stmt}
use Rattle.nest_syntax.specs.declared.tree.Program.{Program}
use Rattle.nest_syntax.specs.Named.{IsWellNamed}
use Rattle.nest_syntax.specs.Among.{Each, is_among}
use Rattle.nest_syntax.specs.Arrays.{arrays_of, array_of}
use Rattle.nest_syntax.specs.Value.{is_written}
use Rattle.nest_syntax.specs.Shape.{Body, invoked_by}
use Rattle.nest_syntax.specs.Locals.{locals_of}
use Rattle.nest_scope.specs.declared.occurrences.Action.{Action}
use Rattle.nest_scope.specs.declared.occurrences.Action.TheVariants as action
use Rattle.nest_check.specs.Kept.{KeepsRules}
use Rattle.nest_check.specs.Tables.{scalar_of}
use Rattle.bound_names.specs.Uses.{Binder, Invocation, Inside, Declaration, Bindings, binder_of, Use, uses_in_expr, uses_in, opening_bindings}

-- A scalar of the scheduler, which has its number, and an array, which has its number. Neither is a local of the body.
pub record IsScheduler (program : Program) (body : Body) (name : ℕ) : Type 0 where
  pub numbered : (n : ℕ) × (scalar_of program name ≡ Some n)
  pub no_local : is_among (locals_of body.stmts) name ≡ false

pub record IsArray (program : Program) (body : Body) (name : ℕ) : Type 0 where
  pub numbered : (n : ℕ) × (array_of (arrays_of program.decls) name ≡ Some n)
  pub no_local : is_among (locals_of body.stmts) name ≡ false

-- a name that is read as a scalar: what binds it in the body is told by `binder_of`, and what nothing there binds is a
-- scalar of the scheduler
abbrev pub IsScalar : Program → Body → ℕ → Option Binder → Type 0
IsScalar program body name (Some binder) = Unit {0}
IsScalar program body name None = IsScheduler program body name

-- a name that a declaration of the body binds, and no loop
abbrev pub IsDeclared : Option Binder → Type 0
IsDeclared None = ⊥
IsDeclared (Some (Invocation l)) = ⊥
IsDeclared (Some (Inside l)) = ⊥
IsDeclared (Some (Declaration line value)) = Unit {0}

-- a name that nothing in the body binds
abbrev pub IsUnbound : Option Binder → Type 0
IsUnbound None = Unit {0}
IsUnbound (Some binder) = ⊥

-- What a name is, by what is done with it: a name is declared where the body doesn't bind it; it is assigned where a
-- declaration binds it; an array is bound by nothing in the body, and one that is written isn't `const`.
abbrev pub MeantAs : Program → Body → ℕ → Option Binder → Action → Type 0
MeantAs program body name binder action.Declared = IsUnbound binder
MeantAs program body name binder action.Assigned = IsDeclared binder
MeantAs program body name binder action.ScalarRead = IsScalar program body name binder
MeantAs program body name binder action.WordRead = IsUnbound binder × IsArray program body name
MeantAs program body name binder action.WordWritten = IsUnbound binder × (IsArray program body name × (is_written (arrays_of program.decls) name ≡ true))

-- at each use of a name
abbrev pub IsMeant : Program → Body → Use → Type 0
IsMeant program body u = MeantAs program body u.name (binder_of u.bindings u.name) u.action

-- That each name in statements of a body, and in an expression, is so, where these names are bound. What it says of each
-- part is in `proofs/Walk`.
abbrev pub BoundIn : Program → Body → Bindings → List Stmt → Type 0
BoundIn program body bindings stmts = Each (IsMeant program body) (uses_in stmts bindings)

abbrev pub ExprBoundIn : Program → Body → Bindings → Expr → Type 0
ExprBoundIn program body bindings e = Each (IsMeant program body) (uses_in_expr bindings e)

-- in the whole body, from what is bound where it begins
abbrev pub HasMeaning : Program → Body → Type 0
HasMeaning program body = BoundIn program body (opening_bindings body) body.stmts

-- Each name in each body of a program that keeps the rules is so.
abbrev pub NamesHaveMeaning : Type 0
NamesHaveMeaning = (program : Program) → IsWellNamed program → KeepsRules program → Each (HasMeaning program) (invoked_by program)

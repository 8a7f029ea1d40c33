-- The data locals of a body: the least set of names such that a name belongs to it where one of its givings depends on an
-- expression that names a written array or a name of the set.
use Rattle.std.specs.Prelude.{◌≡◌, ℕ, true, ◌⊎◌, ◌↔◌, IsTrue, List, []}
use Rattle.nest_syntax.specs.declared.tree.Expr.{Expr}
use Rattle.nest_syntax.specs.declared.tree.Stmt.{Stmt}
use Rattle.nest_syntax.specs.Arrays.{Array}
use Rattle.nest_syntax.specs.Value.{names_written}
use Rattle.nest_syntax.specs.Among.{is_among, IsOne}
use Rattle.data_local.specs.Names.{scalars_in}
use Rattle.data_local.specs.Givings.{Giving, givings}

-- the names that are made data by these givings
pub data IsGivenData (arrays : List Array) (givings : List Giving) : ℕ → Type 0 where
  by_array : (giving : Giving) (e : Expr) → IsOne givings giving → IsOne giving.depends e → names_written arrays e ≡ true → IsGivenData arrays givings giving.name
  by_local : (giving : Giving) (e : Expr) (other : ℕ) → IsOne givings giving → IsOne giving.depends e → is_among (scalars_in e) other ≡ true
      → IsGivenData arrays givings other → IsGivenData arrays givings giving.name

abbrev pub IsDataLocal : List Array → List Stmt → ℕ → Type 0
IsDataLocal arrays body name = IsGivenData arrays (givings body) name

-- a data expression names a written array or a data local
abbrev pub IsData : List Array → List Stmt → Expr → Type 0
IsData arrays body e = (names_written arrays e ≡ true) ⊎ ((name : ℕ) × (is_among (scalars_in e) name ≡ true) × IsDataLocal arrays body name)

-- that exactly the data locals of a body are in a list of names
abbrev pub AreDataLocals : List Array → List Stmt → List ℕ → Type 0
AreDataLocals arrays body locals = (name : ℕ) → IsTrue (is_among locals name) ↔ IsDataLocal arrays body name

-- What the engine keeps.
use Rattle.std.specs.Prelude.{ℕ, List}
use Rattle.spec_setup.specs.Signs.{Signs}
use Rattle.spec_core.specs.declared.plan.Plan.{Plan}
use Rattle.spec_core.specs.declared.table.Table.{Table}
use Rattle.spec_core.specs.Engine.{Engine, IsLegalEngine}
use Rattle.spec_core.specs.Tables.{state_of, IsPlan, IsSound}

abbrev pub engine_of : {G : Type 0} → Plan → Table G → Engine G
engine_of plan table = record { job = plan.job; options = plan.options; code = plan.code; state = state_of table }

-- Its state is that of a legal history, and its table is sound.
pub record IsKept {G : Type 0} (signs : Signs G) (sizes_in : G → List ℕ) (plan : Plan) (table : Table G) : Type 0 where
  pub legal : IsLegalEngine signs (engine_of plan table)
  pub plan_is : IsPlan plan
  pub sound : IsSound sizes_in plan table

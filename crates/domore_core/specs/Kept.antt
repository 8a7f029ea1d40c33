-- What the engine keeps.
use Rattle.domore_core.specs.declared.plan.Plan.{Plan}
use Rattle.domore_core.specs.declared.table.Table.{Table}
use Rattle.domore_core.specs.Engine.{IsLegalEngine}
use Rattle.domore_core.specs.Tables.{engine_of, IsPlan, IsSound}

-- Its state is that of a legal history, and its table is sound.
pub record IsKept (plan : Plan) (table : Table) : Type 0 where
  pub legal : IsLegalEngine (engine_of plan table)
  pub plan_is : IsPlan plan
  pub sound : IsSound plan table

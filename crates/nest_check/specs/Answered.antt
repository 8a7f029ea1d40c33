-- What a refusal says.
use Rattle.std.specs.Prelude.{Some}
use Rattle.nest_syntax.specs.declared.tree.Program.{Program}
use Rattle.nest_check.specs.declared.refused.CheckRefused.{CheckRefused}
use Rattle.nest_check.specs.declared.refused.CheckRefused.TheVariants.{Rule, NoMemory}
use Rattle.nest_check.specs.Broken.{IsBroken}

-- A refusal names the lowest rule that is broken and the lowest line that breaks it, or says that memory ran out.
abbrev pub IsRefused : Program → CheckRefused → Type 0
IsRefused program (Rule rule line) = IsBroken program (Some (rule, line))
IsRefused program NoMemory = Unit {0}

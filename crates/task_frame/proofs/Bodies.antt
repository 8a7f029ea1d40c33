-- That the opening pieces of a program's bodies realise their cut turns.
use Rattle.std.proofs.Common.{◌≡◌, ℕ, ℤ, Some, List, sym, subst}
use Rattle.std.specs.Prelude.{slice_get}
use Rattle.nest_syntax.specs.declared.tree.Program.{Program}
use Rattle.nest_syntax.specs.declared.tree.Stmt.{Stmt}
use Rattle.nest_syntax.specs.Named.{IsWellNamed}
use Rattle.nest_syntax.specs.Arrays.{arrays_of, sizes_of}
use Rattle.nest_syntax.specs.Shape.{Body, invoked_by, bodies_of}
use Rattle.nest_syntax.specs.Turn.{Turn, turn_of}
use Rattle.nest_syntax.specs.Outcome.{turn_in}
use Rattle.nest_check.specs.Kept.{KeepsRules}
use Rattle.nest_check.proofs.Inside.{turns_stay_inside}
use Rattle.settle_law.specs.Cuts.{cut}
use Rattle.settle_law.specs.Tasks.{Realises}
use Rattle.settle_law.specs.Reading.{KeepsFixed, fixed_in}
use Rattle.settle_law.proofs.Turns.{inside_turns_tell, keeps-from_tells}
use Rattle.turn_cost.specs.Costs.{body_cost}
use Rattle.turn_cost.proofs.Costly.{turn_costs}
use Rattle.task_code.specs.Code.{Code}
use Rattle.task_code.specs.CodeOf.{BeginsWith, IsCodeOf}
use Rattle.task_code.proofs.Entries.{entries_of_bodies, turns_of_bodies}
use Rattle.task_frame.specs.Pieces.{opening_of}
use Rattle.task_frame.specs.System.{system_of}
use Rattle.task_frame.specs.Bodies.{BodiesAreRealised, BodiesStopAtMost}
use Rattle.task_frame.proofs.Realised.{realised, may_pause}

pub bodies_realised : BodiesAreRealised
bodies_realised program code named keeps is number body there words scalars value env begins =
    let arrays = arrays_of program.decls in
    let here : turn_in arrays (bodies_of program) number scalars ≡ turn_of arrays body.stmts scalars = turns_of_bodies arrays (invoked_by program) number body there scalars in
    let keeps_fixed : KeepsFixed (sizes_of arrays) (fixed_in arrays words) (turn_in arrays (bodies_of program) number scalars) =
    keeps-from_tells arrays (fixed_in arrays words) words (turn_in arrays (bodies_of program) number scalars)
    ((inside_turns_tell arrays words).1 (turn_in arrays (bodies_of program) number scalars) (turns_stay_inside program named keeps number scalars)) in
    subst (λ (t : Turn). KeepsFixed (sizes_of arrays) (fixed_in arrays words) t → Realises (system_of (sizes_of arrays) code (fixed_in arrays words)) (cut (sizes_of arrays) 0 t) (record { piece = opening_of code number value env; left = body_cost body.stmts })) (sym here)
    (λ kept. realised (sizes_of arrays) code (fixed_in arrays words) (turn_of arrays body.stmts scalars) 0 (body_cost body.stmts) (opening_of code number value env)
    ((entries_of_bodies program code is number body there).unfolds scalars value env begins) kept (turn_costs arrays body.stmts scalars))
    keeps_fixed

pub bodies_stop : BodiesStopAtMost
bodies_stop arrays sizes body scalars = may_pause sizes (turn_of arrays body scalars) 0 (body_cost body) (turn_costs arrays body scalars)

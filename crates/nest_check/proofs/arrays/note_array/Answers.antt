use Rattle.nest_check.proofs.Lines.{array_passes, scalar_passes}
use Rattle.nest_check.proofs.arrays.note_array.Goals as goal
use Rattle.nest_check.proofs.arrays.note_array.Goals.{in-Array+else-left-eq0, in-Scalar}

pub loop-decl-preserved : goal.loop-decl-preserved
loop-decl-preserved c =
    elim c.match-decl.branch [
      | in-Array+else-left-eq0 w ↦ array_passes _ _ _ _ _ _ _ _ _ _ _ c.loop-decl-test.true w.in-Array.is w.if-left-eq0.false w.left-is c.loop-decl.invariant
      | in-Scalar w ↦ scalar_passes _ _ _ _ _ _ _ _ _ _ c.loop-decl-test.true w.in-Scalar.is w.left-is c.loop-decl.invariant
    ]

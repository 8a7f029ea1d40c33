use Rattle.std.proofs.Common.{ne_eqb}
use Rattle.nest_mean.proofs.Scan.{told_behind_scalar, told_behind_array, told_here, told_nowhere}
use Rattle.nest_mean.proofs.events.is_written.Goals as goal
use Rattle.nest_mean.proofs.events.is_written.Goals.{in-Array+else-declared-name, in-Scalar}

pub returns-then-declared-name : goal.returns-then-declared-name
returns-then-declared-name c = told_here _ _ _ _ _ _ _ _ c.loop-decl-test.true c.in-Array.is c.if-declared-name.true c.loop-decl.invariant

pub loop-decl-preserved : goal.loop-decl-preserved
loop-decl-preserved c =
    elim c.match-decl.branch [
      | in-Array+else-declared-name w ↦ told_behind_array _ _ _ _ _ _ _ _ c.loop-decl-test.true w.in-Array.is (ne_eqb _ _ w.if-declared-name.false) c.loop-decl.invariant
      | in-Scalar w ↦ told_behind_scalar _ _ _ _ _ _ _ c.loop-decl-test.true w.in-Scalar.is c.loop-decl.invariant
    ]

pub returns : goal.returns
returns c = told_nowhere _ _ _ c.loop-decl-test.false c.loop-decl.invariant

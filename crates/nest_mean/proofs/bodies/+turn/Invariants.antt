use Rattle.std.proofs.Common.{◌∷◌}
use Rattle.nest_syntax.specs.Arrays.{arrays_of}
use Rattle.nest_syntax.specs.Words.{variable}
use Rattle.nest_mean.specs.NamesChanged.{names_changed}
use Rattle.nest_mean.proofs.Parts.{IsLeft, block, block_from, all_turns, turns_from}
use Rattle.nest_mean.proofs.Statements.{AreLeft}
use Rattle.nest_mean.proofs.bodies.+turn.Given as goal

abbrev pub invariant-run_arms-loop-arm : goal.invariant-run_arms-loop-arm
invariant-run_arms-loop-arm l = AreLeft (arrays_of l.checked.decls) l.arms l.arm-index l.fn.scalars l.fn.words l.scalars l.words

abbrev pub invariant-run_block-loop-stmt : goal.invariant-run_block-loop-stmt
invariant-run_block-loop-stmt l = IsLeft (arrays_of l.checked.decls) (block (arrays_of l.checked.decls) l.stmts) (block_from (arrays_of l.checked.decls) l.stmts l.stmt-index) (names_changed l.stmts) l.fn.scalars l.fn.words l.scalars l.words

abbrev pub invariant-run_turns-loop-k : goal.invariant-run_turns-loop-k
invariant-run_turns-loop-k l =
    IsLeft (arrays_of l.checked.decls) (all_turns (arrays_of l.checked.decls) l.count (variable l.low l.inner.step) l.inner.name l.inner.body) (turns_from (arrays_of l.checked.decls) l.count (variable l.low l.inner.step) l.inner.name l.inner.body l.k)
    (l.inner.name ∷ names_changed l.inner.body) l.fn.scalars l.fn.words l.scalars l.words

use Rattle.std.proofs.Common.{◌≡◌, ◌++◌, map, drop}
use Rattle.nest_syntax.specs.Arrays.{Array, arrays_of}
use Rattle.spec_core.proofs.opening.consts_of.Given as goal

abbrev pub invariant-loop-decl : goal.invariant-loop-decl
invariant-loop-decl l = l.consts.items ++ map (λ (a : Array). a.fixed) (arrays_of (drop l.decl-index l.decl-items)) ≡ map (λ (a : Array). a.fixed) (arrays_of l.decl-items)

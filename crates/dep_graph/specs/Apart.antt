-- What DoAll means: any two turns of the invocation are apart, whatever they read.
use Rattle.std.specs.Prelude.{◌≡◌, ℕ, ◌<◌, ℤ, List, length}
use Rattle.nest_syntax.specs.declared.tree.Loop.{Loop}
use Rattle.nest_syntax.specs.declared.tree.Program.{Program}
use Rattle.nest_syntax.specs.Words.{variable, most_turns}
use Rattle.nest_syntax.specs.Arrays.{arrays_of, sizes_of}
use Rattle.nest_syntax.specs.Value.{with_scalar}
use Rattle.nest_syntax.specs.Turn.{Turn, turn_of}
use Rattle.nest_syntax.specs.Among.{IsOne}
use Rattle.nest_syntax.specs.Named.{IsWellNamed}
use Rattle.nest_syntax.specs.Shape.{body_of_loop, invoked_by}
use Rattle.nest_check.specs.Kept.{KeepsRules}
use Rattle.settle_law.specs.Cuts.{plain_turn}
use Rattle.settle_law.specs.Traces.{Apart}
use Rattle.settle_law.specs.Reading.{fixed_in}
use Rattle.dep_graph.specs.declared.kinds.LoopKind.TheVariants as kind
use Rattle.dep_graph.specs.Kinds.{kind_of}

-- a turn of an invocation, with this value of its variable
abbrev pub turn_with : Program → Loop → List ℤ → ℤ → Turn
turn_with program nest scalars value = turn_of (arrays_of program.decls) nest.body (with_scalar scalars nest.name value)

-- In a program that keeps the rules, for all scalars and all opening words, any two turns of one invocation that is DoAll
-- are apart.
abbrev pub DoAllIsApart : Type 0
DoAllIsApart = (program : Program) → IsWellNamed program → KeepsRules program → (nest : Loop) → IsOne (invoked_by program) (body_of_loop nest) → kind_of program nest ≡ kind.DoAll
    → (scalars words : List ℤ) → length scalars ≡ length program.names → (low : ℤ) (k m : ℕ) → k < most_turns → m < most_turns → (k ≡ m → ⊥)
    → Apart (plain_turn (sizes_of (arrays_of program.decls)) (fixed_in (arrays_of program.decls) words) (turn_with program nest scalars (variable low nest.step k)))
    (plain_turn (sizes_of (arrays_of program.decls)) (fixed_in (arrays_of program.decls) words) (turn_with program nest scalars (variable low nest.step m)))

use Rattle.std.proofs.Common.{◌≡◌, List, map, refl, sym, ap, ◌∙◌, subst}
use Rattle.std.specs.Prelude.{IsTrue, length}
use Rattle.nest_syntax.specs.Arrays.{arrays_of}
use Rattle.nest_syntax.specs.Turn.{sequence, effect}
use Rattle.task_code.specs.Ready.{block_ready}
use Rattle.task_code.specs.Bodies.{told, layout_of}
use Rattle.task_code.specs.Compiled.{Emits, Carries}
use Rattle.task_code.proofs.Sized.{sized_then}
use Rattle.task_code.proofs.Whole.{start_code}
use Rattle.task_code.proofs.compiler.compile_body.Goals as goal

pub compile_block-requires : goal.compile_block-requires
compile_block-requires c = record {
  few = rw (c.as_slice.ensures.value, c.in_ok-locals.ensures) c.requires.few;
  ready = rw (c.as_slice.ensures.value, c.in_ok-locals.ensures) c.requires.ready;
}

pub returns-clause-code : goal.returns-clause-code
returns-clause-code c = start_code c.args.checked.now _ _ _ (told c.args.body.now) _ c.in_ok-finish.finish c.in_ok-at.at _ c.requires (c.as_slice.ensures.value ∙ c.in_ok-locals.ensures) c.slot_of.ensures c.in_ok-finish.ensures.code c.in_ok-at.ensures.code

pub returns-clause-sized : goal.returns-clause-sized
returns-clause-sized c = sized_then _ _ _ _ (c.in_ok-finish.ensures.sized _ tt) c.in_ok-at.ensures.sized

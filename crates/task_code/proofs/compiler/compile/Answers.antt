use Rattle.std.proofs.Common.{◌≡◌, [], ◌∷◌, ◌++◌, List, map, take, refl, sym, ap, ◌∙◌, subst}
use Rattle.std.proofs.lemmas.List.{take_all}
use Rattle.nest_syntax.specs.declared.tree.Program.{Program}
use Rattle.nest_syntax.specs.Among.{Each}
use Rattle.nest_syntax.specs.Shape.{Body, invoked_by}
use Rattle.task_code.specs.Bodies.{told}
use Rattle.task_code.specs.Compiled.{Emits}
use Rattle.task_code.specs.CodeOf.{IsReady, IsStart, AreStarts}
use Rattle.task_code.proofs.Emitted.{emits_nothing}
use Rattle.task_code.proofs.Readied.{bodies_ready}
use Rattle.task_code.proofs.Whole.{each_there, each_mapped, mapped_more, one_more_start, entries_are}
use Rattle.task_code.proofs.compiler.compile.Goals as goal

pub compile_body-requires : goal.compile_body-requires
compile_body-requires c =
    let program : Program = c.args.checked.now in
    let same : map told c.in_ok-bodies.bodies.items ≡ invoked_by program = c.in_ok-bodies.ensures ∙ ap invoked_by c.program.ensures.same in
    let all : Each (λ b. IsReady program (told b)) c.in_ok-bodies.bodies.items = each_mapped (IsReady program) told c.in_ok-bodies.bodies.items (subst (Each (IsReady program)) (sym same) (bodies_ready program c.program.ensures.keeps c.program.ensures.named)) in
    each_there (λ b. IsReady program (told b)) _ _ c.loop-body-test.true c.body-item.result c.body-item.is (subst (Each (λ b. IsReady program (told b))) (sym c.as_slice-body-items.ensures.value) all)

pub loop-body-preserved : goal.loop-body-preserved
loop-body-preserved c =
    let program : Program = c.args.checked.now in record {
      starts = subst (λ bodies. Emits [] c.compile_body.new.code.items (λ code. AreStarts program code bodies c.push.new.self.items)) (sym (mapped_more told _ _ c.loop-body-test.true c.body-item.result c.body-item.is))
          (one_more_start program [] _ _ _ _ _ (told c.body-item.result) c.in_ok-entry.entry c.in_ok-push.ensures.items c.loop-body.invariant.starts c.in_ok-entry.ensures.code);
      sized = c.in_ok-entry.ensures.sized.stays c.loop-body.invariant.sized;
    }

pub returns : goal.returns
returns c =
    let program : Program = c.args.checked.now in
    let same : map told c.in_ok-bodies.bodies.items ≡ invoked_by program = c.in_ok-bodies.ensures ∙ ap invoked_by c.program.ensures.same in
    let all = ap (map told) (take_all _ _ c.loop-body-test.false ∙ c.as_slice-body-items.ensures.value) ∙ same in
    rw c.made_of.ensures record {
      entries = entries_are program c.loop-body.instructions.items (invoked_by program) c.loop-body.entries.items
          (subst (λ bodies. AreStarts program c.loop-body.instructions.items bodies c.loop-body.entries.items) all (c.loop-body.invariant.starts.does c.loop-body.instructions.items (λ at from inside. refl)));
      sized = c.loop-body.invariant.sized;
    }

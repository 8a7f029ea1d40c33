use Rattle.std.proofs.Common.{◌≡◌, ℕ, ◌<◌, List, length, sym, ap, ◌∙◌, subst, arith}
use Rattle.nest_syntax.specs.Arrays.{arrays_of, array_names}
use Rattle.nest_syntax.specs.declared.tree.Program.{Program}
use Rattle.nest_check.proofs.Judged.{few_arrays as few_names}
use Rattle.nest_data.specs.Lines.{lines_of}
use Rattle.nest_data.specs.Data.{opening}
use Rattle.nest_data.proofs.Told.{told}
use Rattle.nest_data.proofs.read.read_data.Goals as goal

pub read_lines-requires-clause-few : goal.read_lines-requires-clause-few
read_lines-requires-clause-few c =
    let arrays : c.as_slice-2.result.now ≡ array_names (arrays_of c.args.checked.now.decls) = c.as_slice-2.ensures.value ∙ c.in_ok-arrays.ensures in
    subst (λ (ns : List ℕ). length ns < 4294967296) (sym arrays) (omega (arith, few_names c.args.checked.now c.program-program.ensures.keeps))

pub returns-clause-told : goal.returns-clause-told
returns-clause-told c =
    let names = c.as_slice.ensures ∙ ap (λ (p : Program). p.names) c.program-program.ensures.same in
    let arrays = c.as_slice-2.ensures.value ∙ c.in_ok-arrays.ensures in
    told _ _ _ _ _ _ c.args.first_line (lines_of c.args.bytes.now) _ names arrays (c.in_ok-progress.ensures.read ∙ ap opening c.lengths.ensures) c.read_lines.ensures.told

use Rattle.std.proofs.Common.{List, length, ap, ◌∙◌, arith}
use Rattle.nest_syntax.specs.Arrays.{arrays_of}
use Rattle.nest_syntax.specs.declared.tree.Decl.{Decl}
use Rattle.nest_syntax.specs.declared.tree.Program.{Program}
use Rattle.nest_data.proofs.Kept.{few_arrays}
use Rattle.nest_data.proofs.sum.sum_words.Goals as goal

pub sum_lines-requires-clause-few : goal.sum_lines-requires-clause-few
sum_lines-requires-clause-few c =
    let few = few_arrays c.args.checked.now c.program.ensures.keeps in
    let same = ap (λ (decls : List Decl). length (arrays_of decls)) c.as_slice.ensures ∙ ap (λ (p : Program). length (arrays_of p.decls)) c.program.ensures.same in
    omega (arith, few, same)

use Rattle.std.proofs.Common.{◌<◌, ◌≤◌, length, sym, ap, ◌∙◌, subst, arith}
use Rattle.nest_syntax.specs.Arrays.{arrays_of, sizes_of, array_names}
use Rattle.nest_check.specs.Declarations.{first_of_each, names_of, index_of_name}
use Rattle.nest_check.specs.Entries.{scheduler_scalars}
use Rattle.nest_check.proofs.Judged.{few_arrays, few_scalar_names}
use Rattle.nest_check.proofs.Indexes.{array_index}
use Rattle.nest_check.proofs.checked.Checked.tabled.Goals as goal

pub index_table-requires : goal.index_table-requires
index_table-requires c =
    let few : length (array_names (arrays_of c.args.program.decls)) ≤ 64 = few_arrays c.args.program c.requires.keeps in
    subst (λ ns. length ns < 4294967296) (sym (c.as_slice-3.ensures.value ∙ c.in_ok-array_names.ensures ∙ ap (λ ds. array_names (arrays_of ds)) c.as_slice-2.ensures)) (omega (arith, few))

pub index_table-requires-2 : goal.index_table-requires-2
index_table-requires-2 c =
    let few : length (names_of (first_of_each (scheduler_scalars c.args.program))) ≤ 32 = few_scalar_names c.args.program c.requires.keeps in
    subst (λ ns. length ns < 4294967296) (sym (c.as_slice-4.ensures.value ∙ c.in_ok-scalar_names.ensures ∙ ap names_of c.requires.scalars)) (omega (arith, few))

pub invariant_of-result : goal.invariant_of-result
invariant_of-result c = record {
  named = c.requires.named;
  keeps = c.requires.keeps;
  lengths_are = c.in_ok-lengths.ensures ∙ ap (λ ds. sizes_of (arrays_of ds)) c.as_slice.ensures;
  arrays_are = λ name. c.in_ok-arrays.ensures name ∙ ap (λ ns. index_of_name ns name) (c.as_slice-3.ensures.value ∙ c.in_ok-array_names.ensures ∙ ap (λ ds. array_names (arrays_of ds)) c.as_slice-2.ensures) ∙ array_index (arrays_of c.args.program.decls) name;
  scalars_are = λ name. c.in_ok-scalars.ensures name ∙ ap (λ ns. index_of_name ns name) (c.as_slice-4.ensures.value ∙ c.in_ok-scalar_names.ensures ∙ ap names_of c.requires.scalars);
  locals_are = c.in_ok-locals.ensures;
}

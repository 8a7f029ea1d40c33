use Rattle.std.proofs.Common.{rules, ◌≡◌, ◌+ℤ◌, ◌-ℤ◌, FitsSigned, w64, ◌∙◌, arith}
use Rattle.std.proofs.lemmas.Int.{ints}
use Rattle.dep_graph.specs.Kinds.{distance}
use Rattle.dep_graph.proofs.Wide.{fits_four, value_four}
use Rattle.dep_graph.proofs.tests.gap.Goals as goal

pub overflow_sub-result-2 : goal.overflow_sub-result-2
overflow_sub-result-2 c =
    let one : FitsSigned w64 c.from.result = first_of (search rules, omega (arith, ints)) in
    let two : FitsSigned w64 c.from-2.result = first_of (search rules, omega (arith, ints)) in
    let three : FitsSigned w64 c.from-3.result = first_of (search rules, omega (arith, ints)) in
    let four : FitsSigned w64 c.from-4.result = first_of (search rules, omega (arith, ints)) in
    fits_four c.from.result c.from-2.result c.from-3.result c.from-4.result one two three four

pub returns : goal.returns
returns c =
    let one : FitsSigned w64 c.from.result = first_of (search rules, omega (arith, ints)) in
    let two : FitsSigned w64 c.from-2.result = first_of (search rules, omega (arith, ints)) in
    let three : FitsSigned w64 c.from-3.result = first_of (search rules, omega (arith, ints)) in
    let four : FitsSigned w64 c.from-4.result = first_of (search rules, omega (arith, ints)) in
    let same : ((c.from.result -ℤ c.from-2.result) +ℤ c.from-3.result) -ℤ c.from-4.result ≡ (distance c.args.f.now c.args.g.now +ℤ c.args.part) -ℤ c.args.other = first_of (omega (arith, ints), search rules) in
    value_four c.from.result c.from-2.result c.from-3.result c.from-4.result one two three four ∙ same

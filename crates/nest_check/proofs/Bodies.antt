-- There are no more bodies than items, and so at most 4,096 of them.
use Rattle.std.proofs.Common.{◌≡◌, suc, ◌*◌, ◌≤◌, Bool, true, false, if◌then◌else◌, List, [], ◌∷◌, ◌++◌, map, length, refl, ap, arith, length-append}
use Rattle.std.specs.List.{flat_map, filter}
use Rattle.std.proofs.lemmas.Bool.{ltb-false}
use Rattle.nest_syntax.specs.declared.tree.Loop.{Loop}
use Rattle.nest_syntax.specs.declared.tree.Program.{Program}
use Rattle.nest_syntax.specs.Shape.{Body, Entry, Plain, Declares, Invokes, items_of, invoked_in, invoked_in_region, invoked_by, statements_of_each, bodies_of}
use Rattle.nest_syntax.specs.Lowest.{lines_where}
use Rattle.data_local.specs.Loops.{line_of}
use Rattle.nest_check.specs.Rules.{has_many_items}
use Rattle.nest_check.specs.Kept.{KeepsRules}
use Rattle.nest_check.proofs.Judged.{few_regions}

few_invoked : (entries : List Entry) → length (invoked_in entries) ≤ length entries
few_invoked [] = omega arith
few_invoked (Plain ∷ entries) = let few = few_invoked entries in omega (arith, few)
few_invoked (Declares d ∷ entries) = let few = few_invoked entries in omega (arith, few)
few_invoked (Invokes b ∷ entries) = let few = few_invoked entries in omega (arith, few)

regions_few : (regions : List Loop) → lines_where line_of has_many_items regions ≡ [] → length (flat_map invoked_in_region regions) ≤ 64 * length regions
regions_few [] e = omega arith
regions_few (l ∷ ls) e = by (has_many_items l) refl e (λ r. regions_few ls r)
  where
    by : (many : Bool) → has_many_items l ≡ many → map line_of (if many then l ∷ filter has_many_items ls else filter has_many_items ls) ≡ [] → (lines_where line_of has_many_items ls ≡ [] → length (flat_map invoked_in_region ls) ≤ 64 * length ls)
        → length (invoked_in_region l ++ flat_map invoked_in_region ls) ≤ 64 * suc (length ls)
    by true is e' rest = absurd (cc)
    by false is e' rest =
        let few : length (items_of l.body) ≤ 64 = ltb-false 64 (length (items_of l.body)) is in
        let here : length (invoked_in_region l) ≤ length (items_of l.body) = few_invoked (items_of l.body) in
        let others : length (flat_map invoked_in_region ls) ≤ 64 * length ls = rest e' in
        let both = length-append (invoked_in_region l) (flat_map invoked_in_region ls) in
        omega (arith, few, here, others, both)

as_many : (bodies : List Body) → length (statements_of_each bodies) ≡ length bodies
as_many [] = refl
as_many (b ∷ bodies) = ap suc (as_many bodies)

pub few_bodies : (program : Program) → KeepsRules program → length (bodies_of program) ≤ 4096
few_bodies program kept =
    let of : length (invoked_by program) ≤ 64 * length program.regions = regions_few program.regions kept.items in
    let few : length program.regions ≤ 64 = few_regions program kept in
    let many = as_many (invoked_by program) in
    omega (arith, of, few, many)

-- What is left of the room for entries, the names that are kept, and what the items of regions give.
use Rattle.std.proofs.Common.{◌≡◌, ℕ, suc, ◌-◌, ◌<◌, ◌≤◌, Bool, true, false, ◌||◌, ◌==◌, if◌then◌else◌, nat_lt, None, Result, Ok, Err, List, [], ◌∷◌, ◌++◌, map, length, take, refl, sym, ap, ◌∙◌, arith, length-append, ◌⊎◌, inl, inr}
use Rattle.std.specs.List.{flat_map, filter}
use Rattle.std.specs.Prelude.{OnOk}
use Rattle.std.proofs.lemmas.Bool.{lt-ltb, le-ltb, ltb-true, ltb-false}
use Rattle.std.proofs.lemmas.Bool.Decides.{eqb_tells}
use Rattle.std.proofs.lemmas.List.{take_all, take-append-le, length-take-le, map-append}
use Rattle.std.proofs.lemmas.List.Elements.{filter-append}
use Rattle.nest_syntax.specs.declared.names.NoMemory.{NoMemory}
use Rattle.nest_syntax.specs.declared.tree.Loop.{Loop}
use Rattle.nest_syntax.specs.Lowest.{lower_if, lower_of, lines_where}
use Rattle.nest_syntax.proofs.LowerLists.{lower_of-append, lower_of-where}
use Rattle.data_local.specs.Loops.{line_of}
use Rattle.nest_check.specs.declared.entries.Tally.{Tally}
use Rattle.nest_check.specs.declared.items.Sizes.{Sizes}
use Rattle.nest_check.specs.Through.{through}
use Rattle.nest_syntax.specs.Shape.{Declaration, Body, body_of_loop, Entry, Plain, Declares, Invokes, items_of, declarations_in, invoked_in, invoked_in_region}
use Rattle.nest_check.specs.Declarations.{has_name, with_declaration, first_of_each}
use Rattle.nest_check.specs.Entries.{statements_of, scalars_in_region}
use Rattle.nest_check.specs.Rules.{is_large_body, line_of_body, has_many_items, locals_of}
use Rattle.nest_check.specs.Noted.{added, entered, passed, region_begun, region_passed}
use Rattle.nest_check.proofs.Lists.{through-append}

less_one : (room room' rest n : ℕ) → room' ≡ rest - n → rest ≡ room - 1 → room' ≡ room - suc n
less_one room room' rest n left less = omega (arith, left, less)

pub room_left : (most : ℕ) (tally : Tally) (entries : List Entry) → (through (entered most) tally entries).room ≡ tally.room - length entries
room_left most tally [] = omega arith
room_left most tally (Plain ∷ entries) = less_one tally.room _ _ (length entries) (room_left most (entered most tally Plain) entries) refl
room_left most tally (Declares d ∷ entries) = less_one tally.room _ _ (length entries) (room_left most (entered most tally (Declares d)) entries) refl
room_left most tally (Invokes b ∷ entries) = less_one tally.room _ _ (length entries) (room_left most (entered most tally (Invokes b)) entries) refl

pub names_kept : (most : ℕ) (tally : Tally) (entries : List Entry) → (through (entered most) tally entries).names ≡ through (added most) tally.names (declarations_in entries)
names_kept most tally [] = refl
names_kept most tally (Plain ∷ entries) = names_kept most (entered most tally Plain) entries
names_kept most tally (Declares d ∷ entries) = names_kept most (entered most tally (Declares d)) entries
names_kept most tally (Invokes b ∷ entries) = names_kept most (entered most tally (Invokes b)) entries

-- no room is left exactly where there are more than were allowed
pub no_room : (most n : ℕ) → (suc most - n == 0) ≡ nat_lt most n
no_room most n = by (eqb_tells (suc most - n) 0)
  where
    by : (((suc most - n == 0) ≡ true) × (suc most - n ≡ 0)) ⊎ (((suc most - n == 0) ≡ false) × (suc most - n ≡ 0 → ⊥)) → (suc most - n == 0) ≡ nat_lt most n
    by (inl e) = e.0 ∙ sym (lt-ltb most n (omega (arith, e.1)))
    by (inr e) = e.0 ∙ sym (le-ltb most n (omega (arith, e.1)))

-- Names that are kept up to a bound are the first ones of all.
capped_one : (most : ℕ) (found : List Declaration) (d : Declaration) → added most (take most found) d ≡ take most (with_declaration found d)
capped_one most found d = by (nat_lt (length found) most) refl
  where
    few : length found < most → (known : Bool) → (if known then found else found ++ d ∷ []) ≡ take most (if known then found else found ++ d ∷ [])
    few less true = sym (take_all most found (omega (arith, less)))
    few less false = sym (take_all most (found ++ d ∷ []) (let e = length-append found (d ∷ []) in omega (arith, less, e)))

    many : most ≤ length found → (known : Bool) → take most found ≡ take most (if known then found else found ++ d ∷ [])
    many over true = refl
    many over false = sym (take-append-le most found (d ∷ []) over)

    by : (less : Bool) → nat_lt (length found) most ≡ less → added most (take most found) d ≡ take most (with_declaration found d)
    by true is =
        let less : length found < most = ltb-true (length found) most is in
        ap (λ kept. added most kept d) (take_all most found (omega (arith, less)))
        ∙ ap (λ b. if b then with_declaration found d else found) is
        ∙ few less (has_name found d.0)
    by false is =
        let over : most ≤ length found = ltb-false (length found) most is in
        ap (λ b. if b then with_declaration (take most found) d else take most found) (le-ltb (length (take most found)) most (let e = length-take-le most found over in omega (arith, e)))
        ∙ many over (has_name found d.0)

pub capped : (most : ℕ) (found ds : List Declaration) → through (added most) (take most found) ds ≡ take most (through with_declaration found ds)
capped most found [] = refl
capped most found (d ∷ ds) = ap (λ kept. through (added most) kept ds) (capped_one most found d) ∙ capped most (with_declaration found d) ds

-- more than a bound, seen at the first ones
pub more_kept : {A : Type 0} (most : ℕ) (xs : List A) → nat_lt most (length (take (suc most) xs)) ≡ nat_lt most (length xs)
more_kept most xs = by (nat_lt most (length xs)) refl
  where
    by : (more : Bool) → nat_lt most (length xs) ≡ more → nat_lt most (length (take (suc most) xs)) ≡ nat_lt most (length xs)
    by true is =
        let more : most < length xs = ltb-true most (length xs) is in
        lt-ltb most (length (take (suc most) xs)) (let e = length-take-le (suc most) xs (omega (arith, more)) in omega (arith, e)) ∙ sym is
    by false is =
        let over : length xs ≤ most = ltb-false most (length xs) is in
        ap (λ ys. nat_lt most (length ys)) (take_all (suc most) xs (omega (arith, over)))

-- whether a body is too large, by what is left of its room and by the names kept
pub large_is : (l : Loop) (begun tally : Tally) → begun.room ≡ 1025 → begun.names ≡ added 17 [] (l.name, l.line) → tally ≡ through (entered 17) begun (statements_of l.body)
    → (tally.room == 0 || nat_lt 16 (length tally.names)) ≡ is_large_body (body_of_loop l)
large_is l begun tally room names walked =
    ap (λ n. n == 0 || nat_lt 16 (length tally.names)) (ap (λ (t : Tally). t.room) walked ∙ room_left 17 begun (statements_of l.body) ∙ ap (λ n. n - length (statements_of l.body)) room)
    ∙ ap (λ b. b || nat_lt 16 (length tally.names)) (no_room 1024 (length (statements_of l.body)))
    ∙ ap (λ ns. nat_lt 1024 (length (statements_of l.body)) || nat_lt 16 (length ns)) kept
    ∙ ap (λ b. nat_lt 1024 (length (statements_of l.body)) || b) (more_kept 16 (locals_of (body_of_loop l)))
  where
    kept : tally.names ≡ take 17 (locals_of (body_of_loop l))
    kept = ap (λ (t : Tally). t.names) walked ∙ names_kept 17 begun (statements_of l.body) ∙ ap (λ ns. through (added 17) ns (declarations_in (statements_of l.body))) names ∙ capped 17 [] ((l.name, l.line) ∷ declarations_in (statements_of l.body))

-- one entry, and then others
pub first_passed : {S : Type 0} (step : S → Entry → S) (result : Result (Unit {0}) NoMemory) (s1 s2 s3 : S) (entry : Entry) (behind : List Entry) {all : List Entry} → all ≡ entry ∷ behind
    → s2 ≡ step s1 entry → OnOk result (s3 ≡ through step s2 behind) → OnOk result (s3 ≡ through step s1 all)
first_passed step (Err e) s1 s2 s3 entry behind is first second = second
first_passed step (Ok done) s1 s2 s3 entry behind is first second = second ∙ ap (λ t. through step t behind) first ∙ ap (through step s1) (sym is)

-- an `if`: itself, and then what its arms and its last block hold
pub if_passed : {S : Type 0} (step : S → Entry → S) (result : Result (Unit {0}) NoMemory) (s1 s2 s3 s4 : S) (arms other : List Entry) {all : List Entry} → all ≡ Plain ∷ arms ++ other
    → s2 ≡ step s1 Plain → s3 ≡ through step s2 arms → OnOk result (s4 ≡ through step s3 other) → OnOk result (s4 ≡ through step s1 all)
if_passed step (Err e) s1 s2 s3 s4 arms other is first second third = third
if_passed step (Ok done) s1 s2 s3 s4 arms other is first second third =
    third
    ∙ ap (λ t. through step t other) (second ∙ ap (λ t. through step t arms) first)
    ∙ sym (through-append step (step s1 Plain) arms other)
    ∙ ap (through step s1) (sym is)

-- what the items of a region give
items_tally : (sizes : Sizes) (entries : List Entry) → (through passed sizes entries).tally ≡ through (entered 33) sizes.tally entries
items_tally sizes [] = refl
items_tally sizes (e ∷ entries) = items_tally (passed sizes e) entries

items_regions : (sizes : Sizes) (entries : List Entry) → (through passed sizes entries).regions ≡ sizes.regions
items_regions sizes [] = refl
items_regions sizes (e ∷ entries) = items_regions (passed sizes e) entries

items_bodies : (sizes : Sizes) (entries : List Entry) → (through passed sizes entries).bodies ≡ lower_of sizes.bodies (lines_where line_of_body is_large_body (invoked_in entries))
items_bodies sizes [] = refl
items_bodies sizes (Plain ∷ entries) = items_bodies (passed sizes Plain) entries
items_bodies sizes (Declares d ∷ entries) = items_bodies (passed sizes (Declares d)) entries
items_bodies sizes (Invokes b ∷ entries) = items_bodies (passed sizes (Invokes b)) entries ∙ lower_of-where line_of_body is_large_body sizes.bodies b (invoked_in entries)

large_append : (xs ys : List Body) → lines_where line_of_body is_large_body (xs ++ ys) ≡ lines_where line_of_body is_large_body xs ++ lines_where line_of_body is_large_body ys
large_append xs ys = ap (map line_of_body) (filter-append is_large_body xs ys) ∙ map-append line_of_body (filter is_large_body xs) (filter is_large_body ys)

pub bodies_found : (sizes : Sizes) (regions : List Loop) → (through region_passed sizes regions).bodies ≡ lower_of sizes.bodies (lines_where line_of_body is_large_body (flat_map invoked_in_region regions))
bodies_found sizes [] = refl
bodies_found sizes (region ∷ regions) =
    bodies_found (region_passed sizes region) regions
    ∙ ap (λ f. lower_of f (lines_where line_of_body is_large_body (flat_map invoked_in_region regions))) (items_bodies (region_begun sizes region) (items_of region.body))
    ∙ sym (lower_of-append sizes.bodies (lines_where line_of_body is_large_body (invoked_in_region region)) (lines_where line_of_body is_large_body (flat_map invoked_in_region regions)))
    ∙ ap (lower_of sizes.bodies) (sym (large_append (invoked_in_region region) (flat_map invoked_in_region regions)))

region_left : (sizes : Sizes) (region : Loop) → (through passed (region_begun sizes region) (items_of region.body)).tally.room ≡ 65 - length (items_of region.body)
region_left sizes region = ap (λ (t : Tally). t.room) (items_tally (region_begun sizes region) (items_of region.body)) ∙ room_left 33 (region_begun sizes region).tally (items_of region.body)

pub regions_found : (sizes : Sizes) (regions : List Loop) → (through region_passed sizes regions).regions ≡ lower_of sizes.regions (lines_where line_of has_many_items regions)
regions_found sizes [] = refl
regions_found sizes (region ∷ regions) =
    let end = through passed (region_begun sizes region) (items_of region.body) in
    regions_found (region_passed sizes region) regions
    ∙ ap (λ n. lower_of (lower_if (n == 0) end.regions region.line) (lines_where line_of has_many_items regions)) (region_left sizes region)
    ∙ ap (λ b. lower_of (lower_if b end.regions region.line) (lines_where line_of has_many_items regions)) (no_room 64 (length (items_of region.body)))
    ∙ ap (λ f. lower_of (lower_if (has_many_items region) f region.line) (lines_where line_of has_many_items regions)) (items_regions (region_begun sizes region) (items_of region.body))
    ∙ lower_of-where line_of has_many_items sizes.regions region regions

pub scalars_found : (sizes : Sizes) (regions : List Loop) → (through region_passed sizes regions).tally.names ≡ through (added 33) sizes.tally.names (flat_map scalars_in_region regions)
scalars_found sizes [] = refl
scalars_found sizes (region ∷ regions) =
    scalars_found (region_passed sizes region) regions
    ∙ ap (λ names. through (added 33) names (flat_map scalars_in_region regions))
    (ap (λ (t : Tally). t.names) (items_tally (region_begun sizes region) (items_of region.body)) ∙ names_kept 33 (region_begun sizes region).tally (items_of region.body))
    ∙ sym (through-append (added 33) sizes.tally.names (scalars_in_region region) (flat_map scalars_in_region regions))

-- regions from the beginning
pub bodies_lowest : (found begun : Sizes) (regions : List Loop) → found ≡ through region_passed begun regions → begun.bodies ≡ None → found.bodies ≡ lower_of None (lines_where line_of_body is_large_body (flat_map invoked_in_region regions))
bodies_lowest found begun regions walked none = ap (λ (s : Sizes). s.bodies) walked ∙ bodies_found begun regions ∙ ap (λ f. lower_of f (lines_where line_of_body is_large_body (flat_map invoked_in_region regions))) none

pub regions_lowest : (found begun : Sizes) (regions : List Loop) → found ≡ through region_passed begun regions → begun.regions ≡ None → found.regions ≡ lower_of None (lines_where line_of has_many_items regions)
regions_lowest found begun regions walked none = ap (λ (s : Sizes). s.regions) walked ∙ regions_found begun regions ∙ ap (λ f. lower_of f (lines_where line_of has_many_items regions)) none

pub scalars_first : (found begun : Sizes) (none declared : List Declaration) (regions : List Loop) → found ≡ through region_passed begun regions → none ≡ [] → begun.tally.names ≡ through (added 33) none declared
    → found.tally.names ≡ take 33 (first_of_each (declared ++ flat_map scalars_in_region regions))
scalars_first found begun none declared regions walked empty before =
    ap (λ (s : Sizes). s.tally.names) walked ∙ scalars_found begun regions
    ∙ ap (λ names. through (added 33) names (flat_map scalars_in_region regions)) (before ∙ ap (λ names. through (added 33) names declared) empty)
    ∙ sym (through-append (added 33) [] declared (flat_map scalars_in_region regions))
    ∙ capped 33 [] (declared ++ flat_map scalars_in_region regions)

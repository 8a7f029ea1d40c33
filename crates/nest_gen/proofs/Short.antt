-- What is generated is no longer than an input may be.
use Rattle.std.proofs.Common.{◌≡◌, ℕ, suc, ◌+◌, ◌*◌, ◌%◌, ◌<◌, ◌≤◌, pos, List, [], ◌∷◌, ◌++◌, map, take, drop, codes, decimal, length, length-append, length-take, length-drop, true, leb, refl, arith}
use Rattle.std.specs.List.{flat_map}
use Rattle.std.proofs.Math.Nat.{mod-lt}
use Rattle.std.proofs.lemmas.Bool.{leb-true}
use Rattle.std.proofs.lemmas.Fmt.{length-decimal-le}
use Rattle.nest_data.specs.Text.{value_text, array_line}
use Rattle.nest_gen.specs.Draws.{draws_from}
use Rattle.nest_gen.specs.Generated.{line, sized, nest_text, generated}
use Rattle.nest_gen.proofs.Left.{reduced, as_many}

-- a number below 10^6 has six digits at most
few_digits : (n : ℕ) → n < 1000000 → length (decimal n) ≤ 6
few_digits n small = length-decimal-le 6 n (omega arith) (omega (arith, small)) (omega (arith, small))

-- a value takes seven bytes at most, with its space
short_values : (modulus : ℕ) → 1 ≤ modulus → modulus ≤ 262144 → (draws : List ℕ) → length (flat_map value_text (reduced modulus draws)) ≤ 7 * length draws
short_values modulus some few [] = omega arith
short_values modulus some few (draw ∷ draws) =
    let below : draw % modulus < modulus = mod-lt draw (omega (arith, some)) in
    let digits = few_digits (draw % modulus) (omega (arith, below, few)) in
    let more = short_values modulus some few draws in
    let long = length-append (value_text (pos (draw % modulus))) (flat_map value_text (reduced modulus draws)) in
    omega (arith, digits, more, long)

short_line : (name : List ℕ) (modulus : ℕ) → 1 ≤ modulus → modulus ≤ 262144 → (draws : List ℕ) → length (array_line name (reduced modulus draws)) ≤ length name + 7 * length draws + 1
short_line name modulus some few draws =
    let front = length-append name (flat_map value_text (reduced modulus draws)) in
    let whole = length-append (name ++ flat_map value_text (reduced modulus draws)) (10 ∷ []) in
    omega (arith, front, whole, short_values modulus some few draws)

-- a text of at most forty bytes, and one with the size behind it
short_text : (text : List ℕ) → leb (length text) 40 ≡ true → length text ≤ 47
short_text text short = let few = leb-true (length text) 40 short in omega (arith, few)

short_sized : (before : List ℕ) (size : ℕ) (behind : List ℕ) → size ≤ 262144 → leb (length before + length behind) 40 ≡ true → length (sized before size behind) ≤ 47
short_sized before size behind few short =
    let a = length-append before (decimal size) in
    let b = length-append (before ++ decimal size) behind in
    let c = length-append (before ++ decimal size ++ behind) (10 ∷ []) in
    omega (arith, a, b, c, few_digits size (omega (arith, few)), leb-true (length before + length behind) 40 short)

longer : (front text : List ℕ) (most more : ℕ) → length front ≤ most → length text ≤ more → length (front ++ text) ≤ most + more
longer front text most more few short = let whole = length-append front text in omega (arith, whole, few, short)

short_nest : (size : ℕ) → size ≤ 262144 → length (nest_text size) ≤ 517
short_nest size few =
    let lines_1 : List ℕ = sized (codes "long a[") size (codes "];") in
    let short_1 : length lines_1 ≤ 47 = (short_sized (codes "long a[") size (codes "];") few refl) in
    let lines_2 : List ℕ = lines_1 ++ sized (codes "long b[") size (codes "];") in
    let short_2 : length lines_2 ≤ 94 = longer lines_1 (sized (codes "long b[") size (codes "];")) 47 47 short_1 (short_sized (codes "long b[") size (codes "];") few refl) in
    let lines_3 : List ℕ = lines_2 ++ sized (codes "const long ix[") size (codes "];") in
    let short_3 : length lines_3 ≤ 141 = longer lines_2 (sized (codes "const long ix[") size (codes "];")) 94 47 short_2 (short_sized (codes "const long ix[") size (codes "];") few refl) in
    let lines_4 : List ℕ = lines_3 ++ line (codes "for (long t = 0; t < 4; t++) {") in
    let short_4 : length lines_4 ≤ 188 = longer lines_3 (line (codes "for (long t = 0; t < 4; t++) {")) 141 47 short_3 (short_text (line (codes "for (long t = 0; t < 4; t++) {")) refl) in
    let lines_5 : List ℕ = lines_4 ++ sized (codes "  for (long i = 0; i < ") size (codes "; i++) {") in
    let short_5 : length lines_5 ≤ 235 = longer lines_4 (sized (codes "  for (long i = 0; i < ") size (codes "; i++) {")) 188 47 short_4 (short_sized (codes "  for (long i = 0; i < ") size (codes "; i++) {") few refl) in
    let lines_6 : List ℕ = lines_5 ++ line (codes "    a[ix[i]] += b[i] + t;") in
    let short_6 : length lines_6 ≤ 282 = longer lines_5 (line (codes "    a[ix[i]] += b[i] + t;")) 235 47 short_5 (short_text (line (codes "    a[ix[i]] += b[i] + t;")) refl) in
    let lines_7 : List ℕ = lines_6 ++ line (codes "  }") in
    let short_7 : length lines_7 ≤ 329 = longer lines_6 (line (codes "  }")) 282 47 short_6 (short_text (line (codes "  }")) refl) in
    let lines_8 : List ℕ = lines_7 ++ sized (codes "  for (long i = 0; i < ") size (codes "; i++) {") in
    let short_8 : length lines_8 ≤ 376 = longer lines_7 (sized (codes "  for (long i = 0; i < ") size (codes "; i++) {")) 329 47 short_7 (short_sized (codes "  for (long i = 0; i < ") size (codes "; i++) {") few refl) in
    let lines_9 : List ℕ = lines_8 ++ line (codes "    b[i] = b[i] ^ a[i];") in
    let short_9 : length lines_9 ≤ 423 = longer lines_8 (line (codes "    b[i] = b[i] ^ a[i];")) 376 47 short_8 (short_text (line (codes "    b[i] = b[i] ^ a[i];")) refl) in
    let lines_10 : List ℕ = lines_9 ++ line (codes "  }") in
    let short_10 : length lines_10 ≤ 470 = longer lines_9 (line (codes "  }")) 423 47 short_9 (short_text (line (codes "  }")) refl) in
    longer lines_10 (line (codes "}")) 470 47 short_10 (short_text (line (codes "}")) refl)

pub generated_is_short : (seed size : ℕ) → 1 ≤ size → size ≤ 262144 → length (generated seed size) ≤ 33554432
generated_is_short seed size some few =
    let draws = draws_from seed (3 * size) in
    let many : length draws ≡ 3 * size = as_many seed (3 * size) in
    let places = short_line (codes "ix") size some few (take size draws) in
    let first = short_line (codes "a") 100 (omega arith) (omega arith) (take size (drop size draws)) in
    let second = short_line (codes "b") 100 (omega arith) (omega arith) (drop size (drop size draws)) in
    let all_places = length-take size draws in
    let behind = length-drop size draws in
    let all_first = length-take size (drop size draws) in
    let all_second = length-drop size (drop size draws) in
    let front : List ℕ = nest_text size ++ line (codes "data") in
    let a_line : List ℕ = array_line (codes "a") (reduced 100 (take size (drop size draws))) in
    let b_line : List ℕ = array_line (codes "b") (reduced 100 (drop size (drop size draws))) in
    let front_short : length front ≤ 564 = longer (nest_text size) (line (codes "data")) 517 47 (short_nest size few) (short_text (line (codes "data")) refl) in
    let with_a = length-append front a_line in
    let with_b = length-append (front ++ a_line) b_line in
    let whole = length-append (front ++ a_line ++ b_line) (array_line (codes "ix") (reduced size (take size draws))) in
    omega (arith, whole, with_a, with_b, front_short, places, first, second, many, all_places, behind, all_first, all_second, few)

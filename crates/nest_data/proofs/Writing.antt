-- Values that are written one after another are the words of an array.
use Rattle.std.proofs.Common.{◌≡◌, ℕ, suc, ◌+◌, ◌<◌, ◌≤◌, ◌==◌, ℤ, pos, Bool, true, false, Option, Some, None, Result, Ok, Err, List, [], ◌∷◌, ◌++◌, length, take, drop, sum, set, slice_index_or, if◌then◌else◌, refl, sym, ap, ◌∙◌, arith}
use Rattle.std.specs.Option.{option_map, option_map_or, option_and_then}
use Rattle.std.proofs.lemmas.List.{take-append-drop, append_assoc, drop-set-lt, take_more_set, length-set}
use Rattle.std.proofs.lemmas.List.Sums.{sum_by_more_le}
use Rattle.std.proofs.lemmas.Bool.{lt-ltb, eqb-true}
use Rattle.nest_syntax.specs.Arrays.{word_number, with_word}
use Rattle.word_store.specs.Memory.{Memory, IsSound, number_at, stored}
use Rattle.nest_data.specs.Values.{value_of}
use Rattle.nest_data.specs.Data.{values_of, counted, with_array, and_then}
use Rattle.nest_data.specs.declared.refused.DataKind.{DataKind}
use Rattle.nest_data.specs.declared.refused.DataKind.TheVariants as kind

-- a write keeps the sizes
at_number : (memory : Memory) (value : ℤ) (number : Option ℕ) → (option_map_or (λ n. record memory { words = with_word memory.words n value }) number memory).sizes ≡ memory.sizes
at_number memory value None = refl
at_number memory value (Some n) = refl

pub stored-sizes : (memory : Memory) (n : ℕ) (at value : ℤ) → (stored memory n at value).sizes ≡ memory.sizes
stored-sizes memory n at value = at_number memory value (number_at memory.sizes n at)

-- values written one after another from a place of an array on
abbrev pub written : Memory → ℕ → ℕ → List ℤ → Memory
written memory n place [] = memory
written memory n place (value ∷ values) = written (stored memory n (pos place) value) n (place + 1) values

-- what the values that are left lead to, where so many are written
abbrev pub finish : ℕ → Memory → ℕ → ℕ → Option (List ℤ) → Result Memory DataKind
finish size memory n place None = Err kind.Number
finish size memory n place (Some values) = if place + length values == size then Ok (written memory n place values) else Err kind.Count

one_more : (size : ℕ) (memory : Memory) (n place : ℕ) (value : ℤ) (values : Option (List ℤ))
    → finish size memory n place (option_map (λ (more : List ℤ). value ∷ more) values) ≡ finish size (stored memory n (pos place) value) n (place + 1) values
one_more size memory n place value None = refl
one_more size memory n place value (Some values) =
    let many : place + suc (length values) ≡ place + 1 + length values = omega arith in
    ap (λ (count : ℕ). if count == size then Ok (written (stored memory n (pos place) value) n (place + 1) values) else Err kind.Count) many

-- a value is written
pub value_taken : (size : ℕ) (memory : Memory) (n place : ℕ) (words : List (List ℕ)) (word : List ℕ) (more : List (List ℕ)) (value : ℤ)
    → words ≡ word ∷ more → value_of word ≡ Some value → finish size memory n place (values_of words) ≡ finish size (stored memory n (pos place) value) n (place + 1) (values_of more)
value_taken size memory n place words word more value first is =
    ap (λ (ws : List (List ℕ)). finish size memory n place (values_of ws)) first
    ∙ ap (λ (o : Option ℤ). finish size memory n place (option_and_then (λ (v : ℤ). option_map (λ (values : List ℤ). v ∷ values) (values_of more)) o)) is
    ∙ one_more size memory n place value (values_of more)

-- a word isn't a value
pub no_value : (size : ℕ) (memory : Memory) (n place : ℕ) (words : List (List ℕ)) (word : List ℕ) (more : List (List ℕ))
    → words ≡ word ∷ more → value_of word ≡ None → finish size memory n place (values_of words) ≡ Err kind.Number
no_value size memory n place words word more first is =
    ap (λ (ws : List (List ℕ)). finish size memory n place (values_of ws)) first
    ∙ ap (λ (o : Option ℤ). finish size memory n place (option_and_then (λ (v : ℤ). option_map (λ (values : List ℤ). v ∷ values) (values_of more)) o)) is

-- no word is left
pub all_taken : (size : ℕ) (memory : Memory) (n place : ℕ) (words : List (List ℕ)) → words ≡ [] → finish size memory n place (values_of words) ≡ (if place == size then Ok memory else Err kind.Count)
all_taken size memory n place words none =
    let many : place + 0 ≡ place = omega arith in
    ap (λ (ws : List (List ℕ)). finish size memory n place (values_of ws)) none
    ∙ ap (λ (count : ℕ). if count == size then Ok memory else Err kind.Count) many

-- a write within an array
stored_within : (memory : Memory) (n place : ℕ) (value : ℤ) → place < slice_index_or memory.sizes n 0
    → stored memory n (pos place) value ≡ record memory { words = set memory.words (sum (take n memory.sizes) + place) value }
stored_within memory n place value within =
    ap (λ (b : Bool). option_map_or (λ (k : ℕ). record memory { words = with_word memory.words k value }) (option_map (word_number memory.sizes n) (if b then Some place else None)) memory) (lt-ltb _ _ within)

-- numbers set one after another
sets : List ℤ → ℕ → List ℤ → List ℤ
sets words k [] = words
sets words k (value ∷ values) = sets (set words k value) (k + 1) values

sets-is : (words : List ℤ) (k : ℕ) (values : List ℤ) → k + length values ≤ length words → sets words k values ≡ take k words ++ (values ++ drop (k + length values) words)
unfolding sets
sets-is words k [] within =
    let none : k + 0 ≡ k = omega arith in
    sym (ap (λ (m : ℕ). take k words ++ drop m words) none ∙ take-append-drop k words)
sets-is words k (value ∷ values) within =
    let long : k + 1 + length values ≤ length (set words k value) = omega (arith, length-set words k value) in
    let there : k < length words = omega arith in
    let before : k < k + 1 + length values = omega arith in
    let many : k + 1 + length values ≡ k + suc (length values) = omega arith in
    sets-is (set words k value) (k + 1) values long
    ∙ ap (λ (front : List ℤ). front ++ (values ++ drop (k + 1 + length values) (set words k value))) (take_more_set words k value there)
    ∙ ap (λ (rest : List ℤ). (take k words ++ value ∷ []) ++ (values ++ rest)) (drop-set-lt (k + 1 + length values) words k value before)
    ∙ append_assoc (take k words) (value ∷ []) (values ++ drop (k + 1 + length values) words)
    ∙ ap (λ (m : ℕ). take k words ++ (value ∷ (values ++ drop m words))) many

written-sets : (memory : Memory) (n place : ℕ) (values : List ℤ) → place + length values ≤ slice_index_or memory.sizes n 0
    → written memory n place values ≡ record memory { words = sets memory.words (sum (take n memory.sizes) + place) values }
unfolding sets
written-sets memory n place [] within = refl
written-sets memory n place (value ∷ values) within =
    let start : ℕ = sum (take n memory.sizes) in
    let next : Memory = record memory { words = set memory.words (start + place) value } in
    let on : start + (place + 1) ≡ start + place + 1 = omega arith in
    ap (λ (m : Memory). written m n (place + 1) values) (stored_within memory n place value (omega arith))
    ∙ written-sets next n (place + 1) values (omega arith)
    ∙ ap (λ (k : ℕ). record memory { words = sets (set memory.words (start + place) value) k values }) on

-- all values of an array, written one after another
written_array : (memory : Memory) (n : ℕ) (values : List ℤ) → IsSound memory → n < length memory.sizes → length values ≡ slice_index_or memory.sizes n 0
    → written memory n 0 values ≡ with_array memory n values
written_array memory n values sound there many =
    let start : ℕ = sum (take n memory.sizes) in
    let none : start + 0 ≡ start = omega arith in
    let within : start + length values ≤ length memory.words = omega (arith, sum_by_more_le (λ (size : ℕ). size) memory.sizes n 0 there, many, sound.as_many) in
    written-sets memory n 0 values (omega arith)
    ∙ ap (λ (k : ℕ). record memory { words = sets memory.words k values }) none
    ∙ ap (λ (words : List ℤ). record memory { words = words }) (sets-is memory.words start values within)

chosen : (b : Bool) (memory : Memory) (f : List ℤ → Result Memory DataKind) (values : List ℤ) → (b ≡ true → Ok memory ≡ f values)
    → (if b then Ok memory else Err kind.Count) ≡ and_then f (if b then Ok values else Err kind.Count)
chosen true memory f values same = same refl
chosen false memory f values same = refl

-- what all words behind a name lead to
pub whole : (size : ℕ) (memory : Memory) (n : ℕ) (values : Option (List ℤ)) → IsSound memory → n < length memory.sizes → size ≡ slice_index_or memory.sizes n 0
    → and_then (λ (values : List ℤ). Ok (with_array memory n values)) (counted (slice_index_or memory.sizes n 0) values) ≡ finish size memory n 0 values
whole size memory n None sound there is = refl
whole size memory n (Some values) sound there is =
    let length_is : length values ≡ 0 + length values = omega arith in
    sym (chosen (length values == slice_index_or memory.sizes n 0) (written memory n 0 values) (λ (values : List ℤ). Ok (with_array memory n values)) values
    (λ many. ap Ok (written_array memory n values sound there (eqb-true _ _ many))))
    ∙ ap (λ (count : ℕ). if count == slice_index_or memory.sizes n 0 then Ok (written memory n 0 values) else Err kind.Count) length_is
    ∙ ap (λ (k : ℕ). if 0 + length values == k then Ok (written memory n 0 values) else Err kind.Count) (sym is)

-- The words behind all lines, array by array.
use Rattle.std.proofs.Common.{◌≡◌, ℕ, ◌+◌, ◌<◌, ◌≤◌, ◌-◌, ◌==◌, ℤ, pos, Bool, true, false, Option, Some, None, Result, Ok, Err, IfOk, List, [], ◌∷◌, length, take, drop, sum, replicate, set, slice_index_or, if◌then◌else◌, refl, sym, ap, ◌∙◌, subst, inl, inr, arith}
use Rattle.std.specs.Option.{option_map_or, unwrap_or, ok_or}
use Rattle.std.specs.Result.{result_map_both}
use Rattle.std.proofs.lemmas.List.{get_or-set_same, get_or-set_other, length-set, length-map, length-replicate, get_or-replicate, replicate-append-replicate, drop_at, take_at}
use Rattle.std.proofs.lemmas.List.Quantifiers.{position-Some}
use Rattle.std.proofs.lemmas.List.Sums.{sum_by_more_le}
use Rattle.std.proofs.lemmas.Bool.{cases_eq, eqb-true, eq-eqb, ne_eqb, cond-true, cond-false}
use Rattle.nest_syntax.specs.Arrays.{Array, sizes_of, array_names}
use Rattle.word_store.specs.Memory.{Memory, array_words, zeros}
use Rattle.nest_data.specs.Lines.{lines_of, words_of}
use Rattle.nest_data.specs.Data.{Read, array_named, values_of, counted, with_array, and_then, behind_values, behind_words, opening, outcome, data_of}
use Rattle.nest_data.specs.OfLines.{values_for, values_in, AreOfLines}
use Rattle.nest_data.specs.declared.refused.DataKind.{DataKind}
use Rattle.nest_data.specs.declared.refused.DataKind.TheVariants as kind
use Rattle.nest_data.proofs.Placed.{length-with_array, placed_same, placed_other}

-- how many arrays there are, and that all their words are there
pub record IsWhole (arrays : List ℕ) (read : Read) : Type 0 where
  pub sizes : length read.memory.sizes ≡ length arrays
  pub given : length read.given ≡ length arrays
  pub words : length read.memory.words ≡ sum read.memory.sizes

-- the words of an array that is given, or others
abbrev pub so_far : Read → ℕ → List ℤ → List ℤ
so_far read n others = if slice_index_or read.given n false then array_words read.memory n else others

-- A line changes what is read, and nothing of what is read in the end.
pub record Passes (names : List (List ℕ)) (arrays : List ℕ) (read : Read) (words : List (List ℕ)) (behind : Read) : Type 0 where
  pub whole : IsWhole arrays behind
  pub each : (n : ℕ) (rest : List ℤ → List ℤ) → n < length arrays
      → so_far read n (unwrap_or (values_for names arrays n words) (rest (array_words read.memory n))) ≡ so_far behind n (rest (array_words behind.memory n))

module _ (names : List (List ℕ)) (arrays : List ℕ) where
  -- a line of an array that has none yet
  passes : (read : Read) (name : List ℕ) (words : List (List ℕ)) (k : ℕ) (values : List ℤ) → IsWhole arrays read → array_named names arrays name ≡ Some k → k < length arrays
      → slice_index_or read.given k false ≡ false → values_of words ≡ Some values → length values ≡ slice_index_or read.memory.sizes k 0
      → Passes names arrays read (name ∷ words) (record { given = set read.given k true; memory = with_array read.memory k values })
  passes read name words k values whole named there new are many =
      let within : k < length read.memory.sizes = omega (arith, whole.sizes) in
      let behind : Read = record { given = set read.given k true; memory = with_array read.memory k values } in
      let marked : slice_index_or behind.given k false ≡ true = get_or-set_same read.given k true false (omega (arith, whole.given)) in
      record {
        whole = record {
          sizes = whole.sizes;
          given = length-set read.given k true ∙ whole.given;
          words = length-with_array read.memory k values whole.words within many ∙ whole.words;
        };
        each = λ n rest below. elim (cases_eq n k) [
          | inl equal ↦
              subst (λ (m : ℕ). so_far read m (unwrap_or (values_for names arrays m (name ∷ words)) (rest (array_words read.memory m))) ≡ so_far behind m (rest (array_words behind.memory m))) (sym equal)
              (cond-false (slice_index_or read.given k false) _ _ new
              ∙ ap (λ (o : Option ℕ). unwrap_or (if option_map_or (λ (j : ℕ). j == k) o false then values_of words else None) (rest (array_words read.memory k))) named
              ∙ ap (λ (b : Bool). unwrap_or (if b then values_of words else None) (rest (array_words read.memory k))) (eq-eqb k k refl)
              ∙ ap (λ (o : Option (List ℤ)). unwrap_or o (rest (array_words read.memory k))) are
              ∙ sym (placed_same read.memory k values whole.words within many)
              ∙ sym (cond-true (slice_index_or behind.given k false) _ _ marked))
          | inr differs ↦
              let other : array_words behind.memory n ≡ array_words read.memory n = placed_other read.memory k values whole.words within many n differs in
              ap (λ (o : Option ℕ). so_far read n (unwrap_or (if option_map_or (λ (j : ℕ). j == n) o false then values_of words else None) (rest (array_words read.memory n)))) named
              ∙ ap (λ (b : Bool). so_far read n (unwrap_or (if b then values_of words else None) (rest (array_words read.memory n)))) (ne_eqb k n (λ e. differs (sym e)))
              ∙ ap (λ (b : Bool). if b then array_words read.memory n else rest (array_words read.memory n)) (sym (get_or-set_other read.given k n true false differs))
              ∙ ap (λ (ws : List ℤ). if slice_index_or behind.given n false then ws else rest ws) (sym other)
        ];
      }

  -- each answer for a line is one that passes it
  counted_passes : (read : Read) (name : List ℕ) (words : List (List ℕ)) (k : ℕ) (values : List ℤ) (b : Bool) → IsWhole arrays read → array_named names arrays name ≡ Some k → k < length arrays
      → slice_index_or read.given k false ≡ false → values_of words ≡ Some values → (length values == slice_index_or read.memory.sizes k 0) ≡ b
      → IfOk (and_then (λ (vs : List ℤ). Ok (record { given = set read.given k true; memory = with_array read.memory k vs })) (if b then Ok values else Err kind.Count)) (Passes names arrays read (name ∷ words))
  counted_passes read name words k values true whole named there new are many = passes read name words k values whole named there new are (eqb-true _ _ many)
  counted_passes read name words k values false whole named there new are many = tt

  values_pass : (read : Read) (name : List ℕ) (words : List (List ℕ)) (k : ℕ) (o : Option (List ℤ)) → IsWhole arrays read → array_named names arrays name ≡ Some k → k < length arrays
      → slice_index_or read.given k false ≡ false → values_of words ≡ o
      → IfOk (and_then (λ (vs : List ℤ). Ok (record { given = set read.given k true; memory = with_array read.memory k vs })) (counted (slice_index_or read.memory.sizes k 0) o)) (Passes names arrays read (name ∷ words))
  values_pass read name words k None whole named there new are = tt
  values_pass read name words k (Some values) whole named there new are = counted_passes read name words k values (length values == slice_index_or read.memory.sizes k 0) whole named there new are refl

  given_pass : (read : Read) (name : List ℕ) (words : List (List ℕ)) (k : ℕ) (b : Bool) → IsWhole arrays read → array_named names arrays name ≡ Some k → k < length arrays
      → slice_index_or read.given k false ≡ b
      → IfOk (if b then Err kind.Repeated else and_then (λ (vs : List ℤ). Ok (record { given = set read.given k true; memory = with_array read.memory k vs })) (counted (slice_index_or read.memory.sizes k 0) (values_of words))) (Passes names arrays read (name ∷ words))
  given_pass read name words k true whole named there is = tt
  given_pass read name words k false whole named there is = values_pass read name words k (values_of words) whole named there is refl

  named_pass : (read : Read) (name : List ℕ) (words : List (List ℕ)) (o : Option ℕ) → IsWhole arrays read → array_named names arrays name ≡ o
      → IfOk (and_then (behind_values read words) (ok_or o kind.Name)) (Passes names arrays read (name ∷ words))
  named_pass read name words None whole named = tt
  named_pass read name words (Some k) whole named = given_pass read name words k (slice_index_or read.given k false) whole named (position-Some _ arrays k 0 named).0 refl

  words_pass : (read : Read) (words : List (List ℕ)) → IsWhole arrays read → IfOk (behind_words names arrays read words) (Passes names arrays read words)
  words_pass read [] whole = record { whole = whole; each = λ n rest below. refl }
  words_pass read (name ∷ words) whole = named_pass read name words (array_named names arrays name) whole refl

  -- the rest of the lines, from what a line leaves
  goes_on : (read : Read) (line : ℕ) (texts : List (List ℕ)) (words : List (List ℕ)) (memory : Memory) (n : ℕ) (result : Result Read DataKind) → n < length arrays
      → IfOk result (Passes names arrays read words)
      → ((behind : Read) → IsWhole arrays behind → outcome names arrays behind (line + 1) texts ≡ Ok memory → array_words memory n ≡ so_far behind n (values_in names arrays n (array_words behind.memory n) texts))
      → and_then (λ (behind : Read). outcome names arrays behind (line + 1) texts) (result_map_both (λ (r : Read). r) (λ (fault : DataKind). (fault, line)) result) ≡ Ok memory
      → array_words memory n ≡ so_far read n (unwrap_or (values_for names arrays n words) (values_in names arrays n (array_words read.memory n) texts))
  goes_on read line texts words memory n (Ok behind) below passed more ended =
      more behind passed.whole ended ∙ sym (passed.each n (λ (others : List ℤ). values_in names arrays n others texts) below)
  goes_on read line texts words memory n (Err fault) below passed more ended = cc

  either : (b : Bool) (words : List ℤ) → words ≡ (if b then words else words)
  either true words = refl
  either false words = refl

  pub gathered : (read : Read) (line : ℕ) (texts : List (List ℕ)) (memory : Memory) (n : ℕ) → n < length arrays → IsWhole arrays read → outcome names arrays read line texts ≡ Ok memory
      → array_words memory n ≡ so_far read n (values_in names arrays n (array_words read.memory n) texts)
  gathered read line [] memory n below whole ended =
      let same : read.memory ≡ memory = cc in
      ap (λ (m : Memory). array_words m n) (sym same) ∙ either (slice_index_or read.given n false) (array_words read.memory n)
  gathered read line (text ∷ texts) memory n below whole ended =
      goes_on read line texts (words_of text) memory n (behind_words names arrays read (words_of text)) below (words_pass read (words_of text) whole)
      (λ behind is. gathered behind (line + 1) texts memory n below is) ended

-- a stretch of zeros
zeros_between : (s m rest : ℕ) → take m (drop s (replicate (s + (m + rest)) (pos 0))) ≡ replicate m (pos 0)
zeros_between s m rest =
    ap (λ (words : List ℤ). take m (drop s words)) (sym (replicate-append-replicate s (m + rest) (pos 0)))
    ∙ ap (take m) (drop_at (replicate s (pos 0)) (replicate (m + rest) (pos 0)) s (length-replicate s (pos 0)))
    ∙ ap (take m) (sym (replicate-append-replicate m rest (pos 0)))
    ∙ take_at (replicate m (pos 0)) (replicate rest (pos 0)) m (length-replicate m (pos 0))

array_of_zeros : (sizes : List ℕ) (n : ℕ) → n < length sizes → array_words (zeros sizes) n ≡ replicate (slice_index_or sizes n 0) (pos 0)
array_of_zeros sizes n there =
    let s : ℕ = sum (take n sizes) in
    let m : ℕ = slice_index_or sizes n 0 in
    let within : s + m ≤ sum sizes = sum_by_more_le (λ (size : ℕ). size) sizes n 0 there in
    let all : sum sizes ≡ s + (m + (sum sizes - (s + m))) = omega arith in
    ap (λ (count : ℕ). take m (drop s (replicate count (pos 0)))) all ∙ zeros_between s m (sum sizes - (s + m))

pub words_are : (names : List (List ℕ)) (arrays : List Array) (line : ℕ) (bytes : List ℕ) (memory : Memory) → data_of names arrays line bytes ≡ Ok memory → AreOfLines names arrays (lines_of bytes) memory
words_are names arrays line bytes memory is = λ n below.
    let sizes : List ℕ = sizes_of arrays in
    let many : length sizes ≡ length arrays = length-map arrays (λ (a : Array). a.size) in
    let named : length (array_names arrays) ≡ length arrays = length-map arrays (λ (a : Array). a.name) in
    let whole : IsWhole (array_names arrays) (opening sizes) = record {
      sizes = many ∙ sym named;
      given = length-replicate (length sizes) false ∙ (many ∙ sym named);
      words = length-replicate (sum sizes) (pos 0);
    } in
    gathered names (array_names arrays) (opening sizes) line (lines_of bytes) memory n (omega arith) whole is
    ∙ cond-false (slice_index_or (opening sizes).given n false) _ _ (get_or-replicate (length sizes) n false false (omega arith))
    ∙ ap (λ (others : List ℤ). values_in names (array_names arrays) n others (lines_of bytes)) (array_of_zeros sizes n (omega arith))

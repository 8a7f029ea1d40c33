-- The words of each array after those of one array are put in place.
use Rattle.std.proofs.Common.{◌≡◌, ℕ, ◌+◌, ◌-◌, ◌<◌, ◌≤◌, ℤ, List, ◌++◌, length, get_or, take, drop, sum, slice_index_or, sym, ap, ◌∙◌, inl, inr, arith, length-append}
use Rattle.std.proofs.lemmas.List.{take-append-drop, append_assoc, length-take-le, length-drop, take_at, drop_at, drop-drop, take-take, take-append-le, drop-append-le}
use Rattle.std.proofs.lemmas.List.Sums.{sum_by_more, sum_by_more_le, sum_by-take-le}
use Rattle.std.proofs.lemmas.Bool.{cases_lt}
use Rattle.word_store.specs.Memory.{Memory, array_words}
use Rattle.nest_data.specs.Data.{with_array}

-- an array ends before a later one starts
ends_before : (sizes : List ℕ) (n k : ℕ) → n < k → n < length sizes → sum (take n sizes) + get_or sizes n 0 ≤ sum (take k sizes)
ends_before sizes n k earlier there =
    let more = sum_by_more (λ (size : ℕ). size) sizes n 0 there in
    let within = sum_by-take-le (λ (size : ℕ). size) (take k sizes) (n + 1) in
    let both = ap sum (take-take (n + 1) k sizes (omega arith)) in
    omega (arith, more, within, both)

-- a stretch of a front
in_front : (s m : ℕ) (xs ys : List ℤ) → s + m ≤ length xs → take m (drop s (xs ++ ys)) ≡ take m (drop s xs)
in_front s m xs ys within =
    let first : s ≤ length xs = omega arith in
    let rest : m ≤ length (drop s xs) = omega (arith, length-drop s xs) in
    ap (take m) (drop-append-le s xs ys first) ∙ take-append-le m (drop s xs) ys rest

-- a stretch behind a front
in_back : (e m : ℕ) (xs ys : List ℤ) → length xs ≡ e → drop (e + m) (xs ++ ys) ≡ drop m ys
in_back e m xs ys long = sym (drop-drop m e (xs ++ ys)) ∙ ap (drop m) (drop_at xs ys e long)

module _ (memory : Memory) (k : ℕ) (values : List ℤ) (whole : length memory.words ≡ sum memory.sizes) (there : k < length memory.sizes) (many : length values ≡ slice_index_or memory.sizes k 0) where
  room : sum (take k memory.sizes) + length values ≤ length memory.words
  room = omega (arith, sum_by_more_le (λ (size : ℕ). size) memory.sizes k 0 there)

  front_length : length (take (sum (take k memory.sizes)) memory.words) ≡ sum (take k memory.sizes)
  front_length = length-take-le (sum (take k memory.sizes)) memory.words (omega (arith, room))

  pub length-with_array : length (with_array memory k values).words ≡ length memory.words
  length-with_array =
      let start : ℕ = sum (take k memory.sizes) in
      omega (arith, length-append (take start memory.words) (values ++ drop (start + length values) memory.words), length-append values (drop (start + length values) memory.words), length-drop (start + length values) memory.words, front_length, room)

  -- the array has the values
  pub placed_same : array_words (with_array memory k values) k ≡ values
  placed_same =
      let start : ℕ = sum (take k memory.sizes) in
      ap (take (slice_index_or memory.sizes k 0)) (drop_at (take start memory.words) (values ++ drop (start + length values) memory.words) start front_length)
      ∙ take_at values (drop (start + length values) memory.words) (slice_index_or memory.sizes k 0) many

  placed_before : (n : ℕ) → n < k → array_words (with_array memory k values) n ≡ array_words memory n
  placed_before n earlier =
      let start : ℕ = sum (take k memory.sizes) in
      let s : ℕ = sum (take n memory.sizes) in
      let m : ℕ = slice_index_or memory.sizes n 0 in
      let within : s + m ≤ length (take start memory.words) = omega (arith, ends_before memory.sizes n k earlier (omega arith), front_length) in
      in_front s m (take start memory.words) (values ++ drop (start + length values) memory.words) within
      ∙ sym (in_front s m (take start memory.words) (drop start memory.words) within)
      ∙ ap (λ (words : List ℤ). take m (drop s words)) (take-append-drop start memory.words)

  placed_after : (n : ℕ) → k < n → array_words (with_array memory k values) n ≡ array_words memory n
  placed_after n later =
      let start : ℕ = sum (take k memory.sizes) in
      let end : ℕ = start + length values in
      let s : ℕ = sum (take n memory.sizes) in
      let before : end ≤ s = omega (arith, ends_before memory.sizes k n later there, many) in
      let at : s ≡ end + (s - end) = omega arith in
      let long : length (take start memory.words ++ values) ≡ end = omega (arith, length-append (take start memory.words) values, front_length) in
      let joined = sym (append_assoc (take start memory.words) values (drop end memory.words)) in
      ap (take (slice_index_or memory.sizes n 0))
      (ap (drop s) joined
      ∙ ap (λ (i : ℕ). drop i (take start memory.words ++ values ++ drop end memory.words)) at
      ∙ in_back end (s - end) (take start memory.words ++ values) (drop end memory.words) long
      ∙ drop-drop (s - end) end memory.words
      ∙ ap (λ (i : ℕ). drop i memory.words) (sym at))

  -- the others stay
  pub placed_other : (n : ℕ) → (n ≡ k → ⊥) → array_words (with_array memory k values) n ≡ array_words memory n
  placed_other n differs = elim (cases_lt n k) [
    | inl earlier ↦ placed_before n earlier
    | inr rest ↦ placed_after n (let later : k < n = elim (cases_lt k n) [ inl l ↦ l | inr g ↦ absurd (differs (omega arith)) ] in later)
  ]

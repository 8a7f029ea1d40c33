-- What is read of data lines is what is said of them line by line.
use Rattle.std.proofs.Common.{◌≡◌, ℕ, suc, ◌+◌, ◌<◌, ◌==◌, ◌||◌, ◌&&◌, not, ℤ, Bool, true, false, Option, Some, None, Result, Ok, Err, List, [], ◌∷◌, ◌++◌, length, take, drop, drop-cons, set, slice_index_or, if◌then◌else◌, refl, sym, ap, ◌∙◌, subst, inl, inr, arith}
use Rattle.std.specs.Prelude.{is_some}
use Rattle.std.specs.List.{list_all}
use Rattle.std.specs.Option.{option_map, option_and_then, ok_or}
use Rattle.std.specs.Result.{result_map_both}
use Rattle.std.specs.Str.{bytes_eq}
use Rattle.std.proofs.Math.Seq.{take-suc}
use Rattle.std.proofs.lemmas.Bool.{false≢true, cases_lt}
use Rattle.std.proofs.lemmas.Slice.Eq.{bytes_eq-Decides}
use Rattle.std.proofs.lemmas.List.{get_or-set_same, get_or-set_other, get_or_past, length-set, length-drop, length-map, length-replicate, get_or-replicate}
use Rattle.std.proofs.lemmas.List.Folds.{list_any-append}
use Rattle.std.proofs.lemmas.List.Quantifiers.{position-Some}
use Rattle.nest_syntax.specs.Arrays.{Array, sizes_of, array_names}
use Rattle.nest_data.specs.Lines.{lines_of, words_of}
use Rattle.nest_data.specs.Values.{value_of}
use Rattle.nest_data.specs.Data.{Read, array_named, values_of, counted, with_array, and_then, behind_values, behind_words, opening, outcome, data_of}
use Rattle.nest_data.specs.Faults.{begins_with, has_line, fault_of, fault_in, fault_at, Judges}
use Rattle.nest_data.specs.declared.refused.DataKind.{DataKind}
use Rattle.nest_data.specs.declared.refused.DataKind.TheVariants as kind

abbrev are_values : List (List ℕ) → Bool
are_values words = list_all (λ (word : List ℕ). is_some (value_of word)) words

-- words have values where each is one, and as many
abbrev AreCounted : List (List ℕ) → Option (List ℤ) → Type 0
AreCounted words None = are_values words ≡ false
AreCounted words (Some values) = (are_values words ≡ true) × (length values ≡ length words)

are_counted : (words : List (List ℕ)) → AreCounted words (values_of words)
are_counted [] = (refl, refl)
are_counted (word ∷ words) = by (value_of word) (values_of words) refl (are_counted words)
  where
    by : (value : Option ℤ) (more : Option (List ℤ)) → value_of word ≡ value → AreCounted words more
        → AreCounted (word ∷ words) (option_and_then (λ (v : ℤ). option_map (λ (values : List ℤ). v ∷ values) more) value)
    by None more is rest = ap (λ (o : Option ℤ). is_some o && are_values words) is
    by (Some v) None is rest = ap (λ (o : Option ℤ). is_some o && are_values words) is ∙ rest
    by (Some v) (Some values) is rest = (ap (λ (o : Option ℤ). is_some o && are_values words) is ∙ rest.0, ap suc rest.1)

-- the first fault of an array's line, by three tests
abbrev first_of : Bool → Bool → Bool → Option DataKind
first_of repeated are many = if repeated then Some kind.Repeated else if not are then Some kind.Number else if not many then Some kind.Count else None

module _ (names : List (List ℕ)) (arrays : List Array) where
  -- what is read keeps which arrays the lines so far have named
  record Follows (read : Read) (before : List (List ℕ)) : Type 0 where
    pub sizes : read.memory.sizes ≡ sizes_of arrays
    pub many : length read.given ≡ length (array_names arrays)
    pub given : (name : List ℕ) (n : ℕ) → array_named names (array_names arrays) name ≡ Some n → slice_index_or read.given n false ≡ has_line before name

  -- behind one line more, or at its fault
  abbrev IsRead : List (List ℕ) → List ℕ → Result Read DataKind → Type 0
  IsRead before text (Ok behind) = (fault_in names arrays before (words_of text) ≡ None) × Follows behind (before ++ text ∷ [])
  IsRead before text (Err fault) = fault_in names arrays before (words_of text) ≡ Some fault

  -- two words that name one array are one word
  one_name : (name other : List ℕ) (n : ℕ) → array_named names (array_names arrays) name ≡ Some n → array_named names (array_names arrays) other ≡ Some n → name ≡ other
  one_name name other n is is' =
      let here = position-Some (λ k. bytes_eq (slice_index_or names k []) name) (array_names arrays) n 0 is in
      let there = position-Some (λ k. bytes_eq (slice_index_or names k []) other) (array_names arrays) n 0 is' in
      sym ((bytes_eq-Decides _ name).0 here.1) ∙ (bytes_eq-Decides _ other).0 there.1

  or_none : (b : Bool) → (b || false) ≡ b
  or_none true = refl
  or_none false = refl

  or_one : (b : Bool) → (b || true) ≡ true
  or_one true = refl
  or_one false = refl

  module _ (read : Read) (before : List (List ℕ)) (text : List ℕ) (follows : Follows read before) where
    -- what one line more names
    more_lines : (name : List ℕ) (words : List (List ℕ)) → words_of text ≡ words → has_line (before ++ text ∷ []) name ≡ (has_line before name || begins_with name words)
    more_lines name words are =
        list_any-append (λ (line : List ℕ). begins_with name (words_of line)) before (text ∷ [])
        ∙ ap (λ (ws : List (List ℕ)). has_line before name || (begins_with name ws || false)) are
        ∙ ap (λ b. has_line before name || b) (or_none (begins_with name words))

    -- a line without words changes nothing
    blank : words_of text ≡ [] → IsRead before text (Ok read)
    blank none = (
      ap (fault_in names arrays before) none,
      record {
        sizes = follows.sizes;
        many = follows.many;
        given = λ name n is. follows.given name n is ∙ sym (or_none (has_line before name)) ∙ sym (more_lines name [] none);
      },
    )

    module _ (name : List ℕ) (words : List (List ℕ)) (are : words_of text ≡ name ∷ words) where
      fault_is : (o : Option ℕ) → array_named names (array_names arrays) name ≡ o → fault_in names arrays before (words_of text) ≡ fault_of arrays before name words o
      fault_is o is = ap (fault_in names arrays before) are ∙ ap (fault_of arrays before name words) is

      module _ (n : ℕ) (is : array_named names (array_names arrays) name ≡ Some n) where
        first_is : (repeated all many : Bool) → has_line before name ≡ repeated → are_values words ≡ all → (length words == slice_index_or (sizes_of arrays) n 0) ≡ many
            → fault_in names arrays before (words_of text) ≡ first_of repeated all many
        first_is repeated all many r a m =
            fault_is (Some n) is
            ∙ ap (λ b. first_of b (are_values words) (length words == slice_index_or (sizes_of arrays) n 0)) r
            ∙ ap (λ b. first_of repeated b (length words == slice_index_or (sizes_of arrays) n 0)) a
            ∙ ap (first_of repeated all) m

        -- the array has its line now
        marked : (values : List ℤ) → Follows (record { given = set read.given n true; memory = with_array read.memory n values }) (before ++ text ∷ [])
        marked values = record {
          sizes = follows.sizes;
          many = length-set read.given n true ∙ follows.many;
          given = λ other k named. by other k named (bytes_eq name other) refl ∙ sym (more_lines other (name ∷ words) are);
        }
          where
            by : (other : List ℕ) (k : ℕ) → array_named names (array_names arrays) other ≡ Some k → (b : Bool) → bytes_eq name other ≡ b
                → slice_index_or (set read.given n true) k false ≡ (has_line before other || bytes_eq name other)
            by other k named true e =
                let equal = (bytes_eq-Decides name other).0 e in
                let same : n ≡ k = cc (ap (array_named names (array_names arrays)) equal, is, named) in
                let there = (position-Some (λ j. bytes_eq (slice_index_or names j []) name) (array_names arrays) n 0 is).0 in
                ap (λ j. slice_index_or (set read.given n true) j false) (sym same)
                ∙ get_or-set_same read.given n true false (omega (arith, there, follows.many))
                ∙ sym (or_one (has_line before other)) ∙ ap (λ b. has_line before other || b) (sym e)
            by other k named false e =
                let differs : k ≡ n → ⊥ = λ same. false≢true (sym e ∙ (bytes_eq-Decides name other).1 (one_name name other n is (named ∙ ap (λ j. Some j) same))) in
                get_or-set_other read.given n k true false differs ∙ follows.given other k named
                ∙ sym (or_none (has_line before other)) ∙ ap (λ b. has_line before other || b) (sym e)

        counted_read : (values : List ℤ) → has_line before name ≡ false → (are_values words ≡ true) × (length values ≡ length words) → (b : Bool) → (length values == slice_index_or read.memory.sizes n 0) ≡ b
            → IsRead before text (and_then (λ (vs : List ℤ). Ok (record { given = set read.given n true; memory = with_array read.memory n vs })) (if b then Ok values else Err kind.Count))
        counted_read values new all b e = by b (first_is false true b new all.0 (ap (λ m. m == slice_index_or (sizes_of arrays) n 0) (sym all.1) ∙ ap (λ sizes. length values == slice_index_or sizes n 0) (sym follows.sizes) ∙ e))
          where
            by : (b : Bool) → fault_in names arrays before (words_of text) ≡ first_of false true b
                → IsRead before text (and_then (λ (vs : List ℤ). Ok (record { given = set read.given n true; memory = with_array read.memory n vs })) (if b then Ok values else Err kind.Count))
            by true first = (first, marked values)
            by false first = first

        values_read : (o : Option (List ℤ)) → has_line before name ≡ false → AreCounted words o
            → IsRead before text (and_then (λ (vs : List ℤ). Ok (record { given = set read.given n true; memory = with_array read.memory n vs })) (counted (slice_index_or read.memory.sizes n 0) o))
        values_read None new all = first_is false false _ new all refl
        values_read (Some values) new all = counted_read values new all _ refl

        array_read : (b : Bool) → slice_index_or read.given n false ≡ b
            → IsRead before text (if b then Err kind.Repeated else and_then (λ (vs : List ℤ). Ok (record { given = set read.given n true; memory = with_array read.memory n vs })) (counted (slice_index_or read.memory.sizes n 0) (values_of words)))
        array_read true e = first_is true _ _ (sym (follows.given name n is) ∙ e) refl refl
        array_read false e = values_read (values_of words) (sym (follows.given name n is) ∙ e) (are_counted words)

      named_read : (o : Option ℕ) → array_named names (array_names arrays) name ≡ o → IsRead before text (and_then (behind_values read words) (ok_or o kind.Name))
      named_read None is = fault_is None is
      named_read (Some n) is = array_read n is (slice_index_or read.given n false) refl

    words_read : (words : List (List ℕ)) → words_of text ≡ words → IsRead before text (behind_words names (array_names arrays) read words)
    words_read [] are = blank are
    words_read (name ∷ words) are = named_read name words are (array_named names (array_names arrays) name) refl

  module _ (first : ℕ) (lines : List (List ℕ)) where
    goes_on : (k : ℕ) (text : List ℕ) (texts : List (List ℕ)) → drop k lines ≡ text ∷ texts → (slice_index_or lines k [] ≡ text) × (drop (suc k) lines ≡ texts) × (take (suc k) lines ≡ take k lines ++ text ∷ [])
    goes_on k text texts are =
        let long = ap length are in
        let within : k < length lines = omega (arith, length-drop k lines, long) in
        let cut = sym (drop-cons lines k [] within) ∙ are in
        let here : slice_index_or lines k [] ≡ text = cc in
        (here, cc, take-suc lines k [] within ∙ ap (λ (line : List ℕ). take k lines ++ line ∷ []) here)

    -- a line, where what is behind it is judged
    behind : (k line : ℕ) (text : List ℕ) (texts : List (List ℕ)) → line ≡ first + k → drop k lines ≡ text ∷ texts → ((i : ℕ) → i < k → fault_at names arrays lines i ≡ None)
        → ((read : Read) → Follows read (take (suc k) lines) → ((i : ℕ) → i < suc k → fault_at names arrays lines i ≡ None) → Judges names arrays first lines (outcome names (array_names arrays) read (line + 1) texts))
        → (result : Result Read DataKind) → IsRead (take k lines) text result
        → Judges names arrays first lines (and_then (λ (read : Read). outcome names (array_names arrays) read (line + 1) texts) (result_map_both (λ (r : Read). r) (λ (fault : DataKind). (fault, line)) result))
    behind k line text texts at are sound more (Ok read) is =
        let next = goes_on k text texts are in
        more read (subst (Follows read) (sym next.2) is.1)
        (λ i less. elim (cases_lt i k) [
          | inl earlier ↦ sound i earlier
          | inr rest ↦ let same : i ≡ k = omega arith in ap (fault_at names arrays lines) same ∙ ap (λ (l : List ℕ). fault_in names arrays (take k lines) (words_of l)) next.0 ∙ is.0
        ])
    behind k line text texts at are sound more (Err fault) is =
        (k, at, record { faulty = ap (λ (l : List ℕ). fault_in names arrays (take k lines) (words_of l)) (goes_on k text texts are).0 ∙ is; sound = sound })

    -- the lines from one on, where those before it have no fault
    from : (k line : ℕ) (read : Read) (texts : List (List ℕ)) → line ≡ first + k → drop k lines ≡ texts → Follows read (take k lines) → ((i : ℕ) → i < k → fault_at names arrays lines i ≡ None)
        → Judges names arrays first lines (outcome names (array_names arrays) read line texts)
    from k line read [] at are follows sound = λ i. elim (cases_lt i k) [
      | inl less ↦ sound i less
      | inr rest ↦
          let long = ap length are in
          ap (λ (text : List ℕ). fault_in names arrays (take i lines) (words_of text)) (get_or_past lines i [] (omega (arith, length-drop k lines, long)))
    ]
    from k line read (text ∷ texts) at are follows sound =
        behind k line text texts at are sound (λ next. from (suc k) (line + 1) next texts (omega (arith, at)) (goes_on k text texts are).1)
        (behind_words names (array_names arrays) read (words_of text)) (words_read read (take k lines) text follows (words_of text) refl)

pub judged : (names : List (List ℕ)) (arrays : List Array) (first : ℕ) (bytes : List ℕ) → Judges names arrays first (lines_of bytes) (data_of names arrays first bytes)
judged names arrays first bytes =
    let sizes : List ℕ = sizes_of arrays in
    let many : length sizes ≡ length (array_names arrays) = length-map arrays (λ (a : Array). a.size) ∙ sym (length-map arrays (λ (a : Array). a.name)) in
    from names arrays first (lines_of bytes) 0 first (opening sizes) (lines_of bytes) (omega arith) refl
    (record {
      sizes = refl;
      many = length-replicate (length sizes) false ∙ many;
      given = λ name n is.
          let there = (position-Some (λ j. bytes_eq (slice_index_or names j []) name) (array_names arrays) n 0 is).0 in
          get_or-replicate (length sizes) n false false (omega (arith, there, many));
    })
    (λ i less. absurd (omega arith))

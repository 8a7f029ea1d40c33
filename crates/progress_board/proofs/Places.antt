-- A list that is told in 64 places: its first items, and nothing behind them.
use Rattle.std.proofs.Common.{◌≡◌, ℕ, zero, suc, ◌+◌, ◌-◌, ◌≤◌, ◌<◌, min, Option, Some, None, List, [], ◌∷◌, ◌++◌, length, map, take, replicate, set, refl, sym, ap, ◌∙◌, arith, ⊎_elim, length-append}
use Rattle.std.proofs.lemmas.Bool.{cases_lt}
use Rattle.std.proofs.lemmas.List.{length-replicate, length-map, length-take, take_all, take_at}

set-past : {A : Type 0} (xs : List A) (i : ℕ) (v : A) → length xs ≤ i → set xs i v ≡ xs
set-past [] i v past = refl
set-past (x ∷ xs) zero v past = absurd (omega arith)
set-past (x ∷ xs) (suc i) v past = ap (λ ys. x ∷ ys) (set-past xs i v (omega arith))

-- one more is counted
pub counted_more : {A : Type 0} (xs : List A) (count : ℕ) (x : A) → length xs ≡ min count 64 → length (take 64 (xs ++ x ∷ [])) ≡ min (count + 1) 64
counted_more xs count x many = length-take 64 (xs ++ x ∷ []) ∙ (let longer : length (xs ++ x ∷ []) ≡ length xs + 1 = length-append xs (x ∷ []) in let e : min 64 (length (xs ++ x ∷ [])) ≡ min (count + 1) 64 = omega arith in e)

module _ {A P : Type 0} (told : A → P) where
  abbrev pub placed : A → Option P
  placed x = Some (told x)

  abbrev pub places : List A → List (Option P)
  places xs = map placed xs ++ replicate (64 - length xs) None

  set-padded : (xs : List A) (k : ℕ) (y : Option P) → set (map placed xs ++ replicate (suc k) None) (length xs) y ≡ map placed xs ++ y ∷ replicate k None
  set-padded [] k y = refl
  set-padded (x ∷ xs) k y = ap (λ ys. placed x ∷ ys) (set-padded xs k y)

  map-push : (xs : List A) (x : A) (k : ℕ) → map placed xs ++ placed x ∷ replicate k None ≡ map placed (xs ++ x ∷ []) ++ replicate k None
  map-push [] x k = refl
  map-push (y ∷ xs) x k = ap (λ ys. placed y ∷ ys) (map-push xs x k)

  length-places : (xs : List A) → length xs ≤ 64 → length (places xs) ≡ 64
  length-places xs few = length-append (map placed xs) (replicate (64 - length xs) None) ∙ (let n : length (map placed xs) ≡ length xs = length-map xs placed in let k : length (replicate {A = Option P} (64 - length xs) None) ≡ 64 - length xs = length-replicate (64 - length xs) None in let all : length (map placed xs) + length (replicate {A = Option P} (64 - length xs) None) ≡ 64 = omega arith in all)

  -- one more is put at the number of those that were counted, where there is a place
  pub placed_more : (xs : List A) (count : ℕ) (x : A) → length xs ≡ min count 64 → set (places xs) count (placed x) ≡ places (take 64 (xs ++ x ∷ []))
  placed_more xs count x many = ⊎_elim room full (cases_lt count 64)
    where
      room : count < 64 → set (places xs) count (placed x) ≡ places (take 64 (xs ++ x ∷ []))
      room less =
          let here : count ≡ length xs = omega arith in
          let left : 64 - length xs ≡ suc (63 - length xs) = omega arith in
          let longer : length (xs ++ x ∷ []) ≡ suc (length xs) = length-append xs (x ∷ []) ∙ (let e : length xs + 1 ≡ suc (length xs) = omega arith in e) in
          let same : 63 - length xs ≡ 64 - length (xs ++ x ∷ []) = omega arith in
          ap (λ i. set (places xs) i (placed x)) here
          ∙ ap (λ k. set (map placed xs ++ replicate k None) (length xs) (placed x)) left
          ∙ set-padded xs (63 - length xs) (placed x)
          ∙ map-push xs x (63 - length xs)
          ∙ ap (λ k. map placed (xs ++ x ∷ []) ++ replicate k None) same
          ∙ ap places (sym (take_all 64 (xs ++ x ∷ []) (omega arith)))

      full : 64 ≤ count → set (places xs) count (placed x) ≡ places (take 64 (xs ++ x ∷ []))
      full past =
          let all : length xs ≡ 64 = omega arith in
          set-past (places xs) count (placed x) (omega (arith, length-places xs (omega arith)))
          ∙ ap places (sym (take_at xs (x ∷ []) 64 all))

  -- and it is read back from them
  module _ (listed : List (Option P) → List A) (nothing : listed [] ≡ []) (none : (ps : List (Option P)) → listed (None ∷ ps) ≡ listed ps) (some : (x : A) (ps : List (Option P)) → listed (placed x ∷ ps) ≡ x ∷ listed ps) where
    listed-nothing : (k : ℕ) → listed (replicate k None) ≡ []
    listed-nothing zero = nothing
    listed-nothing (suc k) = none (replicate k None) ∙ listed-nothing k

    listed-padded : (xs : List A) (k : ℕ) → listed (map placed xs ++ replicate k None) ≡ xs
    listed-padded [] k = listed-nothing k
    listed-padded (x ∷ xs) k = some x (map placed xs ++ replicate k None) ∙ ap (λ ys. x ∷ ys) (listed-padded xs k)

    pub listed_places : (xs : List A) → listed (places xs) ≡ xs
    listed_places xs = listed-padded xs (64 - length xs)

-- Names, each once, and their places.
use Rattle.std.proofs.Common.{◌≡◌, ℕ, ◌+◌, ◌<◌, ◌≤◌, Bool, true, false, not, cond, ◌||◌, ◌&&◌, eq-eqb, if◌then◌else◌, List, [], ◌∷◌, ◌++◌, length, map, refl, sym, ap, ◌∙◌, arith, Bor}
use Rattle.std.specs.List.{list_any, prefix_len, position_or_len}
use Rattle.std.specs.Str.{bytes_eq}
use Rattle.std.proofs.lemmas.Bool.{false≢true}
use Rattle.std.proofs.lemmas.List.{map-append}
use Rattle.std.proofs.lemmas.List.{append-nil}
use Rattle.nest_lex.specs.Reader.{IsKnown}
use Rattle.nest_lex.specs.Text.{with_name, names_with, kind_of}
use Rattle.nest_lex.specs.declared.piece.Piece.{Piece}
use Rattle.nest_lex.specs.declared.piece.Piece.TheVariants as piece
use Rattle.nest_lex.specs.declared.token.Kind.TheVariants as kind

prefix_len-map : {X Y : Type 0} (p : Y → Bool) (h : X → Y) (xs : List X) → prefix_len p (map h xs) ≡ prefix_len (λ x. p (h x)) xs
prefix_len-map p h [] = refl
prefix_len-map p h (x ∷ xs) = ap (λ n. cond (p (h x)) (1 + n) 0) (prefix_len-map p h xs)

module _ {X : Type 0} (p : X → Bool) where
  -- the place of the first that passes is 0, or one more than in the rest
  first_passes : (x : X) (xs : List X) → p x ≡ true → position_or_len p (x ∷ xs) ≡ 0
  first_passes x xs e = ap (λ b. cond (not b) (1 + position_or_len p xs) 0) e

  first_fails : (x : X) (xs : List X) → p x ≡ false → position_or_len p (x ∷ xs) ≡ 1 + position_or_len p xs
  first_fails x xs e = ap (λ b. cond (not b) (1 + position_or_len p xs) 0) e

  any_passes : (x : X) (xs : List X) → p x ≡ true → list_any p (x ∷ xs) ≡ true
  any_passes x xs e = ap (λ b. b || list_any p xs) e

  any_fails : (x : X) (xs : List X) → p x ≡ false → list_any p (x ∷ xs) ≡ list_any p xs
  any_fails x xs e = ap (λ b. b || list_any p xs) e

  -- what is nowhere has the length for its place
  pub place_absent : (xs : List X) → list_any p xs ≡ false → position_or_len p xs ≡ length xs
  place_absent [] none = refl
  place_absent (x ∷ xs) none = by (p x) refl (place_absent xs)
    where
      by : (b : Bool) → p x ≡ b → (list_any p xs ≡ false → position_or_len p xs ≡ length xs) → position_or_len p (x ∷ xs) ≡ length (x ∷ xs)
      by true e rest = absurd (false≢true (sym none ∙ any_passes x xs e))
      by false e rest = let f = first_fails x xs e in let g = rest (sym (any_fails x xs e) ∙ none) in omega arith

  -- what is somewhere has its place below the length
  pub place_present : (xs : List X) → list_any p xs ≡ true → position_or_len p xs < length xs
  place_present [] some = absurd (false≢true some)
  place_present (x ∷ xs) some = by (p x) refl (place_present xs)
    where
      by : (b : Bool) → p x ≡ b → (list_any p xs ≡ true → position_or_len p xs < length xs) → position_or_len p (x ∷ xs) < length (x ∷ xs)
      by true e rest = let f = first_passes x xs e in omega arith
      by false e rest = let f = first_fails x xs e in let g = rest (sym (any_fails x xs e) ∙ some) in omega arith

  -- and keeps it where more follow
  pub place-append : (xs ys : List X) → list_any p xs ≡ true → position_or_len p (xs ++ ys) ≡ position_or_len p xs
  place-append [] ys some = absurd (false≢true some)
  place-append (x ∷ xs) ys some = by (p x) refl (place-append xs ys)
    where
      by : (b : Bool) → p x ≡ b → (list_any p xs ≡ true → position_or_len p (xs ++ ys) ≡ position_or_len p xs) → position_or_len p ((x ∷ xs) ++ ys) ≡ position_or_len p (x ∷ xs)
      by true e rest = first_passes x (xs ++ ys) e ∙ sym (first_passes x xs e)
      by false e rest = first_fails x (xs ++ ys) e ∙ ap (λ n. 1 + n) (rest (sym (any_fails x xs e) ∙ some)) ∙ sym (first_fails x xs e)

pub number_seen : (name : List ℕ) (names : List (List ℕ)) (keys : List (Bor (List ℕ))) → names ≡ map (λ k. k.now) keys
    → position_or_len (λ (k : Bor (List ℕ)). bytes_eq name k.now) keys ≡ position_or_len (bytes_eq name) names
number_seen name names keys same =
    sym (prefix_len-map (λ n. not (bytes_eq name n)) (λ (k : Bor (List ℕ)). k.now) keys) ∙ ap (position_or_len (bytes_eq name)) (sym same)

pub seen_known : (name : List ℕ) (names : List (List ℕ)) → position_or_len (bytes_eq name) names < length names → with_name names name ≡ names
seen_known name names known = by (list_any (bytes_eq name) names) refl
  where
    by : (b : Bool) → list_any (bytes_eq name) names ≡ b → with_name names name ≡ names
    by true e = ap (λ b. if b then names else names ++ name ∷ []) e
    by false e = let f = place_absent (bytes_eq name) names e in absurd (omega arith)

pub seen_new : (name : List ℕ) (names : List (List ℕ)) → position_or_len (bytes_eq name) names ≡ length names → with_name names name ≡ names ++ name ∷ []
seen_new name names new = by (list_any (bytes_eq name) names) refl
  where
    by : (b : Bool) → list_any (bytes_eq name) names ≡ b → with_name names name ≡ names ++ name ∷ []
    by true e = let f = place_present (bytes_eq name) names e in absurd (omega arith)
    by false e = ap (λ b. if b then names else names ++ name ∷ []) e

any-map : {X Y : Type 0} (p : Y → Bool) (h : X → Y) (xs : List X) → list_any p (map h xs) ≡ list_any (λ x. p (h x)) xs
any-map p h [] = refl
any-map p h (x ∷ xs) = ap (λ b. p (h x) || b) (any-map p h xs)

-- the keys of the set of names, after one is inserted
pub keys_after : (name : Bor (List ℕ)) (names : List (List ℕ)) (keys after : List (Bor (List ℕ))) → names ≡ map (λ k. k.now) keys
    → after ≡ (if list_any (λ (k : Bor (List ℕ)). bytes_eq name.now k.now) keys then keys else keys ++ name ∷ []) → with_name names name.now ≡ map (λ k. k.now) after
keys_after name names keys after same inserted = by (list_any (λ (k : Bor (List ℕ)). bytes_eq name.now k.now) keys) refl
  where
    by : (b : Bool) → list_any (λ (k : Bor (List ℕ)). bytes_eq name.now k.now) keys ≡ b → with_name names name.now ≡ map (λ k. k.now) after
    by b e =
        let any : list_any (bytes_eq name.now) names ≡ b = ap (list_any (bytes_eq name.now)) same ∙ any-map (bytes_eq name.now) (λ (k : Bor (List ℕ)). k.now) keys ∙ e in
        let is : after ≡ (if b then keys else keys ++ name ∷ []) = inserted ∙ ap (λ c. if c then keys else keys ++ name ∷ []) e in
        ap (λ c. if c then names else names ++ name.now ∷ []) any ∙ ends b ∙ sym (ap (map (λ (k : Bor (List ℕ)). k.now)) is)
      where
        ends : (b : Bool) → (if b then names else names ++ name.now ∷ []) ≡ map (λ (k : Bor (List ℕ)). k.now) (if b then keys else keys ++ name ∷ [])
        ends true = same
        ends false = ap (λ ns. ns ++ name.now ∷ []) same ∙ sym (map-append (λ (k : Bor (List ℕ)). k.now) keys (name ∷ []))

pub place-le : {X : Type 0} (p : X → Bool) (xs : List X) → position_or_len p xs ≤ length xs
place-le p xs = by (list_any p xs) refl
  where
    by : (b : Bool) → list_any p xs ≡ b → position_or_len p xs ≤ length xs
    by true e = let f = place_present p xs e in omega arith
    by false e = let f = place_absent p xs e in omega arith

pub same_bytes : (name : List ℕ) → bytes_eq name name ≡ true
same_bytes [] = refl
same_bytes (b ∷ bs) = ap (λ c. c && bytes_eq bs bs) (eq-eqb b b refl) ∙ same_bytes bs

any_last : {X : Type 0} (p : X → Bool) (xs : List X) (x : X) → p x ≡ true → list_any p (xs ++ x ∷ []) ≡ true
any_last p [] x e = any_passes p x [] e
any_last p (y ∷ ys) x e = ap (λ b. p y || b) (any_last p ys x e) ∙ or_true (p y)
  where
    or_true : (b : Bool) → (b || true) ≡ true
    or_true true = refl
    or_true false = refl

place_last : {X : Type 0} (p : X → Bool) (xs : List X) (x : X) → list_any p xs ≡ false → p x ≡ true → position_or_len p (xs ++ x ∷ []) ≡ length xs
place_last p [] x none e = first_passes p x [] e
place_last p (y ∷ ys) x none e = by (p y) refl (λ rest. place_last p ys x rest e)
  where
    by : (b : Bool) → p y ≡ b → (list_any p ys ≡ false → position_or_len p (ys ++ x ∷ []) ≡ length ys) → position_or_len p ((y ∷ ys) ++ x ∷ []) ≡ length (y ∷ ys)
    by true f rest = absurd (false≢true (sym none ∙ any_passes p y ys f))
    by false f rest = let g = first_fails p y (ys ++ x ∷ []) f in let h = rest (sym (any_fails p y ys f) ∙ none) in omega arith

-- a name is among the names after it
pub name_known : (names : List (List ℕ)) (name : List ℕ) → list_any (bytes_eq name) (with_name names name) ≡ true
name_known names name = by (list_any (bytes_eq name) names) refl
  where
    by : (b : Bool) → list_any (bytes_eq name) names ≡ b → list_any (bytes_eq name) (with_name names name) ≡ true
    by true e = ap (λ b. list_any (bytes_eq name) (if b then names else names ++ name ∷ [])) e ∙ e
    by false e = ap (λ b. list_any (bytes_eq name) (if b then names else names ++ name ∷ [])) e ∙ any_last (bytes_eq name) names name (same_bytes name)

-- at the place that it had before, or where the names ended
pub place_with_name : (names : List (List ℕ)) (name : List ℕ) → position_or_len (bytes_eq name) (with_name names name) ≡ position_or_len (bytes_eq name) names
place_with_name names name = by (list_any (bytes_eq name) names) refl
  where
    by : (b : Bool) → list_any (bytes_eq name) names ≡ b → position_or_len (bytes_eq name) (with_name names name) ≡ position_or_len (bytes_eq name) names
    by true e = ap (λ b. position_or_len (bytes_eq name) (if b then names else names ++ name ∷ [])) e
    by false e = ap (λ b. position_or_len (bytes_eq name) (if b then names else names ++ name ∷ [])) e ∙ place_last (bytes_eq name) names name e (same_bytes name) ∙ sym (place_absent (bytes_eq name) names e)

any-append : {X : Type 0} (p : X → Bool) (xs ys : List X) → list_any p xs ≡ true → list_any p (xs ++ ys) ≡ true
any-append p [] ys some = absurd (false≢true some)
any-append p (x ∷ xs) ys some = by (p x) refl (any-append p xs ys)
  where
    by : (b : Bool) → p x ≡ b → (list_any p xs ≡ true → list_any p (xs ++ ys) ≡ true) → list_any p ((x ∷ xs) ++ ys) ≡ true
    by true e rest = any_passes p x (xs ++ ys) e
    by false e rest = any_fails p x (xs ++ ys) e ∙ rest (sym (any_fails p x xs e) ∙ some)

-- with one more piece the names stay, or have one more at their end
pub names_grow : (names : List (List ℕ)) (bytes : List ℕ) (p : Piece) → (more : List (List ℕ)) × (names_with names bytes p ≡ names ++ more) × (length more ≤ 1)
names_grow names bytes piece.Name = by (list_any (bytes_eq bytes) names) refl
  where
    by : (b : Bool) → list_any (bytes_eq bytes) names ≡ b → (more : List (List ℕ)) × (with_name names bytes ≡ names ++ more) × (length more ≤ 1)
    by true e = ([], ap (λ b. if b then names else names ++ bytes ∷ []) e ∙ sym (append-nil names), omega arith)
    by false e = (bytes ∷ [], ap (λ b. if b then names else names ++ bytes ∷ []) e, omega arith)
names_grow names bytes (piece.Number n) = ([], sym (append-nil names), omega arith)
names_grow names bytes (piece.Keyword k) = ([], sym (append-nil names), omega arith)
names_grow names bytes (piece.Mark m) = ([], sym (append-nil names), omega arith)

-- a known name stays known, and its kind stays
pub known_more : (names more : List (List ℕ)) (bytes : List ℕ) (p : Piece) → IsKnown names bytes p → IsKnown (names ++ more) bytes p
known_more names more bytes piece.Name known = any-append (bytes_eq bytes) names more known
known_more names more bytes (piece.Number n) known = tt
known_more names more bytes (piece.Keyword k) known = tt
known_more names more bytes (piece.Mark m) known = tt

pub kind_more : (names more : List (List ℕ)) (bytes : List ℕ) (p : Piece) → IsKnown names bytes p → kind_of (names ++ more) bytes p ≡ kind_of names bytes p
kind_more names more bytes piece.Name known = ap kind.Name (place-append (bytes_eq bytes) names more known)
kind_more names more bytes (piece.Number n) known = refl
kind_more names more bytes (piece.Keyword k) known = refl
kind_more names more bytes (piece.Mark m) known = refl

pub piece_known : (names : List (List ℕ)) (bytes : List ℕ) (p : Piece) → IsKnown (names_with names bytes p) bytes p
piece_known names bytes piece.Name = name_known names bytes
piece_known names bytes (piece.Number n) = tt
piece_known names bytes (piece.Keyword k) = tt
piece_known names bytes (piece.Mark m) = tt

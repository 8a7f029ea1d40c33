-- Rows of hulls: where no epoch is, they are of nothing, and one epoch more changes its own row alone.
use Rattle.std.proofs.Common.{◌≡◌, ℕ, zero, suc, ◌+◌, ◌-◌, ◌*◌, ◌/◌, ◌%◌, ◌<◌, ◌≤◌, ◌⊎◌, Bool, true, false, nat_lt, nat_le, if◌then◌else◌, Option, Some, None, List, [], ◌∷◌, ◌++◌, map, length, replicate, slice_get, slice_set, slice_index_or, refl, sym, ap, ◌∙◌, subst, inl, inr, ⊎_elim, arith, length-set, length-append}
use Rattle.std.proofs.lemmas.Bool.{cases_order, cases_lt, lt-ltb, le-ltb}
use Rattle.std.proofs.lemmas.List.{get_or_append_left, get_or_past, length-replicate, length-map}
use Rattle.std.proofs.Math.Nat.{zero-div}
use Rattle.std.specs.Option.{option_map_or}
use Rattle.nest_syntax.specs.Among.{Each}
use Rattle.settle_law.specs.Claims.{Claims}
use Rattle.settle_law.specs.Courses.{Nest}
use Rattle.spec_machine.specs.Machine.{Setup, Epoch, share, epoch_at, share_of}
use Rattle.spec_machine.specs.Segments.{with_iterations, hull}
use Rattle.nest_profile.specs.declared.row.Row.{Row}
use Rattle.nest_profile.specs.Hulls.{IsEven, IsTable, sign_in, hull_in, HoldHulls}

-- no share of nothing
pub share_zero : (all : Bool) (width e w : ℕ) → share all width e 0 w ≡ 0
share_zero true width e w = let z : 0 * w ≡ 0 = omega arith in ap (λ n. n / width) z ∙ zero-div width
share_zero false width e w = by (nat_le w (e % width))
  where
    by : (t : Bool) → ◌≡◌ {A = ℕ} (if t then 0 else 0) 0
    by true = refl
    by false = refl

at_end : {A : Type 0} (xs : List A) (x d : A) → slice_index_or (xs ++ x ∷ []) (length xs) d ≡ x
at_end [] x d = refl
at_end (y ∷ xs) x d = at_end xs x d

-- what stands at a place of a list of which one place was set
pub set_here : {A : Type 0} (xs : List A) (n : ℕ) (x : A) → n < length xs → slice_get (slice_set xs n x) n ≡ Some x
set_here [] n x lt = absurd (omega arith)
set_here (y ∷ xs) zero x lt = refl
set_here (y ∷ xs) (suc n) x lt = set_here xs n x (omega arith)

pub set_other : {A : Type 0} (xs : List A) (n k : ℕ) (x : A) → (k ≡ n → ⊥) → slice_get (slice_set xs n x) k ≡ slice_get xs k
set_other [] n k x differ = refl
set_other (y ∷ xs) zero zero x differ = absurd (differ refl)
set_other (y ∷ xs) zero (suc k) x differ = refl
set_other (y ∷ xs) (suc n) zero x differ = refl
set_other (y ∷ xs) (suc n) (suc k) x differ = set_other xs n k x (λ same. differ (ap suc same))

pub each_set : {A : Type 0} (P : A → Type 0) (xs : List A) (n : ℕ) (x : A) → Each P xs → P x → Each P (slice_set xs n x)
each_set P [] n x each new = tt
each_set P (y ∷ xs) zero x each new = (new, each.1)
each_set P (y ∷ xs) (suc n) x each new = (each.0, each_set P xs n x each.1 new)

pub each_got : {A : Type 0} (P : A → Type 0) (xs : List A) (n : ℕ) (x : A) → Each P xs → slice_get xs n ≡ Some x → P x
each_got P [] n x each is = absurd (let none : None ≡ Some x = is in cc)
each_got P (y ∷ xs) zero x each is = subst P (let same : y ≡ x = cc in same) each.0
each_got P (y ∷ xs) (suc n) x each is = each_got P xs n x each.1 is

pub each_same : {A : Type 0} (P : A → Type 0) (n : ℕ) (x : A) → P x → Each P (replicate n x)
each_same P zero x is = tt
each_same P (suc n) x is = (is, each_same P n x is)

pub same_at : {A : Type 0} (n k : ℕ) (x : A) → slice_index_or (replicate n x) k x ≡ x
same_at zero k x = refl
same_at (suc n) zero x = refl
same_at (suc n) (suc k) x = same_at n k x

-- what stands in a list, by its place, and the other way round
pub got_or : {A : Type 0} (xs : List A) (n : ℕ) (x d : A) → slice_get xs n ≡ Some x → slice_index_or xs n d ≡ x
got_or [] n x d is = absurd (let none : None ≡ Some x = is in cc)
got_or (y ∷ xs) zero x d is = let same : y ≡ x = cc in same
got_or (y ∷ xs) (suc n) x d is = got_or xs n x d is

pub got_below : {A : Type 0} (xs : List A) (n : ℕ) (x : A) → slice_get xs n ≡ Some x → n < length xs
got_below [] n x is = absurd (let none : None ≡ Some x = is in cc)
got_below (y ∷ xs) zero x is = omega arith
got_below (y ∷ xs) (suc n) x is = let low : n < length xs = got_below xs n x is in omega arith

pub got_there : {A : Type 0} (xs : List A) (n : ℕ) → n < length xs → (x : A) × (slice_get xs n ≡ Some x)
got_there [] n low = absurd (omega arith)
got_there (y ∷ xs) zero low = (y, refl)
got_there (y ∷ xs) (suc n) low = got_there xs n (omega arith)

module _ {B C P G : Type 0} (m : Setup B C P G) (nest : Nest) (start : C) (claims : ℕ → Claims) (size : ℕ) where
  -- a task of an epoch without iterations has noted nothing
  pub hull_none : (x : Epoch B) (e u : ℕ) → x.count ≡ 0 → hull_in m claims size x e u ≡ m.kind.blank
  hull_none x e u none =
      let a : share_of m x e u ≡ 0 = ap (λ n. share (m.doall x.body) m.width e n u) none ∙ share_zero (m.doall x.body) m.width e u in
      let b : share_of m x e (suc u) ≡ 0 = ap (λ n. share (m.doall x.body) m.width e n (suc u)) none ∙ share_zero (m.doall x.body) m.width e (suc u) in
      let z : x.first + share_of m x e (suc u) - (x.first + share_of m x e u) ≡ 0 = omega (arith, a, b) in
      ap (with_iterations m.kind claims size (x.first + share_of m x e u)) z

  pub hull_past : (epochs : List (Epoch B)) (e u : ℕ) → length epochs ≤ e → hull m nest start claims size epochs (record { epoch = e; worker = u }) ≡ m.kind.blank
  hull_past epochs e u past = hull_none (epoch_at m epochs e) e u (ap (λ (x : Epoch B). x.count) (get_or_past epochs e _ past))

  pub hull_kept : (epochs : List (Epoch B)) (x : Epoch B) (e u : ℕ) → e < length epochs → hull m nest start claims size (epochs ++ x ∷ []) (record { epoch = e; worker = u }) ≡ hull m nest start claims size epochs (record { epoch = e; worker = u })
  hull_kept epochs x e u lt = ap (λ (y : Epoch B). hull_in m claims size y e u) (get_or_append_left epochs (x ∷ []) _ e lt)

  pub hull_new : (epochs : List (Epoch B)) (x : Epoch B) (u : ℕ) → hull m nest start claims size (epochs ++ x ∷ []) (record { epoch = length epochs; worker = u }) ≡ hull_in m claims size x (length epochs) u
  hull_new epochs x u = ap (λ (y : Epoch B). hull_in m claims size y (length epochs) u) (at_end epochs x _)

  abbrev Hold : List (Row G) → List (Epoch B) → Type 0
  Hold = HoldHulls m nest start claims size

  abbrev sign_at : List (Row G) → ℕ → ℕ → G
  sign_at = sign_in m.kind.blank

  abbrev in_row : ℕ → Option (Row G) → G
  in_row u o = option_map_or (λ (row : Row G). slice_index_or row.signs.items u m.kind.blank) o m.kind.blank

  -- a row is filled with the hulls of one epoch more
  pub hold_more : (rows : List (Row G)) (row : Row G) (epochs : List (Epoch B)) (x : Epoch B) → Hold rows epochs → length epochs < length rows → ((u : ℕ) → u < m.width → slice_index_or row.signs.items u m.kind.blank ≡ hull_in m claims size x (length epochs) u)
      → Hold (slice_set rows (length epochs) row) (epochs ++ x ∷ [])
  hold_more rows row epochs x hold lt new e u inside own = by (cases_order e (length epochs))
    where
      n : ℕ
      n = length epochs

      within : e < length rows
      within = let l : length (slice_set rows n row) ≡ length rows = length-set rows n row in omega (arith, inside, l)

      by : (e ≡ n) ⊎ ((e < n) ⊎ (n < e)) → sign_at (slice_set rows n row) e u ≡ hull m nest start claims size (epochs ++ x ∷ []) (record { epoch = e; worker = u })
      by (inl same) = subst (λ e. sign_at (slice_set rows n row) e u ≡ hull m nest start claims size (epochs ++ x ∷ []) (record { epoch = e; worker = u })) (sym same)
          (ap (in_row u) (set_here rows n row lt) ∙ new u own ∙ sym (hull_new epochs x u))
      by (inr (inl low)) = ap (in_row u) (set_other rows n e row (λ same. omega (arith, same, low))) ∙ hold e u within own ∙ sym (hull_kept epochs x e u low)
      by (inr (inr high)) = ap (in_row u) (set_other rows n e row (λ same. omega (arith, same, high))) ∙ hold e u within own ∙ hull_past epochs e u (omega (arith, high))
          ∙ sym (hull_past (epochs ++ x ∷ []) e u (let l : length (epochs ++ x ∷ []) ≡ length epochs + 1 = length-append epochs (x ∷ []) in omega (arith, l, high)))

  -- rows of nothing are those of no epoch
  pub hold_none : (rows : List (Row G)) → ((e u : ℕ) → sign_at rows e u ≡ m.kind.blank) → Hold rows []
  hold_none rows blank e u inside own = blank e u ∙ sym (hull_past [] e u (omega arith))

  -- nor do those hold any hull that were cleared
  pub hold_cleared : (old rows : List (Row G)) (epochs : List (Epoch B)) → length rows ≡ length old → Hold old epochs → ((e u : ℕ) → sign_at rows e u ≡ (if nat_lt e (length epochs) then m.kind.blank else sign_at old e u)) → Hold rows []
  hold_cleared old rows epochs many hold cleared e u inside own = cleared e u ∙ ⊎_elim
      (λ low. ap (λ t. if t then m.kind.blank else sign_at old e u) (lt-ltb e (length epochs) low))
      (λ high. ap (λ t. if t then m.kind.blank else sign_at old e u) (le-ltb e (length epochs) high) ∙ hold e u (omega (arith, many, inside)) own ∙ hull_past epochs e u high)
      (cases_lt e (length epochs)) ∙ sym (hull_past [] e u (omega arith))

-- a table of which one row was set
pub table_set : {G : Type 0} (sizes_of : G → List ℕ) (sizes : List ℕ) (room width : ℕ) (rows : List (Row G)) (n : ℕ) (row : Row G) → IsTable sizes_of sizes room width rows → length row.signs.items ≡ width → IsEven sizes_of sizes row → IsTable sizes_of sizes room width (slice_set rows n row)
table_set {G} sizes_of sizes room width rows n row table wide even = record {
  rows_for_each = length-set rows n row ∙ table.rows_for_each;
  wide = each_set (λ (r : Row G). length r.signs.items ≡ width) rows n row table.wide wide;
  even = each_set (IsEven sizes_of sizes) rows n row table.even even;
}

-- rows as they are opened
pub opened_table : {G : Type 0} (sizes_of : G → List ℕ) (sizes : List ℕ) (blank : G) (room width : ℕ) (rows : List (Row G)) → sizes_of blank ≡ sizes → length rows ≡ room → Each (λ (row : Row G). row.signs.items ≡ replicate width blank) rows → IsTable sizes_of sizes room width rows
opened_table {G} sizes_of sizes blank room width rows of many each = record { rows_for_each = many; wide = wide rows each; even = even rows each }
  where
    wide : (rows : List (Row G)) → Each (λ (row : Row G). row.signs.items ≡ replicate width blank) rows → Each (λ (row : Row G). length row.signs.items ≡ width) rows
    wide [] each = tt
    wide (row ∷ rows) each = (ap length each.0 ∙ length-replicate width blank, wide rows each.1)

    even : (rows : List (Row G)) → Each (λ (row : Row G). row.signs.items ≡ replicate width blank) rows → Each (IsEven sizes_of sizes) rows
    even [] each = tt
    even (row ∷ rows) each = (subst (Each (λ (sign : G). sizes_of sign ≡ sizes)) (sym each.0) (each_same (λ (sign : G). sizes_of sign ≡ sizes) width blank of), even rows each.1)

pub opened_blank : {G : Type 0} (blank : G) (width : ℕ) (rows : List (Row G)) → Each (λ (row : Row G). row.signs.items ≡ replicate width blank) rows → (e u : ℕ) → sign_in blank rows e u ≡ blank
opened_blank blank width [] each e u = refl
opened_blank blank width (row ∷ rows) each zero u = ap (λ l. slice_index_or l u blank) each.0 ∙ same_at width u blank
opened_blank blank width (row ∷ rows) each (suc e) u = opened_blank blank width rows each.1 e u

-- a row whose signatures were cleared
module _ {G : Type 0} (sizes_of : G → List ℕ) (nothing : List ℕ → G) (sizes : List ℕ) (of : sizes_of (nothing sizes) ≡ sizes) where
  abbrev clear : G → G
  clear sign = nothing (sizes_of sign)

  cleared_at : (signs : List G) (u : ℕ) → Each (λ (sign : G). sizes_of sign ≡ sizes) signs → slice_index_or (map clear signs) u (nothing sizes) ≡ nothing sizes
  cleared_at [] u even = refl
  cleared_at (sign ∷ signs) zero even = ap nothing even.0
  cleared_at (sign ∷ signs) (suc u) even = cleared_at signs u even.1

  cleared_even : (signs : List G) → Each (λ (sign : G). sizes_of sign ≡ sizes) signs → Each (λ (sign : G). sizes_of sign ≡ sizes) (map clear signs)
  cleared_even [] even = tt
  cleared_even (sign ∷ signs) even = (ap (λ l. sizes_of (nothing l)) even.0 ∙ of, cleared_even signs even.1)

  module _ (rows : List (Row G)) (n : ℕ) (row cleared : Row G) (there : slice_get rows n ≡ Some row) (is : cleared.signs.items ≡ map clear row.signs.items) (room width : ℕ) (table : IsTable sizes_of sizes room width rows) where
    even : IsEven sizes_of sizes row
    even = each_got (IsEven sizes_of sizes) rows n row table.even there

    pub cleared_table : IsTable sizes_of sizes room width (slice_set rows n cleared)
    cleared_table = table_set sizes_of sizes room width rows n cleared table
        (ap length is ∙ length-map row.signs.items clear ∙ each_got (λ (r : Row G). length r.signs.items ≡ width) rows n row table.wide there)
        (subst (Each (λ (sign : G). sizes_of sign ≡ sizes)) (sym is) (cleared_even row.signs.items even))

    pub cleared_more : (old : ℕ → ℕ → G) → ((e u : ℕ) → sign_in (nothing sizes) rows e u ≡ (if nat_lt e n then nothing sizes else old e u)) → (e u : ℕ) → sign_in (nothing sizes) (slice_set rows n cleared) e u ≡ (if nat_lt e (n + 1) then nothing sizes else old e u)
    cleared_more old before e u = by (cases_order e n)
      where
        low : n < length rows
        low = got_below rows n row there

        by : (e ≡ n) ⊎ ((e < n) ⊎ (n < e)) → sign_in (nothing sizes) (slice_set rows n cleared) e u ≡ (if nat_lt e (n + 1) then nothing sizes else old e u)
        by (inl same) = ap (λ o. option_map_or (λ (r : Row G). slice_index_or r.signs.items u (nothing sizes)) o (nothing sizes)) (ap (slice_get (slice_set rows n cleared)) same ∙ set_here rows n cleared low)
            ∙ ap (λ l. slice_index_or l u (nothing sizes)) is ∙ cleared_at row.signs.items u even ∙ sym (ap (λ t. if t then nothing sizes else old e u) (lt-ltb e (n + 1) (omega (arith, same))))
        by (inr (inl less)) = ap (λ o. option_map_or (λ (r : Row G). slice_index_or r.signs.items u (nothing sizes)) o (nothing sizes)) (set_other rows n e cleared (λ same. omega (arith, same, less)))
            ∙ before e u ∙ ap (λ t. if t then nothing sizes else old e u) (lt-ltb e n less ∙ sym (lt-ltb e (n + 1) (omega (arith, less))))
        by (inr (inr more)) = ap (λ o. option_map_or (λ (r : Row G). slice_index_or r.signs.items u (nothing sizes)) o (nothing sizes)) (set_other rows n e cleared (λ same. omega (arith, same, more)))
            ∙ before e u ∙ ap (λ t. if t then nothing sizes else old e u) (le-ltb e n (omega (arith, more)) ∙ sym (le-ltb e (n + 1) (omega (arith, more))))

-- Whether signatures in rows overlap: what is told of one more of them.
use Rattle.std.proofs.Common.{◌≡◌, ℕ, zero, suc, ◌+◌, ◌-◌, ◌<◌, ◌≤◌, Bool, true, false, Some, IsSome, List, [], ◌∷◌, length, get_or, slice_get, refl, sym, ap, ◌∙◌, subst, ⊎_elim, arith}
use Rattle.std.proofs.lemmas.Bool.{cases_lt}
use Rattle.range_sign.specs.Overlap.{overlap_of}
use Rattle.nest_profile.specs.declared.row.Row.{Row}
use Rattle.nest_profile.specs.Nearest.{Tells, MeetsOther, MeetsAt, Meet, MeetApart}
use Rattle.nest_profile.proofs.Rows.{got_below}

pub tells_same : (t : Bool) (P Q : Type 0) → (P → Q) → (Q → P) → Tells t P → Tells t Q
tells_same true P Q on back told = on told
tells_same false P Q on back told = λ q. told (back q)

-- an item behind a reference stands in its list
pub stands_at : {A : Type 0} (xs : List A) (n : ℕ) (x : A) → n < length xs → x ≡ get_or xs n x → slice_get xs n ≡ Some x
stands_at [] n x low is = absurd (omega arith)
stands_at (y ∷ xs) zero x low is = ap Some (sym is)
stands_at (y ∷ xs) (suc n) x low is = stands_at xs n x (omega arith) is

pub one_there : {A : Type 0} (xs : List A) (n : ℕ) (x y : A) → slice_get xs n ≡ Some x → slice_get xs n ≡ Some y → x ≡ y
one_there xs n x y first second = let both : Some x ≡ Some y = sym first ∙ second in cc

module _ {G : Type 0} (sizes_of : G → List ℕ) (holds : G → ℕ → ℕ → Bool → Bool) where
  pub met_at : (t : Bool) (sign other : G) (own worker : ℕ) (others : List G) → slice_get others worker ≡ Some other → (worker ≡ own → ⊥) → Tells t (IsSome (overlap_of (sizes_of sign) (holds sign) (holds other))) → Tells t (MeetsAt sizes_of holds sign own others worker)
  met_at t sign other own worker others there differs = tells_same t _ _
      (λ overlaps. (record { worker = worker; other = other; there = there; differs = differs; overlaps = overlaps }, refl))
      (λ m. subst (λ x. IsSome (overlap_of (sizes_of sign) (holds sign) (holds x))) (one_there others worker m.0.other other (ap (slice_get others) (sym m.1) ∙ m.0.there) there) m.0.overlaps)

  -- what isn't met at a place is met behind it
  pub met_behind : (sign : G) (own worker : ℕ) (others : List G) → (MeetsAt sizes_of holds sign own others worker → ⊥) → (m : MeetsOther sizes_of holds sign own others) → worker ≤ m.worker → worker + 1 ≤ m.worker
  met_behind sign own worker others none m from = ⊎_elim (λ low. omega (arith, low)) (λ high. absurd (none (m, omega (arith, high, from)))) (cases_lt worker m.worker)

  pub never_met : (sign : G) (own worker : ℕ) (others : List G) → length others ≤ worker → (m : MeetsOther sizes_of holds sign own others) → worker ≤ m.worker → ⊥
  never_met sign own worker others end m from = omega (arith, end, from, got_below others m.worker m.other m.there)

  -- the same of a row
  pub row_behind : (early late : List G) (worker : ℕ) (sign : G) → slice_get early worker ≡ Some sign → (MeetsOther sizes_of holds sign worker late → ⊥) → (m : Meet sizes_of holds early late) → worker ≤ m.worker → worker + 1 ≤ m.worker
  row_behind early late worker sign there none m from = ⊎_elim (λ low. omega (arith, low)) (λ high. absurd (let same : m.worker ≡ worker = omega (arith, high, from) in here same)) (cases_lt worker m.worker)
    where
      here : m.worker ≡ worker → ⊥
      here same =
          let is : m.sign ≡ sign = one_there early worker m.sign sign (ap (slice_get early) (sym same) ∙ m.there) there in
          none (subst (λ (k : ℕ). MeetsOther sizes_of holds sign k late) same (subst (λ (s : G). MeetsOther sizes_of holds s m.worker late) is m.meets))

  pub row_never : (early late : List G) (worker : ℕ) → length early ≤ worker → (m : Meet sizes_of holds early late) → worker ≤ m.worker → ⊥
  row_never early late worker end m from = omega (arith, end, from, got_below early m.worker m.sign m.there)

  -- and of all rows so far apart
  pub apart_behind : (rows : List (Row G)) (count distance late : ℕ) (first second : Row G) → distance ≤ late → slice_get rows (late - distance) ≡ Some first → slice_get rows late ≡ Some second → (Meet sizes_of holds first.signs.items second.signs.items → ⊥)
      → (m : MeetApart sizes_of holds rows count distance) → late ≤ m.epoch + distance → late + 1 ≤ m.epoch + distance
  apart_behind rows count distance late first second low there there_too none m from = ⊎_elim (λ less. omega (arith, less)) (λ high. absurd (let same : m.epoch + distance ≡ late = omega (arith, high, from) in here same)) (cases_lt late (m.epoch + distance))
    where
      here : m.epoch + distance ≡ late → ⊥
      here same =
          let back : m.epoch ≡ late - distance = omega (arith, same) in
          let is : m.early ≡ first = one_there rows (late - distance) m.early first (ap (slice_get rows) (sym back) ∙ m.early_there) there in
          let is_too : m.late ≡ second = one_there rows late m.late second (ap (slice_get rows) (sym same) ∙ m.late_there) there_too in
          none (subst (λ (r : Row G). Meet sizes_of holds r.signs.items second.signs.items) is (subst (λ (r : Row G). Meet sizes_of holds m.early.signs.items r.signs.items) is_too m.meet))

-- Seats by their workers, and lists of what holds of each element.
use Rattle.std.proofs.Common.{◌≡◌, ℕ, ◌<◌, ◌≤◌, List, [], ◌∷◌, ◌++◌, length, slice_set, sym, ap, subst, ⊎_elim, arith}
use Rattle.std.proofs.lemmas.List.{get_or-set_same, get_or-set_other}
use Rattle.std.proofs.lemmas.Bool.{cases_eq}
use Rattle.settle_law.proofs.Seats.{each_set as put_each}
use Rattle.domore_machine.specs.Machine.{Seat, seat_at, done_at, ended_seat}
use Rattle.domore_machine.specs.Invariant.{Each}

-- one seat is replaced: what holds of the new one and of all others holds of each
pub each_set : {B P : Type 0} (Q : ℕ → Seat B P → Type 0) (seats : List (Seat B P)) (u : ℕ) (x : Seat B P) → u < length seats → Q u x → ((v : ℕ) → (v ≡ u → ⊥) → Q v (seat_at seats v)) → (v : ℕ) → Q v (seat_at (slice_set seats u x) v)
each_set Q seats u x inside own others v = put_each Q seats u x ended_seat inside own others v

pub seat_same : {B P : Type 0} (seats : List (Seat B P)) (u : ℕ) (x : Seat B P) → u < length seats → seat_at (slice_set seats u x) u ≡ x
seat_same seats u x inside = get_or-set_same seats u x _ inside

pub seat_other : {B P : Type 0} (seats : List (Seat B P)) (u v : ℕ) (x : Seat B P) → (v ≡ u → ⊥) → seat_at (slice_set seats u x) v ≡ seat_at seats v
seat_other seats u v x other = get_or-set_other seats u v x _ other

-- where the new seat has done as much, all have
pub done_grows : {B P : Type 0} (seats : List (Seat B P)) (u : ℕ) (x : Seat B P) → u < length seats → done_at seats u ≤ x.done → (v : ℕ) → done_at seats v ≤ done_at (slice_set seats u x) v
done_grows seats u x inside grows v = ⊎_elim
    (λ same. let is : done_at (slice_set seats u x) u ≡ x.done = ap (λ (y : Seat _ _). y.done) (seat_same seats u x inside) in subst (λ w. done_at seats w ≤ done_at (slice_set seats u x) w) (sym same) (omega arith))
    (λ other. let is : done_at (slice_set seats u x) v ≡ done_at seats v = ap (λ (y : Seat _ _). y.done) (seat_other seats u v x other) in omega arith)
    (cases_eq v u)

pub each_map : {A : Type 0} (P Q : A → Type 0) (xs : List A) → ((x : A) → P x → Q x) → Each P xs → Each Q xs
each_map P Q [] f each = tt
each_map P Q (x ∷ xs) f each = (f x each.0, each_map P Q xs f each.1)

pub each_push : {A : Type 0} (P : A → Type 0) (xs : List A) (y : A) → Each P xs → P y → Each P (xs ++ y ∷ [])
each_push P [] y each last = (last, tt)
each_push P (x ∷ xs) y each last = (each.0, each_push P xs y each.1 last)

pub each_append : {A : Type 0} (P : A → Type 0) (xs ys : List A) → Each P xs → Each P ys → Each P (xs ++ ys)
each_append P [] ys each others = others
each_append P (x ∷ xs) ys each others = (each.0, each_append P xs ys each.1 others)

-- A list in which one element is put anew: what holds of each, by its place.
use Rattle.std.proofs.Common.{◌≡◌, ℕ, ◌<◌, List, length, get_or, set, sym, subst, ⊎_elim, get_or-set_same, get_or-set_other}
use Rattle.std.proofs.lemmas.Bool.{cases_eq}

pub each_set : {A : Type 0} (Q : ℕ → A → Type 0) (xs : List A) (u : ℕ) (x d : A) → u < length xs → Q u x → ((v : ℕ) → (v ≡ u → ⊥) → Q v (get_or xs v d)) → (v : ℕ) → Q v (get_or (set xs u x) v d)
each_set Q xs u x d within own others v = ⊎_elim
    (λ same. subst (λ w. Q w (get_or (set xs u x) w d)) (sym same) (subst (Q u) (sym (get_or-set_same xs u x d within)) own))
    (λ other. subst (Q v) (sym (get_or-set_other xs u v x d other)) (others v other))
    (cases_eq v u)

-- Membership in traces and parts: what holds of each access, and which accesses a part has.
use Rattle.std.proofs.Common.{◌≡◌, ℕ, ◌<◌, ◌≤◌, ◌⊎◌, List, [], ◌∷◌, ◌++◌, refl, sym, ap, ◌∙◌, subst, inl, inr, ⊎_elim}
use Rattle.std.proofs.lemmas.Bool.{eq-eqb, ne_eqb, le-leb, lt-leb, cases_eq, cases_lt}
use Rattle.settle_law.specs.Traces.{Access, iteration, Each, keep, part, behind}

abbrev pub Has : Access → List Access → Type 0
Has b [] = ⊥
Has b (a ∷ trace) = (a ≡ b) ⊎ Has b trace

pub each_at : (P : Access → Type 0) (trace : List Access) (b : Access) → Each P trace → Has b trace → P b
each_at P [] b each has = elim has [ ]
each_at P (a ∷ trace) b each (inl same) = subst P same each.0
each_at P (a ∷ trace) b each (inr later) = each_at P trace b each.1 later

pub each_of : (P : Access → Type 0) (trace : List Access) → ((b : Access) → Has b trace → P b) → Each P trace
each_of P [] all = tt
each_of P (a ∷ trace) all = (all a (inl refl), each_of P trace (λ b has. all b (inr has)))

pub each_push : (P : Access → Type 0) (trace : List Access) (b : Access) → Each P trace → P b → Each P (trace ++ b ∷ [])
each_push P [] b each last = (last, tt)
each_push P (a ∷ trace) b each last = (each.0, each_push P trace b each.1 last)

pub each_append : (P : Access → Type 0) (trace others : List Access) → Each P trace → Each P others → Each P (trace ++ others)
each_append P [] others each last = last
each_append P (a ∷ trace) others each last = (each.0, each_append P trace others each.1 last)

pub each_behind : (P : Access → Type 0) (trace others : List Access) → Each P (trace ++ others) → Each P others
each_behind P [] others each = each
each_behind P (a ∷ trace) others each = each_behind P trace others each.1

pub each_either : (F : Type 0) (P : Access → Type 0) (trace : List Access) → Each (λ b. F ⊎ P b) trace → F ⊎ Each P trace
each_either F P [] each = inr tt
each_either F P (a ∷ trace) each = joined each.0 (each_either F P trace each.1)
  where
    joined : F ⊎ P a → F ⊎ Each P trace → F ⊎ Each P (a ∷ trace)
    joined (inl f) others = inl f
    joined (inr p) (inl f) = inl f
    joined (inr p) (inr ps) = inr (p, ps)

pub part_own : (k : ℕ) (a : Access) (trace : List Access) → iteration a ≡ k → part k (a ∷ trace) ≡ a ∷ part k trace
part_own k a trace own = ap (λ t. keep t a (part k trace)) (eq-eqb (iteration a) k own)

pub part_other : (k : ℕ) (a : Access) (trace : List Access) → (iteration a ≡ k → ⊥) → part k (a ∷ trace) ≡ part k trace
part_other k a trace other = ap (λ t. keep t a (part k trace)) (ne_eqb (iteration a) k other)

pub behind_kept : (k : ℕ) (a : Access) (trace : List Access) → k ≤ iteration a → behind k (a ∷ trace) ≡ a ∷ behind k trace
behind_kept k a trace le = ap (λ t. keep t a (behind k trace)) (le-leb k (iteration a) le)

pub behind_gone : (k : ℕ) (a : Access) (trace : List Access) → iteration a < k → behind k (a ∷ trace) ≡ behind k trace
behind_gone k a trace lt = ap (λ t. keep t a (behind k trace)) (lt-leb k (iteration a) lt)

pub has_part : (k : ℕ) (b : Access) (trace : List Access) → Has b trace → iteration b ≡ k → Has b (part k trace)
has_part k b [] has own = elim has [ ]
has_part k b (a ∷ trace) (inl same) own = subst (Has b) (sym (part_own k a trace (ap iteration same ∙ own))) (inl same)
has_part k b (a ∷ trace) (inr later) own = ⊎_elim
    (λ mine. subst (Has b) (sym (part_own k a trace mine)) (inr (has_part k b trace later own)))
    (λ other. subst (Has b) (sym (part_other k a trace other)) (has_part k b trace later own))
    (cases_eq (iteration a) k)

pub part_has : (k : ℕ) (b : Access) (trace : List Access) → Has b (part k trace) → Has b trace × (iteration b ≡ k)
part_has k b [] has = elim has [ ]
part_has k b (a ∷ trace) has = ⊎_elim
    (λ mine. head mine (subst (Has b) (part_own k a trace mine) has) (part_has k b trace))
    (λ other. later (part_has k b trace (subst (Has b) (part_other k a trace other) has)))
    (cases_eq (iteration a) k)
  where
    later : Has b trace × (iteration b ≡ k) → Has b (a ∷ trace) × (iteration b ≡ k)
    later h = (inr h.0, h.1)

    head : iteration a ≡ k → (a ≡ b) ⊎ Has b (part k trace) → (Has b (part k trace) → Has b trace × (iteration b ≡ k)) → Has b (a ∷ trace) × (iteration b ≡ k)
    head mine (inl same) more = (inl same, sym (ap iteration same) ∙ mine)
    head mine (inr others) more = later (more others)

pub behind_has : (k : ℕ) (b : Access) (trace : List Access) → Has b (behind k trace) → Has b trace × (k ≤ iteration b)
behind_has k b [] has = elim has [ ]
behind_has k b (a ∷ trace) has = ⊎_elim
    (λ lower. later (behind_has k b trace (subst (Has b) (behind_gone k a trace lower) has)))
    (λ kept. head kept (subst (Has b) (behind_kept k a trace kept) has) (behind_has k b trace))
    (cases_lt (iteration a) k)
  where
    later : Has b trace × (k ≤ iteration b) → Has b (a ∷ trace) × (k ≤ iteration b)
    later h = (inr h.0, h.1)

    head : k ≤ iteration a → (a ≡ b) ⊎ Has b (behind k trace) → (Has b (behind k trace) → Has b trace × (k ≤ iteration b)) → Has b (a ∷ trace) × (k ≤ iteration b)
    head kept (inl same) more = (inl same, subst (λ x. k ≤ iteration x) same kept)
    head kept (inr others) more = later (more others)

pub behind_all : (k : ℕ) (trace : List Access) → Each (λ a. k ≤ iteration a) trace → behind k trace ≡ trace
behind_all k [] each = refl
behind_all k (a ∷ trace) each = behind_kept k a trace each.0 ∙ ap (λ t. a ∷ t) (behind_all k trace each.1)

pub behind_none : (k : ℕ) (trace : List Access) → Each (λ a. iteration a < k) trace → behind k trace ≡ []
behind_none k [] each = refl
behind_none k (a ∷ trace) each = behind_gone k a trace each.0 ∙ behind_none k trace each.1

pub part_is_own : (k : ℕ) (trace : List Access) → Each (λ a. iteration a ≡ k) (part k trace)
part_is_own k trace = each_of (λ a. iteration a ≡ k) (part k trace) (λ b has. (part_has k b trace has).1)

-- Pairs stand in an order.
use Rattle.std.proofs.Common.{◌≡◌, ◌⊎◌, ◌<◌, Bool, true, false, ◌&&◌, ◌==◌, nat_lt, List, [], ◌∷◌, if◌then◌else◌, Some, refl, subst, sym, ◌∙◌, inl, inr, ⊎_elim, arith}
use Rattle.std.proofs.lemmas.Bool.{and_from, and_parts, or_cases, or_left, or_right, eq-eqb, eqb-true, lt-ltb, ltb-true, true≢false, cases_Bool}
use Rattle.std.specs.List.{find}
use Rattle.nest_syntax.specs.declared.names.TaskName.{TaskName}
use Rattle.spec_checker.specs.Order.{Pair as Names, is_before, is_pair_before}
use Rattle.spec_machine.specs.Table.{In}
use Rattle.spec_machine.proofs.Lists.{find_some}
use Rattle.spec_core.proofs.Ordered.{Sorted}

abbrev pub Precedes : TaskName → TaskName → Type 0
Precedes a b = (a.epoch < b.epoch) ⊎ ((a.epoch ≡ b.epoch) × (a.worker < b.worker))

abbrev Goes : Names → Names → Type 0
Goes p q = Precedes p.1 q.1 ⊎ ((p.1.epoch ≡ q.1.epoch) × (p.1.worker ≡ q.1.worker) × Precedes p.0 q.0)

pub precedes : (a b : TaskName) → is_before a b ≡ true → Precedes a b
precedes a b is = ⊎_elim
    (λ e. inl (ltb-true a.epoch b.epoch e))
    (λ e. let both = and_parts (a.epoch == b.epoch) (nat_lt a.worker b.worker) e in inr (eqb-true a.epoch b.epoch both.0, ltb-true a.worker b.worker both.1))
    (or_cases (nat_lt a.epoch b.epoch) (a.epoch == b.epoch && nat_lt a.worker b.worker) is)

pub is_preceding : (a b : TaskName) → Precedes a b → is_before a b ≡ true
is_preceding a b (inl lt) = or_left (nat_lt a.epoch b.epoch) _ (lt-ltb a.epoch b.epoch lt)
is_preceding a b (inr both) = or_right (nat_lt a.epoch b.epoch) _ (and_from _ _ (eq-eqb a.epoch b.epoch both.0) (lt-ltb a.worker b.worker both.1))

goes : (p q : Names) → is_pair_before p q ≡ true → Goes p q
goes p q is = ⊎_elim
    (λ e. inl (precedes p.1 q.1 e))
    (λ e. let both = and_parts (p.1.epoch == q.1.epoch && p.1.worker == q.1.worker) (is_before p.0 q.0) e in let same = and_parts (p.1.epoch == q.1.epoch) (p.1.worker == q.1.worker) both.0 in
    inr (eqb-true p.1.epoch q.1.epoch same.0, eqb-true p.1.worker q.1.worker same.1, precedes p.0 q.0 both.1))
    (or_cases (is_before p.1 q.1) ((p.1.epoch == q.1.epoch && p.1.worker == q.1.worker) && is_before p.0 q.0) is)

is_going : (p q : Names) → Goes p q → is_pair_before p q ≡ true
is_going p q (inl late) = or_left (is_before p.1 q.1) _ (is_preceding p.1 q.1 late)
is_going p q (inr all) = or_right (is_before p.1 q.1) _ (and_from _ _ (and_from _ _ (eq-eqb p.1.epoch q.1.epoch all.0) (eq-eqb p.1.worker q.1.worker all.1)) (is_preceding p.0 q.0 all.2))

tasks_follow : (a b c : TaskName) → Precedes a b → Precedes b c → Precedes a c
tasks_follow a b c (inl x) (inl y) = inl (omega arith)
tasks_follow a b c (inl x) (inr y) = inl (omega (arith, x, y.0))
tasks_follow a b c (inr x) (inl y) = inl (omega (arith, x.0, y))
tasks_follow a b c (inr x) (inr y) = inr (x.0 ∙ y.0, omega (arith, x.1, y.1))

with_end : (a b c : TaskName) → Precedes a b → b.epoch ≡ c.epoch → b.worker ≡ c.worker → Precedes a c
with_end a b c (inl x) e w = inl (omega (arith, x, e))
with_end a b c (inr x) e w = inr (x.0 ∙ e, omega (arith, x.1, w))

with_start : (a b c : TaskName) → a.epoch ≡ b.epoch → a.worker ≡ b.worker → Precedes b c → Precedes a c
with_start a b c e w (inl x) = inl (omega (arith, x, e))
with_start a b c e w (inr x) = inr (e ∙ x.0, omega (arith, x.1, w))

pairs_follow : (p q r : Names) → Goes p q → Goes q r → Goes p r
pairs_follow p q r (inl x) (inl y) = inl (tasks_follow p.1 q.1 r.1 x y)
pairs_follow p q r (inl x) (inr y) = inl (with_end p.1 q.1 r.1 x y.0 y.1)
pairs_follow p q r (inr x) (inl y) = inl (with_start p.1 q.1 r.1 x.0 x.1 y)
pairs_follow p q r (inr x) (inr y) = inr (x.0 ∙ y.0, x.1 ∙ y.1, tasks_follow p.0 q.0 r.0 x.2 y.2)

not_before_itself : (a : TaskName) → Precedes a a → ⊥
not_before_itself a (inl x) = omega arith
not_before_itself a (inr x) = omega (arith, x.1)

pub follow : (p q r : Names) → is_pair_before p q ≡ true → is_pair_before q r ≡ true → is_pair_before p r ≡ true
follow p q r x y = is_going p r (pairs_follow p q r (goes p q x) (goes q r y))

pub itself_last : (p : Names) → is_pair_before p p ≡ false
itself_last p = ⊎_elim (λ holds. absurd (none (goes p p holds))) (λ fails. fails) (cases_Bool (is_pair_before p p))
  where
    none : Goes p p → ⊥
    none (inl x) = not_before_itself p.1 x
    none (inr x) = not_before_itself p.0 x.2

pub one_way : (p q : Names) → is_pair_before p q ≡ true → is_pair_before q p ≡ false
one_way p q is = ⊎_elim (λ holds. absurd (true≢false (sym (follow p q p is holds) ∙ itself_last p))) (λ fails. fails) (cases_Bool (is_pair_before q p))

-- none before the first one that passes a test passes it
pub find_least : {A : Type 0} (R : A → A → Type 0) (test : A → Bool) → ((x y : A) → R x y → R y x → ⊥) → (xs : List A) (x y : A) → Sorted R xs → find test xs ≡ Some x → In x xs → In y xs → R y x → test y ≡ false
find_least R test once [] x y sorted is among mine before = elim mine [ ]
find_least R test once (z ∷ xs) x y sorted is among mine before = by (test z) refl is (λ found inside here. find_least R test once xs x y sorted.1 found inside here before) mine
  where
    rest : In x (z ∷ xs) → (z ≡ x → ⊥) → In x xs
    rest (inl same) other = absurd (other same)
    rest (inr more) other = more

    by : (t : Bool) → test z ≡ t → (if t then Some z else find test xs) ≡ Some x → (find test xs ≡ Some x → In x xs → In y xs → test y ≡ false) → In y (z ∷ xs) → test y ≡ false
    by true holds found later (inl same) = let it : z ≡ x = cc in let loop : R x x = subst (λ a. R a x) (sym same ∙ it) before in absurd (once x x loop loop)
    by true holds found later (inr more) = let it : z ≡ x = cc in absurd (once y x before (subst (λ a. R a y) it (sorted.0 y more)))
    by false fails found later (inl same) = subst (λ a. test a ≡ false) same fails
    by false fails found later (inr more) = later found (rest among (λ same. absurd (true≢false (sym passes ∙ subst (λ a. test a ≡ false) same fails)))) more
      where
        passes : test x ≡ true
        passes = (find_some test xs x found).1

-- A walk over a body, step by step: rows that are added, and the givings that they tell.
use Rattle.std.proofs.Common.{◌≡◌, ◌≢◌, ℕ, suc, ◌+◌, ◌<◌, ◌≤◌, if◌then◌else◌, List, [], ◌∷◌, ◌++◌, map, length, reverse, drop, get_or, refl, sym, ap, ◌∙◌, subst, arith, drop-cons, add-one, append_assoc, eq-eqb, ne_eqb}
use Rattle.std.proofs.lemmas.List.{drop_all, append-nil, length-append, length-reverse, reverse-append}
use Rattle.nest_syntax.specs.declared.tree.Expr.{Expr}
use Rattle.nest_syntax.specs.declared.tree.Arm.{Arm}
use Rattle.data_local.specs.declared.rows.Row.{Row}
use Rattle.data_local.specs.declared.rows.Row.TheVariants as row
use Rattle.data_local.specs.Givings.{Given, Tried, in_turn, by_arms, tried, given_by}
use Rattle.data_local.specs.Rows.{tests_at, told, IsBuilt, Adds, AddsArms}
use denote.Ref.{Bor}

reverse_push : (rows : List Row) (one : Row) → reverse (rows ++ one ∷ []) ≡ one ∷ reverse rows
reverse_push rows one = reverse-append rows (one ∷ [])

pub adds_giving : (old new : List Row) (name under : ℕ) (value : Bor Expr) → under ≤ length old → new ≡ old ++ row.Gives name value under ∷ []
    → Adds old new under (λ tests. record { name = name; depends = value.now ∷ tests } ∷ [])
adds_giving old new name under value within is =
    let back : reverse new ≡ row.Gives name value under ∷ reverse old = ap reverse is ∙ reverse_push old (row.Gives name value under) in
    record {
      tells = ap told back;
      stable = λ k h. ap (λ rows. tests_at rows k) back;
      longer = omega (arith, ap length is, length-append old (row.Gives name value under ∷ []));
      built = λ built. subst IsBuilt (sym back) (omega (arith, length-reverse old), built);
    }

pub adds_nothing : (rows : List Row) (under : ℕ) → Adds rows rows under (λ tests. [])
adds_nothing rows under = record {
  tells = sym (append-nil (told (reverse rows)));
  stable = λ k h. refl;
  longer = omega arith;
  built = λ built. built;
}

-- one part after another, under one test
pub adds_then : (a b c : List Row) (under : ℕ) (first second : Given) → under ≤ length a → Adds a b under first → Adds b c under second → Adds a c under (λ tests. first tests ++ second tests)
adds_then a b c under first second within one two = record {
  tells = two.tells ∙ ap (λ g. g ++ second (tests_at (reverse b) under)) one.tells
      ∙ append_assoc (told (reverse a)) (first (tests_at (reverse a) under)) (second (tests_at (reverse b) under))
      ∙ ap (λ tests. told (reverse a) ++ (first (tests_at (reverse a) under) ++ second tests)) (one.stable under within);
  stable = λ k h. two.stable k (omega (arith, one.longer)) ∙ one.stable k h;
  longer = omega (arith, one.longer, two.longer);
  built = λ built. two.built (one.built built);
}

-- the statements behind place i, with the first of them
pub block_is : {A : Type 0} (f : A → Given) (xs : List A) (i : ℕ) → i < length xs → (here : A) → here ≡ get_or xs i here → (tests : List Expr)
    → in_turn (map f (drop i xs)) tests ≡ f here tests ++ in_turn (map f (drop (i + 1) xs)) tests
block_is f xs i there here is tests =
    ap (λ ys. in_turn (map f ys) tests) (drop-cons xs i here there ∙ ap (λ x. x ∷ drop (suc i) xs) (sym is) ∙ ap (λ k. here ∷ drop k xs) (sym (add-one i)))

-- A walk over statements that has come to statement i: what it has added and what is left make up what is due.
pub record Walked {A : Type 0} (f : A → Given) (xs : List A) (i : ℕ) (old new : List Row) (under : ℕ) : Type 0 where
  pub tells : told (reverse new) ++ in_turn (map f (drop i xs)) (tests_at (reverse old) under) ≡ told (reverse old) ++ in_turn (map f xs) (tests_at (reverse old) under)
  pub stable : (k : ℕ) → k ≤ length old → tests_at (reverse new) k ≡ tests_at (reverse old) k
  pub longer : length old ≤ length new
  pub built : IsBuilt (reverse old) → IsBuilt (reverse new)

pub walk_begins : {A : Type 0} (f : A → Given) (xs : List A) (rows : List Row) (under : ℕ) → Walked f xs 0 rows rows under
walk_begins f xs rows under = record { tells = refl; stable = λ k h. refl; longer = omega arith; built = λ built. built }

pub walk_goes_on : {A : Type 0} (f : A → Given) (xs : List A) (i : ℕ) → i < length xs → (here : A) → here ≡ get_or xs i here → (old rows new : List Row) (under : ℕ) → under ≤ length old
    → Walked f xs i old rows under → Adds rows new under (f here) → Walked f xs (i + 1) old new under
walk_goes_on f xs i there here is old rows new under within walked added =
    let tests : List Expr = tests_at (reverse old) under in
    record {
      tells = ap (λ g. g ++ in_turn (map f (drop (i + 1) xs)) tests) (added.tells ∙ ap (λ ts. told (reverse rows) ++ f here ts) (walked.stable under within))
          ∙ append_assoc (told (reverse rows)) (f here tests) (in_turn (map f (drop (i + 1) xs)) tests)
          ∙ ap (λ g. told (reverse rows) ++ g) (sym (block_is f xs i there here is tests))
          ∙ walked.tells;
      stable = λ k h. added.stable k (omega (arith, walked.longer)) ∙ walked.stable k h;
      longer = omega (arith, walked.longer, added.longer);
      built = λ built. added.built (walked.built built);
    }

pub walk_ends : {A : Type 0} (f : A → Given) (xs : List A) (i : ℕ) → length xs ≤ i → (old new : List Row) (under : ℕ) → Walked f xs i old new under → Adds old new under (in_turn (map f xs))
walk_ends f xs i over old new under walked = record {
  tells = sym (append-nil (told (reverse new))) ∙ ap (λ ys. told (reverse new) ++ in_turn (map f ys) (tests_at (reverse old) under)) (sym (drop_all i xs over)) ∙ walked.tells;
  stable = walked.stable;
  longer = walked.longer;
  built = walked.built;
}

-- A walk over arms that has come to arm i.
pub record WalkedArms (arms : List Arm) (i : ℕ) (old new : List Row) (under last : ℕ) : Type 0 where
  pub tells : (other : Given) → told (reverse new) ++ by_arms (map tried (drop i arms)) other (tests_at (reverse new) last) ≡ told (reverse old) ++ by_arms (map tried arms) other (tests_at (reverse old) under)
  pub stable : (k : ℕ) → k ≤ length old → tests_at (reverse new) k ≡ tests_at (reverse old) k
  pub longer : length old ≤ length new
  pub within : last ≤ length new
  pub built : IsBuilt (reverse old) → IsBuilt (reverse new)

pub arms_begin : (arms : List Arm) (rows : List Row) (under : ℕ) → under ≤ length rows → WalkedArms arms 0 rows rows under under
arms_begin arms rows under within = record { tells = λ other. refl; stable = λ k h. refl; longer = omega arith; within = within; built = λ built. built }

-- a test is kept, and then the block of its arm
pub arms_go_on : (arms : List Arm) (i : ℕ) → i < length arms → (here : Arm) → here ≡ get_or arms i here → tried here ≡ (here.test, given_by here.body)
    → (old rows tested new : List Row) (under last number : ℕ) (test : Bor Expr) → test.now ≡ here.test
    → number ≡ length rows + 1 → tested ≡ rows ++ row.Test number test last ∷ [] → Adds tested new number (given_by here.body)
    → WalkedArms arms i old rows under last → WalkedArms arms (i + 1) old new under number
arms_go_on arms i there here is tries old rows tested new under last number test same numbered pushed added walked =
    let tests : List Expr = tests_at (reverse rows) last in
    let back : reverse tested ≡ row.Test number test last ∷ reverse rows = ap reverse pushed ∙ reverse_push rows (row.Test number test last) in
    let grown : length tested ≡ length rows + 1 = ap length pushed ∙ length-append rows (row.Test number test last ∷ []) in
    let at_number : tests_at (reverse tested) number ≡ here.test ∷ tests =
    ap (λ rs. tests_at rs number) back ∙ ap (λ b. if b then test.now ∷ tests_at (reverse rows) last else tests_at (reverse rows) number) (eq-eqb number number refl) ∙ ap (λ t. t ∷ tests) same in
    let rest : List Arm = drop (i + 1) arms in
    let arms_are : drop i arms ≡ here ∷ rest = drop-cons arms i here there ∙ ap (λ x. x ∷ drop (suc i) arms) (sym is) ∙ ap (λ k. here ∷ drop k arms) (sym (add-one i)) in
    record {
      tells = λ other.
          ap (λ g. g ++ by_arms (map tried rest) other (tests_at (reverse new) number)) (added.tells ∙ ap (λ g. g ++ given_by here.body (tests_at (reverse tested) number)) (ap told back))
          ∙ append_assoc (told (reverse rows)) (given_by here.body (tests_at (reverse tested) number)) (by_arms (map tried rest) other (tests_at (reverse new) number))
          ∙ ap (λ ts. told (reverse rows) ++ (given_by here.body (tests_at (reverse tested) number) ++ by_arms (map tried rest) other ts)) (added.stable number (omega (arith, grown)))
          ∙ ap (λ ts. told (reverse rows) ++ (given_by here.body ts ++ by_arms (map tried rest) other ts)) at_number
          ∙ ap (λ t. told (reverse rows) ++ by_arms (t ∷ map tried rest) other tests) (sym tries)
          ∙ ap (λ rest_of. told (reverse rows) ++ by_arms (map tried rest_of) other tests) (sym arms_are)
          ∙ walked.tells other;
      stable = λ k h.
          let apart : k ≢ number = omega (arith, walked.longer) in
          added.stable k (omega (arith, walked.longer, grown)) ∙ ap (λ rs. tests_at rs k) back
          ∙ ap (λ b. if b then test.now ∷ tests_at (reverse rows) last else tests_at (reverse rows) k) (ne_eqb k number apart) ∙ walked.stable k h;
      longer = omega (arith, walked.longer, grown, added.longer);
      within = omega (arith, grown, added.longer);
      built = λ built. added.built (subst IsBuilt (sym back) (omega (arith, length-reverse rows), omega (arith, walked.within, length-reverse rows), walked.built built));
    }

pub arms_end : (arms : List Arm) (i : ℕ) → length arms ≤ i → (old new : List Row) (under last : ℕ) → WalkedArms arms i old new under last → AddsArms old new under last (map tried arms)
arms_end arms i over old new under last walked = record {
  tells = λ other. ap (λ rest_of. told (reverse new) ++ by_arms (map tried rest_of) other (tests_at (reverse new) last)) (sym (drop_all i arms over)) ∙ walked.tells other;
  stable = walked.stable;
  longer = walked.longer;
  within = walked.within;
  built = walked.built;
}

-- an `if`: its arms, and then its last block under the last test
pub adds_if : (a b c : List Row) (under last : ℕ) (arms : List Tried) (other : Given) → AddsArms a b under last arms → Adds b c last other → Adds a c under (by_arms arms other)
adds_if a b c under last arms other one two = record {
  tells = two.tells ∙ one.tells other;
  stable = λ k h. two.stable k (omega (arith, one.longer)) ∙ one.stable k h;
  longer = omega (arith, one.longer, two.longer);
  built = λ built. two.built (one.built built);
}

pub adds_same : (a b : List Row) (under : ℕ) (some others : Given) → others ≡ some → Adds a b under some → Adds a b under others
adds_same a b under some others same added = subst (Adds a b under) (sym same) added

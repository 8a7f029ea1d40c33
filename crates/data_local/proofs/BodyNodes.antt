-- The bodies of each kind of statement, and lists of names that are kept one body after another.
use Rattle.std.proofs.Common.{◌≡◌, false, ℕ, zero, suc, ◌+◌, ◌<◌, ◌↔◌, IsTrue, List, [], ◌∷◌, ◌++◌, map, length, take, get_or, refl, sym, ap, ◌∙◌, subst}
use Rattle.std.specs.Prelude.{slice_index_or}
use Rattle.std.specs.List.{flat_map}
use Rattle.std.proofs.lemmas.List.{map-append, take_more}
use Rattle.nest_syntax.specs.declared.names.Line.{Line}
use Rattle.nest_syntax.specs.declared.operators.Op.{Op}
use Rattle.nest_syntax.specs.declared.tree.Expr.{Expr}
use Rattle.nest_syntax.specs.declared.tree.Arm.{Arm}
use Rattle.nest_syntax.specs.declared.tree.Loop.{Loop}
use Rattle.nest_syntax.specs.declared.tree.Stmt.{Stmt}
use Rattle.nest_syntax.specs.declared.tree.Stmt.TheVariants as stmt
use Rattle.nest_syntax.specs.Arrays.{Array}
use Rattle.nest_syntax.specs.Shape.{Entry, items, items_in_arm, items_of, bodies_in, invoked_in_region, statements_of_each}
use Rattle.nest_syntax.proofs.Shapes.{items-declare, items-assign, items-write, items-if, items-loop, items_in_arm-is, bodies_in-append, bodies_in-flat, statements-append}
use Rattle.nest_syntax.specs.Among.{is_among}
use Rattle.data_local.specs.Givings.{Giving, givings}
use Rattle.data_local.specs.DataLocals.{IsGivenData}
use Rattle.data_local.specs.Bodies.{AreLocalsByBody, bodies_in_item, bodies_in_items}

pub bodies-declare : (line : Line) (name : ℕ) (e : Expr) → bodies_in_item (stmt.Declare line name e) ≡ []
bodies-declare line name e = ap bodies_in (items-declare line name e)

pub bodies-assign : (line : Line) (name : ℕ) (o : Op) (e : Expr) → bodies_in_item (stmt.Assign line name o e) ≡ []
bodies-assign line name o e = ap bodies_in (items-assign line name o e)

pub bodies-write : (line : Line) (name : ℕ) (p : Expr) (o : Op) (e : Expr) → bodies_in_item (stmt.Write line name p o e) ≡ (stmt.Write line name p o e ∷ []) ∷ []
bodies-write line name p o e = ap bodies_in (items-write line name p o e)

pub bodies-loop : (l : Loop) → bodies_in_item (stmt.Loop l) ≡ l.body ∷ []
bodies-loop l = ap bodies_in (items-loop l)

bodies_in_arms : (arms : List Arm) → bodies_in (flat_map items_in_arm arms) ≡ flat_map (λ (a : Arm). bodies_in_items a.body) arms
bodies_in_arms [] = refl
bodies_in_arms (a ∷ arms) =
    bodies_in-append (items_in_arm a) (flat_map items_in_arm arms)
    ∙ ap (λ bodies. bodies ++ bodies_in (flat_map items_in_arm arms)) (ap bodies_in (items_in_arm-is a) ∙ bodies_in-flat items a.body)
    ∙ ap (λ bodies. bodies_in_items a.body ++ bodies) (bodies_in_arms arms)

pub bodies-if : (arms : List Arm) (other : List Stmt) → bodies_in_item (stmt.If arms other) ≡ flat_map (λ (a : Arm). bodies_in_items a.body) arms ++ bodies_in_items other
bodies-if arms other =
    ap bodies_in (items-if arms other)
    ∙ bodies_in-append (flat_map items_in_arm arms) (items_of other)
    ∙ ap (λ bodies. bodies ++ bodies_in (items_of other)) (bodies_in_arms arms)
    ∙ ap (λ bodies. flat_map (λ (a : Arm). bodies_in_items a.body) arms ++ bodies) (bodies_in-flat items other)

pub bodies_in_regions : (regions : List Loop) → flat_map (λ (l : Loop). bodies_in_items l.body) regions ≡ statements_of_each (flat_map invoked_in_region regions)
bodies_in_regions [] = refl
bodies_in_regions (l ∷ regions) =
    ap (λ bodies. bodies ++ flat_map (λ (l : Loop). bodies_in_items l.body) regions) (sym (bodies_in-flat items l.body))
    ∙ ap (λ bodies. bodies_in (items_of l.body) ++ bodies) (bodies_in_regions regions)
    ∙ sym (statements-append (invoked_in_region l) (flat_map invoked_in_region regions))

pub map_then : {A B C : Type 0} (f : A → B) (g : B → C) (xs : List A) → map (λ x. g (f x)) xs ≡ map g (map f xs)
map_then f g [] = refl
map_then f g (x ∷ xs) = ap (λ ys. g (f x) ∷ ys) (map_then f g xs)

-- lists of names, one for each of these lists of givings
abbrev pub Kept : List Array → List (List Giving) → List (List ℕ) → Type 0
Kept arrays [] [] = Unit {0}
Kept arrays [] (names ∷ lists) = ⊥
Kept arrays (gs ∷ given) [] = ⊥
Kept arrays (gs ∷ given) (names ∷ lists) = ((name : ℕ) → IsTrue (is_among names name) ↔ IsGivenData arrays gs name) × Kept arrays given lists

keeps_more : (arrays : List Array) (given : List (List Giving)) (lists : List (List ℕ)) (gs : List Giving) (names : List ℕ) → ((name : ℕ) → IsTrue (is_among names name) ↔ IsGivenData arrays gs name)
    → Kept arrays given lists → Kept arrays (given ++ gs ∷ []) (lists ++ names ∷ [])
keeps_more arrays [] [] gs names is kept = (is, tt)
keeps_more arrays [] (other ∷ lists) gs names is kept = absurd kept
keeps_more arrays (first ∷ given) [] gs names is kept = absurd kept
keeps_more arrays (first ∷ given) (other ∷ lists) gs names is kept = (kept.0, keeps_more arrays given lists gs names is kept.1)

pub kept_next : {A : Type 0} (arrays : List Array) (f : A → List Giving) (xs : List A) (i : ℕ) → i < length xs → (here : A) → here ≡ get_or xs i here → (lists lists' : List (List ℕ)) (names : List ℕ)
    → lists' ≡ lists ++ names ∷ [] → ((name : ℕ) → IsTrue (is_among names name) ↔ IsGivenData arrays (f here) name) → Kept arrays (map f (take i xs)) lists → Kept arrays (map f (take (i + 1) xs)) lists'
kept_next arrays f xs i there here is lists lists' names more each kept =
    subst (λ ss. Kept arrays (map f (take (i + 1) xs)) ss) (sym more)
    (subst (λ gs. Kept arrays gs (lists ++ names ∷ [])) (sym given) (keeps_more arrays (map f (take i xs)) lists (f here) names each kept))
  where
    given : map f (take (i + 1) xs) ≡ map f (take i xs) ++ f here ∷ []
    given = ap (map f) (take_more xs i here there) ∙ ap (λ x. map f (take i xs ++ x ∷ [])) (sym is) ∙ map-append f (take i xs) (here ∷ [])

none_given : (arrays : List Array) (name : ℕ) → IsGivenData arrays [] name → ⊥
none_given arrays name (IsGivenData.by_array giving e one h w) = absurd one
none_given arrays name (IsGivenData.by_local giving e other one h a d) = absurd one

none_true : IsTrue false → ⊥
none_true h = cc

pub all_kept : (arrays : List Array) (bodies : List (List Stmt)) (lists : List (List ℕ)) → Kept arrays (map givings bodies) lists → AreLocalsByBody arrays bodies lists
all_kept arrays bodies lists kept = record { as_many = many bodies lists kept; each = each bodies lists kept }
  where
    many : (bodies : List (List Stmt)) (lists : List (List ℕ)) → Kept arrays (map givings bodies) lists → length lists ≡ length bodies
    many [] [] kept = refl
    many [] (names ∷ lists) kept = absurd kept
    many (body ∷ bodies) [] kept = absurd kept
    many (body ∷ bodies) (names ∷ lists) kept = ap suc (many bodies lists kept.1)

    each : (bodies : List (List Stmt)) (lists : List (List ℕ)) → Kept arrays (map givings bodies) lists → (number name : ℕ)
        → IsTrue (is_among (slice_index_or lists number []) name) ↔ IsGivenData arrays (givings (slice_index_or bodies number [])) name
    each [] [] kept number name = (λ h. absurd (none_true h), λ h. absurd (none_given arrays name h))
    each [] (names ∷ lists) kept number name = absurd kept
    each (body ∷ bodies) [] kept number name = absurd kept
    each (body ∷ bodies) (names ∷ lists) kept zero name = kept.0 name
    each (body ∷ bodies) (names ∷ lists) kept (suc number) name = each bodies lists kept.1 number name

-- Names among others, and scalars that keep their values.
use Rattle.std.proofs.Common.{◌≡◌, ℕ, zero, suc, ◌<◌, ℤ, pos, Bool, true, false, ◌||◌, ◌==◌, List, [], ◌∷◌, ◌++◌, map, length, get_or, refl, sym, ap, ◌∙◌, arith, eq-eqb}
use Rattle.std.proofs.lemmas.List.{get_or-set_other, length-set}
use Rattle.std.proofs.lemmas.List.Folds.{list_any-append}
use Rattle.nest_syntax.specs.Value.{with_scalar}
use Rattle.std.specs.List.{concat}
use Rattle.nest_syntax.specs.Among.{is_among}
use Rattle.nest_mean.specs.NamesChanged.{KeepsOthers}

or_false_left : (a b : Bool) → (a || b) ≡ false → a ≡ false
or_false_left false b e = refl
or_false_left true b e = e

or_false_right : (a b : Bool) → (a || b) ≡ false → b ≡ false
or_false_right false b e = e
or_false_right true b e = cc

pub among_left : (xs ys : List ℕ) (name : ℕ) → is_among (xs ++ ys) name ≡ false → is_among xs name ≡ false
among_left xs ys name e = or_false_left (is_among xs name) (is_among ys name) (sym (list_any-append (λ other. name == other) xs ys) ∙ e)

pub among_right : (xs ys : List ℕ) (name : ℕ) → is_among (xs ++ ys) name ≡ false → is_among ys name ≡ false
among_right xs ys name e = or_false_right (is_among xs name) (is_among ys name) (sym (list_any-append (λ other. name == other) xs ys) ∙ e)

pub among_here : (name : ℕ) (names : List ℕ) → is_among (name ∷ names) name ≡ true
among_here name names = ap (λ b. b || is_among names name) (eq-eqb name name refl)

pub among_behind : (first : ℕ) (names : List ℕ) (name : ℕ) → is_among (first ∷ names) name ≡ false → is_among names name ≡ false
among_behind first names name e = or_false_right (name == first) (is_among names name) e

-- the names of a part are among those of the whole
pub among_part : {A : Type 0} (f : A → List ℕ) (xs : List A) (i : ℕ) (none : A) → i < length xs → (name : ℕ) → is_among (concat (map f xs)) name ≡ false → is_among (f (get_or xs i none)) name ≡ false
among_part f [] i none h name e = absurd (omega arith)
among_part f (x ∷ xs) zero none h name e = among_left (f x) (concat (map f xs)) name e
among_part f (x ∷ xs) (suc i) none h name e = among_part f xs i none (omega arith) name (among_right (f x) (concat (map f xs)) name e)

pub keeps_same : (names : List ℕ) (scalars : List ℤ) → KeepsOthers names scalars scalars
keeps_same names scalars = record { many = refl; others = λ name apart. refl }

pub keeps_then : (names : List ℕ) (a b c : List ℤ) → KeepsOthers names a b → KeepsOthers names b c → KeepsOthers names a c
keeps_then names a b c first second = record { many = second.many ∙ first.many; others = λ name apart. second.others name apart ∙ first.others name apart }

pub keeps_more : (few many : List ℕ) (a b : List ℤ) → ((name : ℕ) → is_among many name ≡ false → is_among few name ≡ false) → KeepsOthers few a b → KeepsOthers many a b
keeps_more few many a b fewer kept = record { many = kept.many; others = λ name apart. kept.others name (fewer name apart) }

pub keeps_set : (names : List ℕ) (scalars : List ℤ) (name : ℕ) (value : ℤ) → is_among names name ≡ true → KeepsOthers names scalars (with_scalar scalars name value)
keeps_set names scalars name value there = record {
  many = length-set scalars name value;
  others = λ other apart. get_or-set_other scalars name other value (pos 0) (λ e.
      let wrong : true ≡ false = sym there ∙ ap (is_among names) (sym e) ∙ apart in
      cc);
}

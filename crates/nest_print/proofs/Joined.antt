-- Which marks go on with which bytes.
use Rattle.std.proofs.Common.{◌≡◌, ℕ, ◌≤◌, Bool, true, false, not, ◌&&◌, ◌||◌, ◌==◌, List, [], ◌∷◌, ◌++◌, length, get_or, refl, sym, ap, ◌∙◌, arith}
use Rattle.std.proofs.lemmas.Bool.{false≢true}
use Rattle.nest_lex.specs.Spelling.{mark_text}
use Rattle.nest_lex.specs.declared.token.Mark.{Mark}
use Rattle.nest_lex.specs.declared.token.Mark.TheVariants as mark

-- the bytes with which a mark goes on: `=`, `+`, `-`, `|`, `&`, `<`, `>`
abbrev pub joins : ℕ → Bool
joins b = b == 61 || (b == 43 || (b == 45 || (b == 124 || (b == 38 || (b == 60 || b == 62)))))

-- the bytes that are marks by themselves and begin no longer one: brackets, `;`, `?`, `:`, `~`
abbrev pub lone : ℕ → Bool
lone b = b == 40 || (b == 41 || (b == 91 || (b == 93 || (b == 123 || (b == 125 || (b == 59 || (b == 63 || (b == 58 || b == 126))))))))

abbrev ends_joining : ℕ → List ℕ → Bool
ends_joining y [] = joins y
ends_joining y (z ∷ zs) = ends_joining z zs

-- where it has two bytes or more, its first one is not alone and its last one joins
abbrev well_joined : List ℕ → Bool
well_joined [] = true
well_joined (x ∷ []) = true
well_joined (x ∷ y ∷ ys) = not (lone x) && ends_joining y ys

marks_join : (m : Mark) → well_joined (mark_text m) ≡ true
marks_join mark.OpenRound = refl
marks_join mark.CloseRound = refl
marks_join mark.OpenSquare = refl
marks_join mark.CloseSquare = refl
marks_join mark.OpenCurly = refl
marks_join mark.CloseCurly = refl
marks_join mark.Semicolon = refl
marks_join mark.Question = refl
marks_join mark.Colon = refl
marks_join mark.Assign = refl
marks_join mark.PlusAssign = refl
marks_join mark.MinusAssign = refl
marks_join mark.TimesAssign = refl
marks_join mark.DivideAssign = refl
marks_join mark.RemainderAssign = refl
marks_join mark.ShiftLeftAssign = refl
marks_join mark.ShiftRightAssign = refl
marks_join mark.AndAssign = refl
marks_join mark.XorAssign = refl
marks_join mark.OrAssign = refl
marks_join mark.OrOr = refl
marks_join mark.AndAnd = refl
marks_join mark.Or = refl
marks_join mark.Xor = refl
marks_join mark.And = refl
marks_join mark.Equal = refl
marks_join mark.NotEqual = refl
marks_join mark.Less = refl
marks_join mark.LessEqual = refl
marks_join mark.More = refl
marks_join mark.MoreEqual = refl
marks_join mark.ShiftLeft = refl
marks_join mark.ShiftRight = refl
marks_join mark.Plus = refl
marks_join mark.Minus = refl
marks_join mark.Times = refl
marks_join mark.Divide = refl
marks_join mark.Remainder = refl
marks_join mark.Not = refl
marks_join mark.Flip = refl
marks_join mark.Increment = refl
marks_join mark.Decrement = refl

last_joins : (y : ℕ) (ys : List ℕ) (b : ℕ) → ends_joining y (ys ++ b ∷ []) ≡ joins b
last_joins y [] b = refl
last_joins y (z ∷ zs) b = last_joins z zs b

second : (a b : Bool) → a && b ≡ true → b ≡ true
second true b e = e
second false b e = absurd (false≢true e)

first : (a b : Bool) → not a && b ≡ true → a ≡ true → ⊥
first true b e s = absurd (false≢true e)
first false b e s = absurd (false≢true s)

-- a byte that does not join ends each mark
pub no_longer_mark : (m : Mark) (b : ℕ) → joins b ≡ false → 1 ≤ length (mark_text m) → (longer : Mark) → mark_text longer ≡ mark_text m ++ b ∷ [] → ⊥
no_longer_mark m b plain some longer same = by (mark_text m) some (ap well_joined (sym same) ∙ marks_join longer)
  where
    by : (bytes : List ℕ) → 1 ≤ length bytes → well_joined (bytes ++ b ∷ []) ≡ true → ⊥
    by [] some e = omega (arith, some)
    by (x ∷ []) some e = absurd (false≢true (sym plain ∙ second (not (lone x)) (joins b) e))
    by (x ∷ y ∷ ys) some e = absurd (false≢true (sym plain ∙ sym (last_joins y ys b) ∙ second (not (lone x)) (ends_joining y (ys ++ b ∷ [])) e))

-- no mark of two bytes begins with a lone one
pub no_lone : (longer : Mark) → 2 ≤ length (mark_text longer) → lone (get_or (mark_text longer) 0 0) ≡ true → ⊥
no_lone longer long = by (mark_text longer) long (marks_join longer)
  where
    by : (bytes : List ℕ) → 2 ≤ length bytes → well_joined bytes ≡ true → lone (get_or bytes 0 0) ≡ true → ⊥
    by [] some e = omega (arith, some)
    by (x ∷ []) some e = omega (arith, some)
    by (x ∷ y ∷ ys) some e = first (lone x) (ends_joining y ys) e

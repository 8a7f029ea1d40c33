-- Draws one by one, and in parts.
use Rattle.std.proofs.Common.{◌≡◌, ℕ, zero, suc, ◌+◌, ◌-◌, ◌*◌, ◌<◌, ◌%◌, ℤ, pos, List, [], ◌∷◌, ◌++◌, map, take, drop, length, refl, sym, ap, ◌∙◌, arith}
use Rattle.std.proofs.lemmas.List.{append_assoc, take_at, drop_at}
use Rattle.nest_gen.specs.Draws.{drawn, next_state, draws_from, state_behind}

abbrev pub reduced : ℕ → List ℕ → List ℤ
reduced modulus draws = map (λ (draw : ℕ). pos (draw % modulus)) draws

one_left : (turn count : ℕ) → turn < count → count - turn ≡ suc (count - (turn + 1))
one_left turn count more = omega arith

-- a draw is made: what is drawn and what is left stay all draws
pub drawn_on : (items longer all : List ℤ) (modulus state next draw turn count : ℕ) → turn < count → longer ≡ items ++ pos (draw % modulus) ∷ [] → next ≡ next_state state → draw ≡ drawn next
    → items ++ reduced modulus (draws_from state (count - turn)) ≡ all → longer ++ reduced modulus (draws_from next (count - (turn + 1))) ≡ all
drawn_on items longer all modulus state next draw turn count more pushed is drawn_is same =
    ap (λ (xs : List ℤ). xs ++ reduced modulus (draws_from next (count - (turn + 1)))) pushed
    ∙ append_assoc items (pos (draw % modulus) ∷ []) _
    ∙ ap (λ (d : ℕ). items ++ pos (d % modulus) ∷ reduced modulus (draws_from next (count - (turn + 1)))) drawn_is
    ∙ ap (λ (s : ℕ). items ++ pos (drawn s % modulus) ∷ reduced modulus (draws_from s (count - (turn + 1)))) is
    ∙ sym (ap (λ (n : ℕ). items ++ reduced modulus (draws_from state n)) (one_left turn count more))
    ∙ same

pub state_on : (state next turn count last : ℕ) → turn < count → next ≡ next_state state → state_behind state (count - turn) ≡ last → state_behind next (count - (turn + 1)) ≡ last
state_on state next turn count last more is same =
    ap (λ (s : ℕ). state_behind s (count - (turn + 1))) is ∙ sym (ap (state_behind state) (one_left turn count more)) ∙ same

-- draws in two parts
in_parts : (state n m : ℕ) → draws_from state (n + m) ≡ draws_from state n ++ draws_from (state_behind state n) m
in_parts state zero m = let none : 0 + m ≡ m = omega arith in ap (draws_from state) none
in_parts state (suc n) m =
    let one : suc n + m ≡ suc (n + m) = omega arith in
    ap (draws_from state) one ∙ ap (λ (ds : List ℕ). drawn (next_state state) ∷ ds) (in_parts (next_state state) n m)

pub as_many : (state n : ℕ) → length (draws_from state n) ≡ n
as_many state zero = refl
as_many state (suc n) = ap suc (as_many (next_state state) n)

three_parts : (state n : ℕ) → draws_from state (3 * n) ≡ draws_from state n ++ (draws_from (state_behind state n) n ++ draws_from (state_behind (state_behind state n) n) n)
three_parts state n =
    let thrice : 3 * n ≡ n + (n + n) = omega arith in
    ap (draws_from state) thrice ∙ in_parts state n (n + n) ∙ ap (λ (ds : List ℕ). draws_from state n ++ ds) (in_parts (state_behind state n) n n)

front : (state n : ℕ) (rest : List ℕ) → take n (draws_from state n ++ rest) ≡ draws_from state n
front state n rest = take_at (draws_from state n) rest n (as_many state n)

back : (state n : ℕ) (rest : List ℕ) → drop n (draws_from state n ++ rest) ≡ rest
back state n rest = drop_at (draws_from state n) rest n (as_many state n)

pub first_part : (state n : ℕ) → take n (draws_from state (3 * n)) ≡ draws_from state n
first_part state n = ap (take n) (three_parts state n) ∙ front state n _

behind_first : (state n : ℕ) → drop n (draws_from state (3 * n)) ≡ draws_from (state_behind state n) n ++ draws_from (state_behind (state_behind state n) n) n
behind_first state n = ap (drop n) (three_parts state n) ∙ back state n _

pub second_part : (state n : ℕ) → take n (drop n (draws_from state (3 * n))) ≡ draws_from (state_behind state n) n
second_part state n = ap (take n) (behind_first state n) ∙ front (state_behind state n) n _

pub third_part : (state n : ℕ) → drop n (drop n (draws_from state (3 * n))) ≡ draws_from (state_behind (state_behind state n) n) n
third_part state n = ap (drop n) (behind_first state n) ∙ back (state_behind state n) n _

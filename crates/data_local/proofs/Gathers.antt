-- The loops of each kind of statement, and loops that are gathered one part after another.
use Rattle.std.proofs.Common.{◌≡◌, ℕ, suc, ◌+◌, ◌<◌, ◌≤◌, List, [], ◌∷◌, ◌++◌, map, length, drop, get_or, refl, sym, ap, ◌∙◌, drop-cons, add-one, append_assoc}
use Rattle.std.specs.List.{flat_map}
use Rattle.std.proofs.lemmas.List.{drop_all, append-nil}
use Rattle.nest_syntax.specs.declared.names.Line.{Line}
use Rattle.nest_syntax.specs.declared.operators.Op.{Op}
use Rattle.nest_syntax.specs.declared.tree.Expr.{Expr}
use Rattle.nest_syntax.specs.declared.tree.Arm.{Arm, roll-out-Arm, out-Arm}
use Rattle.nest_syntax.specs.declared.tree.Loop.{Loop, roll-out-Loop, out-Loop}
use Rattle.nest_syntax.specs.declared.tree.Stmt.{Stmt}
use Rattle.nest_syntax.specs.declared.tree.Stmt.TheOpen.{Stmt-F}
use Rattle.nest_syntax.specs.declared.tree.Stmt.TheFolds.{para-Loop, para-roll-Stmt, para-roll-Arm, para-roll-Loop}
use Rattle.nest_syntax.specs.declared.tree.Stmt.TheVariants as stmt
use Rattle.nest_syntax.specs.declared.tree.Stmt.TheVariants.{rolls-Declare, rolls-Assign, rolls-Write, rolls-If, rolls-Loop}
use Rattle.data_local.specs.Loops.{Loops, loops_node, loops_arm_node, loops_loop_node, loops, loops_in, loops_in_arm}

-- parts that stand beside their results
flat_pairs : {A B : Type 0} (f : A → List B) (xs : List A) → flat_map (λ (p : A × List B). p.1) (map (λ x. (x, f x)) xs) ≡ flat_map f xs
flat_pairs f [] = refl
flat_pairs f (x ∷ xs) = ap (λ ys. f x ++ ys) (flat_pairs f xs)

pub loops-declare : (line : Line) (name : ℕ) (e : Expr) → loops (stmt.Declare line name e) ≡ []
loops-declare line name e = ap loops (sym (rolls-Declare line name e)) ∙ para-roll-Stmt Loops Loops Loops loops_node loops_arm_node loops_loop_node (Stmt-F.Declare line name e)

pub loops-assign : (line : Line) (name : ℕ) (o : Op) (e : Expr) → loops (stmt.Assign line name o e) ≡ []
loops-assign line name o e = ap loops (sym (rolls-Assign line name o e)) ∙ para-roll-Stmt Loops Loops Loops loops_node loops_arm_node loops_loop_node (Stmt-F.Assign line name o e)

pub loops-write : (line : Line) (name : ℕ) (p : Expr) (o : Op) (e : Expr) → loops (stmt.Write line name p o e) ≡ []
loops-write line name p o e = ap loops (sym (rolls-Write line name p o e)) ∙ para-roll-Stmt Loops Loops Loops loops_node loops_arm_node loops_loop_node (Stmt-F.Write line name p o e)

pub loops-if : (arms : List Arm) (other : List Stmt) → loops (stmt.If arms other) ≡ flat_map loops_in_arm arms ++ loops_in other
loops-if arms other =
    ap loops (sym (rolls-If arms other)) ∙ para-roll-Stmt Loops Loops Loops loops_node loops_arm_node loops_loop_node (Stmt-F.If arms other)
    ∙ ap (λ ls. ls ++ flat_map (λ (s : Stmt × Loops). s.1) (map (λ s. (s, loops s)) other)) (flat_pairs loops_in_arm arms)
    ∙ ap (λ ls. flat_map loops_in_arm arms ++ ls) (flat_pairs loops other)

pub loops-loop : (l : Loop) → loops (stmt.Loop l) ≡ l ∷ loops_in l.body
loops-loop l =
    ap loops (sym (rolls-Loop l)) ∙ para-roll-Stmt Loops Loops Loops loops_node loops_arm_node loops_loop_node (Stmt-F.Loop l)
    ∙ ap (λ ls. l ∷ ls) (ap (para-Loop Loops Loops Loops loops_node loops_arm_node loops_loop_node) (sym (roll-out-Loop l))
    ∙ para-roll-Loop Loops Loops Loops loops_node loops_arm_node loops_loop_node (out-Loop l) ∙ flat_pairs loops l.body)

pub loops_in_arm-is : (a : Arm) → loops_in_arm a ≡ loops_in a.body
loops_in_arm-is a = ap loops_in_arm (sym (roll-out-Arm a)) ∙ para-roll-Arm Loops Loops Loops loops_node loops_arm_node loops_loop_node (out-Arm a) ∙ flat_pairs loops a.body

-- what is gathered from a list whose first i parts are done
pub gathers_more : {A B : Type 0} (f : A → List B) (xs : List A) (i : ℕ) → i < length xs → (here : A) → here ≡ get_or xs i here → (found found' whole part : List B)
    → found ++ flat_map f (drop i xs) ≡ whole → found' ≡ found ++ part → part ≡ f here → found' ++ flat_map f (drop (i + 1) xs) ≡ whole
gathers_more f xs i there here is found found' whole part left more same =
    let rest : drop i xs ≡ here ∷ drop (i + 1) xs = drop-cons xs i here there ∙ ap (λ x. x ∷ drop (suc i) xs) (sym is) ∙ ap (λ k. here ∷ drop k xs) (sym (add-one i)) in
    ap (λ g. g ++ flat_map f (drop (i + 1) xs)) (more ∙ ap (λ p. found ++ p) same)
    ∙ append_assoc found (f here) (flat_map f (drop (i + 1) xs))
    ∙ ap (λ ys. found ++ flat_map f ys) (sym rest)
    ∙ left

pub gathers_end : {A B : Type 0} (f : A → List B) (xs : List A) (i : ℕ) → length xs ≤ i → (found whole : List B) → found ++ flat_map f (drop i xs) ≡ whole → found ≡ whole
gathers_end f xs i over found whole left = sym (append-nil found) ∙ ap (λ ys. found ++ flat_map f ys) (sym (drop_all i xs over)) ∙ left

pub adds_none : {A : Type 0} (found part : List A) → part ≡ [] → found ≡ found ++ part
adds_none found part none = sym (append-nil found) ∙ ap (λ p. found ++ p) (sym none)

pub adds_two : {A : Type 0} (a b c first second part : List A) → part ≡ first ++ second → b ≡ a ++ first → c ≡ b ++ second → c ≡ a ++ part
adds_two a b c first second part parts one two = two ∙ ap (λ g. g ++ second) one ∙ append_assoc a first second ∙ ap (λ p. a ++ p) (sym parts)

pub adds_alike : {A : Type 0} (a c first part : List A) → part ≡ first → c ≡ a ++ first → c ≡ a ++ part
adds_alike a c first part same one = one ∙ ap (λ p. a ++ p) (sym same)

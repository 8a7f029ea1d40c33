-- The locals of a body are among the names that it gives.
use Rattle.std.proofs.Common.{◌≡◌, ℕ, Bool, true, false, ◌||◌, ◌==◌, List, [], ◌∷◌, ◌++◌, map, inl, inr, refl, sym, ap, ◌∙◌}
use Rattle.std.specs.List.{concat, list_any}
use Rattle.std.proofs.lemmas.List.Folds.{list_any-append}
use Rattle.nest_syntax.specs.declared.tree.Arm.{Arm}
use Rattle.nest_syntax.specs.declared.tree.Loop.{Loop}
use Rattle.nest_syntax.specs.declared.tree.Stmt.{Stmt}
use Rattle.nest_syntax.specs.declared.tree.Stmt.TheVariants as stmt
use Rattle.nest_syntax.specs.Locals.{given, given_in_arm, given_in_loop, names_given, locals_of}
use Rattle.nest_syntax.specs.Among.{Each, IsOne, is_among}
use Rattle.nest_syntax.proofs.Equations.{given-declare, given-assign, given-write, given-if, given-loop, given_in_arm-is, given_in_loop-is}
use Rattle.nest_syntax.proofs.Inductions.{stmt_induction}
use Rattle.dep_graph.proofs.Scalars.{out_first, out_second}

-- what isn't in the one list isn't in the other
abbrev Fewer : List ℕ → List ℕ → Type 0
Fewer more less = (name : ℕ) → is_among more name ≡ false → is_among less name ≡ false

pub out_both : (xs ys : List ℕ) (name : ℕ) → is_among xs name ≡ false → is_among ys name ≡ false → is_among (xs ++ ys) name ≡ false
out_both xs ys name first second = list_any-append (λ other. name == other) xs ys ∙ ap (λ b. b || is_among ys name) first ∙ second

fewer_both : (a b c d : List ℕ) → Fewer a b → Fewer c d → Fewer (a ++ c) (b ++ d)
fewer_both a b c d first second name out = out_both b d name (first name (out_first a c name out)) (second name (out_second a c name out))

abbrev StmtFewer : Stmt → Type 0
StmtFewer s = Fewer (given true s) (given false s)

fewer_same : (a b c d : List ℕ) → a ≡ c → b ≡ d → Fewer c d → Fewer a b
fewer_same a b c d first second fewer name out = ap (λ l. is_among l name) second ∙ fewer name (sym (ap (λ l. is_among l name) first) ∙ out)

block_fewer : (stmts : List Stmt) → Each StmtFewer stmts → Fewer (names_given true stmts) (names_given false stmts)
block_fewer [] each = λ name out. out
block_fewer (s ∷ stmts) each = fewer_both (given true s) (given false s) (names_given true stmts) (names_given false stmts) each.0 (block_fewer stmts each.1)

arms_fewer : (arms : List Arm) → Each (λ (a : Arm). Each StmtFewer a.body) arms → Fewer (concat (map (given_in_arm true) arms)) (concat (map (given_in_arm false) arms))
arms_fewer [] each = λ name out. out
arms_fewer (a ∷ arms) each = fewer_both (given_in_arm true a) (given_in_arm false a) (concat (map (given_in_arm true) arms)) (concat (map (given_in_arm false) arms))
    (fewer_same (given_in_arm true a) (given_in_arm false a) (names_given true a.body) (names_given false a.body) (given_in_arm-is true a) (given_in_arm-is false a) (block_fewer a.body each.0)) (arms_fewer arms each.1)

stmt_fewer : (s : Stmt) → StmtFewer s
stmt_fewer = stmt_induction StmtFewer
    (λ line name e. fewer_same (given true (stmt.Declare line name e)) (given false (stmt.Declare line name e)) (name ∷ []) (name ∷ []) (given-declare true line name e) (given-declare false line name e) (λ other out. out))
    (λ line name o e. fewer_same (given true (stmt.Assign line name o e)) (given false (stmt.Assign line name o e)) (name ∷ []) [] (given-assign true line name o e) (given-assign false line name o e) (λ other out. refl))
    (λ line name p o e. fewer_same (given true (stmt.Write line name p o e)) (given false (stmt.Write line name p o e)) [] [] (given-write true line name p o e) (given-write false line name p o e) (λ other out. out))
    (λ arms other tested last. fewer_same (given true (stmt.If arms other)) (given false (stmt.If arms other)) (concat (map (given_in_arm true) arms) ++ names_given true other) (concat (map (given_in_arm false) arms) ++ names_given false other) (given-if true arms other) (given-if false arms other)
    (fewer_both (concat (map (given_in_arm true) arms)) (concat (map (given_in_arm false) arms)) (names_given true other) (names_given false other) (arms_fewer arms tested) (block_fewer other last)))
    (λ l body. fewer_same (given true (stmt.Loop l)) (given false (stmt.Loop l)) (l.name ∷ names_given true l.body) (l.name ∷ names_given false l.body) (given-loop true l ∙ given_in_loop-is true l) (given-loop false l ∙ given_in_loop-is false l)
    (fewer_both (l.name ∷ []) (l.name ∷ []) (names_given true l.body) (names_given false l.body) (λ other out. out) (block_fewer l.body body)))

each_fewer : (stmts : List Stmt) → Each StmtFewer stmts
each_fewer [] = tt
each_fewer (s ∷ stmts) = (stmt_fewer s, each_fewer stmts)

pub locals_given : (body : List Stmt) → Fewer (names_given true body) (locals_of body)
locals_given body = block_fewer body (each_fewer body)

-- each value of a list is one of it
each_more : {A : Type 0} (whole xs : List A) → ((a : A) → IsOne xs a → IsOne whole a) → Each (IsOne whole) xs
each_more whole [] into = tt
each_more whole (x ∷ xs) into = (into x (inl refl), each_more whole xs (λ a one. into a (inr one)))

pub each_own : {A : Type 0} (xs : List A) → Each (IsOne xs) xs
each_own xs = each_more xs xs (λ a one. one)

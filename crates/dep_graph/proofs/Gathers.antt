-- Lists that are gathered one part after another, and the reads of each kind of expression.
use Rattle.std.proofs.Common.{◌≡◌, ℕ, suc, ◌+◌, ◌<◌, ◌≤◌, min, ◌⊎◌, inl, inr, ℤ, pos, ◌+ℤ◌, arith, false, List, [], ◌∷◌, ◌++◌, map, length, drop, get_or, refl, sym, ap, ◌∙◌, drop-cons, add-one, append_assoc}
use Rattle.std.proofs.lemmas.List.{drop_all, append-nil}
use Rattle.std.proofs.lemmas.Bool.{cases_lt}
use Rattle.nest_syntax.specs.Words.{wrap}
use Rattle.dep_graph.specs.Forms.{sums}
use Rattle.nest_syntax.specs.declared.names.Line.{Line}
use Rattle.nest_syntax.specs.declared.operators.Un.{Un}
use Rattle.nest_syntax.specs.declared.operators.Bin.{Bin}
use Rattle.nest_syntax.specs.declared.tree.Expr.{Expr, para-roll-Expr}
use Rattle.nest_syntax.specs.declared.tree.Expr.TheOpen.{Expr-F}
use Rattle.nest_syntax.specs.declared.tree.Expr.TheVariants as expr
use Rattle.nest_syntax.specs.declared.tree.Expr.TheVariants.{rolls-Number, rolls-Scalar, rolls-Word, rolls-Unary, rolls-Binary, rolls-Choice}
use Rattle.nest_syntax.specs.declared.operators.Op.{Op as Change}
use Rattle.nest_syntax.specs.declared.tree.Arm.{Arm}
use Rattle.nest_syntax.specs.declared.tree.Stmt.{Stmt}
use Rattle.nest_syntax.specs.declared.tree.Stmt.TheOpen.{Stmt-F}
use Rattle.nest_syntax.specs.declared.tree.Stmt.TheFolds.{fold-roll-Stmt, fold_out-Arm}
use Rattle.nest_syntax.specs.declared.tree.Stmt.TheVariants as stmt
use Rattle.nest_syntax.specs.declared.tree.Stmt.TheVariants.{rolls-Write, rolls-If}
use Rattle.nest_syntax.specs.Words.{operation_of}
use Rattle.nest_syntax.specs.declared.tree.Loop.{Loop}
use Rattle.nest_syntax.specs.declared.tree.Program.{Program}
use Rattle.dep_graph.specs.declared.around.Around.{Around}
use Rattle.dep_graph.specs.declared.accesses.Access.{Access}
use Rattle.dep_graph.specs.Accesses.{Accesses, access, reads, reads_node, changes, all_of, accesses, arm_accesses, block_accesses, accesses_node, arm_accesses_node, loop_accesses_node}

module _ (program : Program) (nest : Loop) (line : Line) (around : Around) where
  abbrev here : Expr → List Access
  here = reads program nest line around

  pub reads-number : (n : ℤ) → here (expr.Number n) ≡ []
  reads-number n = ap here (sym (rolls-Number n)) ∙ para-roll-Expr (List Access) (reads_node program nest line around) (Expr-F.Number n)

  pub reads-scalar : (name : ℕ) → here (expr.Scalar name) ≡ []
  reads-scalar name = ap here (sym (rolls-Scalar name)) ∙ para-roll-Expr (List Access) (reads_node program nest line around) (Expr-F.Scalar name)

  pub reads-word : (name : ℕ) (place : Expr) → here (expr.Word name place) ≡ here place ++ access program nest around name place false line
  reads-word name place = ap here (sym (rolls-Word name place)) ∙ para-roll-Expr (List Access) (reads_node program nest line around) (Expr-F.Word name place)

  pub reads-unary : (o : Un) (part : Expr) → here (expr.Unary o part) ≡ here part
  reads-unary o part = ap here (sym (rolls-Unary o part)) ∙ para-roll-Expr (List Access) (reads_node program nest line around) (Expr-F.Unary o part)

  pub reads-binary : (o : Bin) (left right : Expr) → here (expr.Binary o left right) ≡ here left ++ here right
  reads-binary o left right = ap here (sym (rolls-Binary o left right)) ∙ para-roll-Expr (List Access) (reads_node program nest line around) (Expr-F.Binary o left right)

  pub reads-choice : (test first second : Expr) → here (expr.Choice test first second) ≡ here test ++ (here first ++ here second)
  reads-choice test first second = ap here (sym (rolls-Choice test first second)) ∙ para-roll-Expr (List Access) (reads_node program nest line around) (Expr-F.Choice test first second)

pub adds_none : {A : Type 0} (old whole : List A) → whole ≡ [] → old ≡ old ++ whole
adds_none old whole is = sym (append-nil old) ∙ ap (λ l. old ++ l) (sym is)

pub adds_one : {A : Type 0} (old new part whole : List A) → whole ≡ part → new ≡ old ++ part → new ≡ old ++ whole
adds_one old new part whole is e = e ∙ ap (λ l. old ++ l) (sym is)

pub adds_two : {A : Type 0} (old one two first second whole : List A) → whole ≡ first ++ second → one ≡ old ++ first → two ≡ one ++ second → two ≡ old ++ whole
adds_two old one two first second whole is e f = f ∙ ap (λ l. l ++ second) e ∙ append_assoc old first second ∙ ap (λ l. old ++ l) (sym is)

pub adds_three : {A : Type 0} (old one two three first second third whole : List A) → whole ≡ first ++ (second ++ third) → one ≡ old ++ first → two ≡ one ++ second → three ≡ two ++ third → three ≡ old ++ whole
adds_three old one two three first second third whole is e f g = adds_two old one three first (second ++ third) whole is e (adds_two one two three second third (second ++ third) refl f g)

-- a loop over parts
pub gathers_end : {A : Type 0} (f : A → Accesses) (around : Around) (xs : List A) (i : ℕ) → length xs ≤ i → (found whole : List Access) → found ++ all_of (map f (drop i xs)) around ≡ whole → found ≡ whole
gathers_end f around xs i over found whole left = sym (append-nil found) ∙ ap (λ ys. found ++ all_of (map f ys) around) (sym (drop_all i xs over)) ∙ left

module _ (program : Program) (nest : Loop) (around : Around) where
  abbrev node : Stmt-F Accesses Accesses Accesses → Accesses
  node = accesses_node program nest

  pub accesses-write : (line : Line) (name : ℕ) (place : Expr) (o : Change) (e : Expr) → accesses program nest (stmt.Write line name place o e) around ≡ reads program nest line around place ++ (reads program nest line around e ++ changes program nest around name place (operation_of o) line)
  accesses-write line name place o e = ap (λ s. accesses program nest s around) (sym (rolls-Write line name place o e)) ∙ ap (λ f. f around) (fold-roll-Stmt Accesses Accesses Accesses node (arm_accesses_node program nest) (loop_accesses_node program nest) (Stmt-F.Write line name place o e))

  pub accesses-if : (arms : List Arm) (other : List Stmt) → accesses program nest (stmt.If arms other) around ≡ all_of (map (arm_accesses program nest) arms) around ++ block_accesses program nest other around
  accesses-if arms other = ap (λ s. accesses program nest s around) (sym (rolls-If arms other)) ∙ ap (λ f. f around) (fold-roll-Stmt Accesses Accesses Accesses node (arm_accesses_node program nest) (loop_accesses_node program nest) (Stmt-F.If arms other))

-- sums of factors, one by one
pub sums_more : (factors others : List ℤ) (k n : ℕ) → n ≡ min (length factors) (length others) → k < n → (x : ℤ) → x ≡ wrap (get_or factors k (pos 0) +ℤ get_or others k (pos 0)) → (done new whole : List ℤ) → new ≡ done ++ x ∷ [] → done ++ sums (drop k factors) (drop k others) ≡ whole
    → new ++ sums (drop (k + 1) factors) (drop (k + 1) others) ≡ whole
sums_more factors others k n bound less x sum done new whole more left =
    ap (λ l. l ++ sums (drop (k + 1) factors) (drop (k + 1) others)) more
    ∙ append_assoc done (x ∷ []) (sums (drop (k + 1) factors) (drop (k + 1) others))
    ∙ ap (λ l. done ++ l) (sym here)
    ∙ left
  where
    there : k < length factors
    there = omega arith

    there' : k < length others
    there' = omega arith

    first : drop k factors ≡ get_or factors k (pos 0) ∷ drop (k + 1) factors
    first = drop-cons factors k (pos 0) there ∙ ap (λ n. get_or factors k (pos 0) ∷ drop n factors) (sym (add-one k))

    second : drop k others ≡ get_or others k (pos 0) ∷ drop (k + 1) others
    second = drop-cons others k (pos 0) there' ∙ ap (λ n. get_or others k (pos 0) ∷ drop n others) (sym (add-one k))

    here : sums (drop k factors) (drop k others) ≡ x ∷ sums (drop (k + 1) factors) (drop (k + 1) others)
    here = ap (λ l. sums l (drop k others)) first ∙ ap (λ l. sums (get_or factors k (pos 0) ∷ drop (k + 1) factors) l) second ∙ ap (λ y. y ∷ sums (drop (k + 1) factors) (drop (k + 1) others)) (sym sum)

no_sums : (factors others : List ℤ) → (length factors ≡ 0) ⊎ (length others ≡ 0) → sums factors others ≡ []
no_sums [] others h = refl
no_sums (a ∷ factors) [] h = refl
no_sums (a ∷ factors) (b ∷ others) (inl none) = absurd (omega arith)
no_sums (a ∷ factors) (b ∷ others) (inr none) = absurd (omega arith)

pub sums_end : (factors others : List ℤ) (k n : ℕ) → n ≡ min (length factors) (length others) → n ≤ k → (done whole : List ℤ) → done ++ sums (drop k factors) (drop k others) ≡ whole → done ≡ whole
sums_end factors others k n bound over done whole left = sym (append-nil done) ∙ ap (λ l. done ++ l) (sym (no_sums (drop k factors) (drop k others) (by (cases_lt k (length factors))))) ∙ left
  where
    by : (k < length factors) ⊎ (length factors ≤ k) → (length (drop k factors) ≡ 0) ⊎ (length (drop k others) ≡ 0)
    by (inl less) = let past : length others ≤ k = omega arith in inr (ap length (drop_all k others past))
    by (inr past) = inl (ap length (drop_all k factors past))

-- one part more of a loop, in two pieces
pub gathers_two : {A : Type 0} (f : A → Accesses) (around : Around) (xs : List A) (i : ℕ) → i < length xs → (here : A) → here ≡ get_or xs i here → (first second found one two whole : List Access) → f here around ≡ first ++ second → one ≡ found ++ first → two ≡ one ++ second → found ++ all_of (map f (drop i xs)) around ≡ whole
    → two ++ all_of (map f (drop (i + 1) xs)) around ≡ whole
gathers_two f around xs i there here is first second found one two whole parts e g left =
    ap (λ l. l ++ all_of (map f (drop (i + 1) xs)) around) (adds_two found one two first second (f here around) parts e g)
    ∙ append_assoc found (f here around) (all_of (map f (drop (i + 1) xs)) around)
    ∙ ap (λ ys. found ++ all_of (map f ys) around) (sym (drop-cons xs i here there ∙ ap (λ x. x ∷ drop (suc i) xs) (sym is) ∙ ap (λ n. here ∷ drop n xs) (sym (add-one i))))
    ∙ left

module _ (program : Program) (nest : Loop) where
  pub arm_accesses-is : (a : Arm) → arm_accesses program nest a ≡ (λ around. reads program nest a.line around a.test ++ block_accesses program nest a.body around)
  arm_accesses-is a = fold_out-Arm Accesses Accesses Accesses (accesses_node program nest) (arm_accesses_node program nest) (loop_accesses_node program nest) a

-- The bodies of a program that keeps the rules fit: from what each name in them is, from what makes a local a data local,
-- and from the rules on bounds.
use Rattle.std.proofs.Common.{◌≡◌, ℕ, ℤ, ◌==◌, Bool, true, false, not, ◌||◌, ◌&&◌, if◌then◌else◌, Option, Some, None, is_none, List, [], ◌∷◌, ◌++◌, map, refl, sym, ap, ◌∙◌, subst, ◌⊎◌, inl, inr, append_assoc, eq-eqb}
use Rattle.std.specs.List.{concat, list_all, flat_map}
use Rattle.std.proofs.lemmas.List.Folds.{list_all-append, list_any-append}
use Rattle.std.proofs.lemmas.Bool.{or_left, or_right, eqb-true}
use Rattle.nest_syntax.specs.declared.names.Line.{Line}
use Rattle.nest_syntax.specs.declared.operators.Op.{Op as Change}
use Rattle.nest_syntax.specs.declared.tree.Expr.{Expr}
use Rattle.nest_syntax.specs.declared.tree.Expr.TheVariants as expr
use Rattle.nest_syntax.specs.declared.tree.Arm.{Arm}
use Rattle.nest_syntax.specs.declared.tree.Loop.{Loop}
use Rattle.nest_syntax.specs.declared.tree.Stmt.{Stmt}
use Rattle.nest_syntax.specs.declared.tree.Stmt.TheOpen.{Stmt-F}
use Rattle.nest_syntax.specs.declared.tree.Stmt.TheFolds.{fold-roll-Stmt, fold_out-Arm, fold_out-Loop}
use Rattle.nest_syntax.specs.declared.tree.Stmt.TheVariants as stmt
use Rattle.nest_syntax.specs.declared.tree.Stmt.TheVariants.{rolls-Declare, rolls-Assign, rolls-If, rolls-Loop}
use Rattle.nest_syntax.specs.declared.tree.Program.{Program}
use Rattle.nest_syntax.specs.Among.{Each, IsOne, is_among}
use Rattle.nest_syntax.specs.Arrays.{Array}
use Rattle.nest_syntax.specs.Shape.{Body}
use Rattle.nest_check.specs.Tables.{scalar_of}
use Rattle.nest_syntax.specs.Locals as locals
use Rattle.nest_syntax.proofs.Equations.{given-if, given-loop, given_in_arm-is, given_in_loop-is}
use Rattle.nest_syntax.proofs.Inductions.{stmt_induction, each_left, each_right}
use Rattle.data_local.specs.Names.{scalars_in}
use Rattle.data_local.specs.Givings.{Giving, Given, Tried, given, tried, given_by, given_by_loop, by_arms, given_node, tried_node, given_loop_node, givings}
use Rattle.data_local.specs.DataLocals.{by_array, by_local, IsData, AreDataLocals}
use Rattle.data_local.specs.Breaches.{is_data}
use Rattle.data_local.specs.Loops.{loops, loops_in, loops_in_arm}
use Rattle.data_local.proofs.Gathers.{loops-if, loops-loop, loops_in_arm-is}
use Rattle.data_local.proofs.Lowests.{data_is}
use Rattle.data_local.proofs.Parts.{one_left, one_right}
use Rattle.bound_names.specs.Uses.{Binder, Inside, Bindings, binder_of, used_by}
use Rattle.bound_names.specs.Meant.{BoundIn, ExprBoundIn, IsScalar, IsDeclared, IsUnbound}
use Rattle.bound_names.proofs.Equations.{used-declare, used-assign, used-write, used-if, used-loop}
use Rattle.bound_names.proofs.Walk.{StmtBoundIn, ArmBoundIn, bound_first, bound_declare, bound_assign, bound_write, bound_if, bound_loop, bound_scalar, bound_word, bound_unary, bound_binary, bound_choice}
use Rattle.claim_walk.specs.Walk.{Setting, is_slice}
use Rattle.claim_walk.proofs.Slices.{or_none}
use Rattle.claim_walk.proofs.Equations.{scalars-number, scalars-scalar, scalars-word, scalars-unary, scalars-binary, scalars-choice}
use Rattle.nest_syntax.proofs.Inductions.{expr_induction}
use Rattle.claim_walk.proofs.Agreeing.{and_left, and_right}
use Rattle.claim_walk.proofs.Fits.{hidden_in, Fitting, Arm_fitting, Test, in_arms, is_seen, sees, gives, bounds_fit, fit, fit_arm, fit_block, fit-declare, fit-assign, fit-write, fit-if, fit-loop, fit_arm-is, fit_loop-is}

-- the givings of a statement, an arm and a loop
given-of_declare : (line : Line) (name : ℕ) (e : Expr) → given (stmt.Declare line name e) ≡ (λ tests. record { name = name; depends = e ∷ tests } ∷ [])
given-of_declare line name e = ap given (sym (rolls-Declare line name e)) ∙ fold-roll-Stmt Given Tried Given given_node tried_node given_loop_node (Stmt-F.Declare line name e)

given-of_assign : (line : Line) (name : ℕ) (o : Change) (e : Expr) → given (stmt.Assign line name o e) ≡ (λ tests. record { name = name; depends = e ∷ tests } ∷ [])
given-of_assign line name o e = ap given (sym (rolls-Assign line name o e)) ∙ fold-roll-Stmt Given Tried Given given_node tried_node given_loop_node (Stmt-F.Assign line name o e)

given-of_if : (arms : List Arm) (other : List Stmt) → given (stmt.If arms other) ≡ by_arms (map tried arms) (given_by other)
given-of_if arms other = ap given (sym (rolls-If arms other)) ∙ fold-roll-Stmt Given Tried Given given_node tried_node given_loop_node (Stmt-F.If arms other)

given-of_loop : (l : Loop) → given (stmt.Loop l) ≡ given_by_loop l
given-of_loop l = ap given (sym (rolls-Loop l)) ∙ fold-roll-Stmt Given Tried Given given_node tried_node given_loop_node (Stmt-F.Loop l)

tried-is : (a : Arm) → tried a ≡ (a.test, given_by a.body)
tried-is a = fold_out-Arm Given Tried Given given_node tried_node given_loop_node a

given_by_loop-is : (l : Loop) → given_by_loop l ≡ given_by l.body
given_by_loop-is l = fold_out-Loop Given Tried Given given_node tried_node given_loop_node l

both : (a b : Bool) → a ≡ true → b ≡ true → (a && b) ≡ true
both true b e f = f
both false b e f = absurd (let no : false ≡ true = e in cc)

all_both : (test : ℕ → Bool) (xs ys : List ℕ) → list_all test xs ≡ true → list_all test ys ≡ true → list_all test (xs ++ ys) ≡ true
all_both test xs ys e f = list_all-append test xs ys ∙ both (list_all test xs) (list_all test ys) e f

eqb_flip : (a b : ℕ) → (a == b) ≡ false → (b == a) ≡ false
eqb_flip a b e = by (b == a) refl
  where
    by : (t : Bool) → (b == a) ≡ t → t ≡ false
    by true same = absurd (let no : true ≡ false = sym (eq-eqb a b (sym (eqb-true b a same))) ∙ e in cc)
    by false same = refl

-- the names that are bound
abbrev pub names_of : Bindings → List ℕ
names_of bindings = map (λ (b : ℕ × Binder). b.0) bindings

bound_name : (bindings : Bindings) (name : ℕ) (binder : Binder) → binder_of bindings name ≡ Some binder → is_among (names_of bindings) name ≡ true
bound_name [] name binder e = absurd (let no : None ≡ Some binder = e in cc)
bound_name (b ∷ bindings) name binder e = by (λ later. bound_name bindings name binder later) (name == b.0) e
  where
    by : (binder_of bindings name ≡ Some binder → is_among (names_of bindings) name ≡ true) → (t : Bool) → (if t then Some b.1 else binder_of bindings name) ≡ Some binder → (t || is_among (names_of bindings) name) ≡ true
    by rest true e = refl
    by rest false e = rest e

unbound_name : (bindings : Bindings) (name : ℕ) → binder_of bindings name ≡ None → is_among (names_of bindings) name ≡ false
unbound_name [] name e = refl
unbound_name (b ∷ bindings) name e = by (λ later. unbound_name bindings name later) (name == b.0) e
  where
    by : (binder_of bindings name ≡ None → is_among (names_of bindings) name ≡ false) → (t : Bool) → (if t then Some b.1 else binder_of bindings name) ≡ None → (t || is_among (names_of bindings) name) ≡ false
    by rest true e = absurd (let no : Some b.1 ≡ None = e in cc)
    by rest false e = rest e

module _ (program : Program) (body : Body) (arrays : List Array) (words : List ℤ) (data_locals : List ℕ) (are : AreDataLocals arrays body.stmts data_locals) where
  abbrev pub set : Setting
  set = record { arrays = arrays; words = words; is_data_local = is_among data_locals }

  abbrev own : List ℕ
  own = locals.locals_of body.stmts

  abbrev hidden : ℕ → Bool
  hidden = hidden_in program body.stmts

  either_false : (a b : Bool) → a ≡ false → b ≡ false → (a || b) ≡ false
  either_false true b e f = absurd (let no : true ≡ false = e in cc)
  either_false false b e f = f

  -- a name that is read is bound, or it is a scalar of the scheduler and no local of the body
  seen_by : (bindings : Bindings) (name : ℕ) (o : Option Binder) → binder_of bindings name ≡ o → IsScalar program body name o → is_seen set hidden (names_of bindings) name ≡ true
  seen_by bindings name None e is = or_right (is_among (names_of bindings) name) (not (hidden name)) (ap not (either_false (is_among own name) (is_none (scalar_of program name)) is.no_local (ap is_none is.numbered.1)))
  seen_by bindings name (Some binder) e is = or_left (is_among (names_of bindings) name) (not (hidden name)) (bound_name bindings name binder e)

  abbrev Sees : Expr → Type 0
  Sees e = (bindings : Bindings) → ExprBoundIn program body bindings e → sees set hidden (names_of bindings) e ≡ true

  abbrev all_seen : Bindings → List ℕ → Bool
  all_seen bindings names = list_all (is_seen set hidden (names_of bindings)) names

  expr_sees : (e : Expr) → Sees e
  expr_sees = expr_induction Sees
      (λ n bindings known. numbers n bindings)
      (λ name bindings known. ap (all_seen bindings) (scalars-scalar name) ∙ both (is_seen set hidden (names_of bindings) name) true (seen_by bindings name (binder_of bindings name) refl (bound_scalar program body bindings name known)) refl)
      (λ name p is bindings known. ap (all_seen bindings) (scalars-word name p) ∙ is bindings (bound_word program body bindings name p known).1)
      (λ o a is bindings known. ap (all_seen bindings) (scalars-unary o a) ∙ is bindings (bound_unary program body bindings o a known))
      (λ o a b is is_too bindings known. let parts = bound_binary program body bindings o a b known in
      ap (all_seen bindings) (scalars-binary o a b) ∙ all_both (is_seen set hidden (names_of bindings)) (scalars_in a) (scalars_in b) (is bindings parts.0) (is_too bindings parts.1))
      (λ t a b is is_too is_three bindings known. let parts = bound_choice program body bindings t a b known in
      ap (all_seen bindings) (scalars-choice t a b) ∙ all_both (is_seen set hidden (names_of bindings)) (scalars_in t) (scalars_in a ++ scalars_in b) (is bindings parts.0)
      (all_both (is_seen set hidden (names_of bindings)) (scalars_in a) (scalars_in b) (is_too bindings parts.1.0) (is_three bindings parts.1.1)))
    where
      numbers : (n : ℤ) (bindings : Bindings) → sees set hidden (names_of bindings) (expr.Number n) ≡ true
      numbers n bindings = ap (all_seen bindings) (scalars-number n)

  -- what an expression names is data, or it is a slice expression
  slice_or : (e : Expr) → (is_slice set e ≡ true) ⊎ IsData set.arrays body.stmts e
  slice_or e = by (is_data arrays data_locals e) refl
    where
      by : (b : Bool) → is_data arrays data_locals e ≡ b → (not b ≡ true) ⊎ IsData set.arrays body.stmts e
      by true is = inr (data_is arrays body.stmts data_locals e are is)
      by false is = inl refl

  -- a name that is given a value by what is data, or under a data test, is a data local
  gives_data : (g : Giving) → IsOne (givings body.stmts) g → (e : Expr) → IsOne g.depends e → IsData set.arrays body.stmts e → set.is_data_local g.name ≡ true
  gives_data g one e dep (inl written) = (are g.name).1 (by_array g e one dep written)
  gives_data g one e dep (inr local) = (are g.name).1 (by_local g e local.0 one dep local.1 local.2)

  -- some test around is a data expression
  abbrev IsUnder : Bool → List Expr → Type 0
  IsUnder under tests = under ≡ true → (t : Expr) × IsOne tests t × IsData set.arrays body.stmts t

  abbrev Given_in : List Giving → Type 0
  Given_in gs = (g : Giving) → IsOne gs g → IsOne (givings body.stmts) g

  gives_fit : (under : Bool) (tests : List Expr) (name : ℕ) (e : Expr) → IsUnder under tests → IsOne (givings body.stmts) (record { name = name; depends = e ∷ tests }) → gives set hidden under name e ≡ true
  gives_fit true tests name e is one = let t = is refl in or_left (set.is_data_local name) (is_slice set e && false) (gives_data (record { name = name; depends = e ∷ tests }) one t.0 (inr t.1) t.2)
  gives_fit false tests name e is one = elim (slice_or e) [
    | inl slice ↦ or_right (set.is_data_local name) (is_slice set e && true) (both (is_slice set e) true slice refl)
    | inr told ↦ or_left (set.is_data_local name) (is_slice set e && true) (gives_data (record { name = name; depends = e ∷ tests }) one e (inl refl) told)
  ]

  -- a loop of the body: its bounds are slice expressions, and the high one doesn't name its variable
  pub record Bounded (l : Loop) : Type 0 where
    pub low : IsData set.arrays body.stmts l.low → ⊥
    pub high : IsData set.arrays body.stmts l.high → ⊥
    pub apart : is_among (scalars_in l.high) l.name ≡ false

  not_data : (e : Expr) → (IsData set.arrays body.stmts e → ⊥) → is_slice set e ≡ true
  not_data e none = elim (slice_or e) [ inl slice ↦ slice | inr told ↦ absurd (none told) ]

  abbrev Named_in : List ℕ → Type 0
  Named_in names = (name : ℕ) → is_among names name ≡ true → hidden name ≡ true

  -- what is known of a part of the body
  record Around (bindings : Bindings) (under : Bool) (tests : List Expr) (gs : List Giving) (names : List ℕ) (inner : List Loop) : Type 0 where
    is_under : IsUnder under tests
    gives_in : Given_in gs
    named_in : Named_in names
    bounded : Each Bounded inner

  abbrev StmtFits : Stmt → Type 0
  StmtFits s = (bindings : Bindings) (under : Bool) (tests : List Expr) → StmtBoundIn program body bindings s → Around bindings under tests (given s tests) (locals.given false s) (loops s) → (fit set hidden s).fits (names_of bindings) under ≡ true

  left_names : (xs ys : List ℕ) → Named_in (xs ++ ys) → Named_in xs
  left_names xs ys all name is = all name (list_any-append (λ other. name == other) xs ys ∙ or_left (is_among xs name) (is_among ys name) is)

  right_names : (xs ys : List ℕ) → Named_in (xs ++ ys) → Named_in ys
  right_names xs ys all name is = all name (list_any-append (λ other. name == other) xs ys ∙ or_right (is_among xs name) (is_among ys name) is)

  around_first : (bindings : Bindings) (under : Bool) (tests : List Expr) (gs hs : List Giving) (xs ys : List ℕ) (inner others : List Loop) → Around bindings under tests (gs ++ hs) (xs ++ ys) (inner ++ others) → Around bindings under tests gs xs inner
  around_first bindings under tests gs hs xs ys inner others a = record {
    is_under = a.is_under;
    gives_in = λ g one. a.gives_in g (one_left gs hs g one);
    named_in = left_names xs ys a.named_in;
    bounded = each_left Bounded inner others a.bounded;
  }

  around_second : (bindings later : Bindings) (under : Bool) (tests : List Expr) (gs hs : List Giving) (xs ys : List ℕ) (inner others : List Loop) → Around bindings under tests (gs ++ hs) (xs ++ ys) (inner ++ others) → Around later under tests hs ys others
  around_second bindings later under tests gs hs xs ys inner others a = record {
    is_under = a.is_under;
    gives_in = λ g one. a.gives_in g (one_right gs hs g one);
    named_in = right_names xs ys a.named_in;
    bounded = each_right Bounded inner others a.bounded;
  }

  -- the names that are bound behind a statement
  behind_stmt : (s : Stmt) → (bindings : Bindings) → (fit set hidden s).behind (names_of bindings) ≡ names_of (used_by s bindings).behind
  behind_stmt = stmt_induction (λ s. (bindings : Bindings) → (fit set hidden s).behind (names_of bindings) ≡ names_of (used_by s bindings).behind)
      (λ line name e bindings. ap (λ (f : Fitting). f.behind (names_of bindings)) (fit-declare set hidden line name e) ∙ sym (ap (λ u. names_of u.behind) (used-declare bindings line name e)))
      (λ line name o e bindings. ap (λ (f : Fitting). f.behind (names_of bindings)) (fit-assign set hidden line name o e) ∙ sym (ap (λ u. names_of u.behind) (used-assign bindings line name o e)))
      (λ line name p o e bindings. ap (λ (f : Fitting). f.behind (names_of bindings)) (fit-write set hidden line name p o e) ∙ sym (ap (λ u. names_of u.behind) (used-write bindings line name p o e)))
      (λ arms other in_arms_too in_other bindings. ap (λ (f : Fitting). f.behind (names_of bindings)) (fit-if set hidden arms other) ∙ sym (ap (λ u. names_of u.behind) (used-if bindings arms other)))
      (λ l each bindings. ap (λ (f : Fitting). f.behind (names_of bindings)) (fit-loop set hidden l) ∙ sym (ap (λ u. names_of u.behind) (used-loop bindings l)))

  block_fits : (stmts : List Stmt) → Each StmtFits stmts → (bindings : Bindings) (under : Bool) (tests : List Expr) → BoundIn program body bindings stmts → Around bindings under tests (given_by stmts tests) (locals.names_given false stmts) (loops_in stmts)
      → fit_block set hidden stmts (names_of bindings) under ≡ true
  block_fits [] each bindings under tests known a = refl
  block_fits (s ∷ stmts) each bindings under tests known a =
      let parts = bound_first program body bindings s stmts known in
      let later = (used_by s bindings).behind in
      both ((fit set hidden s).fits (names_of bindings) under) (fit_block set hidden stmts ((fit set hidden s).behind (names_of bindings)) under)
      (each.0 bindings under tests parts.0 (around_first bindings under tests (given s tests) (given_by stmts tests) (locals.given false s) (locals.names_given false stmts) (loops s) (loops_in stmts) a))
      (subst (λ names. fit_block set hidden stmts names under ≡ true) (sym (behind_stmt s bindings))
      (block_fits stmts each.1 later under tests parts.1 (around_second bindings later under tests (given s tests) (given_by stmts tests) (locals.given false s) (locals.names_given false stmts) (loops s) (loops_in stmts) a)))

  -- under one more test
  more_under : (under : Bool) (tests : List Expr) (t : Expr) → IsUnder under tests → IsUnder (under || not (is_slice set t)) (t ∷ tests)
  more_under true tests t is e = let one = is refl in (one.0, inr one.1, one.2)
  more_under false tests t is e = elim (slice_or t) [ inl slice ↦ absurd (let no : false ≡ true = sym (ap not slice) ∙ e in cc) | inr told ↦ (t, inl refl, told) ]

  arms_fit : (arms : List Arm) (other : List Stmt) → Each (λ (b : Arm). Each StmtFits b.body) arms → Each StmtFits other → (bindings : Bindings) (under : Bool) (tests : List Expr)
      → Each (ArmBoundIn program body bindings) arms → BoundIn program body bindings other
      → Around bindings under tests (by_arms (map tried arms) (given_by other) tests) (concat (map (locals.given_in_arm false) arms) ++ locals.names_given false other) (flat_map loops_in_arm arms ++ loops_in other)
      → in_arms (map (fit_arm set hidden) arms) (fit_block set hidden other) (names_of bindings) under ≡ true
  arms_fit [] other arms_each other_each bindings under tests arms_known known a = block_fits other other_each bindings under tests known a
  arms_fit (b ∷ arms) other arms_each other_each bindings under tests arms_known known a =
      subst (λ (f : Arm_fitting). in_arms (f ∷ map (fit_arm set hidden) arms) (fit_block set hidden other) (names_of bindings) under ≡ true) (sym (fit_arm-is set hidden b))
      (both (sees set hidden (names_of bindings) b.test) (fit_block set hidden b.body (names_of bindings) (under || not (is_slice set b.test)) && in_arms (map (fit_arm set hidden) arms) (fit_block set hidden other) (names_of bindings) (under || not (is_slice set b.test))) (expr_sees b.test bindings arms_known.0.0)
      (both (fit_block set hidden b.body (names_of bindings) (under || not (is_slice set b.test))) (in_arms (map (fit_arm set hidden) arms) (fit_block set hidden other) (names_of bindings) (under || not (is_slice set b.test)))
      (block_fits b.body arms_each.0 bindings (under || not (is_slice set b.test)) (b.test ∷ tests) arms_known.0.1 first)
      (arms_fit arms other arms_each.1 other_each bindings (under || not (is_slice set b.test)) (b.test ∷ tests) arms_known.1 known second)))
    where
      gives_all : by_arms (map tried (b ∷ arms)) (given_by other) tests ≡ given_by b.body (b.test ∷ tests) ++ (by_arms (map tried arms) (given_by other) (b.test ∷ tests))
      gives_all = ap (λ (t : Tried). t.1 (t.0 ∷ tests) ++ by_arms (map tried arms) (given_by other) (t.0 ∷ tests)) (tried-is b)

      names_all : concat (map (locals.given_in_arm false) (b ∷ arms)) ++ locals.names_given false other ≡ locals.names_given false b.body ++ (concat (map (locals.given_in_arm false) arms) ++ locals.names_given false other)
      names_all = ap (λ l. (l ++ concat (map (locals.given_in_arm false) arms)) ++ locals.names_given false other) (given_in_arm-is false b) ∙ append_assoc (locals.names_given false b.body) (concat (map (locals.given_in_arm false) arms)) (locals.names_given false other)

      loops_all : flat_map loops_in_arm (b ∷ arms) ++ loops_in other ≡ loops_in b.body ++ (flat_map loops_in_arm arms ++ loops_in other)
      loops_all = ap (λ l. (l ++ flat_map loops_in_arm arms) ++ loops_in other) (loops_in_arm-is b) ∙ append_assoc (loops_in b.body) (flat_map loops_in_arm arms) (loops_in other)

      within : Around bindings (under || not (is_slice set b.test)) (b.test ∷ tests) (given_by b.body (b.test ∷ tests) ++ (by_arms (map tried arms) (given_by other) (b.test ∷ tests))) (locals.names_given false b.body ++ (concat (map (locals.given_in_arm false) arms) ++ locals.names_given false other)) (loops_in b.body ++ (flat_map loops_in_arm arms ++ loops_in other))
      within = record {
        is_under = more_under under tests b.test a.is_under;
        gives_in = subst Given_in gives_all a.gives_in;
        named_in = subst Named_in names_all a.named_in;
        bounded = subst (Each Bounded) loops_all a.bounded;
      }

      first : Around bindings (under || not (is_slice set b.test)) (b.test ∷ tests) (given_by b.body (b.test ∷ tests)) (locals.names_given false b.body) (loops_in b.body)
      first = around_first bindings (under || not (is_slice set b.test)) (b.test ∷ tests) (given_by b.body (b.test ∷ tests)) (by_arms (map tried arms) (given_by other) (b.test ∷ tests)) (locals.names_given false b.body) (concat (map (locals.given_in_arm false) arms) ++ locals.names_given false other) (loops_in b.body) (flat_map loops_in_arm arms ++ loops_in other) within

      second : Around bindings (under || not (is_slice set b.test)) (b.test ∷ tests) (by_arms (map tried arms) (given_by other) (b.test ∷ tests)) (concat (map (locals.given_in_arm false) arms) ++ locals.names_given false other) (flat_map loops_in_arm arms ++ loops_in other)
      second = around_second bindings bindings (under || not (is_slice set b.test)) (b.test ∷ tests) (given_by b.body (b.test ∷ tests)) (by_arms (map tried arms) (given_by other) (b.test ∷ tests)) (locals.names_given false b.body) (concat (map (locals.given_in_arm false) arms) ++ locals.names_given false other) (loops_in b.body) (flat_map loops_in_arm arms ++ loops_in other) within

  -- around each kind of statement, by its equations
  around_is : (bindings : Bindings) (under : Bool) (tests : List Expr) (gs hs : List Giving) (xs ys : List ℕ) (inner others : List Loop) → gs ≡ hs → xs ≡ ys → inner ≡ others → Around bindings under tests gs xs inner → Around bindings under tests hs ys others
  around_is bindings under tests gs hs xs ys inner others e f g a = record { is_under = a.is_under; gives_in = subst Given_in e a.gives_in; named_in = subst Named_in f a.named_in; bounded = subst (Each Bounded) g a.bounded }

  if_fits : (arms : List Arm) (other : List Stmt) → Each (λ (b : Arm). Each StmtFits b.body) arms → Each StmtFits other → StmtFits (stmt.If arms other)
  if_fits arms other arms_each other_each bindings under tests known a =
      let parts = bound_if program body bindings arms other known in
      subst (λ (f : Fitting). f.fits (names_of bindings) under ≡ true) (sym (fit-if set hidden arms other))
      (arms_fit arms other arms_each other_each bindings under tests parts.0 parts.1
      (around_is bindings under tests (given (stmt.If arms other) tests) (by_arms (map tried arms) (given_by other) tests) (locals.given false (stmt.If arms other)) (concat (map (locals.given_in_arm false) arms) ++ locals.names_given false other) (loops (stmt.If arms other)) (flat_map loops_in_arm arms ++ loops_in other)
      (ap (λ (g : Given). g tests) (given-of_if arms other)) (given-if false arms other) (loops-if arms other) a))

  -- what is seen with one more name bound is seen without it, in an expression that doesn't name it
  seen_without : (bound : List ℕ) (name : ℕ) (names : List ℕ) → list_all (is_seen set hidden (name ∷ bound)) names ≡ true → is_among names name ≡ false → list_all (is_seen set hidden bound) names ≡ true
  seen_without bound name [] e apart = refl
  seen_without bound name (x ∷ xs) e apart =
      let parts = or_none (name == x) (is_among xs name) apart in
      both (is_seen set hidden bound x) (list_all (is_seen set hidden bound) xs)
      (by (x == name) (eqb_flip name x parts.0) (and_left (is_seen set hidden (name ∷ bound) x) (list_all (is_seen set hidden (name ∷ bound)) xs) e))
      (seen_without bound name xs (and_right (is_seen set hidden (name ∷ bound) x) (list_all (is_seen set hidden (name ∷ bound)) xs) e) parts.1)
    where
      by : (b : Bool) → b ≡ false → ((b || is_among bound x) || not (hidden x)) ≡ true → is_seen set hidden bound x ≡ true
      by true apart seen = absurd (let wrong : true ≡ false = apart in cc)
      by false apart seen = seen

  loop_fits : (l : Loop) → Each StmtFits l.body → StmtFits (stmt.Loop l)
  loop_fits l each bindings under tests known a =
      let parts = bound_loop program body bindings l known in
      let within = (l.name, Inside l) ∷ bindings in
      let here = around_is bindings under tests (given (stmt.Loop l) tests) (given_by l.body tests) (locals.given false (stmt.Loop l)) (l.name ∷ locals.names_given false l.body) (loops (stmt.Loop l)) (l ∷ loops_in l.body)
      (ap (λ (g : Given). g tests) (given-of_loop l ∙ given_by_loop-is l)) (given-loop false l ∙ given_in_loop-is false l) (loops-loop l) a in
      let bounds = here.bounded.0 in
      subst (λ (f : Fitting). f.fits (names_of bindings) under ≡ true) (sym (fit-loop set hidden l))
      (subst (λ (f : Test). f (names_of bindings) under ≡ true) (sym (fit_loop-is set hidden l))
      (both (bounds_fit set hidden (names_of bindings) l.name l.low l.high) (fit_block set hidden l.body (l.name ∷ names_of bindings) under)
      (both (is_slice set l.low && is_slice set l.high) _ (both (is_slice set l.low) (is_slice set l.high) (not_data l.low bounds.low) (not_data l.high bounds.high))
      (both (sees set hidden (names_of bindings) l.low && sees set hidden (names_of bindings) l.high) _
      (both (sees set hidden (names_of bindings) l.low) (sees set hidden (names_of bindings) l.high) (expr_sees l.low bindings parts.1.0) (seen_without (names_of bindings) l.name (scalars_in l.high) (expr_sees l.high within parts.1.1.0) bounds.apart))
      (both (hidden l.name) (not (is_among (names_of bindings) l.name)) (here.named_in l.name (or_left (l.name == l.name) (is_among (locals.names_given false l.body) l.name) (eq-eqb l.name l.name refl))) (ap not (unbound (binder_of bindings l.name) refl parts.0)))))
      (block_fits l.body each within under tests parts.1.1.1 (record {
        is_under = here.is_under;
        gives_in = here.gives_in;
        named_in = λ name is. here.named_in name (or_right (name == l.name) (is_among (locals.names_given false l.body) name) is);
        bounded = here.bounded.1;
      }))))
    where
      unbound : (o : Option Binder) → binder_of bindings l.name ≡ o → IsUnbound o → is_among (names_of bindings) l.name ≡ false
      unbound None e is = unbound_name bindings l.name e
      unbound (Some binder) e is = absurd is

  stmt_fits : (s : Stmt) → StmtFits s
  stmt_fits = stmt_induction StmtFits
      (λ line name e bindings under tests known a. let parts = bound_declare program body bindings line name e known in
      subst (λ (f : Fitting). f.fits (names_of bindings) under ≡ true) (sym (fit-declare set hidden line name e))
      (both (sees set hidden (names_of bindings) e) (gives set hidden under name e) (expr_sees e bindings parts.1)
      (gives_fit under tests name e a.is_under (a.gives_in (record { name = name; depends = e ∷ tests }) (subst (λ (g : Given). IsOne (g tests) (record { name = name; depends = e ∷ tests })) (sym (given-of_declare line name e)) (inl refl))))))
      (λ line name o e bindings under tests known a. let parts = bound_assign program body bindings line name o e known in
      subst (λ (f : Fitting). f.fits (names_of bindings) under ≡ true) (sym (fit-assign set hidden line name o e))
      (both (is_seen set hidden (names_of bindings) name) (sees set hidden (names_of bindings) e && gives set hidden under name e) (declared bindings name (binder_of bindings name) refl parts.0)
      (both (sees set hidden (names_of bindings) e) (gives set hidden under name e) (expr_sees e bindings parts.1)
      (gives_fit under tests name e a.is_under (a.gives_in (record { name = name; depends = e ∷ tests }) (subst (λ (g : Given). IsOne (g tests) (record { name = name; depends = e ∷ tests })) (sym (given-of_assign line name o e)) (inl refl)))))))
      (λ line name p o e bindings under tests known a. let parts = bound_write program body bindings line name p o e known in
      subst (λ (f : Fitting). f.fits (names_of bindings) under ≡ true) (sym (fit-write set hidden line name p o e))
      (both (sees set hidden (names_of bindings) p) (sees set hidden (names_of bindings) e) (expr_sees p bindings parts.1.0) (expr_sees e bindings parts.1.1)))
      if_fits loop_fits
    where
      declared : (bindings : Bindings) (name : ℕ) (o : Option Binder) → binder_of bindings name ≡ o → IsDeclared o → is_seen set hidden (names_of bindings) name ≡ true
      declared bindings name None e is = absurd is
      declared bindings name (Some binder) e is = or_left (is_among (names_of bindings) name) (not (hidden name)) (bound_name bindings name binder e)

  each_fits : (stmts : List Stmt) → Each StmtFits stmts
  each_fits [] = tt
  each_fits (s ∷ stmts) = (stmt_fits s, each_fits stmts)

  -- a whole body, of which the names mean something and the loops are bounded
  pub body_fits : (bindings : Bindings) → BoundIn program body bindings body.stmts → Each Bounded (loops_in body.stmts) → fit_block set hidden body.stmts (names_of bindings) false ≡ true
  body_fits bindings known bounded = block_fits body.stmts (each_fits body.stmts) bindings false [] known (record {
    is_under = λ e. absurd (let no : false ≡ true = e in cc);
    gives_in = λ g one. one;
    named_in = λ name is. or_left (is_among own name) (is_none (scalar_of program name)) is;
    bounded = bounded;
  })

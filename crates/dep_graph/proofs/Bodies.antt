-- A turn of an invocation makes only accesses of its body, each at a place that its subscript's form allows.
use Rattle.std.proofs.Common.{◌≡◌, ℕ, zero, suc, ◌+◌, ◌-◌, ◌*◌, ◌<◌, ◌≤◌, ◌==◌, nat_le, ℤ, pos, ◌+ℤ◌, neg_ℤ, Bool, true, false, if◌then◌else◌, Option, Some, None, Result, Ok, Err, List, [], ◌∷◌, ◌++◌, map, length, refl, sym, ap, ◌∙◌, subst, arith}
use Rattle.std.specs.List.{concat, flat_map}
use Rattle.std.proofs.lemmas.Int.{ints}
use Rattle.nest_syntax.specs.declared.names.Line.{Line}
use Rattle.nest_syntax.specs.declared.operators.Un.{Un}
use Rattle.nest_syntax.specs.declared.operators.Un.TheVariants as un
use Rattle.nest_syntax.specs.declared.operators.Bin.{Bin}
use Rattle.nest_syntax.specs.declared.operators.Op.{Op as Change}
use Rattle.nest_syntax.specs.declared.operators.Cause.{Cause}
use Rattle.nest_syntax.specs.declared.operators.Cause.TheVariants as cause
use Rattle.nest_syntax.specs.declared.tree.Expr.{Expr, Expr-F, map-Expr, ind-Expr, fold-roll-Expr, roll-Expr}
use Rattle.nest_syntax.specs.declared.tree.Arm.{Arm, roll-Arm}
use Rattle.nest_syntax.specs.declared.tree.Loop.{Loop, roll-Loop}
use Rattle.nest_syntax.specs.declared.tree.Stmt.{Stmt, roll-Stmt}
use Rattle.nest_syntax.specs.declared.tree.Stmt.TheOpen.{Stmt-F, Arm-F, Loop-F}
use Rattle.nest_syntax.specs.declared.tree.Stmt.TheFolds.{map-Stmt, map-Arm, map-Loop, ind-Stmt, fold-roll-Stmt, fold-roll-Arm, fold-roll-Loop, para-roll-Stmt, para-roll-Arm, para-roll-Loop, para-Loop}
use Rattle.nest_syntax.specs.declared.tree.Program.{Program}
use Rattle.nest_syntax.specs.Words.{wrap, is_zero, apply, apply_un, operation_of, turns, counted, most_turns, variable}
use Rattle.nest_syntax.specs.Arrays.{Array, arrays_of, array_of, is_fixed, located}
use Rattle.nest_syntax.specs.Value.{scalar_at, with_scalar}
use Rattle.nest_syntax.specs.Turn.{Turn, Finished, Trapped, Load, Store, Op, Go, Reckoning, Effect, Arm_effect, reckoning, reckoning_node, effect, effect_node, arm_node, loop_node, loop_effect, sequence, choose, repeat, looping, assigning, writing, inside, done_with}
use Rattle.nest_syntax.specs.Among.{Each, is_among}
use Rattle.nest_syntax.specs.Locals.{given, given_in_arm, given_in_loop, given_node, given_arm_node, given_loop_node, names_given}
use Rattle.nest_syntax.proofs.Equations.{arm_effect}
use Rattle.nest_syntax.proofs.Inductions.{each_left, each_right}
use Rattle.data_local.specs.Loops.{Loops, loops, loops_in, loops_in_arm, loops_node, loops_arm_node, loops_loop_node}
use Rattle.dep_graph.specs.declared.forms.Form.{Form}
use Rattle.dep_graph.specs.declared.around.Bound.{Bound}
use Rattle.dep_graph.specs.declared.around.Bound.TheVariants as bound
use Rattle.dep_graph.specs.declared.around.Around.{Around}
use Rattle.dep_graph.specs.declared.around.Around.TheVariants as around
use Rattle.dep_graph.specs.declared.around.Header.{Header}
use Rattle.dep_graph.specs.declared.around.Header.TheVariants as header
use Rattle.dep_graph.specs.declared.accesses.Access.{Access}
use Rattle.dep_graph.specs.Spans.{bound_node, negated_bound, bound_of, literal_in, turns_behind_first, turning, header_between, header_of}
use Rattle.dep_graph.specs.Accesses.{Accesses, access, reads, changes, all_of, turned, accesses, arm_accesses, loop_accesses, accesses_of, accesses_node, arm_accesses_node, loop_accesses_node}
use Rattle.dep_graph.specs.Forms.{symbol_of, form_of}
use Rattle.dep_graph.proofs.Values.{Valuation}
use Rattle.dep_graph.proofs.Reach.{Between}
use Rattle.dep_graph.proofs.Touching.{Claim, Touches, if-touches, done-touches}
use Rattle.dep_graph.proofs.Meaning.{IsValueOf, IsSubscript, ExprTouches, Held, expr_touches, access_claimed}
use Rattle.dep_graph.proofs.Scalars.{State, IsStill, IsInside, IsNumbered, Changes, changes_none, changes_one, changes_both, changes_more, changes_within, state_after, state_entered, still_entered, still_first, still_second, entered, valued, FitsHeader, symbols_agree, out_first, out_second, in_first, in_second}

-- four things of a node, each by its layer
by_layers : {A B C D : Type 0} (P : A → B → C → D → Type 0) {a a' : A} {b b' : B} {c c' : C} {d d' : D} → a ≡ a' → b ≡ b' → c ≡ c' → d ≡ d' → P a' b' c' d' → P a b c d
by_layers P {a} {a'} {b} {b'} {c} {c'} {d} {d'} one two three four h = subst (λ x. P x b c d) (sym one) (subst (λ x. P a' x c d) (sym two) (subst (λ x. P a' b' x d) (sym three) (subst (λ x. P a' b' c' x) (sym four) h)))

-- the reckoning of a literal bound goes on with its number alone
module _ (arrays : List Array) (P : Claim) where
  abbrev Goes : Reckoning → ℤ → Type 0
  Goes r n = (line : Line) (scalars : List ℤ) (go : ℤ → Turn) → Touches arrays P (go n) → Touches arrays P (r line scalars go)

  abbrev IsLiteral : Bound → Reckoning → Type 0
  IsLiteral (bound.Number n) r = Goes r n
  IsLiteral (bound.Negated n) r = Goes r (wrap (neg_ℤ n))
  IsLiteral bound.Other r = Unit {0}

  abbrev Literal_expr : Type 0
  Literal_expr = (e : Expr) × IsLiteral (bound_of e) (reckoning arrays e)

  negated-goes : (o : Un) (b : Bound) (r : Reckoning) → IsLiteral b r → IsLiteral (negated_bound o b) (λ line scalars go. r line scalars (λ x. Op (go (apply_un o x))))
  negated-goes un.Neg (bound.Number n) r goes = λ line scalars go h. goes line scalars (λ x. Op (go (apply_un un.Neg x))) h
  negated-goes un.Neg (bound.Negated n) r goes = tt
  negated-goes un.Neg bound.Other r goes = tt
  negated-goes un.Not b r goes = tt
  negated-goes un.Flip b r goes = tt

  literal_layer : (y : Expr-F Literal_expr) → IsLiteral (bound_node (map-Expr Expr Bound bound_of (map-Expr Literal_expr Expr (λ q. q.0) y))) (reckoning_node arrays (map-Expr Expr Reckoning (reckoning arrays) (map-Expr Literal_expr Expr (λ q. q.0) y)))
  literal_layer (Expr-F.Number n) = λ line scalars go h. h
  literal_layer (Expr-F.Scalar name) = tt
  literal_layer (Expr-F.Word name place) = tt
  literal_layer (Expr-F.Unary o part) = negated-goes o (bound_of part.0) (reckoning arrays part.0) part.1
  literal_layer (Expr-F.Binary o left right) = tt
  literal_layer (Expr-F.Choice test first second) = tt

  is_literal : (e : Expr) → IsLiteral (bound_of e) (reckoning arrays e)
  is_literal = ind-Expr (λ e. IsLiteral (bound_of e) (reckoning arrays e)) (λ x y is.
      subst (λ b. IsLiteral b (reckoning arrays (roll-Expr x))) (sym (fold-roll-Expr Bound bound_node x))
      (subst (IsLiteral (bound_node (map-Expr Expr Bound bound_of x))) (sym (fold-roll-Expr Reckoning (reckoning_node arrays) x))
      (subst (λ z. IsLiteral (bound_node (map-Expr Expr Bound bound_of z)) (reckoning_node arrays (map-Expr Expr Reckoning (reckoning arrays) z))) is (literal_layer y))))

  literal_at : (b : Bound) (r : Reckoning) (n : ℤ) → literal_in b ≡ Some n → IsLiteral b r → Goes r n
  literal_at (bound.Number m) r n e goes = let same : m ≡ n = cc in subst (Goes r) same goes
  literal_at (bound.Negated m) r n e goes = let same : wrap (neg_ℤ m) ≡ n = cc in subst (Goes r) same goes
  literal_at bound.Other r n e goes = absurd cc

  pub literal_goes : (e : Expr) (n : ℤ) → literal_in (bound_of e) ≡ Some n → Goes (reckoning arrays e) n
  literal_goes e n is = literal_at (bound_of e) (reckoning arrays e) n is (is_literal e)

-- The body of an invocation. P is claimed of each access in `all`, with any values that fit.
module _ (program : Program) (nest : Loop) (opening numbered : List ℤ) (right : IsNumbered program nest opening numbered) (P : Claim) (Known : Access → Type 0)
    (claimed : (a : Access) → Known a → (v : Valuation) → v.variable ≡ scalar_at opening nest.name → v.scalars ≡ numbered → (array place : ℕ) (at : ℤ) → located (arrays_of program.decls) a.at.array at ≡ Some (array, place) → IsSubscript v a.subscript at → P array place a.at.write) where
  abbrev arrays : List Array
  arrays = arrays_of program.decls

  abbrev touches : Turn → Type 0
  touches = Touches arrays P

  abbrev Here : Around → Valuation → List ℤ → Type 0
  Here = State program nest opening numbered

  -- a loop gives its variable nowhere in its block
  abbrev pub HoldsVariable : Loop → Type 0
  HoldsVariable l = (is_among (names_given true l.body) l.name ≡ false) × (l.name < length opening)

  all_held : (around : Around) (v : Valuation) (scalars : List ℤ) (state : Here around v scalars) (list : List Access) → Each Known list → Each (Held program nest P around v state.fits scalars) list
  all_held around v scalars state [] known = tt
  all_held around v scalars state (a ∷ list) known = (λ array place at is value. claimed a known.0 v state.variable state.scheduled array place at is value, all_held around v scalars state list known.1)

  expr : (around : Around) (v : Valuation) (scalars : List ℤ) (state : Here around v scalars) (e : Expr) → ExprTouches program nest P around v state.fits scalars e
  expr around v scalars state e = expr_touches program nest P around v state.fits scalars (symbols_agree program nest opening numbered right v scalars around state) e

  -- what a statement does, the names that it gives, its accesses, and its loops
  abbrev Does : Effect → List ℕ → Accesses → Loops → Type 0
  Does f names list inner = (around : Around) (v : Valuation) (scalars : List ℤ) → Here around v scalars → IsStill around names → IsInside nest names → Each HoldsVariable inner → Each Known (list around) → (go : List ℤ → Turn) → ((after : List ℤ) → Changes names scalars after → touches (go after)) → touches (f scalars go)

  abbrev ArmDoes : Arm_effect → List ℕ → Accesses → Loops → Type 0
  ArmDoes f names list inner = (around : Around) (v : Valuation) (scalars : List ℤ) → Here around v scalars → IsStill around names → IsInside nest names → Each HoldsVariable inner → Each Known (list around) → (otherwise : Turn) → touches otherwise → (go : List ℤ → Turn) → ((after : List ℤ) → Changes names scalars after → touches (go after)) → touches (f scalars otherwise go)

  abbrev StmtDoes : Stmt → Type 0
  StmtDoes s = Does (effect arrays s) (given true s) (accesses program nest s) (loops s)

  abbrev ArmIs : Arm → Type 0
  ArmIs a = ArmDoes (arm_effect arrays a) (given_in_arm true a) (arm_accesses program nest a) (loops_in_arm a)

  abbrev loops_below : Loop → Loops
  loops_below = para-Loop Loops Loops Loops loops_node loops_arm_node loops_loop_node

  abbrev LoopIs : Loop → Type 0
  LoopIs l = HoldsVariable l → Does (loop_effect arrays l) (given_in_loop true l) (loop_accesses program nest l) (loops_below l)

  abbrev A_stmt : Type 0
  A_stmt = (s : Stmt) × StmtDoes s

  abbrev An_arm : Type 0
  An_arm = (a : Arm) × ArmIs a

  abbrev A_loop : Type 0
  A_loop = (l : Loop) × LoopIs l

  inside_first : (xs ys : List ℕ) → IsInside nest (xs ++ ys) → IsInside nest xs
  inside_first xs ys within name out = out_first xs ys name (within name out)

  inside_second : (xs ys : List ℕ) → IsInside nest (xs ++ ys) → IsInside nest ys
  inside_second xs ys within name out = out_second xs ys name (within name out)

  abbrev statements : List A_stmt → List Stmt
  statements stmts = map (λ q. q.0) stmts

  abbrev names_in : List A_stmt → List ℕ
  names_in stmts = concat (map (given true) (statements stmts))

  abbrev accesses_in : List A_stmt → Accesses
  accesses_in stmts = all_of (map (accesses program nest) (statements stmts))

  abbrev loops_among : List A_stmt → Loops
  loops_among stmts = flat_map (λ (s : Stmt × Loops). s.1) (map (λ s. (s, loops s)) (statements stmts))

  block_does : (stmts : List A_stmt) → Does (sequence (map (effect arrays) (statements stmts))) (names_in stmts) (accesses_in stmts) (loops_among stmts)
  block_does [] = λ around v scalars state still within holds known go h. h scalars (changes_none [] scalars)
  block_does (q ∷ qs) = λ around v scalars state still within holds known go h.
      let own = given true q.0 in let others = names_in qs in
      let first = still_first around own others still in let first' = inside_first own others within in
      q.1 around v scalars state first first' (each_left HoldsVariable (loops q.0) (loops_among qs) holds) (each_left Known (accesses program nest q.0 around) (accesses_in qs around) known)
      (λ after. sequence (map (effect arrays) (statements qs)) after go)
      (λ after change. block_does qs around v after (state_after program nest opening numbered around v own scalars after first first' change state) (still_second around own others still) (inside_second own others within)
      (each_right HoldsVariable (loops q.0) (loops_among qs) holds) (each_right Known (accesses program nest q.0 around) (accesses_in qs around) known) go (λ last more. h last (changes_both own others scalars after last change more)))

  abbrev arms_of : List An_arm → List Arm
  arms_of arms = map (λ q. q.0) arms

  abbrev arm_names : List An_arm → List ℕ
  arm_names arms = concat (map (given_in_arm true) (arms_of arms))

  abbrev arm_accesses_in : List An_arm → Accesses
  arm_accesses_in arms = all_of (map (arm_accesses program nest) (arms_of arms))

  abbrev arm_loops : List An_arm → Loops
  arm_loops arms = flat_map (λ (a : Arm × Loops). a.1) (map (λ a. (a, loops_in_arm a)) (arms_of arms))

  arms_do : (arms : List An_arm) (other : Effect) (around : Around) (v : Valuation) (scalars : List ℤ) → Here around v scalars → IsStill around (arm_names arms) → IsInside nest (arm_names arms) → Each HoldsVariable (arm_loops arms) → Each Known (arm_accesses_in arms around)
      → (go : List ℤ → Turn) → ((after : List ℤ) → Changes (arm_names arms) scalars after → touches (go after)) → touches (other scalars go) → touches (choose (map (arm_effect arrays) (arms_of arms)) other scalars go)
  arms_do [] other around v scalars state still within holds known go h last = last
  arms_do (q ∷ qs) other around v scalars state still within holds known go h last =
      let own = given_in_arm true q.0 in let others = arm_names qs in
      let rest = arms_do qs other around v scalars state (still_second around own others still) (inside_second own others within) (each_right HoldsVariable (loops_in_arm q.0) (arm_loops qs) holds) (each_right Known (arm_accesses program nest q.0 around) (arm_accesses_in qs around) known) go
      (λ after change. h after (changes_within others (own ++ others) scalars after change (λ name out. out_second own others name out))) last in
      q.1 around v scalars state (still_first around own others still) (inside_first own others within) (each_left HoldsVariable (loops_in_arm q.0) (arm_loops qs) holds) (each_left Known (arm_accesses program nest q.0 around) (arm_accesses_in qs around) known)
      (choose (map (arm_effect arrays) (arms_of qs)) other scalars go) rest go (λ after change. h after (changes_within own (own ++ others) scalars after change (λ name out. out_first own others name out)))

  assigning-touches : (line : Line) (o : Option Bin) (old x : ℤ) (go : ℤ → Turn) → ((y : ℤ) → touches (go y)) → touches (assigning line o old x go)
  assigning-touches line None old x go h = h x
  assigning-touches line (Some o) old x go h = done-touches arrays P line (apply o old x) go (λ y e. h y)

  -- a write at a place that its subscript has
  module _ (around : Around) (v : Valuation) (scalars : List ℤ) (state : Here around v scalars) (name : ℕ) (place : Expr) (line : Line) (at : ℤ) (value : IsValueOf v (form_of (symbol_of program nest around) place) at) where
    abbrev claim : Bool → Type 0
    claim write = Each Known (access program nest around name place write line)

    made : (write : Bool) → claim write → (p : ℕ × ℕ) → located arrays name at ≡ Some p → is_fixed arrays p.0 ≡ false → P p.0 p.1 write
    made write known p is free = access_claimed program nest P around v state.fits scalars name place write line at p (all_held around v scalars state (access program nest around name place write line) known) is free value

    store-touches : (o : Option (ℕ × ℕ)) (operation : Option Bin) (right : ℤ) (go : Turn) → located arrays name at ≡ o → Each Known (changes program nest around name place operation line) → touches go → touches (inside line o (λ array n. writing line operation array n right go))
    store-touches None operation right go is known h = tt
    store-touches (Some p) None right go is known h = (made true known p is, h)
    store-touches (Some p) (Some o) right go is known h =
        let first = access program nest around name place false line in let second = access program nest around name place true line in
        (made false (each_left Known first second known) p is, λ old. assigning-touches line (Some o) old right (λ new. Store p.0 p.1 new go) (λ new. (made true (each_right Known first second known) p is, h)))

  -- the turns of a loop
  module _ (h : Header) (name : ℕ) (names : List ℕ) (low : ℤ) (step : ℕ) (body : Effect) (list : Accesses) (inner : Loops) (does : Does body names list inner) (apart : is_among names name ≡ false) (there : name < length opening) (within : IsInside nest (name ∷ names)) (holds : Each HoldsVariable inner)
      (around : Around) (v : Valuation) (still : IsStill around (name ∷ names)) (known : Each Known (list (entered h around))) where
    repeat_does : (n k : ℕ) → ((m : ℕ) → m < n → FitsHeader h name (variable low step (k + m))) → (scalars : List ℤ) → Here around v scalars → (go : List ℤ → Turn) → ((after : List ℤ) → Changes (name ∷ names) scalars after → touches (go after)) → touches (repeat n k (variable low step) name body scalars go)
    repeat_does zero k fits scalars state go goes = goes scalars (changes_none (name ∷ names) scalars)
    repeat_does (suc n) k fits scalars state go goes =
        let x = variable low step k in
        let begun = with_scalar scalars name x in
        let first : FitsHeader h name x = subst (λ i. FitsHeader h name (variable low step i)) (next k) (fits 0 (omega arith)) in
        does (entered h around) (valued h around v x) begun
        (state_entered program nest opening numbered v scalars name names x there within apart h around first still state)
        (still_entered program nest opening numbered v scalars name names x there within apart h around first still)
        (inside_second (name ∷ []) names within) holds known
        (λ after. Go (repeat n (suc k) (variable low step) name body after go))
        (λ after change.
        let all = changes_more (name ∷ names) scalars begun after (changes_one name names scalars x) (changes_within names (name ∷ names) begun after change (λ other out. out_second (name ∷ []) names other out)) in
        repeat_does n (suc k) (λ m less. subst (λ i. FitsHeader h name (variable low step i)) (shifted k m) (fits (suc m) (omega arith))) after
        (state_after program nest opening numbered around v (name ∷ names) scalars after still within all state) go (λ last more. goes last (changes_more (name ∷ names) scalars after last all more)))
      where
        next : (k : ℕ) → k + 0 ≡ k
        next k = omega arith

        shifted : (k m : ℕ) → k + suc m ≡ suc k + m
        shifted k m = omega arith

  looping-touches : (line : Line) (b : Bool) (n : ℕ) (variable_in : ℕ → ℤ) (name : ℕ) (body : Effect) (scalars : List ℤ) (go : List ℤ → Turn) → touches (repeat n 0 variable_in name body scalars go) → touches (looping line (if b then Ok n else Err cause.Loop) variable_in name body scalars go)
  looping-touches line true n variable_in name body scalars go h = h
  looping-touches line false n variable_in name body scalars go h = tt

  -- a loop of the body whose bounds are known
  module _ (line : Line) (name : ℕ) (names : List ℕ) (step : ℕ) (body : Effect) (list : Accesses) (inner : Loops) (does : Does body names list inner) (apart : is_among names name ≡ false) (there : name < length opening) (within : IsInside nest (name ∷ names)) (holds : Each HoldsVariable inner)
      (around : Around) (v : Valuation) (still : IsStill around (name ∷ names)) (scalars : List ℤ) (state : Here around v scalars) (go : List ℤ → Turn) (goes : (after : List ℤ) → Changes (name ∷ names) scalars after → touches (go after)) where
    open_does : (low : ℤ) (count : ℕ) → Each Known (list around) → touches (looping line (counted count) (variable low step) name body scalars go)
    open_does low count known = looping-touches line (nat_le count most_turns) count (variable low step) name body scalars go
        (repeat_does header.Open name names low step body list inner does apart there within holds around v still known count 0 (λ m less. tt) scalars state go goes)

    -- how far the variable of a literal loop goes
    reaches : (low : ℤ) (b m : ℕ) → m < suc b → Between low (variable low step (suc b - 1)) (variable low step (0 + m))
    reaches low b m less = (m * step, (b - m) * step, ap (λ i. variable low step i) (zero_more m), ap (λ i. variable low step i) (parts b m less) ∙ spreads m (b - m))
      where
        zero_more : (m : ℕ) → 0 + m ≡ m
        zero_more m = omega arith

        parts : (b m : ℕ) → m < suc b → suc b - 1 ≡ m + (b - m)
        parts b m less = omega arith

        spreads : (m d : ℕ) → low +ℤ pos ((m + d) * step) ≡ (low +ℤ pos ((0 + m) * step)) +ℤ pos (d * step)
        spreads m d = omega (arith, ints)

    some_turn : (b : ℕ) → (suc b == 0) ≡ false
    some_turn b = grind arith

    behind_is : (b : ℕ) → turns_behind_first (suc b) ≡ Some (suc b - 1)
    behind_is b = ap (λ t. if t then None else Some (suc b - 1)) (some_turn b)

    closed_does : (low : ℤ) (count : ℕ) → Each Known (turned (turning name low step (turns_behind_first count)) list around) → touches (looping line (counted count) (variable low step) name body scalars go)
    closed_does low zero known = looping-touches line (nat_le zero most_turns) zero (variable low step) name body scalars go (goes scalars (changes_none (name ∷ names) scalars))
    closed_does low (suc b) known =
        let h = header.Turns (record { name = name; low = low; last = variable low step (suc b - 1) }) in
        looping-touches line (nat_le (suc b) most_turns) (suc b) (variable low step) name body scalars go
        (repeat_does h name names low step body list inner does apart there within holds around v still (subst (λ o. Each Known (turned (turning name low step o) list around)) (behind_is b) known) (suc b) 0 (λ m less. (refl, reaches low b m less)) scalars state go goes)

  -- one layer of a loop
  abbrev loop_at : Loop-F Stmt Arm Loop → Effect
  loop_at x = loop_node arrays (map-Loop Stmt Arm Loop Effect Arm_effect Effect (effect arrays) (arm_effect arrays) (loop_effect arrays) x)

  abbrev loop_names_at : Loop-F Stmt Arm Loop → List ℕ
  loop_names_at x = given_loop_node (map-Loop Stmt Arm Loop (List ℕ) (List ℕ) (List ℕ) (given true) (given_in_arm true) (given_in_loop true) x)

  abbrev loop_accesses_at : Loop-F Stmt Arm Loop → Accesses
  loop_accesses_at x = loop_accesses_node program nest (map-Loop Stmt Arm Loop Accesses Accesses Accesses (accesses program nest) (arm_accesses program nest) (loop_accesses program nest) x)

  abbrev loop_loops_at : Loop-F Stmt Arm Loop → Loops
  loop_loops_at x = loops_loop_node (map-Loop Stmt Arm Loop (Stmt × Loops) (Arm × Loops) (Loop × Loops) (λ q. (q, loops q)) (λ q. (q, loops_in_arm q)) (λ q. (q, loops_below q)) x)

  abbrev LoopAt : Loop-F Stmt Arm Loop → Type 0
  LoopAt x = HoldsVariable (roll-Loop x) → Does (loop_at x) (loop_names_at x) (loop_accesses_at x) (loop_loops_at x)

  loop_layer : (y : Loop-F A_stmt An_arm A_loop) → LoopAt (map-Loop A_stmt An_arm A_loop Stmt Arm Loop (λ q. q.0) (λ q. q.0) (λ q. q.0) y)
  loop_layer y holds_own around v scalars state still within holds known go h = by (literal_in (bound_of y.low)) (literal_in (bound_of y.high)) refl refl
    where
      names : List ℕ
      names = names_in y.body

      body : Effect
      body = sequence (map (effect arrays) (statements y.body))

      block : Accesses
      block = accesses_in y.body

      low_reads : List Access
      low_reads = reads program nest y.line around y.low

      high_reads : List Access
      high_reads = reads program nest y.line around y.high

      rest : Header → List Access
      rest head = turned head block around

      held : (list : List Access) → Each Known list → Each (Held program nest P around v state.fits scalars) list
      held list all = all_held around v scalars state list all

      loop_go : ℤ → ℤ → Turn
      loop_go low high = looping y.line (counted (turns low high y.step y.through)) (variable low y.step) y.name body scalars go

      opened : header_of y.name y.low y.high y.through y.step ≡ header.Open → touches (loop_at (map-Loop A_stmt An_arm A_loop Stmt Arm Loop (λ q. q.0) (λ q. q.0) (λ q. q.0) y) scalars go)
      opened e =
          let all : Each Known (low_reads ++ (high_reads ++ rest header.Open)) = subst (λ head. Each Known (low_reads ++ (high_reads ++ rest head))) e known in
          let later = each_right Known low_reads (high_reads ++ rest header.Open) all in
          expr around v scalars state y.low y.line (held low_reads (each_left Known low_reads (high_reads ++ rest header.Open) all)) (λ low. reckoning arrays y.high y.line scalars (loop_go low))
          (λ low is. expr around v scalars state y.high y.line (held high_reads (each_left Known high_reads (rest header.Open) later)) (loop_go low)
          (λ high is. open_does y.line y.name names y.step body block (loops_among y.body) (block_does y.body) holds_own.0 holds_own.1 within holds around v still scalars state go h low (turns low high y.step y.through) (each_right Known high_reads (rest header.Open) later)))

      by : (o o' : Option ℤ) → literal_in (bound_of y.low) ≡ o → literal_in (bound_of y.high) ≡ o' → touches (loop_at (map-Loop A_stmt An_arm A_loop Stmt Arm Loop (λ q. q.0) (λ q. q.0) (λ q. q.0) y) scalars go)
      by None o' is is' = opened (ap (λ o. header_between y.name o (literal_in (bound_of y.high)) y.through y.step) is)
      by (Some low) None is is' = opened (ap (λ o. header_between y.name o (literal_in (bound_of y.high)) y.through y.step) is ∙ ap (λ o. header_between y.name (Some low) o y.through y.step) is')
      by (Some low) (Some high) is is' =
          let head : header_of y.name y.low y.high y.through y.step ≡ turning y.name low y.step (turns_behind_first (turns low high y.step y.through)) = ap (λ o. header_between y.name o (literal_in (bound_of y.high)) y.through y.step) is ∙ ap (λ o. header_between y.name (Some low) o y.through y.step) is' in
          let last : Each Known (rest (header_of y.name y.low y.high y.through y.step)) = each_right Known high_reads (rest (header_of y.name y.low y.high y.through y.step)) (each_right Known low_reads (high_reads ++ rest (header_of y.name y.low y.high y.through y.step)) known) in
          literal_goes arrays P y.low low is y.line scalars (λ x. reckoning arrays y.high y.line scalars (loop_go x))
          (literal_goes arrays P y.high high is' y.line scalars (loop_go low)
          (closed_does y.line y.name names y.step body block (loops_among y.body) (block_does y.body) holds_own.0 holds_own.1 within holds around v still scalars state go h low (turns low high y.step y.through) (subst (λ x. Each Known (rest x)) head last)))

  loop_step : (x : Loop-F Stmt Arm Loop) (y : Loop-F A_stmt An_arm A_loop) → map-Loop A_stmt An_arm A_loop Stmt Arm Loop (λ q. q.0) (λ q. q.0) (λ q. q.0) y ≡ x → LoopIs (roll-Loop x)
  loop_step x y is holds_own =
      by_layers Does (fold-roll-Loop Effect Arm_effect Effect (effect_node arrays) (arm_node arrays) (loop_node arrays) x) (fold-roll-Loop (List ℕ) (List ℕ) (List ℕ) (given_node true) given_arm_node given_loop_node x)
      (fold-roll-Loop Accesses Accesses Accesses (accesses_node program nest) (arm_accesses_node program nest) (loop_accesses_node program nest) x) (para-roll-Loop Loops Loops Loops loops_node loops_arm_node loops_loop_node x) (subst LoopAt is (loop_layer y) holds_own)

  -- one layer of an arm
  abbrev arm_at : Arm-F Stmt Arm Loop → Arm_effect
  arm_at x = arm_node arrays (map-Arm Stmt Arm Loop Effect Arm_effect Effect (effect arrays) (arm_effect arrays) (loop_effect arrays) x)

  abbrev arm_names_at : Arm-F Stmt Arm Loop → List ℕ
  arm_names_at x = given_arm_node (map-Arm Stmt Arm Loop (List ℕ) (List ℕ) (List ℕ) (given true) (given_in_arm true) (given_in_loop true) x)

  abbrev arm_accesses_at : Arm-F Stmt Arm Loop → Accesses
  arm_accesses_at x = arm_accesses_node program nest (map-Arm Stmt Arm Loop Accesses Accesses Accesses (accesses program nest) (arm_accesses program nest) (loop_accesses program nest) x)

  abbrev arm_loops_at : Arm-F Stmt Arm Loop → Loops
  arm_loops_at x = loops_arm_node (map-Arm Stmt Arm Loop (Stmt × Loops) (Arm × Loops) (Loop × Loops) (λ q. (q, loops q)) (λ q. (q, loops_in_arm q)) (λ q. (q, loops_below q)) x)

  abbrev ArmAt : Arm-F Stmt Arm Loop → Type 0
  ArmAt x = ArmDoes (arm_at x) (arm_names_at x) (arm_accesses_at x) (arm_loops_at x)

  arm_layer : (y : Arm-F A_stmt An_arm A_loop) → ArmAt (map-Arm A_stmt An_arm A_loop Stmt Arm Loop (λ q. q.0) (λ q. q.0) (λ q. q.0) y)
  arm_layer y = λ around v scalars state still within holds known otherwise other go h.
      let test = reads program nest y.line around y.test in
      expr around v scalars state y.test y.line (all_held around v scalars state test (each_left Known test (accesses_in y.body around) known)) (λ x. Go (if is_zero x then otherwise else sequence (map (effect arrays) (statements y.body)) scalars go))
      (λ x is. if-touches arrays P (is_zero x) otherwise (sequence (map (effect arrays) (statements y.body)) scalars go) other (block_does y.body around v scalars state still within holds (each_right Known test (accesses_in y.body around) known) go h))

  arm_step : (x : Arm-F Stmt Arm Loop) (y : Arm-F A_stmt An_arm A_loop) → map-Arm A_stmt An_arm A_loop Stmt Arm Loop (λ q. q.0) (λ q. q.0) (λ q. q.0) y ≡ x → ArmIs (roll-Arm x)
  arm_step x y is =
      by_layers ArmDoes (fold-roll-Arm Effect Arm_effect Effect (effect_node arrays) (arm_node arrays) (loop_node arrays) x) (fold-roll-Arm (List ℕ) (List ℕ) (List ℕ) (given_node true) given_arm_node given_loop_node x)
      (fold-roll-Arm Accesses Accesses Accesses (accesses_node program nest) (arm_accesses_node program nest) (loop_accesses_node program nest) x) (para-roll-Arm Loops Loops Loops loops_node loops_arm_node loops_loop_node x) (subst ArmAt is (arm_layer y))

  -- one layer of a statement
  abbrev effect_at : Stmt-F Stmt Arm Loop → Effect
  effect_at x = effect_node arrays (map-Stmt Stmt Arm Loop Effect Arm_effect Effect (effect arrays) (arm_effect arrays) (loop_effect arrays) x)

  abbrev names_at : Stmt-F Stmt Arm Loop → List ℕ
  names_at x = given_node true (map-Stmt Stmt Arm Loop (List ℕ) (List ℕ) (List ℕ) (given true) (given_in_arm true) (given_in_loop true) x)

  abbrev accesses_at : Stmt-F Stmt Arm Loop → Accesses
  accesses_at x = accesses_node program nest (map-Stmt Stmt Arm Loop Accesses Accesses Accesses (accesses program nest) (arm_accesses program nest) (loop_accesses program nest) x)

  abbrev loops_at : Stmt-F Stmt Arm Loop → Loops
  loops_at x = loops_node (map-Stmt Stmt Arm Loop (Stmt × Loops) (Arm × Loops) (Loop × Loops) (λ q. (q, loops q)) (λ q. (q, loops_in_arm q)) (λ q. (q, loops_below q)) x)

  abbrev StmtAt : Stmt-F Stmt Arm Loop → Type 0
  StmtAt x = Does (effect_at x) (names_at x) (accesses_at x) (loops_at x)

  stmt_layer : (y : Stmt-F A_stmt An_arm A_loop) → StmtAt (map-Stmt A_stmt An_arm A_loop Stmt Arm Loop (λ q. q.0) (λ q. q.0) (λ q. q.0) y)
  stmt_layer (Stmt-F.Declare line name e) = λ around v scalars state still within holds known go h.
      expr around v scalars state e line (all_held around v scalars state (reads program nest line around e) known) (λ new. Op (go (with_scalar scalars name new))) (λ new is. h (with_scalar scalars name new) (changes_one name [] scalars new))
  stmt_layer (Stmt-F.Assign line name o e) = λ around v scalars state still within holds known go h.
      expr around v scalars state e line (all_held around v scalars state (reads program nest line around e) known) (λ right. assigning line (operation_of o) (scalar_at scalars name) right (λ new. Op (go (with_scalar scalars name new))))
      (λ right is. assigning-touches line (operation_of o) (scalar_at scalars name) right (λ new. Op (go (with_scalar scalars name new))) (λ new. h (with_scalar scalars name new) (changes_one name [] scalars new)))
  stmt_layer (Stmt-F.Write line name place o e) = λ around v scalars state still within holds known go h.
      let first = reads program nest line around place in let second = reads program nest line around e in let third = changes program nest around name place (operation_of o) line in
      let later = each_right Known first (second ++ third) known in
      expr around v scalars state place line (all_held around v scalars state first (each_left Known first (second ++ third) known)) (λ at. reckoning arrays e line scalars (λ right. inside line (located arrays name at) (λ array n. writing line (operation_of o) array n right (go scalars))))
      (λ at value. expr around v scalars state e line (all_held around v scalars state second (each_left Known second third later)) (λ right. inside line (located arrays name at) (λ array n. writing line (operation_of o) array n right (go scalars)))
      (λ right is. store-touches around v scalars state name place line at value (located arrays name at) (operation_of o) right (go scalars) refl (each_right Known second third later) (h scalars (changes_none [] scalars))))
  stmt_layer (Stmt-F.If arms other) = λ around v scalars state still within holds known go h.
      let first = arm_names arms in let second = names_in other in
      let one = arm_accesses_in arms around in let two = accesses_in other around in
      let last = block_does other around v scalars state (still_second around first second still) (inside_second first second within) (each_right HoldsVariable (arm_loops arms) (loops_among other) holds) (each_right Known one two known) go
      (λ after change. h after (changes_within second (first ++ second) scalars after change (λ name out. out_second first second name out))) in
      arms_do arms (sequence (map (effect arrays) (statements other))) around v scalars state (still_first around first second still) (inside_first first second within) (each_left HoldsVariable (arm_loops arms) (loops_among other) holds) (each_left Known one two known) go
      (λ after change. h after (changes_within first (first ++ second) scalars after change (λ name out. out_first first second name out))) last
  stmt_layer (Stmt-F.Loop l) = λ around v scalars state still within holds known go h. l.1 holds.0 around v scalars state still within holds.1 known go h

  stmt_step : (x : Stmt-F Stmt Arm Loop) (y : Stmt-F A_stmt An_arm A_loop) → map-Stmt A_stmt An_arm A_loop Stmt Arm Loop (λ q. q.0) (λ q. q.0) (λ q. q.0) y ≡ x → StmtDoes (roll-Stmt x)
  stmt_step x y is =
      by_layers Does (fold-roll-Stmt Effect Arm_effect Effect (effect_node arrays) (arm_node arrays) (loop_node arrays) x) (fold-roll-Stmt (List ℕ) (List ℕ) (List ℕ) (given_node true) given_arm_node given_loop_node x)
      (fold-roll-Stmt Accesses Accesses Accesses (accesses_node program nest) (arm_accesses_node program nest) (loop_accesses_node program nest) x) (para-roll-Stmt Loops Loops Loops loops_node loops_arm_node loops_loop_node x) (subst StmtAt is (stmt_layer y))

  stmt_does : (s : Stmt) → StmtDoes s
  stmt_does = ind-Stmt StmtDoes ArmIs LoopIs stmt_step arm_step loop_step

  abbrev paired : List Stmt → List A_stmt
  paired stmts = map (λ s. (s, stmt_does s)) stmts

  pairs_are : (stmts : List Stmt) → statements (paired stmts) ≡ stmts
  pairs_are [] = refl
  pairs_are (s ∷ stmts) = ap (λ rest. s ∷ rest) (pairs_are stmts)

  flat_pairs : (stmts : List Stmt) → flat_map (λ (s : Stmt × Loops). s.1) (map (λ s. (s, loops s)) stmts) ≡ loops_in stmts
  flat_pairs [] = refl
  flat_pairs (s ∷ stmts) = ap (λ rest. loops s ++ rest) (flat_pairs stmts)

  abbrev BlockDoes : List Stmt → Loops → Type 0
  BlockDoes stmts inner = Does (sequence (map (effect arrays) stmts)) (concat (map (given true) stmts)) (all_of (map (accesses program nest) stmts)) inner

  whole_does : (stmts : List Stmt) → BlockDoes stmts (loops_in stmts)
  whole_does stmts = subst (λ inner. BlockDoes stmts inner) (flat_pairs stmts) (subst (λ ss. BlockDoes ss (flat_map (λ (s : Stmt × Loops). s.1) (map (λ s. (s, loops s)) ss))) (pairs_are stmts) (block_does (paired stmts)))

  -- the whole turn, from its opening scalars
  abbrev begun : Valuation
  begun = record { variable = scalar_at opening nest.name; outer = pos 0; inner = pos 0; scalars = numbered }

  begin : Here around.Nothing begun opening
  begin = record { fits = (refl, refl); variable = refl; scheduled = refl; kept = λ name out. refl; has = tt; size = refl }

  pub body_touches : Each HoldsVariable (loops_in nest.body) → Each Known (accesses_of program nest) → touches (sequence (map (effect arrays) nest.body) opening (λ after. Finished))
  body_touches holds known = whole_does nest.body around.Nothing begun opening begin tt (λ name out. out) holds known (λ after. Finished) (λ after change. tt)

-- How walks follow each other, in what they claim, cost and answer.
use Rattle.std.proofs.Common.{◌≡◌, ℕ, suc, ◌+◌, ◌-◌, ◌<◌, ◌≤◌, ℤ, Bool, true, false, Result, Ok, Err, List, [], ◌∷◌, ◌++◌, length, drop, get_or, refl, sym, ap, ◌∙◌, subst, arith, drop-cons, add-one, append-nil}
use Rattle.std.proofs.lemmas.Bool.{true≢false}
use Rattle.std.proofs.lemmas.List.{drop_all}
use Rattle.nest_syntax.specs.declared.tree.Stmt.{Stmt}
use Rattle.nest_syntax.specs.Value.{with_scalar}
use Rattle.claim_walk.specs.Walk.{Step, Passes, Walk, Goes, Stops, Walked, Ends, Traps, Setting, Effect, nothing, meets, trap, behind, branch, steps_before, after, then_do, ends, data_branch, repeat, walk_stmt, walk_block}
use Rattle.addr_slice.specs.declared.slices.Trapped.{Trapped}
use Rattle.addr_slice.specs.Claims.{Claimed, words_of}
use Rattle.addr_slice.specs.Met.{with_step, with_steps, one_more, with_cost, Meets, Walks, Does}

abbrev went_on : Result (Unit {0}) Trapped → Bool
went_on (Ok done) = true
went_on (Err t) = false

ok_not_err : (t : Trapped) (u : Unit {0}) → Ok u ≡ Err t → ⊥
ok_not_err t u is = true≢false (ap went_on is)

module _ (sizes : List ℕ) where
  steps_append : (old : Claimed) (a b : List Step) → with_steps sizes old (a ++ b) ≡ with_steps sizes (with_steps sizes old a) b
  steps_append old [] b = refl
  steps_append old (s ∷ a) b = steps_append (with_step sizes old s) a b

  cost_append : (n : ℕ) (a b : List Step) → with_cost n (a ++ b) ≡ with_cost (with_cost n a) b
  cost_append n [] b = refl
  cost_append n (s ∷ a) b = cost_append (one_more n) a b

  pub meets_none : (old : Claimed) (n : ℕ) → Meets sizes [] old n old n
  meets_none old n = record { claims = refl; cost = refl; room = refl }

  pub meets_then : (a b : List Step) (old : Claimed) (n : ℕ) (mid : Claimed) (k : ℕ) (new : Claimed) (m : ℕ) → Meets sizes a old n mid k → Meets sizes b mid k new m → Meets sizes (a ++ b) old n new m
  meets_then a b old n mid k new m first second = record {
    claims = second.claims ∙ ap (λ c. with_steps sizes c b) first.claims ∙ sym (steps_append old a b);
    cost = second.cost ∙ ap (λ c. with_cost c b) first.cost ∙ sym (cost_append n a b);
    room = second.room ∙ first.room;
  }

  pub walks_nothing : (old : Claimed) (n : ℕ) → Walks sizes nothing (Ok tt) old n old n
  walks_nothing old n = record { answer = refl; meets = meets_none old n }

  pub walks_trap : (t : Trapped) (old : Claimed) (n : ℕ) → Walks sizes trap (Err t) old n old n
  walks_trap t old n = record { answer = refl; meets = meets_none old n }

  pub walks_pass : (old : Claimed) (n m : ℕ) → m ≡ one_more n → Walks sizes (meets Passes) (Ok tt) old n old m
  walks_pass old n m is = record { answer = refl; meets = record { claims = refl; cost = is; room = refl } }

  -- one walk behind another
  module _ (old : Claimed) (n : ℕ) (mid : Claimed) (k : ℕ) where
    pub goes_on : (w v : Walk) (result : Result (Unit {0}) Trapped) (new : Claimed) (m : ℕ) → Walks sizes w (Ok tt) old n mid k → Walks sizes v result mid k new m → Walks sizes (behind w v) result old n new m
    goes_on (Goes a) (Goes b) result new m first second = record { answer = second.answer; meets = meets_then a b old n mid k new m first.meets second.meets }
    goes_on (Goes a) (Stops b) result new m first second = record { answer = second.answer; meets = meets_then a b old n mid k new m first.meets second.meets }
    goes_on (Stops a) v result new m first second = absurd (ok_not_err (record {}) tt first.answer)

    pub stops : (w v : Walk) (t : Trapped) → Walks sizes w (Err t) old n mid k → Walks sizes (behind w v) (Err t) old n mid k
    stops (Goes a) v t first = absurd (ok_not_err t tt (sym first.answer))
    stops (Stops a) v t first = record { answer = first.answer; meets = first.meets }

    pub branches : (w : Walk) (result : Result (Unit {0}) Trapped) → Walks sizes w result old n mid k → Walks sizes (branch w) (Ok tt) old n mid k
    branches (Goes a) result first = record { answer = refl; meets = first.meets }
    branches (Stops a) result first = record { answer = refl; meets = first.meets }

    pub does_then : (w : Walk) (next : Effect) (known known' : List ℤ) (result : Result (Unit {0}) Trapped) (new : Claimed) (m : ℕ)
        → Walks sizes w (Ok tt) old n mid k → Does sizes (next known) result known' mid k new m → Does sizes (after w next known) result known' old n new m
    does_then (Goes a) next known known' result new m first second = by_next (next known) second
      where
        by_next : (d : Walked) → Does sizes d result known' mid k new m → Does sizes (steps_before a d) result known' old n new m
        by_next (Ends b later) second = record { answer = second.answer; knows = second.knows; meets = meets_then a b old n mid k new m first.meets second.meets }
        by_next (Traps b later) second = record { answer = second.answer; knows = second.knows; meets = meets_then a b old n mid k new m first.meets second.meets }
    does_then (Stops a) next known known' result new m first second = absurd (ok_not_err (record {}) tt first.answer)

    pub does_stop : (w : Walk) (next : Effect) (known : List ℤ) (t : Trapped) → Walks sizes w (Err t) old n mid k → Does sizes (after w next known) (Err t) known old n mid k
    does_stop (Goes a) next known t first = absurd (ok_not_err t tt (sym first.answer))
    does_stop (Stops a) next known t first = record { answer = first.answer; knows = refl; meets = first.meets }

    pub does_end : (w : Walk) (known : List ℤ) (result : Result (Unit {0}) Trapped) → Walks sizes w result old n mid k → Does sizes (after w ends known) result known old n mid k
    does_end (Goes a) known result first = record { answer = first.answer; knows = refl; meets = subst (λ steps. Meets sizes steps old n mid k) (sym (append-nil a)) first.meets }
    does_end (Stops a) known result first = record { answer = first.answer; knows = refl; meets = first.meets }

    -- one statement behind another
    pub does_on : (w : Walked) (next : Effect) (known known' : List ℤ) (result : Result (Unit {0}) Trapped) (new : Claimed) (m : ℕ)
        → Does sizes w (Ok tt) known old n mid k → Does sizes (next known) result known' mid k new m → Does sizes (then_do w next) result known' old n new m
    does_on (Ends a known₁) next known known' result new m first second = by_next (next known₁) (subst (λ s. Does sizes (next s) result known' mid k new m) first.knows second)
      where
        by_next : (d : Walked) → Does sizes d result known' mid k new m → Does sizes (steps_before a d) result known' old n new m
        by_next (Ends b later) second = record { answer = second.answer; knows = second.knows; meets = meets_then a b old n mid k new m first.meets second.meets }
        by_next (Traps b later) second = record { answer = second.answer; knows = second.knows; meets = meets_then a b old n mid k new m first.meets second.meets }
    does_on (Traps a known₁) next known known' result new m first second = absurd (ok_not_err (record {}) tt first.answer)

    pub does_off : (w : Walked) (next : Effect) (known : List ℤ) (t : Trapped) → Does sizes w (Err t) known old n mid k → Does sizes (then_do w next) (Err t) known old n mid k
    does_off (Ends a known₁) next known t first = absurd (ok_not_err t tt (sym first.answer))
    does_off (Traps a known₁) next known t first = record { answer = first.answer; knows = first.knows; meets = first.meets }

    pub does_branch : (w : Walked) (known : List ℤ) (result : Result (Unit {0}) Trapped) → Does sizes w result known old n mid k → Does sizes (data_branch w) (Ok tt) known old n mid k
    does_branch (Ends a known₁) known result first = record { answer = refl; knows = first.knows; meets = first.meets }
    does_branch (Traps a known₁) known result first = record { answer = refl; knows = first.knows; meets = first.meets }

  pub does_nothing : (known : List ℤ) (old : Claimed) (n : ℕ) → Does sizes (Ends [] known) (Ok tt) known old n old n
  does_nothing known old n = record { answer = refl; knows = refl; meets = meets_none old n }

  pub does_trap : (t : Trapped) (known : List ℤ) (old : Claimed) (n : ℕ) → Does sizes (Traps [] known) (Err t) known old n old n
  does_trap t known old n = record { answer = refl; knows = refl; meets = meets_none old n }

  -- How far a list of statements, or the turns of a loop, have come: whatever the rest does from here, the whole does.
  abbrev pub IsLeft : Effect → Effect → List ℤ → Claimed → ℕ → List ℤ → Claimed → ℕ → Type 0
  IsLeft whole rest s₀ c₀ n₀ s c n = (result : Result (Unit {0}) Trapped) (s' : List ℤ) (c' : Claimed) (n' : ℕ) → Does sizes (rest s) result s' c n c' n' → Does sizes (whole s₀) result s' c₀ n₀ c' n'

  -- the same, and the room is as it was
  pub record AreLeft (whole rest : Effect) (s₀ : List ℤ) (c₀ : Claimed) (n₀ : ℕ) (s : List ℤ) (c : Claimed) (n : ℕ) : Type 0 where
    pub left : IsLeft whole rest s₀ c₀ n₀ s c n
    pub room : words_of c ≡ words_of c₀

  pub all_left : (whole : Effect) (s : List ℤ) (c : Claimed) (n : ℕ) → AreLeft whole whole s c n s c n
  all_left whole s c n = record { left = λ result s' c' n' d. d; room = refl }

  module _ (set : Setting) (stmts : List Stmt) where
    abbrev pub block_from : ℕ → Effect
    block_from i = walk_block set (drop i stmts)

    module _ (i : ℕ) (there : i < length stmts) (here : Stmt) (is : here ≡ get_or stmts i here) (s₀ : List ℤ) (c₀ : Claimed) (n₀ : ℕ) (s : List ℤ) (c : Claimed) (n : ℕ)
        (left : AreLeft (walk_block set stmts) (block_from i) s₀ c₀ n₀ s c n) (s' : List ℤ) (c' : Claimed) (n' : ℕ) where
      block_from-is : block_from i s ≡ then_do (walk_stmt set here s) (block_from (i + 1))
      block_from-is = ap (λ rest. walk_block set rest s) (drop-cons stmts i here there)
          ∙ ap (λ x. then_do (walk_stmt set x s) (walk_block set (drop (suc i) stmts))) (sym is)
          ∙ ap (λ k. then_do (walk_stmt set here s) (walk_block set (drop k stmts))) (sym (add-one i))

      pub block_goes : Does sizes (walk_stmt set here s) (Ok tt) s' c n c' n' → AreLeft (walk_block set stmts) (block_from (i + 1)) s₀ c₀ n₀ s' c' n'
      block_goes did = record {
        left = λ result t d m rest. left.left result t d m (subst (λ w. Does sizes w result t c n d m) (sym block_from-is) (does_on c n c' n' (walk_stmt set here s) (block_from (i + 1)) s' t result d m did rest));
        room = did.meets.room ∙ left.room;
      }

      pub block_stops : (t : Trapped) → Does sizes (walk_stmt set here s) (Err t) s' c n c' n' → Does sizes (walk_block set stmts s₀) (Err t) s' c₀ n₀ c' n'
      block_stops t did = left.left (Err t) s' c' n' (subst (λ w. Does sizes w (Err t) s' c n c' n') (sym block_from-is) (does_off c n c' n' (walk_stmt set here s) (block_from (i + 1)) s' t did))

    pub block_ends : (i : ℕ) (s₀ : List ℤ) (c₀ : Claimed) (n₀ : ℕ) (s : List ℤ) (c : Claimed) (n : ℕ) → length stmts ≤ i
        → AreLeft (walk_block set stmts) (block_from i) s₀ c₀ n₀ s c n → Does sizes (walk_block set stmts s₀) (Ok tt) s c₀ n₀ c n
    block_ends i s₀ c₀ n₀ s c n over left = left.left (Ok tt) s c n (subst (λ rest. Does sizes (walk_block set rest s) (Ok tt) s c n c n) (sym (drop_all i stmts over)) (does_nothing s c n))

  -- turns of a loop, count in all, from turn k on
  module _ (set : Setting) (count : ℕ) (variable_in : ℕ → ℤ) (name : ℕ) (body : List Stmt) where
    abbrev pub all_turns : Effect
    all_turns = repeat count 0 variable_in name (walk_block set body)

    abbrev pub turns_from : ℕ → Effect
    turns_from k = repeat (count - k) k variable_in name (walk_block set body)

    pub turns_begin : (s : List ℤ) (c : Claimed) (n : ℕ) → AreLeft all_turns (turns_from 0) s c n s c n
    turns_begin s c n = let all : count - 0 ≡ count = omega arith in
        subst (λ l. AreLeft all_turns (repeat l 0 variable_in name (walk_block set body)) s c n s c n) (sym all) (all_left all_turns s c n)

    module _ (k : ℕ) (there : k < count) (s₀ : List ℤ) (c₀ : Claimed) (n₀ : ℕ) (s : List ℤ) (c : Claimed) (n : ℕ) (left : AreLeft all_turns (turns_from k) s₀ c₀ n₀ s c n) (s' : List ℤ) (c' : Claimed) (n' : ℕ) where
      turns_from-is : turns_from k s ≡ then_do (walk_block set body (with_scalar s name (variable_in k))) (after (meets Passes) (turns_from (k + 1)))
      turns_from-is =
          let left : count - k ≡ suc (count - (k + 1)) = omega arith in
          ap (λ l. repeat l k variable_in name (walk_block set body) s) left
          ∙ ap (λ j. then_do (walk_block set body (with_scalar s name (variable_in k))) (after (meets Passes) (repeat (count - (k + 1)) j variable_in name (walk_block set body)))) (sym (add-one k))

      pub turn_goes : (m : ℕ) → Does sizes (walk_block set body (with_scalar s name (variable_in k))) (Ok tt) s' c n c' n' → m ≡ one_more n' → AreLeft all_turns (turns_from (k + 1)) s₀ c₀ n₀ s' c' m
      turn_goes m did passed = record {
        left = λ result t d p rest. left.left result t d p (subst (λ w. Does sizes w result t c n d p) (sym turns_from-is)
            (does_on c n c' n' (walk_block set body (with_scalar s name (variable_in k))) (after (meets Passes) (turns_from (k + 1))) s' t result d p did
            (does_then c' n' c' m (meets Passes) (turns_from (k + 1)) s' t result d p (walks_pass c' n' m passed) rest)));
        room = did.meets.room ∙ left.room;
      }

      pub turn_stops : (t : Trapped) → Does sizes (walk_block set body (with_scalar s name (variable_in k))) (Err t) s' c n c' n' → Does sizes (all_turns s₀) (Err t) s' c₀ n₀ c' n'
      turn_stops t did = left.left (Err t) s' c' n' (subst (λ w. Does sizes w (Err t) s' c n c' n') (sym turns_from-is)
          (does_off c n c' n' (walk_block set body (with_scalar s name (variable_in k))) (after (meets Passes) (turns_from (k + 1))) s' t did))

    pub turns_end : (k : ℕ) (s₀ : List ℤ) (c₀ : Claimed) (n₀ : ℕ) (s : List ℤ) (c : Claimed) (n : ℕ) → count ≤ k → AreLeft all_turns (turns_from k) s₀ c₀ n₀ s c n → Does sizes (all_turns s₀) (Ok tt) s c₀ n₀ c n
    turns_end k s₀ c₀ n₀ s c n over left =
        let none : count - k ≡ 0 = omega arith in
        left.left (Ok tt) s c n (subst (λ l. Does sizes (repeat l k variable_in name (walk_block set body) s) (Ok tt) s c n c n) (sym none) (does_nothing s c n))

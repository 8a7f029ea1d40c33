-- The arms of an `if`, one behind the other. Behind a test that isn't known all that follows is a data branch, so that the
-- whole goes on however the rest ends.
use Rattle.std.proofs.Common.{◌≡◌, ℕ, suc, ◌+◌, ◌<◌, ◌≤◌, ℤ, Bool, true, false, if◌then◌else◌, Option, Some, None, Result, Ok, Err, List, ◌∷◌, map, length, drop, get_or, refl, sym, ap, ◌∙◌, subst, drop-cons, add-one}
use Rattle.std.proofs.lemmas.List.{drop_all}
use Rattle.nest_syntax.specs.declared.tree.Arm.{Arm}
use Rattle.nest_syntax.specs.declared.tree.Stmt.{Stmt}
use Rattle.claim_walk.specs.Walk.{Passes, Setting, Effect, meets, walk, after, tried, choose, walk_arm, walk_block}
use Rattle.addr_slice.specs.declared.slices.Trapped.{Trapped}
use Rattle.addr_slice.specs.declared.slices.Told.{Told}
use Rattle.addr_slice.specs.declared.slices.Told.TheVariants as told
use Rattle.addr_slice.specs.Claims.{Claimed, words_of}
use Rattle.addr_slice.specs.Met.{one_more, Walks, Does, told_of, in_branch, Branches, Tries}
use Rattle.addr_slice.proofs.Meeting.{walks_pass, does_then, does_stop}
use Rattle.addr_slice.proofs.Walking.{arms_first, tried_holds, tried_fails, tried_traps, tried_both}

module _ (sizes : List ℕ) (set : Setting) (arms : List Arm) (other : Effect) where
  abbrev pub arms_from : ℕ → Effect
  arms_from i known = choose set (map (walk_arm set) (drop i arms)) other known

  abbrev pub all_arms : Effect
  all_arms known = choose set (map (walk_arm set) arms) other known

  -- how far the arms have come: whatever the rest does from here, the whole does
  pub record AreArmsLeft (s₀ : List ℤ) (c₀ : Claimed) (n₀ : ℕ) (is_data : Bool) (i : ℕ) (s : List ℤ) (c : Claimed) (n : ℕ) : Type 0 where
    pub left : (result : Result (Unit {0}) Trapped) (s' : List ℤ) (c' : Claimed) (n' : ℕ) → Does sizes (arms_from i s) result s' c n c' n' → Does sizes (all_arms s₀) (in_branch is_data result) s' c₀ n₀ c' n'
    pub room : words_of c ≡ words_of c₀

  pub arms_begin : (s : List ℤ) (c : Claimed) (n : ℕ) (is_data : Bool) → is_data ≡ false → AreArmsLeft s c n is_data 0 s c n
  arms_begin s c n is_data is = subst (λ b. AreArmsLeft s c n b 0 s c n) (sym is) (record { left = λ result s' c' n' does. does; room = refl })

  module _ (i : ℕ) (there : i < length arms) (here : Arm) (is : here ≡ get_or arms i here) (s₀ : List ℤ) (c₀ : Claimed) (n₀ : ℕ) (is_data : Bool) (s : List ℤ) (c : Claimed) (n : ℕ) (left : AreArmsLeft s₀ c₀ n₀ is_data i s c n) (mid : Claimed) (k : ℕ) where
    abbrev next : Effect
    next = tried set here.test (walk_block set here.body) (arms_from (i + 1))

    arms_from-is : arms_from i s ≡ after (walk set s here.test) (after (meets Passes) next) s
    arms_from-is = ap (λ rest. choose set (map (walk_arm set) rest) other s) (drop-cons arms i here there)
        ∙ ap (λ (a : Arm). choose set (map (walk_arm set) (a ∷ drop (suc i) arms)) other s) (sym is)
        ∙ arms_first set here (drop (suc i) arms) other s
        ∙ ap (λ j. after (walk set s here.test) (after (meets Passes) (tried set here.test (walk_block set here.body) (arms_from j))) s) (sym (add-one i))

    pub arm_stops : (t : Trapped) → Walks sizes (walk set s here.test) (Err t) c n mid k → Does sizes (all_arms s₀) (in_branch is_data (Err t)) s c₀ n₀ mid k
    arm_stops t walks = left.left (Err t) s mid k (subst (λ w. Does sizes w (Err t) s c n mid k) (sym arms_from-is) (does_stop sizes c n mid k (walk set s here.test) (after (meets Passes) next) s t walks))

    module _ (walked : Walks sizes (walk set s here.test) (Ok tt) c n mid k) (j : ℕ) (passed : j ≡ one_more k) where
      behind_test : (result : Result (Unit {0}) Trapped) (s' : List ℤ) (c' : Claimed) (n' : ℕ) → Does sizes (next s) result s' mid j c' n' → Does sizes (arms_from i s) result s' c n c' n'
      behind_test result s' c' n' does = subst (λ w. Does sizes w result s' c n c' n') (sym arms_from-is)
          (does_then sizes c n mid k (walk set s here.test) (after (meets Passes) next) s s' result c' n' walked
          (does_then sizes mid k mid j (meets Passes) next s s' result c' n' (walks_pass sizes mid k j passed) does))

      pub arm_taken : told.Holds ≡ told_of set s here.test → (result : Result (Unit {0}) Trapped) (s' : List ℤ) (c' : Claimed) (n' : ℕ) → Does sizes (walk_block set here.body s) result s' mid j c' n' → Does sizes (all_arms s₀) (in_branch is_data result) s' c₀ n₀ c' n'
      arm_taken holds result s' c' n' does = left.left result s' c' n' (behind_test result s' c' n' (tried_holds set s here.test sizes (walk_block set here.body) (arms_from (i + 1)) s' mid j c' n' holds result does))

      pub arm_traps : told.Traps ≡ told_of set s here.test → (t : Trapped) → Does sizes (all_arms s₀) (in_branch is_data (Err t)) s c₀ n₀ mid j
      arm_traps traps t = left.left (Err t) s mid j (behind_test (Err t) s mid j (tried_traps set s here.test sizes (walk_block set here.body) (arms_from (i + 1)) t mid j traps))

      pub arm_fails : told.Fails ≡ told_of set s here.test → AreArmsLeft s₀ c₀ n₀ is_data (i + 1) s mid j
      arm_fails fails = record {
        left = λ result s' c' n' does. left.left result s' c' n' (behind_test result s' c' n' (tried_fails set s here.test sizes (walk_block set here.body) (arms_from (i + 1)) s' mid j c' n' fails result does));
        room = walked.meets.room ∙ left.room;
      }

      pub arm_branches : told.Unknown ≡ told_of set s here.test → (result : Result (Unit {0}) Trapped) (s₁ : List ℤ) (c₁ : Claimed) (n₁ : ℕ) → Does sizes (walk_block set here.body s) result s₁ mid j c₁ n₁ → AreArmsLeft s₀ c₀ n₀ true (i + 1) s₁ c₁ n₁
      arm_branches unknown result s₁ c₁ n₁ first = record {
        left = λ ended s' c' n' does. as_ok is_data s' c' n' (left.left (Ok tt) s' c' n' (behind_test (Ok tt) s' c' n' (tried_both set s here.test sizes (walk_block set here.body) (arms_from (i + 1)) mid j c₁ n₁ c' n' result ended s₁ s' unknown first does)));
        room = first.meets.room ∙ walked.meets.room ∙ left.room;
      }
        where
          as_ok : (b : Bool) (s' : List ℤ) (c' : Claimed) (n' : ℕ) → Does sizes (all_arms s₀) (if b then Ok tt else Ok tt) s' c₀ n₀ c' n' → Does sizes (all_arms s₀) (Ok tt) s' c₀ n₀ c' n'
          as_ok true s' c' n' does = does
          as_ok false s' c' n' does = does

      pub arm_passes : (t : Told) → t ≡ told_of set s here.test → (t ≡ told.Holds → ⊥) → (t ≡ told.Traps → ⊥) → (is_data' : Bool) (s₁ : List ℤ) (c₁ : Claimed) (n₁ : ℕ) → Branches sizes t (walk_block set here.body s) is_data is_data' s s₁ mid j c₁ n₁ → AreArmsLeft s₀ c₀ n₀ is_data' (i + 1) s₁ c₁ n₁
      arm_passes told.Holds known holds traps is_data' s₁ c₁ n₁ passes = absurd (holds refl)
      arm_passes told.Traps known holds traps is_data' s₁ c₁ n₁ passes = absurd (traps refl)
      arm_passes told.Fails known holds traps is_data' s₁ c₁ n₁ passes =
          subst (λ b. AreArmsLeft s₀ c₀ n₀ b (i + 1) s₁ c₁ n₁) (sym passes.0)
          (subst (λ x. AreArmsLeft s₀ c₀ n₀ is_data (i + 1) x c₁ n₁) (sym passes.1)
          (subst (λ x. AreArmsLeft s₀ c₀ n₀ is_data (i + 1) s x n₁) (sym passes.2)
          (subst (λ x. AreArmsLeft s₀ c₀ n₀ is_data (i + 1) s mid x) (sym passes.3) (arm_fails known))))
      arm_passes told.Unknown known holds traps is_data' s₁ c₁ n₁ passes =
          subst (λ b. AreArmsLeft s₀ c₀ n₀ b (i + 1) s₁ c₁ n₁) (sym passes.2) (arm_branches known passes.0 s₁ c₁ n₁ passes.1)

  pub arms_end : (i : ℕ) (s₀ : List ℤ) (c₀ : Claimed) (n₀ : ℕ) (is_data : Bool) (s : List ℤ) (c : Claimed) (n : ℕ) → length arms ≤ i → AreArmsLeft s₀ c₀ n₀ is_data i s c n
      → (result : Result (Unit {0}) Trapped) (s' : List ℤ) (c' : Claimed) (n' : ℕ) → Does sizes (other s) result s' c n c' n' → Does sizes (all_arms s₀) (in_branch is_data result) s' c₀ n₀ c' n'
  arms_end i s₀ c₀ n₀ is_data s c n over left result s' c' n' does = left.left result s' c' n' (subst (λ rest. Does sizes (choose set (map (walk_arm set) rest) other s) result s' c n c' n') (sym (drop_all i arms over)) does)

-- an `if` whose arms were tried
module _ (sizes : List ℕ) (set : Setting) (arms given : List Arm) (is : given ≡ arms) (s₀ : List ℤ) (c₀ : Claimed) (n₀ : ℕ) (is_data : Bool) (s : List ℤ) (c : Claimed) (n : ℕ) where
  abbrev Tried : Option (Result (Unit {0}) Trapped) → Type 0
  Tried decided = (other : Effect) → Tries sizes (choose set (map (walk_arm set) given) other s₀) other decided is_data s c₀ n₀ c n

  pub if_decided : (ended : Result (Unit {0}) Trapped) → Tried (Some ended) → (other : List Stmt) → Does sizes (choose set (map (walk_arm set) arms) (walk_block set other) s₀) (in_branch is_data ended) s c₀ n₀ c n
  if_decided ended tries other = subst (λ a. Does sizes (choose set (map (walk_arm set) a) (walk_block set other) s₀) (in_branch is_data ended) s c₀ n₀ c n) is (tries (walk_block set other))

  pub if_left : (block other : List Stmt) → block ≡ other → Tried None → (ended : Result (Unit {0}) Trapped) (s' : List ℤ) (c' : Claimed) (n' : ℕ) → Does sizes (walk_block set block s) ended s' c n c' n'
      → Does sizes (choose set (map (walk_arm set) arms) (walk_block set other) s₀) (in_branch is_data ended) s' c₀ n₀ c' n'
  if_left block other same tries ended s' c' n' does =
      subst (λ b. Does sizes (choose set (map (walk_arm set) arms) (walk_block set b) s₀) (in_branch is_data ended) s' c₀ n₀ c' n') same
      (subst (λ a. Does sizes (choose set (map (walk_arm set) a) (walk_block set block) s₀) (in_branch is_data ended) s' c₀ n₀ c' n') is
      ((tries (walk_block set block)).1 ended s' c' n' does))

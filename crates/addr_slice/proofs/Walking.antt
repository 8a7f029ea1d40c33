-- The code that walks: what each of its calls meets.
use Rattle.std.proofs.Common.{◌≡◌, ◌≢◌, ℕ, ℤ, pos, Bool, true, false, nat_lt, if◌then◌else◌, Option, Some, None, Result, Ok, Err, List, [], ◌∷◌, map, refl, sym, ap, ◌∙◌, subst, arith, append-nil}
use Rattle.std.specs.Prelude.{is_err}
use Rattle.std.proofs.lemmas.Bool.{ltb-false}
use Rattle.std.proofs.lemmas.List.{length-set}
use Rattle.std.specs.Option.{option_map, option_map_or, option_and_then}
use Rattle.nest_syntax.specs.declared.names.Line.{Line}
use Rattle.nest_syntax.specs.declared.operators.Bin.{Bin}
use Rattle.nest_syntax.specs.declared.operators.Bin.TheVariants as bin
use Rattle.nest_syntax.specs.declared.operators.Un.{Un}
use Rattle.nest_syntax.specs.declared.operators.Op.{Op as Change}
use Rattle.nest_syntax.specs.declared.operators.Op.TheVariants as op
use Rattle.nest_syntax.specs.declared.operators.Cause.{Cause}
use Rattle.nest_syntax.specs.declared.tree.Expr.{Expr}
use Rattle.nest_syntax.specs.declared.tree.Expr.TheVariants as expr
use Rattle.nest_syntax.specs.declared.tree.Arm.{Arm}
use Rattle.nest_syntax.specs.declared.tree.Stmt.{Stmt}
use Rattle.nest_syntax.specs.declared.tree.Stmt.TheVariants as stmt
use Rattle.nest_syntax.specs.declared.tree.Loop.{Loop}
use Rattle.nest_syntax.specs.Words.{is_zero, counted, turns, variable, operation_of, assigned}
use Rattle.nest_syntax.specs.Arrays.{array_of, sizes_of, place_in, place_of, word_number}
use Rattle.nest_syntax.specs.Value.{and_then, is_written, scalar_at, with_scalar}
use Rattle.word_store.specs.Memory.{number_at}
use Rattle.claim_walk.specs.Walk.{Step, Passes, Sweeps, Walk, Goes, Stops, Walked, Ends, Traps, Setting, Effect, nothing, meets, met, trap, behind, branch, operation, by_value, decided, touch, sweep, at_place, anywhere, access, operated, walk, after, then_do, ends, data_branch, assigning, given, assign, write, by_test, tried, choose, looped, turned, repeat, is_slice, value_of, walk_stmt, walk_arm, walk_loop, walk_block}
use Rattle.claim_walk.proofs.Equations.{walk-number, walk-scalar, walk-word, walk-unary, walk-binary, walk-choice, walk-declare, walk-assign, walk-write, walk-if, walk-loop, walk_arm-is, walk_loop-is}
use Rattle.addr_slice.specs.declared.slices.Trapped.{Trapped}
use Rattle.addr_slice.specs.declared.slices.Told.{Told}
use Rattle.addr_slice.specs.declared.slices.Told.TheVariants as told
use Rattle.addr_slice.specs.Claims.{Claimed, words_of, with_claim}
use Rattle.addr_slice.specs.Met.{with_steps, one_more, with_cost, Meets, Walks, Does, told_by, told_of, if_holds, flipped, operation_on}
use Rattle.addr_slice.proofs.Meeting.{walks_trap, walks_pass, goes_on, does_then, does_stop, does_on, does_branch, does_trap}

-- A test, by what is known of it.
module _ (set : Setting) (known : List ℤ) (test : Expr) where
  abbrev by_told : Told → Walk → Walk → Walk
  by_told told.Holds a b = a
  by_told told.Fails a b = b
  by_told told.Traps a b = trap
  by_told told.Unknown a b = behind (branch a) (branch b)

  decided_told : (a b : Walk) → decided set known test a b ≡ by_told (told_of set known test) a b
  decided_told a b = by (is_slice set test)
    where
      with_value : (r : Result ℤ Cause) → by_value r a b ≡ by_told (told_by r) a b
      with_value (Ok v) = zero_or (is_zero v)
        where
          zero_or : (z : Bool) → (if z then b else a) ≡ by_told (if z then told.Fails else told.Holds) a b
          zero_or true = refl
          zero_or false = refl
      with_value (Err cause) = refl

      by : (slice : Bool) → (if slice then by_value (value_of set known test) a b else behind (branch a) (branch b)) ≡ by_told (if slice then told_by (value_of set known test) else told.Unknown) a b
      by true = with_value (value_of set known test)
      by false = refl

  -- a choice behind a test is one part behind the other, each where it counts
  parted : (t : Told) (a b : Walk) → by_told t a b ≡ behind (if_holds t a) (if_holds (flipped t) b)
  parted told.Holds (Goes steps) b = ap Goes (sym (append-nil steps))
  parted told.Holds (Stops steps) b = refl
  parted told.Fails a (Goes steps) = refl
  parted told.Fails a (Stops steps) = refl
  parted told.Traps a b = refl
  parted told.Unknown a b = refl

  first_alone : (t : Told) (a : Walk) → by_told t a nothing ≡ if_holds t a
  first_alone told.Holds a = refl
  first_alone told.Fails a = refl
  first_alone told.Traps a = refl
  first_alone told.Unknown a = ap Goes (append-nil (met a))

  second_alone : (t : Told) (b : Walk) → by_told t nothing b ≡ if_holds (flipped t) b
  second_alone told.Holds b = refl
  second_alone told.Fails b = refl
  second_alone told.Traps b = refl
  second_alone told.Unknown b = refl

  module _ (sizes : List ℕ) (t : Told) (is : t ≡ told_of set known test) (result : Result (Unit {0}) Trapped) (old : Claimed) (n : ℕ) (new : Claimed) (m : ℕ) where
    decided_as : (a b w : Walk) → by_told t a b ≡ w → Walks sizes w result old n new m → Walks sizes (decided set known test a b) result old n new m
    decided_as a b w same walks = subst (λ v. Walks sizes v result old n new m) (sym same ∙ ap (λ u. by_told u a b) is ∙ sym (decided_told a b)) walks

    pub decided_both : (a b : Walk) → Walks sizes (behind (if_holds t a) (if_holds (flipped t) b)) result old n new m → Walks sizes (decided set known test a b) result old n new m
    decided_both a b walks = decided_as a b _ (parted t a b) walks

    pub decided_first : (a : Walk) → Walks sizes (if_holds t a) result old n new m → Walks sizes (decided set known test a nothing) result old n new m
    decided_first a walks = decided_as a nothing _ (first_alone t a) walks

    pub decided_second : (b : Walk) → Walks sizes (if_holds (flipped t) b) result old n new m → Walks sizes (decided set known test nothing b) result old n new m
    decided_second b walks = decided_as nothing b _ (second_alone t b) walks

  -- the same of statements
  abbrev by_told_effect : Told → Effect → Effect → Effect
  by_told_effect told.Holds a b later = a later
  by_told_effect told.Fails a b later = b later
  by_told_effect told.Traps a b later = Traps [] later
  by_told_effect told.Unknown a b later = then_do (data_branch (a later)) (λ s. data_branch (b s))

  tried_told : (a b : Effect) → tried set test a b known ≡ by_told_effect (told_of set known test) a b known
  tried_told a b = by (is_slice set test)
    where
      with_value : (r : Result ℤ Cause) → by_test r a b known ≡ by_told_effect (told_by r) a b known
      with_value (Ok v) = zero_or (is_zero v)
        where
          zero_or : (z : Bool) → (if z then b known else a known) ≡ by_told_effect (if z then told.Fails else told.Holds) a b known
          zero_or true = refl
          zero_or false = refl
      with_value (Err cause) = refl

      by : (slice : Bool) → (if slice then by_test (value_of set known test) a b known else then_do (data_branch (a known)) (λ s. data_branch (b s))) ≡ by_told_effect (if slice then told_by (value_of set known test) else told.Unknown) a b known
      by true = with_value (value_of set known test)
      by false = refl

  module _ (sizes : List ℕ) (a b : Effect) (known' : List ℤ) (old : Claimed) (n : ℕ) (new : Claimed) (m : ℕ) where
    tried_as : (t : Told) → t ≡ told_of set known test → (result : Result (Unit {0}) Trapped) → Does sizes (by_told_effect t a b known) result known' old n new m → Does sizes (tried set test a b known) result known' old n new m
    tried_as t is result does = subst (λ w. Does sizes w result known' old n new m) (ap (λ t. by_told_effect t a b known) is ∙ sym (tried_told a b)) does

    pub tried_holds : told.Holds ≡ told_of set known test → (result : Result (Unit {0}) Trapped) → Does sizes (a known) result known' old n new m → Does sizes (tried set test a b known) result known' old n new m
    tried_holds is result does = tried_as told.Holds is result does

    pub tried_fails : told.Fails ≡ told_of set known test → (result : Result (Unit {0}) Trapped) → Does sizes (b known) result known' old n new m → Does sizes (tried set test a b known) result known' old n new m
    tried_fails is result does = tried_as told.Fails is result does

  pub tried_traps : (sizes : List ℕ) (a b : Effect) (t : Trapped) (old : Claimed) (n : ℕ) → told.Traps ≡ told_of set known test → Does sizes (tried set test a b known) (Err t) known old n old n
  tried_traps sizes a b t old n is = tried_as sizes a b known old n old n told.Traps is (Err t) (does_trap sizes t known old n)

  pub tried_both : (sizes : List ℕ) (a b : Effect) (old : Claimed) (n : ℕ) (mid : Claimed) (k : ℕ) (new : Claimed) (m : ℕ) (r s : Result (Unit {0}) Trapped) (known₁ known₂ : List ℤ) → told.Unknown ≡ told_of set known test
      → Does sizes (a known) r known₁ old n mid k → Does sizes (b known₁) s known₂ mid k new m → Does sizes (tried set test a b known) (Ok tt) known₂ old n new m
  tried_both sizes a b old n mid k new m r s known₁ known₂ is first second = tried_as sizes a b known₂ old n new m told.Unknown is (Ok tt)
      (does_on sizes old n mid k (data_branch (a known)) (λ s. data_branch (b s)) known₁ known₂ (Ok tt) new m (does_branch sizes old n mid k (a known) known₁ r first) (does_branch sizes mid k new m (b known₁) known₂ s second))

-- A walk that is behind a pause.
pub passes_on : (sizes : List ℕ) (old : Claimed) (n k : ℕ) (w : Walk) (result : Result (Unit {0}) Trapped) (new : Claimed) (m : ℕ) → k ≡ one_more n → Walks sizes w result old k new m → Walks sizes (behind (meets Passes) w) result old n new m
passes_on sizes old n k w result new m passed walks = goes_on sizes old n old k (meets Passes) w result new m (walks_pass sizes old n k passed) walks

-- a pause behind a walk
pub walks_on : (sizes : List ℕ) (w : Walk) (old : Claimed) (n : ℕ) (new : Claimed) (m p : ℕ) → Walks sizes w (Ok tt) old n new m → p ≡ one_more m → Walks sizes (behind w (meets Passes)) (Ok tt) old n new p
walks_on sizes w old n new m p walks passed = goes_on sizes old n new m w (meets Passes) (Ok tt) new p walks (walks_pass sizes new m p passed)

-- An operation other than `&&` and `||`.
pub operated_plain : (set : Setting) (known : List ℤ) (o : Bin) (left : Expr) (right : Expr × Walk) → o ≢ bin.Both → o ≢ bin.Either → operated set known o left right ≡ behind right.1 (operation (operation_on set known o left right.0))
operated_plain set known bin.Add left right a b = refl
operated_plain set known bin.Sub left right a b = refl
operated_plain set known bin.Mul left right a b = refl
operated_plain set known bin.Div left right a b = refl
operated_plain set known bin.Rem left right a b = refl
operated_plain set known bin.Shl left right a b = refl
operated_plain set known bin.Shr left right a b = refl
operated_plain set known bin.And left right a b = refl
operated_plain set known bin.Xor left right a b = refl
operated_plain set known bin.Or left right a b = refl
operated_plain set known bin.Less left right a b = refl
operated_plain set known bin.LessEq left right a b = refl
operated_plain set known bin.More left right a b = refl
operated_plain set known bin.MoreEq left right a b = refl
operated_plain set known bin.Equal left right a b = refl
operated_plain set known bin.NotEqual left right a b = refl
operated_plain set known bin.Both left right a b = absurd (a refl)
operated_plain set known bin.Either left right a b = absurd (b refl)

pub operation_traps : (sizes : List ℕ) (r : Result ℤ Cause) (t : Trapped) (old : Claimed) (n : ℕ) → is_err r ≡ true → Walks sizes (operation r) (Err t) old n old n
operation_traps sizes (Ok v) t old n is = absurd (let no : false ≡ true = is in cc)
operation_traps sizes (Err cause) t old n is = walks_trap sizes t old n

pub operation_goes : (sizes : List ℕ) (r : Result ℤ Cause) (old : Claimed) (n m : ℕ) → is_err r ≡ false → m ≡ one_more n → Walks sizes (operation r) (Ok tt) old n old m
operation_goes sizes (Ok v) old n m is passed = walks_pass sizes old n m passed
operation_goes sizes (Err cause) old n m is passed = absurd (let no : true ≡ false = is in cc)

-- The write of an `op=` reads the word first.
pub write_reads : (set : Setting) (o : Change) (name : ℕ) (known : List ℤ) (place : Expr) → o ≢ op.Set → write set o name known place ≡ behind (access set true false name known place) (behind (meets Passes) (access set true true name known place))
write_reads set op.Set name known place other = absurd (other refl)
write_reads set op.Add name known place other = refl
write_reads set op.Sub name known place other = refl
write_reads set op.Mul name known place other = refl
write_reads set op.Div name known place other = refl
write_reads set op.Rem name known place other = refl
write_reads set op.Shl name known place other = refl
write_reads set op.Shr name known place other = refl
write_reads set op.And name known place other = refl
write_reads set op.Xor name known place other = refl
write_reads set op.Or name known place other = refl

module _ (sizes : List ℕ) (set : Setting) (o : Change) (name : ℕ) (known : List ℤ) (place : Expr) (result : Result (Unit {0}) Trapped) (old : Claimed) (n : ℕ) (new : Claimed) (m : ℕ) where
  pub write_sets : o ≡ op.Set → Walks sizes (access set true true name known place) result old n new m → Walks sizes (write set o name known place) result old n new m
  write_sets is walks = subst (λ c. Walks sizes (write set c name known place) result old n new m) (sym is) walks

  pub write_changes : o ≢ op.Set → Walks sizes (behind (access set true false name known place) (behind (meets Passes) (access set true true name known place))) result old n new m → Walks sizes (write set o name known place) result old n new m
  write_changes other walks = subst (λ w. Walks sizes w result old n new m) (sym (write_reads set o name known place other)) walks

-- An access to a word.
module _ (sizes : List ℕ) (set : Setting) (is_claimed write : Bool) (name : ℕ) (known : List ℤ) (place : Expr) (old : Claimed) (n : ℕ) where
  access_as : (slice : Bool) → is_slice set place ≡ slice → (result : Result (Unit {0}) Trapped) (new : Claimed) (m : ℕ)
      → Walks sizes (if slice then at_place set is_claimed write name (value_of set known place) else anywhere set is_claimed write name) result old n new m
      → Walks sizes (access set is_claimed write name known place) result old n new m
  access_as slice is result new m walks = subst (λ b. Walks sizes (if b then at_place set is_claimed write name (value_of set known place) else anywhere set is_claimed write name) result old n new m) (sym is) walks

  pub access_anywhere : is_slice set place ≡ false → (result : Result (Unit {0}) Trapped) (new : Claimed) (m : ℕ) → Walks sizes (anywhere set is_claimed write name) result old n new m → Walks sizes (access set is_claimed write name known place) result old n new m
  access_anywhere is result new m walks = access_as false is result new m walks

  pub access_at : is_slice set place ≡ true → (at : ℤ) → Ok at ≡ value_of set known place → (result : Result (Unit {0}) Trapped) (new : Claimed) (m : ℕ)
      → Walks sizes (at_place set is_claimed write name (Ok at)) result old n new m → Walks sizes (access set is_claimed write name known place) result old n new m
  access_at is at value result new m walks = access_as true is result new m (subst (λ r. Walks sizes (at_place set is_claimed write name r) result old n new m) value walks)

  pub access_traps : is_slice set place ≡ true → (cause : Cause) → Err cause ≡ value_of set known place → (t : Trapped) → Walks sizes (access set is_claimed write name known place) (Err t) old n old n
  access_traps is cause value t = access_as true is (Err t) old n (subst (λ r. Walks sizes (at_place set is_claimed write name r) (Err t) old n old n) value (walks_trap sizes t old n))

claim_room : (claims : Claimed) (w : ℕ) (write : Bool) → words_of (with_claim claims w write) ≡ words_of claims
claim_room claims w true = refl
claim_room claims w false = length-set claims.reads w true

-- a word of an array, at a known subscript and at any
module _ (set : Setting) (is_claimed write : Bool) (name : ℕ) (old : Claimed) (n : ℕ) where
  abbrev AtPlace : ℤ → Option ℕ → Result (Unit {0}) Trapped → Claimed → ℕ → Type 0
  AtPlace at array result new m = Walks (sizes_of set.arrays) (option_map_or (λ (p : ℕ × ℕ). meets (touch is_claimed write p.0 p.1)) (option_and_then (λ (a : ℕ). option_map (λ (place : ℕ). (a, place)) (place_of (sizes_of set.arrays) a at)) array) trap) result old n new m

  pub touch_nowhere : (at : ℤ) (t : Trapped) → array_of set.arrays name ≡ None → Walks (sizes_of set.arrays) (at_place set is_claimed write name (Ok at)) (Err t) old n old n
  touch_nowhere at t none = subst (λ a. AtPlace at a (Err t) old n) (sym none) (walks_trap (sizes_of set.arrays) t old n)

  module _ (at : ℤ) (array : ℕ) (named : array_of set.arrays name ≡ Some array) where
    pub touch_outside : (t : Trapped) → number_at (sizes_of set.arrays) array at ≡ None → Walks (sizes_of set.arrays) (at_place set is_claimed write name (Ok at)) (Err t) old n old n
    touch_outside t outside = subst (λ a. AtPlace at a (Err t) old n) (sym named) (by (place_of (sizes_of set.arrays) array at) outside)
      where
        by : (p : Option ℕ) → option_map (word_number (sizes_of set.arrays) array) p ≡ None → Walks (sizes_of set.arrays) (option_map_or (λ (p : ℕ × ℕ). meets (touch is_claimed write p.0 p.1)) (option_map (λ (place : ℕ). (array, place)) p) trap) (Err t) old n old n
        by None is = walks_trap (sizes_of set.arrays) t old n
        by (Some place) is = absurd (let no : Some (word_number (sizes_of set.arrays) array place) ≡ None = is in cc)

    pub touch_at : (w : ℕ) (new : Claimed) (m : ℕ) → number_at (sizes_of set.arrays) array at ≡ Some w → new ≡ (if is_claimed then with_claim old w write else old) → m ≡ one_more n
        → Walks (sizes_of set.arrays) (at_place set is_claimed write name (Ok at)) (Ok tt) old n new m
    touch_at w new m inside becomes passed = subst (λ a. AtPlace at a (Ok tt) new m) (sym named) (by (place_of (sizes_of set.arrays) array at) inside)
      where
        meeting : (b : Bool) (place : ℕ) → word_number (sizes_of set.arrays) array place ≡ w → new ≡ (if b then with_claim old w write else old) → Meets (sizes_of set.arrays) (touch b write array place ∷ []) old n new m
        meeting true place is becomes = record { claims = becomes ∙ ap (λ v. with_claim old v write) (sym is); cost = passed; room = ap (λ c. words_of c) becomes ∙ claim_room old w write }
        meeting false place is becomes = record { claims = becomes; cost = passed; room = ap (λ c. words_of c) becomes }

        by : (p : Option ℕ) → option_map (word_number (sizes_of set.arrays) array) p ≡ Some w → Walks (sizes_of set.arrays) (option_map_or (λ (p : ℕ × ℕ). meets (touch is_claimed write p.0 p.1)) (option_map (λ (place : ℕ). (array, place)) p) trap) (Ok tt) old n new m
        by None is = absurd (let no : None ≡ Some w = is in cc)
        by (Some place) is = let same : word_number (sizes_of set.arrays) array place ≡ w = cc in record { answer = refl; meets = meeting is_claimed place same becomes }

  abbrev Anywhere : Option ℕ → Result (Unit {0}) Trapped → Claimed → ℕ → Type 0
  Anywhere array result new m = Walks (sizes_of set.arrays) (option_map_or (λ (a : ℕ). meets (sweep is_claimed write a)) array trap) result old n new m

  pub sweep_nowhere : (t : Trapped) → array_of set.arrays name ≡ None → Walks (sizes_of set.arrays) (anywhere set is_claimed write name) (Err t) old n old n
  sweep_nowhere t none = subst (λ a. Anywhere a (Err t) old n) (sym none) (walks_trap (sizes_of set.arrays) t old n)

  pub sweep_all : (array : ℕ) (new : Claimed) (m : ℕ) → array_of set.arrays name ≡ Some array → is_claimed ≡ true → new ≡ with_steps (sizes_of set.arrays) old (Sweeps array write ∷ []) → words_of new ≡ words_of old → m ≡ one_more n
      → Walks (sizes_of set.arrays) (anywhere set is_claimed write name) (Ok tt) old n new m
  sweep_all array new m named claimed becomes room passed = subst (λ a. Anywhere a (Ok tt) new m) (sym named) (record { answer = refl; meets = by is_claimed claimed })
    where
      by : (b : Bool) → b ≡ true → Meets (sizes_of set.arrays) (sweep b write array ∷ []) old n new m
      by true is = record { claims = becomes; cost = passed; room = room }
      by false is = absurd (let no : false ≡ true = is in cc)

  pub sweep_none : (array : ℕ) (m : ℕ) → array_of set.arrays name ≡ Some array → is_claimed ≡ false → m ≡ one_more n → Walks (sizes_of set.arrays) (anywhere set is_claimed write name) (Ok tt) old n old m
  sweep_none array m named unclaimed passed = subst (λ a. Anywhere a (Ok tt) old m) (sym named) (record { answer = refl; meets = by is_claimed unclaimed })
    where
      by : (b : Bool) → b ≡ false → Meets (sizes_of set.arrays) (sweep b write array ∷ []) old n old m
      by true is = absurd (let no : true ≡ false = is in cc)
      by false is = record { claims = refl; cost = passed; room = refl }

-- `=` and `op=` of a scalar
module _ (sizes : List ℕ) (set : Setting) (o : Change) (name : ℕ) (e : Expr) (known : List ℤ) (c : Claimed) (n : ℕ) where
  abbrev Assigns : Bool → Result ℤ Cause → Result (Unit {0}) Trapped → List ℤ → ℕ → Type 0
  Assigns is_data value result known' m = Does sizes (if is_data then Ends (assigning o) known else given o name (and_then value (assigned (operation_of o) (scalar_at known name))) known) result known' c n c m

  steps_same : (steps : List Step) → with_steps sizes c steps ≡ c → (m : ℕ) → m ≡ with_cost n steps → Meets sizes steps c n c m
  steps_same steps same m is = record { claims = sym same; cost = is; room = refl }

  assigning_same : (o : Change) → with_steps sizes c (assigning o) ≡ c
  assigning_same op.Set = refl
  assigning_same op.Add = refl
  assigning_same op.Sub = refl
  assigning_same op.Mul = refl
  assigning_same op.Div = refl
  assigning_same op.Rem = refl
  assigning_same op.Shl = refl
  assigning_same op.Shr = refl
  assigning_same op.And = refl
  assigning_same op.Xor = refl
  assigning_same op.Or = refl

  assigned_as : (is_data : Bool) → set.is_data_local name ≡ is_data → (value : Result ℤ Cause) → value ≡ value_of set known e → (result : Result (Unit {0}) Trapped) (known' : List ℤ) (m : ℕ) → Assigns is_data value result known' m → Does sizes (assign set o name e known) result known' c n c m
  assigned_as is_data is value was result known' m does = subst (λ d. Assigns d (value_of set known e) result known' m) (sym is) (subst (λ v. Assigns is_data v result known' m) was does)

  pub assign_data : set.is_data_local name ≡ true → (m : ℕ) → m ≡ with_cost n (assigning o) → Does sizes (assign set o name e known) (Ok tt) known c n c m
  assign_data is m passed = assigned_as true is (value_of set known e) refl (Ok tt) known m (record { answer = refl; knows = refl; meets = steps_same (assigning o) (assigning_same o) m passed })

  pub assign_has_none : set.is_data_local name ≡ false → (cause : Cause) → Err cause ≡ value_of set known e → (t : Trapped) → Does sizes (assign set o name e known) (Err t) known c n c n
  assign_has_none is cause was t = assigned_as false is (Err cause) was (Err t) known n (does_trap sizes t known c n)

  module _ (right : ℤ) where
    abbrev Given : Result ℤ Cause → Result (Unit {0}) Trapped → List ℤ → ℕ → Type 0
    Given r result known' m = Does sizes (given o name r known) result known' c n c m

    pub assign_traps : set.is_data_local name ≡ false → Ok right ≡ value_of set known e → (cause : Cause) → Err cause ≡ assigned (operation_of o) (scalar_at known name) right → (t : Trapped) → Does sizes (assign set o name e known) (Err t) known c n c n
    assign_traps is was cause traps t = assigned_as false is (Ok right) was (Err t) known n (subst (λ r. Given r (Err t) known n) traps (does_trap sizes t known c n))

    pub assign_sets : set.is_data_local name ≡ false → Ok right ≡ value_of set known e → (new : ℤ) → Ok new ≡ assigned (operation_of o) (scalar_at known name) right → (known' : List ℤ) → known' ≡ with_scalar known name new → (m : ℕ) → m ≡ with_cost n (assigning o)
        → Does sizes (assign set o name e known) (Ok tt) known' c n c m
    assign_sets is was new becomes known' after m passed = assigned_as false is (Ok right) was (Ok tt) known' m
        (subst (λ r. Given r (Ok tt) known' m) becomes (record { answer = refl; knows = after; meets = steps_same (assigning o) (assigning_same o) m passed }))

-- a loop whose bounds are walked
module _ (sizes : List ℕ) (step : ℕ) (through : Bool) (name : ℕ) (body : Effect) (known : List ℤ) (c : Claimed) (n : ℕ) where
  abbrev Turned : Result ℤ Cause → Result ℤ Cause → Result (Unit {0}) Trapped → List ℤ → Claimed → ℕ → Type 0
  Turned low high result known' c' m = Does sizes (turned step through name body low high known) result known' c n c' m

  pub low_traps : (low_value high_value : Result ℤ Cause) (cause : Cause) → Err cause ≡ low_value → (t : Trapped) → Turned low_value high_value (Err t) known c n
  low_traps low_value high_value cause is t = subst (λ low. Turned low high_value (Err t) known c n) is (does_trap sizes t known c n)

  pub low_goes : (low_value high_value : Result ℤ Cause) (low : ℤ) → Ok low ≡ low_value → (result : Result (Unit {0}) Trapped) (known' : List ℤ) (c' : Claimed) (m : ℕ) → Turned (Ok low) high_value result known' c' m → Turned low_value high_value result known' c' m
  low_goes low_value high_value low is result known' c' m does = subst (λ l. Turned l high_value result known' c' m) is does

  pub high_traps : (low : ℤ) (high_value : Result ℤ Cause) (cause : Cause) → Err cause ≡ high_value → (t : Trapped) → Turned (Ok low) high_value (Err t) known c n
  high_traps low high_value cause is t = subst (λ h. Turned (Ok low) h (Err t) known c n) is (does_trap sizes t known c n)

  abbrev Looped : Result ℕ Cause → ℤ → Result (Unit {0}) Trapped → List ℤ → Claimed → ℕ → Type 0
  Looped count low result known' c' m = Does sizes (looped count (variable low step) name body known) result known' c n c' m

  pub high_goes : (low : ℤ) (high_value : Result ℤ Cause) (high : ℤ) → Ok high ≡ high_value → (result : Result (Unit {0}) Trapped) (known' : List ℤ) (c' : Claimed) (m : ℕ) → Looped (counted (turns low high step through)) low result known' c' m → Turned (Ok low) high_value result known' c' m
  high_goes low high_value high is result known' c' m does = subst (λ h. Turned (Ok low) h result known' c' m) is does

  pub count_traps : (low high : ℤ) (cause : Cause) → Err cause ≡ counted (turns low high step through) → (t : Trapped) → Looped (counted (turns low high step through)) low (Err t) known c n
  count_traps low high cause is t = subst (λ r. Looped r low (Err t) known c n) is (does_trap sizes t known c n)

  pub count_goes : (low high : ℤ) (count : ℕ) → Ok count ≡ counted (turns low high step through) → (k : ℕ) → k ≡ one_more n → (result : Result (Unit {0}) Trapped) (known' : List ℤ) (c' : Claimed) (m : ℕ)
      → Does sizes (repeat count 0 (variable low step) name body known) result known' c k c' m → Looped (counted (turns low high step through)) low result known' c' m
  count_goes low high count is k passed result known' c' m does =
      subst (λ r. Looped r low result known' c' m) is (does_then sizes c n c k (meets Passes) (repeat count 0 (variable low step) name body) known known' result c' m (walks_pass sizes c n k passed) does)

-- the arms of an `if`
pub arms_first : (set : Setting) (arm : Arm) (rest : List Arm) (other : Effect) (known : List ℤ)
    → choose set (map (walk_arm set) (arm ∷ rest)) other known ≡ after (walk set known arm.test) (after (meets Passes) (tried set arm.test (walk_block set arm.body) (choose set (map (walk_arm set) rest) other))) known
arms_first set arm rest other known = ap (λ (t : Expr × (List ℤ → Walk) × Effect). after (t.1 known) (after (meets Passes) (tried set t.0 t.2 (choose set (map (walk_arm set) rest) other))) known) (walk_arm-is set arm)

-- Statements by their kinds.
module _ (sizes : List ℕ) (set : Setting) (known : List ℤ) (result : Result (Unit {0}) Trapped) (known' : List ℤ) (old : Claimed) (n : ℕ) (new : Claimed) (m : ℕ) where
  abbrev Done : Walked → Type 0
  Done w = Does sizes w result known' old n new m

  pub does_declare : (line : Line) (name : ℕ) (e : Expr) → Done (after (walk set known e) (assign set op.Set name e) known) → Done (walk_stmt set (stmt.Declare line name e) known)
  does_declare line name e does = subst Done (sym (ap (λ f. f known) (walk-declare set line name e))) does

  pub does_assign : (line : Line) (name : ℕ) (o : Change) (e : Expr) → Done (after (walk set known e) (assign set o name e) known) → Done (walk_stmt set (stmt.Assign line name o e) known)
  does_assign line name o e does = subst Done (sym (ap (λ f. f known) (walk-assign set line name o e))) does

  pub does_write : (line : Line) (name : ℕ) (p : Expr) (o : Change) (e : Expr) → Done (after (walk set known p) (after (walk set known e) (after (write set o name known p) ends)) known) → Done (walk_stmt set (stmt.Write line name p o e) known)
  does_write line name p o e does = subst Done (sym (ap (λ f. f known) (walk-write set line name p o e))) does

  pub does_if : (arms : List Arm) (other : List Stmt) → Done (choose set (map (walk_arm set) arms) (walk_block set other) known) → Done (walk_stmt set (stmt.If arms other) known)
  does_if arms other does = subst Done (sym (ap (λ f. f known) (walk-if set arms other))) does

  pub does_loop : (l : Loop) → Done (walk_loop set l known) → Done (walk_stmt set (stmt.Loop l) known)
  does_loop l does = subst Done (sym (ap (λ f. f known) (walk-loop set l))) does

  pub does_looped : (l : Loop) → Done (after (walk set known l.low) (after (walk set known l.high) (turned l.step l.through l.name (walk_block set l.body) (value_of set known l.low) (value_of set known l.high))) known) → Done (walk_loop set l known)
  does_looped l does = subst Done (sym (ap (λ f. f known) (walk_loop-is set l))) does

-- Expressions by their kinds.
module _ (sizes : List ℕ) (set : Setting) (known : List ℤ) (result : Result (Unit {0}) Trapped) (old : Claimed) (n : ℕ) (new : Claimed) (m : ℕ) where
  abbrev Walked_as : Walk → Type 0
  Walked_as w = Walks sizes w result old n new m

  pub walks_same : (e e' : Expr) → e ≡ e' → Walked_as (walk set known e) → Walked_as (walk set known e')
  walks_same e e' same walks = subst (λ x. Walked_as (walk set known x)) same walks

  pub walks_number : (k : ℤ) → Walked_as nothing → Walked_as (walk set known (expr.Number k))
  walks_number k walks = subst Walked_as (sym (walk-number set known k)) walks

  pub walks_scalar : (name : ℕ) → Walked_as nothing → Walked_as (walk set known (expr.Scalar name))
  walks_scalar name walks = subst Walked_as (sym (walk-scalar set known name)) walks

  pub walks_word : (name : ℕ) (p : Expr) → Walked_as (behind (walk set known p) (access set (is_written set.arrays name) false name known p)) → Walked_as (walk set known (expr.Word name p))
  walks_word name p walks = subst Walked_as (sym (walk-word set known name p)) walks

  pub walks_unary : (o : Un) (a : Expr) → Walked_as (behind (walk set known a) (meets Passes)) → Walked_as (walk set known (expr.Unary o a))
  walks_unary o a walks = subst Walked_as (sym (walk-unary set known o a)) walks

  pub walks_binary : (o : Bin) (a b : Expr) → Walked_as (behind (walk set known a) (operated set known o a (b, walk set known b))) → Walked_as (walk set known (expr.Binary o a b))
  walks_binary o a b walks = subst Walked_as (sym (walk-binary set known o a b)) walks

  pub walks_both : (o : Bin) (a b : Expr) → o ≡ bin.Both → Walked_as (behind (walk set known a) (behind (meets Passes) (decided set known a (behind (walk set known b) (meets Passes)) nothing))) → Walked_as (walk set known (expr.Binary o a b))
  walks_both o a b is walks = walks_binary o a b (subst (λ p. Walked_as (behind (walk set known a) (operated set known p a (b, walk set known b)))) (sym is) walks)

  pub walks_either : (o : Bin) (a b : Expr) → o ≡ bin.Either → Walked_as (behind (walk set known a) (behind (meets Passes) (decided set known a nothing (behind (walk set known b) (meets Passes))))) → Walked_as (walk set known (expr.Binary o a b))
  walks_either o a b is walks = walks_binary o a b (subst (λ p. Walked_as (behind (walk set known a) (operated set known p a (b, walk set known b)))) (sym is) walks)

  pub walks_plain : (o : Bin) (a b : Expr) → o ≢ bin.Both → o ≢ bin.Either → Walked_as (behind (walk set known a) (behind (walk set known b) (operation (operation_on set known o a b)))) → Walked_as (walk set known (expr.Binary o a b))
  walks_plain o a b both either walks = walks_binary o a b (subst (λ w. Walked_as (behind (walk set known a) w)) (sym (operated_plain set known o a (b, walk set known b) both either)) walks)

  pub walks_choice : (t a b : Expr) → Walked_as (behind (walk set known t) (behind (meets Passes) (decided set known t (walk set known a) (walk set known b)))) → Walked_as (walk set known (expr.Choice t a b))
  walks_choice t a b walks = subst Walked_as (sym (walk-choice set known t a b)) walks

-- the first word of an array, and where there is none
pub no_words : (f : ℕ → ℕ) (size : ℕ) → option_map f (place_in size (pos 0)) ≡ None → size ≡ 0
no_words f size none = by (nat_lt 0 size) refl none
  where
    by : (b : Bool) → nat_lt 0 size ≡ b → option_map f (if b then Some 0 else None) ≡ None → size ≡ 0
    by true less is = absurd (let no : Some (f 0) ≡ None = is in cc)
    by false more is = omega (arith, ltb-false 0 size more)

pub first_word : (f : ℕ → ℕ) (size w : ℕ) → option_map f (place_in size (pos 0)) ≡ Some w → w ≡ f 0
first_word f size w some = by (nat_lt 0 size) some
  where
    by : (b : Bool) → option_map f (if b then Some 0 else None) ≡ Some w → w ≡ f 0
    by true is = cc
    by false is = absurd (let no : None ≡ Some w = is in cc)

-- The first arm that is left, behind its test.
module _ (sizes : List ℕ) (set : Setting) (arms : List Arm) (arm : Arm) (rest : List Arm) (other : Effect) (known : List ℤ) (is : arms ≡ arm ∷ rest) (old : Claimed) (n : ℕ) (mid : Claimed) (k : ℕ) where
  arm_as : (result : Result (Unit {0}) Trapped) (known' : List ℤ) (new : Claimed) (m : ℕ)
      → Does sizes (after (walk set known arm.test) (after (meets Passes) (tried set arm.test (walk_block set arm.body) (choose set (map (walk_arm set) rest) other))) known) result known' old n new m
      → Does sizes (choose set (map (walk_arm set) arms) other known) result known' old n new m
  arm_as result known' new m does = subst (λ w. Does sizes w result known' old n new m) (sym (ap (λ (ts : List Arm). choose set (map (walk_arm set) ts) other known) is ∙ arms_first set arm rest other known)) does

  pub arm_stops : (t : Trapped) → Walks sizes (walk set known arm.test) (Err t) old n mid k → Does sizes (choose set (map (walk_arm set) arms) other known) (Err t) known old n mid k
  arm_stops t walks = arm_as (Err t) known mid k (does_stop sizes old n mid k (walk set known arm.test) (after (meets Passes) (tried set arm.test (walk_block set arm.body) (choose set (map (walk_arm set) rest) other))) known t walks)

  pub arm_goes : Walks sizes (walk set known arm.test) (Ok tt) old n mid k → (j : ℕ) → j ≡ one_more k → (result : Result (Unit {0}) Trapped) (known' : List ℤ) (new : Claimed) (m : ℕ)
      → Does sizes (tried set arm.test (walk_block set arm.body) (choose set (map (walk_arm set) rest) other) known) result known' mid j new m
      → Does sizes (choose set (map (walk_arm set) arms) other known) result known' old n new m
  arm_goes walks j passed result known' new m does = arm_as result known' new m
      (does_then sizes old n mid k (walk set known arm.test) (after (meets Passes) (tried set arm.test (walk_block set arm.body) (choose set (map (walk_arm set) rest) other))) known known' result new m walks
      (does_then sizes mid k mid j (meets Passes) (tried set arm.test (walk_block set arm.body) (choose set (map (walk_arm set) rest) other)) known known' result new m (walks_pass sizes mid k j passed) does))

-- The bounds of a loop, one behind the other.
module _ (sizes : List ℕ) (set : Setting) (l : Loop) (known : List ℤ) (old : Claimed) (n : ℕ) (mid : Claimed) (k : ℕ) where
  abbrev Bounded : Result (Unit {0}) Trapped → List ℤ → Claimed → ℕ → Type 0
  Bounded result known' new m = Does sizes (walk_loop set l known) result known' old n new m

  abbrev turning : Effect
  turning = turned l.step l.through l.name (walk_block set l.body) (value_of set known l.low) (value_of set known l.high)

  pub low_stops : (t : Trapped) → Walks sizes (walk set known l.low) (Err t) old n mid k → Bounded (Err t) known mid k
  low_stops t walks = does_looped sizes set known (Err t) known old n mid k l (does_stop sizes old n mid k (walk set known l.low) (after (walk set known l.high) turning) known t walks)

  module _ (low : Walks sizes (walk set known l.low) (Ok tt) old n mid k) (mid' : Claimed) (k' : ℕ) where
    pub high_stops : (t : Trapped) → Walks sizes (walk set known l.high) (Err t) mid k mid' k' → Bounded (Err t) known mid' k'
    high_stops t walks = does_looped sizes set known (Err t) known old n mid' k' l
        (does_then sizes old n mid k (walk set known l.low) (after (walk set known l.high) turning) known known (Err t) mid' k' low (does_stop sizes mid k mid' k' (walk set known l.high) turning known t walks))

    pub bounds_go : Walks sizes (walk set known l.high) (Ok tt) mid k mid' k' → (result : Result (Unit {0}) Trapped) (known' : List ℤ) (new : Claimed) (m : ℕ) → Does sizes (turning known) result known' mid' k' new m → Bounded result known' new m
    bounds_go high result known' new m does = does_looped sizes set known result known' old n new m l
        (does_then sizes old n mid k (walk set known l.low) (after (walk set known l.high) turning) known known' result new m low (does_then sizes mid k mid' k' (walk set known l.high) turning known known' result new m high does))

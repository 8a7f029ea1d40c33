-- The walk of an expression holds what it does in a turn.
use Rattle.std.proofs.Common.{◌≡◌, ◌==◌, ℕ, ◌<◌, ℤ, pos, negsuc, nat_lt, Bool, true, false, ◌&&◌, if◌then◌else◌, Option, Some, None, Ok, Err, List, ◌++◌, slice_index_or, refl, sym, ap, ◌∙◌, subst, arith, eq-eqb}
use Rattle.std.specs.Option.{option_map, option_map_or, option_and_then}
use Rattle.std.proofs.lemmas.Bool.{ltb-true, or_left}
use Rattle.nest_syntax.specs.declared.names.Line.{Line}
use Rattle.nest_syntax.specs.declared.operators.Bin.{Bin}
use Rattle.nest_syntax.specs.declared.operators.Bin.TheVariants as bin
use Rattle.nest_syntax.specs.declared.operators.Un.{Un}
use Rattle.nest_syntax.specs.declared.operators.Cause.TheVariants as cause
use Rattle.nest_syntax.specs.declared.tree.Expr.{Expr}
use Rattle.nest_syntax.specs.declared.tree.Expr.TheVariants as expr
use Rattle.nest_syntax.specs.Among.{is_among}
use Rattle.nest_syntax.specs.Words.{is_zero, truth, apply, apply_un}
use Rattle.nest_syntax.specs.Arrays.{Array, sizes_of, is_fixed, array_of, located, place_in, word_number, word_at}
use Rattle.nest_syntax.specs.Value.{value, and_then, operate, read, scalar_at, is_written}
use Rattle.nest_syntax.specs.Turn.{Turn, Load, Op, Go, Reckoning, reckoning, operation_turn, done_with, inside}
use Rattle.nest_syntax.proofs.Inductions.{expr_induction}
use Rattle.nest_syntax.proofs.Equations.{value-number, value-scalar, value-word, value-unary, value-binary, value-choice, reckoning-number, reckoning-scalar, reckoning-word, reckoning-unary, reckoning-binary, reckoning-choice}
use Rattle.data_local.specs.Names.{scalars_in}
use Rattle.settle_law.specs.Cuts.{CanBeRead}
use Rattle.settle_law.specs.Claims.{Claims}
use Rattle.claim_walk.specs.Walk.{Passes, Sweeps, Walk, Goes, Setting, met, behind, meets, nothing, trap, branch, operation, is_slice, value_of, by_value, decided, touch, sweep, at_place, anywhere, access, operated, walk}
use Rattle.claim_walk.proofs.Equations.{walk-number, walk-scalar, walk-word, walk-unary, walk-binary, walk-choice, scalars-scalar}
use Rattle.claim_walk.proofs.Slices.{AgreeIn, slice_scalar, slice_word, slice_unary, slice_binary, slice_choice, agree_word, agree_unary, agree_left, agree_right, agree_test, agree_first, agree_second}
use Rattle.claim_walk.proofs.Held.{IsClaimed, Follows, then_follows, nothing_follows, op_follows, go_follows, go_before, known_operation, any_operation, branches_follow}

-- what is located is inside its array
module _ (arrays : List Array) where
  in_size : (n size : ℕ) (at : ℤ) (p : ℕ × ℕ) → option_map (λ (place : ℕ). (n, place)) (place_in size at) ≡ Some p → (n ≡ p.0) × (p.1 < size)
  in_size n size (pos k) p e = by (nat_lt k size) refl e
    where
      by : (b : Bool) → nat_lt k size ≡ b → option_map (λ (place : ℕ). (n, place)) (if b then Some k else None) ≡ Some p → (n ≡ p.0) × (p.1 < size)
      by true less e = let start : n ≡ p.0 = cc in let place : k ≡ p.1 = cc in (start, omega (arith, ltb-true k size less))
      by false less e = absurd (let no : None ≡ Some p = e in cc)
  in_size n size (negsuc k) p e = absurd (let no : None ≡ Some p = e in cc)

  abbrev pub IsPlaced : ℕ → ℕ × ℕ → Type 0
  IsPlaced name p = (p.1 < slice_index_or (sizes_of arrays) p.0 0) × (array_of arrays name ≡ Some p.0)

  pub is_placed : (name : ℕ) (at : ℤ) (p : ℕ × ℕ) → located arrays name at ≡ Some p → IsPlaced name p
  is_placed name at p e = by (array_of arrays name) e
    where
      by : (o : Option ℕ) → option_and_then (λ (n : ℕ). option_map (λ (place : ℕ). (n, place)) (place_in (slice_index_or (sizes_of arrays) n 0) at)) o ≡ Some p → (p.1 < slice_index_or (sizes_of arrays) p.0 0) × (o ≡ Some p.0)
      by None e = absurd (let no : None ≡ Some p = e in cc)
      by (Some n) e = let there = in_size n (slice_index_or (sizes_of arrays) n 0) at p e in (subst (λ k. p.1 < slice_index_or (sizes_of arrays) k 0) there.0 there.1, ap Some there.0)

  pub fixed_of : (name n : ℕ) → array_of arrays name ≡ Some n → is_written arrays name ≡ false → is_fixed arrays n ≡ true
  fixed_of name n there not_written = by (is_fixed arrays n) (sym (ap (λ o. option_map_or (λ (k : ℕ). if is_fixed arrays k then false else true) o false) there) ∙ not_written)
    where
      by : (b : Bool) → (if b then false else true) ≡ false → b ≡ true
      by true e = refl
      by false e = absurd (let no : true ≡ false = e in cc)

-- the `const` words are told as the opening words have them
abbrev pub TellsConst : List Array → List ℤ → (ℕ → Option ℤ) → Type 0
TellsConst arrays words fixed = (array place : ℕ) → place < slice_index_or (sizes_of arrays) array 0 → is_fixed arrays array ≡ true → fixed (word_number (sizes_of arrays) array place) ≡ Some (word_at words (word_number (sizes_of arrays) array place))

module _ (set : Setting) (fixed : ℕ → Option ℤ) (claims : Claims) (tells : TellsConst set.arrays set.words fixed) where
  abbrev sizes : List ℕ
  sizes = sizes_of set.arrays

  abbrev follows : Walk → (ℤ → Type 0) → ((ℤ → Turn) → Turn) → Type 0
  follows = Follows sizes fixed claims

  -- the value of a slice expression is known
  abbrev pub IsTold : Expr → List ℤ → ℤ → Type 0
  IsTold e known v = is_slice set e ≡ true → value_of set known e ≡ Ok v

  abbrev pub ExprFollows : Expr → Type 0
  ExprFollows e = (line : Line) (known scalars : List ℤ) → AgreeIn set e known scalars → follows (walk set known e) (IsTold e known) (reckoning set.arrays e line scalars)

  no_true : {A : Type 0} → (b : Bool) → b ≡ false → b ≡ true → A
  no_true b f t = absurd (let no : false ≡ true = sym f ∙ t in cc)

  -- behind a test
  pub decided_follows : (test : Expr) (known : List ℤ) (v : ℤ) → IsTold test known v → (nonzero on_zero : Walk) (Q : ℤ → Type 0) (one other : (ℤ → Turn) → Turn)
      → (is_zero v ≡ false → follows nonzero Q one) → (is_zero v ≡ true → follows on_zero Q other) → follows (decided set known test nonzero on_zero) Q (λ go. if is_zero v then other go else one go)
  decided_follows test known v told nonzero on_zero Q one other p q = by_kind (is_slice set test) refl
    where
      by_zero : (b : Bool) → is_zero v ≡ b → follows (if b then on_zero else nonzero) Q (λ go. if b then other go else one go)
      by_zero true is = q is
      by_zero false is = p is

      by_kind : (b : Bool) → is_slice set test ≡ b → follows (if b then by_value (value_of set known test) nonzero on_zero else behind (branch nonzero) (branch on_zero)) Q (λ go. if is_zero v then other go else one go)
      by_kind true is = subst (λ r. follows (by_value r nonzero on_zero) Q (λ go. if is_zero v then other go else one go)) (sym (told is)) (by_zero (is_zero v) refl)
      by_kind false is = by (is_zero v) refl
        where
          by : (b : Bool) → is_zero v ≡ b → follows (Goes (met nonzero ++ met on_zero)) Q (λ go. if b then other go else one go)
          by true z = branches_follow sizes fixed claims nonzero on_zero Q false one other (λ e. absurd (let wrong : false ≡ true = e in cc)) (λ e. q z)
          by false z = branches_follow sizes fixed claims nonzero on_zero Q true one other (λ e. p z) (λ e. absurd (let wrong : true ≡ false = e in cc))

  -- a read of a word
  read_const : (place : Expr) (name : ℕ) (known : List ℤ) (at : ℤ) (p : ℕ × ℕ) → located set.arrays name at ≡ Some p → is_written set.arrays name ≡ false → (Q : ℤ → Type 0) → ((value : ℤ) → word_at set.words (word_number sizes p.0 p.1) ≡ value → Q value)
      → follows (meets Passes) Q (λ go. Load p.0 p.1 go)
  read_const place name known at p there not_written Q holds all go m h =
      let placed = is_placed set.arrays name at p there in
      let told = tells p.0 p.1 placed.0 (fixed_of set.arrays name p.0 placed.1 not_written) in (
        m,
        omega arith,
        λ none. absurd (let no : Some (word_at set.words (word_number sizes p.0 p.1)) ≡ None = sym told ∙ none in cc),
        λ value can. h tt value (holds value (subst (λ o. CanBeRead o value) told can)),
      )

  module _ (place : Expr) (name : ℕ) (line : Line) (known : List ℤ) (at : ℤ) (told_place : IsTold place known at) where
    abbrev IsRead : ℤ → Type 0
    IsRead = IsTold (expr.Word name place) known

    abbrev reads_at : Option (ℕ × ℕ) → (ℤ → Turn) → Turn
    reads_at o go = inside line o (λ array n. Load array n go)

    of_const : is_slice set place ≡ true → (p : ℕ × ℕ) → located set.arrays name at ≡ Some p → (value : ℤ) → word_at set.words (word_number sizes p.0 p.1) ≡ value → IsRead value
    of_const is p there value same slice =
        value-word set.arrays known set.words name place ∙ ap (λ r. and_then r (read set.arrays set.words name)) (told_place is)
        ∙ ap (λ o. option_map_or (λ (q : ℕ × ℕ). Ok (word_at set.words (word_number sizes q.0 q.1))) o (Err cause.Index)) there ∙ ap Ok same

    at_known : (w : Bool) → is_written set.arrays name ≡ w → is_slice set place ≡ true → (o : Option (ℕ × ℕ)) → located set.arrays name at ≡ o
        → follows (option_map_or (λ (p : ℕ × ℕ). meets (touch w false p.0 p.1)) o trap) IsRead (reads_at o)
    at_known w written is None there = λ all go m h. tt
    at_known true written is (Some p) there = λ all go m h. (m, omega arith, λ none. all.0, λ value can. h tt value (λ slice. no_true (is_written set.arrays name) (slice_word set name place slice).0 written))
    at_known false written is (Some p) there = read_const place name known at p there written IsRead (of_const is p there)

    at_any : (w : Bool) → is_written set.arrays name ≡ w → is_slice set place ≡ false → (a : Option ℕ) → array_of set.arrays name ≡ a → (o : Option (ℕ × ℕ)) → located set.arrays name at ≡ o
        → follows (option_map_or (λ (n : ℕ). meets (sweep w false n)) a trap) IsRead (reads_at o)
    at_any w written is a array None there = λ all go m h. tt
    at_any w written is None array (Some p) there = λ all go m h. absurd (let no : None ≡ Some p.0 = sym array ∙ (is_placed set.arrays name at p there).1 in cc)
    at_any true written is (Some n) array (Some p) there =
        let placed = is_placed set.arrays name at p there in
        let same : n ≡ p.0 = let e : Some n ≡ Some p.0 = sym array ∙ placed.1 in cc in
        λ all go m h. (m, omega arith, λ none. subst (λ k. IsClaimed sizes fixed claims (Sweeps k false)) same all.0 p.1 placed.0, λ value can. h tt value (λ slice. no_true (is_slice set place) is (slice_word set name place slice).1))
    at_any false written is (Some n) array (Some p) there = read_const place name known at p there written IsRead (λ value same slice. no_true (is_slice set place) is (slice_word set name place slice).1)

    read_follows : follows (access set (is_written set.arrays name) false name known place) IsRead (reads_at (located set.arrays name at))
    read_follows = by_kind (is_slice set place) refl
      where
        by_kind : (b : Bool) → is_slice set place ≡ b → follows (if b then at_place set (is_written set.arrays name) false name (value_of set known place) else anywhere set (is_written set.arrays name) false name) IsRead (reads_at (located set.arrays name at))
        by_kind true is = subst (λ r. follows (at_place set (is_written set.arrays name) false name r) IsRead (reads_at (located set.arrays name at))) (sym (told_place is)) (at_known (is_written set.arrays name) refl is (located set.arrays name at) refl)
        by_kind false is = at_any (is_written set.arrays name) refl is (array_of set.arrays name) refl (located set.arrays name at) refl

  -- a binary operation behind its left part
  module _ (left right : Expr) (line : Line) (known scalars : List ℤ) (x : ℤ) (told : IsTold left known x) (p : follows (walk set known right) (IsTold right known) (reckoning set.arrays right line scalars)) where
    abbrev Does : Bin → Type 0
    Does o = follows (operated set known o left (right, walk set known right)) (IsTold (expr.Binary o left right) known) (operation_turn o x (reckoning set.arrays right) line scalars)

    -- the value of the whole, where it is a slice expression
    whole : (o : Bin) → is_slice set (expr.Binary o left right) ≡ true → value_of set known (expr.Binary o left right) ≡ operate o x (value_of set known right)
    whole o slice = value-binary set.arrays known set.words o left right ∙ ap (λ r. and_then r (λ v. operate o v (value_of set known right))) (told (slice_binary set o left right slice).0)

    plainly : (o : Bin) → ((y : ℤ) → operate o x (Ok y) ≡ apply o x y)
        → follows (behind (walk set known right) (operation (if is_slice set left && is_slice set right then and_then (value_of set known left) (λ a. and_then (value_of set known right) (apply o a)) else Ok (pos 0)))) (IsTold (expr.Binary o left right) known)
        (λ go. reckoning set.arrays right line scalars (λ y. done_with line (apply o x y) go))
    plainly o same = then_follows sizes fixed claims (walk set known right) (operation (if is_slice set left && is_slice set right then and_then (value_of set known left) (λ a. and_then (value_of set known right) (apply o a)) else Ok (pos 0))) (IsTold right known) (IsTold (expr.Binary o left right) known) (reckoning set.arrays right line scalars) (λ y go. done_with line (apply o x y) go) p
        (λ going y told_right. by_kinds y told_right (is_slice set left) refl (is_slice set right) refl)
      where
        by_kinds : (y : ℤ) → IsTold right known y → (a : Bool) → is_slice set left ≡ a → (b : Bool) → is_slice set right ≡ b
            → follows (operation (if a && b then and_then (value_of set known left) (λ v. and_then (value_of set known right) (apply o v)) else Ok (pos 0))) (IsTold (expr.Binary o left right) known) (λ go. done_with line (apply o x y) go)
        by_kinds y told_right true is_left true is_right =
            let both : and_then (value_of set known left) (λ v. and_then (value_of set known right) (apply o v)) ≡ apply o x y = ap (λ r. and_then r (λ v. and_then (value_of set known right) (apply o v))) (told is_left) ∙ ap (λ r. and_then r (apply o x)) (told_right is_right) in
            subst (λ r. follows (operation r) (IsTold (expr.Binary o left right) known) (λ go. done_with line (apply o x y) go)) (sym both)
            (known_operation sizes fixed claims line (apply o x y) (IsTold (expr.Binary o left right) known) (λ v is slice. whole o slice ∙ ap (operate o x) (told_right is_right) ∙ same y ∙ is))
        by_kinds y told_right true is_left false is_right = any_operation sizes fixed claims line (apply o x y) (IsTold (expr.Binary o left right) known) (λ v slice. no_true (is_slice set right) is_right (slice_binary set o left right slice).1)
        by_kinds y told_right false is_left b is_right = any_operation sizes fixed claims line (apply o x y) (IsTold (expr.Binary o left right) known) (λ v slice. no_true (is_slice set left) is_left (slice_binary set o left right slice).0)

    -- the right part of `&&` and `||`, where it is evaluated
    tested : (o : Bin) → ((y : ℤ) → operate o x (Ok y) ≡ Ok (truth y)) → follows (behind (walk set known right) (meets Passes)) (IsTold (expr.Binary o left right) known) (λ go. reckoning set.arrays right line scalars (λ y. Go (go (truth y))))
    tested o same = then_follows sizes fixed claims (walk set known right) (meets Passes) (IsTold right known) (IsTold (expr.Binary o left right) known) (reckoning set.arrays right line scalars) (λ y go. Go (go (truth y))) p
        (λ going y told_right. go_follows sizes fixed claims (IsTold (expr.Binary o left right) known) (truth y) (λ slice. whole o slice ∙ ap (operate o x) (told_right (slice_binary set o left right slice).1) ∙ same y))

    pub operated_follows : (o : Bin) → Does o
    operated_follows bin.Both = go_before sizes fixed claims (decided set known left (behind (walk set known right) (meets Passes)) nothing) (IsTold (expr.Binary bin.Both left right) known) (λ go. if is_zero x then go (pos 0) else reckoning set.arrays right line scalars (λ y. Go (go (truth y))))
        (decided_follows left known x told (behind (walk set known right) (meets Passes)) nothing (IsTold (expr.Binary bin.Both left right) known) (λ go. reckoning set.arrays right line scalars (λ y. Go (go (truth y)))) (λ go. go (pos 0))
        (λ z. tested bin.Both (λ y. ap (λ b. if b then Ok (pos 0) else Ok (truth y)) z))
        (λ z. nothing_follows sizes fixed claims (IsTold (expr.Binary bin.Both left right) known) (pos 0) (λ slice. whole bin.Both slice ∙ ap (λ b. if b then Ok (pos 0) else and_then (value_of set known right) (λ v. Ok (truth v))) z)))
    operated_follows bin.Either = go_before sizes fixed claims (decided set known left nothing (behind (walk set known right) (meets Passes))) (IsTold (expr.Binary bin.Either left right) known) (λ go. if is_zero x then reckoning set.arrays right line scalars (λ y. Go (go (truth y))) else go (pos 1))
        (decided_follows left known x told nothing (behind (walk set known right) (meets Passes)) (IsTold (expr.Binary bin.Either left right) known) (λ go. go (pos 1)) (λ go. reckoning set.arrays right line scalars (λ y. Go (go (truth y))))
        (λ z. nothing_follows sizes fixed claims (IsTold (expr.Binary bin.Either left right) known) (pos 1) (λ slice. whole bin.Either slice ∙ ap (λ b. if b then and_then (value_of set known right) (λ v. Ok (truth v)) else Ok (pos 1)) z))
        (λ z. tested bin.Either (λ y. ap (λ b. if b then Ok (truth y) else Ok (pos 1)) z)))
    operated_follows bin.Add = plainly bin.Add (λ y. refl)
    operated_follows bin.Sub = plainly bin.Sub (λ y. refl)
    operated_follows bin.Mul = plainly bin.Mul (λ y. refl)
    operated_follows bin.Div = plainly bin.Div (λ y. refl)
    operated_follows bin.Rem = plainly bin.Rem (λ y. refl)
    operated_follows bin.Shl = plainly bin.Shl (λ y. refl)
    operated_follows bin.Shr = plainly bin.Shr (λ y. refl)
    operated_follows bin.And = plainly bin.And (λ y. refl)
    operated_follows bin.Xor = plainly bin.Xor (λ y. refl)
    operated_follows bin.Or = plainly bin.Or (λ y. refl)
    operated_follows bin.Less = plainly bin.Less (λ y. refl)
    operated_follows bin.LessEq = plainly bin.LessEq (λ y. refl)
    operated_follows bin.More = plainly bin.More (λ y. refl)
    operated_follows bin.MoreEq = plainly bin.MoreEq (λ y. refl)
    operated_follows bin.Equal = plainly bin.Equal (λ y. refl)
    operated_follows bin.NotEqual = plainly bin.NotEqual (λ y. refl)

  -- the walk and what it walks, by their equations
  as_is : (e : Expr) (known scalars : List ℤ) (line : Line) (w : Walk) (r : Reckoning) → walk set known e ≡ w → reckoning set.arrays e ≡ r → follows w (IsTold e known) (r line scalars) → follows (walk set known e) (IsTold e known) (reckoning set.arrays e line scalars)
  as_is e known scalars line w r walks does p = subst (λ v. follows v (IsTold e known) (reckoning set.arrays e line scalars)) (sym walks) (subst (λ (f : Reckoning). follows w (IsTold e known) (f line scalars)) (sym does) p)

  pub expr_follows : (e : Expr) → ExprFollows e
  expr_follows = expr_induction ExprFollows
      (λ n line known scalars agree. as_is (expr.Number n) known scalars line _ _ (walk-number set known n) (reckoning-number set.arrays n)
      (nothing_follows sizes fixed claims (IsTold (expr.Number n) known) n (λ slice. value-number set.arrays known set.words n)))
      (λ name line known scalars agree. as_is (expr.Scalar name) known scalars line _ _ (walk-scalar set known name) (reckoning-scalar set.arrays name)
      (nothing_follows sizes fixed claims (IsTold (expr.Scalar name) known) (scalar_at scalars name) (λ slice. value-scalar set.arrays known set.words name ∙ ap Ok (agree name (own name) (slice_scalar set name slice)))))
      (λ name place p line known scalars agree. as_is (expr.Word name place) known scalars line _ _ (walk-word set known name place) (reckoning-word set.arrays name place)
      (then_follows sizes fixed claims (walk set known place) (access set (is_written set.arrays name) false name known place) (IsTold place known) (IsTold (expr.Word name place) known) (reckoning set.arrays place line scalars) (λ at go. inside line (located set.arrays name at) (λ array n. Load array n go))
      (p line known scalars (agree_word set known scalars name place agree)) (λ going at told. read_follows place name line known at told)))
      (λ o a p line known scalars agree. as_is (expr.Unary o a) known scalars line _ _ (walk-unary set known o a) (reckoning-unary set.arrays o a)
      (then_follows sizes fixed claims (walk set known a) (meets Passes) (IsTold a known) (IsTold (expr.Unary o a) known) (reckoning set.arrays a line scalars) (λ v go. Op (go (apply_un o v)))
      (p line known scalars (agree_unary set known scalars o a agree))
      (λ going v told. op_follows sizes fixed claims (IsTold (expr.Unary o a) known) (apply_un o v) (λ slice. value-unary set.arrays known set.words o a ∙ ap (λ r. and_then r (λ x. Ok (apply_un o x))) (told (slice_unary set o a slice))))))
      (λ o a b p q line known scalars agree. as_is (expr.Binary o a b) known scalars line _ _ (walk-binary set known o a b) (reckoning-binary set.arrays o a b)
      (then_follows sizes fixed claims (walk set known a) (operated set known o a (b, walk set known b)) (IsTold a known) (IsTold (expr.Binary o a b) known) (reckoning set.arrays a line scalars) (λ x go. operation_turn o x (reckoning set.arrays b) line scalars go)
      (p line known scalars (agree_left set known scalars o a b agree)) (λ going x told. operated_follows a b line known scalars x told (q line known scalars (agree_right set known scalars o a b agree)) o)))
      (λ t a b p q r line known scalars agree. as_is (expr.Choice t a b) known scalars line _ _ (walk-choice set known t a b) (reckoning-choice set.arrays t a b)
      (then_follows sizes fixed claims (walk set known t) (behind (meets Passes) (decided set known t (walk set known a) (walk set known b))) (IsTold t known) (IsTold (expr.Choice t a b) known) (reckoning set.arrays t line scalars) (λ x go. Go (if is_zero x then reckoning set.arrays b line scalars go else reckoning set.arrays a line scalars go))
      (p line known scalars (agree_test set known scalars t a b agree))
      (λ going x told. go_before sizes fixed claims (decided set known t (walk set known a) (walk set known b)) (IsTold (expr.Choice t a b) known) (λ go. if is_zero x then reckoning set.arrays b line scalars go else reckoning set.arrays a line scalars go)
      (decided_follows t known x told (walk set known a) (walk set known b) (IsTold (expr.Choice t a b) known) (reckoning set.arrays a line scalars) (reckoning set.arrays b line scalars)
      (λ z. weaker (walk set known a) (IsTold a known) (IsTold (expr.Choice t a b) known) (reckoning set.arrays a line scalars) (q line known scalars (agree_first set known scalars t a b agree)) (λ v told_a slice. chosen t a b known x told slice ∙ ap (λ c. if c then value_of set known b else value_of set known a) z ∙ told_a (slice_choice set t a b slice).1))
      (λ z. weaker (walk set known b) (IsTold b known) (IsTold (expr.Choice t a b) known) (reckoning set.arrays b line scalars) (r line known scalars (agree_second set known scalars t a b agree)) (λ v told_b slice. chosen t a b known x told slice ∙ ap (λ c. if c then value_of set known b else value_of set known a) z ∙ told_b (slice_choice set t a b slice).2))))))
    where
      own : (name : ℕ) → is_among (scalars_in (expr.Scalar name)) name ≡ true
      own name = ap (λ l. is_among l name) (scalars-scalar name) ∙ or_left (name == name) false (eq-eqb name name refl)

      weaker : (w : Walk) (P Q : ℤ → Type 0) (does : (ℤ → Turn) → Turn) → follows w P does → ((v : ℤ) → P v → Q v) → follows w Q does
      weaker w P Q does p holds all go m h = p all go m (λ going v is. h going v (holds v is))

      chosen : (t a b : Expr) (known : List ℤ) (x : ℤ) → IsTold t known x → is_slice set (expr.Choice t a b) ≡ true → value_of set known (expr.Choice t a b) ≡ (if is_zero x then value_of set known b else value_of set known a)
      chosen t a b known x told slice = value-choice set.arrays known set.words t a b ∙ ap (λ r. and_then r (λ v. if is_zero v then value_of set known b else value_of set known a)) (told (slice_choice set t a b slice).0)

-- Slice expressions and their parts, and scalars that agree on what an expression names.
use Rattle.std.proofs.Common.{◌≡◌, ◌==◌, ℕ, ℤ, Bool, true, false, not, ◌||◌, List, ◌++◌, refl, sym, ap, ◌∙◌}
use Rattle.std.specs.List.{list_any}
use Rattle.std.proofs.lemmas.List.Folds.{list_any-append}
use Rattle.std.proofs.lemmas.Bool.{or_left, or_right}
use Rattle.nest_syntax.specs.declared.operators.Bin.{Bin}
use Rattle.nest_syntax.specs.declared.operators.Un.{Un}
use Rattle.nest_syntax.specs.declared.tree.Expr.{Expr}
use Rattle.nest_syntax.specs.declared.tree.Expr.TheVariants as expr
use Rattle.nest_syntax.specs.Among.{is_among}
use Rattle.nest_syntax.specs.Value.{scalar_at, is_written, names_written}
use Rattle.nest_syntax.proofs.Equations.{names_written-word, names_written-unary, names_written-binary, names_written-choice}
use Rattle.data_local.specs.Names.{scalars_in}
use Rattle.claim_walk.specs.Walk.{Setting, is_slice}
use Rattle.claim_walk.proofs.Equations.{scalars-scalar, scalars-word, scalars-unary, scalars-binary, scalars-choice}

pub or_none : (a b : Bool) → (a || b) ≡ false → (a ≡ false) × (b ≡ false)
or_none true b e = absurd (let no : true ≡ false = e in cc)
or_none false b e = (refl, e)

not_true : (a : Bool) → not a ≡ true → a ≡ false
not_true true e = absurd (let no : false ≡ true = e in cc)
not_true false e = refl

module _ (set : Setting) where
  abbrev named : Expr → Bool
  named e = list_any set.is_data_local (scalars_in e)

  -- neither a written array nor a data local is named
  abbrev pub NamesNone : Expr → Type 0
  NamesNone e = (names_written set.arrays e ≡ false) × (named e ≡ false)

  pub none_named : (e : Expr) → is_slice set e ≡ true → NamesNone e
  none_named e is = or_none (names_written set.arrays e) (named e) (not_true (names_written set.arrays e || named e) is)

  pub slice_named : (e : Expr) → NamesNone e → is_slice set e ≡ true
  slice_named e none = ap (λ b. not (b || named e)) none.0 ∙ ap not none.1

  named_both : (xs ys : List ℕ) → list_any set.is_data_local (xs ++ ys) ≡ false → (list_any set.is_data_local xs ≡ false) × (list_any set.is_data_local ys ≡ false)
  named_both xs ys e = or_none (list_any set.is_data_local xs) (list_any set.is_data_local ys) (sym (list_any-append set.is_data_local xs ys) ∙ e)

  pub slice_scalar : (name : ℕ) → is_slice set (expr.Scalar name) ≡ true → set.is_data_local name ≡ false
  slice_scalar name is = (or_none (set.is_data_local name) false (sym (ap (list_any set.is_data_local) (scalars-scalar name)) ∙ (none_named (expr.Scalar name) is).1)).0

  pub slice_word : (name : ℕ) (p : Expr) → is_slice set (expr.Word name p) ≡ true → (is_written set.arrays name ≡ false) × (is_slice set p ≡ true)
  slice_word name p is =
      let none = none_named (expr.Word name p) is in
      let arrays = or_none (is_written set.arrays name) (names_written set.arrays p) (sym (names_written-word set.arrays name p) ∙ none.0) in
      (arrays.0, slice_named p (arrays.1, sym (ap (list_any set.is_data_local) (scalars-word name p)) ∙ none.1))

  pub slice_unary : (o : Un) (a : Expr) → is_slice set (expr.Unary o a) ≡ true → is_slice set a ≡ true
  slice_unary o a is =
      let none = none_named (expr.Unary o a) is in
      slice_named a (sym (names_written-unary set.arrays o a) ∙ none.0, sym (ap (list_any set.is_data_local) (scalars-unary o a)) ∙ none.1)

  pub slice_binary : (o : Bin) (a b : Expr) → is_slice set (expr.Binary o a b) ≡ true → (is_slice set a ≡ true) × (is_slice set b ≡ true)
  slice_binary o a b is =
      let none = none_named (expr.Binary o a b) is in
      let arrays = or_none (names_written set.arrays a) (names_written set.arrays b) (sym (names_written-binary set.arrays o a b) ∙ none.0) in
      let locals = named_both (scalars_in a) (scalars_in b) (sym (ap (list_any set.is_data_local) (scalars-binary o a b)) ∙ none.1) in
      (slice_named a (arrays.0, locals.0), slice_named b (arrays.1, locals.1))

  pub slice_choice : (t a b : Expr) → is_slice set (expr.Choice t a b) ≡ true → (is_slice set t ≡ true) × (is_slice set a ≡ true) × (is_slice set b ≡ true)
  slice_choice t a b is =
      let none = none_named (expr.Choice t a b) is in
      let arrays = or_none (names_written set.arrays t) (names_written set.arrays a || names_written set.arrays b) (sym (names_written-choice set.arrays t a b) ∙ none.0) in
      let others = or_none (names_written set.arrays a) (names_written set.arrays b) arrays.1 in
      let locals = named_both (scalars_in t) (scalars_in a ++ scalars_in b) (sym (ap (list_any set.is_data_local) (scalars-choice t a b)) ∙ none.1) in
      let more = named_both (scalars_in a) (scalars_in b) locals.1 in
      (slice_named t (arrays.0, locals.0), slice_named a (others.0, more.0), slice_named b (others.1, more.1))

  -- scalars agree on the slice locals that an expression names
  abbrev pub AgreeIn : Expr → List ℤ → List ℤ → Type 0
  AgreeIn e known scalars = (name : ℕ) → is_among (scalars_in e) name ≡ true → set.is_data_local name ≡ false → scalar_at known name ≡ scalar_at scalars name

  among_left : (xs ys : List ℕ) (name : ℕ) → is_among xs name ≡ true → is_among (xs ++ ys) name ≡ true
  among_left xs ys name is = list_any-append (λ other. name == other) xs ys ∙ or_left (is_among xs name) (is_among ys name) is

  among_right : (xs ys : List ℕ) (name : ℕ) → is_among ys name ≡ true → is_among (xs ++ ys) name ≡ true
  among_right xs ys name is = list_any-append (λ other. name == other) xs ys ∙ or_right (is_among xs name) (is_among ys name) is

  module _ (known scalars : List ℤ) where
    pub agree_word : (name : ℕ) (p : Expr) → AgreeIn (expr.Word name p) known scalars → AgreeIn p known scalars
    agree_word name p agree other is = agree other (ap (λ l. is_among l other) (scalars-word name p) ∙ is)

    pub agree_unary : (o : Un) (a : Expr) → AgreeIn (expr.Unary o a) known scalars → AgreeIn a known scalars
    agree_unary o a agree other is = agree other (ap (λ l. is_among l other) (scalars-unary o a) ∙ is)

    pub agree_left : (o : Bin) (a b : Expr) → AgreeIn (expr.Binary o a b) known scalars → AgreeIn a known scalars
    agree_left o a b agree other is = agree other (ap (λ l. is_among l other) (scalars-binary o a b) ∙ among_left (scalars_in a) (scalars_in b) other is)

    pub agree_right : (o : Bin) (a b : Expr) → AgreeIn (expr.Binary o a b) known scalars → AgreeIn b known scalars
    agree_right o a b agree other is = agree other (ap (λ l. is_among l other) (scalars-binary o a b) ∙ among_right (scalars_in a) (scalars_in b) other is)

    pub agree_test : (t a b : Expr) → AgreeIn (expr.Choice t a b) known scalars → AgreeIn t known scalars
    agree_test t a b agree other is = agree other (ap (λ l. is_among l other) (scalars-choice t a b) ∙ among_left (scalars_in t) (scalars_in a ++ scalars_in b) other is)

    pub agree_first : (t a b : Expr) → AgreeIn (expr.Choice t a b) known scalars → AgreeIn a known scalars
    agree_first t a b agree other is = agree other (ap (λ l. is_among l other) (scalars-choice t a b) ∙ among_right (scalars_in t) (scalars_in a ++ scalars_in b) other (among_left (scalars_in a) (scalars_in b) other is))

    pub agree_second : (t a b : Expr) → AgreeIn (expr.Choice t a b) known scalars → AgreeIn b known scalars
    agree_second t a b agree other is = agree other (ap (λ l. is_among l other) (scalars-choice t a b) ∙ among_right (scalars_in t) (scalars_in a ++ scalars_in b) other (among_right (scalars_in a) (scalars_in b) other is))

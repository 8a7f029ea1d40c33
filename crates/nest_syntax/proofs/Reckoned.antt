-- What an expression does, carried out on words, is its value: the turn goes on with it, or stops at its trap.
use Rattle.std.proofs.Common.{◌≡◌, ℕ, ℤ, pos, Bool, true, false, if◌then◌else◌, Option, Some, None, Result, Ok, Err, List, refl, sym, ◌∙◌, subst}
use Rattle.std.specs.Option.{option_map_or}
use Rattle.nest_syntax.specs.declared.names.Line.{Line}
use Rattle.nest_syntax.specs.declared.operators.Bin.{Bin}
use Rattle.nest_syntax.specs.declared.operators.Bin.TheVariants as bin
use Rattle.nest_syntax.specs.declared.operators.Cause.{Cause}
use Rattle.nest_syntax.specs.declared.operators.Cause.TheVariants as cause
use Rattle.nest_syntax.specs.declared.tree.Expr.{Expr, roll-Expr}
use Rattle.nest_syntax.specs.declared.tree.Expr.TheOpen.{Expr-F}
use Rattle.nest_syntax.specs.declared.tree.Expr.TheFolds.{map-Expr, fold-roll-Expr, ind-Expr}
use Rattle.nest_syntax.specs.Words.{is_zero, truth, apply, apply_un}
use Rattle.nest_syntax.specs.Arrays.{Array, located, sizes_of, word_number, word_at}
use Rattle.nest_syntax.specs.Value.{value, value_node, and_then, operate, read}
use Rattle.nest_syntax.specs.Turn.{Turn, Load, Op, Go, Reckoning, reckoning, reckoning_node, operation_turn, done_with, inside}
use Rattle.nest_syntax.specs.Reads.{on_words, answered}

-- an operation that may trap
pub done_with-answered : (sizes : List ℕ) (line : Line) (result : Result ℤ Cause) (go : ℤ → Turn) (words : List ℤ) → on_words sizes (done_with line result go) words ≡ answered sizes line result go words
done_with-answered sizes line (Ok result) go words = refl
done_with-answered sizes line (Err cause) go words = refl

module _ (arrays : List Array) (scalars words : List ℤ) where
  -- a reckoning that goes on with this result
  abbrev pub Answers : Reckoning → Result ℤ Cause → Type 0
  Answers does result = (line : Line) (go : ℤ → Turn) → on_words (sizes_of arrays) (does line scalars go) words ≡ answered (sizes_of arrays) line result go words

  abbrev IsAnswered : Expr → Type 0
  IsAnswered e = Answers (reckoning arrays e) (value arrays scalars words e)

  abbrev Such : Type 0
  Such = (e : Expr) × IsAnswered e

  -- what follows a value: it goes on where the value is known, and a trap stays one
  then_answered : (line : Line) (result : Result ℤ Cause) (next : ℤ → Result ℤ Cause) (first go : ℤ → Turn)
      → ((v : ℤ) → on_words (sizes_of arrays) (first v) words ≡ answered (sizes_of arrays) line (next v) go words)
      → answered (sizes_of arrays) line result first words ≡ answered (sizes_of arrays) line (and_then result next) go words
  then_answered line (Ok v) next first go each = each v
  then_answered line (Err cause) next first go each = refl

  read_answered : (name : ℕ) (at : ℤ) (line : Line) (go : ℤ → Turn)
      → on_words (sizes_of arrays) (inside line (located arrays name at) (λ array n. Load array n go)) words ≡ answered (sizes_of arrays) line (read arrays words name at) go words
  read_answered name at line go = by_place (located arrays name at)
    where
      by_place : (p : Option (ℕ × ℕ)) → on_words (sizes_of arrays) (inside line p (λ array n. Load array n go)) words
          ≡ answered (sizes_of arrays) line (option_map_or (λ (q : ℕ × ℕ). Ok (word_at words (word_number (sizes_of arrays) q.0 q.1))) p (Err cause.Index)) go words
      by_place None = refl
      by_place (Some p) = refl

  chosen_answered : (test : Bool) (first second : Expr) → IsAnswered first → IsAnswered second → (line : Line) (go : ℤ → Turn)
      → on_words (sizes_of arrays) (if test then reckoning arrays second line scalars go else reckoning arrays first line scalars go) words
      ≡ answered (sizes_of arrays) line (if test then value arrays scalars words second else value arrays scalars words first) go words
  chosen_answered true first second f s line go = s line go
  chosen_answered false first second f s line go = f line go

  both_answered : (test : Bool) (e : Expr) → IsAnswered e → (line : Line) (go : ℤ → Turn)
      → on_words (sizes_of arrays) (if test then go (pos 0) else reckoning arrays e line scalars (λ v. Go (go (truth v)))) words
      ≡ answered (sizes_of arrays) line (if test then Ok (pos 0) else and_then (value arrays scalars words e) (λ v. Ok (truth v))) go words
  both_answered true e is line go = refl
  both_answered false e is line go = is line (λ v. Go (go (truth v))) ∙ then_answered line (value arrays scalars words e) (λ v. Ok (truth v)) (λ v. Go (go (truth v))) go (λ v. refl)

  either_answered : (test : Bool) (e : Expr) → IsAnswered e → (line : Line) (go : ℤ → Turn)
      → on_words (sizes_of arrays) (if test then reckoning arrays e line scalars (λ v. Go (go (truth v))) else go (pos 1)) words
      ≡ answered (sizes_of arrays) line (if test then and_then (value arrays scalars words e) (λ v. Ok (truth v)) else Ok (pos 1)) go words
  either_answered true e is line go = is line (λ v. Go (go (truth v))) ∙ then_answered line (value arrays scalars words e) (λ v. Ok (truth v)) (λ v. Go (go (truth v))) go (λ v. refl)
  either_answered false e is line go = refl

  applied : (op : Bin) (left : ℤ) (e : Expr) → IsAnswered e → (line : Line) (go : ℤ → Turn)
      → on_words (sizes_of arrays) (reckoning arrays e line scalars (λ v. done_with line (apply op left v) go)) words
      ≡ answered (sizes_of arrays) line (and_then (value arrays scalars words e) (apply op left)) go words
  applied op left e is line go =
      is line (λ v. done_with line (apply op left v) go)
      ∙ then_answered line (value arrays scalars words e) (apply op left) (λ v. done_with line (apply op left v) go) go (λ v. done_with-answered (sizes_of arrays) line (apply op left v) go words)

  operated : (op : Bin) (left : ℤ) (e : Expr) → IsAnswered e → (line : Line) (go : ℤ → Turn)
      → on_words (sizes_of arrays) (operation_turn op left (reckoning arrays e) line scalars go) words
      ≡ answered (sizes_of arrays) line (operate op left (value arrays scalars words e)) go words
  operated bin.Both left e is line go = both_answered (is_zero left) e is line go
  operated bin.Either left e is line go = either_answered (is_zero left) e is line go
  operated bin.Add left e is line go = applied bin.Add left e is line go
  operated bin.Sub left e is line go = applied bin.Sub left e is line go
  operated bin.Mul left e is line go = applied bin.Mul left e is line go
  operated bin.Div left e is line go = applied bin.Div left e is line go
  operated bin.Rem left e is line go = applied bin.Rem left e is line go
  operated bin.Shl left e is line go = applied bin.Shl left e is line go
  operated bin.Shr left e is line go = applied bin.Shr left e is line go
  operated bin.And left e is line go = applied bin.And left e is line go
  operated bin.Xor left e is line go = applied bin.Xor left e is line go
  operated bin.Or left e is line go = applied bin.Or left e is line go
  operated bin.Less left e is line go = applied bin.Less left e is line go
  operated bin.LessEq left e is line go = applied bin.LessEq left e is line go
  operated bin.More left e is line go = applied bin.More left e is line go
  operated bin.MoreEq left e is line go = applied bin.MoreEq left e is line go
  operated bin.Equal left e is line go = applied bin.Equal left e is line go
  operated bin.NotEqual left e is line go = applied bin.NotEqual left e is line go

  -- one layer, with the parts already done
  abbrev Layer : Expr-F Expr → Type 0
  Layer x = Answers (reckoning_node arrays (map-Expr Expr Reckoning (reckoning arrays) x)) (value_node arrays scalars words (map-Expr Expr (Result ℤ Cause) (value arrays scalars words) x))

  layer : (y : Expr-F Such) → Layer (map-Expr Such Expr (λ e. e.0) y)
  layer (Expr-F.Number n) line go = refl
  layer (Expr-F.Scalar name) line go = refl
  layer (Expr-F.Word name place) line go =
      place.1 line (λ at. inside line (located arrays name at) (λ array n. Load array n go))
      ∙ then_answered line (value arrays scalars words place.0) (read arrays words name) (λ at. inside line (located arrays name at) (λ array n. Load array n go)) go (λ at. read_answered name at line go)
  layer (Expr-F.Unary op part) line go =
      part.1 line (λ v. Op (go (apply_un op v)))
      ∙ then_answered line (value arrays scalars words part.0) (λ v. Ok (apply_un op v)) (λ v. Op (go (apply_un op v))) go (λ v. refl)
  layer (Expr-F.Binary op left right) line go =
      left.1 line (λ v. operation_turn op v (reckoning arrays right.0) line scalars go)
      ∙ then_answered line (value arrays scalars words left.0) (λ v. operate op v (value arrays scalars words right.0)) (λ v. operation_turn op v (reckoning arrays right.0) line scalars go) go (λ v. operated op v right.0 right.1 line go)
  layer (Expr-F.Choice test first second) line go =
      test.1 line (λ v. Go (if is_zero v then reckoning arrays second.0 line scalars go else reckoning arrays first.0 line scalars go))
      ∙ then_answered line (value arrays scalars words test.0) (λ v. if is_zero v then value arrays scalars words second.0 else value arrays scalars words first.0)
      (λ v. Go (if is_zero v then reckoning arrays second.0 line scalars go else reckoning arrays first.0 line scalars go)) go
      (λ v. chosen_answered (is_zero v) first.0 second.0 first.1 second.1 line go)

  -- what an expression does is its value
  pub reckoned : (e : Expr) → Answers (reckoning arrays e) (value arrays scalars words e)
  reckoned = ind-Expr IsAnswered (λ x y is.
      let here : Layer x = subst Layer is (layer y) in
      let with_value = subst (λ result. Answers (reckoning_node arrays (map-Expr Expr Reckoning (reckoning arrays) x)) result) (sym (fold-roll-Expr (Result ℤ Cause) (value_node arrays scalars words) x)) here in
      subst (λ does. Answers does (value arrays scalars words (roll-Expr x))) (sym (fold-roll-Expr Reckoning (reckoning_node arrays) x)) with_value)

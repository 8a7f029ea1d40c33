-- How the parts of a body run, put together.
use Rattle.std.proofs.Common.{◌≡◌, ℕ, suc, ◌+◌, ◌-◌, ◌<◌, ◌≤◌, ℤ, true, false, Option, Some, None, Result, Ok, Err, List, [], ◌∷◌, map, length, drop, get_or, refl, sym, ap, ◌∙◌, subst, arith, drop-cons, add-one}
use Rattle.std.specs.Option.{option_map, option_map_or, option_and_then}
use Rattle.std.proofs.lemmas.List.{drop_all}
use Rattle.nest_syntax.specs.declared.names.Line.{Line}
use Rattle.nest_syntax.specs.declared.operators.Bin.{Bin}
use Rattle.nest_syntax.specs.declared.operators.Op.{Op}
use Rattle.nest_syntax.specs.declared.operators.Op.TheVariants as op
use Rattle.nest_syntax.specs.declared.operators.Cause.{Cause}
use Rattle.nest_syntax.specs.declared.tree.Expr.{Expr}
use Rattle.nest_syntax.specs.declared.tree.Stmt.{Stmt}
use Rattle.nest_syntax.specs.declared.tree.Stmt.TheVariants as stmt
use Rattle.nest_syntax.specs.declared.tree.Stmt.TheOpen.{Stmt-F}
use Rattle.nest_syntax.specs.Words.{apply, operation_of, assigned}
use Rattle.nest_syntax.specs.Arrays.{Array, array_of, sizes_of, place_of, located, word_number, word_at, with_word}
use Rattle.nest_syntax.specs.Value.{value, scalar_at, with_scalar}
use Rattle.nest_syntax.specs.Turn.{Turn, Store, Op as Op', Go, Effect, reckoning, inside, assigning, writing, sequence, repeat, effect, effect_node}
use Rattle.nest_syntax.specs.Reads.{Stopped, on_words, answered}
use Rattle.nest_syntax.proofs.Equations.{effect-declare, given-declare}
use Rattle.nest_syntax.proofs.Reckoned.{done_with-answered, reckoned}
use Rattle.word_store.specs.Memory.{Memory, loaded, stored}
use Rattle.nest_mean.specs.declared.bodies.TurnTrap.{TurnTrap}
use Rattle.nest_syntax.specs.Among.{is_among}
use Rattle.nest_mean.specs.NamesChanged.{changed, names_changed, KeepsOthers}
use Rattle.nest_mean.specs.TurnParts.{went_on_with, at_line, Runs}
use Rattle.nest_mean.proofs.Names.{among_here, among_behind, among_part, keeps_same, keeps_then, keeps_more, keeps_set}

module _ (arrays : List Array) where
  -- what an expression does goes on with its value
  pub reckoned_at : (scalars words : List ℤ) (e : Expr) (line : Line) (result : Result ℤ TurnTrap) → result ≡ at_line line (value arrays scalars words e)
      → (go : ℤ → Turn) → on_words (sizes_of arrays) (reckoning arrays e line scalars go) words ≡ went_on_with (sizes_of arrays) result go words
  reckoned_at scalars words e line result is go =
      reckoned arrays scalars words e line go ∙ by_value (value arrays scalars words e) ∙ ap (λ r. went_on_with (sizes_of arrays) r go words) (sym is)
    where
      by_value : (v : Result ℤ Cause) → answered (sizes_of arrays) line v go words ≡ went_on_with (sizes_of arrays) (at_line line v) go words
      by_value (Ok v) = refl
      by_value (Err cause) = refl

  assigning_is : (line : Line) (operation : Option Bin) (old right : ℤ) (go : ℤ → Turn) (words : List ℤ)
      → on_words (sizes_of arrays) (assigning line operation old right go) words ≡ answered (sizes_of arrays) line (assigned operation old right) go words
  assigning_is line None old right go words = refl
  assigning_is line (Some operation) old right go words = done_with-answered (sizes_of arrays) line (apply operation old right) go words

  -- an effect that stops before it changes anything
  pub runs_stops : (does : Effect) (names : List ℕ) (trap : TurnTrap) (scalars : List ℤ) (memory : Memory)
      → ((go : List ℤ → Turn) → on_words (sizes_of arrays) (does scalars go) memory.words ≡ Stopped trap.cause trap.line memory.words)
      → Runs arrays does names (Err trap) scalars memory scalars memory
  runs_stops does names trap scalars memory stops = record { same = stops; sizes = refl; kept = keeps_same names scalars }

  -- the same effect, with the same names or more
  pub runs_as : (does does' : Effect) (names names' : List ℕ) (result : Result (Unit {0}) TurnTrap) (s : List ℤ) (m : Memory) (s' : List ℤ) (m' : Memory)
      → does' ≡ does → ((name : ℕ) → is_among names' name ≡ false → is_among names name ≡ false)
      → Runs arrays does names result s m s' m' → Runs arrays does' names' result s m s' m'
  runs_as does does' names names' result s m s' m' is fewer runs = record {
    same = λ go. ap (λ f. on_words (sizes_of arrays) (f s go) m.words) is ∙ runs.same go;
    sizes = runs.sizes;
    kept = keeps_more names names' s s' fewer runs.kept;
  }

  -- `=` and `op=` of a scalar
  module _ (line : Line) (name : ℕ) (o : Op) (e : Expr) (scalars : List ℤ) (memory : Memory) where
    abbrev Changes : Result (Unit {0}) TurnTrap → List ℤ → Type 0
    Changes result scalars' = Runs arrays (effect_node arrays (Stmt-F.Assign line name o e)) (name ∷ []) result scalars memory scalars' memory

    pub scalar_stops : (trap : TurnTrap) → Err trap ≡ at_line line (value arrays scalars memory.words e) → Changes (Err trap) scalars
    scalar_stops trap is = runs_stops (effect_node arrays (Stmt-F.Assign line name o e)) (name ∷ []) trap scalars memory (λ go. reckoned_at scalars memory.words e line (Err trap) is _)

    pub scalar_traps : (right : ℤ) (cause : Cause) → Ok right ≡ at_line line (value arrays scalars memory.words e) → Err cause ≡ assigned (operation_of o) (scalar_at scalars name) right
        → Changes (Err (record { cause = cause; line = line })) scalars
    scalar_traps right cause is traps = runs_stops (effect_node arrays (Stmt-F.Assign line name o e)) (name ∷ []) (record { cause = cause; line = line }) scalars memory (λ go.
        reckoned_at scalars memory.words e line (Ok right) is _
        ∙ assigning_is line (operation_of o) (scalar_at scalars name) right (λ new. Op' (go (with_scalar scalars name new))) memory.words
        ∙ ap (λ r. answered (sizes_of arrays) line r (λ new. Op' (go (with_scalar scalars name new))) memory.words) (sym traps))

    pub scalar_changes : (right new : ℤ) (scalars' : List ℤ) → Ok right ≡ at_line line (value arrays scalars memory.words e) → Ok new ≡ assigned (operation_of o) (scalar_at scalars name) right
        → scalars' ≡ with_scalar scalars name new → Changes (Ok tt) scalars'
    scalar_changes right new scalars' is becomes after = subst (λ s. Changes (Ok tt) s) (sym after) (record {
      same = λ go.
          reckoned_at scalars memory.words e line (Ok right) is _
          ∙ assigning_is line (operation_of o) (scalar_at scalars name) right (λ n. Op' (go (with_scalar scalars name n))) memory.words
          ∙ ap (λ r. answered (sizes_of arrays) line r (λ n. Op' (go (with_scalar scalars name n))) memory.words) (sym becomes);
      sizes = refl;
      kept = keeps_set (name ∷ []) scalars name new (among_here name []);
    })

  -- a declaration does what `=` does
  pub runs_declare : (line : Line) (name : ℕ) (e : Expr) (result : Result (Unit {0}) TurnTrap) (s : List ℤ) (m : Memory) (s' : List ℤ) (m' : Memory)
      → Runs arrays (effect_node arrays (Stmt-F.Assign line name op.Set e)) (name ∷ []) result s m s' m' → Runs arrays (effect arrays (stmt.Declare line name e)) (changed (stmt.Declare line name e)) result s m s' m'
  runs_declare line name e result s m s' m' runs = runs_as (effect_node arrays (Stmt-F.Declare line name e)) (effect arrays (stmt.Declare line name e)) (name ∷ []) (changed (stmt.Declare line name e)) result s m s' m'
      (effect-declare arrays line name e) (λ other apart. ap (λ ns. is_among ns other) (sym (given-declare true line name e)) ∙ apart) (record { same = runs.same; sizes = runs.sizes; kept = runs.kept })

  -- `=` and `op=` of a word
  module _ (line : Line) (array : ℕ) (at right new : ℤ) (rest : Turn) (memory : Memory) where
    writing_is : (operation : Option Bin) (place : ℕ) → assigned operation (word_at memory.words (word_number memory.sizes array place)) right ≡ Ok new
        → on_words memory.sizes (writing line operation array place right rest) memory.words ≡ on_words memory.sizes rest (with_word memory.words (word_number memory.sizes array place) new)
    writing_is None place becomes = let same : right ≡ new = cc in ap (λ v. on_words memory.sizes rest (with_word memory.words (word_number memory.sizes array place) v)) same
    writing_is (Some operation) place becomes =
        done_with-answered memory.sizes line (apply operation (word_at memory.words (word_number memory.sizes array place)) right) (λ v. Store array place v rest) memory.words
        ∙ ap (λ r. answered memory.sizes line r (λ v. Store array place v rest) memory.words) becomes

    by_place : (o : Op) (old : ℤ) (place : Option ℕ) → option_map (word_at memory.words) (option_map (word_number memory.sizes array) place) ≡ Some old → assigned (operation_of o) old right ≡ Ok new
        → on_words memory.sizes (inside line (option_map (λ (p : ℕ). (array, p)) place) (λ a n. writing line (operation_of o) a n right rest)) memory.words
        ≡ on_words memory.sizes rest (option_map_or (λ n. record memory { words = with_word memory.words n new }) (option_map (word_number memory.sizes array) place) memory).words
    by_place o old None was becomes = cc
    by_place o old (Some place) was becomes =
        let same : word_at memory.words (word_number memory.sizes array place) ≡ old = cc in
        writing_is (operation_of o) place (ap (λ v. assigned (operation_of o) v right) same ∙ becomes)

    pub word_changes : (o : Op) (name : ℕ) (old : ℤ) (memory' : Memory) → array_of arrays name ≡ Some array → memory.sizes ≡ sizes_of arrays → loaded memory array at ≡ Some old
        → assigned (operation_of o) old right ≡ Ok new → memory' ≡ stored memory array at new
        → on_words (sizes_of arrays) (inside line (located arrays name at) (λ a n. writing line (operation_of o) a n right rest)) memory.words ≡ on_words (sizes_of arrays) rest memory'.words
    word_changes o name old memory' named sizes was becomes after =
        ap (λ a. on_words (sizes_of arrays) (inside line (option_and_then (λ (n : ℕ). option_map (λ (place : ℕ). (n, place)) (place_of (sizes_of arrays) n at)) a) (λ a n. writing line (operation_of o) a n right rest)) memory.words) named
        ∙ subst (λ sz. on_words sz (inside line (option_map (λ (place : ℕ). (array, place)) (place_of sz array at)) (λ a n. writing line (operation_of o) a n right rest)) memory.words ≡ on_words sz rest (stored memory array at new).words)
        sizes (by_place o old (place_of memory.sizes array at) was becomes)
        ∙ ap (λ m. on_words (sizes_of arrays) rest m.words) (sym after)

  -- how far a list of statements, or the turns of a loop, have come: what is left goes on from these scalars and words
  pub record IsLeft (whole rest : Effect) (names : List ℕ) (s₀ : List ℤ) (m₀ : Memory) (s : List ℤ) (m : Memory) : Type 0 where
    pub same : (go : List ℤ → Turn) → on_words (sizes_of arrays) (whole s₀ go) m₀.words ≡ on_words (sizes_of arrays) (rest s go) m.words
    pub sizes : m.sizes ≡ m₀.sizes
    pub kept : KeepsOthers names s₀ s

  pub all_left : (whole : Effect) (names : List ℕ) (s : List ℤ) (m : Memory) → IsLeft whole whole names s m s m
  all_left whole names s m = record { same = λ go. refl; sizes = refl; kept = keeps_same names s }

  -- the next part runs
  pub part_runs : (whole rest next part : Effect) (names names' : List ℕ) (s₀ : List ℤ) (m₀ : Memory) (s : List ℤ) (m : Memory) (s' : List ℤ) (m' : Memory)
      → rest ≡ (λ scalars go. part scalars (λ after. next after go)) → ((name : ℕ) → is_among names name ≡ false → is_among names' name ≡ false)
      → IsLeft whole rest names s₀ m₀ s m → Runs arrays part names' (Ok tt) s m s' m' → IsLeft whole next names s₀ m₀ s' m'
  part_runs whole rest next part names names' s₀ m₀ s m s' m' is fewer left runs = record {
    same = λ go. left.same go ∙ ap (λ f. on_words (sizes_of arrays) (f s go) m.words) is ∙ runs.same (λ after. next after go);
    sizes = runs.sizes ∙ left.sizes;
    kept = keeps_then names s₀ s s' left.kept (keeps_more names' names s s' fewer runs.kept);
  }

  -- the next part stops
  pub part_stops : (whole rest next part : Effect) (names names' : List ℕ) (trap : TurnTrap) (s₀ : List ℤ) (m₀ : Memory) (s : List ℤ) (m : Memory) (s' : List ℤ) (m' : Memory)
      → rest ≡ (λ scalars go. part scalars (λ after. next after go)) → ((name : ℕ) → is_among names name ≡ false → is_among names' name ≡ false)
      → IsLeft whole rest names s₀ m₀ s m → Runs arrays part names' (Err trap) s m s' m' → Runs arrays whole names (Err trap) s₀ m₀ s' m'
  part_stops whole rest next part names names' trap s₀ m₀ s m s' m' is fewer left runs = record {
    same = λ go. left.same go ∙ ap (λ f. on_words (sizes_of arrays) (f s go) m.words) is ∙ runs.same (λ after. next after go);
    sizes = runs.sizes ∙ left.sizes;
    kept = keeps_then names s₀ s s' left.kept (keeps_more names' names s s' fewer runs.kept);
  }

  -- nothing is left
  pub none_left : (whole rest : Effect) (names : List ℕ) (s₀ : List ℤ) (m₀ : Memory) (s : List ℤ) (m : Memory) → rest ≡ (λ scalars go. go scalars)
      → IsLeft whole rest names s₀ m₀ s m → Runs arrays whole names (Ok tt) s₀ m₀ s m
  none_left whole rest names s₀ m₀ s m is left = record {
    same = λ go. left.same go ∙ ap (λ f. on_words (sizes_of arrays) (f s go) m.words) is;
    sizes = left.sizes;
    kept = left.kept;
  }

  -- statements one after the other, from place i on
  module _ (stmts : List Stmt) where
    abbrev pub block : Effect
    block = sequence (map (effect arrays) stmts)

    abbrev pub block_from : ℕ → Effect
    block_from i = sequence (map (effect arrays) (drop i stmts))

    module _ (i : ℕ) (there : i < length stmts) (here : Stmt) (is : here ≡ get_or stmts i here) where
      block_from-is : block_from i ≡ (λ scalars go. effect arrays here scalars (λ after. block_from (i + 1) after go))
      block_from-is = ap (λ rest. sequence (map (effect arrays) rest)) (drop-cons stmts i here there)
          ∙ ap (λ x. λ scalars go. effect arrays x scalars (λ after. block_from (suc i) after go)) (sym is)
          ∙ ap (λ k. λ scalars go. effect arrays here scalars (λ after. block_from k after go)) (sym (add-one i))

      here_names : (name : ℕ) → is_among (names_changed stmts) name ≡ false → is_among (changed here) name ≡ false
      here_names name apart = ap (λ x. is_among (changed x) name) is ∙ among_part changed stmts i here there name apart

      pub block_runs : (s₀ : List ℤ) (m₀ : Memory) (s : List ℤ) (m : Memory) (s' : List ℤ) (m' : Memory)
          → IsLeft block (block_from i) (names_changed stmts) s₀ m₀ s m → Runs arrays (effect arrays here) (changed here) (Ok tt) s m s' m'
          → IsLeft block (block_from (i + 1)) (names_changed stmts) s₀ m₀ s' m'
      block_runs s₀ m₀ s m s' m' left runs =
          part_runs block (block_from i) (block_from (i + 1)) (effect arrays here) (names_changed stmts) (changed here) s₀ m₀ s m s' m' block_from-is here_names left runs

      pub block_stops : (trap : TurnTrap) (s₀ : List ℤ) (m₀ : Memory) (s : List ℤ) (m : Memory) (s' : List ℤ) (m' : Memory)
          → IsLeft block (block_from i) (names_changed stmts) s₀ m₀ s m → Runs arrays (effect arrays here) (changed here) (Err trap) s m s' m'
          → Runs arrays block (names_changed stmts) (Err trap) s₀ m₀ s' m'
      block_stops trap s₀ m₀ s m s' m' left runs =
          part_stops block (block_from i) (block_from (i + 1)) (effect arrays here) (names_changed stmts) (changed here) trap s₀ m₀ s m s' m' block_from-is here_names left runs

    pub block_ends : (i : ℕ) (s₀ : List ℤ) (m₀ : Memory) (s : List ℤ) (m : Memory) → length stmts ≤ i
        → IsLeft block (block_from i) (names_changed stmts) s₀ m₀ s m → Runs arrays block (names_changed stmts) (Ok tt) s₀ m₀ s m
    block_ends i s₀ m₀ s m over left = none_left block (block_from i) (names_changed stmts) s₀ m₀ s m (ap (λ rest. sequence (map (effect arrays) rest)) (drop_all i stmts over)) left

  -- turns of a loop, n in all, from turn k on
  module _ (n : ℕ) (variable_in : ℕ → ℤ) (name : ℕ) (body : List Stmt) where
    abbrev pub all_turns : Effect
    all_turns = repeat n 0 variable_in name (sequence (map (effect arrays) body))

    abbrev pub turns_from : ℕ → Effect
    turns_from k = repeat (n - k) k variable_in name (sequence (map (effect arrays) body))

    pub turns_begin : (s : List ℤ) (m : Memory) → IsLeft all_turns (turns_from 0) (name ∷ names_changed body) s m s m
    turns_begin s m = let all : n ≡ n - 0 = omega arith in record {
      same = λ go. ap (λ l. on_words (sizes_of arrays) (repeat l 0 variable_in name (sequence (map (effect arrays) body)) s go) m.words) all;
      sizes = refl;
      kept = keeps_same (name ∷ names_changed body) s;
    }

    turns_from-is : (k : ℕ) → k < n → turns_from k ≡ (λ scalars go. sequence (map (effect arrays) body) (with_scalar scalars name (variable_in k)) (λ after. Go (turns_from (k + 1) after go)))
    turns_from-is k there =
        let left : n - k ≡ suc (n - (k + 1)) = omega arith in
        ap (λ l. repeat l k variable_in name (sequence (map (effect arrays) body))) left
        ∙ ap (λ j. λ scalars go. sequence (map (effect arrays) body) (with_scalar scalars name (variable_in k)) (λ after. Go (repeat (n - (k + 1)) j variable_in name (sequence (map (effect arrays) body)) after go))) (sym (add-one k))

    module _ (s₀ : List ℤ) (m₀ : Memory) (s : List ℤ) (m : Memory) (s' : List ℤ) (m' : Memory) (k : ℕ) (there : k < n) (left : IsLeft all_turns (turns_from k) (name ∷ names_changed body) s₀ m₀ s m) where
      turn_kept : (result : Result (Unit {0}) TurnTrap) → Runs arrays (sequence (map (effect arrays) body)) (names_changed body) result (with_scalar s name (variable_in k)) m s' m' → KeepsOthers (name ∷ names_changed body) s₀ s'
      turn_kept result runs = keeps_then (name ∷ names_changed body) s₀ s s' left.kept
          (keeps_then (name ∷ names_changed body) s (with_scalar s name (variable_in k)) s'
          (keeps_set (name ∷ names_changed body) s name (variable_in k) (among_here name (names_changed body)))
          (keeps_more (names_changed body) (name ∷ names_changed body) (with_scalar s name (variable_in k)) s' (among_behind name (names_changed body)) runs.kept))

      pub turn_runs : Runs arrays (sequence (map (effect arrays) body)) (names_changed body) (Ok tt) (with_scalar s name (variable_in k)) m s' m'
          → IsLeft all_turns (turns_from (k + 1)) (name ∷ names_changed body) s₀ m₀ s' m'
      turn_runs runs = record {
        same = λ go. left.same go ∙ ap (λ f. on_words (sizes_of arrays) (f s go) m.words) (turns_from-is k there) ∙ runs.same (λ after. Go (turns_from (k + 1) after go));
        sizes = runs.sizes ∙ left.sizes;
        kept = turn_kept (Ok tt) runs;
      }

      pub turn_stops : (trap : TurnTrap) → Runs arrays (sequence (map (effect arrays) body)) (names_changed body) (Err trap) (with_scalar s name (variable_in k)) m s' m'
          → Runs arrays all_turns (name ∷ names_changed body) (Err trap) s₀ m₀ s' m'
      turn_stops trap runs = record {
        same = λ go. left.same go ∙ ap (λ f. on_words (sizes_of arrays) (f s go) m.words) (turns_from-is k there) ∙ runs.same (λ after. Go (turns_from (k + 1) after go));
        sizes = runs.sizes ∙ left.sizes;
        kept = turn_kept (Err trap) runs;
      }

    pub turns_end : (k : ℕ) (s₀ : List ℤ) (m₀ : Memory) (s : List ℤ) (m : Memory) → n ≤ k → IsLeft all_turns (turns_from k) (name ∷ names_changed body) s₀ m₀ s m
        → Runs arrays all_turns (name ∷ names_changed body) (Ok tt) s₀ m₀ s m
    turns_end k s₀ m₀ s m over left =
        let over' : n - k ≡ 0 = omega arith in
        none_left all_turns (turns_from k) (name ∷ names_changed body) s₀ m₀ s m (ap (λ l. repeat l k variable_in name (sequence (map (effect arrays) body))) over') left

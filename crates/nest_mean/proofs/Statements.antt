-- How arms, loops and statements run, from how their parts do.
use Rattle.std.proofs.Common.{◌≡◌, ℕ, suc, ◌+◌, ◌<◌, ◌≤◌, ℤ, Bool, true, false, if◌then◌else◌, Result, Ok, Err, List, map, length, drop, get_or, refl, sym, ap, ◌∙◌, subst, drop-cons, add-one}
use Rattle.std.proofs.lemmas.List.{drop_all}
use Rattle.nest_syntax.specs.declared.names.Line.{Line}
use Rattle.nest_syntax.specs.declared.operators.Op.{Op}
use Rattle.nest_syntax.specs.declared.operators.Cause.{Cause}
use Rattle.nest_syntax.specs.declared.tree.Expr.{Expr}
use Rattle.nest_syntax.specs.declared.tree.Arm.{Arm}
use Rattle.nest_syntax.specs.declared.tree.Loop.{Loop}
use Rattle.nest_syntax.specs.declared.tree.Stmt.{Stmt}
use Rattle.nest_syntax.specs.declared.tree.Stmt.TheVariants as stmt
use Rattle.nest_syntax.specs.Words.{is_zero, operation_of, turns, counted, variable}
use Rattle.nest_syntax.specs.Arrays.{Array, sizes_of, located}
use Rattle.nest_syntax.specs.Value.{value}
use Rattle.nest_syntax.specs.Turn.{Turn, Go, Effect, reckoning, inside, writing, sequence, repeat, looping, choose, effect, loop_effect}
use Rattle.nest_syntax.specs.Reads.{on_words}
use Rattle.nest_syntax.proofs.Equations.{arm_effect, arm_effect-is, loop_effect-is, effect-write, effect-if, given-if, given_in_arm-is}
use Rattle.word_store.specs.Memory.{Memory}
use Rattle.nest_mean.specs.declared.bodies.TurnTrap.{TurnTrap}
use Rattle.std.specs.List.{concat}
use Rattle.nest_syntax.specs.Among.{is_among}
use Rattle.nest_mean.specs.NamesChanged.{changed, changed_in_arm, changed_in_loop, names_changed, KeepsOthers}
use Rattle.nest_mean.specs.TurnParts.{went_on_with, at_line, Runs, RunsArms}
use Rattle.nest_mean.proofs.Names.{among_left, among_right, among_part, keeps_same, keeps_then, keeps_more}
use Rattle.nest_mean.proofs.Parts.{reckoned_at, runs_stops}

module _ (arrays : List Array) where
  -- arms, from place i on: those before it had a test that is 0
  module _ (arms : List Arm) where
    abbrev pub arms_from : ℕ → Effect → Effect
    arms_from i = choose (map (arm_effect arrays) (drop i arms))

    pub record AreLeft (i : ℕ) (s₀ : List ℤ) (m₀ : Memory) (s : List ℤ) (m : Memory) : Type 0 where
      pub scalars : s ≡ s₀
      pub memory : m ≡ m₀
      pub same : (other : Effect) (go : List ℤ → Turn) → on_words (sizes_of arrays) (arms_from 0 other s₀ go) m₀.words ≡ on_words (sizes_of arrays) (arms_from i other s₀ go) m₀.words

    pub all_arms_left : (s : List ℤ) (m : Memory) → AreLeft 0 s m s m
    all_arms_left s m = record { scalars = refl; memory = refl; same = λ other go. refl }

    tested : Arm → ℕ → Effect → Effect
    tested arm i other scalars go = reckoning arrays arm.test arm.line scalars (λ v. Go (if is_zero v then arms_from (i + 1) other scalars go else sequence (map (effect arrays) arm.body) scalars go))

    module _ (i : ℕ) (there : i < length arms) (here : Arm) (here_is : here ≡ get_or arms i here) where
      arm_at : (other : Effect) (s : List ℤ) (go : List ℤ → Turn) → arms_from i other s go ≡ tested here i other s go
      unfolding tested
      arm_at other s go =
          ap (λ rest. choose (map (arm_effect arrays) rest) other s go) (drop-cons arms i here there)
          ∙ ap (λ x. arm_effect arrays x s (arms_from (suc i) other s go) go) (sym here_is)
          ∙ ap (λ f. f s (arms_from (suc i) other s go) go) (arm_effect-is arrays here)
          ∙ ap (λ k. reckoning arrays here.test here.line s (λ v. Go (if is_zero v then arms_from k other s go else sequence (map (effect arrays) here.body) s go))) (sym (add-one i))

      test_is : (other : Effect) (s : List ℤ) (m : Memory) (go : List ℤ → Turn) (result : Result ℤ TurnTrap) → result ≡ at_line here.line (value arrays s m.words here.test)
          → on_words (sizes_of arrays) (arms_from i other s go) m.words ≡ went_on_with (sizes_of arrays) result (λ v. Go (if is_zero v then arms_from (i + 1) other s go else sequence (map (effect arrays) here.body) s go)) m.words
      unfolding tested
      test_is other s m go result is = ap (λ t. on_words (sizes_of arrays) t m.words) (arm_at other s go) ∙ reckoned_at arrays s m.words here.test here.line result is _

      here_names : (name : ℕ) → is_among (concat (map changed_in_arm arms)) name ≡ false → is_among (names_changed here.body) name ≡ false
      here_names name apart = ap (λ ns. is_among ns name) (sym (given_in_arm-is true here)) ∙ ap (λ x. is_among (changed_in_arm x) name) here_is ∙ among_part changed_in_arm arms i here there name apart

      -- an arm whose test is 0
      pub arm_passes : (v : ℤ) (s₀ : List ℤ) (m₀ : Memory) (s : List ℤ) (m : Memory) → AreLeft i s₀ m₀ s m → Ok v ≡ at_line here.line (value arrays s m.words here.test) → is_zero v ≡ true → AreLeft (i + 1) s₀ m₀ s m
      arm_passes v s₀ m₀ s m left is zero = record {
        scalars = left.scalars;
        memory = left.memory;
        same = λ other go.
            let is' : Ok v ≡ at_line here.line (value arrays s₀ m₀.words here.test) = subst (λ ws. Ok v ≡ at_line here.line (value arrays s₀ ws here.test)) (ap (λ (w : Memory). w.words) left.memory) (subst (λ t. Ok v ≡ at_line here.line (value arrays t m.words here.test)) left.scalars is) in
            left.same other go ∙ test_is other s₀ m₀ go (Ok v) is'
            ∙ ap (λ b. on_words (sizes_of arrays) (if b then arms_from (i + 1) other s₀ go else sequence (map (effect arrays) here.body) s₀ go) m₀.words) zero;
      }

      -- an arm whose test traps
      pub arm_stops : (trap : TurnTrap) (s₀ : List ℤ) (m₀ : Memory) (s : List ℤ) (m : Memory) → AreLeft i s₀ m₀ s m → Err trap ≡ at_line here.line (value arrays s m.words here.test)
          → RunsArms arrays (map (arm_effect arrays) arms) (concat (map changed_in_arm arms)) (Err trap) s₀ m₀ s m
      arm_stops trap s₀ m₀ s m left is = record {
        same = λ other go. left.same other go ∙ ap (λ t. on_words (sizes_of arrays) (arms_from i other t go) m₀.words) (sym left.scalars)
            ∙ ap (λ (w : Memory). on_words (sizes_of arrays) (arms_from i other s go) w.words) (sym left.memory) ∙ test_is other s m go (Err trap) is;
        sizes = ap (λ (w : Memory). w.sizes) left.memory;
        kept = subst (λ t. KeepsOthers (concat (map changed_in_arm arms)) s₀ t) (sym left.scalars) (keeps_same _ s₀);
      }

      -- an arm whose test isn't 0: its block was carried out, to its end or to a trap
      module _ (v : ℤ) (s₀ : List ℤ) (m₀ : Memory) (s : List ℤ) (m : Memory) (left : AreLeft i s₀ m₀ s m) (is : Ok v ≡ at_line here.line (value arrays s m.words here.test)) (not_zero : is_zero v ≡ false) where
        block_of : (other : Effect) (go : List ℤ → Turn) → on_words (sizes_of arrays) (arms_from 0 other s₀ go) m₀.words ≡ on_words (sizes_of arrays) (sequence (map (effect arrays) here.body) s go) m.words
        block_of other go = left.same other go ∙ ap (λ t. on_words (sizes_of arrays) (arms_from i other t go) m₀.words) (sym left.scalars)
            ∙ ap (λ (w : Memory). on_words (sizes_of arrays) (arms_from i other s go) w.words) (sym left.memory) ∙ test_is other s m go (Ok v) is
            ∙ ap (λ b. on_words (sizes_of arrays) (if b then arms_from (i + 1) other s go else sequence (map (effect arrays) here.body) s go) m.words) not_zero

        sizes_kept : (m' : Memory) → m'.sizes ≡ m.sizes → m'.sizes ≡ m₀.sizes
        sizes_kept m' e = e ∙ ap (λ (w : Memory). w.sizes) left.memory

        names_kept : (s' : List ℤ) → KeepsOthers (names_changed here.body) s s' → KeepsOthers (concat (map changed_in_arm arms)) s₀ s'
        names_kept s' kept = subst (λ t. KeepsOthers (concat (map changed_in_arm arms)) t s') left.scalars (keeps_more (names_changed here.body) (concat (map changed_in_arm arms)) s s' here_names kept)

        pub arm_runs : (s' : List ℤ) (m' : Memory) → Runs arrays (sequence (map (effect arrays) here.body)) (names_changed here.body) (Ok tt) s m s' m'
            → RunsArms arrays (map (arm_effect arrays) arms) (concat (map changed_in_arm arms)) (Ok true) s₀ m₀ s' m'
        arm_runs s' m' runs = record { same = λ other go. block_of other go ∙ runs.same go; sizes = sizes_kept m' runs.sizes; kept = names_kept s' runs.kept }

        pub arm_traps : (trap : TurnTrap) (s' : List ℤ) (m' : Memory) → Runs arrays (sequence (map (effect arrays) here.body)) (names_changed here.body) (Err trap) s m s' m'
            → RunsArms arrays (map (arm_effect arrays) arms) (concat (map changed_in_arm arms)) (Err trap) s₀ m₀ s' m'
        arm_traps trap s' m' runs = record { same = λ other go. block_of other go ∙ runs.same go; sizes = sizes_kept m' runs.sizes; kept = names_kept s' runs.kept }

    -- no arm is left
    pub arms_end : (i : ℕ) (s₀ : List ℤ) (m₀ : Memory) (s : List ℤ) (m : Memory) → length arms ≤ i → AreLeft i s₀ m₀ s m
        → RunsArms arrays (map (arm_effect arrays) arms) (concat (map changed_in_arm arms)) (Ok false) s₀ m₀ s m
    arms_end i s₀ m₀ s m over left = record {
      same = λ other go. left.same other go ∙ ap (λ rest. on_words (sizes_of arrays) (choose (map (arm_effect arrays) rest) other s₀ go) m₀.words) (drop_all i arms over)
          ∙ ap (λ t. on_words (sizes_of arrays) (other t go) m₀.words) (sym left.scalars) ∙ ap (λ (w : Memory). on_words (sizes_of arrays) (other s go) w.words) (sym left.memory);
      sizes = ap (λ (w : Memory). w.sizes) left.memory;
      kept = subst (λ t. KeepsOthers (concat (map changed_in_arm arms)) s₀ t) (sym left.scalars) (keeps_same _ s₀);
    }

  -- a loop
  module _ (l : Loop) (s : List ℤ) (m : Memory) where
    body_turns : ℤ → ℤ → Effect
    body_turns low high = looping l.line (counted (turns low high l.step l.through)) (variable low l.step) l.name (sequence (map (effect arrays) l.body))

    loop_is : (go : List ℤ → Turn) → on_words (sizes_of arrays) (loop_effect arrays l s go) m.words
        ≡ on_words (sizes_of arrays) (reckoning arrays l.low l.line s (λ low. reckoning arrays l.high l.line s (λ high. body_turns low high s go))) m.words
    unfolding body_turns
    loop_is go = ap (λ f. on_words (sizes_of arrays) (f s go) m.words) (loop_effect-is arrays l)

    pub loop_stops_low : (trap : TurnTrap) → Err trap ≡ at_line l.line (value arrays s m.words l.low) → Runs arrays (loop_effect arrays l) (changed_in_loop l) (Err trap) s m s m
    loop_stops_low trap is = runs_stops arrays (loop_effect arrays l) (changed_in_loop l) trap s m (λ go. loop_is go ∙ reckoned_at arrays s m.words l.low l.line (Err trap) is _)

    module _ (low : ℤ) (low_is : Ok low ≡ at_line l.line (value arrays s m.words l.low)) where
      pub loop_stops_high : (trap : TurnTrap) → Err trap ≡ at_line l.line (value arrays s m.words l.high) → Runs arrays (loop_effect arrays l) (changed_in_loop l) (Err trap) s m s m
      loop_stops_high trap is = runs_stops arrays (loop_effect arrays l) (changed_in_loop l) trap s m
          (λ go. loop_is go ∙ reckoned_at arrays s m.words l.low l.line (Ok low) low_is _ ∙ reckoned_at arrays s m.words l.high l.line (Err trap) is _)

      module _ (high : ℤ) (high_is : Ok high ≡ at_line l.line (value arrays s m.words l.high)) where
        bounds_are : (go : List ℤ → Turn) → on_words (sizes_of arrays) (loop_effect arrays l s go) m.words ≡ on_words (sizes_of arrays) (body_turns low high s go) m.words
        bounds_are go = loop_is go ∙ reckoned_at arrays s m.words l.low l.line (Ok low) low_is _ ∙ reckoned_at arrays s m.words l.high l.line (Ok high) high_is _

        pub loop_traps : (cause : Cause) → Err cause ≡ counted (turns low high l.step l.through) → Runs arrays (loop_effect arrays l) (changed_in_loop l) (Err (record { cause = cause; line = l.line })) s m s m
        unfolding body_turns
        loop_traps cause is = runs_stops arrays (loop_effect arrays l) (changed_in_loop l) (record { cause = cause; line = l.line }) s m
            (λ go. bounds_are go ∙ ap (λ c. on_words (sizes_of arrays) (looping l.line c (variable low l.step) l.name (sequence (map (effect arrays) l.body)) s go) m.words) (sym is))

        pub loop_runs : (count : ℕ) (result : Result (Unit {0}) TurnTrap) (s' : List ℤ) (m' : Memory) → Ok count ≡ counted (turns low high l.step l.through)
            → Runs arrays (repeat count 0 (variable low l.step) l.name (sequence (map (effect arrays) l.body))) (changed_in_loop l) result s m s' m' → Runs arrays (loop_effect arrays l) (changed_in_loop l) result s m s' m'
        unfolding body_turns
        loop_runs count result s' m' is runs = record {
          same = λ go. bounds_are go ∙ ap (λ c. on_words (sizes_of arrays) (looping l.line c (variable low l.step) l.name (sequence (map (effect arrays) l.body)) s go) m.words) (sym is) ∙ runs.same go;
          sizes = runs.sizes;
          kept = runs.kept;
        }

  -- a write
  module _ (line : Line) (name : ℕ) (place : Expr) (o : Op) (e : Expr) (s : List ℤ) (m : Memory) where
    abbrev Writes : Result (Unit {0}) TurnTrap → Memory → Type 0
    Writes result m' = Runs arrays (effect arrays (stmt.Write line name place o e)) (changed (stmt.Write line name place o e)) result s m s m'

    write_is : (go : List ℤ → Turn) → on_words (sizes_of arrays) (effect arrays (stmt.Write line name place o e) s go) m.words
        ≡ on_words (sizes_of arrays) (reckoning arrays place line s (λ at. reckoning arrays e line s (λ right. inside line (located arrays name at) (λ array n. writing line (operation_of o) array n right (go s))))) m.words
    write_is go = ap (λ f. on_words (sizes_of arrays) (f s go) m.words) (effect-write arrays line name place o e)

    pub write_stops_place : (trap : TurnTrap) → Err trap ≡ at_line line (value arrays s m.words place) → Writes (Err trap) m
    write_stops_place trap is = runs_stops arrays (effect arrays (stmt.Write line name place o e)) (changed (stmt.Write line name place o e)) trap s m (λ go. write_is go ∙ reckoned_at arrays s m.words place line (Err trap) is _)

    module _ (at : ℤ) (at_is : Ok at ≡ at_line line (value arrays s m.words place)) where
      pub write_stops_value : (trap : TurnTrap) → Err trap ≡ at_line line (value arrays s m.words e) → Writes (Err trap) m
      write_stops_value trap is = runs_stops arrays (effect arrays (stmt.Write line name place o e)) (changed (stmt.Write line name place o e)) trap s m
          (λ go. write_is go ∙ reckoned_at arrays s m.words place line (Ok at) at_is _ ∙ reckoned_at arrays s m.words e line (Err trap) is _)

      pub write_runs : (right : ℤ) → Ok right ≡ at_line line (value arrays s m.words e) → (result : Result (Unit {0}) TurnTrap) (m' : Memory)
          → ((rest : Turn) → on_words (sizes_of arrays) (inside line (located arrays name at) (λ array n. writing line (operation_of o) array n right rest)) m.words ≡ went_on_with (sizes_of arrays) result (λ done. rest) m'.words)
          → m'.sizes ≡ m.sizes → Writes result m'
      write_runs right is result m' written sizes = record {
        same = λ go. write_is go ∙ reckoned_at arrays s m.words place line (Ok at) at_is _ ∙ reckoned_at arrays s m.words e line (Ok right) is _ ∙ written (go s);
        sizes = sizes;
        kept = keeps_same _ s;
      }

  -- an `if`
  module _ (arms : List Arm) (other : List Stmt) (s : List ℤ) (m : Memory) (s' : List ℤ) (m' : Memory) where
    if_is : (go : List ℤ → Turn) → on_words (sizes_of arrays) (effect arrays (stmt.If arms other) s go) m.words
        ≡ on_words (sizes_of arrays) (choose (map (arm_effect arrays) arms) (sequence (map (effect arrays) other)) s go) m.words
    if_is go = ap (λ f. on_words (sizes_of arrays) (f s go) m.words) (effect-if arrays arms other)

    arms_names : (name : ℕ) → is_among (changed (stmt.If arms other)) name ≡ false → is_among (concat (map changed_in_arm arms)) name ≡ false
    arms_names name apart = among_left (concat (map changed_in_arm arms)) (concat (map changed other)) name (ap (λ ns. is_among ns name) (sym (given-if true arms other)) ∙ apart)

    other_names : (name : ℕ) → is_among (changed (stmt.If arms other)) name ≡ false → is_among (names_changed other) name ≡ false
    other_names name apart = among_right (concat (map changed_in_arm arms)) (concat (map changed other)) name (ap (λ ns. is_among ns name) (sym (given-if true arms other)) ∙ apart)

    abbrev ArmsRun : Result Bool TurnTrap → Type 0
    ArmsRun taken = RunsArms arrays (map (arm_effect arrays) arms) (concat (map changed_in_arm arms)) taken s m s' m'

    pub if_stops : (trap : TurnTrap) → ArmsRun (Err trap) → Runs arrays (effect arrays (stmt.If arms other)) (changed (stmt.If arms other)) (Err trap) s m s' m'
    if_stops trap runs = record { same = λ go. if_is go ∙ runs.same (sequence (map (effect arrays) other)) go; sizes = runs.sizes; kept = keeps_more _ _ s s' arms_names runs.kept }

    pub if_takes : ArmsRun (Ok true) → Runs arrays (effect arrays (stmt.If arms other)) (changed (stmt.If arms other)) (Ok tt) s m s' m'
    if_takes runs = record { same = λ go. if_is go ∙ runs.same (sequence (map (effect arrays) other)) go; sizes = runs.sizes; kept = keeps_more _ _ s s' arms_names runs.kept }

    pub if_other : (result : Result (Unit {0}) TurnTrap) (s'' : List ℤ) (m'' : Memory) → ArmsRun (Ok false) → Runs arrays (sequence (map (effect arrays) other)) (names_changed other) result s' m' s'' m''
        → Runs arrays (effect arrays (stmt.If arms other)) (changed (stmt.If arms other)) result s m s'' m''
    if_other result s'' m'' passed runs = record {
      same = λ go. if_is go ∙ passed.same (sequence (map (effect arrays) other)) go ∙ runs.same go;
      sizes = runs.sizes ∙ passed.sizes;
      kept = keeps_then _ s s' s'' (keeps_more _ _ s s' arms_names passed.kept) (keeps_more _ _ s' s'' other_names runs.kept);
    }

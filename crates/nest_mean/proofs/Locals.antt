-- The locals of a body are among the names that it changes, in a checked program they are all of these, and a turn begins
-- with 0 for them.
use Rattle.std.proofs.Common.{◌≡◌, ℕ, zero, suc, ◌==◌, ◌||◌, ℤ, pos, Bool, true, false, Result, Ok, Err, List, [], ◌∷◌, ◌++◌, map, refl, sym, ap, ◌∙◌, subst}
use Rattle.std.proofs.lemmas.List.Folds.{list_any-append}
use Rattle.std.specs.List.{concat}
use Rattle.nest_syntax.specs.declared.tree.Arm.{Arm, roll-Arm}
use Rattle.nest_syntax.specs.declared.tree.Loop.{Loop, roll-Loop}
use Rattle.nest_syntax.specs.declared.tree.Stmt.{Stmt, roll-Stmt}
use Rattle.nest_syntax.specs.declared.tree.Stmt.TheOpen.{Stmt-F, Arm-F, Loop-F}
use Rattle.nest_syntax.specs.declared.tree.Stmt.TheFolds.{map-Stmt, map-Arm, map-Loop, ind-Stmt, fold-roll-Stmt, fold-roll-Arm, fold-roll-Loop}
use Rattle.nest_syntax.specs.declared.tree.Program.{Program}
use Rattle.nest_syntax.specs.Among.{Each, is_among}
use Rattle.nest_syntax.specs.Shape.{bodies_of}
use Rattle.nest_syntax.specs.Outcome.{body_at}
use Rattle.nest_syntax.specs.Arrays.{Array, sizes_of}
use Rattle.nest_syntax.specs.Value.{scalar_at, with_scalar}
use Rattle.nest_syntax.specs.Turn.{Finished, sequence, effect, turn_of}
use Rattle.nest_syntax.specs.Reads.{on_words}
use Rattle.nest_syntax.specs.Locals.{given, given_node, given_arm_node, given_loop_node, given_in_arm, given_in_loop, names_given, locals_of, with_zeros}
use Rattle.nest_check.specs.Kept.{KeepsRules}
use Rattle.body_names.specs.Laws.{AssignsLocals}
use Rattle.body_names.proofs.Assigned.{bodies_assign}
use Rattle.word_store.specs.Memory.{Memory}
use Rattle.nest_mean.specs.declared.bodies.TurnTrap.{TurnTrap}
use Rattle.nest_mean.specs.NamesChanged.{names_changed, KeepsOthers}
use Rattle.nest_mean.specs.TurnRun.{ended}
use Rattle.nest_mean.specs.TurnParts.{Runs, went_on_with}
use Rattle.nest_mean.specs.Saved.{taken_over}
use Rattle.nest_mean.proofs.Names.{among_left, among_right, among_behind, among_here, keeps_same, keeps_then, keeps_more, keeps_set}

-- what isn't among many isn't among few
abbrev Fewer : List ℕ → List ℕ → Type 0
Fewer few many = (name : ℕ) → is_among many name ≡ false → is_among few name ≡ false

none_of : (a b : Bool) → a ≡ false → b ≡ false → (a || b) ≡ false
none_of true b e f = e
none_of false b e f = f

fewer_both : (few more many most : List ℕ) → Fewer few many → Fewer more most → Fewer (few ++ more) (many ++ most)
fewer_both few more many most first second name apart =
    list_any-append (λ other. name == other) few more
    ∙ none_of (is_among few name) (is_among more name) (first name (among_left many most name apart)) (second name (among_right many most name apart))

-- of each part the few are among the many
fewer_parts : {A : Type 0} (f g : A → List ℕ) (xs : List ((x : A) × Fewer (f x) (g x))) → Fewer (concat (map f (map (λ x. x.0) xs))) (concat (map g (map (λ x. x.0) xs)))
fewer_parts f g [] name apart = refl
fewer_parts f g (x ∷ xs) name apart = fewer_both (f x.0) (concat (map f (map (λ y. y.0) xs))) (g x.0) (concat (map g (map (λ y. y.0) xs))) x.1 (fewer_parts f g xs) name apart

fewer_behind : (first : ℕ) (few many : List ℕ) → Fewer few many → Fewer (first ∷ few) (first ∷ many)
fewer_behind first few many h name apart = fewer_both (first ∷ []) few (first ∷ []) many (λ other e. e) h name apart

abbrev FewerStmt : Stmt → Type 0
FewerStmt s = Fewer (given false s) (given true s)

abbrev FewerArm : Arm → Type 0
FewerArm r = Fewer (given_in_arm false r) (given_in_arm true r)

abbrev FewerLoop : Loop → Type 0
FewerLoop l = Fewer (given_in_loop false l) (given_in_loop true l)

abbrev A_stmt : Type 0
A_stmt = (s : Stmt) × FewerStmt s

abbrev An_arm : Type 0
An_arm = (r : Arm) × FewerArm r

abbrev A_loop : Type 0
A_loop = (l : Loop) × FewerLoop l

abbrev node_of : Bool → Stmt-F Stmt Arm Loop → List ℕ
node_of assigned x = given_node assigned (map-Stmt Stmt Arm Loop (List ℕ) (List ℕ) (List ℕ) (given assigned) (given_in_arm assigned) (given_in_loop assigned) x)

layer : (y : Stmt-F A_stmt An_arm A_loop) → Fewer (node_of false (map-Stmt A_stmt An_arm A_loop Stmt Arm Loop (λ q. q.0) (λ q. q.0) (λ q. q.0) y)) (node_of true (map-Stmt A_stmt An_arm A_loop Stmt Arm Loop (λ q. q.0) (λ q. q.0) (λ q. q.0) y))
layer (Stmt-F.Declare line name e) = λ other apart. apart
layer (Stmt-F.Assign line name o e) = λ other apart. refl
layer (Stmt-F.Write line name place o e) = λ other apart. refl
layer (Stmt-F.If arms others) = fewer_both (concat (map (given_in_arm false) (map (λ q. q.0) arms))) (concat (map (given false) (map (λ q. q.0) others))) (concat (map (given_in_arm true) (map (λ q. q.0) arms))) (concat (map (given true) (map (λ q. q.0) others)))
    (fewer_parts (given_in_arm false) (given_in_arm true) arms) (fewer_parts (given false) (given true) others)
layer (Stmt-F.Loop l) = l.1

stmt_step : (x : Stmt-F Stmt Arm Loop) (y : Stmt-F A_stmt An_arm A_loop) → map-Stmt A_stmt An_arm A_loop Stmt Arm Loop (λ q. q.0) (λ q. q.0) (λ q. q.0) y ≡ x → FewerStmt (roll-Stmt x)
stmt_step x y is =
    let rolled = λ (assigned : Bool). fold-roll-Stmt (List ℕ) (List ℕ) (List ℕ) (given_node assigned) given_arm_node given_loop_node x in
    subst (λ few. Fewer few (given true (roll-Stmt x))) (sym (rolled false)) (subst (λ many. Fewer (node_of false x) many) (sym (rolled true)) (subst (λ z. Fewer (node_of false z) (node_of true z)) is (layer y)))

arm_step : (x : Arm-F Stmt Arm Loop) (y : Arm-F A_stmt An_arm A_loop) → map-Arm A_stmt An_arm A_loop Stmt Arm Loop (λ q. q.0) (λ q. q.0) (λ q. q.0) y ≡ x → FewerArm (roll-Arm x)
arm_step x y is =
    let rolled = λ (assigned : Bool). fold-roll-Arm (List ℕ) (List ℕ) (List ℕ) (given_node assigned) given_arm_node given_loop_node x in
    subst (λ few. Fewer few (given_in_arm true (roll-Arm x))) (sym (rolled false)) (subst (λ many. Fewer (names_given false x.body) many) (sym (rolled true)) (subst (λ (z : Arm-F Stmt Arm Loop). Fewer (names_given false z.body) (names_given true z.body)) is (fewer_parts (given false) (given true) y.body)))

loop_step : (x : Loop-F Stmt Arm Loop) (y : Loop-F A_stmt An_arm A_loop) → map-Loop A_stmt An_arm A_loop Stmt Arm Loop (λ q. q.0) (λ q. q.0) (λ q. q.0) y ≡ x → FewerLoop (roll-Loop x)
loop_step x y is =
    let rolled = λ (assigned : Bool). fold-roll-Loop (List ℕ) (List ℕ) (List ℕ) (given_node assigned) given_arm_node given_loop_node x in
    subst (λ few. Fewer few (given_in_loop true (roll-Loop x))) (sym (rolled false)) (subst (λ many. Fewer (x.name ∷ names_given false x.body) many) (sym (rolled true))
    (subst (λ (z : Loop-F Stmt Arm Loop). Fewer (z.name ∷ names_given false z.body) (z.name ∷ names_given true z.body)) is (fewer_behind y.name (concat (map (given false) (map (λ q. q.0) y.body))) (concat (map (given true) (map (λ q. q.0) y.body))) (fewer_parts (given false) (given true) y.body))))

fewer_stmt : (s : Stmt) → FewerStmt s
fewer_stmt = ind-Stmt FewerStmt FewerArm FewerLoop stmt_step arm_step loop_step

-- a local is a name that the body changes
pub locals_changed : (body : List Stmt) → Fewer (locals_of body) (names_changed body)
locals_changed [] name apart = refl
locals_changed (s ∷ ss) name apart = fewer_both (given false s) (names_given false ss) (given true s) (names_given true ss) (fewer_stmt s) (locals_changed ss) name apart

-- zeros change no other scalar
pub zeros_keep : (names : List ℕ) (scalars : List ℤ) → KeepsOthers names scalars (with_zeros names scalars)
zeros_keep [] scalars = keeps_same [] scalars
zeros_keep (first ∷ names) scalars = keeps_then (first ∷ names) scalars (with_scalar scalars first (pos 0)) (with_zeros names (with_scalar scalars first (pos 0)))
    (keeps_set (first ∷ names) scalars first (pos 0) (among_here first names))
    (keeps_more names (first ∷ names) (with_scalar scalars first (pos 0)) (with_zeros names (with_scalar scalars first (pos 0))) (among_behind first names) (zeros_keep names (with_scalar scalars first (pos 0))))

none_at : (name : ℕ) → scalar_at [] name ≡ pos 0
none_at zero = refl
none_at (suc name) = refl

-- what is taken over from no scalars is 0
pub zeros_taken : (names : List ℕ) (source target : List ℤ) → source ≡ [] → taken_over names source target ≡ with_zeros names target
zeros_taken [] source target none = refl
zeros_taken (first ∷ names) source target none =
    zeros_taken names source (with_scalar target first (scalar_at source first)) none
    ∙ ap (λ v. with_zeros names (with_scalar target first v)) (ap (λ s. scalar_at s first) none ∙ none_at first)

-- the turn of a body, from how its statements run once its locals are 0
module _ (arrays : List Array) (body : List Stmt) (result : Result (Unit {0}) TurnTrap) (s start : List ℤ) (m : Memory) (s' : List ℤ) (m' : Memory) (starts : start ≡ with_zeros (locals_of body) s) (runs : Runs arrays (sequence (map (effect arrays) body)) (names_changed body) result start m s' m') where
  ends : (r : Result (Unit {0}) TurnTrap) → went_on_with (sizes_of arrays) r (λ done. Finished) m'.words ≡ ended r m'.words
  ends (Ok done) = refl
  ends (Err trap) = refl

  pub turn_ends : on_words (sizes_of arrays) (turn_of arrays body s) m.words ≡ ended result m'.words
  turn_ends = ap (λ t. on_words (sizes_of arrays) (sequence (map (effect arrays) body) t (λ after. Finished)) m.words) (sym starts) ∙ runs.same (λ after. Finished) ∙ ends result

  pub turn_keeps : KeepsOthers (names_changed body) s s'
  turn_keeps = keeps_then (names_changed body) s start s'
      (subst (λ t. KeepsOthers (names_changed body) s t) (sym starts) (keeps_more (locals_of body) (names_changed body) s (with_zeros (locals_of body) s) (locals_changed body) (zeros_keep (locals_of body) s)))
      runs.kept

-- a body of a checked program changes its locals alone
assigns_at : (bodies : List (List Stmt)) → Each AssignsLocals bodies → (n : ℕ) → AssignsLocals (body_at bodies n)
assigns_at [] each n = λ name apart. refl
assigns_at (body ∷ bodies) each zero = each.0
assigns_at (body ∷ bodies) each (suc n) = assigns_at bodies each.1 n

pub assigns_locals : (program : Program) → KeepsRules program → (n : ℕ) → AssignsLocals (body_at (bodies_of program) n)
assigns_locals program keeps n = assigns_at (bodies_of program) (bodies_assign program keeps.known keeps.variables keeps.scheduled) n

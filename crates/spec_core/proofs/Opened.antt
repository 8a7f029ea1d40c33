-- A plan keeps what a run needs, and a table with nothing open is the machine's opening.
use Rattle.std.proofs.Common.{◌≡◌, ℕ, zero, suc, ◌<◌, ◌≤◌, ℤ, true, false, Option, None, Some, List, [], ◌∷◌, map, length, replicate, slice_index_or, sum, refl, sym, subst, ap, ◌∙◌, arith}
use Rattle.std.specs.Prelude.{slice_get}
use Rattle.std.specs.Option.{option_map_or, option_and_then}
use Rattle.std.proofs.lemmas.List.{length-map, length-replicate}
use Rattle.nest_syntax.specs.declared.tree.Loop.{Loop}
use Rattle.nest_syntax.specs.declared.tree.Program.{Program}
use Rattle.nest_syntax.specs.Among.{Each}
use Rattle.nest_syntax.specs.Arrays.{Array, arrays_of, sizes_of}
use Rattle.nest_syntax.specs.Shape.{Body, invoked_by}
use Rattle.word_store.specs.Memory.{most_words}
use Rattle.nest_mean.specs.Nest.{Nest, CanRun, IsWellFormed}
use Rattle.nest_check.proofs.Few.{few_words}
use Rattle.dep_graph.specs.Kinds.{kind_of}
use Rattle.task_code.specs.CodeOf.{IsCodeOf}
use Rattle.sched_cursor.specs.Cursor.{Cursor}
use Rattle.sched_cursor.specs.Laws.{restarted}
use Rattle.progress_board.specs.declared.options.Options.{Options}
use Rattle.progress_board.specs.declared.options.Engine.{Engine as Choice}
use Rattle.progress_board.specs.declared.options.Engine.TheVariants as kind
use Rattle.progress_board.specs.Options.{IsInRange}
use Rattle.epoch_plan.specs.declared.tasks.Seen.{Seen}
use Rattle.nest_setup.proofs.Begun.{found_inside}
use Rattle.nest_setup.proofs.Right.{entries_of_bodies}
use Rattle.spec_checker.specs.Order.{Pair as Names}
use Rattle.spec_machine.specs.Facts.{no_facts}
use Rattle.spec_machine.specs.Machine as machine
use Rattle.spec_machine.specs.Machine.{fresh_seat, Idle}
use Rattle.spec_setup.specs.Signs.{Signs}
use Rattle.spec_setup.specs.Setups.{Invoked, is_all, is_do_all}
use Rattle.spec_core.specs.declared.plan.Plan.{Plan}
use Rattle.spec_core.specs.declared.desk.Desk.{Desk}
use Rattle.spec_core.specs.Shared.{is_shared, shared_in}
use Rattle.spec_core.specs.Hands.{Bench, seats_from, seats_of}
use Rattle.spec_core.specs.Passed.{passed_in}
use Rattle.spec_core.specs.Blocks.{epochs_in}
use Rattle.spec_core.specs.Engine.{Stand, far_of, far_with}
use Rattle.spec_core.specs.Tables.{setup_by, IsPlan, IsBenchBy, sizes_by}

-- what stands in a mapped list where the list has something
map_there : {A B : Type 0} (f : A → B) (xs : List A) (n : ℕ) (x : A) (d : B) → slice_get xs n ≡ Some x → slice_index_or (map f xs) n d ≡ f x
map_there f [] n x d there = absurd (let none : None ≡ Some x = there in cc)
map_there f (y ∷ ys) zero x d there = ap f (let same : y ≡ x = cc in same)
map_there f (y ∷ ys) (suc n) x d there = map_there f ys n x d there

-- the plan's list tells which turns are shared
pub shared_there : (program : Program) (b : Invoked) → b.body < length (invoked_by program) → slice_index_or (shared_in program) b.body false ≡ is_do_all program b
shared_there program b below =
    let found = found_inside (invoked_by program) b.body below in
    map_there (is_shared program) (invoked_by program) b.body found.0 false found.1
    ∙ sym (ap (λ o. option_map_or (λ (l : Loop). is_all (kind_of program l)) (option_and_then (λ (x : Body). x.header) o) true) found.1)

pub is_plan : (plan : Plan) → IsInRange plan.options → IsCodeOf plan.job.program plan.code → plan.shared.items ≡ shared_in plan.job.program → plan.consts.items ≡ map (λ (a : Array). a.fixed) (arrays_of plan.job.program.decls) → IsPlan plan
is_plan plan allowed code shared consts =
    let program = plan.job.program in
    let many : length plan.code.entries ≡ length (invoked_by program) = entries_of_bodies.many program plan.code code ∙ length-map (invoked_by program) (λ (b : Body). b.stmts) in
    record {
      few_workers = allowed.few_workers;
      some_worker = omega (arith, allowed.some_worker);
      some_epoch = omega (arith, allowed.some_invocation);
      few_epochs = allowed.few_invocations;
      near = allowed.near;
      bodies = entries_of_bodies.many program plan.code code;
      many_shared = ap length shared ∙ length-map (invoked_by program) (is_shared program) ∙ sym many;
      shared = λ b below. ap (λ xs. slice_index_or xs b.body false) shared ∙ shared_there program b (subst (λ n. b.body < n) many below);
      consts = consts;
    }

-- a worker that has begun nothing, with these signatures
abbrev pub fresh : {G : Type 0} → List G → Bench G
fresh signs = record { hand = Idle; done = 0; begun = 0; signs = signs }

fresh_seats : {G : Type 0} (width u n : ℕ) (seen : List Seen) (signs : List G) → seats_from width seen u (replicate n (fresh signs)) ≡ replicate n fresh_seat
fresh_seats width u zero seen signs = refl
fresh_seats width u (suc n) seen signs = ap (λ seats. fresh_seat ∷ seats) (fresh_seats width (suc u) n seen signs)

-- the state of a table that has no abort and no trap, and isn't concluded
abbrev built : {G : Type 0} → (words mark : List ℤ) → Desk → ℕ → List (Bench G) → List Seen → Option Names → Stand G
built words mark desk distance benches seen last = record {
  words = words;
  mark = mark;
  cursor = desk.cursor;
  next = desk.cursor.next;
  early = desk.early;
  epochs = epochs_in desk.epochs;
  sealed = desk.sealed;
  distance = distance;
  seats = seats_of seen benches;
  passed = passed_in (length benches) (length desk.epochs) seen last;
  abort = None;
  trap = None;
  concluded = false;
  facts = desk.tally.facts;
}

abbrev opened_desk : Options → Cursor → Desk
opened_desk options cursor = record { cursor = cursor; early = None; epochs = []; sealed = false; tally = record { options = options; facts = no_facts } }

pub opened_state : {G : Type 0} (signs : Signs G) (plan : Plan) (words mark : List ℤ) (desk : Desk) (distance : ℕ) (benches : List (Bench G)) (seen : List Seen) (last : Option Names) (own : List G)
    → words ≡ plan.job.opening.words → mark ≡ plan.job.opening.words → desk.cursor ≡ restarted plan.job.program desk.cursor → desk ≡ record { cursor = desk.cursor; early = None; epochs = []; sealed = false; tally = record { options = plan.options; facts = no_facts } }
    → distance ≡ far_of plan.options → benches ≡ replicate plan.options.workers (fresh own) → last ≡ None
    → built words mark desk distance benches seen last ≡ machine.opening (setup_by signs plan) (restarted plan.job.program desk.cursor) plan.job.opening.words
opened_state {G} signs plan words mark desk distance benches seen last own copied marked started rest far opened none =
    let first = plan.job.opening.words in
    let cursor = restarted plan.job.program desk.cursor in
    let many = plan.options.workers in
    ap (λ ws. built ws mark desk distance benches seen last) copied
    ∙ ap (λ ws. built first ws desk distance benches seen last) marked
    ∙ ap (λ (k : Desk). built first first k distance benches seen last) rest
    ∙ ap (λ (c : Cursor). built first first (opened_desk plan.options c) distance benches seen last) started
    ∙ ap (λ n. built first first (opened_desk plan.options cursor) n benches seen last) far
    ∙ ap (λ bs. built first first (opened_desk plan.options cursor) (far_of plan.options) bs seen last) opened
    ∙ ap (λ o. built first first (opened_desk plan.options cursor) (far_of plan.options) (replicate many (fresh own)) seen o) none
    ∙ ap (λ seats. let s : Stand G = record (machine.opening (setup_by signs plan) cursor first) { seats = seats } in s) (fresh_seats (length (replicate many (fresh own))) 0 many seen own)

pub each_same : {A : Type 0} (P : A → Type 0) (n : ℕ) (x : A) → P x → Each P (replicate n x)
each_same P zero x is = tt
each_same P (suc n) x is = (is, each_same P n x is)

pub fresh_bench : {G : Type 0} (sizes_in : G → List ℕ) (plan : Plan) (sign : G) → sizes_in sign ≡ sizes_by plan → IsBenchBy sizes_in plan (fresh (replicate plan.options.segment sign))
fresh_bench {G} sizes_in plan sign sizes = record {
  places = length-replicate plan.options.segment sign;
  sizes = each_same (λ (s : G). sizes_in s ≡ sizes_by plan) plan.options.segment sign sizes;
  begun = omega arith;
  done = omega arith;
}

pub near : (options : Options) → options.distance ≤ 64 → far_of options ≤ 64
near options below = by options.engine
  where
    by : (choice : Choice) → far_with options.distance choice ≤ 64
    by kind.Speccross = below
    by kind.Domore = omega arith
    by kind.Barrier = omega arith

-- the arrays of a job have few words
pub few : (job : Nest) (program : Program) (lengths : List ℕ) → CanRun job → program ≡ job.program → lengths ≡ sizes_of (arrays_of program.decls) → sum lengths ≤ most_words
unfolding IsWellFormed
few job program lengths runs same is = subst (λ (xs : List ℕ). sum xs ≤ most_words) (sym (is ∙ ap (λ (p : Program). sizes_of (arrays_of p.decls)) same)) (few_words job.program runs.formed.1)

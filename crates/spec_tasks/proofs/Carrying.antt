-- What holds of a machine on a nest holds of one that forgets something of its pieces, and has signatures in place of notes.
use Rattle.std.proofs.Common.{◌≡◌, ℕ, zero, suc, ◌+◌, ◌-◌, ◌<◌, ◌≤◌, ℤ, Bool, true, false, if◌then◌else◌, Option, Some, None, IsSome, List, [], ◌∷◌, length, slice_get, refl, ap, ◌∙◌, sym, subst, inl, inr}
use Rattle.std.specs.Option.{option_map, option_map_or}
use Rattle.nest_syntax.specs.Arrays.{word_at}
use Rattle.settle_law.specs.Traces.{Access}
use Rattle.settle_law.specs.Claims.{Claims}
use Rattle.settle_law.specs.Tasks.{Stop}
use Rattle.settle_law.specs.Runs.{run}
use Rattle.settle_law.specs.Courses.{Nest, events, reached}
use Rattle.nest_tasks.specs.Forgetting.{forget_stop}
use Rattle.spec_machine.specs.Invocations.{Event, End, Scalar, Drain, Invoke}
use Rattle.spec_machine.specs.Signatures.{Kind}
use Rattle.spec_machine.specs.Facts.{Task, Pair, Abort, Fails, Overlaps}
use Rattle.spec_machine.specs.Machine.{Setup, State, Epoch, Move, DoScalar, DoDrain, DoOpen, DoClose, DoCommit, DoRestore, DoConclude, DoBegin, DoRead, DoWrite, DoGo, DoNext, DoFinish, DoFail, DoTrap, DoLetGo, DoStop, DoCheck, DoAbort, from, to, opening, move_of, step}
use Rattle.spec_machine.specs.Table.{In}
use Rattle.spec_machine.specs.Runs.{trace_from, rollbacks_from, ending_of}
use Rattle.spec_machine.specs.Segments.{Coming, Computes, Drains, Invokes, behind_trap, segments_of, coming_from, coming, segments, with_claimed, with_claims, with_iterations, IsSegment, TrapsIn, IsPairIn, IsBlamed, ClashesIn, hull}
use Rattle.spec_machine.specs.Theorems.{Leads, IsTrueCommit, Tells, AreHeld, CausedBy, IsTrapOf, Rises, CanGoOn}
use Rattle.spec_machine.proofs.Runs.{keeps_invariant, commits, ends, aborts, causes, below_least_traps, once}
use Rattle.spec_machine.proofs.Progress.{unfinished_goes}
use Rattle.spec_machine.proofs.Falls.{is_bounded}
use Rattle.spec_tasks.specs.Notes.{Note, noted_in, sign_of, by_notes}
use Rattle.spec_tasks.specs.Forgetting.{forget_setup, with_notes, forget, forget_move}
use Rattle.spec_tasks.specs.Carried.{ForgettingKeepsNests}
use Rattle.spec_tasks.proofs.Dropping.{unordered_same, overlap_same, move_same, step_same, histories_same}

commit_only : {B C P Q : Type 0} (f : P → Q) (mv : Move B C P) → forget_move f mv ≡ DoCommit → mv ≡ DoCommit
commit_only f (DoScalar purpose trap rest) is = absurd cc
commit_only f (DoDrain purpose trap rest) is = absurd cc
commit_only f (DoOpen b k rest) is = absurd cc
commit_only f DoClose is = absurd cc
commit_only f DoCommit is = refl
commit_only f (DoRestore cause) is = absurd cc
commit_only f DoConclude is = absurd cc
commit_only f (DoBegin hand) is = absurd cc
commit_only f (DoRead k w next) is = absurd cc
commit_only f (DoWrite k w value next) is = absurd cc
commit_only f (DoGo k next) is = absurd cc
commit_only f (DoNext k piece) is = absurd cc
commit_only f DoFinish is = absurd cc
commit_only f DoFail is = absurd cc
commit_only f (DoTrap k cause line) is = absurd cc
commit_only f DoLetGo is = absurd cc
commit_only f DoStop is = absurd cc
commit_only f (DoCheck p) is = absurd cc
commit_only f (DoAbort p array) is = absurd cc

commits_only : {B C P Q : Type 0} (f : P → Q) (o : Option (Move B C P)) → option_map (forget_move f) o ≡ Some DoCommit → o ≡ Some DoCommit
commits_only f None is = absurd cc
commits_only f (Some mv) is = ap Some (commit_only f mv (let same : forget_move f mv ≡ DoCommit = cc in same))

still_some : {X Y : Type 0} (g : X → Y) (o : Option X) → IsSome o → IsSome (option_map g o)
still_some g None some = absurd cc
still_some g (Some x) some = refl

-- the hull of a task is made of the notes of its hull
module _ {G : Type 0} (kind : Kind G) where
  claimed_made : (c : Claims) (w : ℕ) (notes : List Note) → with_claimed kind c w (sign_of kind notes) ≡ sign_of kind (with_claimed (by_notes kind) c w notes)
  claimed_made c w notes = by (c.read w) (c.written w)
    where
      by : (read written : Bool) → (let mine : G = if read then kind.with_read w (sign_of kind notes) else sign_of kind notes in if written then kind.with_written w mine else mine)
          ≡ sign_of kind (let mine : List Note = if read then (by_notes kind).with_read w notes else notes in if written then (by_notes kind).with_written w mine else mine)
      by true true = refl
      by true false = refl
      by false true = refl
      by false false = refl

  claims_made : (c : Claims) (size : ℕ) (notes : List Note) → with_claims kind c size (sign_of kind notes) ≡ sign_of kind (with_claims (by_notes kind) c size notes)
  claims_made c zero notes = refl
  claims_made c (suc w) notes = ap (with_claimed kind c w) (claims_made c w notes) ∙ claimed_made c w (with_claims (by_notes kind) c w notes)

  iterations_made : (claims : ℕ → Claims) (size k n : ℕ) → with_iterations kind claims size k n ≡ sign_of kind (with_iterations (by_notes kind) claims size k n)
  iterations_made claims size k zero = refl
  iterations_made claims size k (suc n) = ap (with_claims kind (claims (k + n)) size) (iterations_made claims size k n) ∙ claims_made (claims (k + n)) size (with_iterations (by_notes kind) claims size k n)

module _ {B C P Q G : Type 0} (m : Setup B C P G) (f : P → Q) (stop : Q → Stop Q) (stops : (p : P) → stop (f p) ≡ forget_stop f (m.system.stop p)) (nest : Nest) (start : C) where
  abbrev n : Setup B C Q G
  n = forget_setup f stop m

  abbrev l : Setup B C P (List Note)
  l = with_notes m

  abbrev gone : State B C P (List Note) → State B C Q G
  gone = forget f m.kind

  -- a history leads to a state that another one leads to, but for what is forgotten
  pub record Before (history : List ℕ) (s : State B C Q G) : Type 0 where
    pub state : State B C P (List Note)
    pub leads : Leads l nest start history state
    pub same : gone state ≡ s

  pub before : (history : List ℕ) (s : State B C Q G) → Leads n nest start history s → Before history s
  before history s leads = by (run (step l) (opening l start nest.opening) history) refl (sym (histories_same m f stop stops history start nest.opening).0 ∙ leads)
    where
      by : (o : Option (State B C P (List Note))) → run (step l) (opening l start nest.opening) history ≡ o → option_map gone (run (step l) (opening l start nest.opening) history) ≡ Some s → Before history s
      by None is leads = absurd (let none : None ≡ Some s = sym (ap (option_map gone) is) ∙ leads in cc)
      by (Some t) is leads = record { state = t; leads = is; same = (let both : Some (gone t) ≡ Some s = sym (ap (option_map gone) is) ∙ leads in let same : gone t ≡ s = cc in same) }

  trace_is : (history : List ℕ) → trace_from n (opening n start nest.opening) [] history ≡ trace_from l (opening l start nest.opening) [] history
  trace_is history = (histories_same m f stop stops history start nest.opening).1

  rollbacks_are : (history : List ℕ) → rollbacks_from n (opening n start nest.opening) history ≡ rollbacks_from l (opening l start nest.opening) history
  rollbacks_are history = (histories_same m f stop stops history start nest.opening).2

  true_commit : (t : State B C P (List Note)) (trace : List Access) → IsTrueCommit l nest t trace → IsTrueCommit n nest (gone t) trace
  true_commit t trace is = record {
    words = is.words;
    parts = is.parts;
    checked = λ p among unordered. overlap_same m f stop stops t.seats p ∙ is.checked p among (sym (unordered_same m f stop stops t.seats p) ∙ unordered);
  }

  tells : (t : State B C P (List Note)) (cause : Abort) → Tells l t cause → Tells n (gone t) cause
  tells t (Fails task) told = told
  tells t (Overlaps p array) told = (told.0, unordered_same m f stop stops t.seats p ∙ told.1, overlap_same m f stop stops t.seats p ∙ told.2)

  -- the segments are the same
  event_same : (next : ℕ) (one other : C → ℕ → List (Coming B)) → ((cursor : C) (k : ℕ) → one cursor k ≡ other cursor k) → (e : Event B C) → coming_from n nest one next e ≡ coming_from l nest other next e
  event_same next one other same End = refl
  event_same next one other same (Scalar purpose trap rest) = ap (λ (xs : List (Coming B)). Computes ∷ behind_trap trap xs) (same rest next)
  event_same next one other same (Drain purpose trap rest) = λ i. option_map_or (λ words. Drains ∷ behind_trap (trap words) (same (rest words) next i)) (reached nest next) []
  event_same next one other same (Invoke b k rest) = ap (λ (xs : List (Coming B)). Invokes (record { first = next; count = k; body = b }) ∷ xs) (same rest (next + k))

  coming_same : (most : ℕ) (cursor : C) (next : ℕ) → coming n nest most cursor next ≡ coming l nest most cursor next
  coming_same zero cursor next = refl
  coming_same (suc most) cursor next = event_same next (coming n nest most) (coming l nest most) (coming_same most) (m.event cursor)

  pub segments_same : segments n nest start ≡ segments l nest start
  segments_same = ap (segments_of m.room []) (coming_same (length (events nest)) start 0)

  is_segment : (g : ℕ) (epochs : List (Epoch B)) → IsSegment l nest start g epochs → IsSegment n nest start g epochs
  is_segment g epochs is = record { is_one = ap (λ all. slice_get all g) segments_same ∙ is.is_one; reaches = is.reaches }

  is_pair : (epochs : List (Epoch B)) (p : Pair) → IsPairIn l nest start epochs p → IsPairIn n nest start epochs p
  is_pair epochs p is = record { rises = is.rises; late = is.late; early_own = is.early_own; late_own = is.late_own; differ = is.differ }

  traps_in : (g : ℕ) → TrapsIn l nest start g → TrapsIn n nest start g
  traps_in g is = record { epochs = is.epochs; segment = is_segment g is.epochs is.segment; trap = is.trap; is_outcome = is.is_outcome; of_iteration = is.of_iteration; among = is.among }

  held_by : (claims : ℕ → Claims) (size : ℕ) → AreHeld n nest claims size → AreHeld l nest claims size
  held_by claims size held = record { held = held.held; inside = held.inside }

  hull_same : (claims : ℕ → Claims) (size : ℕ) (epochs : List (Epoch B)) (t : Task) → hull n nest start claims size epochs t ≡ sign_of m.kind (hull l nest start claims size epochs t)
  hull_same claims size epochs t = iterations_made m.kind claims size (from n epochs t.epoch t.worker) (to n epochs t.epoch t.worker - from n epochs t.epoch t.worker)

  blamed : (claims : ℕ → Claims) (size distance g : ℕ) (p : Pair) → IsBlamed l nest start claims size distance g p → IsBlamed n nest start claims size distance g p
  blamed claims size distance g p is = record {
    epochs = is.epochs;
    segment = is_segment g is.epochs is.segment;
    is_pair = is_pair is.epochs p is.is_pair;
    near = is.near;
    overlap = subst IsSome (sym (λ i. m.kind.overlap (hull_same claims size is.epochs p.early i) (hull_same claims size is.epochs p.late i))) is.overlap;
  }

  clashes : (claims : ℕ → Claims) (distance g : ℕ) → ClashesIn l nest start claims distance g → ClashesIn n nest start claims distance g
  clashes claims distance g is = record {
    epochs = is.epochs;
    segment = is_segment g is.epochs is.segment;
    pair = is.pair;
    is_pair = is_pair is.epochs is.pair is.is_pair;
    near = is.near;
    j = is.j;
    k = is.k;
    of_early = is.of_early;
    of_late = is.of_late;
    clash = is.clash;
  }

  caused : (claims : ℕ → Claims) (size segment : ℕ) (cause : Abort) → CausedBy l nest start claims size segment cause → CausedBy n nest start claims size segment cause
  caused claims size segment (Fails t) (inl traps) = inl (traps_in segment traps)
  caused claims size segment (Fails t) (inr clash) = inr (clashes claims m.far segment clash)
  caused claims size segment (Overlaps p array) is = blamed claims size m.far segment p is

  trap_of : (segment : ℕ) (cause : Abort) → IsTrapOf l nest start segment cause → IsTrapOf n nest start segment cause
  trap_of segment (Fails t) traps = traps_in segment traps
  trap_of segment (Overlaps p array) none = none

  goes : (t : State B C P (List Note)) → CanGoOn l t → CanGoOn n (gone t)
  goes t can = record { actor = can.actor; present = can.present; enabled = subst IsSome (sym (step_same m f stop stops t can.actor)) (still_some gone (step l t can.actor) can.enabled) }

pub forgetting_keeps : (B C P Q G : Type 0) → ForgettingKeepsNests B C P Q G
forgetting_keeps B C P Q G m f stop stops nest what start setup =
    let n : Setup B C Q G = forget_setup f stop m in
    let l : Setup B C P (List Note) = with_notes m in
    let back = before m f stop stops nest start in
    let kept = λ (history : List ℕ) (t : State B C P (List Note)) (leads : Leads l nest start history t). keeps_invariant B C P (List Note) l nest what start noted_in setup history t leads in
    record {
      commits = λ history s actor leads is.
          let b = back history s leads in
          let moves : option_map (forget_move f) (move_of l b.state actor) ≡ Some DoCommit = sym (move_same m f stop stops b.state actor) ∙ ap (λ (x : State B C Q G). move_of n x actor) b.same ∙ is in
          subst (λ (x : State B C Q G). IsTrueCommit n nest x (trace_from n (opening n start nest.opening) [] history)) b.same
          (subst (IsTrueCommit n nest (forget f m.kind b.state)) (sym (trace_is m f stop stops nest start history))
          (true_commit m f stop stops nest start b.state (trace_from l (opening l start nest.opening) [] history)
          (commits B C P (List Note) l nest what start noted_in setup history b.state actor b.leads (commits_only f (move_of l b.state actor) moves))));
      ends = λ history complete.
          let b = back history complete.last complete.ran in
          ap ending_of (sym b.same) ∙ ends B C P (List Note) l nest what start noted_in setup history (record { last = b.state; ran = b.leads; finished = ap (λ (x : State B C Q G). x.concluded) b.same ∙ complete.finished });
      aborts = λ history s cause leads is.
          let b = back history s leads in
          subst (λ (x : State B C Q G). Tells n x cause) b.same
          (tells m f stop stops nest start b.state cause (aborts B C P (List Note) l nest what start noted_in setup history b.state cause b.leads (ap (λ (x : State B C Q G). x.abort) b.same ∙ is)));
      causes = λ claims size held history s rollback leads among.
          let b = back history s leads in
          caused m f stop stops nest start claims size rollback.segment rollback.cause
          (causes B C P (List Note) l nest what start noted_in claims size setup (held_by m f stop stops nest start claims size held) history b.state rollback b.leads (subst (In rollback) (rollbacks_are m f stop stops nest start history) among));
      below_least = λ claims size held inside least history s rollback leads among.
          let b = back history s leads in
          trap_of m f stop stops nest start rollback.segment rollback.cause
          (below_least_traps B C P (List Note) l nest what start noted_in claims size setup (held_by m f stop stops nest start claims size held) inside
          (λ distance g p is. least distance g p (blamed m f stop stops nest start claims size distance g p is))
          history b.state rollback b.leads (subst (In rollback) (rollbacks_are m f stop stops nest start history) among));
      once = λ history s leads.
          let b = back history s leads in
          subst (Rises 0) (sym (rollbacks_are m f stop stops nest start history)) (once B C P (List Note) l nest what start noted_in setup history b.state b.leads);
      room = λ history s leads.
          let b = back history s leads in
          subst (λ (x : State B C Q G). length x.epochs ≤ m.room) b.same (kept history b.state b.leads).room;
      known = λ history s leads k lt.
          let b = back history s leads in
          (kept history b.state b.leads).known k (subst (λ (x : State B C Q G). k < x.next) (sym b.same) lt);
      fixed_words = λ history s leads calm.
          let b = back history s leads in
          subst (λ (x : State B C Q G). (w : ℕ) (told : ℤ) → m.system.fixed w ≡ Some told → word_at x.words w ≡ told) b.same ((kept history b.state b.leads).sound (ap (λ (x : State B C Q G). x.abort) b.same ∙ calm)).fixed_words;
      goes_on = λ history s leads unfinished.
          let b = back history s leads in
          subst (CanGoOn n) b.same (goes m f stop stops nest start b.state (unfinished_goes B C P (List Note) l nest what start noted_in setup history b.state b.leads (ap (λ (x : State B C Q G). x.concluded) b.same ∙ unfinished)));
      few = λ history s leads.
          let b = back history s leads in
          is_bounded B C P (List Note) l nest what start noted_in setup history b.state b.leads;
    }

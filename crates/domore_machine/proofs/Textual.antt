-- What the law says of a state: the words where all that was handed out is finished, and where textual order traps.
use Rattle.std.proofs.Common.{◌≡◌, ℕ, zero, suc, ◌%◌, ◌<◌, ◌≤◌, ◌⊎◌, ℤ, true, false, Option, Some, None, IsSome, List, nat_lt, refl, sym, ap, ◌∙◌, subst, inl, inr, ⊎_elim, arith}
use Rattle.std.proofs.lemmas.Bool.{cases_lt, cases_Bool, ltb-true, and_parts, true≢false}
use Rattle.std.proofs.lemmas.Nat.{mod_below}
use Rattle.nest_syntax.specs.declared.names.Line.{Line}
use Rattle.nest_syntax.specs.declared.operators.Cause.{Cause}
use Rattle.nest_syntax.specs.Reads.{Stopped}
use Rattle.nest_syntax.specs.Outcome.{TrappedAt, place_of_trap}
use Rattle.settle_law.specs.Trees.{Tree, turn}
use Rattle.settle_law.specs.Traces.{Access, iteration, Each, settle, part, IsFinished, IsTrapped, Apart}
use Rattle.settle_law.specs.Law.{after, Lawful}
use Rattle.settle_law.specs.Courses.{Nest, family_of, iteration_at, reached, outcome}
use Rattle.settle_law.proofs.Members.{Has, each_at, each_of, has_part}
use Rattle.settle_law.proofs.Law.{reaches, settles, traps}
use Rattle.settle_law.specs.Reading.{NestKeepsFixed}
use Rattle.settle_law.proofs.Cursors.{followed_keeps}
use Rattle.settle_law.proofs.Nests.{family_turn, reached_after, after_reached, trapped_iteration}
use Rattle.domore_machine.specs.Machine.{Setup, State, Seat, done_at, all_finished}
use Rattle.domore_machine.specs.Theorems.{IsSetupFor}
use Rattle.domore_machine.specs.Invariant.{Guarded, AllParts, WordsKept}

-- what the test of finished numbers says
pub all_finished_at : {B P : Type 0} (width n k : ℕ) (seats : List (Seat B P)) → all_finished width seats n ≡ true → k < n → k < done_at seats (k % width)
all_finished_at width zero k seats all lt = absurd (omega arith)
all_finished_at width (suc n) k seats all lt = let both = and_parts (nat_lt n (done_at seats (n % width))) (all_finished width seats n) all in ⊎_elim
    (λ l. all_finished_at width n k seats both.1 l)
    (λ ge. let same : k ≡ n = omega arith in subst (λ x. x < done_at seats (x % width)) (sym same) (ltb-true _ _ both.0))
    (cases_lt k n)

module _ {B C P : Type 0} (m : Setup B C P) (nest : Nest) (what : B → ℕ × List ℤ) (start : C) (setup : IsSetupFor m nest what start) (s : State B C P) (trace : List Access) (guards : Guarded m s trace) (words : WordsKept m.system.fixed nest.opening trace s.words) (parts : AllParts m nest what s trace) (known : (k : ℕ) → k < s.next → IsSome (iteration_at nest k)) where
  abbrev pub family : ℕ → Tree
  family = family_of m.system.fixed nest

  keeps : NestKeepsFixed m.system.fixed nest
  keeps = followed_keeps m.system nest what m.entry m.event start setup.begins setup.follows

  pub finished_at : (k : ℕ) → k < done_at s.seats (k % m.width) → IsFinished (family k) (part k trace)
  finished_at k lt = (parts.seats (k % m.width) (mod_below k m.width setup.some_worker)).finished k refl lt

  -- the trace keeps the premises of the law
  lawful : Lawful family nest.opening 0 nest.opening trace
  lawful = record {
    reached = refl;
    replays = words.replays;
    in_order = words.in_order;
    from_m = each_of (λ a. 0 ≤ iteration a) trace (λ a has. omega arith);
    fits = parts.fits;
    guarded = each_of (λ a. (j : ℕ) → 0 ≤ j → j < iteration a → IsFinished (family j) (part j trace) ⊎ Apart (family j) (family (iteration a))) trace (λ a has j from lt. ⊎_elim
        (λ clash. inl (finished_at j (each_at (λ b. (j : ℕ) → j < iteration b → m.clashes j (iteration b) ≡ true → j < done_at s.seats (j % m.width)) trace a guards has j lt clash)))
        (λ free. inr (setup.apart j (iteration a) lt free))
        (cases_Bool (m.clashes j (iteration a))));
  }

  -- only what was handed out has an access
  handed_out : Each (λ a. iteration a < s.next) trace
  handed_out = each_of (λ a. iteration a < s.next) trace (λ a has. ⊎_elim (λ l. l) (λ ge. absurd (subst (Has a) (parts.later (iteration a) ge) (has_part (iteration a) a trace has refl))) (cases_lt (iteration a) s.next))

  -- where all that was handed out is done, textual order gets to the present words
  pub words_are : ((k : ℕ) → k < s.next → k < done_at s.seats (k % m.width)) → reached nest s.next ≡ Some s.words
  words_are all = sym (after_reached m.system.fixed nest setup.opens_fixed keeps s.next known)
      ∙ settles family nest.opening 0 nest.opening trace lawful s.next (omega arith) (λ k from lt. finished_at k (all k lt)) handed_out
      ∙ ap Some words.settles

  -- where all up to n is done, textual order gets there
  pub reaches_to : (n : ℕ) → n ≤ s.next → ((k : ℕ) → k < n → k < done_at s.seats (k % m.width)) → (w : List ℤ) × (reached nest n ≡ Some w)
  reaches_to n le all = let r = reaches family nest.opening 0 nest.opening trace lawful n (omega arith) (λ k from lt. finished_at k (all k lt)) in
      (r.0, sym (after_reached m.system.fixed nest setup.opens_fixed keeps n (λ k lt. known k (omega arith))) ∙ r.1)

  -- where one is trapped behind finished ones, the nest traps there
  pub traps_at : (n : ℕ) (cause : Cause) (line : Line) → n < s.next → ((k : ℕ) → k < n → k < done_at s.seats (k % m.width)) → IsTrapped (family n) (part n trace) cause line → outcome nest ≡ TrappedAt (place_of_trap cause line n false)
  traps_at n cause line lt all trapped = go (traps family nest.opening 0 nest.opening trace lawful n cause line (omega arith) (λ k from l. finished_at k (all k l)) trapped)
    where
      at : (w last : List ℤ) → after family nest.opening n ≡ Some w → turn (family n) w ≡ Stopped cause line last → (o : Option (ℕ × List ℤ)) → iteration_at nest n ≡ o → IsSome o → outcome nest ≡ TrappedAt (place_of_trap cause line n false)
      at w last before ends None is some = absurd (true≢false (sym some))
      at w last before ends (Some i) is some =
          let textual : reached nest n ≡ Some w = sym (after_reached m.system.fixed nest setup.opens_fixed keeps n (λ k l. known k (omega arith))) ∙ before in
          trapped_iteration nest n w i cause line last textual is (sym (family_turn m.system.fixed nest setup.opens_fixed keeps n i w is (reached_after m.system.fixed nest setup.opens_fixed keeps n w textual).1) ∙ ends)

      go : (w : List ℤ) × (after family nest.opening n ≡ Some w) × (turn (family n) w ≡ Stopped cause line (settle w (part n trace))) × (Each (λ a. iteration a ≤ n) trace → settle w (part n trace) ≡ settle nest.opening trace) → outcome nest ≡ TrappedAt (place_of_trap cause line n false)
      go (w, before, ends, same) = at w (settle w (part n trace)) before ends (iteration_at nest n) refl (known n lt)

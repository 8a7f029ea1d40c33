-- The law: parts are textual, and finished parts carry the words.
use Rattle.std.proofs.Common.{◌≡◌, ℕ, zero, suc, ◌<◌, ◌≤◌, ◌⊎◌, ℤ, Option, Some, None, List, ◌++◌, refl, sym, ap, ◌∙◌, subst, inl, inr, append-nil, arith}
use Rattle.std.proofs.lemmas.Bool.{cases_order}
use Rattle.std.specs.Option.{option_and_then}
use Rattle.nest_syntax.specs.Reads.{Ended, Completed, Stopped}
use Rattle.nest_syntax.specs.Outcome.{completed}
use Rattle.settle_law.specs.Trees.{Tree, Finished, Trapped, turn}
use Rattle.settle_law.specs.Traces.{Access, iteration, Each, settle, Replays, Conflict, part, behind, Makes, Fits, IsFinished, Apart}
use Rattle.settle_law.specs.Law.{accesses, after, Lawful, FinishedParts, Textual, PartsAreTextual, FinishedPartsReach, FinishedPartsSettle, FinishedPartsAreWhole, TrappedPartIsTextual}
use Rattle.settle_law.proofs.Members.{each_at, each_of, each_behind, each_either, has_part, behind_has, behind_all, behind_none, part_is_own}
use Rattle.settle_law.proofs.Commuting.{Clear, replays_behind_all}
use Rattle.settle_law.proofs.Makings.{agrees, makes_append, makes_accesses, EndsIn}
use Rattle.settle_law.proofs.Extracting.{Split, extracted}

-- how a turn that ends well began
pub inverted : (o : Option (List ℤ)) (turn_on : List ℤ → Ended) (last : List ℤ) → option_and_then (λ words. completed (turn_on words)) o ≡ Some last → (words : List ℤ) × (o ≡ Some words) × (turn_on words ≡ Completed last)
inverted None turn_on last e = absurd (let no : None ≡ Some last = e in cc)
inverted (Some words) turn_on last e = (words, refl, well (turn_on words) e)
  where
    well : (ended : Ended) → completed ended ≡ Some last → ended ≡ Completed last
    well (Completed reached) same = let s : Some reached ≡ Some last = same in let t : reached ≡ last = cc in ap Completed t
    well (Stopped cause line reached) same = absurd (let no : None ≡ Some last = same in cc)

-- what a textual turn that completes leaves of a tree, as accesses that finish it
completes : (m : ℕ) (rest : Tree) (words last : List ℤ) → turn rest words ≡ Completed last → Makes rest (accesses m rest words) Finished × (last ≡ settle words (accesses m rest words))
completes m rest words last e = from (makes_accesses m rest words)
  where
    ended : (left : Tree) (end : Ended) → end ≡ Completed last → Makes rest (accesses m rest words) left → EndsIn end (settle words (accesses m rest words)) left → Makes rest (accesses m rest words) Finished × (last ≡ settle words (accesses m rest words))
    ended left (Completed reached) same makes ends = let s : Completed reached ≡ Completed last = same in let t : reached ≡ last = cc in (subst (Makes rest (accesses m rest words)) ends.0 makes, sym t ∙ ends.1)
    ended left (Stopped cause line reached) same makes ends = absurd (let no : Stopped cause line reached ≡ Completed last = same in cc)

    from : (left : Tree) × Makes rest (accesses m rest words) left × EndsIn (turn rest words) (settle words (accesses m rest words)) left → Makes rest (accesses m rest words) Finished × (last ≡ settle words (accesses m rest words))
    from (left, makes, ends) = ended left (turn rest words) e makes ends

module _ (family : ℕ → Tree) (opening : List ℤ) (m : ℕ) (base : List ℤ) (trace : List Access) (lawful : Lawful family opening m base trace) where
  -- every later access is clear of what an iteration that is apart from it still makes
  clear_later : (n : ℕ) → (made : List Access) → Fits (family n) (part n trace ++ made) → Each (λ b. Apart (family n) (family (iteration b))) (behind (suc n) trace) → Each (λ a. Clear a (behind (suc n) trace)) made
  clear_later n made fits apart = each_of (λ a. Clear a (behind (suc n) trace)) made (λ a has_a. each_of (λ b. Conflict a b → ⊥) (behind (suc n) trace) (λ b has_b.
      let parts : Apart (family n) (family (iteration b)) = each_at (λ x. Apart (family n) (family (iteration x))) (behind (suc n) trace) b apart has_b in
      let free : Each (λ x. Each (λ y. Conflict x y → ⊥) (part (iteration b) trace)) (part n trace ++ made) = parts (part n trace ++ made) (part (iteration b) trace) fits (lawful.fits (iteration b)) in
      let mine : Each (λ y. Conflict a y → ⊥) (part (iteration b) trace) = each_at (λ x. Each (λ y. Conflict x y → ⊥) (part (iteration b) trace)) made a (each_behind _ (part n trace) made free) has_a in
      each_at (λ y. Conflict a y → ⊥) (part (iteration b) trace) b mine (has_part (iteration b) b trace (behind_has (suc n) b trace has_b).0 refl)))

  -- an iteration from m on is finished, or apart from every later one that has an access
  finished_or_apart : (n : ℕ) → m ≤ n → IsFinished (family n) (part n trace) ⊎ Each (λ b. Apart (family n) (family (iteration b))) (behind (suc n) trace)
  finished_or_apart n from = each_either (IsFinished (family n) (part n trace)) (λ b. Apart (family n) (family (iteration b))) (behind (suc n) trace) (each_of _ (behind (suc n) trace) (λ b has.
      let later : suc n ≤ iteration b = (behind_has (suc n) b trace has).1 in
      each_at (λ a. (j : ℕ) → m ≤ j → j < iteration a → IsFinished (family j) (part j trace) ⊎ Apart (family j) (family (iteration a))) trace b lawful.guarded (behind_has (suc n) b trace has).0 n from (omega arith)))

  own_agrees : (n : ℕ) (words : List ℤ) (rest : Tree) → Makes (family n) (part n trace) rest → Replays words (part n trace) → (accesses n (family n) words ≡ part n trace ++ accesses n rest (settle words (part n trace))) × (turn (family n) words ≡ turn rest (settle words (part n trace)))
  own_agrees n words rest makes replays = agrees n (family n) (part n trace) rest words makes (part_is_own n trace) replays

  -- If the iterations from n on replay from the words before n, those behind n replay from the words behind it.
  next_replays : (n : ℕ) (words last : List ℤ) → m ≤ n → Replays words (behind n trace) → turn (family n) words ≡ Completed last → Replays last (behind (suc n) trace)
  next_replays n words last from replays e = by_case (extracted n words trace lawful.in_order replays) (lawful.fits n) (finished_or_apart n from)
    where
      by_case : Split words (behind n trace) (part n trace) (behind (suc n) trace) → Fits (family n) (part n trace) → IsFinished (family n) (part n trace) ⊎ Each (λ b. Apart (family n) (family (iteration b))) (behind (suc n) trace) → Replays last (behind (suc n) trace)
      by_case (own, later, same) (rest, makes) (inl finished) =
          let ends : turn (family n) words ≡ Completed (settle words (part n trace)) = (own_agrees n words Finished finished own).1 in
          let at : Completed (settle words (part n trace)) ≡ Completed last = sym ends ∙ e in
          let reached : settle words (part n trace) ≡ last = cc in
          subst (λ x. Replays x (behind (suc n) trace)) reached later
      by_case (own, later, same) (rest, makes) (inr apart) =
          let ends : turn rest (settle words (part n trace)) ≡ Completed last = sym (own_agrees n words rest makes own).1 ∙ e in
          let made : Makes rest (accesses n rest (settle words (part n trace))) Finished × (last ≡ settle (settle words (part n trace)) (accesses n rest (settle words (part n trace)))) = completes n rest (settle words (part n trace)) last ends in
          let whole : Fits (family n) (part n trace ++ accesses n rest (settle words (part n trace))) = (Finished, makes_append (family n) (part n trace) (accesses n rest (settle words (part n trace))) rest Finished makes made.0) in
          subst (λ x. Replays x (behind (suc n) trace)) (sym made.1) (replays_behind_all (settle words (part n trace)) (accesses n rest (settle words (part n trace))) (behind (suc n) trace) (clear_later n _ whole apart) later)

  at_first : (n : ℕ) (words : List ℤ) → n ≡ m → after family opening n ≡ Some words → Replays words (behind n trace)
  at_first n words same e =
      let at : after family opening m ≡ Some words = subst (λ k. after family opening k ≡ Some words) same e in
      let both : Some base ≡ Some words = sym lawful.reached ∙ at in
      let base_is : base ≡ words = cc in
      subst (λ k. Replays words (behind k trace)) (sym same) (subst (λ x. Replays x (behind m trace)) base_is (subst (Replays base) (sym (behind_all m trace lawful.from_m)) lawful.replays))

  -- Wherever textual order gets, the rest of the trace replays from there.
  pub reached_replays : (n : ℕ) (words : List ℤ) → m ≤ n → after family opening n ≡ Some words → Replays words (behind n trace)
  reached_replays zero words from e = at_first zero words (omega arith) e
  reached_replays (suc n) words from e = by_case (cases_order (suc n) m) (λ before le at. reached_replays n before le at)
    where
      go : ((before : List ℤ) → m ≤ n → after family opening n ≡ Some before → Replays before (behind n trace)) → m ≤ n → (before : List ℤ) × (after family opening n ≡ Some before) × (turn (family n) before ≡ Completed words) → Replays words (behind (suc n) trace)
      go more le (before, at, ends) = next_replays n before words le (more before le at) ends

      by_case : (suc n ≡ m) ⊎ ((suc n < m) ⊎ (m < suc n)) → ((before : List ℤ) → m ≤ n → after family opening n ≡ Some before → Replays before (behind n trace)) → Replays words (behind (suc n) trace)
      by_case (inl same) more = at_first (suc n) words same e
      by_case (inr (inl lower)) more = absurd (omega arith)
      by_case (inr (inr higher)) more = go more (omega arith) (inverted (after family opening n) (turn (family n)) words e)

  pub textual : (k : ℕ) (words : List ℤ) → m ≤ k → after family opening k ≡ Some words → Textual (family k) k words (part k trace)
  textual k words from e = by_case (extracted k words trace lawful.in_order (reached_replays k words from e)) (lawful.fits k)
    where
      by_case : Split words (behind k trace) (part k trace) (behind (suc k) trace) → Fits (family k) (part k trace) → Textual (family k) k words (part k trace)
      by_case (own, later, same) (rest, makes) = record {
        prefix = (accesses k rest (settle words (part k trace)), sym (own_agrees k words rest makes own).0);
        finished = λ finished. (sym ((own_agrees k words Finished finished own).0 ∙ append-nil _), (own_agrees k words Finished finished own).1);
        trapped = λ cause line trapped. (sym ((own_agrees k words (Trapped cause line) trapped own).0 ∙ append-nil _), (own_agrees k words (Trapped cause line) trapped own).1);
      }

  -- finished parts carry the words
  abbrev pub Carried : ℕ → Type 0
  Carried n = (words : List ℤ) × (after family opening n ≡ Some words) × Replays words (behind n trace) × (settle words (behind n trace) ≡ settle base trace)

  carried_first : (n : ℕ) → n ≡ m → Carried n
  carried_first n same = subst Carried (sym same) (base, lawful.reached, subst (Replays base) (sym (behind_all m trace lawful.from_m)) lawful.replays, ap (settle base) (behind_all m trace lawful.from_m))

  carried_next : (n : ℕ) → IsFinished (family n) (part n trace) → Carried n → Carried (suc n)
  carried_next n finished (words, at, replays, same) = go (extracted n words trace lawful.in_order replays)
    where
      go : Split words (behind n trace) (part n trace) (behind (suc n) trace) → Carried (suc n)
      go (own, later, settles) = (settle words (part n trace), ap (option_and_then (λ x. completed (turn (family n) x))) at ∙ ap completed (own_agrees n words Finished finished own).1, later, settles ∙ same)

  pub carried : (n : ℕ) → m ≤ n → FinishedParts family m n trace → Carried n
  carried zero from finished = carried_first zero (omega arith)
  carried (suc n) from finished = by_case (cases_order (suc n) m) (λ le. carried n le (λ k ge lt. finished k ge (omega arith)))
    where
      by_case : (suc n ≡ m) ⊎ ((suc n < m) ⊎ (m < suc n)) → (m ≤ n → Carried n) → Carried (suc n)
      by_case (inl same) more = carried_first (suc n) same
      by_case (inr (inl lower)) more = absurd (omega arith)
      by_case (inr (inr higher)) more = carried_next n (finished n (omega arith) (omega arith)) (more (omega arith))

pub parts : PartsAreTextual
parts family opening m words trace lawful k reached from e = textual family opening m words trace lawful k reached from e

pub reaches : FinishedPartsReach
reaches family opening m words trace lawful n from finished = let c = carried family opening m words trace lawful n from finished in (c.0, c.1)

pub settles : FinishedPartsSettle
settles family opening m words trace lawful n from finished below = go (carried family opening m words trace lawful n from finished)
  where
    go : Carried family opening m words trace lawful n → after family opening n ≡ Some (settle words trace)
    go (reached, at, replays, same) = at ∙ ap Some (ap (settle reached) (sym (behind_none n trace below)) ∙ same)

pub wholes : FinishedPartsAreWhole
wholes family opening m words trace lawful n finished k from below = go (carried family opening m words trace lawful k from (λ j ge lt. finished j ge (omega arith)))
  where
    go : Carried family opening m words trace lawful k → (reached : List ℤ) × (after family opening k ≡ Some reached) × (part k trace ≡ accesses k (family k) reached)
    go (reached, at, replays, same) = (reached, at, ((textual family opening m words trace lawful k reached from at).finished (finished k from below)).0)

pub traps : TrappedPartIsTextual
traps family opening m words trace lawful n cause line from finished trapped = go (carried family opening m words trace lawful n from finished)
  where
    with_split : (reached : List ℤ) → after family opening n ≡ Some reached → settle reached (behind n trace) ≡ settle words trace → Split reached (behind n trace) (part n trace) (behind (suc n) trace) → (reached : List ℤ) × (after family opening n ≡ Some reached) × (turn (family n) reached ≡ Stopped cause line (settle reached (part n trace))) × (Each (λ a. iteration a ≤ n) trace → settle reached (part n trace) ≡ settle words trace)
    with_split reached at same (own, later, settles_too) = (
      reached,
      at,
      (own_agrees family opening m words trace lawful n reached (Trapped cause line) trapped own).1,
      λ below. ap (settle (settle reached (part n trace))) (sym (behind_none (suc n) trace (each_of (λ a. iteration a < suc n) trace (λ a has. let le : iteration a ≤ n = each_at (λ x. iteration x ≤ n) trace a below has in omega arith)))) ∙ settles_too ∙ same,
    )

    go : Carried family opening m words trace lawful n → (reached : List ℤ) × (after family opening n ≡ Some reached) × (turn (family n) reached ≡ Stopped cause line (settle reached (part n trace))) × (Each (λ a. iteration a ≤ n) trace → settle reached (part n trace) ≡ settle words trace)
    go (reached, at, replays, same) = with_split reached at same (extracted n reached trace lawful.in_order replays)

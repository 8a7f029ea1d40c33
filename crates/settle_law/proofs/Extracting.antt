-- The lowest iteration may be taken out of a trace that is in order, to the front.
use Rattle.std.proofs.Common.{◌≡◌, ℕ, suc, ◌<◌, ◌≤◌, ◌⊎◌, ℤ, List, [], ◌∷◌, refl, sym, ap, ◌∙◌, subst, inl, inr, arith}
use Rattle.std.proofs.lemmas.Bool.{cases_order}
use Rattle.settle_law.specs.Traces.{Access, iteration, Each, apply, settle, Sees, Replays, Conflict, InOrder, part, behind}
use Rattle.settle_law.proofs.Members.{part_own, part_other, behind_kept, behind_gone}
use Rattle.settle_law.proofs.Commuting.{Clear, sees_settled, settle_behind, replays_before, clear_part}

-- a list may be replaced by one after another: it replays, the other behind it, and both settle as the list does
abbrev pub Split : List ℤ → List Access → List Access → List Access → Type 0
Split words whole first others = Replays words first × Replays (settle words first) others × (settle (settle words first) others ≡ settle words whole)

moved : (words : List ℤ) (whole first others whole' first' others' : List Access) → whole' ≡ whole → first' ≡ first → others' ≡ others → Split words whole first others → Split words whole' first' others'
moved words whole first others whole' first' others' e f g s = subst (λ x. Split words x first' others') (sym e) (subst (λ x. Split words whole x others') (sym f) (subst (λ x. Split words whole first x) (sym g) s))

first_too : (words : List ℤ) (a : Access) (whole first others : List Access) → Sees words a → Split (apply words a) whole first others → Split words (a ∷ whole) (a ∷ first) others
first_too words a whole first others sees (replays, later, same) = ((sees, replays), later, same)

later_too : (words : List ℤ) (a : Access) (whole first others : List Access) → Clear a first → Sees words a → Split (apply words a) whole first others → Split words (a ∷ whole) first (a ∷ others)
later_too words a whole first others clear sees (replays, later, same) =
    let moves : settle (apply words a) first ≡ apply (settle words first) a = settle_behind words a first clear in (
      replays_before words a first clear replays,
      (sees_settled words a first clear sees, subst (λ x. Replays x others) moves later),
      ap (λ x. settle x others) (sym moves) ∙ same,
    )

by_order : (m : ℕ) (words : List ℤ) (a : Access) (trace : List Access) → Each (λ b. Conflict a b → iteration a ≤ iteration b) trace → ((w : List ℤ) → Replays w (behind m trace) → Split w (behind m trace) (part m trace) (behind (suc m) trace)) → Replays words (behind m (a ∷ trace)) → (iteration a ≡ m) ⊎ ((iteration a < m) ⊎ (m < iteration a)) → Split words (behind m (a ∷ trace)) (part m (a ∷ trace)) (behind (suc m) (a ∷ trace))
by_order m words a trace leads more replays (inl own) =
    let kept : behind m (a ∷ trace) ≡ a ∷ behind m trace = behind_kept m a trace (omega arith) in
    let gone : behind (suc m) (a ∷ trace) ≡ behind (suc m) trace = behind_gone (suc m) a trace (omega arith) in
    let r : Replays words (a ∷ behind m trace) = subst (Replays words) kept replays in
    moved words (a ∷ behind m trace) (a ∷ part m trace) (behind (suc m) trace) _ _ _ kept (part_own m a trace own) gone (first_too words a (behind m trace) (part m trace) (behind (suc m) trace) r.0 (more (apply words a) r.1))
by_order m words a trace leads more replays (inr (inl lower)) =
    let gone : behind m (a ∷ trace) ≡ behind m trace = behind_gone m a trace lower in
    let gone_too : behind (suc m) (a ∷ trace) ≡ behind (suc m) trace = behind_gone (suc m) a trace (omega arith) in
    let other : part m (a ∷ trace) ≡ part m trace = part_other m a trace (λ same. let s : iteration a ≡ m = same in omega arith) in
    moved words (behind m trace) (part m trace) (behind (suc m) trace) _ _ _ gone other gone_too (more words (subst (Replays words) gone replays))
by_order m words a trace leads more replays (inr (inr higher)) =
    let kept : behind m (a ∷ trace) ≡ a ∷ behind m trace = behind_kept m a trace (omega arith) in
    let kept_too : behind (suc m) (a ∷ trace) ≡ a ∷ behind (suc m) trace = behind_kept (suc m) a trace (omega arith) in
    let other : part m (a ∷ trace) ≡ part m trace = part_other m a trace (λ same. let s : iteration a ≡ m = same in omega arith) in
    let r : Replays words (a ∷ behind m trace) = subst (Replays words) kept replays in
    moved words (a ∷ behind m trace) (part m trace) (a ∷ behind (suc m) trace) _ _ _ kept other kept_too (later_too words a (behind m trace) (part m trace) (behind (suc m) trace) (clear_part m a trace leads higher) r.0 (more (apply words a) r.1))

pub extracted : (m : ℕ) (words : List ℤ) (trace : List Access) → InOrder trace → Replays words (behind m trace) → Split words (behind m trace) (part m trace) (behind (suc m) trace)
extracted m words [] order replays = (tt, tt, refl)
extracted m words (a ∷ trace) order replays = by_order m words a trace order.0 (λ w r. extracted m w trace order.1 r) replays (cases_order (iteration a) m)

-- That pieces from which the hops unfold realise their cut turns.
use Rattle.std.proofs.Common.{ℕ, suc, ◌-◌, ◌<◌, ◌≤◌, ℤ, Bool, true, false, Option, List, ap, ◌∙◌, arith}
use Rattle.nest_syntax.specs.Turn.{Turn, Finished, Trapped, Load, Store, Op, Go}
use Rattle.settle_law.specs.Cuts.{Cut, cut, pausing, is_full, one_more}
use Rattle.settle_law.specs.Tasks.{Loads, Stores, Realises}
use Rattle.settle_law.specs.Reading.{KeepsFixed}
use Rattle.task_hop.specs.declared.frame.Register.TheVariants as register
use Rattle.task_hop.specs.Registers.{with_register}
use Rattle.task_code.specs.Code.{Code}
use Rattle.task_code.specs.Unfolded.{Unfolds}
use Rattle.task_frame.specs.declared.piece.Piece.{Piece}
use Rattle.task_frame.specs.Pieces.{piece_at, reached}
use Rattle.turn_cost.specs.Costs.{AtMost}
use Rattle.turn_cost.proofs.Costly.{at_most_more}
use Rattle.task_frame.specs.System.{behind, stop_told, system_of, StopsAtMost}

less_left : (m left : ℕ) → suc m ≤ left → left - 1 < left
less_left m left less = omega (arith, less)

still_left : (m left : ℕ) → suc m ≤ left → m ≤ left - 1
still_left m left less = omega (arith, less)

below : (m left : ℕ) → suc m ≤ left → m ≤ left
below m left less = omega (arith, less)

module _ (sizes : List ℕ) where
  paused : (b : Bool) (rest : Turn) (k m most : ℕ) → suc m ≤ most → ((n : ℕ) → AtMost rest n → StopsAtMost (cut sizes k rest) n) → AtMost rest m → StopsAtMost (pausing b (cut sizes k rest)) most
  paused true rest k m most less stops few = (m, less, stops m few)
  paused false rest k m most less stops few = stops most (at_most_more rest m most (below m most less) few)

  pub may_pause : (t : Turn) (before most : ℕ) → AtMost t most → StopsAtMost (cut sizes before t) most
  may_pause Finished before most few = tt
  may_pause (Trapped cause line) before most few = tt
  may_pause (Load array place go) before most (m, less, few) = (m, less, λ value. may_pause (go value) 0 m (few value))
  may_pause (Store array place value rest) before most (m, less, few) = (m, less, may_pause rest 0 m few)
  may_pause (Op rest) before most (m, less, few) = paused (is_full before) rest (one_more before) m most less (λ n. may_pause rest (one_more before) n) few
  may_pause (Go rest) before most (m, less, few) = (m, less, may_pause rest 0 m few)

  module _ (code : Code) (fixed : ℕ → Option ℤ) where
    abbrev Realised : Cut → Piece → ℕ → Type 0
    Realised c piece left = Realises (system_of sizes code fixed) c (record { piece = piece; left = left })

    operated : (b : Bool) (rest : Turn) (k m left : ℕ) (piece : Piece) → suc m ≤ left → AtMost rest m → Unfolds sizes code.instructions (pausing b (cut sizes k rest)) (reached piece)
        → ((n : ℕ) (p : Piece) → AtMost rest n → Unfolds sizes code.instructions (cut sizes k rest) (reached p) → Realised (cut sizes k rest) p n)
        → Realised (pausing b (cut sizes k rest)) piece left
    operated true rest k m left piece less few (next, is, goes) realises = (
      behind code left next (reached piece).frame,
      ap (stop_told sizes code left (reached piece).frame) is,
      less_left m left less,
      realises (left - 1) (piece_at code next (reached piece).frame) (at_most_more rest m (left - 1) (still_left m left less) few) goes,
    )
    operated false rest k m left piece less few goes realises = realises left piece (at_most_more rest m left (below m left less) few) goes

    pub realised : (t : Turn) (before left : ℕ) (piece : Piece) → Unfolds sizes code.instructions (cut sizes before t) (reached piece) → KeepsFixed sizes fixed t → AtMost t left
        → Realised (cut sizes before t) piece left
    realised Finished before left piece is keeps few = ap (stop_told sizes code left (reached piece).frame) is
    realised (Trapped cause line) before left piece is keeps few = ap (stop_told sizes code left (reached piece).frame) is
    realised (Load array place go) before left piece (a, p, into, next, is, same, goes) keeps (m, less, few) = (
      (λ value. behind code left next (with_register (reached piece).frame (register.Temporary into) value)),
      ap (stop_told sizes code left (reached piece).frame) is ∙ ap (λ w. Loads w (λ value. behind code left next (with_register (reached piece).frame (register.Temporary into) value))) same,
      λ value can. (
        less_left m left less,
        realised (go value) 0 (left - 1) (piece_at code next (with_register (reached piece).frame (register.Temporary into) value)) (goes value) (keeps value can) (at_most_more (go value) m (left - 1) (still_left m left less) (few value)),
      ),
    )
    realised (Store array place value rest) before left piece (a, p, next, is, same, goes) keeps (m, less, few) = (
      behind code left next (reached piece).frame,
      ap (stop_told sizes code left (reached piece).frame) is ∙ ap (λ w. Stores w value (behind code left next (reached piece).frame)) same,
      keeps.0,
      less_left m left less,
      realised rest 0 (left - 1) (piece_at code next (reached piece).frame) goes keeps.1 (at_most_more rest m (left - 1) (still_left m left less) few),
    )
    realised (Op rest) before left piece unfolds keeps (m, less, few) =
        operated (is_full before) rest (one_more before) m left piece less few unfolds (λ n p most goes. realised rest (one_more before) n p goes keeps most)
    realised (Go rest) before left piece (next, is, goes) keeps (m, less, few) = (
      behind code left next (reached piece).frame,
      ap (stop_told sizes code left (reached piece).frame) is,
      less_left m left less,
      realised rest 0 (left - 1) (piece_at code next (reached piece).frame) goes keeps (at_most_more rest m (left - 1) (still_left m left less) few),
    )

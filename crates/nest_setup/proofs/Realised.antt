-- Pieces from which the hops unfold realise their cut turns, with as many stops left as the turn takes on the paths that it
-- can take with these `const` words.
use Rattle.std.proofs.Common.{ℕ, suc, ◌-◌, ◌<◌, ◌≤◌, ℤ, Bool, true, false, Option, List, ap, ◌∙◌, arith}
use Rattle.nest_syntax.specs.Turn.{Turn, Finished, Trapped, Load, Store, Op, Go}
use Rattle.settle_law.specs.Cuts.{Cut, cut, pausing, is_full, one_more}
use Rattle.settle_law.specs.Tasks.{Loads, Stores, Realises}
use Rattle.settle_law.specs.Reading.{KeepsFixed}
use Rattle.turn_cost.specs.Costs.{AtMost}
use Rattle.claim_walk.specs.Laws.{TakesAtMost}
use Rattle.task_hop.specs.declared.frame.Register.TheVariants as register
use Rattle.task_hop.specs.Registers.{with_register}
use Rattle.task_code.specs.Code.{Code}
use Rattle.task_code.specs.Unfolded.{Unfolds}
use Rattle.task_frame.specs.declared.piece.Piece.{Piece}
use Rattle.task_frame.specs.Pieces.{piece_at, reached}
use Rattle.task_frame.specs.System.{behind, stop_told, system_of}

module _ (sizes : List ℕ) (fixed : ℕ → Option ℤ) where
  pub takes_more : (t : Turn) (n m : ℕ) → n ≤ m → TakesAtMost sizes fixed t n → TakesAtMost sizes fixed t m
  takes_more Finished n m le few = tt
  takes_more (Trapped cause line) n m le few = tt
  takes_more (Load array place go) n m le (k, less, few) = (k, omega (arith, le, less), few)
  takes_more (Store array place value rest) n m le (k, less, few) = (k, omega (arith, le, less), few)
  takes_more (Op rest) n m le (k, less, few) = (k, omega (arith, le, less), few)
  takes_more (Go rest) n m le (k, less, few) = (k, omega (arith, le, less), few)

  -- what bounds each path bounds those that can be taken
  pub takes_within : (t : Turn) (n : ℕ) → AtMost t n → TakesAtMost sizes fixed t n
  takes_within Finished n few = tt
  takes_within (Trapped cause line) n few = tt
  takes_within (Load array place go) n (k, less, few) = (k, less, λ value can. takes_within (go value) k (few value))
  takes_within (Store array place value rest) n (k, less, few) = (k, less, takes_within rest k few)
  takes_within (Op rest) n (k, less, few) = (k, less, takes_within rest k few)
  takes_within (Go rest) n (k, less, few) = (k, less, takes_within rest k few)

less_left : (m left : ℕ) → suc m ≤ left → left - 1 < left
less_left m left less = omega (arith, less)

still_left : (m left : ℕ) → suc m ≤ left → m ≤ left - 1
still_left m left less = omega (arith, less)

below : (m left : ℕ) → suc m ≤ left → m ≤ left
below m left less = omega (arith, less)

module _ (sizes : List ℕ) (code : Code) (fixed : ℕ → Option ℤ) where
  abbrev Realised : Cut → Piece → ℕ → Type 0
  Realised c piece left = Realises (system_of sizes code fixed) c (record { piece = piece; left = left })

  -- behind a stop there is room for the rest
  rest_fits : (rest : Turn) (m left : ℕ) → suc m ≤ left → TakesAtMost sizes fixed rest m → TakesAtMost sizes fixed rest (left - 1)
  rest_fits rest m left less few = takes_more sizes fixed rest m (left - 1) (still_left m left less) few

  operated : (b : Bool) (rest : Turn) (k m left : ℕ) (piece : Piece) → suc m ≤ left → TakesAtMost sizes fixed rest m → Unfolds sizes code.instructions (pausing b (cut sizes k rest)) (reached piece)
      → ((n : ℕ) (p : Piece) → TakesAtMost sizes fixed rest n → Unfolds sizes code.instructions (cut sizes k rest) (reached p) → Realised (cut sizes k rest) p n)
      → Realised (pausing b (cut sizes k rest)) piece left
  operated true rest k m left piece less few (next, is, goes) realises = (
    behind code left next (reached piece).frame,
    ap (stop_told sizes code left (reached piece).frame) is,
    less_left m left less,
    realises (left - 1) (piece_at code next (reached piece).frame) (rest_fits rest m left less few) goes,
  )
  operated false rest k m left piece less few goes realises = realises left piece (takes_more sizes fixed rest m left (below m left less) few) goes

  pub realised : (t : Turn) (before left : ℕ) (piece : Piece) → Unfolds sizes code.instructions (cut sizes before t) (reached piece) → KeepsFixed sizes fixed t → TakesAtMost sizes fixed t left
      → Realised (cut sizes before t) piece left
  realised Finished before left piece is keeps few = ap (stop_told sizes code left (reached piece).frame) is
  realised (Trapped cause line) before left piece is keeps few = ap (stop_told sizes code left (reached piece).frame) is
  realised (Load array place go) before left piece (a, p, into, next, is, same, goes) keeps (m, less, few) = (
    (λ value. behind code left next (with_register (reached piece).frame (register.Temporary into) value)),
    ap (stop_told sizes code left (reached piece).frame) is ∙ ap (λ w. Loads w (λ value. behind code left next (with_register (reached piece).frame (register.Temporary into) value))) same,
    λ value can. (
      less_left m left less,
      realised (go value) 0 (left - 1) (piece_at code next (with_register (reached piece).frame (register.Temporary into) value)) (goes value) (keeps value can) (rest_fits (go value) m left less (few value can)),
    ),
  )
  realised (Store array place value rest) before left piece (a, p, next, is, same, goes) keeps (m, less, few) = (
    behind code left next (reached piece).frame,
    ap (stop_told sizes code left (reached piece).frame) is ∙ ap (λ w. Stores w value (behind code left next (reached piece).frame)) same,
    keeps.0,
    less_left m left less,
    realised rest 0 (left - 1) (piece_at code next (reached piece).frame) goes keeps.1 (rest_fits rest m left less few),
  )
  realised (Op rest) before left piece unfolds keeps (m, less, few) =
      operated (is_full before) rest (one_more before) m left piece less few unfolds (λ n p most goes. realised rest (one_more before) n p goes keeps most)
  realised (Go rest) before left piece (next, is, goes) keeps (m, less, few) = (
    behind code left next (reached piece).frame,
    ap (stop_told sizes code left (reached piece).frame) is,
    less_left m left less,
    realised rest 0 (left - 1) (piece_at code next (reached piece).frame) goes keeps (rest_fits rest m left less few),
  )

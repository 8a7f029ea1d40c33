-- The claims of the walk hold the turns, and its steps bound them.
use Rattle.std.proofs.Common.{ℕ, ◌+◌, ◌≤◌, ℤ, true, false, List, length, sum, sym, ◌∙◌, arith}
use Rattle.std.proofs.lemmas.List.FromFn.{length-map-range_with_len}
use Rattle.nest_syntax.specs.Arrays.{arrays_of, sizes_of}
use Rattle.nest_syntax.specs.Shape.{bodies_of}
use Rattle.nest_syntax.specs.Outcome.{body_at, turn_in}
use Rattle.settle_law.specs.Reading.{fixed_in}
use Rattle.claim_walk.specs.Walk.{is_claimed}
use Rattle.claim_walk.specs.Rounds.{data_locals_of}
use Rattle.claim_walk.proofs.Whole.{steps_bound}
use Rattle.claim_walk.proofs.Rounds.{are_data_locals}
use Rattle.addr_slice.specs.Slice.{steps_met}
use Rattle.addr_slice.proofs.Slicing.{claims_hold_turns}
use Rattle.nest_setup.specs.Walked.{WalksFit}
use Rattle.nest_setup.proofs.Realised.{takes_more}

pub walks_fit : WalksFit
walks_fit program opening named keeps = (
  record {
    even = λ i.
        length-map-range_with_len (is_claimed (sizes_of (arrays_of program.decls)) (steps_met program opening i) true) 0 (sum (sizes_of (arrays_of program.decls)))
        ∙ sym (length-map-range_with_len (is_claimed (sizes_of (arrays_of program.decls)) (steps_met program opening i) false) 0 (sum (sizes_of (arrays_of program.decls))));
    hold = λ i. claims_hold_turns program named keeps opening i.0 i.1;
  },
  λ i. takes_more (sizes_of (arrays_of program.decls)) (fixed_in (arrays_of program.decls) opening) (turn_in (arrays_of program.decls) (bodies_of program) i.0 i.1) (length (steps_met program opening i)) (length (steps_met program opening i) + 1) (more (length (steps_met program opening i)))
      (steps_bound program named keeps i.0 (data_locals_of (arrays_of program.decls) (body_at (bodies_of program) i.0)) (are_data_locals (arrays_of program.decls) (body_at (bodies_of program) i.0)) i.1 opening),
)
  where
    more : (n : ℕ) → n ≤ n + 1
    more n = omega arith

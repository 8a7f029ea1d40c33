-- The iterations of a task, one by one.
use Rattle.std.proofs.Common.{◌≡◌, ℕ, suc, ◌+◌, ◌<◌, Some, sym, ap, ◌∙◌, arith}
use Rattle.nest_mean.specs.Nest.{Nest}
use Rattle.settle_law.specs.Courses.{iteration_at, nest_of}
use Rattle.settle_law.specs.Claims.{Claims}
use Rattle.sched_cursor.specs.Cursor.{Cursor}
use Rattle.sched_cursor.specs.Events.{handed_at}
use Rattle.sched_cursor.specs.Handed.{what_of}
use Rattle.spec_machine.specs.Signatures.{Kind}
use Rattle.spec_machine.specs.Segments.{with_claims, with_iterations}
use Rattle.nest_profile.specs.Iterations.{turned, left_at, AreNext}
use Rattle.nest_profile.proofs.Turned.{counted_turned}

pub is_next : (job : Nest) (c d : Cursor) (count n : ℕ) → d ≡ turned n c → n < count → n < left_at c.at → AreNext job c count → iteration_at (nest_of job.program job.opening.words) d.next ≡ Some (what_of job.program (handed_at d d.at))
is_next job c d count n is low some next =
    ap (iteration_at (nest_of job.program job.opening.words)) (counted_turned c d n is some) ∙ next n low ∙ ap (λ (x : Cursor). Some (what_of job.program (handed_at x x.at))) (sym is)

pub noted_on : {G : Type 0} (kind : Kind G) (claims : ℕ → Claims) (size k n at : ℕ) (sign new : G) → at ≡ k + n → sign ≡ with_iterations kind claims size k n → new ≡ with_claims kind (claims at) size sign → new ≡ with_iterations kind claims size k (n + 1)
noted_on kind claims size k n at sign new there is noted =
    let one : suc n ≡ n + 1 = omega arith in
    noted ∙ ap (λ x. with_claims kind (claims x) size sign) there ∙ ap (with_claims kind (claims (k + n)) size) is ∙ ap (with_iterations kind claims size k) one

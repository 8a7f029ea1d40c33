use Rattle.std.proofs.Common.{◌≡◌, ℕ, if◌then◌else◌, nat_lt, None, List, length, get_or}
use Rattle.shadow_memory.specs.Notes.{Note, later}
use Rattle.shadow_memory.specs.Accesses.{last_conflict, IsNoted}
use Rattle.shadow_memory.proofs.shadow.Shadow.raise.Given as goal

abbrev pub invariant-loop-other : goal.invariant-loop-other
invariant-loop-other l = record {
  long : length l.needs ≡ 8;
  raised : (notes : List Note) → IsNoted l.self notes → (k : ℕ)
      → get_or l.needs k None ≡ (if nat_lt k l.other then later (get_or l.initial.needs k None) (last_conflict notes l.claims k l.word) else get_or l.initial.needs k None);
}

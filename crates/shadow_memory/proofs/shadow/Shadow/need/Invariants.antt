use Rattle.std.proofs.Common.{◌≡◌, ℕ, ◌-◌, ◌≤◌, None, List, length, get_or}
use Rattle.addr_slice.specs.Claims.{words_of}
use Rattle.shadow_memory.specs.Notes.{Note}
use Rattle.shadow_memory.specs.Accesses.{IsNoted}
use Rattle.shadow_memory.proofs.Conflicts.{conflict_below}
use Rattle.shadow_memory.proofs.shadow.Shadow.need.Given as goal

abbrev pub invariant-words : goal.invariant-words
invariant-words l = record {
  within : l.from ≤ words_of l.claims;
  long : length l.needs ≡ 8;
  needs : (notes : List Note) → IsNoted l.self notes → (other : ℕ) → get_or l.needs other None ≡ conflict_below notes l.claims other l.from;
}

abbrev pub decreases-words : goal.decreases-words
decreases-words l = words_of l.claims - l.from

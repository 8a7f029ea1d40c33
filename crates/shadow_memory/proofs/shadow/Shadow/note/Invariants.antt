use Rattle.std.proofs.Common.{◌≡◌, ◌-◌, ◌≤◌, List}
use Rattle.addr_slice.specs.Claims.{words_of}
use Rattle.shadow_memory.specs.Notes.{Note}
use Rattle.shadow_memory.specs.Accesses.{IsNoted}
use Rattle.shadow_memory.proofs.Noting.{IsNotedBelow}
use Rattle.shadow_memory.proofs.shadow.Shadow.note.Given as goal

abbrev pub invariant-words : goal.invariant-words
invariant-words l = record {
  within : l.from ≤ words_of l.claims;
  words : l.self.words ≡ l.fn.self.words;
  workers : l.self.workers ≡ l.fn.self.workers;
  noted : (notes : List Note) → IsNoted l.fn.self notes → IsNotedBelow (record { worker = l.worker; number = l.number; claims = l.claims }) notes l.fn.self.words l.fn.self.workers l.from l.self;
}

abbrev pub decreases-words : goal.decreases-words
decreases-words l = words_of l.claims - l.from

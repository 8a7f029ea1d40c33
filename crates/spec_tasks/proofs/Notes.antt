-- Notes keep the law of signatures.
use Rattle.std.proofs.Common.{refl}
use Rattle.spec_tasks.specs.Notes.{NotesKeepLaw}

pub law : {G : Type 0} → NotesKeepLaw G
law kind touched keeps = record {
  blank_reads = λ w. refl;
  blank_writes = λ w. refl;
  read_reads = λ w u notes. refl;
  read_writes = λ w u notes. refl;
  written_reads = λ w u notes. refl;
  written_writes = λ w u notes. refl;
  clashing = keeps.clashing;
  more = keeps.more;
}

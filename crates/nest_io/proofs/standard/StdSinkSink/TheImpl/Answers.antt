-- A sink that tells nothing meets its trait: its count stays or goes one up.
use Rattle.std.proofs.Common.{◌≡◌, ◌^◌, ◌<◌, ◌≤◌, ℕ, List, None, Ok, Err, Result, OnOk, OnErr, arith}
use Rattle.std.specs.Io.KnownBytes.{WriteAppends}
use Rattle.nest_io.specs.Count.{one_more, HasRisen}
use Rattle.nest_io.proofs.standard.StdSinkSink.TheImpl.Goals as goal

untold : {E : Type 0} (result : Result ℕ E) (bytes : List ℕ) → WriteAppends None None result bytes
untold (Ok count) bytes = tt
untold (Err fault) bytes = tt

rises : {E : Type 0} (result : Result ℕ E) (old new : ℕ) → old < 2 ^ 64 → OnErr result (new ≡ one_more old) → OnErr result (HasRisen old new)
rises (Ok count) old new fits failed = tt
rises (Err fault) old new fits failed = grind arith

no_less : {E : Type 0} (result : Result ℕ E) (old new : ℕ) → old < 2 ^ 64 → OnOk result (new ≡ old) → OnErr result (new ≡ one_more old) → old ≤ new
no_less (Ok count) old new fits taken failed = grind arith
no_less (Err fault) old new fits taken failed = grind arith

pub write-tells : goal.write-tells
write-tells g c = record {
  some = c.ensures.some;
  within = c.ensures.within;
  bytes = untold c.result c.args.bytes.now;
  cause = rises c.result c.args.self.now c.new.self.now c.ensures.fits c.ensures.failed;
  quiet = c.ensures.taken;
  never_falls = no_less c.result c.args.self.now c.new.self.now c.ensures.fits c.ensures.taken c.ensures.failed;
  sure = λ room fits never. absurd never;
}

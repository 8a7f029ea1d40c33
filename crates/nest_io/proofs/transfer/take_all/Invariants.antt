use Rattle.std.proofs.Common.{◌≡◌, ◌-◌, ◌≤◌, false, vec_len}
use Rattle.std.specs.Io.KnownBytes.{Consumes}
use Rattle.nest_io.specs.declared.transfer.TheConstants.{MOST_BYTES}
use Rattle.nest_io.proofs.transfer.take_all.Given as goal

abbrev pub invariant-pieces : goal.invariant-pieces
invariant-pieces g l = record {
  within : vec_len l.bytes ≤ MOST_BYTES;
  taken : Consumes (g.S.Source.left l.fn.source) (g.S.Source.left l.source) l.bytes.items;
  going : g.S.Source.is_ended l.source ≡ false;
  quiet : g.S.Source.faults l.source ≡ g.S.Source.faults l.fn.source;
  sure : g.S.Source.never_fails l.fn.source → g.S.Source.never_fails l.source;
}

abbrev pub decreases-pieces : goal.decreases-pieces
decreases-pieces g l = MOST_BYTES - vec_len l.bytes

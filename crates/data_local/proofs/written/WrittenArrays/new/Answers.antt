use Rattle.data_local.proofs.Scans.{scan_ends}
use Rattle.data_local.proofs.written.WrittenArrays.new.Goals as goal

pub returns : goal.returns
returns c = scan_ends _ _ _ _ c.loop-decl-test.false c.loop-decl.invariant

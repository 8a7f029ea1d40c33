use Rattle.addr_slice.proofs.Clashes.{tells_clash}
use Rattle.addr_slice.proofs.law.test_tells_clash.Goals as goal

pub returns : goal.returns
returns c = tells_clash

use Rattle.addr_slice.proofs.Slicing.{claims_hold_turns}
use Rattle.addr_slice.proofs.law.claims_hold.Goals as goal

pub returns : goal.returns
returns c = claims_hold_turns

use Rattle.addr_slice.proofs.Slicing.{claims_are_of_scope}
use Rattle.addr_slice.proofs.law.claims_are_of_scope.Goals as goal

pub returns : goal.returns
returns c = claims_are_of_scope

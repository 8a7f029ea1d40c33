use Rattle.spec_setup.proofs.Blocks.{are_shares}
use Rattle.spec_setup.proofs.blocks_are_shares.Goals as goal

pub returns : goal.returns
returns c = are_shares

use Rattle.toy_machine.specs.Guards.{made_row}
use Rattle.toy_machine.proofs.relay.Relay.made.Goals as goal

pub returns : goal.returns
returns c = let made = made_row c.args.self.now c.args.actor c.args.row c.requires in cc

use Rattle.std.proofs.Common.{arith}
use Rattle.toy_machine.specs.Tokens.{Hands, Halts, Takes}
use Rattle.toy_machine.specs.Guards.{hands, halts, takes}
use Rattle.toy_machine.specs.Laws.{kept_move}
use Rattle.toy_machine.proofs.relay.Relay.make.Goals as goal

pub invariant_of-self : goal.invariant_of-self
invariant_of-self c = kept_move _ c.args.actor Hands _ (hands _ (grind arith)) c.self.invariant

pub invariant_of-self-in-Halt : goal.invariant_of-self-in-Halt
invariant_of-self-in-Halt c = kept_move _ c.args.actor Halts _ (halts _ (grind arith)) c.self.invariant

pub invariant_of-self-in-Take : goal.invariant_of-self-in-Take
invariant_of-self-in-Take c = kept_move _ c.args.actor Takes _ (takes _ (grind arith)) c.self.invariant

use Rattle.std.proofs.Common.{◌≡◌, ◌+◌, ◌≤◌, drop}
use Rattle.domore_core.specs.Tallies.{with_waits}
use Rattle.domore_core.proofs.tally.Tally.hand_out.Given as goal

abbrev pub invariant-loop-wait : goal.invariant-loop-wait
invariant-loop-wait l = record {
  same : with_waits l.number l.self.facts (drop l.wait-index l.waits) ≡ with_waits l.number l.fn.self.facts l.waits;
  options : l.self.options ≡ l.fn.self.options;
  waits : l.self.facts.waits ≤ l.fn.self.facts.waits + l.wait-index;
  crossing : l.self.facts.crossing ≤ l.fn.self.facts.crossing + l.wait-index;
  iterations : l.self.facts.iterations ≡ l.fn.self.facts.iterations;
}

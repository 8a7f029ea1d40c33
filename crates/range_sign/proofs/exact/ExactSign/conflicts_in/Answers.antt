use Rattle.std.proofs.Common.{ℕ, List, get_or, ap, sym}
use Rattle.range_sign.specs.Overlap.{writes_into}
use Rattle.range_sign.specs.Exact.{holds}
use Rattle.range_sign.proofs.Words.{conflicts-first, conflicts-second}
use Rattle.range_sign.proofs.exact.ExactSign.conflicts_in.Goals as goal

pub returns-then-writes_into : goal.returns-then-writes_into
returns-then-writes_into c = conflicts-first (writes_into (holds c.args.self.now) (holds c.args.other.now) c.args.array) (writes_into (holds c.args.other.now) (holds c.args.self.now) c.args.array) (get_or c.args.self.now.sizes c.args.array 0) c.writes_into.result c.writes_into.ensures c.if-writes_into.true

pub returns-else-writes_into : goal.returns-else-writes_into
returns-else-writes_into c =
    conflicts-second (writes_into (holds c.args.self.now) (holds c.args.other.now) c.args.array) (writes_into (holds c.args.other.now) (holds c.args.self.now) c.args.array) (get_or c.args.self.now.sizes c.args.array 0) (get_or c.args.other.now.sizes c.args.array 0) c.writes_into.result c.writes_into-else-writes_into.result c.writes_into.ensures c.if-writes_into.false
    (ap (λ (sizes : List ℕ). get_or sizes c.args.array 0) (sym c.requires.sizes)) c.writes_into-else-writes_into.ensures

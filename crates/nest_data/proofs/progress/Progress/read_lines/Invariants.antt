use Rattle.std.proofs.Common.{◌≡◌, ◌+◌, ◌≤◌, length}
use Rattle.nest_data.specs.Lines.{lines_of}
use Rattle.nest_data.specs.Data.{outcome}
use Rattle.nest_data.specs.Progress.{read_of}
use Rattle.nest_data.proofs.progress.Progress.read_lines.Given as goal

-- the outcome of the lines that are left is that of all lines
abbrev pub invariant-lines : goal.invariant-lines
invariant-lines l = record {
  same : outcome l.names l.arrays (read_of l.self) l.line (lines_of l.rest) ≡ outcome l.names l.arrays (read_of l.fn.self) l.first_line (lines_of l.bytes);
  sizes : l.self.words.sizes ≡ l.fn.self.words.sizes;
  there : length l.self.words.sizes ≡ length l.arrays;
  known : length l.self.given.items ≡ length l.arrays;
  few : l.line + length l.rest ≤ l.first_line + length l.bytes;
  within : length l.rest ≤ length l.bytes;
}

abbrev pub decreases-lines : goal.decreases-lines
decreases-lines l = length l.rest

-- A sink in memory, as its callers see it.
use Rattle.std.specs.Prelude.{ℕ, ◌<◌, ◌^◌, List, min}

pub record SinkState : Type 0 where
  -- the bytes that were taken
  pub written : List ℕ
  -- how many more bytes have room
  pub room : ℕ
  -- how many bytes one call takes at most
  pub most : ℕ
  -- the numbers of the calls that fail, counted from 0
  pub fails : List ℕ
  -- how many calls were made: the number of the next one
  pub calls : ℕ
  -- how many of them failed
  pub faults : ℕ

-- what holds of each sink in memory: a call may take a byte, and the counts have 64 bits
pub record IsSink (sink : SinkState) : Type 0 where
  pub some : 0 < sink.most
  pub calls : sink.calls < 2 ^ 64
  pub faults : sink.faults < 2 ^ 64

-- how many bytes the next call takes of that many, if it doesn't fail
abbrev pub next_count : SinkState → ℕ → ℕ
next_count sink count = min (min sink.most sink.room) count

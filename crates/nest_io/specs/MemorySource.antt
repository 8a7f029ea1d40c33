-- A source in memory, as its callers see it.
use Rattle.std.specs.Prelude.{ℕ, ◌<◌, ◌^◌, Bool, List, length, min}

pub record SourceState : Type 0 where
  -- the bytes still to come
  pub left : List ℕ
  -- how many bytes one call gives at most
  pub most : ℕ
  -- the numbers of the calls that fail, counted from 0
  pub fails : List ℕ
  -- how many calls were made: the number of the next one
  pub calls : ℕ
  -- how many of them failed
  pub faults : ℕ
  -- whether the end was answered
  pub ended : Bool

-- what holds of each source in memory: a call may give a byte, and the counts have 64 bits
pub record IsSource (source : SourceState) : Type 0 where
  pub some : 0 < source.most
  pub calls : source.calls < 2 ^ 64
  pub faults : source.faults < 2 ^ 64

-- how many bytes the next call gives into a buffer of that length, if it doesn't fail
abbrev pub next_count : SourceState → ℕ → ℕ
next_count source room = min (min source.most room) (length source.left)

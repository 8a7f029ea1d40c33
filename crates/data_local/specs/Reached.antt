-- No caller of `data_locals_by_body` needs this. What is reached in a graph, from some of its nodes along its edges. A
-- node is a number.
use Rattle.std.specs.Prelude.{◌≡◌, ℕ, ◌<◌, ◌≤◌, Bool, true, ◌&&◌, ◌==◌, List, length, slice_index}
use Rattle.std.specs.List.{list_any}
use Rattle.nest_syntax.specs.Among.{is_among}
use Rattle.data_local.specs.declared.reach.Edge.{Edge}

-- whether an edge leads from one node to another
abbrev pub is_edge : List Edge → ℕ → ℕ → Bool
is_edge edges from to = list_any (λ (e : Edge). (e.from == from) && (to == e.to)) edges

-- The nodes that are reached: the starts, and each node to which an edge leads from one that is reached.
pub data IsReached (starts : List ℕ) (edges : List Edge) : ℕ → Type 0 where
  start : (node : ℕ) → is_among starts node ≡ true → IsReached starts edges node
  along : (from to : ℕ) → IsReached starts edges from → is_edge edges from to ≡ true → IsReached starts edges to

-- a list of nodes that has grown at its end
pub record IsGrown (old new : List ℕ) : Type 0 where
  pub longer : length old ≤ length new
  pub same : (k : ℕ) → k < length old → slice_index new k ≡ slice_index old k

-- A search whose nodes are found, the first `next` of them with all that their edges lead to.
pub record IsSearch (starts : List ℕ) (edges : List Edge) (found : List ℕ) (next : ℕ) : Type 0 where
  pub sound : (node : ℕ) → is_among found node ≡ true → IsReached starts edges node
  pub begun : (node : ℕ) → is_among starts node ≡ true → is_among found node ≡ true
  pub closed : (k : ℕ) → k < next → (to : ℕ) → is_edge edges (slice_index found k) to ≡ true → is_among found to ≡ true

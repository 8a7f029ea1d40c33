-- How a run ends, with the words that it leaves. The ending alone has none at a trap, since an outcome doesn't tell them.
use Rattle.std.specs.Prelude.{ℕ, suc, ℤ, true, false, List}
use Rattle.nest_syntax.specs.declared.place.Place.{Place}
use Rattle.nest_syntax.specs.Turn.{Turn}
use Rattle.nest_syntax.specs.Reads.{Ended, Completed, Stopped, on_words}
use Rattle.nest_syntax.specs.Course.{Course, End, Failed, Scalar, Drain, Iterate, Close}
use Rattle.nest_syntax.specs.Outcome.{Ending, Done, TrappedAt, place_of_trap}

-- an ending, and the words when it comes
pub record Finish : Type 0 where
  pub ending : Ending
  pub words : List ℤ

abbrev pub trapped_with : Place → List ℤ → Finish
trapped_with place words = record { ending = TrappedAt place; words = words }

-- goes on behind iteration k, or ends at its trap
abbrev pub finish_behind : ℕ → Ended → (List ℤ → Finish) → Finish
finish_behind k (Completed words) go = go words
finish_behind k (Stopped cause line words) go = trapped_with (place_of_trap cause line k false) words

-- The rest of a run, as `ending_from` gives its ending.
abbrev pub finish_from : List ℕ → (ℕ → List ℤ → Turn) → Course → ℕ → List ℤ → Finish
finish_from sizes turn End k words = record { ending = Done words; words = words }
finish_from sizes turn (Failed cause line) k words = trapped_with (place_of_trap cause line k true) words
finish_from sizes turn (Scalar purpose scalars rest) k words = finish_from sizes turn rest k words
finish_from sizes turn (Drain purpose scalars rest) k words = finish_from sizes turn (rest words) k words
finish_from sizes turn (Iterate body scalars rest) k words = finish_behind k (on_words sizes (turn body scalars) words) (finish_from sizes turn rest (suc k))
finish_from sizes turn (Close scalars rest) k words = finish_from sizes turn rest k words

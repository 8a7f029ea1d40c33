-- What a stop of a piece says of what is left of its iteration's tree.
use Rattle.std.proofs.Common.{◌≡◌, ℕ, ◌<◌, ℤ, Option, Some, None, List, [], ◌∷◌, ◌++◌, refl, sym, subst}
use Rattle.std.specs.Option.{option_map_or}
use Rattle.nest_syntax.specs.declared.names.Line.{Line}
use Rattle.nest_syntax.specs.declared.operators.Cause.{Cause}
use Rattle.settle_law.specs.Trees.{Tree}
use Rattle.settle_law.specs.Trees as tree
use Rattle.settle_law.specs.Cuts.{Cut, Finished, Trapped, Reads, Writes, Pauses, plain, CanBeRead}
use Rattle.settle_law.specs.Traces.{Access, Read, Write, Makes, IsFinished, IsTrapped}
use Rattle.settle_law.specs.Tasks.{Loads, Stores, Goes, Finishes, Traps, System, Realises, Left, AtLoad, AtStop, StopsTell, PiecesBegin}
use Rattle.settle_law.proofs.Push.{makes_read, makes_write}

module _ {P : Type 0} (sys : System P) (whole : Tree) (made : List Access) (p : P) where
  -- a read, by what is told of its word
  at_load : (told : Option ℤ) (w : ℕ) (go : ℤ → Cut) (next : ℤ → P) (k : ℕ) (value : ℤ) → ((x : ℤ) → CanBeRead told x → (sys.fuel (next x) < sys.fuel p) × Realises sys (go x) (next x)) → Makes whole made (option_map_or (λ x. plain sys.fixed (go x)) told (tree.Load w (λ x. plain sys.fixed (go x)))) → AtLoad sys whole made p told w next k value
  at_load None w go next k value more m = (record { left = go value; realises = (more value tt).1; makes = makes_read whole made w (λ x. plain sys.fixed (go x)) k value m }, (more value tt).0)
  at_load (Some told) w go next k value more m = λ same. (record { left = go value; realises = (more value same).1; makes = subst (λ x. Makes whole made (plain sys.fixed (go x))) same m }, (more value same).0)

  at_cut : (c : Cut) → Realises sys c p → Makes whole made (plain sys.fixed c) → AtStop sys whole made p (sys.stop p)
  at_cut Finished stop m = subst (AtStop sys whole made p) (sym stop) m
  at_cut (Trapped cause line) stop m = subst (AtStop sys whole made p) (sym stop) m
  at_cut (Reads w go) (next, stop, more) m = subst (AtStop sys whole made p) (sym stop) (λ k value. at_load (sys.fixed w) w go next k value more m)
  at_cut (Writes w value rest) (next, stop, free, falls, more) m = subst (AtStop sys whole made p) (sym stop) (λ k. (free, record { left = rest; realises = more; makes = makes_write whole made w value (plain sys.fixed rest) k m }, falls))
  at_cut (Pauses rest) (next, stop, falls, more) m = subst (AtStop sys whole made p) (sym stop) (record { left = rest; realises = more; makes = m }, falls)

  pub at_stop : Left sys whole made p → AtStop sys whole made p (sys.stop p)
  at_stop left = at_cut left.left left.realises left.makes

  -- the same, at each known stop
  pub left_read : (w : ℕ) (next : ℤ → P) (k : ℕ) (value : ℤ) → Left sys whole made p → sys.stop p ≡ Loads w next → sys.fixed w ≡ None → Left sys whole (made ++ Read k w value ∷ []) (next value) × (sys.fuel (next value) < sys.fuel p)
  left_read w next k value left stop free = subst (λ o. AtLoad sys whole made p o w next k value) free (subst (AtStop sys whole made p) stop (at_stop left) k value)

  pub left_told : (w : ℕ) (next : ℤ → P) (value : ℤ) → Left sys whole made p → sys.stop p ≡ Loads w next → sys.fixed w ≡ Some value → Left sys whole made (next value) × (sys.fuel (next value) < sys.fuel p)
  left_told w next value left stop told = subst (λ o. AtLoad sys whole made p o w next 0 value) told (subst (AtStop sys whole made p) stop (at_stop left) 0 value) refl

  pub left_write : (w : ℕ) (value : ℤ) (next : P) (k : ℕ) → Left sys whole made p → sys.stop p ≡ Stores w value next → (sys.fixed w ≡ None) × Left sys whole (made ++ Write k w value ∷ []) next × (sys.fuel next < sys.fuel p)
  left_write w value next k left stop = subst (AtStop sys whole made p) stop (at_stop left) k

  pub left_go : (next : P) → Left sys whole made p → sys.stop p ≡ Goes next → Left sys whole made next × (sys.fuel next < sys.fuel p)
  left_go next left stop = subst (AtStop sys whole made p) stop (at_stop left)

  pub left_finished : Left sys whole made p → sys.stop p ≡ Finishes → IsFinished whole made
  left_finished left stop = subst (AtStop sys whole made p) stop (at_stop left)

  pub left_trapped : (cause : Cause) (line : Line) → Left sys whole made p → sys.stop p ≡ Traps cause line → IsTrapped whole made cause line
  left_trapped cause line left stop = subst (AtStop sys whole made p) stop (at_stop left)

pub stops : (P : Type 0) → StopsTell P
stops P sys tree made piece left = at_stop sys tree made piece left

-- at the start, with no access made
pub left_begins : (P : Type 0) → PiecesBegin P
left_begins P sys cut piece realises = record { left = cut; realises = realises; makes = refl }

-- What holds where a move is enabled, and what a step is.
use Rattle.std.specs.Prelude.{◌≡◌, ℕ, ◌<◌, ◌≤◌, ◌%◌, false, Option, None, Some, refl}
use Rattle.std.specs.Option.{option_map, option_map_or}
use Rattle.std.proofs.Common.{arith, ap}
use Rattle.progress_board.specs.declared.actors.Made.{Made}
use Rattle.std.proofs.lemmas.Bool.Decides.{nat_tests}
use Rattle.progress_board.specs.declared.actors.Row.{Row}
use Rattle.progress_board.specs.declared.actors.Row.TheVariants.{Dispatch, Halt, Take, End}
use Rattle.toy_machine.specs.State.{State}
use Rattle.toy_machine.specs.Tokens.{Move, Hands, Halts, Takes, move_of, row_of, state_after, step, made_by, made_of, number_of}

-- where a move is enabled
abbrev pub Guard : State → ℕ → Move → Type 0
Guard s actor Hands = (actor ≡ s.options.workers) × (s.halted ≡ false) × (s.handed < s.options.queue)
Guard s actor Halts = (actor ≡ s.options.workers) × (s.halted ≡ false) × (s.options.queue ≤ s.handed)
Guard s actor Takes = (actor < s.options.workers) × (s.taken < s.handed) × (s.taken % s.options.workers ≡ actor)

pub guarded : (s : State) (actor : ℕ) (move : Move) → move_of s actor ≡ Some move → Guard s actor move
guarded s actor Hands e = grind (arith, nat_tests)
guarded s actor Halts e = grind (arith, nat_tests)
guarded s actor Takes e = grind (arith, nat_tests)

-- a step is a move
pub record IsMoved (s : State) (actor : ℕ) (t : State) : Type 0 where
  pub move : Move
  pub guard : Guard s actor move
  pub new : state_after s move ≡ t

pub moved : (s : State) (actor : ℕ) (t : State) → step s actor ≡ Some t → IsMoved s actor t
moved s actor t e = go (move_of s actor) refl e
  where
    go : (o : Option Move) → move_of s actor ≡ o → option_map (state_after s) o ≡ Some t → IsMoved s actor t
    go None is e = absurd (cc)
    go (Some move) is e = record { move = move; guard = guarded s actor move is; new = cc }

-- a row names its move
pub hands : (o : Option Move) → option_map row_of o ≡ Some Dispatch → o ≡ Some Hands
hands None e = cc
hands (Some Hands) e = refl
hands (Some Halts) e = cc
hands (Some Takes) e = cc

pub halts : (o : Option Move) → option_map row_of o ≡ Some Halt → o ≡ Some Halts
halts None e = cc
halts (Some Hands) e = cc
halts (Some Halts) e = refl
halts (Some Takes) e = cc

pub takes : (o : Option Move) → option_map row_of o ≡ Some Take → o ≡ Some Takes
takes None e = cc
takes (Some Hands) e = cc
takes (Some Halts) e = cc
takes (Some Takes) e = refl

-- what is made is the row that was asked for
pub made_row : (s : State) (actor : ℕ) (row : Row) → option_map row_of (move_of s actor) ≡ Some row → made_by s actor ≡ record { row = row; number = number_of s row }
made_row s actor row e = go (move_of s actor) e
  where
    go : (o : Option Move) → option_map row_of o ≡ Some row → option_map_or (made_of s) o (record { row = End; number = 0 }) ≡ record { row = row; number = number_of s row }
    go None is = absurd (cc)
    go (Some move) is = let same : row_of move ≡ row = cc in ap (λ (r : Row). let m : Made = record { row = r; number = number_of s r } in m) same

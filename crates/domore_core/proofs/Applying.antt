-- What the method of each row leaves is the state behind the move.
use Rattle.std.proofs.Common.{◌≡◌, ℕ, ◌<◌, ◌%◌, ◌^◌, ℤ, true, false, Option, Some, None, List, [], ◌∷◌, length, refl, sym, ap, ◌∙◌, subst, arith}
use Rattle.std.specs.Option.{option_map}
use Rattle.nest_syntax.specs.Course.{Purpose}
use Rattle.settle_law.specs.Courses as courses
use Rattle.sched_cursor.specs.declared.event.Iteration.{Iteration}
use Rattle.sched_cursor.specs.Cursor.{Cursor}
use Rattle.task_frame.specs.declared.piece.Piece.{Piece}
use Rattle.domore_machine.specs.Waits.{Wait}
use Rattle.domore_machine.specs.Facts.{drained}
use Rattle.domore_machine.specs.Machine.{Setup, Seat, Hand, Idle, Holding, Ended, Ticket, DoScalar, DoClose, DoDrain, DoDispatch, DoHalt, DoTake, DoPass, DoRead, DoWrite, DoGo, DoFinish, DoTrap, DoDropHeld, DoDropQueued, DoEnd, seat_at, move_of, scalar_after, worker_after, state_after, step}
use Rattle.domore_machine.specs.Invariant.{Each}
use Rattle.domore_machine.proofs.Guards.{Guard, guarded}
use Rattle.domore_core.specs.declared.moves.Move.{Move as Told}
use Rattle.domore_core.specs.declared.moves.Move.TheVariants.{Turn, Hop}
use Rattle.domore_core.specs.declared.moves.Turn.{Turn as OwnMove}
use Rattle.domore_core.specs.declared.moves.Turn.TheVariants as turn
use Rattle.domore_core.specs.declared.plan.Plan.{Plan}
use Rattle.domore_core.specs.declared.table.Table.{Table}
use Rattle.domore_core.specs.Moves.{told}
use Rattle.domore_core.specs.Engine.{Stand, Move}
use Rattle.domore_core.proofs.Scheduling.{iterates}
use Rattle.domore_core.specs.Tables.{IsSound, IsDeskBy, IsSame}

-- the first of a queue
pub first_of_queue : (P : Ticket Iteration → Type 0) (queue rest : List (Ticket Iteration)) (t : Ticket Iteration) → queue ≡ t ∷ rest → Each P queue → P t
first_of_queue P queue rest t is each = (subst (Each P) is each).0

-- a table that a worker's row changed is sound still
pub sound_still : (plan : Plan) (old new : Table) → IsSound plan old → IsSame old new → IsSound plan new
sound_still plan old new sound same = record {
  seats = same.seats ∙ sound.seats;
  sizes = same.sizes ∙ sound.sizes;
  desk = subst (IsDeskBy plan) (sym same.desk) sound.desk;
}

module _ (m : Setup Iteration Cursor Piece) (s : Stand) (u : ℕ) where
  -- the move that is told so
  pub record IsTold (t : Told) : Type 0 where
    pub move : Move
    pub is : move_of m s u ≡ Some move
    pub told_so : told move ≡ t
    pub guard : Guard m s u move

  pub told_move : (t : Told) → option_map told (move_of m s u) ≡ Some t → IsTold t
  told_move t enabled = go (move_of m s u) refl enabled
    where
      go : (o : Option Move) → move_of m s u ≡ o → option_map told o ≡ Some t → IsTold t
      go None known e = absurd (let no : None ≡ Some t = e in cc)
      go (Some move) known e = record { move = move; is = known; told_so = (let same : told move ≡ t = cc in same); guard = guarded m s u move known }

  pub steps : (t : Told) (there : IsTold t) (new : Stand) → new ≡ state_after m s u there.move → step m s u ≡ Some new
  steps t there new is = ap (option_map (state_after m s u)) there.is ∙ ap Some (sym is)

  abbrev seat : Seat Iteration Piece
  seat = seat_at s.seats u

  -- what a worker's row needs
  abbrev Needs : OwnMove → Type 0
  Needs turn.Scalar = (s.trap ≡ None) × (iterates (m.event s.cursor) ≡ false)
  Needs turn.Drain = (s.trap ≡ None) × (iterates (m.event s.cursor) ≡ false)
  Needs turn.Take = u < m.width
  Needs turn.Pass = u < m.width
  Needs turn.DropHeld = u < m.width
  Needs turn.DropQueued = u < m.width
  Needs turn.End = u < m.width
  Needs turn.Dispatch = (s.trap ≡ None) × (iterates (m.event s.cursor) ≡ true) × (length (seat_at s.seats (s.next % m.width)).queue < m.room)
  Needs _ = Unit {0}

  needs_of : (move : Move) → Guard m s u move → (own : OwnMove) → told move ≡ Turn own → Needs own
  needs_of (DoScalar purpose trap rest) g own is = let same : turn.Scalar ≡ own = cc in subst Needs same (g.0.untrapped, ap iterates g.1)
  needs_of (DoClose rest) g own is = let same : turn.Scalar ≡ own = cc in subst Needs same (g.0.untrapped, ap iterates g.1)
  needs_of (DoDrain purpose trap rest) (traps, rests, free, event, t, r, all) own is = let same : turn.Drain ≡ own = cc in subst Needs same (free.untrapped, ap iterates event)
  needs_of (DoDispatch b rest) g own is = let same : turn.Dispatch ≡ own = cc in subst Needs same (g.0.untrapped, ap iterates g.1, g.2)
  needs_of DoHalt g own is = let same : turn.Halt ≡ own = cc in subst Needs same tt
  needs_of (DoTake ticket queue) g own is = let same : turn.Take ≡ own = cc in subst Needs same g.0.own
  needs_of (DoPass k w left piece) g own is = let same : turn.Pass ≡ own = cc in subst Needs same g.0.own
  needs_of (DoRead k w next) g own is = absurd (cc)
  needs_of (DoWrite k w value next) g own is = absurd (cc)
  needs_of (DoGo k next) g own is = absurd (cc)
  needs_of (DoFinish k) g own is = absurd (cc)
  needs_of (DoTrap k cause line) g own is = absurd (cc)
  needs_of (DoDropHeld k) g own is = let same : turn.DropHeld ≡ own = cc in subst Needs same g.2
  needs_of (DoDropQueued ticket queue) g own is = let same : turn.DropQueued ≡ own = cc in subst Needs same g.0.own
  needs_of DoEnd g own is = let same : turn.End ≡ own = cc in subst Needs same g.0.own

  pub needs : (own : OwnMove) → option_map told (move_of m s u) ≡ Some (Turn own) → Needs own
  needs own enabled = let there = told_move (Turn own) enabled in needs_of there.move there.guard own there.told_so

  -- what each row leaves
  module _ (new : Stand) where
    pub scalar_case : (move : Move) → told move ≡ Turn turn.Scalar → Guard m s u move
        → ((purpose : Purpose) (trap : Option courses.Trap) (rest : Cursor) → m.event s.cursor ≡ courses.Scalar purpose trap rest → new ≡ scalar_after m s purpose trap rest)
        → ((rest : Cursor) → m.event s.cursor ≡ courses.Close rest → new ≡ record s { cursor = rest }) → new ≡ state_after m s u move
    scalar_case (DoScalar purpose trap rest) is g computes closes = computes purpose trap rest g.1
    scalar_case (DoClose rest) is g computes closes = closes rest g.1
    scalar_case _ is g computes closes = absurd (cc)

    pub drain_case : (move : Move) → told move ≡ Turn turn.Drain → Guard m s u move
        → ((purpose : Purpose) (traps : List ℤ → Option courses.Trap) (rests : List ℤ → Cursor) → m.event s.cursor ≡ courses.Drain purpose traps rests → new ≡ scalar_after m (record s { facts = drained s.facts }) purpose (traps s.words) (rests s.words))
        → new ≡ state_after m s u move
    drain_case (DoDrain purpose trap rest) is (traps, rests, free, event, t, r, all) drains =
        drains purpose traps rests event
        ∙ ap (λ (o : Option courses.Trap). scalar_after m (record s { facts = drained s.facts }) purpose o (rests s.words)) t
        ∙ ap (λ (c : Cursor). scalar_after m (record s { facts = drained s.facts }) purpose trap c) r
    drain_case _ is g drains = absurd (cc)

    pub dispatch_case : (move : Move) → told move ≡ Turn turn.Dispatch → Guard m s u move
        → ((b : Iteration) (rest : Cursor) → m.event s.cursor ≡ courses.Iterate b rest → new ≡ state_after m s m.width (DoDispatch b rest)) → new ≡ state_after m s u move
    dispatch_case (DoDispatch b rest) is g puts = puts b rest g.1
    dispatch_case _ is g puts = absurd (cc)

    pub halt_case : (move : Move) → told move ≡ Turn turn.Halt → new ≡ record s { halted = true } → new ≡ state_after m s u move
    halt_case DoHalt is halts = halts
    halt_case _ is halts = absurd (cc)

    pub take_case : (move : Move) → told move ≡ Turn turn.Take → Guard m s u move → ((t : Ticket Iteration) (queue : List (Ticket Iteration)) → seat.queue ≡ t ∷ queue → new ≡ worker_after m s u (DoTake t queue)) → new ≡ state_after m s u move
    take_case (DoTake t queue) is g takes = takes t queue g.0.queued
    take_case _ is g takes = absurd (cc)

    pub pass_case : (move : Move) → told move ≡ Turn turn.Pass → Guard m s u move → ((k : ℕ) (w : Wait) (left : List Wait) (p : Piece) → seat.hand ≡ Holding k (w ∷ left) p → new ≡ worker_after m s u (DoPass k w left p)) → new ≡ state_after m s u move
    pass_case (DoPass k w left p) is g passes = passes k w left p g.0.hand
    pass_case _ is g passes = absurd (cc)

    pub drop_held_case : (move : Move) → told move ≡ Turn turn.DropHeld → ((k : ℕ) → new ≡ worker_after m s u (DoDropHeld k)) → new ≡ state_after m s u move
    drop_held_case (DoDropHeld k) is drops = drops k
    drop_held_case _ is drops = absurd (cc)

    pub drop_queued_case : (move : Move) → told move ≡ Turn turn.DropQueued → Guard m s u move → ((t : Ticket Iteration) (queue : List (Ticket Iteration)) → seat.queue ≡ t ∷ queue → new ≡ worker_after m s u (DoDropQueued t queue)) → new ≡ state_after m s u move
    drop_queued_case (DoDropQueued t queue) is g drops = drops t queue g.0.queued
    drop_queued_case _ is g drops = absurd (cc)

    pub end_case : (move : Move) → told move ≡ Turn turn.End → new ≡ worker_after m s u DoEnd → new ≡ state_after m s u move
    end_case DoEnd is ends = ends
    end_case _ is ends = absurd (cc)

use Rattle.std.proofs.Common.{Some, ap, ◌∙◌}
use Rattle.spec_core.specs.declared.moves.Move.TheVariants.{Turn}
use Rattle.spec_core.specs.declared.moves.Turn.TheVariants as turn
use Rattle.spec_core.specs.Signatures.{signs}
use Rattle.spec_core.specs.Tables.{state_of}
use Rattle.spec_core.proofs.Applying.{told_move, steps, needs, scalar_case, drain_case, open_case, close_case, commit_case, restore_case, conclude_case, begin_case, finish_case, let_go_case, stop_case, check_case}
use Rattle.spec_core.proofs.table.Table.apply.Goals as goal

pub returns-in-Scalar-clause-state : goal.returns-in-Scalar-clause-state
returns-in-Scalar-clause-state g c =
    let s = (signs g.G.Signature.EXACT g.G.Signature.holds g.G.Signature.nothing g.G.Signature.with_note) in
    let there = told_move s _ c.args.plan.now c.args.self.now c.requires.plan c.requires.sound c.requires.goes c.args.actor (Turn turn.Scalar) (c.requires.enabled ∙ ap (λ t. Some (Turn t)) c.in-Scalar.is) in
    steps s _ c.args.plan.now c.args.self.now c.requires.plan c.requires.sound c.requires.goes c.args.actor (Turn turn.Scalar) there (state_of c.scalar.new.self)
    (scalar_case s _ c.args.plan.now c.args.self.now c.requires.plan c.requires.sound c.requires.goes c.args.actor (state_of c.scalar.new.self) there.move there.told_so there.guard c.scalar.ensures.state)

pub returns-in-Drain-clause-state : goal.returns-in-Drain-clause-state
returns-in-Drain-clause-state g c =
    let s = (signs g.G.Signature.EXACT g.G.Signature.holds g.G.Signature.nothing g.G.Signature.with_note) in
    let there = told_move s _ c.args.plan.now c.args.self.now c.requires.plan c.requires.sound c.requires.goes c.args.actor (Turn turn.Drain) (c.requires.enabled ∙ ap (λ t. Some (Turn t)) c.in-Drain.is) in
    steps s _ c.args.plan.now c.args.self.now c.requires.plan c.requires.sound c.requires.goes c.args.actor (Turn turn.Drain) there (state_of c.drain.new.self)
    (drain_case s _ c.args.plan.now c.args.self.now c.requires.plan c.requires.sound c.requires.goes c.args.actor (state_of c.drain.new.self) there.move there.told_so there.guard c.drain.ensures.state)

pub returns-in-Open-clause-state : goal.returns-in-Open-clause-state
returns-in-Open-clause-state g c =
    let s = (signs g.G.Signature.EXACT g.G.Signature.holds g.G.Signature.nothing g.G.Signature.with_note) in
    let there = told_move s _ c.args.plan.now c.args.self.now c.requires.plan c.requires.sound c.requires.goes c.args.actor (Turn turn.Open) (c.requires.enabled ∙ ap (λ t. Some (Turn t)) c.in-Open.is) in
    steps s _ c.args.plan.now c.args.self.now c.requires.plan c.requires.sound c.requires.goes c.args.actor (Turn turn.Open) there (state_of c.open.new.self)
    (open_case s _ c.args.plan.now c.args.self.now c.requires.plan c.requires.sound c.requires.goes c.args.actor (state_of c.open.new.self) there.move there.told_so there.guard c.open.ensures.state)

pub returns-in-Close-clause-state : goal.returns-in-Close-clause-state
returns-in-Close-clause-state g c =
    let s = (signs g.G.Signature.EXACT g.G.Signature.holds g.G.Signature.nothing g.G.Signature.with_note) in
    let there = told_move s _ c.args.plan.now c.args.self.now c.requires.plan c.requires.sound c.requires.goes c.args.actor (Turn turn.Close) (c.requires.enabled ∙ ap (λ t. Some (Turn t)) c.in-Close.is) in
    steps s _ c.args.plan.now c.args.self.now c.requires.plan c.requires.sound c.requires.goes c.args.actor (Turn turn.Close) there (state_of c.close.new.self)
    (close_case s _ c.args.plan.now c.args.self.now c.requires.plan c.requires.sound c.requires.goes c.args.actor (state_of c.close.new.self) there.move there.told_so c.close.ensures.state)

pub returns-in-Commit-clause-state : goal.returns-in-Commit-clause-state
returns-in-Commit-clause-state g c =
    let s = (signs g.G.Signature.EXACT g.G.Signature.holds g.G.Signature.nothing g.G.Signature.with_note) in
    let there = told_move s _ c.args.plan.now c.args.self.now c.requires.plan c.requires.sound c.requires.goes c.args.actor (Turn turn.Commit) (c.requires.enabled ∙ ap (λ t. Some (Turn t)) c.in-Commit.is) in
    steps s _ c.args.plan.now c.args.self.now c.requires.plan c.requires.sound c.requires.goes c.args.actor (Turn turn.Commit) there (state_of c.commit.new.self)
    (commit_case s _ c.args.plan.now c.args.self.now c.requires.plan c.requires.sound c.requires.goes c.args.actor (state_of c.commit.new.self) there.move there.told_so (c.commit.ensures.state (needs (signs g.G.Signature.EXACT g.G.Signature.holds g.G.Signature.nothing g.G.Signature.with_note) _ c.args.plan.now c.args.self.now c.requires.plan c.requires.sound c.requires.goes c.args.actor turn.Commit (c.requires.enabled ∙ ap (λ t. Some (Turn t)) c.in-Commit.is))))

pub returns-in-Restore-clause-state : goal.returns-in-Restore-clause-state
returns-in-Restore-clause-state g c =
    let s = (signs g.G.Signature.EXACT g.G.Signature.holds g.G.Signature.nothing g.G.Signature.with_note) in
    let there = told_move s _ c.args.plan.now c.args.self.now c.requires.plan c.requires.sound c.requires.goes c.args.actor (Turn turn.Restore) (c.requires.enabled ∙ ap (λ t. Some (Turn t)) c.in-Restore.is) in
    steps s _ c.args.plan.now c.args.self.now c.requires.plan c.requires.sound c.requires.goes c.args.actor (Turn turn.Restore) there (state_of c.restore.new.self)
    (restore_case s _ c.args.plan.now c.args.self.now c.requires.plan c.requires.sound c.requires.goes c.args.actor (state_of c.restore.new.self) there.move there.told_so there.guard c.restore.ensures.state)

pub returns-in-Conclude-clause-state : goal.returns-in-Conclude-clause-state
returns-in-Conclude-clause-state g c =
    let s = (signs g.G.Signature.EXACT g.G.Signature.holds g.G.Signature.nothing g.G.Signature.with_note) in
    let there = told_move s _ c.args.plan.now c.args.self.now c.requires.plan c.requires.sound c.requires.goes c.args.actor (Turn turn.Conclude) (c.requires.enabled ∙ ap (λ t. Some (Turn t)) c.in-Conclude.is) in
    steps s _ c.args.plan.now c.args.self.now c.requires.plan c.requires.sound c.requires.goes c.args.actor (Turn turn.Conclude) there (state_of c.conclude.new.self)
    (conclude_case s _ c.args.plan.now c.args.self.now c.requires.plan c.requires.sound c.requires.goes c.args.actor (state_of c.conclude.new.self) there.move there.told_so c.conclude.ensures.state)

pub returns-in-Begin-clause-state : goal.returns-in-Begin-clause-state
returns-in-Begin-clause-state g c =
    let s = (signs g.G.Signature.EXACT g.G.Signature.holds g.G.Signature.nothing g.G.Signature.with_note) in
    let there = told_move s _ c.args.plan.now c.args.self.now c.requires.plan c.requires.sound c.requires.goes c.args.actor (Turn turn.Begin) (c.requires.enabled ∙ ap (λ t. Some (Turn t)) c.in-Begin.is) in
    steps s _ c.args.plan.now c.args.self.now c.requires.plan c.requires.sound c.requires.goes c.args.actor (Turn turn.Begin) there (state_of c.begin.new.self)
    (begin_case s _ c.args.plan.now c.args.self.now c.requires.plan c.requires.sound c.requires.goes c.args.actor (state_of c.begin.new.self) there.move there.told_so there.guard c.begin.ensures.state)

pub returns-in-Finish-clause-state : goal.returns-in-Finish-clause-state
returns-in-Finish-clause-state g c =
    let s = (signs g.G.Signature.EXACT g.G.Signature.holds g.G.Signature.nothing g.G.Signature.with_note) in
    let there = told_move s _ c.args.plan.now c.args.self.now c.requires.plan c.requires.sound c.requires.goes c.args.actor (Turn turn.Finish) (c.requires.enabled ∙ ap (λ t. Some (Turn t)) c.in-Finish.is) in
    steps s _ c.args.plan.now c.args.self.now c.requires.plan c.requires.sound c.requires.goes c.args.actor (Turn turn.Finish) there (state_of c.finish.new.self)
    (finish_case s _ c.args.plan.now c.args.self.now c.requires.plan c.requires.sound c.requires.goes c.args.actor (state_of c.finish.new.self) there.move there.told_so c.finish.ensures.state)

pub returns-in-LetGo-clause-state : goal.returns-in-LetGo-clause-state
returns-in-LetGo-clause-state g c =
    let s = (signs g.G.Signature.EXACT g.G.Signature.holds g.G.Signature.nothing g.G.Signature.with_note) in
    let there = told_move s _ c.args.plan.now c.args.self.now c.requires.plan c.requires.sound c.requires.goes c.args.actor (Turn turn.LetGo) (c.requires.enabled ∙ ap (λ t. Some (Turn t)) c.in-LetGo.is) in
    steps s _ c.args.plan.now c.args.self.now c.requires.plan c.requires.sound c.requires.goes c.args.actor (Turn turn.LetGo) there (state_of c.let_go.new.self)
    (let_go_case s _ c.args.plan.now c.args.self.now c.requires.plan c.requires.sound c.requires.goes c.args.actor (state_of c.let_go.new.self) there.move there.told_so c.let_go.ensures.state)

pub returns-in-Stop-clause-state : goal.returns-in-Stop-clause-state
returns-in-Stop-clause-state g c =
    let s = (signs g.G.Signature.EXACT g.G.Signature.holds g.G.Signature.nothing g.G.Signature.with_note) in
    let there = told_move s _ c.args.plan.now c.args.self.now c.requires.plan c.requires.sound c.requires.goes c.args.actor (Turn turn.Stop) (c.requires.enabled ∙ ap (λ t. Some (Turn t)) c.in-Stop.is) in
    steps s _ c.args.plan.now c.args.self.now c.requires.plan c.requires.sound c.requires.goes c.args.actor (Turn turn.Stop) there (state_of c.stop.new.self)
    (stop_case s _ c.args.plan.now c.args.self.now c.requires.plan c.requires.sound c.requires.goes c.args.actor (state_of c.stop.new.self) there.move there.told_so c.stop.ensures.state)

pub returns-in-Check-clause-state : goal.returns-in-Check-clause-state
returns-in-Check-clause-state g c =
    let s = (signs g.G.Signature.EXACT g.G.Signature.holds g.G.Signature.nothing g.G.Signature.with_note) in
    let there = told_move s _ c.args.plan.now c.args.self.now c.requires.plan c.requires.sound c.requires.goes c.args.actor (Turn turn.Check) (c.requires.enabled ∙ ap (λ t. Some (Turn t)) c.in-Check.is) in
    steps s _ c.args.plan.now c.args.self.now c.requires.plan c.requires.sound c.requires.goes c.args.actor (Turn turn.Check) there (state_of c.check.new.self)
    (check_case s _ c.args.plan.now c.args.self.now c.requires.plan c.requires.sound c.requires.goes c.args.actor (state_of c.check.new.self) there.move there.told_so there.guard c.check.ensures.passes c.check.ensures.gives_up)

pub scalar-requires-clause-outside : goal.scalar-requires-clause-outside
scalar-requires-clause-outside g c = needs (signs g.G.Signature.EXACT g.G.Signature.holds g.G.Signature.nothing g.G.Signature.with_note) _ c.args.plan.now c.args.self.now c.requires.plan c.requires.sound c.requires.goes c.args.actor turn.Scalar (c.requires.enabled ∙ ap (λ t. Some (Turn t)) c.in-Scalar.is)

pub drain-requires-clause-outside : goal.drain-requires-clause-outside
drain-requires-clause-outside g c = needs (signs g.G.Signature.EXACT g.G.Signature.holds g.G.Signature.nothing g.G.Signature.with_note) _ c.args.plan.now c.args.self.now c.requires.plan c.requires.sound c.requires.goes c.args.actor turn.Drain (c.requires.enabled ∙ ap (λ t. Some (Turn t)) c.in-Drain.is)

pub open-requires-clause-calm : goal.open-requires-clause-calm
open-requires-clause-calm g c = (needs (signs g.G.Signature.EXACT g.G.Signature.holds g.G.Signature.nothing g.G.Signature.with_note) _ c.args.plan.now c.args.self.now c.requires.plan c.requires.sound c.requires.goes c.args.actor turn.Open (c.requires.enabled ∙ ap (λ t. Some (Turn t)) c.in-Open.is)).0

pub open-requires-clause-inside : goal.open-requires-clause-inside
open-requires-clause-inside g c = (needs (signs g.G.Signature.EXACT g.G.Signature.holds g.G.Signature.nothing g.G.Signature.with_note) _ c.args.plan.now c.args.self.now c.requires.plan c.requires.sound c.requires.goes c.args.actor turn.Open (c.requires.enabled ∙ ap (λ t. Some (Turn t)) c.in-Open.is)).1

pub open-requires-clause-room : goal.open-requires-clause-room
open-requires-clause-room g c = (needs (signs g.G.Signature.EXACT g.G.Signature.holds g.G.Signature.nothing g.G.Signature.with_note) _ c.args.plan.now c.args.self.now c.requires.plan c.requires.sound c.requires.goes c.args.actor turn.Open (c.requires.enabled ∙ ap (λ t. Some (Turn t)) c.in-Open.is)).2

pub begin-requires-clause-own : goal.begin-requires-clause-own
begin-requires-clause-own g c = (needs (signs g.G.Signature.EXACT g.G.Signature.holds g.G.Signature.nothing g.G.Signature.with_note) _ c.args.plan.now c.args.self.now c.requires.plan c.requires.sound c.requires.goes c.args.actor turn.Begin (c.requires.enabled ∙ ap (λ t. Some (Turn t)) c.in-Begin.is)).0

pub begin-requires-clause-calm : goal.begin-requires-clause-calm
begin-requires-clause-calm g c = (needs (signs g.G.Signature.EXACT g.G.Signature.holds g.G.Signature.nothing g.G.Signature.with_note) _ c.args.plan.now c.args.self.now c.requires.plan c.requires.sound c.requires.goes c.args.actor turn.Begin (c.requires.enabled ∙ ap (λ t. Some (Turn t)) c.in-Begin.is)).1

pub begin-requires-clause-idle : goal.begin-requires-clause-idle
begin-requires-clause-idle g c = (needs (signs g.G.Signature.EXACT g.G.Signature.holds g.G.Signature.nothing g.G.Signature.with_note) _ c.args.plan.now c.args.self.now c.requires.plan c.requires.sound c.requires.goes c.args.actor turn.Begin (c.requires.enabled ∙ ap (λ t. Some (Turn t)) c.in-Begin.is)).2

pub begin-requires-clause-open : goal.begin-requires-clause-open
begin-requires-clause-open g c = (needs (signs g.G.Signature.EXACT g.G.Signature.holds g.G.Signature.nothing g.G.Signature.with_note) _ c.args.plan.now c.args.self.now c.requires.plan c.requires.sound c.requires.goes c.args.actor turn.Begin (c.requires.enabled ∙ ap (λ t. Some (Turn t)) c.in-Begin.is)).3

pub finish-requires-clause-own : goal.finish-requires-clause-own
finish-requires-clause-own g c = (needs (signs g.G.Signature.EXACT g.G.Signature.holds g.G.Signature.nothing g.G.Signature.with_note) _ c.args.plan.now c.args.self.now c.requires.plan c.requires.sound c.requires.goes c.args.actor turn.Finish (c.requires.enabled ∙ ap (λ t. Some (Turn t)) c.in-Finish.is)).0

pub finish-requires-clause-begun : goal.finish-requires-clause-begun
finish-requires-clause-begun g c = (needs (signs g.G.Signature.EXACT g.G.Signature.holds g.G.Signature.nothing g.G.Signature.with_note) _ c.args.plan.now c.args.self.now c.requires.plan c.requires.sound c.requires.goes c.args.actor turn.Finish (c.requires.enabled ∙ ap (λ t. Some (Turn t)) c.in-Finish.is)).1

pub let_go-requires-clause-own : goal.let_go-requires-clause-own
let_go-requires-clause-own g c = needs (signs g.G.Signature.EXACT g.G.Signature.holds g.G.Signature.nothing g.G.Signature.with_note) _ c.args.plan.now c.args.self.now c.requires.plan c.requires.sound c.requires.goes c.args.actor turn.LetGo (c.requires.enabled ∙ ap (λ t. Some (Turn t)) c.in-LetGo.is)

pub stop-requires-clause-own : goal.stop-requires-clause-own
stop-requires-clause-own g c = needs (signs g.G.Signature.EXACT g.G.Signature.holds g.G.Signature.nothing g.G.Signature.with_note) _ c.args.plan.now c.args.self.now c.requires.plan c.requires.sound c.requires.goes c.args.actor turn.Stop (c.requires.enabled ∙ ap (λ t. Some (Turn t)) c.in-Stop.is)

pub check-requires-clause-calm : goal.check-requires-clause-calm
check-requires-clause-calm g c = needs (signs g.G.Signature.EXACT g.G.Signature.holds g.G.Signature.nothing g.G.Signature.with_note) _ c.args.plan.now c.args.self.now c.requires.plan c.requires.sound c.requires.goes c.args.actor turn.Check (c.requires.enabled ∙ ap (λ t. Some (Turn t)) c.in-Check.is)

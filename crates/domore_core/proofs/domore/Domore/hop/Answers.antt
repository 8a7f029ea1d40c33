use Rattle.std.proofs.Common.{sym, ap, ◌∙◌}
use Rattle.std.specs.Option.{option_map}
use Rattle.domore_core.specs.Engine.{Engine, Stand, asked, step}
use Rattle.domore_core.specs.Tables.{state_of, engine_of}
use Rattle.domore_core.proofs.Applying.{sound_still}
use Rattle.domore_core.proofs.Asking.{stands_at, hop_steps, held_goes}
use Rattle.domore_core.proofs.Going.{goes_on, kept_step}
use Rattle.domore_core.proofs.domore.Domore.hop.Goals as goal

pub hop-requires-clause-own : goal.hop-requires-clause-own
hop-requires-clause-own c =
    let e = engine_of c.self.inside.plan c.self.inside.table in
    let asks = ap (λ (f : Engine). asked f c.args.actor) c.self.view_is ∙ c.requires in
    rw c.self.invariant.sound.seats (stands_at e c.args.actor c.args.worked.now asks).own

pub hop-requires-clause-inside : goal.hop-requires-clause-inside
hop-requires-clause-inside c =
    let e = engine_of c.self.inside.plan c.self.inside.table in
    let asks = ap (λ (f : Engine). asked f c.args.actor) c.self.view_is ∙ c.requires in
    let there = stands_at e c.args.actor c.args.worked.now asks in
    (held_goes e c.args.actor (goes_on e c.self.invariant.legal) there.number _ c.args.worked.now there.hand).0

pub hop-requires-clause-small : goal.hop-requires-clause-small
hop-requires-clause-small c =
    let e = engine_of c.self.inside.plan c.self.inside.table in
    λ k left p hand. (held_goes e c.args.actor (goes_on e c.self.invariant.legal) k left p hand).1

pub invariant_of-self : goal.invariant_of-self
invariant_of-self c =
    let e = engine_of c.self.inside.plan c.self.inside.table in
    let asks = ap (λ (f : Engine). asked f c.args.actor) c.self.view_is ∙ c.requires in
    kept_step c.self.inside.plan c.self.inside.table c.hop.new.self c.args.actor c.self.invariant (hop_steps e c.args.actor c.args.worked.now (state_of c.hop.new.self) asks c.hop.ensures.state) (sound_still _ _ _ c.self.invariant.sound c.hop.ensures.same)

pub returns : goal.returns
returns c =
    let e = engine_of c.self.inside.plan c.self.inside.table in
    let asks = ap (λ (f : Engine). asked f c.args.actor) c.self.view_is ∙ c.requires in
    ap (λ (f : Engine). step f c.args.actor) (sym c.self.view_is)
    ∙ ap (λ o. option_map (λ (s : Stand). let g : Engine = record e { state = s } in g) o) (hop_steps e c.args.actor c.args.worked.now (state_of c.hop.new.self) asks c.hop.ensures.state)

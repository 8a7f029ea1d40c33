use Rattle.std.proofs.Common.{◌+◌, ◌*◌, ap, sym, ◌∙◌}
use Rattle.std.proofs.lemmas.List.{get_or-set_other}
use Rattle.shadow_memory.specs.Accesses.{LastAccesses, access_at}
use Rattle.shadow_memory.proofs.Places.{places_apart}
use Rattle.shadow_memory.proofs.shadow.Shadow.put.Goals as goal

pub returns-clause-others : goal.returns-clause-others
returns-clause-others c = λ k other own apart.
    get_or-set_other c.self.inside.last.items c.place-place.result (k * c.self.inside.workers + other) c.and.result _
    (λ same. places_apart c.args.self.now.workers k c.args.word other c.args.worker own c.requires.worker apart
    (ap (λ (s : LastAccesses). k * s.workers + other) (sym c.self.view_is) ∙ same ∙ c.place-place.ensures.place))
    ∙ ap (λ (s : LastAccesses). access_at s k other) c.self.view_is

use Rattle.std.proofs.Common.{rules, ◌≡◌, true, subst}
use Rattle.dep_graph.specs.declared.seen.Ends.{Ends}
use Rattle.dep_graph.specs.Kinds.{do_match, is_moderate}
use Rattle.dep_graph.specs.Seen.{AreNear, Holds}
use Rattle.dep_graph.proofs.Near.{near_parted}
use Rattle.dep_graph.proofs.seen.is_near_to.Goals as goal

pub returns : goal.returns
returns c =
    let matches : do_match c.args.subscript.now.form c.args.form.now ≡ true = search rules in
    let moderate : is_moderate c.args.form.now ≡ true = search rules in
    λ near.
    near_parted c.args.step c.args.form c.args.hull c.args.subscript.now c.of.result c.of.ensures matches moderate
    (subst (λ stride. (other : Ends) → Holds c.args.hull other → AreNear other c.of.result stride) c.stride.ensures (c.is_near.ensures near))

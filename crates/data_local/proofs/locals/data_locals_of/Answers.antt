use Rattle.std.proofs.Common.{ap, ◌∙◌}
use Rattle.std.specs.List.{flat_map}
use Rattle.nest_syntax.specs.Among.{is_among}
use Rattle.data_local.specs.Rows.{row_edges, row_starts, row_names}
use Rattle.data_local.proofs.Graphs.{reached_are}
use Rattle.data_local.proofs.Listed.{listed_are}
use Rattle.data_local.proofs.locals.data_locals_of.Goals as goal

pub returns : goal.returns
returns c = λ arrays tells.
    listed_are arrays c.args.body.now c.in_ok-rows.rows.items c.in_ok-nodes.nodes c.of.result c.in_ok-rows.ensures.told
    (reached_are arrays c.args.body.now c.in_ok-rows.rows.items c.deref-2.result.now c.in_ok-graph.graph.edges.items c.in_ok-nodes.nodes c.in_ok-rows.ensures.told c.in_ok-rows.ensures.built
    (c.deref-2.ensures.value ∙ c.in_ok-graph.ensures.starts arrays tells ∙ ap (flat_map (row_starts arrays)) c.deref.ensures.value)
    (c.in_ok-graph.ensures.edges ∙ ap (flat_map row_edges) c.deref.ensures.value)
    c.in_ok-nodes.ensures)
    (λ name. c.of.ensures name ∙ ap (λ names. is_among names name) (c.in_ok-names.ensures ∙ ap (flat_map (row_names c.in_ok-nodes.nodes)) c.deref-3.ensures.value))

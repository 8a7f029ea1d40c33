use Rattle.std.proofs.Common.{rules, ◌≡◌, List, ℕ, [], slice_index_or, sym, ap, ◌∙◌}
use Rattle.std.specs.List.{list_any}
use Rattle.nest_syntax.specs.Among.{is_among}
use Rattle.data_local.specs.Names.{scalars_in}
use Rattle.nest_partition.proofs.Slices.{none_named}
use Rattle.nest_partition.proofs.split.Split.names_local.Goals as goal

pub returns-in-None : goal.returns-in-None
returns-in-None c = let is : slice_index_or c.args.self.now.locals c.args.body [] ≡ [] = search rules in
    sym (ap (λ locals. list_any (is_among locals) (scalars_in c.args.expr.now)) is ∙ none_named (scalars_in c.args.expr.now))

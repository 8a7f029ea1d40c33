use Rattle.std.proofs.Common.{◌≡◌, ℕ, List, length, false, replicate, ap, sym, subst, ◌∙◌, arith}
use Rattle.std.specs.Vec.{with_items}
use Rattle.std.proofs.lemmas.List.{with_items_is}
use Rattle.addr_slice.specs.WordSet.{flags_of, IsFilled}
use Rattle.addr_slice.proofs.Sets.{length-flags_of, flags_of-empty}
use Rattle.addr_slice.proofs.Filled.{filled_empty}
use Rattle.addr_slice.proofs.deep_set.DeepSet.clear.Goals as goal

module _ (c : goal.After-clear) where
  rows_are : (with_items c.self.inside.rows c.empty_filled.new.rows).items ≡ c.empty_filled.new.rows
  rows_are = with_items_is c.self.inside.rows c.empty_filled.new.rows (c.empty_filled.auto.rows ∙ c.deref_mut.ensures.len)

  as_many_rows : length c.empty_filled.new.rows ≡ length c.self.inside.rows.items
  as_many_rows = c.empty_filled.auto.rows ∙ ap length c.deref_mut.ensures.value

pub invariant_of-self : goal.invariant_of-self
invariant_of-self c =
    let kept = c.self.invariant in
    subst (λ (rows : List ℕ). IsFilled c.self.inside.count rows c.clear.new.self) (sym (rows_are c))
    (subst (IsFilled c.self.inside.count c.empty_filled.new.rows) (sym c.clear.ensures)
    (filled_empty c.self.inside.count c.empty_filled.new.rows kept.few (omega (arith, as_many_rows c, kept.few_rows)) (omega (arith, as_many_rows c, kept.a_row_each)) c.empty_filled.ensures (length c.self.inside.filled) (kept.as_many ∙ sym (as_many_rows c))))

pub returns : goal.returns
returns c =
    ap (flags_of c.self.inside.count) (rows_are c) ∙ flags_of-empty c.self.inside.count c.empty_filled.new.rows c.empty_filled.ensures
    ∙ ap (λ n. replicate n false) (sym (length-flags_of c.self.inside.count c.self.inside.rows.items) ∙ ap length c.self.view_is)

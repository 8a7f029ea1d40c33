use Rattle.std.proofs.Common.{◌≡◌, ℕ, List, length, false, replicate, ap, sym, subst, ◌∙◌, arith}
use Rattle.std.specs.Vec.{with_items}
use Rattle.std.proofs.lemmas.List.{with_items_is}
use Rattle.addr_slice.specs.WordSet.{flags_of, IsSummed}
use Rattle.addr_slice.proofs.Sets.{length-flags_of, flags_of-empty, IsSummed-empty}
use Rattle.addr_slice.proofs.word_set.WordSet.clear.Goals as goal

pub empty_rows-requires-clause-few : goal.empty_rows-requires-clause-few
empty_rows-requires-clause-few c = omega (arith, ap length c.deref.ensures.value, c.self.invariant.few_bits)

module _ (c : goal.After-self-2-1) where
  rows_are : (with_items c.self.inside.rows c.empty_rows.new.rows).items ≡ c.empty_rows.new.rows
  rows_are = with_items_is c.self.inside.rows c.empty_rows.new.rows (c.empty_rows.auto.rows ∙ c.deref_mut.ensures.len)

  summary_is : (with_items c.self.inside.summary c.empty_all_rows.new.rows).items ≡ c.empty_all_rows.new.rows
  summary_is = with_items_is c.self.inside.summary c.empty_all_rows.new.rows (c.empty_all_rows.auto.rows ∙ c.deref_mut-2.ensures.len)

  as_many_rows : length c.empty_rows.new.rows ≡ length c.self.inside.rows.items
  as_many_rows = c.empty_rows.auto.rows ∙ ap length c.deref_mut.ensures.value

  as_many_bits : length c.empty_all_rows.new.rows ≡ length c.self.inside.summary.items
  as_many_bits = c.empty_all_rows.auto.rows ∙ ap length c.deref_mut-2.ensures.value

pub invariant_of-self : goal.invariant_of-self
invariant_of-self c =
    let kept = c.self.invariant in
    subst (λ (rows : List ℕ). IsSummed c.self.inside.count rows (with_items c.self.inside.summary c.empty_all_rows.new.rows).items) (sym (rows_are c))
    (subst (λ (summary : List ℕ). IsSummed c.self.inside.count c.empty_rows.new.rows summary) (sym (summary_is c))
    (IsSummed-empty c.self.inside.count c.empty_rows.new.rows c.empty_all_rows.new.rows kept.few (omega (arith, as_many_rows c, kept.few_rows)) (omega (arith, as_many_bits c, kept.few_bits))
    (omega (arith, as_many_rows c, kept.a_row_each)) (omega (arith, as_many_rows c, as_many_bits c, kept.a_bit_each)) c.empty_rows.ensures c.empty_all_rows.ensures))

pub returns : goal.returns
returns c =
    ap (flags_of c.self.inside.count) (rows_are c) ∙ flags_of-empty c.self.inside.count c.empty_rows.new.rows c.empty_rows.ensures
    ∙ ap (λ n. replicate n false) (sym (length-flags_of c.self.inside.count c.self.inside.rows.items) ∙ ap length c.self.view_is)

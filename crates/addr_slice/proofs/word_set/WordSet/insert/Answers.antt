use Rattle.std.proofs.Common.{◌≡◌, ◌<◌, ◌/◌, ℕ, List, length, ap, sym, subst, ◌∙◌, set, true, arith}
use Rattle.std.specs.Vec.{with_items}
use Rattle.std.proofs.lemmas.List.{with_items_is}
use Rattle.addr_slice.specs.WordSet.{flags_of, Puts, IsSummed}
use Rattle.addr_slice.proofs.Sets.{length-flags_of, IsSummed-put, flags_of-put}
use Rattle.addr_slice.proofs.word_set.WordSet.insert.Goals as goal

pub put_in_rows-requires : goal.put_in_rows-requires
put_in_rows-requires c =
    omega (arith, ap length c.self.view_is, length-flags_of c.self.inside.count c.self.inside.rows.items, ap length c.deref_mut.ensures.value, c.self.invariant.a_row_each)

module _ (c : goal.After-self-2-1) where
  below : c.args.number < c.self.inside.count
  below = omega (arith, ap length c.self.view_is, length-flags_of c.self.inside.count c.self.inside.rows.items, c.requires)

  put : Puts c.self.inside.rows.items c.put_in_rows.new.rows c.args.number
  put = subst (λ (rows : List ℕ). Puts rows c.put_in_rows.new.rows c.args.number) c.deref_mut.ensures.value c.put_in_rows.ensures

  noted : Puts c.self.inside.summary.items c.put_in_rows-2.new.rows (c.args.number / 64)
  noted = subst (λ (rows : List ℕ). Puts rows c.put_in_rows-2.new.rows (c.args.number / 64)) c.deref_mut-2.ensures.value c.put_in_rows-2.ensures

  rows_are : (with_items c.self.inside.rows c.put_in_rows.new.rows).items ≡ c.put_in_rows.new.rows
  rows_are = with_items_is c.self.inside.rows c.put_in_rows.new.rows (c.put_in_rows.auto.rows ∙ c.deref_mut.ensures.len)

  summary_is : (with_items c.self.inside.summary c.put_in_rows-2.new.rows).items ≡ c.put_in_rows-2.new.rows
  summary_is = with_items_is c.self.inside.summary c.put_in_rows-2.new.rows (c.put_in_rows-2.auto.rows ∙ c.deref_mut-2.ensures.len)

pub invariant_of-self : goal.invariant_of-self
invariant_of-self c =
    subst (λ (rows : List ℕ). IsSummed c.self.inside.count rows (with_items c.self.inside.summary c.put_in_rows-2.new.rows).items) (sym (rows_are c))
    (subst (λ (summary : List ℕ). IsSummed c.self.inside.count c.put_in_rows.new.rows summary) (sym (summary_is c))
    (IsSummed-put c.self.inside.count c.self.inside.rows.items c.self.inside.summary.items c.put_in_rows.new.rows c.put_in_rows-2.new.rows c.args.number (below c) c.self.invariant (put c) (noted c)))

pub returns : goal.returns
returns c =
    ap (flags_of c.self.inside.count) (rows_are c) ∙ flags_of-put c.self.inside.count c.self.inside.rows.items c.put_in_rows.new.rows c.args.number (below c) (put c)
    ∙ ap (λ flags. set flags c.args.number true) c.self.view_is

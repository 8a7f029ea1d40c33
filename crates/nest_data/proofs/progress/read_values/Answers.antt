use Rattle.std.proofs.Common.{◌≡◌, ◌+◌, ◌<◌, ◌^◌, ◌==◌, ℤ, pos, to_z, of_z, w64, sym, ap, ◌∙◌, rules, arith}
use Rattle.std.proofs.lemmas.Bool.{cond-true, cond-false, eq-eqb, ne_eqb}
use Rattle.std.proofs.lemmas.Int.{to_z_pos, to_z-of_z}
use Rattle.word_store.specs.Memory.{Memory, stored}
use Rattle.nest_data.specs.Lines.{words_in}
use Rattle.nest_data.specs.Data.{values_of}
use Rattle.nest_data.proofs.Writing.{finish, whole, value_taken, no_value, all_taken, stored-sizes}
use Rattle.nest_data.proofs.progress.read_values.Goals as goal

pub returns-in-None-clause-values : goal.returns-in-None-clause-values
returns-in-None-clause-values c =
    whole c.length_of-size.result c.args.words.now c.args.array (values_of (words_in c.args.bytes.now)) c.length_of-size.ensures.sound c.requires.there c.length_of-size.ensures.length
    ∙ sym c.values.invariant.same
    ∙ no_value _ _ _ _ _ _ _ c.in-Some.ensures.words (sym c.in-None.ensures)

pub values-preserved : goal.values-preserved
values-preserved c =
    let small : c.values.place < 2 ^ 63 = omega (arith, c.values.invariant.few, c.requires.small) in
    let value : to_z w64 (of_z w64 c.in-Some-value_of.value) ≡ c.in-Some-value_of.value = to_z-of_z w64 c.in-Some-value_of.value (search rules) in
    let after : c.store.new.self ≡ stored c.values.words c.args.array (pos c.values.place) c.in-Some-value_of.value =
    c.store.ensures.after
    ∙ ap (λ (at : ℤ). stored c.values.words c.args.array at (to_z w64 (of_z w64 c.in-Some-value_of.value))) (to_z_pos w64 c.values.place small)
    ∙ ap (stored c.values.words c.args.array (pos c.values.place)) value in
    record {
      same =
          ap (λ (memory : Memory). finish c.length_of-size.result memory c.args.array (c.values.place + 1) (values_of (words_in c.in-Some.behind.now))) after
          ∙ sym (value_taken _ _ _ _ _ _ _ _ c.in-Some.ensures.words (sym c.in-Some-value_of.ensures))
          ∙ c.values.invariant.same;
      sizes = ap (λ (memory : Memory). memory.sizes) after ∙ stored-sizes c.values.words c.args.array (pos c.values.place) c.in-Some-value_of.value ∙ c.values.invariant.sizes;
      few = omega (arith, c.values.invariant.few, c.in-Some.ensures.shorter);
    }

pub returns-then-place-size-clause-values : goal.returns-then-place-size-clause-values
returns-then-place-size-clause-values c =
    whole c.length_of-size.result c.args.words.now c.args.array (values_of (words_in c.args.bytes.now)) c.length_of-size.ensures.sound c.requires.there c.length_of-size.ensures.length
    ∙ sym c.values.invariant.same
    ∙ all_taken _ _ _ _ _ c.in_default.ensures.words
    ∙ cond-true (c.values.place == c.length_of-size.result) _ _ (eq-eqb _ _ c.if-place-size.true)

pub returns-else-place-size-clause-values : goal.returns-else-place-size-clause-values
returns-else-place-size-clause-values c =
    whole c.length_of-size.result c.args.words.now c.args.array (values_of (words_in c.args.bytes.now)) c.length_of-size.ensures.sound c.requires.there c.length_of-size.ensures.length
    ∙ sym c.values.invariant.same
    ∙ all_taken _ _ _ _ _ c.in_default.ensures.words
    ∙ cond-false (c.values.place == c.length_of-size.result) _ _ (ne_eqb _ _ c.if-place-size.false)

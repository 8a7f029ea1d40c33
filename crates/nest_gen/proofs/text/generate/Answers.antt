use Rattle.std.proofs.Common.{◌≡◌, ap, ◌∙◌, sym, subst, ◌≤◌, length, List, ℕ, ℤ, ◌++◌, ◌*◌, codes, take, drop}
use Rattle.nest_gen.specs.Draws.{draws_from, state_behind}
use Rattle.nest_data.specs.Text.{array_line}
use Rattle.nest_gen.specs.Generated.{line, generated}
use Rattle.nest_gen.proofs.Short.{generated_is_short}
use Rattle.nest_gen.proofs.Left.{reduced, first_part, second_part, third_part}
use Rattle.nest_gen.proofs.text.generate.Goals as goal

pub returns-clause-text : goal.returns-clause-text
returns-clause-text c =
    let n : ℕ = c.args.size in
    let start = c.from_seed-draws.ensures in
    let places : c.as_slice-3.result.now ≡ reduced n (take n (draws_from c.args.seed (3 * n))) =
    c.as_slice-3.ensures.value ∙ c.in_ok-places.ensures.draws ∙ ap (λ (s : ℕ). reduced n (draws_from s n)) start ∙ sym (ap (reduced n) (first_part c.args.seed n)) in
    let first_state = c.in_ok-places.ensures.state ∙ ap (λ (s : ℕ). state_behind s n) start in
    let first : c.as_slice.result.now ≡ reduced 100 (take n (drop n (draws_from c.args.seed (3 * n)))) =
    c.as_slice.ensures.value ∙ c.in_ok-first.ensures.draws ∙ ap (λ (s : ℕ). reduced 100 (draws_from s n)) first_state ∙ sym (ap (reduced 100) (second_part c.args.seed n)) in
    let second : c.as_slice-2.result.now ≡ reduced 100 (drop n (drop n (draws_from c.args.seed (3 * n)))) =
    c.as_slice-2.ensures.value ∙ c.in_ok-second.ensures.draws ∙ ap (λ (s : ℕ). reduced 100 (draws_from s n)) (c.in_ok-first.ensures.state ∙ ap (λ (s : ℕ). state_behind s n) first_state) ∙ sym (ap (reduced 100) (third_part c.args.seed n)) in
    c.in_ok-add_line-3.ensures ∙ ap (λ (values : List ℤ). c.add_line-2.new.text.items ++ array_line (codes "ix") values) places
    ∙ ap (λ (t : List ℕ). t ++ array_line (codes "ix") (reduced n (take n (draws_from c.args.seed (3 * n)))))
    (c.in_ok-add_line-2.ensures ∙ ap (λ (values : List ℤ). c.add_line.new.text.items ++ array_line (codes "b") values) second
    ∙ ap (λ (t : List ℕ). t ++ array_line (codes "b") (reduced 100 (drop n (drop n (draws_from c.args.seed (3 * n))))))
    (c.in_ok-add_line.ensures ∙ ap (λ (values : List ℤ). c.extend_from_slice.new.self.items ++ array_line (codes "a") values) first
    ∙ ap (λ (t : List ℕ). t ++ array_line (codes "a") (reduced 100 (take n (drop n (draws_from c.args.seed (3 * n))))))
    (c.in_ok-extend_from_slice.ensures.items ∙ ap (λ (t : List ℕ). t ++ line (codes "data")) c.in_ok-text.ensures)))

pub returns-clause-few : goal.returns-clause-few
returns-clause-few c = subst (λ (bytes : List ℕ). length bytes ≤ 33554432) (sym (returns-clause-text c)) (generated_is_short c.args.seed c.args.size c.requires.some c.requires.few)

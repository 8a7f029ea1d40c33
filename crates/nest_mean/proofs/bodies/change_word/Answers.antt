use Rattle.std.proofs.Common.{rules, ◌≡◌, Ok, Some, to_z, of_z, w64, sym, ◌∙◌}
use Rattle.std.proofs.lemmas.Int.{to_z-of_z}
use Rattle.nest_syntax.specs.Words.{operation_of, assigned}
use Rattle.nest_syntax.specs.Arrays.{arrays_of, array_of}
use Rattle.word_store.specs.Memory.{loaded}
use Rattle.nest_mean.proofs.Parts.{word_changes}
use Rattle.nest_mean.proofs.bodies.change_word.Goals as goal

pub returns-clause-written : goal.returns-clause-written
returns-clause-written c = λ line rest.
    let at : to_z w64 (of_z w64 c.args.at) ≡ c.args.at = to_z-of_z w64 c.args.at c.ranges.at in
    let old : to_z w64 (of_z w64 c.in_ok-old.old) ≡ c.in_ok-old.old = to_z-of_z w64 c.in_ok-old.old (search rules) in
    let right : to_z w64 (of_z w64 c.args.right) ≡ c.args.right = to_z-of_z w64 c.args.right c.ranges.right in
    let new : to_z w64 (of_z w64 c.in_ok-new.new) ≡ c.in_ok-new.new = to_z-of_z w64 c.in_ok-new.new (search rules) in
    let named : array_of (arrays_of c.args.checked.now.decls) c.args.name ≡ Some c.in_ok-array.array = sym c.array_of.ensures.number ∙ c.in_ok-array.ensures.ok_part in
    let was : loaded c.args.words.now c.in_ok-array.array c.args.at ≡ Some c.in_ok-old.old = sym (simp at at c.load.ensures) ∙ c.in_ok-old.ensures.ok_part in
    let becomes : assigned (operation_of c.args.op) c.in_ok-old.old c.args.right ≡ Ok c.in_ok-new.new = sym (simp (old, right) at c.assign.ensures) ∙ c.in_ok-new.was in
    word_changes _ _ _ _ _ _ _ _ _ _ _ _ named c.requires.sizes was becomes (simp (at, new) at c.store.ensures.after)

use Rattle.std.proofs.Common.{◌≡◌, ◌||◌, ap, ◌∙◌}
use Rattle.nest_syntax.specs.Among.{is_among}
use Rattle.nest_check.specs.ChangedBounds.{arrays_in}
use Rattle.nest_check.proofs.NamedParts.{on_ok, added_three, arrays_of_choice}
use Rattle.nest_check.proofs.named.+add_arrays.Goals as goal

pub returns-in_ok-add_arrays-in-Choice-2 : goal.returns-in_ok-add_arrays-in-Choice-2
returns-in_ok-add_arrays-in-Choice-2 t c =
    on_ok c.add_arrays-in-Choice-3.result (λ last name.
    let one : is_among c.add_arrays-in-Choice.new.names.keys name ≡ (is_among c.args.names.now.keys name || is_among (arrays_in c.in-Choice.test) name) = (rw c.get-in-Choice.ensures at (c.in_ok-add_arrays-in-Choice.ensures name)) in
    let two : is_among c.add_arrays-in-Choice-2.new.names.keys name ≡ (is_among c.add_arrays-in-Choice.new.names.keys name || is_among (arrays_in c.in-Choice.first) name) = (rw c.get-in-Choice-2.ensures at (c.in_ok-add_arrays-in-Choice-2.ensures name)) in
    let three : is_among c.add_arrays-in-Choice-3.new.names.keys name ≡ (is_among c.add_arrays-in-Choice-2.new.names.keys name || is_among (arrays_in c.in-Choice.second) name) = (rw c.get-in-Choice-3.ensures at (last name)) in
    added_three _ _ _ _ _ _ _ _ one two three (ap (λ e. is_among (arrays_in e) name) c.in-Choice.is ∙ arrays_of_choice c.in-Choice.test c.in-Choice.first c.in-Choice.second name))
    c.add_arrays-in-Choice-3.ensures

use Rattle.std.proofs.Common.{◌≡◌, ◌++◌, ◌∷◌, [], sym, ap, ◌∙◌, arith}
use Rattle.std.specs.List.{position_or_len}
use Rattle.std.specs.Str.{bytes_eq}
use Rattle.nest_lex.proofs.Numbering.{number_seen, seen_known, seen_new, keys_after, place-le}
use Rattle.nest_lex.proofs.names.number_of_name.Goals as goal
use Rattle.nest_lex.proofs.names.number_of_name.Goals.{then-number-len+in_ok-from_slice+in_ok-push, else-number-len}

pub returns-clause-number : goal.returns-clause-number
returns-clause-number c = c.in_ok-number.ensures.index ∙ number_seen c.args.name.now c.args.names.now c.args.seen.now.keys c.requires.seen

pub returns-clause-names : goal.returns-clause-names
returns-clause-names c =
    let number : c.in_ok-number.number ≡ position_or_len (bytes_eq c.args.name.now) c.args.names.now = returns-clause-number c in
    elim c.if-number-len.branch [
      | then-number-len+in_ok-from_slice+in_ok-push w ↦
          w.names-is ∙ w.in_ok-push.ensures.ok ∙ ap (λ n. c.args.names.now ++ n ∷ []) w.in_ok-from_slice.ensures
          ∙ sym (seen_new c.args.name.now c.args.names.now (sym number ∙ w.if-number-len.true ∙ c.len.ensures))
      | else-number-len w ↦
          let last = place-le (bytes_eq c.args.name.now) c.args.names.now in
          let other = w.if-number-len.false in
          let is_len = c.len.ensures in
          w.names-is ∙ sym (seen_known c.args.name.now c.args.names.now (omega arith))
    ]

pub returns-clause-seen : goal.returns-clause-seen
returns-clause-seen c = returns-clause-names c ∙ keys_after c.args.name c.args.names.now c.args.seen.now.keys c.insert_full.new.self.keys c.requires.seen c.in_ok-number.ensures.keys

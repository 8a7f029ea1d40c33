use Rattle.std.proofs.Common.{◌≡◌, true, map, sym, ◌∙◌, string_bytes}
use Rattle.std.proofs.lemmas.List.Folds.{list_all-map}
use Rattle.word_texts.specs.Command.{is_usual}
use Rattle.word_texts.proofs.Exact.{given_words, finds, refuses}
use Rattle.word_texts.proofs.parse.texts_of.Goals as goal

pub returns-then-not-are_usual : goal.returns-then-not-are_usual
returns-then-not-are_usual c said given give =
    let usual = (given_words (map string_bytes c.args.words.now) given give).1 in
    let all : c.are_usual.result ≡ true = c.are_usual.ensures ∙ sym (list_all-map is_usual string_bytes c.args.words.now) ∙ usual in
    cc

pub returns-in-Ok : goal.returns-in-Ok
returns-in-Ok c =
    let usual = list_all-map is_usual string_bytes c.args.words.now ∙ sym c.are_usual.ensures ∙ c.if-not-are_usual.false in
    finds _ (map string_bytes c.args.words.now) c.in-Ok.matches c.in_ok-command.ensures usual c.in-Ok.ensures.kinds c.in-Ok.ensures.matches

pub returns-in-Err : goal.returns-in-Err
returns-in-Err c said given give = refuses _ (map string_bytes c.args.words.now) c.in-Err.error c.in_ok-command.ensures c.in-Err.ensures.kinds (c.refusal.ensures said) given give

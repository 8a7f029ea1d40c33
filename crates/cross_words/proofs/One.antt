-- The words say one call at most.
use Rattle.std.proofs.Common.{◌≡◌, List, Option, Some, sym, ◌∙◌, subst}
use Rattle.std.proofs.lemmas.Option.{same_Some}
use Rattle.word_texts.specs.Spelling.{Text, Pair, Give}
use Rattle.cross_words.specs.declared.call.Call.{Call}
use Rattle.cross_words.specs.Table.{Sets, Say}

both_say : {X : Type 0} (read : Option X) (a b : X) → read ≡ Some a → read ≡ Some b → a ≡ b
both_say read a b first second = same_Some a b (sym first ∙ second)

sets_one : (given : List Pair) (a b : Call) → Sets given a → Sets given b → a ≡ b
sets_one given a b first second =
    let action = both_say _ a.action b.action first.action second.action in
    let engine = both_say _ a.options.engine b.options.engine first.engine second.engine in
    let workers = both_say _ a.options.workers b.options.workers first.workers second.workers in
    let queue = both_say _ a.options.queue b.options.queue first.queue second.queue in
    let sign = both_say _ a.options.sign b.options.sign first.sign second.sign in
    let segment = both_say _ a.options.segment b.options.segment first.segment second.segment in
    let distance = both_say _ a.options.distance b.options.distance first.distance second.distance in
    let seed = both_say _ a.seed b.seed first.seed second.seed in
    let size = both_say _ a.size b.size first.size second.size in
    let with_steps = first.with_steps ∙ sym second.with_steps in
    λ i. record {
      action = action i;
      options = record { engine = engine i; workers = workers i; queue = queue i; sign = sign i; segment = segment i; distance = distance i };
      seed = seed i;
      size = size i;
      with_steps = with_steps i;
    }

pub say_one : ((words : List Text) (a b : List Pair) → Give words a → Give words b → a ≡ b) → (words : List Text) (a b : Call) → Say words a → Say words b → a ≡ b
say_one one words a b first second =
    sets_one second.given a b (subst (λ (given : List Pair). Sets given a) (one words first.given second.given first.give second.give) first.sets) second.sets

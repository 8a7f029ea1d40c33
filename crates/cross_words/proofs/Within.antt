-- The numbers of a call that words say are in their ranges.
use Rattle.std.proofs.Common.{◌≡◌, ℕ, ◌≤◌, ◌&&◌, Bool, true, false, List, length, codes, Option, Some, None, nat_le, if◌then◌else◌, refl, subst, arith}
use Rattle.std.proofs.lemmas.Bool.{leb-true, and_parts}
use Rattle.std.proofs.lemmas.Option.{cond_some, same_Some}
use Rattle.nest_lex.specs.Spelling.{number_within, are_digits, decimal}
use Rattle.word_texts.specs.Spelling.{Text, Pair, text_of}
use Rattle.progress_board.specs.declared.options.Options.{Options}
use Rattle.cross_words.specs.declared.call.Call.{Call}
use Rattle.cross_words.specs.Table.{at_least, number_between, or_default, Sets, Say}
use Rattle.cross_words.specs.Ranges.{IsInRange}

not_above : (most : ℕ) (text : Text) (n : ℕ) → number_within most text ≡ Some n → n ≤ most
not_above most text n e =
    let both = cond_some (are_digits text && nat_le (decimal text) most) (decimal text) n e in
    subst (λ (m : ℕ). m ≤ most) both.1 (leb-true (decimal text) most (and_parts (are_digits text) (nat_le (decimal text) most) both.0).1)

not_below : (least most : ℕ) (text : Text) (n : ℕ) (read : Option ℕ) → number_within most text ≡ read → at_least least read ≡ Some n → (least ≤ n) × (n ≤ most)
not_below least most text n None is e = cc
not_below least most text n (Some m) is e =
    let both = cond_some (nat_le least m) m n e in
    (subst (λ (k : ℕ). least ≤ k) both.1 (leb-true least m both.0), subst (λ (k : ℕ). k ≤ most) both.1 (not_above most text m is))

some_of : (b : Bool) (read : Option ℕ) (n : ℕ) → (if b then read else None) ≡ Some n → read ≡ Some n
some_of true read n e = e
some_of false read n e = cc

between : (least most : ℕ) (text : Text) (n : ℕ) → number_between least most text ≡ Some n → (least ≤ n) × (n ≤ most)
between least most text n e = not_below least most text n (number_within most text) refl (some_of (nat_le (length text) 10) (at_least least (number_within most text)) n e)

-- what an option says, or its default, is within bounds that the default keeps
within : (default least most : ℕ) → least ≤ default → default ≤ most → (text : Option Text) (n : ℕ) → or_default default (number_between least most) text ≡ Some n → (least ≤ n) × (n ≤ most)
within default least most low high None n e = let same : default ≡ n = same_Some default n e in (subst (λ (k : ℕ). least ≤ k) same low, subst (λ (k : ℕ). k ≤ most) same high)
within default least most low high (Some text) n e = between least most text n e

pub said_in_range : (words : List Text) (call : Call) → Say words call → IsInRange call
said_in_range words call say =
    let set : Sets say.given call = say.sets in
    let workers = within 2 1 8 (omega arith) (omega arith) (text_of (codes "workers") say.given) call.options.workers set.workers in
    let queue = within 16 1 1024 (omega arith) (omega arith) (text_of (codes "queue") say.given) call.options.queue set.queue in
    let segment = within 16 1 64 (omega arith) (omega arith) (text_of (codes "segment") say.given) call.options.segment set.segment in
    let distance = within 4 0 64 (omega arith) (omega arith) (text_of (codes "distance") say.given) call.options.distance set.distance in
    let seed = within 1 0 2147483647 (omega arith) (omega arith) (text_of (codes "seed") say.given) call.seed set.seed in
    let size = within 64 1 262144 (omega arith) (omega arith) (text_of (codes "size") say.given) call.size set.size in
    record {
      options = record { some_worker = workers.0; few_workers = workers.1; some_room = queue.0; little_room = queue.1; some_invocation = segment.0; few_invocations = segment.1; near = distance.1 };
      seed = seed.1;
      some = size.0;
      few = size.1;
    }

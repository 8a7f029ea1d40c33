use Rattle.std.proofs.Common.{◌≡◌, ℕ, ◌<◌, ◌≤◌, ◌+◌, ◌*◌, nat_lt, None, length, get_or, set, length-set, sym, ap, ◌∙◌, arith, ⊎_elim}
use Rattle.std.proofs.lemmas.Bool.{cases_lt, lt-ltb, le-ltb, cond-true, cond-false}
use Rattle.std.proofs.lemmas.List.{get_or_read}
use Rattle.shadow_memory.specs.declared.access.LastAccess.{LastAccess}
use Rattle.shadow_memory.specs.Notes.{later}
use Rattle.shadow_memory.specs.Accesses.{last_conflict, LastAccesses, access_at}
use Rattle.shadow_memory.proofs.Greatest.{later-none, none_of}
use Rattle.shadow_memory.proofs.Places.{raised_next}
use Rattle.shadow_memory.proofs.shadow.Shadow.raise.Goals as goal

pub loop-other-preserved : goal.loop-other-preserved
loop-other-preserved c =
    let other = c.loop-other.other in
    let as_many : c.self.inside.workers ≡ c.args.self.now.workers = ap (λ (s : LastAccesses). s.workers) c.self.view_is in
    let same_list : c.self.inside.last.items ≡ c.args.self.now.list = ap (λ (s : LastAccesses). s.list) c.self.view_is in
    let none : LastAccess = record { read = None; write = None } in
    let read : c.index.result.now ≡ access_at c.args.self.now c.args.word other =
    get_or_read c.self.inside.last.items c.place.result c.index.result.now (omega (arith, c.place.ensures.within, ap length same_list)) c.index.ensures none
    ∙ ap (λ n. get_or c.self.inside.last.items n none) c.place.ensures.place
    ∙ ap (λ list. get_or list (c.args.word * c.args.self.now.workers + other) none) same_list in
    record {
      long = length-set c.loop-other.needs other c.later.result ∙ c.loop-other.invariant.long;
      raised = λ notes noted k.
          let conflict = λ (u : ℕ). last_conflict notes c.args.claims.now u c.args.word in
          let met : c.later.result ≡ later (get_or c.loop-other.needs other None) (conflict other) =
          c.later.ensures ∙ ap (later (get_or c.loop-other.needs other None)) (c.conflict-conflict.ensures notes other (read ∙ noted.last c.args.word other c.requires.word (omega arith))) in
          ap (λ o. get_or (set c.loop-other.needs other o) k None) met
          ∙ raised_next conflict c.args.needs.now c.loop-other.needs other (omega (arith, c.loop-other.invariant.long)) (c.loop-other.invariant.raised notes noted) k;
    }

pub returns : goal.returns
returns c = λ notes noted k.
    let as_many : c.self.inside.workers ≡ c.args.self.now.workers = ap (λ (s : LastAccesses). s.workers) c.self.view_is in
    c.loop-other.invariant.raised notes noted k
    ∙ ⊎_elim
    (λ (less : k < c.loop-other.other). cond-true (nat_lt k c.loop-other.other) _ _ (lt-ltb k c.loop-other.other less))
    (λ (past : c.loop-other.other ≤ k).
    cond-false (nat_lt k c.loop-other.other) _ _ (le-ltb k c.loop-other.other past)
    ∙ sym (ap (later (get_or c.args.needs.now k None)) (none_of c.args.self.now.workers k _ notes noted.own (omega arith)) ∙ later-none (get_or c.args.needs.now k None)))
    (cases_lt k c.loop-other.other)

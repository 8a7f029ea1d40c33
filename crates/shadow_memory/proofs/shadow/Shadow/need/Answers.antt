use Rattle.std.proofs.Common.{◌≡◌, ℕ, ◌==◌, [], ◌∷◌, Option, None, get_or, set, refl, sym, ap, ◌∙◌, arith, ⊎_elim}
use Rattle.std.proofs.lemmas.Bool.{cases_eq, cases_lt, eq-eqb, ne_eqb, cond-true, cond-false}
use Rattle.std.proofs.lemmas.List.{get_or-set_same, get_or-set_other, get_or-replicate, get_or_past}
use Rattle.addr_slice.specs.Claims.{words_of}
use Rattle.shadow_memory.specs.Notes.{later}
use Rattle.shadow_memory.specs.Accesses.{LastAccesses, last_conflict}
use Rattle.shadow_memory.proofs.Conflicts.{conflict_below, conflict-none, conflict-skips, conflict-next}
use Rattle.shadow_memory.proofs.shadow.Shadow.need.Goals as goal

none_at : (k : ℕ) → get_or {A = Option ℕ} (None ∷ None ∷ None ∷ None ∷ None ∷ None ∷ None ∷ None ∷ []) k None ≡ None
none_at k = ⊎_elim (get_or-replicate 8 k None None) (get_or_past (None ∷ None ∷ None ∷ None ∷ None ∷ None ∷ None ∷ None ∷ []) k None) (cases_lt k 8)

pub words-init : goal.words-init
words-init c = record {
  within = omega arith;
  long = refl;
  needs = λ notes noted k. none_at k ∙ sym (conflict-none notes c.args.claims.now k);
}

pub words-preserved : goal.words-preserved
words-preserved c = record {
  within = omega (arith, c.in-Some.ensures.within);
  long = omega (arith, c.raise.array_long);
  needs = λ notes noted k.
      c.raise.ensures notes noted k
      ∙ ap (λ o. later o (last_conflict notes c.args.claims.now k c.in-Some.word)) (c.words.invariant.needs notes noted k)
      ∙ conflict-next notes c.args.claims.now k c.words.from c.in-Some.word c.in-Some.ensures.next;
}

pub returns : goal.returns
returns c = λ notes noted k.
    ⊎_elim
    (λ (own : k ≡ c.args.worker).
    ap (λ n. get_or (set c.words.needs c.args.worker None) n None) own
    ∙ get_or-set_same c.words.needs c.args.worker None None (omega (arith, c.words.invariant.long, c.self.invariant.few, ap (λ (s : LastAccesses). s.workers) c.self.view_is))
    ∙ sym (cond-true (k == c.args.worker) None (conflict_below notes c.args.claims.now k (words_of c.args.claims.now)) (eq-eqb k c.args.worker own)))
    (λ (other : k ≡ c.args.worker → ⊥).
    get_or-set_other c.words.needs c.args.worker k None None other
    ∙ c.words.invariant.needs notes noted k
    ∙ conflict-skips notes c.args.claims.now k c.words.from (words_of c.args.claims.now) c.words.invariant.within (λ n low high. c.in_default.ensures.next n low)
    ∙ sym (cond-false (k == c.args.worker) None (conflict_below notes c.args.claims.now k (words_of c.args.claims.now)) (ne_eqb k c.args.worker other)))
    (cases_eq k c.args.worker)

-- The places of words and workers, and lists of which one place changes.
use Rattle.std.proofs.Common.{◌≡◌, ℕ, ◌+◌, ◌*◌, ◌/◌, ◌<◌, ◌≤◌, if◌then◌else◌, nat_lt, Option, None, List, length, get_or, set, sym, ap, ◌∙◌, arith, ⊎_elim}
use Rattle.std.proofs.lemmas.Bool.{cases_lt, cases_eq, lt-ltb, le-ltb, cond-true, cond-false}
use Rattle.std.proofs.lemmas.List.{get_or-set_same, get_or-set_other}
use Rattle.std.proofs.lemmas.Nat.{div-mul-add}
use Rattle.shadow_memory.specs.Notes.{later}

-- places of different words or workers differ
pub places_apart : (width k word u v : ℕ) → u < width → v < width → (k ≡ word → u ≡ v → ⊥) → k * width + u ≡ word * width + v → ⊥
places_apart width k word u v own its apart same =
    let same_word : k ≡ word = sym (div-mul-add k width u own) ∙ ap (λ n. n / width) same ∙ div-mul-add word width v its in
    let moved : word * width + u ≡ word * width + v = ap (λ n. n * width + u) (sym same_word) ∙ same in
    apart same_word (omega arith)

-- the needs of the workers below `other` are raised, and then that of this one
pub raised_next : (conflict : ℕ → Option ℕ) (old now : List (Option ℕ)) (other : ℕ) → other < length now
    → ((k : ℕ) → get_or now k None ≡ (if nat_lt k other then later (get_or old k None) (conflict k) else get_or old k None))
    → (k : ℕ) → get_or (set now other (later (get_or now other None) (conflict other))) k None ≡ (if nat_lt k (other + 1) then later (get_or old k None) (conflict k) else get_or old k None)
raised_next conflict old now other inside raised k = ⊎_elim here elsewhere (cases_eq k other)
  where
    here : k ≡ other → get_or (set now other (later (get_or now other None) (conflict other))) k None ≡ (if nat_lt k (other + 1) then later (get_or old k None) (conflict k) else get_or old k None)
    here same =
        ap (λ n. get_or (set now other (later (get_or now other None) (conflict other))) n None) same
        ∙ get_or-set_same now other (later (get_or now other None) (conflict other)) None inside
        ∙ ap (λ o. later o (conflict other)) (raised other ∙ cond-false (nat_lt other other) _ _ (le-ltb other other (omega arith)))
        ∙ ap (λ n. later (get_or old n None) (conflict n)) (sym same)
        ∙ sym (cond-true (nat_lt k (other + 1)) _ _ (lt-ltb k (other + 1) (omega arith)))

    elsewhere : (k ≡ other → ⊥) → get_or (set now other (later (get_or now other None) (conflict other))) k None ≡ (if nat_lt k (other + 1) then later (get_or old k None) (conflict k) else get_or old k None)
    elsewhere apart =
        get_or-set_other now other k (later (get_or now other None) (conflict other)) None apart ∙ raised k
        ∙ ⊎_elim
        (λ (less : k < other). ap (λ b. if b then later (get_or old k None) (conflict k) else get_or old k None) (lt-ltb k other less ∙ sym (lt-ltb k (other + 1) (omega arith))))
        (λ (past : other ≤ k). ap (λ b. if b then later (get_or old k None) (conflict k) else get_or old k None) (le-ltb k other past ∙ sym (le-ltb k (other + 1) (omega arith))))
        (cases_lt k other)

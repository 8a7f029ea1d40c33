-- The claims of an iteration, as they are found and as they are noted.
use Rattle.std.proofs.Common.{◌≡◌, ℕ, zero, suc, ◌<◌, ◌≤◌, ℤ, Bool, true, false, ◌||◌, if◌then◌else◌, List, length, refl, sym, ap, ◌∙◌, subst, ⊎_elim, arith}
use Rattle.std.proofs.lemmas.Bool.{cases_lt}
use Rattle.nest_syntax.specs.declared.tree.Program.{Program}
use Rattle.nest_syntax.specs.Arrays.{arrays_of}
use Rattle.settle_law.specs.Cuts.{HoldsFixed}
use Rattle.settle_law.specs.Reading.{fixed_in}
use Rattle.settle_law.proofs.Turns.{inside_turns_tell}
use Rattle.claim_walk.specs.Laws.{AgreeAt}
use Rattle.addr_slice.specs.Claims.{Claimed, is_set, is_claimed, by_word}
use Rattle.addr_slice.specs.Slice.{claims_of}
use Rattle.sched_cursor.specs.Cursor.{Cursor}
use Rattle.sched_cursor.specs.Events.{is_iterating, handed_at}
use Rattle.sched_cursor.specs.Handed.{what_of}
use Rattle.sched_cursor.specs.Laws.{IsCursorOf}
use Rattle.sched_cursor.specs.Given.{AgreeOn, given_at}
use Rattle.sched_cursor.proofs.Given.{given_agree}
use Rattle.spec_machine.specs.Signatures.{Kind}
use Rattle.spec_machine.specs.Segments.{with_claimed, with_claims}

-- what is found for any opening words that the present ones tell, and any scalars that agree
abbrev pub Finds : Program → List ℤ → ℕ → List ℤ → Claimed → Type 0
Finds program words body scalars new = (opening others : List ℤ) → HoldsFixed (fixed_in (arrays_of program.decls) opening) words → AgreeAt program body scalars others → new ≡ claims_of program opening (body, others)

-- is what the iteration claims that the cursor hands out
pub claims_found : (program : Program) (opening : List ℤ) (c : Cursor) (before given : List ℤ) (body : ℕ) (new : Claimed) → IsCursorOf program c → is_iterating c.at ≡ true → length before ≡ length program.names → body ≡ (handed_at c c.at).body → given ≡ given_at c c.at before → Finds program opening body given new
    → new ≡ claims_of program opening (what_of program (handed_at c c.at))
claims_found program opening c before given body new own iterates many is given_is finds =
    let h = handed_at c c.at in
    let agree : AgreeOn program h.body (given_at c c.at before) (what_of program h).1 = given_agree program c before own iterates many in
    subst (λ b. Finds program opening b given new) is finds opening (what_of program h).1 ((inside_turns_tell (arrays_of program.decls) opening).0)
    (subst (λ xs. AgreeAt program h.body xs (what_of program h).1) (sym given_is) (record { as_many = agree.as_many; scheduled = agree.scheduled; variable = agree.variable }))

-- a word that isn't claimed notes nothing
module _ {G : Type 0} (kind : Kind G) (claims : Claimed) where
  unclaimed : (w : ℕ) (sign : G) → is_claimed claims w ≡ false → with_claimed kind (by_word claims) w sign ≡ sign
  unclaimed w sign none = by (is_set claims.reads w) (is_set claims.writes w) none
    where
      by : (a b : Bool) → (a || b) ≡ false → (let read : G = if a then kind.with_read w sign else sign in if b then kind.with_written w read else read) ≡ sign
      by false false none = refl
      by false true none = absurd (let no : true ≡ false = none in cc)
      by true b none = absurd (let no : true ≡ false = none in cc)

  pub passed_over : (from n : ℕ) (sign : G) → from ≤ n → ((k : ℕ) → from ≤ k → k < n → is_claimed claims k ≡ false) → with_claims kind (by_word claims) n sign ≡ with_claims kind (by_word claims) from sign
  passed_over from zero sign le none = let same : from ≡ 0 = omega (arith, le) in ap (λ k. with_claims kind (by_word claims) k sign) (sym same)
  passed_over from (suc n) sign le none = ⊎_elim
      (λ below. unclaimed n (with_claims kind (by_word claims) n sign) (none n (omega (arith, below)) (omega arith)) ∙ passed_over from n sign (omega (arith, below)) (λ k low high. none k low (omega (arith, high))))
      (λ above. let same : from ≡ suc n = omega (arith, above, le) in ap (λ k. with_claims kind (by_word claims) k sign) (sym same))
      (cases_lt from (suc n))

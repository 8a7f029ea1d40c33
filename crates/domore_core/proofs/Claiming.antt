-- What is claimed for the iteration that a cursor hands out is what that iteration claims.
use Rattle.std.proofs.Common.{◌≡◌, ℕ, ℤ, true, List, length, sym, ◌∙◌, ap, subst}
use Rattle.nest_syntax.specs.declared.tree.Program.{Program}
use Rattle.nest_syntax.specs.Arrays.{arrays_of}
use Rattle.settle_law.specs.Cuts.{HoldsFixed}
use Rattle.settle_law.specs.Reading.{fixed_in, InsideTurnsTell}
use Rattle.claim_walk.specs.Laws.{AgreeAt}
use Rattle.addr_slice.specs.Claims.{Claimed}
use Rattle.addr_slice.specs.Slice as slice
use Rattle.sched_cursor.specs.declared.event.Iteration.{Iteration}
use Rattle.sched_cursor.specs.Cursor.{Cursor}
use Rattle.sched_cursor.specs.Events.{is_iterating, handed_at}
use Rattle.sched_cursor.specs.Handed.{what_of}
use Rattle.sched_cursor.specs.Laws.{IsCursorOf}
use Rattle.sched_cursor.specs.Given.{AgreeOn, given_at}
use Rattle.sched_cursor.proofs.Given.{given_agree}
use Rattle.domore_core.specs.Claims.{claims_of}

agree_at : (program : Program) (body : ℕ) (some others : List ℤ) → AgreeOn program body some others → AgreeAt program body some others
agree_at program body some others agree = record { as_many = agree.as_many; scheduled = agree.scheduled; variable = agree.variable }

claims_named : (program : Program) (opening : List ℤ) (h : Iteration) (new : Claimed) → new ≡ slice.claims_of program opening (h.body, (what_of program h).1) → new ≡ claims_of program opening (what_of program h)
unfolding claims_of
claims_named program opening h new is = is

-- what a call finds for any opening words that the present ones tell, and any scalars that agree
abbrev pub Finds : Program → List ℤ → ℕ → List ℤ → Claimed → Type 0
Finds program words body scalars new = (opening others : List ℤ) → HoldsFixed (fixed_in (arrays_of program.decls) opening) words → AgreeAt program body scalars others → new ≡ slice.claims_of program opening (body, others)

module _ (told : InsideTurnsTell) (program : Program) (opening : List ℤ) (c : Cursor) (of : IsCursorOf program c) (iterates : is_iterating c.at ≡ true) (before : List ℤ) (many : length before ≡ length program.names) where
  own_claims : (given : List ℤ) (new : Claimed) → given ≡ given_at c c.at before → Finds program opening (handed_at c c.at).body given new → new ≡ claims_of program opening (what_of program (handed_at c c.at))
  own_claims given new is finds =
      let h = handed_at c c.at in
      let agree = given_agree program c before of iterates many in
      claims_named program opening h new
      (finds opening (what_of program h).1 (told (arrays_of program.decls) opening).0 (subst (λ xs. AgreeAt program h.body xs (what_of program h).1) (sym is) (agree_at program h.body (given_at c c.at before) (what_of program h).1 agree)))

  pub claims_found : (checked : Program) (words : List ℤ) (h : Iteration) (given : List ℤ) (new : Claimed) → checked ≡ program → words ≡ opening → h ≡ handed_at c c.at → given ≡ given_at c c.at before → Finds checked words h.body given new
      → new ≡ claims_of program opening (what_of program h)
  claims_found checked words h given new same told_words handed is finds =
      subst (λ (i : Iteration). Finds program opening i.body given new → new ≡ claims_of program opening (what_of program i)) (sym handed)
      (own_claims given new is)
      (subst (λ (p : Program). Finds p opening h.body given new) same (subst (λ ws. Finds checked ws h.body given new) told_words finds))

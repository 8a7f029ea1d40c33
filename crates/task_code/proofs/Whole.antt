-- The code of all bodies, from the code of each, and how the walks over the tree find them.
use Rattle.std.specs.Prelude.{Result, Ok, Err, OnOk, is_some}
use Rattle.std.proofs.Common.{◌≡◌, ℕ, zero, suc, ◌+◌, ◌<◌, ℤ, Option, Some, None, List, [], ◌∷◌, ◌++◌, map, take, length, get_or, refl, sym, ap, ◌∙◌, subst, arith}
use Rattle.std.specs.List.{flat_map}
use Rattle.std.proofs.lemmas.List.{map-append, take_more}
use Rattle.nest_syntax.specs.declared.tree.Program.{Program}
use Rattle.nest_syntax.specs.declared.tree.Loop.{Loop}
use Rattle.nest_syntax.specs.Among.{Each}
use Rattle.nest_syntax.specs.Arrays.{arrays_of, sizes_of}
use Rattle.nest_syntax.specs.Shape.{Body}
use Rattle.nest_syntax.specs.Turn.{sequence, effect, turn_of, Finished}
use Rattle.nest_syntax.specs.Locals.{with_zeros}
use Rattle.nest_syntax.specs.Locals as text
use Rattle.nest_check.specs.Through.{through}
use Rattle.nest_check.specs.Entries.{statements_of}
use Rattle.nest_check.proofs.Lists.{through-append}
use Rattle.task_hop.specs.declared.end.End.TheVariants as end
use Rattle.task_code.specs.declared.code.Entry.{Entry}
use Rattle.task_code.specs.declared.code.Instruction.{Instruction}
use Rattle.task_code.specs.declared.code.Instruction.TheVariants as instruction
use Rattle.task_code.specs.Code.{instruction_at, hop_at}
use Rattle.task_code.specs.Unfolded.{opening_frame}
use Rattle.task_code.specs.Follows.{Follows}
use Rattle.task_code.specs.Compiled.{Emits, Carries}
use Rattle.task_code.specs.Bodies.{layout_of, with_entry, with_variable, slot_of}
use Rattle.task_code.specs.CodeOf.{BeginsWith, IsReady, IsStart, AreStarts, IsEntryOf, AreEntriesOf}
use Rattle.task_code.proofs.Follows.{unfolded}
use Rattle.task_code.proofs.Emitted.{emits_then, emits_nothing}
use Rattle.task_code.proofs.Layouts.{names_kept}

pub on_ok : {T E : Type 0} (r : Result T E) (P Q : Type 0) → OnOk r P → (P → Q) → OnOk r Q
on_ok (Ok x) P Q holds map = map holds
on_ok (Err e) P Q holds map = tt

-- two lists of items, one behind the other
pub through_both : {S E : Type 0} (step : S → E → S) (old mid new : S) (xs ys all : List E) → through step old all ≡ through step old (xs ++ ys) → mid ≡ through step old xs → new ≡ through step mid ys → new ≡ through step old all
through_both step old mid new xs ys all same first second = second ∙ ap (λ s. through step s ys) first ∙ sym (through-append step old xs ys) ∙ sym same

-- the locals of a body, as they are noted
pub layout_is : (b : Body) → through with_entry (with_variable b.header []) (statements_of b.stmts) ≡ layout_of b
layout_is b = by b.header b where
  by : (h : Option Loop) (b : Body) → through with_entry (with_variable h []) (statements_of b.stmts) ≡ layout_of (record { line = b.line; header = h; stmts = b.stmts })
  by None b = sym (names_kept [] (statements_of b.stmts))
  by (Some l) b = sym (names_kept ((l.name, l.line) ∷ []) (statements_of b.stmts))

module _ (program : Program) where
  -- a body, from its statements
  pub start_code : (a b c : List Instruction) (body : Body) (locals : List ℕ) (finish at : ℕ) (slot : Option ℕ) → IsReady program body → locals ≡ layout_of body → slot ≡ slot_of body.header
      → Emits a b (λ code. instruction_at code finish ≡ instruction.End end.Finish) → Emits b c (λ code. Carries program locals (sequence (map (effect (arrays_of program.decls)) body.stmts)) 0 finish code at)
      → Emits a c (λ code. IsStart program code body (record { at = at; slot = slot }))
  start_code a b c body locals finish at slot ready same slotted ends carries = emits_then a b c _ _ (λ code. IsStart program code body (record { at = at; slot = slot })) ends carries
      (λ code is runs. record {
        slotted = slotted;
        follows = λ scalars value env begins.
            let carried : Carries program (layout_of body) (sequence (map (effect (arrays_of program.decls)) body.stmts)) 0 finish code at = subst (λ ls. Carries program ls (sequence (map (effect (arrays_of program.decls)) body.stmts)) 0 finish code at) same runs in
            subst (λ s. Follows code (turn_of (arrays_of program.decls) body.stmts scalars) at (opening_frame s value env)) (sym slotted)
            (carried (with_zeros (text.locals_of body.stmts) scalars) (opening_frame (slot_of body.header) value env) (λ after. Finished) (ready.opens scalars value env begins) (λ later after held keeps. is));
      })

  starts_more : (code : List Instruction) (bodies : List Body) (entries : List Entry) (b : Body) (e : Entry) → AreStarts program code bodies entries → IsStart program code b e → AreStarts program code (bodies ++ b ∷ []) (entries ++ e ∷ [])
  starts_more code [] [] b e starts start = (start, tt)
  starts_more code (x ∷ bodies) (y ∷ entries) b e starts start = (starts.0, starts_more code bodies entries b e starts.1 start)
  starts_more code [] (y ∷ entries) b e starts start = elim starts [ ]
  starts_more code (x ∷ bodies) [] b e starts start = elim starts [ ]

  pub one_more_start : (a b c : List Instruction) (bodies : List Body) (entries more : List Entry) (body : Body) (e : Entry) → more ≡ entries ++ e ∷ [] → Emits a b (λ code. AreStarts program code bodies entries) → Emits b c (λ code. IsStart program code body e)
      → Emits a c (λ code. AreStarts program code (bodies ++ body ∷ []) more)
  one_more_start a b c bodies entries more body e is starts start = subst (λ es. Emits a c (λ code. AreStarts program code (bodies ++ body ∷ []) es)) (sym is)
      (emits_then a b c _ _ (λ code. AreStarts program code (bodies ++ body ∷ []) (entries ++ e ∷ [])) starts start (λ code s one. starts_more code bodies entries body e s one))

  slots : (h : Option Loop) → is_some (slot_of h) ≡ is_some h
  slots None = refl
  slots (Some l) = refl

  entry_is : (code : List Instruction) (b : Body) (e : Entry) → IsStart program code b e → IsEntryOf program code b e
  unfolding hop_at
  entry_is code b e start = record {
    slotted = ap is_some start.slotted ∙ slots b.header;
    unfolds = λ scalars value env begins. unfolded (sizes_of (arrays_of program.decls)) code (turn_of (arrays_of program.decls) b.stmts scalars) 0 31 refl e.at (opening_frame e.slot value env) (start.follows scalars value env begins);
  }

  pub entries_are : (code : List Instruction) (bodies : List Body) (entries : List Entry) → AreStarts program code bodies entries → AreEntriesOf program code bodies entries
  entries_are code [] [] starts = tt
  entries_are code (b ∷ bodies) (e ∷ entries) starts = (entry_is code b e starts.0, entries_are code bodies entries starts.1)
  entries_are code [] (e ∷ entries) starts = elim starts [ ]
  entries_are code (b ∷ bodies) [] starts = elim starts [ ]

nothing_below : (i : ℕ) → i < 0 → ⊥
nothing_below i less = omega (arith, less)

below_one : (i n : ℕ) → suc i < suc n → i < n
below_one i n less = omega (arith, less)

-- what holds of each body holds of the one at a place
pub each_there : {A : Type 0} (P : A → Type 0) (xs : List A) (i : ℕ) → i < length xs → (here : A) → here ≡ get_or xs i here → Each P xs → P here
each_there P [] i inside here is each = elim (nothing_below i inside) [ ]
each_there P (x ∷ xs) zero inside here is each = subst P (sym is) each.0
each_there P (x ∷ xs) (suc i) inside here is each = each_there P xs i (below_one i (length xs) inside) here is each.1

pub each_mapped : {A B : Type 0} (P : B → Type 0) (f : A → B) (xs : List A) → Each P (map f xs) → Each (λ x. P (f x)) xs
each_mapped P f [] each = tt
each_mapped P f (x ∷ xs) each = (each.0, each_mapped P f xs each.1)

pub mapped_more : {A B : Type 0} (f : A → B) (xs : List A) (i : ℕ) → i < length xs → (here : A) → here ≡ get_or xs i here → map f (take (i + 1) xs) ≡ map f (take i xs) ++ f here ∷ []
mapped_more f xs i there here is = ap (map f) (take_more xs i here there) ∙ ap (λ x. map f (take i xs ++ x ∷ [])) (sym is) ∙ map-append f (take i xs) (here ∷ [])

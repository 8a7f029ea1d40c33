-- What the tests of the names in an expression tell of it.
use Rattle.std.proofs.Common.{◌≡◌, ℕ, Bool, true, false, not, ◌||◌, IsTrue, ◌↔◌, ◌⊎◌, inl, inr, List, [], ◌∷◌, slice_index_or, refl, sym, ap, ◌∙◌}
use Rattle.std.specs.List.{list_any}
use Rattle.nest_syntax.specs.declared.tree.Expr.{Expr}
use Rattle.nest_syntax.specs.declared.tree.Program.{Program}
use Rattle.nest_syntax.specs.Arrays.{arrays_of}
use Rattle.nest_syntax.specs.Shape.{bodies_of}
use Rattle.nest_syntax.specs.Value.{names_written}
use Rattle.nest_syntax.specs.Among.{is_among}
use Rattle.data_local.specs.Names.{scalars_in}
use Rattle.data_local.specs.Bodies.{body_numbered}
use Rattle.data_local.specs.Breaches.{is_data}
use Rattle.data_local.proofs.Lowests.{data_is, is_data_of}
use Rattle.nest_partition.specs.Split.{Parts, IsSplitOf, IsSlice}

-- an empty list names nothing
pub none_named : (names : List ℕ) → list_any (is_among []) names ≡ false
none_named [] = refl
none_named (name ∷ names) = none_named names

-- where neither test holds, and where one does
module _ (program : Program) (parts : Parts) (split : IsSplitOf program parts) (body : ℕ) (e : Expr) where
  abbrev locals : List ℕ
  locals = slice_index_or parts.locals body []

  pub slice_told : (written local : Bool) → written ≡ names_written (arrays_of program.decls) e → local ≡ list_any (is_among locals) (scalars_in e) → IsTrue (not (written || local)) ↔ IsSlice (arrays_of program.decls) (body_numbered (bodies_of program) body) e
  slice_told written local first second = (
    λ holds named_data. by_yes (written || local) holds (is_data_of (arrays_of program.decls) (body_numbered (bodies_of program) body) locals e (split.locals.each body) named_data) named,
    λ slice. by_no (written || local) refl slice,
  )
    where
      named : (written || local) ≡ is_data (arrays_of program.decls) locals e
      named = ap (λ b. b || local) first ∙ ap (λ b. names_written (arrays_of program.decls) e || b) second

      by_yes : (b : Bool) → IsTrue (not b) → is_data (arrays_of program.decls) locals e ≡ true → b ≡ is_data (arrays_of program.decls) locals e → ⊥
      by_yes true holds is same = absurd (let no : false ≡ true = holds in cc)
      by_yes false holds is same = absurd (let no : false ≡ true = same ∙ is in cc)

      by_no : (b : Bool) → (written || local) ≡ b → IsSlice (arrays_of program.decls) (body_numbered (bodies_of program) body) e → IsTrue (not b)
      by_no true same slice = absurd (slice (data_is (arrays_of program.decls) (body_numbered (bodies_of program) body) locals e (split.locals.each body) (sym named ∙ same)))
      by_no false same slice = refl

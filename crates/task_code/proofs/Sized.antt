-- Code that is added stays sized.
use Rattle.std.specs.Prelude.{Result, Ok, Err, OnOk}
use Rattle.std.proofs.Common.{◌≡◌, ℕ, zero, suc, ◌≤◌, Option, Some, None, List, [], ◌∷◌, ◌++◌, slice_set, slice_index_or, sym, subst, arith}
use Rattle.nest_syntax.specs.declared.names.Line.{Line}
use Rattle.nest_syntax.specs.declared.operators.Bin.{Bin}
use Rattle.nest_syntax.specs.declared.operators.Bin.TheVariants as bin
use Rattle.nest_syntax.specs.declared.tree.Program.{Program}
use Rattle.nest_syntax.specs.Among.{Each}
use Rattle.nest_syntax.specs.Arrays.{arrays_of, sizes_of, array_of}
use Rattle.nest_syntax.proofs.Inductions.{each_both}
use Rattle.task_hop.specs.declared.frame.Operand.{Operand}
use Rattle.task_code.specs.declared.code.Instruction.{Instruction}
use Rattle.task_code.specs.Ready.{subscript_by, subscript_of}
use Rattle.task_code.specs.Compiled.{closing}
use Rattle.task_code.specs.Sized.{IsOfArray, IsSized, AreSized, StaysSized}

module _ (sizes : List ℕ) where
  pub sized_same : (old : List Instruction) → StaysSized sizes old old
  sized_same old = record { stays = λ are. are }

  pub sized_one : (old new : List Instruction) (i : Instruction) → new ≡ old ++ i ∷ [] → IsSized sizes i → StaysSized sizes old new
  sized_one old new i more is = record { stays = λ are. subst (AreSized sizes) (sym more) (each_both (IsSized sizes) old (i ∷ []) are (is, tt)) }

  -- an instruction that is made by a function
  pub sized_made : (i made : Instruction) → i ≡ made → IsSized sizes made → IsSized sizes i
  sized_made i made same is = subst (IsSized sizes) (sym same) is

  pub sized_then : (old mid new : List Instruction) → StaysSized sizes old mid → StaysSized sizes mid new → StaysSized sizes old new
  sized_then old mid new first second = record { stays = λ are. second.stays (first.stays are) }

  -- the same where the last part may have failed
  pub sized_after : {T E : Type 0} (r : Result T E) (old mid new : List Instruction) → StaysSized sizes old mid → OnOk r (StaysSized sizes mid new) → OnOk r (StaysSized sizes old new)
  sized_after (Ok x) old mid new first second = sized_then old mid new first second
  sized_after (Err e) old mid new first second = tt

  -- an instruction in place of another
  filled : (code : List Instruction) (at : ℕ) (i : Instruction) → IsSized sizes i → AreSized sizes code → AreSized sizes (slice_set code at i)
  filled [] at i is are = are
  filled (x ∷ code) zero i is are = (is, are.1)
  filled (x ∷ code) (suc at) i is are = (are.0, filled code at i is are.1)

  pub sized_filled : (code : List Instruction) (at : ℕ) (i : Instruction) → IsSized sizes i → StaysSized sizes code (slice_set code at i)
  sized_filled code at i is = record { stays = filled code at i is }

  by_number : (array : Option ℕ) (at : Operand) (line : Line) → IsOfArray sizes (subscript_by sizes array at line)
  by_number None at line = omega arith
  by_number (Some array) at line = omega arith

  pub closing_sized : (op : Bin) (left right : Operand) (into : ℕ) (line : Line) (next : ℕ) → IsSized sizes (closing op left right into line next)
  closing_sized bin.Add left right into line next = tt
  closing_sized bin.Sub left right into line next = tt
  closing_sized bin.Mul left right into line next = tt
  closing_sized bin.Div left right into line next = tt
  closing_sized bin.Rem left right into line next = tt
  closing_sized bin.Shl left right into line next = tt
  closing_sized bin.Shr left right into line next = tt
  closing_sized bin.And left right into line next = tt
  closing_sized bin.Xor left right into line next = tt
  closing_sized bin.Or left right into line next = tt
  closing_sized bin.Less left right into line next = tt
  closing_sized bin.LessEq left right into line next = tt
  closing_sized bin.More left right into line next = tt
  closing_sized bin.MoreEq left right into line next = tt
  closing_sized bin.Equal left right into line next = tt
  closing_sized bin.NotEqual left right into line next = tt
  closing_sized bin.Both left right into line next = tt
  closing_sized bin.Either left right into line next = tt

pub subscript_sized : (program : Program) (name : ℕ) (at : Operand) (line : Line) → IsOfArray (sizes_of (arrays_of program.decls)) (subscript_of program name at line)
subscript_sized program name at line = by_number (sizes_of (arrays_of program.decls)) (array_of (arrays_of program.decls) name) at line

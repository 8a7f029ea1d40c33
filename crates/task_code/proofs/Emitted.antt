-- Code that is added piece by piece.
use Rattle.std.specs.Prelude.{Result, Ok, Err, IfOk}
use Rattle.std.proofs.Common.{◌≡◌, ℕ, ◌+◌, ◌<◌, ◌≤◌, List, [], ◌∷◌, ◌++◌, length, refl, sym, ◌∙◌, length-append, arith}
use Rattle.std.proofs.lemmas.List.{get_or_append_left}
use Rattle.std.proofs.Math.Seq.{get_or-append_seam}
use Rattle.task_hop.specs.declared.end.End.TheVariants as end
use Rattle.task_code.specs.declared.code.Instruction.{Instruction}
use Rattle.task_code.specs.declared.code.Instruction.TheVariants as instruction
use Rattle.task_code.specs.Code.{instruction_at}
use Rattle.task_code.specs.Compiled.{Emits}

-- what holds of any code takes none
pub emits_nothing : (old : List Instruction) (Does : List Instruction → Type 0) → ((code : List Instruction) → Does code) → Emits old old Does
emits_nothing old Does does = record { longer = omega arith; kept = λ at inside. refl; does = λ code same. does code }

-- one instruction
pub emits_one : (old : List Instruction) (i : Instruction) → Emits old (old ++ i ∷ []) (λ code. instruction_at code (length old) ≡ i)
emits_one old i = record {
  longer = grind (arith, length-append);
  kept = λ at inside. get_or_append_left old (i ∷ []) (instruction.End end.Finish) at inside;
  does = λ code same.
      let more : length old < length (old ++ i ∷ []) = grind (arith, length-append) in
      same (length old) (omega arith) more ∙ get_or-append_seam old i [] (instruction.End end.Finish);
}

-- one after the other
pub emits_then : (old mid new : List Instruction) (P Q R : List Instruction → Type 0) → Emits old mid P → Emits mid new Q → ((code : List Instruction) → P code → Q code → R code) → Emits old new R
emits_then old mid new P Q R first second both = record {
  longer = omega (arith, first.longer, second.longer);
  kept = λ at inside. second.kept at (omega (arith, inside, first.longer)) ∙ first.kept at inside;
  does = λ code same. both code
      (first.does code (λ at from inside. same at from (omega (arith, inside, second.longer)) ∙ second.kept at inside))
      (second.does code (λ at from inside. same at (omega (arith, from, first.longer)) inside));
}

pub emits_same : (old new : List Instruction) (P Q : List Instruction → Type 0) → Emits old new P → ((code : List Instruction) → P code → Q code) → Emits old new Q
emits_same old new P Q emits map = record { longer = emits.longer; kept = emits.kept; does = λ code same. map code (emits.does code same) }

-- what follows of a value that is there
pub if_ok : {T E : Type 0} (r : Result T E) (P Q : T → Type 0) → IfOk r P → ((x : T) → P x → Q x) → IfOk r Q
if_ok (Ok x) P Q holds map = map x holds
if_ok (Err e) P Q holds map = tt

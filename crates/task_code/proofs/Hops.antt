-- How the hop at an address is gathered.
use Rattle.std.proofs.Common.{◌≡◌, ℕ, zero, suc, ◌+◌, ◌<◌, List, [], ◌∷◌, ◌++◌, length, refl, sym, ap, ◌∙◌, subst, append_assoc, append-nil, length-append, arith}
use Rattle.task_hop.specs.declared.operation.Operation.{Operation}
use Rattle.task_hop.specs.declared.end.End.{End}
use Rattle.task_hop.specs.declared.end.End.TheVariants as end
use Rattle.task_hop.specs.declared.end.Jump.TheVariants as jump
use Rattle.task_hop.specs.declared.hop.Hop.{Hop}
use Rattle.task_code.specs.declared.code.Instruction.{Instruction}
use Rattle.task_code.specs.declared.code.Instruction.TheVariants as instruction
use Rattle.task_code.specs.Code.{instruction_at, with_operation, hop_with, hop_at, hop_from}

abbrev pub behind_front : List Operation → Hop → Hop
behind_front front hop = record hop { operations = record { items = front ++ hop.operations.items } }

-- a hop of these operations and this end
abbrev pub made_of : List Operation → End → Hop
made_of ops e = record { operations = record { items = ops }; end = e }

-- these operations are gathered, and the rest of the hop begins here
pub record IsGathered (code : List Instruction) (at : ℕ) (front : List Operation) (here : ℕ) : Type 0 where
  pub room : ℕ
  pub few : length front + room ≡ 32
  pub same : hop_at code at ≡ behind_front front (hop_from room code here)

pub none_gathered : (code : List Instruction) (at : ℕ) → IsGathered code at [] at
unfolding hop_at
none_gathered code at = record { room = 32; few = refl; same = refl }

module _ (code : List Instruction) (at : ℕ) (front : List Operation) (here : ℕ) where
  with_room : (room : ℕ) → length front + room ≡ 32 → length front < 32 → (r : ℕ) × (room ≡ suc r)
  with_room zero few more = elim (the_bottom few more) [ ] where
    the_bottom : length front + 0 ≡ 32 → length front < 32 → ⊥
    the_bottom few more = omega arith
  with_room (suc r) few more = (r, refl)

  pub one_gathered : (op : Operation) (next : ℕ) → IsGathered code at front here → length front < 32 → instruction_at code here ≡ instruction.Then op next → IsGathered code at (front ++ op ∷ []) next
  one_gathered op next gathered more is = go (with_room gathered.room gathered.few more) where
    go : (r : ℕ) × (gathered.room ≡ suc r) → IsGathered code at (front ++ op ∷ []) next
    go r = record {
      room = r.0;
      few = grind (arith, length-append, gathered.few, r.1);
      same = gathered.same ∙ ap (λ n. behind_front front (hop_from n code here)) r.1
          ∙ ap (λ i. behind_front front (hop_with (hop_from r.0 code) i)) is
          ∙ ap (λ ops. made_of ops (hop_from r.0 code next).end) (sym (append_assoc front (op ∷ []) (hop_from r.0 code next).operations.items));
    }

  pub gathered_end : (e : End) → IsGathered code at front here → length front < 32 → instruction_at code here ≡ instruction.End e → hop_at code at ≡ made_of front e
  gathered_end e gathered more is = go (with_room gathered.room gathered.few more) where
    go : (r : ℕ) × (gathered.room ≡ suc r) → hop_at code at ≡ made_of front e
    go r = gathered.same ∙ ap (λ n. behind_front front (hop_from n code here)) r.1
        ∙ ap (λ i. behind_front front (hop_with (hop_from r.0 code) i)) is
        ∙ ap (λ ops. made_of ops e) (append-nil front)

  pub gathered_full : IsGathered code at front here → length front ≡ 32 → hop_at code at ≡ made_of front (end.Go (jump.To here))
  gathered_full gathered full = let none : gathered.room ≡ 0 = omega (arith, gathered.few) in
      gathered.same ∙ ap (λ n. behind_front front (hop_from n code here)) none ∙ ap (λ ops. made_of ops (end.Go (jump.To here))) (append-nil front)

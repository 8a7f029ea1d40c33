-- Accesses that don't conflict commute: with words, with replaying, and with what a trace settles to.
use Rattle.std.proofs.Common.{◌≡◌, ℕ, ◌<◌, ◌≤◌, ℤ, pos, List, [], ◌∷◌, refl, sym, ap, ◌∙◌, subst, arith, get_or-set_other}
use Rattle.std.proofs.lemmas.List.{set_comm}
use Rattle.nest_syntax.specs.Arrays.{word_at, with_word}
use Rattle.settle_law.specs.Traces.{Access, Read, Write, iteration, Each, apply, settle, Sees, Replays, Conflict, part}
use Rattle.settle_law.proofs.Members.{Has, each_at, each_of, part_has}

pub other_word : (words : List ℤ) (w u : ℕ) (value : ℤ) → (w ≡ u → ⊥) → word_at (with_word words w value) u ≡ word_at words u
other_word words w u value other = get_or-set_other words w u value (pos 0) (λ same. other (sym same))

pub conflict_comm : (a b : Access) → Conflict a b → Conflict b a
conflict_comm (Read j w value) (Read k u other) c = c
conflict_comm (Read j w value) (Write k u other) c = sym c
conflict_comm (Write j w value) (Read k u other) c = sym c
conflict_comm (Write j w value) (Write k u other) c = sym c

pub commute : (words : List ℤ) (a b : Access) → (Conflict a b → ⊥) → apply (apply words a) b ≡ apply (apply words b) a
commute words (Read j w value) (Read k u other) free = refl
commute words (Read j w value) (Write k u other) free = refl
commute words (Write j w value) (Read k u other) free = refl
commute words (Write j w value) (Write k u other) free = set_comm words w u value other free

-- a read sees the same before and behind an access that doesn't conflict with it
pub sees_behind : (words : List ℤ) (a b : Access) → (Conflict a b → ⊥) → Sees words a → Sees (apply words b) a
sees_behind words (Read j w value) (Read k u other) free sees = sees
sees_behind words (Read j w value) (Write k u other) free sees = other_word words u w other (λ same. free (sym same)) ∙ sees
sees_behind words (Write j w value) b free sees = tt

pub sees_before : (words : List ℤ) (a b : Access) → (Conflict a b → ⊥) → Sees (apply words b) a → Sees words a
sees_before words (Read j w value) (Read k u other) free sees = sees
sees_before words (Read j w value) (Write k u other) free sees = sym (other_word words u w other (λ same. free (sym same))) ∙ sees
sees_before words (Write j w value) b free sees = tt

-- no access of the trace conflicts with this one
abbrev pub Clear : Access → List Access → Type 0
Clear a trace = Each (λ b. Conflict a b → ⊥) trace

pub sees_settled : (words : List ℤ) (a : Access) (trace : List Access) → Clear a trace → Sees words a → Sees (settle words trace) a
sees_settled words a [] clear sees = sees
sees_settled words a (b ∷ trace) clear sees = sees_settled (apply words b) a trace clear.1 (sees_behind words a b clear.0 sees)

pub settle_behind : (words : List ℤ) (a : Access) (trace : List Access) → Clear a trace → settle (apply words a) trace ≡ apply (settle words trace) a
settle_behind words a [] clear = refl
settle_behind words a (b ∷ trace) clear = ap (λ x. settle x trace) (commute words a b clear.0) ∙ settle_behind (apply words b) a trace clear.1

pub replays_before : (words : List ℤ) (a : Access) (trace : List Access) → Clear a trace → Replays (apply words a) trace → Replays words trace
replays_before words a [] clear replays = tt
replays_before words a (b ∷ trace) clear replays = (
  sees_before words b a (λ c. clear.0 (conflict_comm b a c)) replays.0,
  replays_before (apply words b) a trace clear.1 (subst (λ x. Replays x trace) (commute words a b clear.0) replays.1),
)

pub replays_behind : (words : List ℤ) (a : Access) (trace : List Access) → Clear a trace → Replays words trace → Replays (apply words a) trace
replays_behind words a [] clear replays = tt
replays_behind words a (b ∷ trace) clear replays = (
  sees_behind words b a (λ c. clear.0 (conflict_comm b a c)) replays.0,
  subst (λ x. Replays x trace) (sym (commute words a b clear.0)) (replays_behind (apply words b) a trace clear.1 replays.1),
)

-- a whole list of accesses that conflict with none of a trace may stand before it
pub replays_behind_all : (words : List ℤ) (made trace : List Access) → Each (λ a. Clear a trace) made → Replays words trace → Replays (settle words made) trace
replays_behind_all words [] trace clear replays = replays
replays_behind_all words (a ∷ made) trace clear replays = replays_behind_all (apply words a) made trace clear.1 (replays_behind words a trace clear.0 replays)

-- in a trace that is in order, an access conflicts with none behind it of a lower iteration
pub clear_part : (m : ℕ) (a : Access) (trace : List Access) → Each (λ b. Conflict a b → iteration a ≤ iteration b) trace → m < iteration a → Clear a (part m trace)
clear_part m a trace leads lower = each_of (λ b. Conflict a b → ⊥) (part m trace) (λ b has c.
    let found : Has b trace = (part_has m b trace has).0 in
    let own : iteration b ≡ m = (part_has m b trace has).1 in
    let le : iteration a ≤ iteration b = each_at (λ x. Conflict a x → iteration a ≤ iteration x) trace b leads found c in
    omega arith)

-- One more access at the end of a trace.
use Rattle.std.proofs.Common.{◌≡◌, ℕ, ◌≤◌, ℤ, Bool, true, false, ◌==◌, List, [], ◌∷◌, ◌++◌, refl, sym, ap, ◌∙◌, append-nil, inl, inr}
use Rattle.nest_syntax.specs.declared.names.Line.{Line}
use Rattle.nest_syntax.specs.declared.operators.Cause.{Cause}
use Rattle.settle_law.specs.Trees.{Tree, Finished, Trapped, Load, Store}
use Rattle.settle_law.specs.Traces.{Access, Read, Write, iteration, Each, apply, settle, Sees, Replays, Conflict, Pairs, InOrder, keep, part, Makes}
use Rattle.settle_law.proofs.Members.{Has, each_at, each_of, each_push, part_own, part_other}
use Rattle.settle_law.proofs.Makings.{makes_append, makes_same}

pub settle_append : (words : List ℤ) (trace others : List Access) → settle words (trace ++ others) ≡ settle (settle words trace) others
settle_append words [] others = refl
settle_append words (a ∷ trace) others = settle_append (apply words a) trace others

pub settle_push : (words : List ℤ) (trace : List Access) (b : Access) → settle words (trace ++ b ∷ []) ≡ apply (settle words trace) b
settle_push words trace b = settle_append words trace (b ∷ [])

pub replays_push : (words : List ℤ) (trace : List Access) (b : Access) → Replays words trace → Sees (settle words trace) b → Replays words (trace ++ b ∷ [])
replays_push words [] b replays sees = (sees, tt)
replays_push words (a ∷ trace) b replays sees = (replays.0, replays_push (apply words a) trace b replays.1 sees)

pub pairs_push : (R : Access → Access → Type 0) (trace : List Access) (b : Access) → Pairs R trace → Each (λ a. R a b) trace → Pairs R (trace ++ b ∷ [])
pairs_push R [] b pairs leads = (tt, tt)
pairs_push R (a ∷ trace) b pairs leads = (each_push (R a) trace b pairs.0 leads.0, pairs_push R trace b pairs.1 leads.1)

pub pairs_map : (R S : Access → Access → Type 0) (trace : List Access) → ((a b : Access) → Has a trace → Has b trace → R a b → S a b) → Pairs R trace → Pairs S trace
pairs_map R S [] all pairs = tt
pairs_map R S (a ∷ trace) all pairs = (each_of (S a) trace (λ b has. all a b (inl refl) (inr has) (each_at (R a) trace b pairs.0 has)), pairs_map R S trace (λ x y has_x has_y. all x y (inr has_x) (inr has_y)) pairs.1)

-- the new access may not conflict with one of a higher iteration before it
pub in_order_push : (trace : List Access) (b : Access) → InOrder trace → Each (λ a. Conflict a b → iteration a ≤ iteration b) trace → InOrder (trace ++ b ∷ [])
in_order_push trace b order leads = pairs_push (λ x y. Conflict x y → iteration x ≤ iteration y) trace b order leads

keep_append : (t : Bool) (a : Access) (trace others : List Access) → keep t a (trace ++ others) ≡ keep t a trace ++ others
keep_append true a trace others = refl
keep_append false a trace others = refl

pub part_append : (k : ℕ) (trace others : List Access) → part k (trace ++ others) ≡ part k trace ++ part k others
part_append k [] others = refl
part_append k (a ∷ trace) others = ap (keep (iteration a == k) a) (part_append k trace others) ∙ keep_append (iteration a == k) a (part k trace) (part k others)

pub part_push_own : (k : ℕ) (trace : List Access) (b : Access) → iteration b ≡ k → part k (trace ++ b ∷ []) ≡ part k trace ++ b ∷ []
part_push_own k trace b own = part_append k trace (b ∷ []) ∙ ap (λ t. part k trace ++ t) (part_own k b [] own)

pub part_push_other : (k : ℕ) (trace : List Access) (b : Access) → (iteration b ≡ k → ⊥) → part k (trace ++ b ∷ []) ≡ part k trace
part_push_other k trace b other = part_append k trace (b ∷ []) ∙ ap (λ t. part k trace ++ t) (part_other k b [] other) ∙ append-nil (part k trace)

-- the tree makes a read more, or a write more
pub makes_read : (tree : Tree) (made : List Access) (w : ℕ) (go : ℤ → Tree) (k : ℕ) (value : ℤ) → Makes tree made (Load w go) → Makes tree (made ++ Read k w value ∷ []) (go value)
makes_read tree made w go k value m = makes_append tree made (Read k w value ∷ []) (Load w go) (go value) m (refl, refl)

pub makes_write : (tree : Tree) (made : List Access) (w : ℕ) (value : ℤ) (rest : Tree) (k : ℕ) → Makes tree made (Store w value rest) → Makes tree (made ++ Write k w value ∷ []) rest
makes_write tree made w value rest k m = makes_append tree made (Write k w value ∷ []) (Store w value rest) rest m (refl, refl, refl)

-- what is left of a tree that still makes something is no end
pub finished_last : (tree : Tree) (made : List Access) (rest : Tree) → Makes tree made Finished → Makes tree made rest → rest ≡ Finished
finished_last tree made rest m n = sym (makes_same tree made Finished rest m n)

pub trapped_last : (tree : Tree) (made : List Access) (cause : Cause) (line : Line) (rest : Tree) → Makes tree made (Trapped cause line) → Makes tree made rest → rest ≡ Trapped cause line
trapped_last tree made cause line rest m n = sym (makes_same tree made (Trapped cause line) rest m n)

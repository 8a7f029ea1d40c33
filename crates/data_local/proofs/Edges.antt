-- Edges of a part of a list, and a search step by step.
use Rattle.std.proofs.Common.{◌≡◌, ◌≢◌, ℕ, zero, suc, ◌+◌, ◌<◌, ◌≤◌, Bool, true, false, ◌||◌, ◌&&◌, ◌==◌, ltb, leb, ◌⊎◌, inl, inr, List, [], ◌∷◌, length, take, drop, get_or, refl, sym, ap, ◌∙◌, arith, eq-eqb, ne_eqb}
use Rattle.std.specs.List.{AllWithin, Any}
use Rattle.std.proofs.lemmas.List.{get_or-take, get_or-drop, take_more, length-take, length-drop, take-append-drop}
use Rattle.std.proofs.lemmas.List.Elements.{All-from_all_within}
use Rattle.std.proofs.lemmas.List.Folds.{list_any-append, list_any_none, Any-from_list_any, list_any_at}
use Rattle.std.specs.List.Sorted.{IsPartitionPoint, IsPermutation}
use Rattle.std.proofs.lemmas.List.Sorted.{list_any-IsPermutation}
use Rattle.std.proofs.lemmas.Bool.{or_left, ltb-true, ltb-false, leb-true, leb-false, eqb-true}
use Rattle.std.proofs.lemmas.Bool.Decides.{eqb_tells, leb_tells}
use Rattle.data_local.specs.declared.reach.Edge.{Edge}
use Rattle.nest_syntax.specs.Among.{is_among}
use Rattle.data_local.specs.Reached.{is_edge, IsReached, start, along, IsGrown, IsSearch}
use Rattle.data_local.proofs.Parts.{either, or_right}

pub or_false : (b : Bool) → (b || false) ≡ b
or_false true = refl
or_false false = refl

pub or_assoc : (a b c : Bool) → ((a || b) || c) ≡ (a || (b || c))
or_assoc true b c = refl
or_assoc false b c = refl

-- no edge before the first that begins at a node, and none behind the last
pub none_before : (edges : List Edge) (node first to : ℕ) → AllWithin (λ (e : Edge). e.from < node) edges 0 first → is_edge (take first edges) node to ≡ false
none_before edges node first to before =
    list_any_none (λ (e : Edge). (e.from == node) && (to == e.to)) (take first edges)
    (All-from_all_within (λ (e : Edge). ((e.from == node) && (to == e.to)) ≡ false) (take first edges) (λ k d low high.
    let there : k < first = omega (arith, length-take first edges) in
    let less : (get_or edges k d).from < node = before k d low there in
    let here : get_or (take first edges) k d ≡ get_or edges k d = get_or-take first edges k d there in
    ap (λ (e : Edge). (e.from == node) && (to == e.to)) here ∙ ap (λ b. b && (to == (get_or edges k d).to)) (ne_eqb (get_or edges k d).from node (omega arith))))

pub none_behind : (edges : List Edge) (node last to : ℕ) → last ≤ length edges → AllWithin (λ (e : Edge). node < e.from) edges last (length edges) → is_edge (drop last edges) node to ≡ false
none_behind edges node last to within behind =
    list_any_none (λ (e : Edge). (e.from == node) && (to == e.to)) (drop last edges)
    (All-from_all_within (λ (e : Edge). ((e.from == node) && (to == e.to)) ≡ false) (drop last edges) (λ k d low high.
    let there : last + k < length edges = omega (arith, length-drop last edges) in
    let more : node < (get_or edges (last + k) d).from = behind (last + k) d (omega arith) there in
    let here : get_or (drop last edges) k d ≡ get_or edges (last + k) d = get_or-drop last edges k d in
    ap (λ (e : Edge). (e.from == node) && (to == e.to)) here ∙ ap (λ b. b && (to == (get_or edges (last + k) d).to)) (ne_eqb (get_or edges (last + k) d).from node (omega arith))))

-- the edges up to the last that begins at a node are all that do
pub all_up_to : (edges : List Edge) (node last to : ℕ) → last ≤ length edges → AllWithin (λ (e : Edge). node < e.from) edges last (length edges) → is_edge (take last edges) node to ≡ is_edge edges node to
all_up_to edges node last to within behind =
    sym (or_false (is_edge (take last edges) node to))
    ∙ ap (λ b. is_edge (take last edges) node to || b) (sym (none_behind edges node last to within behind))
    ∙ sym (list_any-append (λ (e : Edge). (e.from == node) && (to == e.to)) (take last edges) (drop last edges))
    ∙ ap (λ es. is_edge es node to) (take-append-drop last edges)

-- one more edge, which begins at the node
pub one_more : (edges : List Edge) (node i to : ℕ) (d : Edge) → i < length edges → (get_or edges i d).from ≡ node → is_edge (take (i + 1) edges) node to ≡ (is_edge (take i edges) node to || (to == (get_or edges i d).to))
one_more edges node i to d there from =
    ap (λ es. is_edge es node to) (take_more edges i d there)
    ∙ list_any-append (λ (e : Edge). (e.from == node) && (to == e.to)) (take i edges) (get_or edges i d ∷ [])
    ∙ ap (λ b. is_edge (take i edges) node to || b) (or_false (((get_or edges i d).from == node) && (to == (get_or edges i d).to)) ∙ ap (λ b. b && (to == (get_or edges i d).to)) (eq-eqb (get_or edges i d).from node from))

pub grown_same : (found : List ℕ) → IsGrown found found
grown_same found = record { longer = omega arith; same = λ k h. refl }

pub grown_then : (a b c : List ℕ) → IsGrown a b → IsGrown b c → IsGrown a c
grown_then a b c first second = record {
  longer = omega (arith, first.longer, second.longer);
  same = λ k h. second.same k (omega (arith, first.longer)) ∙ first.same k h;
}

-- one more start
pub start_more : (starts : List ℕ) (i node d : ℕ) → i < length starts → is_among (take (i + 1) starts) node ≡ (is_among (take i starts) node || (node == get_or starts i d))
start_more starts i node d there =
    ap (λ ns. is_among ns node) (take_more starts i d there)
    ∙ list_any-append (λ other. node == other) (take i starts) (get_or starts i d ∷ [])
    ∙ ap (λ b. is_among (take i starts) node || b) (or_false (node == get_or starts i d))

pub search_begins : (starts : List ℕ) (edges : List Edge) (found : List ℕ) → ((node : ℕ) → is_among found node ≡ is_among starts node) → IsSearch starts edges found 0
search_begins starts edges found same = record {
  sound = λ node e. start node (sym (same node) ∙ e);
  begun = λ node e. same node ∙ e;
  closed = λ k h. absurd (omega arith);
}

pub search_goes_on : (starts : List ℕ) (edges : List Edge) (old new : List ℕ) (next node : ℕ) → next < length old → get_or old next 0 ≡ node → IsGrown old new
    → ((to : ℕ) → is_among new to ≡ (is_among old to || is_edge edges node to)) → IsSearch starts edges old next → IsSearch starts edges new (next + 1)
search_goes_on starts edges old new next node there is grown more searched =
    let has : is_among old node ≡ true = list_any_at (λ other. node == other) old next 0 there (ap (λ n. node == n) is ∙ eq-eqb node node refl) in
    record {
      sound = λ other e. elim (either (is_among old other) (is_edge edges node other) (sym (more other) ∙ e)) [
        | inl was ↦ searched.sound other was
        | inr led ↦ along node other (searched.sound node has) led
      ];
      begun = λ other e. more other ∙ or_left (is_among old other) (is_edge edges node other) (searched.begun other e);
      closed = λ k h to e. closed_at k to e (earlier_or_last k h);
    }
  where
    earlier_or_last : (k : ℕ) → k < next + 1 → (k < next) ⊎ (k ≡ next)
    earlier_or_last k h = elim (eqb_tells k next) [
      | inl same ↦ inr same.1
      | inr other ↦ let apart : k ≢ next = other.1 in inl (omega arith)
    ]

    closed_at : (k to : ℕ) → is_edge edges (get_or new k 0) to ≡ true → (k < next) ⊎ (k ≡ next) → is_among new to ≡ true
    closed_at k to e (inl earlier) =
        let within : k < length old = omega arith in
        more to ∙ or_left (is_among old to) (is_edge edges node to) (searched.closed k earlier to (ap (λ n. is_edge edges n to) (sym (grown.same k within)) ∙ e))
    closed_at k to e (inr last) =
        let here : get_or new k 0 ≡ node = ap (λ j. get_or new j 0) last ∙ grown.same next there ∙ is in
        more to ∙ or_right (is_among old to) (is_edge edges node to) (ap (λ n. is_edge edges n to) (sym here) ∙ e)

found_from : (edges : List Edge) (found : List ℕ) (next from to : ℕ) → length found ≤ next → ((k : ℕ) → k < next → (node : ℕ) → is_edge edges (get_or found k 0) node ≡ true → is_among found node ≡ true)
    → (k other : ℕ) → k < length found → get_or found k other ≡ other → (from == other) ≡ true → is_edge edges from to ≡ true → is_among found to ≡ true
found_from edges found next from to over closed k other there is same led =
    let here : get_or found k 0 ≡ from = get_or_any found k there 0 other ∙ is ∙ sym (eqb-true from other same) in
    closed k (omega arith) to (ap (λ n. is_edge edges n to) here ∙ led)
  where
    get_or_any : (xs : List ℕ) (k : ℕ) → k < length xs → (d e : ℕ) → get_or xs k d ≡ get_or xs k e
    get_or_any [] k h d e = absurd (omega arith)
    get_or_any (x ∷ xs) zero h d e = refl
    get_or_any (x ∷ xs) (suc k) h d e = get_or_any xs k (omega arith) d e

-- a search that has followed all its nodes has found what is reached
pub all_found : (starts : List ℕ) (edges : List Edge) (found : List ℕ) (next : ℕ) → length found ≤ next → IsSearch starts edges found next → (node : ℕ) → IsReached starts edges node → is_among found node ≡ true
all_found starts edges found next over searched node (start node' h) = searched.begun node' h
all_found starts edges found next over searched node (along from to r e) =
    let place : Any (λ other. (from == other) ≡ true) found = Any-from_list_any (λ other. from == other) found (all_found starts edges found next over searched from r) in
    found_from edges found next from to over searched.closed place.0 place.1 place.2 place.3 place.4 e

-- the edges from `first` up to below `behind` begin at a node, those before at lower ones, those behind at higher ones
pub record Between (edges : List Edge) (node first behind : ℕ) : Type 0 where
  pub lower : AllWithin (λ (e : Edge). e.from < node) edges 0 first
  pub here : (k : ℕ) (d : Edge) → first ≤ k → k < behind → (get_or edges k d).from ≡ node
  pub higher : AllWithin (λ (e : Edge). node < e.from) edges behind (length edges)
  pub ordered : first ≤ behind

pub between : (edges : List Edge) (node first behind : ℕ) → first ≤ length edges → behind ≤ length edges
    → IsPartitionPoint (λ (e : Edge). ltb e.from node ≡ true) (λ (e : Edge). ltb e.from node ≡ false) edges first
    → IsPartitionPoint (λ (e : Edge). leb e.from node ≡ true) (λ (e : Edge). leb e.from node ≡ false) edges behind
    → Between edges node first behind
between edges node first behind first_within behind_within at_first at_behind = record {
  lower = λ k d low h. below k d h;
  here = λ k d low h.
      let least : node ≤ (get_or edges k d).from = ltb-false (get_or edges k d).from node (at_first.1 k d low (omega arith)) in
      let most : (get_or edges k d).from ≤ node = leb-true (get_or edges k d).from node (at_behind.0 k d (omega arith) h) in
      omega arith;
  higher = λ k d low h. above k d low h;
  ordered = ordered_by (leb_tells first behind);
}
  where
    below : (k : ℕ) (d : Edge) → k < first → (get_or edges k d).from < node
    below k d h = ltb-true (get_or edges k d).from node (at_first.0 k d (omega arith) h)

    above : (k : ℕ) (d : Edge) → behind ≤ k → k < length edges → node < (get_or edges k d).from
    above k d low h = leb-false (get_or edges k d).from node (at_behind.1 k d low h)

    ordered_by : ((leb first behind ≡ true) × (first ≤ behind)) ⊎ ((leb first behind ≡ false) × (behind < first)) → first ≤ behind
    ordered_by (inl h) = h.1
    ordered_by (inr h) =
        let none : Edge = record { from = 0; to = 0 } in
        let less : (get_or edges behind none).from < node = below behind none h.1 in
        let more : node < (get_or edges behind none).from = above behind none (omega arith) (omega (arith, h.1)) in
        absurd (omega arith)

-- the order of the edges doesn't matter
pub reached_by_same : (starts : List ℕ) (some others : List Edge) → IsPermutation some others → (node : ℕ) → IsReached starts some node → IsReached starts others node
reached_by_same starts some others moved node (start node' h) = start node' h
reached_by_same starts some others moved node (along from to r e) =
    along from to (reached_by_same starts some others moved from r) (sym (list_any-IsPermutation (λ (d : Edge). (d.from == from) && (to == d.to)) some others moved) ∙ e)

-- What is reached in the graph of the rows of a body is exactly its data locals.
use Rattle.std.proofs.Common.{◌≡◌, ◌≢◌, ℕ, suc, ◌≤◌, ◌==◌, Bool, true, false, ◌||◌, ◌&&◌, if◌then◌else◌, IsTrue, ◌↔◌, ◌⊎◌, inl, inr, List, [], ◌∷◌, length, reverse, refl, sym, ap, ◌∙◌, subst, arith, eq-eqb, ne_eqb}
use Rattle.std.specs.List.{flat_map}
use Rattle.std.proofs.lemmas.Bool.{eqb-true, false≢true}
use Rattle.std.proofs.lemmas.Bool.Decides.{eqb_tells}
use Rattle.std.proofs.lemmas.List.Folds.{list_any-append}
use Rattle.nest_syntax.specs.declared.tree.Expr.{Expr}
use Rattle.nest_syntax.specs.declared.tree.Stmt.{Stmt}
use Rattle.nest_syntax.specs.Arrays.{Array}
use Rattle.nest_syntax.specs.Value.{names_written}
use Rattle.data_local.specs.declared.reach.Edge.{Edge}
use Rattle.nest_syntax.specs.Among.{is_among, IsOne}
use Rattle.data_local.specs.Reached.{is_edge, IsReached, start, along}
use Rattle.data_local.specs.declared.rows.Row.{Row}
use Rattle.data_local.specs.declared.rows.Row.TheVariants as row
use Rattle.data_local.specs.Names.{scalars_in}
use Rattle.data_local.specs.Givings.{Giving, givings}
use Rattle.data_local.specs.DataLocals.{IsGivenData, IsDataLocal, by_array, by_local}
use Rattle.data_local.specs.Rows.{tests_at, told, IsBuilt, node_of_name, node_of_test, edges_from, edges_to, row_edges, start_of, row_starts}
use Rattle.data_local.proofs.Parts.{either, or_left, or_right, both_left, both_right, any_reverse, one_left, one_right, one_parts}

-- an edge from a name in an expression
from_name : (to : ℕ) (names : List ℕ) (u v : ℕ) → is_edge (edges_from to names) u v ≡ true → (v ≡ to) × (name : ℕ) × (u ≡ node_of_name name) × (is_among names name ≡ true)
from_name to [] u v e = absurd cc
from_name to (name ∷ names) u v e = by_either (λ later. from_name to names u v later) (either ((node_of_name name == u) && (v == to)) (is_edge (edges_from to names) u v) e)
  where
    by_either : (is_edge (edges_from to names) u v ≡ true → (v ≡ to) × (other : ℕ) × (u ≡ node_of_name other) × (is_among names other ≡ true))
        → (((node_of_name name == u) && (v == to)) ≡ true) ⊎ (is_edge (edges_from to names) u v ≡ true) → (v ≡ to) × (other : ℕ) × (u ≡ node_of_name other) × (is_among (name ∷ names) other ≡ true)
    by_either go (inl here) =
        (eqb-true v to (both_right (node_of_name name == u) (v == to) here), name, sym (eqb-true (node_of_name name) u (both_left (node_of_name name == u) (v == to) here)), or_left (name == name) (is_among names name) (eq-eqb name name refl))
    by_either go (inr later) =
        let rest = go later in
        (rest.0, rest.1, rest.2, or_right (rest.1 == name) (is_among names rest.1) rest.3)

to_node : (to : ℕ) (names : List ℕ) (name : ℕ) → is_among names name ≡ true → is_edge (edges_from to names) (node_of_name name) to ≡ true
to_node to [] name e = e
to_node to (first ∷ names) name e = by_either (λ later. to_node to names name later) (either (name == first) (is_among names name) e)
  where
    by_either : (is_among names name ≡ true → is_edge (edges_from to names) (node_of_name name) to ≡ true) → ((name == first) ≡ true) ⊎ (is_among names name ≡ true) → (((node_of_name first == node_of_name name) && (to == to)) || is_edge (edges_from to names) (node_of_name name) to) ≡ true
    by_either go (inl here) =
        let same : node_of_name first ≡ node_of_name name = ap node_of_name (sym (eqb-true name first here)) in
        or_left ((node_of_name first == node_of_name name) && (to == to)) (is_edge (edges_from to names) (node_of_name name) to)
        (ap (λ b. b && (to == to)) (eq-eqb (node_of_name first) (node_of_name name) same) ∙ eq-eqb to to refl)
    by_either go (inr later) = or_right ((node_of_name first == node_of_name name) && (to == to)) (is_edge (edges_from to names) (node_of_name name) to) (go later)

-- the edges to a node, both ways
edge_from : (to : ℕ) (e : Expr) (under u v : ℕ) → is_edge (edges_to to e under) u v ≡ true
    → (v ≡ to) × (((name : ℕ) × (u ≡ node_of_name name) × (is_among (scalars_in e) name ≡ true)) ⊎ (u ≡ node_of_test under))
edge_from to e under u v h = by_either (either (is_edge (edges_from to (scalars_in e)) u v) (((node_of_test under == u) && (v == to)) || false) (sym (list_any-append (λ (d : Edge). (d.from == u) && (v == d.to)) (edges_from to (scalars_in e)) (record { from = node_of_test under; to = to } ∷ [])) ∙ h))
  where
    by_either : is_edge (edges_from to (scalars_in e)) u v ≡ true ⊎ (((node_of_test under == u) && (v == to)) || false) ≡ true
        → (v ≡ to) × (((name : ℕ) × (u ≡ node_of_name name) × (is_among (scalars_in e) name ≡ true)) ⊎ (u ≡ node_of_test under))
    by_either (inl named) = let here = from_name to (scalars_in e) u v named in (here.0, inl (here.1, here.2, here.3))
    by_either (inr tested) =
        let here : ((node_of_test under == u) && (v == to)) ≡ true = by_false (either ((node_of_test under == u) && (v == to)) false tested) in
        (eqb-true v to (both_right (node_of_test under == u) (v == to) here), inr (sym (eqb-true (node_of_test under) u (both_left (node_of_test under == u) (v == to) here))))
      where
        by_false : (((node_of_test under == u) && (v == to)) ≡ true) ⊎ (false ≡ true) → ((node_of_test under == u) && (v == to)) ≡ true
        by_false (inl h) = h
        by_false (inr h) = absurd cc

edge_of_name : (to : ℕ) (e : Expr) (under name : ℕ) → is_among (scalars_in e) name ≡ true → is_edge (edges_to to e under) (node_of_name name) to ≡ true
edge_of_name to e under name h =
    list_any-append (λ (d : Edge). (d.from == node_of_name name) && (to == d.to)) (edges_from to (scalars_in e)) (record { from = node_of_test under; to = to } ∷ [])
    ∙ or_left (is_edge (edges_from to (scalars_in e)) (node_of_name name) to) (((node_of_test under == node_of_name name) && (to == to)) || false) (to_node to (scalars_in e) name h)

edge_of_test : (to : ℕ) (e : Expr) (under : ℕ) → is_edge (edges_to to e under) (node_of_test under) to ≡ true
edge_of_test to e under =
    list_any-append (λ (d : Edge). (d.from == node_of_test under) && (to == d.to)) (edges_from to (scalars_in e)) (record { from = node_of_test under; to = to } ∷ [])
    ∙ or_right (is_edge (edges_from to (scalars_in e)) (node_of_test under) to) (((node_of_test under == node_of_test under) && (to == to)) || false)
    (or_left ((node_of_test under == node_of_test under) && (to == to)) false (ap (λ b. b && (to == to)) (eq-eqb (node_of_test under) (node_of_test under) refl) ∙ eq-eqb to to refl))

start_here : (arrays : List Array) (to : ℕ) (e : Expr) (v : ℕ) → is_among (start_of arrays to e) v ≡ true → (v ≡ to) × (names_written arrays e ≡ true)
start_here arrays to e v h = by_written (names_written arrays e) refl h
  where
    by_written : (b : Bool) → names_written arrays e ≡ b → is_among (if b then to ∷ [] else []) v ≡ true → (v ≡ to) × (names_written arrays e ≡ true)
    by_written true is h = elim (either (v == to) false h) [ inl same ↦ (eqb-true v to same, is) | inr wrong ↦ absurd (false≢true wrong) ]
    by_written false is h = absurd cc

start_at : (arrays : List Array) (to : ℕ) (e : Expr) → names_written arrays e ≡ true → is_among (start_of arrays to e) to ≡ true
start_at arrays to e h = ap (λ b. is_among (if b then to ∷ [] else []) to) h ∙ or_left (to == to) false (eq-eqb to to refl)

-- whether an expression names a written array, or a name with P
abbrev Hits : List Array → (ℕ → Type 0) → Expr → Type 0
Hits arrays P e = (names_written arrays e ≡ true) ⊎ ((name : ℕ) × (is_among (scalars_in e) name ≡ true) × P name)

-- what a node that is reached means
record Means (arrays : List Array) (rows : List Row) (v : ℕ) : Type 0 where
  of_name : (n : ℕ) → v ≡ node_of_name n → IsGivenData arrays (told rows) n
  of_test : (k : ℕ) → v ≡ node_of_test k → (e : Expr) × IsOne (tests_at rows k) e × Hits arrays (IsGivenData arrays (told rows)) e

-- the rows up to some row, within all of them
record Begins (rows all : List Row) : Type 0 where
  stable : (k : ℕ) → k ≤ length rows → tests_at all k ≡ tests_at rows k
  kept : (g : Giving) → IsOne (told rows) g → IsOne (told all) g

begins_all : (rows : List Row) → Begins rows rows
begins_all rows = record { stable = λ k h. refl; kept = λ g h. h }

begins_before : (one : Row) (rows all : List Row) → IsBuilt (one ∷ rows) → Begins (one ∷ rows) all → Begins rows all
begins_before (row.Test number test under) rows all built begins = record {
  stable = λ k h.
      let apart : k ≢ number = omega (arith, built.0) in
      begins.stable k (omega arith) ∙ ap (λ b. if b then test.now ∷ tests_at rows under else tests_at rows k) (ne_eqb k number apart);
  kept = begins.kept;
}
begins_before (row.Gives name value under) rows all built begins = record {
  stable = λ k h. begins.stable k (omega arith);
  kept = λ g h. begins.kept g (one_left (told rows) (record { name = name; depends = value.now ∷ tests_at rows under } ∷ []) g h);
}

built_before : (one : Row) (rows : List Row) → IsBuilt (one ∷ rows) → IsBuilt rows
built_before (row.Test number test under) rows built = built.2
built_before (row.Gives name value under) rows built = built.1

-- A row whose expression hits, or that stands under a test that does, is data.
giving_means : (arrays : List Array) (all rows : List Row) (name : ℕ) (value : _) (under : ℕ) → Begins (row.Gives name value under ∷ rows) all
    → (e : Expr) → IsOne (value.now ∷ tests_at rows under) e → Hits arrays (IsGivenData arrays (told all)) e → Means arrays all (node_of_name name)
giving_means arrays all rows name value under begins e dep hit = record {
  of_name = λ n same.
      let equal : name ≡ n = omega arith in
      subst (IsGivenData arrays (told all)) equal (by_hit hit);
  of_test = λ k same. absurd (omega arith);
}
  where
    by_hit : Hits arrays (IsGivenData arrays (told all)) e → IsGivenData arrays (told all) name
    by_hit (inl written) = by_array (record { name = name; depends = value.now ∷ tests_at rows under }) e (begins.kept (record { name = name; depends = value.now ∷ tests_at rows under }) (one_right (told rows) (record { name = name; depends = value.now ∷ tests_at rows under } ∷ []) (record { name = name; depends = value.now ∷ tests_at rows under }) (inl refl))) dep written
    by_hit (inr local) = by_local (record { name = name; depends = value.now ∷ tests_at rows under }) e local.0 (begins.kept (record { name = name; depends = value.now ∷ tests_at rows under }) (one_right (told rows) (record { name = name; depends = value.now ∷ tests_at rows under } ∷ []) (record { name = name; depends = value.now ∷ tests_at rows under }) (inl refl))) dep local.1 local.2

test_means : (arrays : List Array) (all rows : List Row) (number : ℕ) (test : _) (under : ℕ) → number ≡ suc (length rows) → Begins (row.Test number test under ∷ rows) all
    → (e : Expr) → IsOne (test.now ∷ tests_at rows under) e → Hits arrays (IsGivenData arrays (told all)) e → Means arrays all (node_of_test number)
test_means arrays all rows number test under numbered begins e dep hit = record {
  of_name = λ n same. absurd (omega arith);
  of_test = λ k same.
      let equal : k ≡ number = omega arith in
      let here : tests_at all k ≡ test.now ∷ tests_at rows under =
      begins.stable k (omega arith) ∙ ap (λ b. if b then test.now ∷ tests_at rows under else tests_at rows k) (eq-eqb k number equal) in
      (e, subst (λ ts. IsOne ts e) (sym here) dep, hit);
}

-- an edge to a row from a node that means something
edge_hits : (arrays : List Array) (all rows : List Row) (to : ℕ) (e : Expr) (under u v : ℕ) → under ≤ length rows → Begins rows all
    → is_edge (edges_to to e under) u v ≡ true → Means arrays all u → (v ≡ to) × (d : Expr) × IsOne (e ∷ tests_at rows under) d × Hits arrays (IsGivenData arrays (told all)) d
edge_hits arrays all rows to e under u v within begins h means = by_source (edge_from to e under u v h)
  where
    by_source : (v ≡ to) × (((name : ℕ) × (u ≡ node_of_name name) × (is_among (scalars_in e) name ≡ true)) ⊎ (u ≡ node_of_test under))
        → (v ≡ to) × (d : Expr) × IsOne (e ∷ tests_at rows under) d × Hits arrays (IsGivenData arrays (told all)) d
    by_source (same, inl named) = (same, e, inl refl, inr (named.0, named.2, means.of_name named.0 named.1))
    by_source (same, inr tested) =
        let at = means.of_test under tested in
        (same, at.0, inr (subst (λ ts. IsOne ts at.0) (begins.stable under within) at.1), at.2)

edge_means : (arrays : List Array) (all rows : List Row) → IsBuilt rows → Begins rows all → (u v : ℕ) → is_edge (flat_map row_edges rows) u v ≡ true → Means arrays all u → Means arrays all v
edge_means arrays all [] built begins u v e means = absurd cc
edge_means arrays all (row.Test number test under ∷ rows) built begins u v e means =
    elim (either (is_edge (edges_to (node_of_test number) test.now under) u v) (is_edge (flat_map row_edges rows) u v) (sym (list_any-append (λ (d : Edge). (d.from == u) && (v == d.to)) (edges_to (node_of_test number) test.now under) (flat_map row_edges rows)) ∙ e)) [
      | inl here ↦
          let at = edge_hits arrays all rows (node_of_test number) test.now under u v built.1 (begins_before (row.Test number test under) rows all built begins) here means in
          subst (Means arrays all) (sym at.0) (test_means arrays all rows number test under built.0 begins at.1 at.2 at.3)
      | inr later ↦ edge_means arrays all rows built.2 (begins_before (row.Test number test under) rows all built begins) u v later means
    ]
edge_means arrays all (row.Gives name value under ∷ rows) built begins u v e means =
    elim (either (is_edge (edges_to (node_of_name name) value.now under) u v) (is_edge (flat_map row_edges rows) u v) (sym (list_any-append (λ (d : Edge). (d.from == u) && (v == d.to)) (edges_to (node_of_name name) value.now under) (flat_map row_edges rows)) ∙ e)) [
      | inl here ↦
          let at = edge_hits arrays all rows (node_of_name name) value.now under u v built.0 (begins_before (row.Gives name value under) rows all built begins) here means in
          subst (Means arrays all) (sym at.0) (giving_means arrays all rows name value under begins at.1 at.2 at.3)
      | inr later ↦ edge_means arrays all rows built.1 (begins_before (row.Gives name value under) rows all built begins) u v later means
    ]

start_means : (arrays : List Array) (all rows : List Row) → IsBuilt rows → Begins rows all → (v : ℕ) → is_among (flat_map (row_starts arrays) rows) v ≡ true → Means arrays all v
start_means arrays all [] built begins v e = absurd cc
start_means arrays all (row.Test number test under ∷ rows) built begins v e =
    elim (either (is_among (start_of arrays (node_of_test number) test.now) v) (is_among (flat_map (row_starts arrays) rows) v) (sym (list_any-append (λ other. v == other) (start_of arrays (node_of_test number) test.now) (flat_map (row_starts arrays) rows)) ∙ e)) [
      | inl here ↦
          let at = start_here arrays (node_of_test number) test.now v here in
          subst (Means arrays all) (sym at.0) (test_means arrays all rows number test under built.0 begins test.now (inl refl) (inl at.1))
      | inr later ↦ start_means arrays all rows built.2 (begins_before (row.Test number test under) rows all built begins) v later
    ]
start_means arrays all (row.Gives name value under ∷ rows) built begins v e =
    elim (either (is_among (start_of arrays (node_of_name name) value.now) v) (is_among (flat_map (row_starts arrays) rows) v) (sym (list_any-append (λ other. v == other) (start_of arrays (node_of_name name) value.now) (flat_map (row_starts arrays) rows)) ∙ e)) [
      | inl here ↦
          let at = start_here arrays (node_of_name name) value.now v here in
          subst (Means arrays all) (sym at.0) (giving_means arrays all rows name value under begins value.now (inl refl) (inl at.1))
      | inr later ↦ start_means arrays all rows built.1 (begins_before (row.Gives name value under) rows all built begins) v later
    ]

sound : (arrays : List Array) (rows : List Row) (starts : List ℕ) (edges : List Edge) → IsBuilt rows
    → ((v : ℕ) → is_among starts v ≡ true → is_among (flat_map (row_starts arrays) rows) v ≡ true)
    → ((u v : ℕ) → is_edge edges u v ≡ true → is_edge (flat_map row_edges rows) u v ≡ true)
    → (v : ℕ) → IsReached starts edges v → Means arrays rows v
sound arrays rows starts edges built of_starts of_edges v (start v' h) = start_means arrays rows rows built (begins_all rows) v' (of_starts v' h)
sound arrays rows starts edges built of_starts of_edges v (along u v' r h) =
    edge_means arrays rows rows built (begins_all rows) u v' (of_edges u v' h) (sound arrays rows starts edges built of_starts of_edges u r)

-- the starts and the edges of the rows are among those of the graph
record Drawn (arrays : List Array) (rows : List Row) (starts : List ℕ) (edges : List Edge) : Type 0 where
  of_starts : (v : ℕ) → is_among (flat_map (row_starts arrays) rows) v ≡ true → is_among starts v ≡ true
  of_edges : (u v : ℕ) → is_edge (flat_map row_edges rows) u v ≡ true → is_edge edges u v ≡ true

drawn_before : (arrays : List Array) (one : Row) (rows : List Row) (starts : List ℕ) (edges : List Edge) → Drawn arrays (one ∷ rows) starts edges → Drawn arrays rows starts edges
drawn_before arrays one rows starts edges drawn = record {
  of_starts = λ v h. drawn.of_starts v (list_any-append (λ other. v == other) (row_starts arrays one) (flat_map (row_starts arrays) rows) ∙ or_right (is_among (row_starts arrays one) v) (is_among (flat_map (row_starts arrays) rows) v) h);
  of_edges = λ u v h. drawn.of_edges u v (list_any-append (λ (d : Edge). (d.from == u) && (v == d.to)) (row_edges one) (flat_map row_edges rows) ∙ or_right (is_edge (row_edges one) u v) (is_edge (flat_map row_edges rows) u v) h);
}

drawn_edge : (arrays : List Array) (one : Row) (rows : List Row) (starts : List ℕ) (edges : List Edge) → Drawn arrays (one ∷ rows) starts edges → (u v : ℕ) → is_edge (row_edges one) u v ≡ true → is_edge edges u v ≡ true
drawn_edge arrays one rows starts edges drawn u v h = drawn.of_edges u v (list_any-append (λ (d : Edge). (d.from == u) && (v == d.to)) (row_edges one) (flat_map row_edges rows) ∙ or_left (is_edge (row_edges one) u v) (is_edge (flat_map row_edges rows) u v) h)

drawn_start : (arrays : List Array) (one : Row) (rows : List Row) (starts : List ℕ) (edges : List Edge) → Drawn arrays (one ∷ rows) starts edges → (v : ℕ) → is_among (row_starts arrays one) v ≡ true → is_among starts v ≡ true
drawn_start arrays one rows starts edges drawn v h = drawn.of_starts v (list_any-append (λ other. v == other) (row_starts arrays one) (flat_map (row_starts arrays) rows) ∙ or_left (is_among (row_starts arrays one) v) (is_among (flat_map (row_starts arrays) rows) v) h)

abbrev Reaches : List ℕ → List Edge → ℕ → Type 0
Reaches starts edges name = IsReached starts edges (node_of_name name)

-- a row whose expression hits is reached
hit_reached : (arrays : List Array) (starts : List ℕ) (edges : List Edge) (to : ℕ) (e : Expr) (under : ℕ)
    → ((v : ℕ) → is_among (start_of arrays to e) v ≡ true → is_among starts v ≡ true) → ((u v : ℕ) → is_edge (edges_to to e under) u v ≡ true → is_edge edges u v ≡ true)
    → Hits arrays (Reaches starts edges) e → IsReached starts edges to
hit_reached arrays starts edges to e under of_start of_edge (inl written) = start to (of_start to (start_at arrays to e written))
hit_reached arrays starts edges to e under of_start of_edge (inr local) = along (node_of_name local.0) to local.2 (of_edge (node_of_name local.0) to (edge_of_name to e under local.0 local.1))

test_reached : (arrays : List Array) (rows : List Row) (starts : List ℕ) (edges : List Edge) → Drawn arrays rows starts edges
    → (k : ℕ) (e : Expr) → IsOne (tests_at rows k) e → Hits arrays (Reaches starts edges) e → IsReached starts edges (node_of_test k)
test_reached arrays [] starts edges drawn k e one hit = absurd one
test_reached arrays (row.Gives name value under ∷ rows) starts edges drawn k e one hit = test_reached arrays rows starts edges (drawn_before arrays (row.Gives name value under) rows starts edges drawn) k e one hit
test_reached arrays (row.Test number test under ∷ rows) starts edges drawn k e one hit = by_number (λ j d here there. test_reached arrays rows starts edges (drawn_before arrays (row.Test number test under) rows starts edges drawn) j d here there) (eqb_tells k number) one
  where
    by_place : ((j : ℕ) (d : Expr) → IsOne (tests_at rows j) d → Hits arrays (Reaches starts edges) d → IsReached starts edges (node_of_test j)) → (e ≡ test.now) ⊎ IsOne (tests_at rows under) e → IsReached starts edges (node_of_test number)
    by_place go (inl same) =
        hit_reached arrays starts edges (node_of_test number) test.now under (drawn_start arrays (row.Test number test under) rows starts edges drawn) (drawn_edge arrays (row.Test number test under) rows starts edges drawn)
        (subst (Hits arrays (Reaches starts edges)) same hit)
    by_place go (inr later) =
        along (node_of_test under) (node_of_test number) (go under e later hit)
        (drawn_edge arrays (row.Test number test under) rows starts edges drawn (node_of_test under) (node_of_test number) (edge_of_test (node_of_test number) test.now under))

    by_number : ((j : ℕ) (d : Expr) → IsOne (tests_at rows j) d → Hits arrays (Reaches starts edges) d → IsReached starts edges (node_of_test j)) → (((k == number) ≡ true) × (k ≡ number)) ⊎ (((k == number) ≡ false) × (k ≢ number)) → IsOne (if k == number then test.now ∷ tests_at rows under else tests_at rows k) e → IsReached starts edges (node_of_test k)
    by_number go (inl same) h =
        subst (λ j. IsReached starts edges (node_of_test j)) (sym same.1) (by_place go (subst (λ b. IsOne (if b then test.now ∷ tests_at rows under else tests_at rows k) e) same.0 h))
    by_number go (inr apart) h = go k e (subst (λ b. IsOne (if b then test.now ∷ tests_at rows under else tests_at rows k) e) apart.0 h) hit

giving_reached : (arrays : List Array) (rows : List Row) (starts : List ℕ) (edges : List Edge) → Drawn arrays rows starts edges
    → (g : Giving) (e : Expr) → IsOne (told rows) g → IsOne g.depends e → Hits arrays (Reaches starts edges) e → IsReached starts edges (node_of_name g.name)
giving_reached arrays [] starts edges drawn g e one dep hit = absurd one
giving_reached arrays (row.Test number test under ∷ rows) starts edges drawn g e one dep hit = giving_reached arrays rows starts edges (drawn_before arrays (row.Test number test under) rows starts edges drawn) g e one dep hit
giving_reached arrays (row.Gives name value under ∷ rows) starts edges drawn g e one dep hit =
    by_part (λ earlier. giving_reached arrays rows starts edges (drawn_before arrays (row.Gives name value under) rows starts edges drawn) g e earlier dep hit) (one_parts (told rows) (record { name = name; depends = value.now ∷ tests_at rows under } ∷ []) g one)
  where
    before : Drawn arrays rows starts edges
    before = drawn_before arrays (row.Gives name value under) rows starts edges drawn

    by_place : (e ≡ value.now) ⊎ IsOne (tests_at rows under) e → IsReached starts edges (node_of_name name)
    by_place (inl same) =
        hit_reached arrays starts edges (node_of_name name) value.now under (drawn_start arrays (row.Gives name value under) rows starts edges drawn) (drawn_edge arrays (row.Gives name value under) rows starts edges drawn)
        (subst (Hits arrays (Reaches starts edges)) same hit)
    by_place (inr later) =
        along (node_of_test under) (node_of_name name) (test_reached arrays rows starts edges before under e later hit)
        (drawn_edge arrays (row.Gives name value under) rows starts edges drawn (node_of_test under) (node_of_name name) (edge_of_test (node_of_name name) value.now under))

    by_part : (IsOne (told rows) g → IsReached starts edges (node_of_name g.name)) → IsOne (told rows) g ⊎ IsOne (record { name = name; depends = value.now ∷ tests_at rows under } ∷ []) g → IsReached starts edges (node_of_name g.name)
    by_part go (inl earlier) = go earlier
    by_part go (inr (inl same)) =
        subst (λ (h : Giving). IsReached starts edges (node_of_name h.name)) (sym same) (by_place (subst (λ (h : Giving). IsOne h.depends e) same dep))
    by_part go (inr (inr none)) = absurd none

complete : (arrays : List Array) (rows : List Row) (starts : List ℕ) (edges : List Edge) → Drawn arrays rows starts edges → (name : ℕ) → IsGivenData arrays (told rows) name → Reaches starts edges name
complete arrays rows starts edges drawn name (by_array g e one dep written) = giving_reached arrays rows starts edges drawn g e one dep (inl written)
complete arrays rows starts edges drawn name (by_local g e other one dep named local) =
    giving_reached arrays rows starts edges drawn g e one dep (inr (other, named, complete arrays rows starts edges drawn other local))

pub reached_are : (arrays : List Array) (body : List Stmt) (rows : List Row) (starts : List ℕ) (edges : List Edge) (nodes : List ℕ)
    → told (reverse rows) ≡ givings body → IsBuilt (reverse rows) → starts ≡ flat_map (row_starts arrays) rows → edges ≡ flat_map row_edges rows
    → ((v : ℕ) → IsTrue (is_among nodes v) ↔ IsReached starts edges v) → (name : ℕ) → IsTrue (is_among nodes (node_of_name name)) ↔ IsDataLocal arrays body name
reached_are arrays body rows starts edges nodes tells built starts_are edges_are found name = (
  (λ h. subst (λ gs. IsGivenData arrays gs name) tells ((sound arrays (reverse rows) starts edges built into_starts into_edges (node_of_name name) ((found (node_of_name name)).0 h)).of_name name refl)),
  (λ h. (found (node_of_name name)).1 (complete arrays (reverse rows) starts edges drawn name (subst (λ gs. IsGivenData arrays gs name) (sym tells) h))),
)
  where
    same_starts : (v : ℕ) → is_among starts v ≡ is_among (flat_map (row_starts arrays) (reverse rows)) v
    same_starts v = ap (λ ns. is_among ns v) starts_are ∙ any_reverse (λ other. v == other) (row_starts arrays) rows

    same_edges : (u v : ℕ) → is_edge edges u v ≡ is_edge (flat_map row_edges (reverse rows)) u v
    same_edges u v = ap (λ es. is_edge es u v) edges_are ∙ any_reverse (λ (d : Edge). (d.from == u) && (v == d.to)) row_edges rows

    into_starts : (v : ℕ) → is_among starts v ≡ true → is_among (flat_map (row_starts arrays) (reverse rows)) v ≡ true
    into_starts v h = sym (same_starts v) ∙ h

    into_edges : (u v : ℕ) → is_edge edges u v ≡ true → is_edge (flat_map row_edges (reverse rows)) u v ≡ true
    into_edges u v h = sym (same_edges u v) ∙ h

    drawn : Drawn arrays (reverse rows) starts edges
    drawn = record { of_starts = λ v h. same_starts v ∙ h; of_edges = λ u v h. same_edges u v ∙ h }

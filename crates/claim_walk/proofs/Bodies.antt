-- What the rules on bounds say of the loops in a body of a program.
use Rattle.std.proofs.Common.{◌≡◌, ℕ, ℤ, Bool, true, false, if◌then◌else◌, List, [], ◌∷◌, ◌++◌, map, filter, refl, sym, ap, ◌∙◌, subst, ◌⊎◌, inl, inr, append-nil}
use Rattle.std.specs.List.{flat_map}
use Rattle.nest_syntax.specs.declared.tree.Arm.{Arm}
use Rattle.nest_syntax.specs.declared.tree.Loop.{Loop}
use Rattle.nest_syntax.specs.declared.tree.Stmt.{Stmt}
use Rattle.nest_syntax.specs.declared.tree.Stmt.TheVariants as stmt
use Rattle.nest_syntax.specs.declared.tree.Program.{Program}
use Rattle.nest_syntax.specs.Among.{Each, IsOne, is_among}
use Rattle.nest_syntax.specs.Arrays.{arrays_of}
use Rattle.nest_syntax.specs.Lowest.{lines_where}
use Rattle.nest_syntax.specs.Shape.{Body, bodies_of}
use Rattle.nest_syntax.proofs.Inductions.{stmt_induction, each_both}
use Rattle.data_local.specs.Names.{scalars_in}
use Rattle.data_local.specs.DataLocals.{AreDataLocals}
use Rattle.data_local.specs.Bodies.{bodies_in_item, bodies_in_items}
use Rattle.data_local.specs.Loops.{loops, loops_in, loops_in_arm, loops_of, line_of}
use Rattle.data_local.proofs.Gathers.{loops-if, loops-loop, loops_in_arm-is}
use Rattle.data_local.proofs.BodyNodes.{bodies-declare, bodies-assign, bodies-write, bodies-if, bodies-loop, bodies_in_regions}
use Rattle.data_local.proofs.Parts.{one_left, one_right}
use Rattle.nest_check.specs.ChangedBounds.{changes_its_bound, changes_one, arrays_in}
use Rattle.nest_check.specs.Kept.{KeepsRules}
use Rattle.claim_walk.proofs.Slices.{or_none}
use Rattle.claim_walk.proofs.Ruled.{Bounded}

-- the loops of each body among these statements are loops of theirs
abbrev pub Within : List Loop → List Stmt → Type 0
Within all body = (l : Loop) → IsOne (loops_in body) l → IsOne all l

abbrev pub AllWithin : List Loop → List (List Stmt) → Type 0
AllWithin all bodies = Each (Within all) bodies

within_more : (all more : List Loop) (bodies : List (List Stmt)) → ((l : Loop) → IsOne all l → IsOne more l) → AllWithin all bodies → AllWithin more bodies
within_more all more [] into each = tt
within_more all more (b ∷ bodies) into each = (λ l one. into l (each.0 l one), within_more all more bodies into each.1)

abbrev StmtWithin : Stmt → Type 0
StmtWithin s = AllWithin (loops s) (bodies_in_item s)

block_within : (stmts : List Stmt) → Each StmtWithin stmts → AllWithin (loops_in stmts) (bodies_in_items stmts)
block_within [] each = tt
block_within (s ∷ stmts) each = each_both (Within (loops_in (s ∷ stmts))) (bodies_in_item s) (bodies_in_items stmts)
    (within_more (loops s) (loops s ++ loops_in stmts) (bodies_in_item s) (λ l one. one_left (loops s) (loops_in stmts) l one) each.0)
    (within_more (loops_in stmts) (loops s ++ loops_in stmts) (bodies_in_items stmts) (λ l one. one_right (loops s) (loops_in stmts) l one) (block_within stmts each.1))

arms_within : (arms : List Arm) → Each (λ (a : Arm). Each StmtWithin a.body) arms → AllWithin (flat_map loops_in_arm arms) (flat_map (λ (a : Arm). bodies_in_items a.body) arms)
arms_within [] each = tt
arms_within (a ∷ arms) each = each_both (Within (flat_map loops_in_arm (a ∷ arms))) (bodies_in_items a.body) (flat_map (λ (a : Arm). bodies_in_items a.body) arms)
    (within_more (loops_in a.body) (loops_in_arm a ++ flat_map loops_in_arm arms) (bodies_in_items a.body) (λ l one. one_left (loops_in_arm a) (flat_map loops_in_arm arms) l (subst (λ ls. IsOne ls l) (sym (loops_in_arm-is a)) one)) (block_within a.body each.0))
    (within_more (flat_map loops_in_arm arms) (loops_in_arm a ++ flat_map loops_in_arm arms) (flat_map (λ (a : Arm). bodies_in_items a.body) arms) (λ l one. one_right (loops_in_arm a) (flat_map loops_in_arm arms) l one) (arms_within arms each.1))

none_there : (s : Stmt) → bodies_in_item s ≡ [] → StmtWithin s
none_there s e = subst (AllWithin (loops s)) (sym e) tt

stmt_within : (s : Stmt) → StmtWithin s
stmt_within = stmt_induction StmtWithin
    (λ line name e. none_there (stmt.Declare line name e) (bodies-declare line name e))
    (λ line name o e. none_there (stmt.Assign line name o e) (bodies-assign line name o e))
    (λ line name p o e. subst (AllWithin (loops (stmt.Write line name p o e))) (sym (bodies-write line name p o e)) ((λ l one. one_alone (stmt.Write line name p o e) l one), tt))
    (λ arms other in_arms in_other. subst (AllWithin (loops (stmt.If arms other))) (sym (bodies-if arms other))
    (subst (λ all. AllWithin all (flat_map (λ (a : Arm). bodies_in_items a.body) arms ++ bodies_in_items other)) (sym (loops-if arms other))
    (each_both (Within (flat_map loops_in_arm arms ++ loops_in other)) (flat_map (λ (a : Arm). bodies_in_items a.body) arms) (bodies_in_items other)
    (within_more (flat_map loops_in_arm arms) (flat_map loops_in_arm arms ++ loops_in other) (flat_map (λ (a : Arm). bodies_in_items a.body) arms) (λ l one. one_left (flat_map loops_in_arm arms) (loops_in other) l one) (arms_within arms in_arms))
    (within_more (loops_in other) (flat_map loops_in_arm arms ++ loops_in other) (bodies_in_items other) (λ l one. one_right (flat_map loops_in_arm arms) (loops_in other) l one) (block_within other in_other)))))
    (λ l each. subst (AllWithin (loops (stmt.Loop l))) (sym (bodies-loop l)) ((λ inner one. subst (λ ls. IsOne ls inner) (sym (loops-loop l)) (inr one)), tt))
  where
    one_alone : (s : Stmt) (l : Loop) → IsOne (loops_in (s ∷ [])) l → IsOne (loops s) l
    one_alone s l one = subst (λ ls. IsOne ls l) (append-nil (loops s)) one

each_within : (stmts : List Stmt) → Each StmtWithin stmts
each_within [] = tt
each_within (s ∷ stmts) = (stmt_within s, each_within stmts)

regions_within : (regions : List Loop) → AllWithin (flat_map (λ (r : Loop). r ∷ loops_in r.body) regions) (flat_map (λ (r : Loop). bodies_in_items r.body) regions)
regions_within [] = tt
regions_within (r ∷ regions) =
    let own : List Loop = r ∷ loops_in r.body in
    let others : List Loop = flat_map (λ (r : Loop). r ∷ loops_in r.body) regions in
    each_both (Within (own ++ others)) (bodies_in_items r.body) (flat_map (λ (r : Loop). bodies_in_items r.body) regions)
    (within_more (loops_in r.body) (own ++ others) (bodies_in_items r.body) (λ l one. one_left own others l (inr one)) (block_within r.body (each_within r.body)))
    (within_more others (own ++ others) (flat_map (λ (r : Loop). bodies_in_items r.body) regions) (λ l one. one_right own others l one) (regions_within regions))

pub program_within : (program : Program) → AllWithin (loops_of program) (bodies_of program)
program_within program = subst (AllWithin (loops_of program)) (bodies_in_regions program.regions) (regions_within program.regions)

-- no line breaks a rule: no loop does
none_breaks : (test : Loop → Bool) (all : List Loop) → lines_where line_of test all ≡ [] → (l : Loop) → IsOne all l → test l ≡ false
none_breaks test [] e l one = absurd one
none_breaks test (first ∷ all) e l one = by (λ none later. none_breaks test all none l later) (test first) refl e one
  where
    by : (lines_where line_of test all ≡ [] → IsOne all l → test l ≡ false) → (b : Bool) → test first ≡ b → map line_of (if b then first ∷ filter test all else filter test all) ≡ [] → (l ≡ first) ⊎ IsOne all l → test l ≡ false
    by rest true is e one = absurd (let none : first.line ∷ map line_of (filter test all) ≡ [] = e in cc)
    by rest false is e (inl same) = ap test same ∙ is
    by rest false is e (inr later) = rest e later

-- the loops of a body of a program that keeps the rules
pub bounded_in : (program : Program) (keeps : KeepsRules program) (body : Body) (words : List ℤ) (data_locals : List ℕ) → IsOne (bodies_of program) body.stmts → Within (loops_of program) body.stmts → (are : AreDataLocals (arrays_of program.decls) body.stmts data_locals)
    → Each (Bounded program body (arrays_of program.decls) words data_locals are) (loops_in body.stmts)
bounded_in program keeps body words data_locals one within are = each (loops_in body.stmts) (λ l has_it. has_it)
  where
    each : (some : List Loop) → ((l : Loop) → IsOne some l → IsOne (loops_in body.stmts) l) → Each (Bounded program body (arrays_of program.decls) words data_locals are) some
    each [] into = tt
    each (l ∷ some) into =
        let here = into l (inl refl) in (
          record {
            low = λ names. keeps.inner l.line (body.stmts, one, (l, here, refl, inl names));
            high = λ names. keeps.inner l.line (body.stmts, one, (l, here, refl, inr names));
            apart = (or_none (is_among (scalars_in l.high) l.name) (changes_one (scalars_in l.high) (arrays_in l.high) l.body) (none_breaks changes_its_bound (loops_of program) keeps.bounds l (within l here))).0;
          },
          each some (λ other is. into other (inr is)),
        )

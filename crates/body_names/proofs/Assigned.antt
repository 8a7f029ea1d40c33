-- The names that a body assigns: where the rules on assigned names are kept, each is a local of the body, since else it
-- would be a local where the body is entered.
use Rattle.std.proofs.Common.{◌≡◌, ℕ, Bool, true, false, List, [], ◌∷◌, ◌++◌, map, refl, sym, ap, ◌∙◌, subst}
use Rattle.std.specs.List.{concat}
use Rattle.nest_syntax.specs.declared.tree.Arm.{Arm}
use Rattle.nest_syntax.specs.declared.tree.Stmt.{Stmt}
use Rattle.nest_syntax.specs.declared.tree.Stmt.TheVariants as stmt
use Rattle.nest_syntax.specs.declared.tree.Program.{Program}
use Rattle.nest_syntax.specs.Among.{Each, is_among}
use Rattle.nest_syntax.specs.Shape.{statements_of_each, bodies_of}
use Rattle.nest_syntax.specs.Locals.{given, given_in_arm, names_given}
use Rattle.nest_syntax.proofs.Equations.{given-declare, given-assign, given-write, given-if, given-loop, given_in_arm-is, given_in_loop-is}
use Rattle.nest_syntax.proofs.Inductions.{stmt_induction, each_left, each_right}
use Rattle.nest_syntax.specs.Lowest.{lines_where}
use Rattle.nest_scope.specs.declared.occurrences.Binding.{Binding}
use Rattle.nest_scope.specs.declared.occurrences.Binding.TheVariants as binding
use Rattle.nest_scope.specs.declared.occurrences.Level.TheVariants as level
use Rattle.nest_scope.specs.declared.occurrences.Action.TheVariants as action
use Rattle.nest_scope.specs.declared.occurrences.Occurrence.{Occurrence}
use Rattle.nest_scope.specs.Occurrences.{Scope, bound, with_bound, occurrence, read_in, in_same_scope, in_stmt, in_arm, in_block, occurrences_of}
use Rattle.nest_scope.specs.Rules.{line_of, is_no_scalar, is_loop_variable_assigned, is_scheduler_scalar_assigned, uses_unknown, assigns_loop_variable, assigns_scheduler_scalar, lines_unknown, lines_loop_variable_assigned, lines_scheduler_scalar_assigned}
use Rattle.nest_scope.specs.Entered.{Entered, entered_of, declared_scope}
use Rattle.nest_scope.proofs.Entered.{none_where, program_bound, regions_invoked, loop_is}
use Rattle.nest_scope.proofs.Equations.{occurrences-assign, occurrences-if, occurrences-arm, occurrences-loop, behind-declare, behind-assign, behind-write, behind-if, behind-loop}
use Rattle.nest_scope.proofs.Around.{EnteredFrom, by_loop, by_write}
use Rattle.body_names.specs.Laws.{AssignsLocals}
use Rattle.body_names.proofs.Names.{in_either, in_none, in_one, out_one, out_left, out_right, bound_other}
use Rattle.body_names.proofs.Programs.{is_inner, IsAround, FromAround, none_with, entered_around}

-- an occurrence that breaks none of three rules
pub record Keeps (o : Occurrence) : Type 0 where
  pub known : uses_unknown o ≡ false
  pub variables : assigns_loop_variable o ≡ false
  pub scheduled : assigns_scheduler_scalar o ≡ false

all_keep : (os : List Occurrence) → lines_where line_of uses_unknown os ≡ [] → lines_where line_of assigns_loop_variable os ≡ [] → lines_where line_of assigns_scheduler_scalar os ≡ [] → Each Keeps os
all_keep [] known variables scheduled = tt
all_keep (o ∷ os) known variables scheduled =
    let a = none_where uses_unknown o os known in
    let b = none_where assigns_loop_variable o os variables in
    let c = none_where assigns_scheduler_scalar o os scheduled in
    (record { known = a.0; variables = b.0; scheduled = c.0 }, all_keep os a.1 b.1 c.1)

-- what may be assigned in a body is a local
pub assigned_local : (to : Binding) → is_no_scalar to ≡ false → is_loop_variable_assigned action.Assigned to ≡ false → is_scheduler_scalar_assigned level.Body action.Assigned to ≡ false → to ≡ binding.Local
assigned_local binding.Local known variables scheduled = refl
assigned_local binding.Unbound known variables scheduled = absurd (cc)
assigned_local binding.Array known variables scheduled = absurd (cc)
assigned_local binding.ConstArray known variables scheduled = absurd (cc)
assigned_local binding.SchedulerScalar known variables scheduled = absurd (cc)
assigned_local binding.RegionVariable known variables scheduled = absurd (cc)
assigned_local binding.LoopVariable known variables scheduled = absurd (cc)

-- Some statements in a scope: a name that they give a value, and that isn't one of their locals, is a local there.
abbrev Gives : (Scope → List Occurrence) → List ℕ → List ℕ → Type 0
Gives occurrences locals names = (scope : Scope) → Each Keeps (occurrences scope) → (name : ℕ) → is_among locals name ≡ false → is_among names name ≡ true → bound scope name ≡ binding.Local

abbrev StmtGives : Stmt → Type 0
StmtGives s = Gives (λ scope. (in_stmt s level.Body scope).occurrences) (given false s) (given true s)

-- and the names that aren't its locals are bound behind it as before it
abbrev StmtKeeps : Stmt → Type 0
StmtKeeps s = (scope : Scope) (name : ℕ) → is_among (given false s) name ≡ false → bound (in_stmt s level.Body scope).behind name ≡ bound scope name

abbrev Assigns : Stmt → Type 0
Assigns s = StmtGives s × StmtKeeps s

block_gives : (stmts : List Stmt) → Each Assigns stmts → Gives (in_block stmts level.Body) (names_given false stmts) (names_given true stmts)
block_gives [] each scope kept name out among = in_none name among
block_gives (s ∷ stmts) each scope kept name out among =
    let here : List Occurrence = (in_stmt s level.Body scope).occurrences in
    let behind : Scope = (in_stmt s level.Body scope).behind in
    let not_here = out_left (given false s) (names_given false stmts) name out in
    in_either (given true s) (names_given true stmts) name among
    (each.0.0 scope (each_left Keeps here (in_block stmts level.Body behind) kept) name not_here)
    (λ there. sym (each.0.1 scope name not_here) ∙ block_gives stmts each.1 behind (each_right Keeps here (in_block stmts level.Body behind) kept) name (out_right (given false s) (names_given false stmts) name out) there)

arms_give : (arms : List Arm) → Each (λ (a : Arm). Each Assigns a.body) arms → Gives (in_same_scope (map in_arm arms) level.Body) (concat (map (given_in_arm false) arms)) (concat (map (given_in_arm true) arms))
arms_give [] each scope kept name out among = in_none name among
arms_give (a ∷ arms) each scope kept name out among =
    let here : List Occurrence = in_arm a level.Body scope in
    let rest : List Occurrence = in_same_scope (map in_arm arms) level.Body scope in
    let test : List Occurrence = read_in a.line level.Body scope a.test in
    let body : Each Keeps (in_block a.body level.Body scope) = each_right Keeps test (in_block a.body level.Body scope) (subst (Each Keeps) (occurrences-arm level.Body scope a) (each_left Keeps here rest kept)) in
    in_either (given_in_arm true a) (concat (map (given_in_arm true) arms)) name among
    (λ inside. block_gives a.body each.0 scope body name
    (ap (λ names. is_among names name) (sym (given_in_arm-is false a)) ∙ out_left (given_in_arm false a) (concat (map (given_in_arm false) arms)) name out)
    (ap (λ names. is_among names name) (sym (given_in_arm-is true a)) ∙ inside))
    (arms_give arms each.1 scope (each_right Keeps here rest kept) name (out_right (given_in_arm false a) (concat (map (given_in_arm false) arms)) name out))

-- no value is given
gives_none : (occurrences : Scope → List Occurrence) (locals names : List ℕ) → names ≡ [] → Gives occurrences locals names
gives_none occurrences locals names none scope kept name out among = in_none name (ap (λ ns. is_among ns name) (sym none) ∙ among)

-- the name that is given a value is a local itself
contradicts : {Q : Type 0} (names others : List ℕ) (name : ℕ) → names ≡ others → is_among names name ≡ false → is_among others name ≡ true → Q
contradicts names others name same out among = absurd (let wrong : true ≡ false = sym among ∙ ap (λ ns. is_among ns name) (sym same) ∙ out in cc)

assigns : (s : Stmt) → Assigns s
assigns = stmt_induction Assigns
    (λ line one e. (
      λ scope kept name out among. contradicts (given false (stmt.Declare line one e)) (given true (stmt.Declare line one e)) name (given-declare false line one e ∙ sym (given-declare true line one e)) out among,
      λ scope name out. ap (λ s. bound s name) (behind-declare level.Body scope line one e) ∙ bound_other scope one name binding.Local (out_one name one (ap (λ ns. is_among ns name) (sym (given-declare false line one e)) ∙ out)),
    ))
    (λ line one o e. (
      λ scope kept name out among.
          let parts : Each Keeps (occurrence line level.Body action.Assigned (bound scope one) ∷ read_in line level.Body scope e) = subst (Each Keeps) (occurrences-assign level.Body scope line one o e) kept in
          ap (bound scope) (in_one name one (ap (λ ns. is_among ns name) (sym (given-assign true line one o e)) ∙ among))
          ∙ assigned_local (bound scope one) parts.0.known parts.0.variables parts.0.scheduled,
      λ scope name out. ap (λ s. bound s name) (behind-assign level.Body scope line one o e),
    ))
    (λ line array p o e. (
      gives_none (λ scope. (in_stmt (stmt.Write line array p o e) level.Body scope).occurrences) (given false (stmt.Write line array p o e)) (given true (stmt.Write line array p o e)) (given-write true line array p o e),
      λ scope name out. ap (λ s. bound s name) (behind-write level.Body scope line array p o e),
    ))
    (λ arms other in_arms in_other. (
      λ scope kept name out among.
          let first : List Occurrence = in_same_scope (map in_arm arms) level.Body scope in
          let parts : Each Keeps (first ++ in_block other level.Body scope) = subst (Each Keeps) (occurrences-if level.Body scope arms other) kept in
          let outside : is_among (concat (map (given_in_arm false) arms) ++ names_given false other) name ≡ false = ap (λ ns. is_among ns name) (sym (given-if false arms other)) ∙ out in
          in_either (concat (map (given_in_arm true) arms)) (names_given true other) name (ap (λ ns. is_among ns name) (sym (given-if true arms other)) ∙ among)
          (arms_give arms in_arms scope (each_left Keeps first (in_block other level.Body scope) parts) name (out_left (concat (map (given_in_arm false) arms)) (names_given false other) name outside))
          (block_gives other in_other scope (each_right Keeps first (in_block other level.Body scope) parts) name (out_right (concat (map (given_in_arm false) arms)) (names_given false other) name outside)),
      λ scope name out. ap (λ s. bound s name) (behind-if level.Body scope arms other),
    ))
    (λ l inside. (
      λ scope kept name out among.
          let within : Scope = with_bound scope l.name binding.LoopVariable in
          let low : List Occurrence = read_in l.line level.Body scope l.low in
          let high : List Occurrence = read_in l.line level.Body within l.high in
          let body : List Occurrence = in_block l.body level.Body within in
          let parts : Each Keeps (occurrence l.line level.Body action.Declared (bound scope l.name) ∷ (low ++ (high ++ body))) = subst (Each Keeps) (occurrences-loop level.Body scope l) (subst (Each Keeps) (loop_is level.Body l scope) kept) in
          let locals : is_among (l.name ∷ names_given false l.body) name ≡ false = ap (λ ns. is_among ns name) (sym (given-loop false l ∙ given_in_loop-is false l)) ∙ out in
          let names : is_among (l.name ∷ names_given true l.body) name ≡ true = ap (λ ns. is_among ns name) (sym (given-loop true l ∙ given_in_loop-is true l)) ∙ among in
          let not_it = out_left (l.name ∷ []) (names_given false l.body) name locals in
          in_either (l.name ∷ []) (names_given true l.body) name names
          (contradicts (l.name ∷ []) (l.name ∷ []) name refl not_it)
          (λ there. sym (bound_other scope l.name name binding.LoopVariable (out_one name l.name not_it))
          ∙ block_gives l.body inside within (each_right Keeps high body (each_right Keeps low (high ++ body) parts.1)) name (out_right (l.name ∷ []) (names_given false l.body) name locals) there),
      λ scope name out. ap (λ s. bound s name) (behind-loop level.Body scope l),
    ))

each_assigns : (stmts : List Stmt) → Each Assigns stmts
each_assigns [] = tt
each_assigns (s ∷ stmts) = (assigns s, each_assigns stmts)

-- no body is entered in a scope that binds a local
abbrev is_local : Binding → Bool
is_local binding.Local = true
is_local to = false

outer_not_local : (to : Binding) → is_inner to ≡ false → is_local to ≡ false
outer_not_local binding.Local outer = absurd (cc)
outer_not_local binding.Unbound outer = refl
outer_not_local binding.Array outer = refl
outer_not_local binding.ConstArray outer = refl
outer_not_local binding.SchedulerScalar outer = refl
outer_not_local binding.RegionVariable outer = refl
outer_not_local binding.LoopVariable outer = refl

assigns_locals : (e : Entered) (around : Scope) → EnteredFrom around e → IsAround around → Each Keeps (in_block e.body.stmts e.level e.scope) → AssignsLocals e.body.stmts
assigns_locals _ around (by_write line array p o e) outer kept name out = ap (λ ns. is_among (ns ++ []) name) (given-write true line array p o e)
assigns_locals _ around (by_loop l) outer kept name out = by (is_among (names_given true l.body) name) refl
  where
    scope : Scope
    scope = with_bound around l.name binding.LoopVariable

    by : (b : Bool) → is_among (names_given true l.body) name ≡ b → is_among (names_given true l.body) name ≡ false
    by false is = is
    by true is = absurd (let wrong : true ≡ false =
        sym (ap is_local (block_gives l.body (each_assigns l.body) scope kept name out is))
        ∙ none_with is_local around l.name binding.LoopVariable refl (λ other. outer_not_local (bound around other) (outer other)) name in cc)

abbrev HasKept : Entered → Type 0
HasKept e = Each Keeps (in_block e.body.stmts e.level e.scope)

all_in : (entered : List Entered) → Each HasKept entered → Each FromAround entered → Each AssignsLocals (statements_of_each (map (λ (e : Entered). e.body) entered))
all_in [] kept from = tt
all_in (e ∷ entered) kept from = (assigns_locals e from.0.0 from.0.1.1 from.0.1.0 kept.0, all_in entered kept.1 from.1)

pub bodies_assign : (program : Program) → lines_unknown program ≡ [] → lines_loop_variable_assigned program ≡ [] → lines_scheduler_scalar_assigned program ≡ [] → Each AssignsLocals (bodies_of program)
bodies_assign program known variables scheduled =
    subst (λ bodies. Each AssignsLocals (statements_of_each bodies)) (regions_invoked (declared_scope program) program.regions)
    (all_in (entered_of program) (program_bound Keeps program (all_keep (occurrences_of program) known variables scheduled)) (entered_around program))

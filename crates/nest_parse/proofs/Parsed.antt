-- What the whole reading tells of the tokens.
use Rattle.std.proofs.Common.{◌≡◌, ℕ, ◌-◌, ◌≤◌, Ok, Err, Some, List, length, ◌∙◌, ap, subst, arith, length-append}
use Rattle.nest_syntax.specs.declared.tree.Loop.{Loop}
use Rattle.nest_syntax.specs.declared.tree.Decl.{Decl}
use Rattle.nest_lex.specs.declared.token.Token.{Token}
use Rattle.nest_lex.specs.declared.token.Tokens.{Tokens}
use Rattle.nest_parse.specs.declared.refused.Stop.{Stop}
use Rattle.nest_parse.specs.declared.refused.Stop.TheVariants.{Fault}
use Rattle.nest_parse.specs.Grammar.{AreProgram, Derives, IsFaultAt}
use Rattle.nest_parse.specs.Expected.{stuck, start, ReadsProgram}
use Rattle.nest_parse.proofs.Viable.{stops}
use Rattle.nest_parse.proofs.Fault.{fault_at}

pub derived : {tokens : Tokens} {old new slice : List Token} {ds : List Decl} {ls : List Loop} {names : List (List ℕ)} → slice ≡ tokens.list → old ≡ slice → ReadsProgram old new (Ok (ds, ls))
    → names ≡ tokens.names → Derives tokens (record { names = names; decls = ds; regions = ls })
derived {ds = ds} {ls = ls} e o r n = record { names = n; spelled = subst (λ ts. AreProgram ts ds ls) (o ∙ e) r.is }

-- a fault, with how many tokens there are and how many are left
pub record Told (list slice old new : List Token) (f : Stop) (all left : ℕ) : Type 0 where
  pub same : slice ≡ list
  pub begun : old ≡ slice
  pub read : ReadsProgram old new (Err f)
  pub is : f ≡ Fault
  pub count : all ≡ length list
  pub count_left : left ≡ length new

stuck_there : {list slice old new : List Token} {f : Stop} {all left : ℕ} → Told list slice old new f all left → stuck start list ≡ Some new
stuck_there {list} {new = new} t = subst (λ ts. stuck start ts ≡ Some new) (t.begun ∙ t.same) (t.read.sticks t.is)

pub left_within : {list slice old new : List Token} {f : Stop} {all left : ℕ} → Told list slice old new f all left → left ≤ all
left_within {list} {new = new} t =
    let st = stops start list new (stuck_there t) in
    let size = length-append st.front new in
    let long = ap length st.split in
    omega (arith, t.count, t.count_left)

pub fault_told : {list slice old new : List Token} {f : Stop} {all left : ℕ} → Told list slice old new f all left → IsFaultAt list (all - left)
fault_told {list} {new = new} {all = all} {left = left} t =
    let within = left_within t in
    fault_at list new (all - left) (stuck_there t) (omega (arith, t.count, t.count_left))

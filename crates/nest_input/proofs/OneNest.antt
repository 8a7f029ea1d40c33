-- A text says one thing, and so does an input.
use Rattle.std.proofs.Common.{◌≡◌, ℕ, Option, Some, None, Result, Ok, Err, List, sym, ap, ◌∙◌, subst}
use Rattle.nest_syntax.specs.declared.names.Line.{Line}
use Rattle.nest_syntax.specs.declared.tree.Program.{Program}
use Rattle.nest_lex.specs.declared.token.Spot.{Spot}
use Rattle.nest_lex.specs.declared.token.Tokens.{Tokens}
use Rattle.nest_lex.specs.declared.refused.LexKind.{LexKind}
use Rattle.nest_lex.specs.Text.{AreTokens}
use Rattle.nest_lex.proofs.OneAnswer.{same_tokens, same_fault, no_fault}
use Rattle.nest_lex.proofs.OneDivision.{one_division}
use Rattle.nest_parse.specs.Grammar.{Derives, IsFaultAt}
use Rattle.nest_parse.proofs.OneFault.{one_fault}
use Rattle.nest_parse.proofs.Unique.{unique}
use Rattle.nest_check.specs.Broken.{IsBroken}
use Rattle.nest_check.proofs.Judged.{keeps_all}
use Rattle.nest_check.proofs.OneJudgement.{one_broken, never_both}
use Rattle.nest_input.specs.declared.refused.Refusal.{Refusal}
use Rattle.nest_input.specs.declared.refused.Refusal.TheVariants as refusal
use Rattle.word_store.specs.Memory.{Memory}
use Rattle.nest_syntax.specs.Arrays.{arrays_of}
use Rattle.nest_data.specs.Data.{data_of}
use Rattle.step_words.specs.Steps.{first_stranger}
use Rattle.nest_input.specs.Input.{IsNest, no_tokens, no_program, no_rules, a_nest, SaysNest, SaysWords, token_refusal, spot_at, SaysSteps, nest_in, data_in, steps_in, words_said, actors_said}

abbrev rule_refusal : Option (ℕ × Line) → Refusal → Refusal
rule_refusal None otherwise = otherwise
rule_refusal (Some b) otherwise = refusal.Rule b.0 b.1

module _ (text : List ℕ) where
  -- no program has a fault
  faultless : (tokens tokens' : Tokens) (at : ℕ) (program : Program) → AreTokens text tokens → IsFaultAt tokens.list at → AreTokens text tokens' → Derives tokens' program → ⊥
  faultless tokens tokens' at program are fault are' derives =
      fault.whole program.decls program.regions (subst (λ (ts : Tokens). Derives ts program) (same_tokens text tokens' tokens are' are) derives).spelled

  same_program : (tokens tokens' : Tokens) (program program' : Program) → AreTokens text tokens → Derives tokens program → AreTokens text tokens' → Derives tokens' program' → program ≡ program'
  same_program tokens tokens' program program' are derives are' derives' =
      sym (unique derives (subst (λ (ts : Tokens). Derives ts program') (same_tokens text tokens' tokens are' are) derives'))

  pub same_nest : (said other : Result Program Refusal) → IsNest text said → IsNest text other → said ≡ other
  same_nest said other (no_tokens kind at fault e) (no_tokens kind' at' fault' e') =
      let same = same_fault text kind kind' at at' fault fault' in
      e ∙ ap (λ (k : LexKind). Err (token_refusal k at)) same.0 ∙ ap (λ (s : Spot). Err (token_refusal kind' s)) same.1 ∙ sym e'
  same_nest said other (no_tokens kind at fault e) (no_program tokens n are f e') = absurd (no_fault text tokens kind at are fault)
  same_nest said other (no_tokens kind at fault e) (no_rules tokens program rule line are derives broken e') = absurd (no_fault text tokens kind at are fault)
  same_nest said other (no_tokens kind at fault e) (a_nest tokens program are derives kept e') = absurd (no_fault text tokens kind at are fault)
  same_nest said other (no_program tokens n are f e) (no_tokens kind at fault e') = absurd (no_fault text tokens kind at are fault)
  same_nest said other (no_program tokens n are f e) (no_program tokens' n' are' f' e') =
      let same = same_tokens text tokens tokens' are are' in
      e ∙ ap (λ (ts : Tokens). Err (refusal.Syntax (spot_at ts n))) same
      ∙ ap (λ (k : ℕ). Err (refusal.Syntax (spot_at tokens' k))) (one_fault tokens'.list n n' (subst (λ (ts : Tokens). IsFaultAt ts.list n) same f) f') ∙ sym e'
  same_nest said other (no_program tokens n are f e) (no_rules tokens' program rule line are' derives broken e') = absurd (faultless tokens tokens' n program are f are' derives)
  same_nest said other (no_program tokens n are f e) (a_nest tokens' program are' derives kept e') = absurd (faultless tokens tokens' n program are f are' derives)
  same_nest said other (no_rules tokens program rule line are derives broken e) (no_tokens kind at fault e') = absurd (no_fault text tokens kind at are fault)
  same_nest said other (no_rules tokens program rule line are derives broken e) (no_program tokens' n are' f e') = absurd (faultless tokens' tokens n program are' f are derives)
  same_nest said other (no_rules tokens program rule line are derives broken e) (no_rules tokens' program' rule' line' are' derives' broken' e') =
      let same = same_program tokens tokens' program program' are derives are' derives' in
      let found = one_broken program' (Some (rule, line)) (Some (rule', line')) (subst (λ p. IsBroken p (Some (rule, line))) same broken) broken' in
      e ∙ ap (λ f. Err (rule_refusal f (refusal.Rule rule line))) found ∙ sym e'
  same_nest said other (no_rules tokens program rule line are derives broken e) (a_nest tokens' program' are' derives' kept e') =
      let same = same_program tokens tokens' program program' are derives are' derives' in
      absurd (never_both program' rule line (subst (λ p. IsBroken p (Some (rule, line))) same broken) (keeps_all program' kept))
  same_nest said other (a_nest tokens program are derives kept e) (no_tokens kind at fault e') = absurd (no_fault text tokens kind at are fault)
  same_nest said other (a_nest tokens program are derives kept e) (no_program tokens' n are' f e') = absurd (faultless tokens' tokens n program are' f are derives)
  same_nest said other (a_nest tokens program are derives kept e) (no_rules tokens' program' rule line are' derives' broken e') =
      let same = same_program tokens tokens' program program' are derives are' derives' in
      absurd (never_both program' rule line broken (keeps_all program' (subst (λ p. IsBroken p None) same kept)))
  same_nest said other (a_nest tokens program are derives kept e) (a_nest tokens' program' are' derives' kept' e') =
      e ∙ ap (λ p. Ok p) (same_program tokens tokens' program program' are derives are' derives') ∙ sym e'

pub one_nest : (input : List ℕ) (said other : Result Program Refusal) → SaysNest input said → SaysNest input other → said ≡ other
one_nest input said other says says' =
    same_nest (nest_in input says'.parts) said other
    (subst (λ parts. IsNest (nest_in input parts) said) (one_division input says.parts says'.parts says.divided says'.divided) says.nest)
    says'.nest

pub one_words : (input : List ℕ) (program : Program) (said other : Result Memory Refusal) → SaysWords input program said → SaysWords input program other → said ≡ other
one_words input program said other says says' =
    says.words
    ∙ ap (λ parts. words_said (data_of program.names (arrays_of program.decls) parts.data_line (data_in input parts))) (one_division input says.parts says'.parts says.divided says'.divided)
    ∙ sym says'.words

pub one_steps : (input : List ℕ) (workers : ℕ) (said other : Result (List ℕ) ℕ) → SaysSteps input workers said → SaysSteps input workers other → said ≡ other
one_steps input workers said other says says' =
    says.actors
    ∙ ap (λ parts. actors_said workers (steps_in input parts) (first_stranger workers (steps_in input parts))) (one_division input says.parts says'.parts says.divided says'.divided)
    ∙ sym says'.actors

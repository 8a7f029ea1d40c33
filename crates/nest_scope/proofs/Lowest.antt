-- The lowest lines that are noted are those of the lists of the rules.
use Rattle.std.proofs.Common.{◌≡◌, Bool, Option, List, [], ◌∷◌, ◌++◌, refl, sym, ap, ◌∙◌}
use Rattle.nest_syntax.specs.declared.names.Line.{Line}
use Rattle.nest_syntax.specs.Lowest.{lower_if, lower_of, lines_where}
use Rattle.nest_syntax.proofs.LowerLists.{lower_of-where}
use Rattle.nest_scope.specs.declared.occurrences.Occurrence.{Occurrence}
use Rattle.nest_scope.specs.declared.breaches.ScopeBreaches.{ScopeBreaches}
use Rattle.nest_scope.specs.Rules.{line_of, redeclares, uses_unknown, writes_const, assigns_loop_variable, assigns_scheduler_scalar}
use Rattle.nest_scope.specs.Noted.{noted, all_noted}

pub noted_in_turn : (found : ScopeBreaches) (xs ys : List Occurrence) → all_noted found (xs ++ ys) ≡ all_noted (all_noted found xs) ys
noted_in_turn found [] ys = refl
noted_in_turn found (x ∷ xs) ys = noted_in_turn (noted found x) xs ys

-- one list is noted, and then another
pub noted_both : (found one two : ScopeBreaches) (xs ys all : List Occurrence) → one ≡ all_noted found xs → two ≡ all_noted one ys → all ≡ xs ++ ys → two ≡ all_noted found all
noted_both found one two xs ys all first second is = second ∙ ap (λ seen. all_noted seen ys) first ∙ sym (noted_in_turn found xs ys) ∙ sym (ap (all_noted found) is)

-- one occurrence is noted, and then a list
pub noted_before : (found one two : ScopeBreaches) (o : Occurrence) (xs all : List Occurrence) → one ≡ noted found o → two ≡ all_noted one xs → all ≡ o ∷ xs → two ≡ all_noted found all
noted_before found one two o xs all first second is = second ∙ ap (λ seen. all_noted seen xs) first ∙ sym (ap (all_noted found) is)

-- what one rule keeps of each occurrence, over a list of them
kept : (breaks : Occurrence → Bool) (of : ScopeBreaches → Option Line) → ((found : ScopeBreaches) (o : Occurrence) → of (noted found o) ≡ lower_if (breaks o) (of found) o.line) → (found : ScopeBreaches) (os : List Occurrence)
    → of (all_noted found os) ≡ lower_of (of found) (lines_where line_of breaks os)
kept breaks of each found [] = refl
kept breaks of each found (o ∷ os) =
    kept breaks of each (noted found o) os
    ∙ ap (λ lowest. lower_of lowest (lines_where line_of breaks os)) (each found o)
    ∙ lower_of-where line_of breaks (of found) o os

pub redeclared_kept : (found : ScopeBreaches) (os : List Occurrence) → (all_noted found os).redeclared ≡ lower_of found.redeclared (lines_where line_of redeclares os)
redeclared_kept = kept redeclares (λ found. found.redeclared) (λ found o. refl)

pub unknown_kept : (found : ScopeBreaches) (os : List Occurrence) → (all_noted found os).unknown ≡ lower_of found.unknown (lines_where line_of uses_unknown os)
unknown_kept = kept uses_unknown (λ found. found.unknown) (λ found o. refl)

pub const_written_kept : (found : ScopeBreaches) (os : List Occurrence) → (all_noted found os).const_written ≡ lower_of found.const_written (lines_where line_of writes_const os)
const_written_kept = kept writes_const (λ found. found.const_written) (λ found o. refl)

pub loop_variable_kept : (found : ScopeBreaches) (os : List Occurrence) → (all_noted found os).loop_variable_assigned ≡ lower_of found.loop_variable_assigned (lines_where line_of assigns_loop_variable os)
loop_variable_kept = kept assigns_loop_variable (λ found. found.loop_variable_assigned) (λ found o. refl)

pub scheduler_scalar_kept : (found : ScopeBreaches) (os : List Occurrence) → (all_noted found os).scheduler_scalar_assigned ≡ lower_of found.scheduler_scalar_assigned (lines_where line_of assigns_scheduler_scalar os)
scheduler_scalar_kept = kept assigns_scheduler_scalar (λ found. found.scheduler_scalar_assigned) (λ found o. refl)

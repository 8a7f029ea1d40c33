use Rattle.nest_parse.specs.Grammar.{declaration, no_decl}
use Rattle.nest_parse.proofs.Listing.{listed_next, no_more_listed}
use Rattle.nest_parse.proofs.cursor.Cursor.declarations.Goals as goal

pub list-preserved : goal.list-preserved
list-preserved c = listed_next c.list.invariant (λ ts m r y ys a b. declaration a b) c.in_ok-decl.ensures.reads c.in-Some.is c.in_ok-decl.ensures.shorter c.in_ok-push.ensures.ok

pub returns : goal.returns
returns c = record { reads = no_more_listed c.list.invariant (λ r. no_decl) c.in_ok-decl.ensures.reads c.in_default.is }

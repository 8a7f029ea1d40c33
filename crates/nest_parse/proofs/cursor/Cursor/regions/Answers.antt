use Rattle.nest_parse.specs.Grammar.{a_region, no_loop}
use Rattle.nest_parse.proofs.Listing.{listed_next, no_more_listed}
use Rattle.nest_parse.proofs.cursor.Cursor.regions.Goals as goal

pub list-preserved : goal.list-preserved
list-preserved c = listed_next c.list.invariant (λ ts m r y ys a b. a_region a b) c.in_ok-region.ensures.reads c.in-Some.is c.in_ok-region.ensures.shorter c.in_ok-push.ensures.ok

pub returns : goal.returns
returns c = record { reads = no_more_listed c.list.invariant (λ r. no_loop) c.in_ok-region.ensures.reads c.in_default.is }

-- Where at most so many iterations come, at most more come.
use Rattle.std.proofs.Common.{ℕ, ◌≤◌, List, arith}
use Rattle.sched_cursor.specs.declared.node.Next.{Next}
use Rattle.sched_cursor.specs.declared.node.Node.{Node}
use Rattle.sched_cursor.specs.Rooms.{Most, by_turn, by_change, by_test, by_invoke, by_write, MostOf, by_end, by_region}

pub more : (nodes : List Node) (here : Next) (k m : ℕ) → k ≤ m → Most nodes here k → Most nodes here m
more nodes _ _ m le (by_turn k) = by_turn m
more nodes _ _ m le (by_change n k line name o e behind there rest) = by_change n m line name o e behind there (more nodes behind k m le rest)
more nodes _ _ m le (by_test n k line e taken otherwise there one other) = by_test n m line e taken otherwise there (more nodes taken k m le one) (more nodes otherwise k m le other)
more nodes _ _ m le (by_invoke n j k header body behind there rest few) = by_invoke n j m header body behind there rest (omega (arith, le, few))
more nodes _ _ m le (by_write n j k line body behind there rest few) = by_write n j m line body behind there rest (omega (arith, le, few))

pub more_of : (nodes : List Node) (here : Next) (k m : ℕ) → k ≤ m → MostOf nodes here k → MostOf nodes here m
more_of nodes _ _ m le (by_end k) = by_end m
more_of nodes _ _ m le (by_region n each rest k header items leave there inside leaves fits) = by_region n each rest m header items leave there inside leaves (omega (arith, le, fits))

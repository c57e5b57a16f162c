use Rattle.std.proofs.Common.{Bool, false}
use Rattle.std.specs.Iterator.{size}
use Rattle.daggy_walk.specs.Walking.{CallableAlong, CallsItem, TakesItem}
use Rattle.daggy_walk.proofs.AdapterSteps.{Passed}
use Rattle.daggy_walk.proofs.walker.filter.FilterWalker.walk_next.Given as goal

abbrev pub invariant-loop-item : goal.invariant-loop-item
invariant-loop-item g l =
    let w = g.W.Walker in
    Passed (λ v. w.can_walk v l.graph) (λ v. w.items_left v l.graph) (λ v o u. w.walk_gives v l.graph o u)
    (λ f x h. CallsItem g.P.FnMut f l.graph x false h) l.initial.self.walker l.initial.self.predicate l.self.walker
    l.self.predicate
    × CallableAlong (λ v o u. w.walk_gives v l.graph o u) (λ f x h. (b : Bool) × CallsItem g.P.FnMut f l.graph x b h)
    (λ f x. TakesItem g.P.FnMut f l.graph x) l.self.walker l.self.predicate

abbrev pub decreases-loop-item : goal.decreases-loop-item
decreases-loop-item g l = size (g.W.Walker.items_left l.self.walker l.graph)

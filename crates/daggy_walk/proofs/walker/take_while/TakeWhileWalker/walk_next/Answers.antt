use Rattle.std.proofs.Common.{rules, true, false, Some, refl, sym, ◌∙◌}
use Rattle.daggy_walk.proofs.AdapterSteps.{said, went_on, served, on_item, on_none, calls_item, tell_some, falls_kept}
use Rattle.daggy_walk.proofs.AdapterSteps.{at_kept}
use Rattle.daggy_walk.specs.Walking.{CallsItem, TakesItem, CallableAlong}
use Rattle.daggy_walk.proofs.walker.take_while.TakeWhileWalker.walk_next.Goals as goal

pub returns-in_err-item-clause-goes : goal.returns-in_err-item-clause-goes
returns-in_err-item-clause-goes g c =
    let h = c.requires _ c.in-Some.is in
    let e = said (λ v o u. g.W.Walker.walk_gives v c.args.graph.now o u) c.in_err-item.was c.walk_next.ensures.steps in
    let a = went_on (c.in_err-item.was ∙ sym c.from_residual.ensures) c.walk_next.ensures.goes in
    record {
      stays =
          λ v k.
          at_kept (λ w. g.W.Walker.can_walk w c.args.graph.now
          × CallableAlong (λ v o u. g.W.Walker.walk_gives v c.args.graph.now o u)
          (λ f x q. CallsItem g.P.FnMut f c.args.graph.now x true q) (λ f x. TakesItem g.P.FnMut f c.args.graph.now x) w
          c.args.self.now.predicate) k (
            a.stays,
            on_none h.1 _ e,
          );
      falls = falls_kept c.in-Some.is a;
    }

pub predicate-requires : goal.predicate-requires
predicate-requires g c =
    let h = c.requires _ c.in-Some.is in
    search (
      rules,
      served h.1 c.in_ok-item.item _
          (said (λ v o u. g.W.Walker.walk_gives v c.args.graph.now o u) c.in_ok-item.was c.walk_next.ensures.steps),
    )

pub returns-then-predicate-clause-steps : goal.returns-then-predicate-clause-steps
returns-then-predicate-clause-steps g c =
    let e = said (λ v o u. g.W.Walker.walk_gives v c.args.graph.now o u) c.in_ok-item.was c.walk_next.ensures.steps in
    record {
      gives = tell_some _ _ c.in-Some.is (
        Some c.in_ok-item.item,
        c.walk_next.new.self,
        e,
        (true, calls_item g.P.FnMut c.predicate.ensures c.if-predicate.true, (refl, refl)),
      );
    }

pub returns-then-predicate-clause-goes : goal.returns-then-predicate-clause-goes
returns-then-predicate-clause-goes g c =
    let h = c.requires _ c.in-Some.is in
    let e = said (λ v o u. g.W.Walker.walk_gives v c.args.graph.now o u) c.in_ok-item.was c.walk_next.ensures.steps in
    let a = went_on c.in_ok-item.was c.walk_next.ensures.goes in
    record {
      stays =
          λ v k.
          at_kept (λ w. g.W.Walker.can_walk w c.args.graph.now
          × CallableAlong (λ v o u. g.W.Walker.walk_gives v c.args.graph.now o u)
          (λ f x q. CallsItem g.P.FnMut f c.args.graph.now x true q) (λ f x. TakesItem g.P.FnMut f c.args.graph.now x) w
          c.predicate.new.self) k (
            a.stays,
            on_item h.1 _ _ _ e (calls_item g.P.FnMut c.predicate.ensures c.if-predicate.true),
          );
      falls = falls_kept c.in-Some.is a;
    }

pub returns-clause-steps : goal.returns-clause-steps
returns-clause-steps g c =
    let e = said (λ v o u. g.W.Walker.walk_gives v c.args.graph.now o u) c.in_ok-item.was c.walk_next.ensures.steps in
    record {
      gives = tell_some _ _ c.in-Some.is (
        Some c.in_ok-item.item,
        c.walk_next.new.self,
        e,
        (false, calls_item g.P.FnMut c.predicate.ensures c.if-predicate.false, (refl, refl)),
      );
    }

use Rattle.std.proofs.Common.{rules, true, false, refl}
use Rattle.daggy_walk.proofs.AdapterSteps.{said, went_on, served, on_item, on_none, calls_item, passed_none}
use Rattle.daggy_walk.proofs.AdapterSteps.{passed_more, passed_then, lowers}
use Rattle.daggy_walk.proofs.walker.filter.FilterWalker.walk_next.Goals as goal

pub loop-item-init : goal.loop-item-init
loop-item-init g c = (passed_none c.requires.0, c.requires.1)

pub walk_next-requires : goal.walk_next-requires
walk_next-requires g c = c.loop-item.invariant.0.callable

pub predicate-requires : goal.predicate-requires
predicate-requires g c =
    search (
      rules,
      served c.loop-item.invariant.1 c.in-Some.item _
          (said (λ v o u. g.W.Walker.walk_gives v c.args.graph.now o u) c.in-Some.is c.walk_next.ensures.steps),
    )

pub returns-then-predicate : goal.returns-then-predicate
returns-then-predicate g c =
    let i = c.loop-item.invariant.0 in
    let e = said (λ v o u. g.W.Walker.walk_gives v c.args.graph.now o u) c.in-Some.is c.walk_next.ensures.steps in
    let k = calls_item g.P.FnMut c.predicate.ensures c.if-predicate.true in
    let a = passed_then i _ _ e (went_on c.in-Some.is c.walk_next.ensures.goes) in
    record {
      steps = record {
        refused = i.seen;
        between = c.loop-item.self.predicate;
        gives = (c.loop-item.self.walker, i.gave, e);
        refuses = i.called;
        accepts = k;
      };
      goes = record { stays = (a.stays, on_item c.loop-item.invariant.1 _ _ _ e (true, k)); falls = a.falls };
    }

pub loop-item-smaller : goal.loop-item-smaller
loop-item-smaller g c = lowers c.walk_next.ensures.goes c.in-Some.is (g.met.W.FiniteWalker.ends _ _)

pub loop-item-preserved : goal.loop-item-preserved
loop-item-preserved g c =
    let e = said (λ v o u. g.W.Walker.walk_gives v c.args.graph.now o u) c.in-Some.is c.walk_next.ensures.steps in
    let k = calls_item g.P.FnMut c.predicate.ensures c.if-predicate.false in (
      passed_more c.loop-item.invariant.0 _ _ _ e (went_on c.in-Some.is c.walk_next.ensures.goes) k,
      on_item c.loop-item.invariant.1 _ _ _ e (false, k),
    )

pub returns : goal.returns
returns g c =
    let i = c.loop-item.invariant.0 in
    let e = said (λ v o u. g.W.Walker.walk_gives v c.args.graph.now o u) c.in_default.is c.walk_next.ensures.steps in
    let a = passed_then i _ _ e (went_on c.in_default.is c.walk_next.ensures.goes) in
    record {
      steps = record {
        refused = i.seen;
        between = c.loop-item.self.predicate;
        gives = (c.loop-item.self.walker, i.gave, e);
        refuses = i.called;
        accepts = refl;
      };
      goes = record { stays = (a.stays, on_none c.loop-item.invariant.1 _ e); falls = a.falls };
    }

use Rattle.std.proofs.Common.{rules, sym, ◌∙◌}
use Rattle.daggy_walk.proofs.AdapterSteps.{said, went_on, served, on_item, calls_item, passed_none, passed_more}
use Rattle.daggy_walk.proofs.AdapterSteps.{passed_then, tell_some, some_of_none}
use Rattle.daggy_walk.proofs.walker.skip_while.SkipWhileWalker.walk_next.Goals as goal

pub loop-item-init : goal.loop-item-init
loop-item-init g c = (
  passed_none c.requires.0,
  c.requires.1 _ (sym c.take.ensures.value ∙ c.in-Some.is),
  c.take.ensures.after,
)

pub predicate-requires : goal.predicate-requires
predicate-requires g c =
    search (
      rules,
      served c.loop-item.invariant.1 c.in-Some-walk_next.item _ (said
          (λ v o u. g.W.Walker.walk_gives v c.args.graph.now o u) c.in-Some-walk_next.is c.walk_next.ensures.steps),
    )

pub returns-then-not-predicate-clause-steps : goal.returns-then-not-predicate-clause-steps
returns-then-not-predicate-clause-steps g c =
    let i = c.loop-item.invariant.0 in
    let e =
    said (λ v o u. g.W.Walker.walk_gives v c.args.graph.now o u) c.in-Some-walk_next.is c.walk_next.ensures.steps in
    let k = calls_item g.P.FnMut c.predicate.ensures c.if-not-predicate.true in
    record {
      gives =
          tell_some _ _ (sym c.take.ensures.value ∙ c.in-Some.is)
          (i.seen, c.loop-item.predicate, (c.loop-item.self.walker, i.gave, e), i.called, (_, k));
      drops = c.loop-item.invariant.2;
    }

pub returns-then-not-predicate-clause-goes : goal.returns-then-not-predicate-clause-goes
returns-then-not-predicate-clause-goes g c =
    let i = c.loop-item.invariant.0 in
    let e =
    said (λ v o u. g.W.Walker.walk_gives v c.args.graph.now o u) c.in-Some-walk_next.is c.walk_next.ensures.steps in
    let a = passed_then i _ _ e (went_on c.in-Some-walk_next.is c.walk_next.ensures.goes) in
    record { stays = (a.stays, λ x h. some_of_none (sym c.loop-item.invariant.2 ∙ h)); falls = a.falls }

pub loop-item-preserved : goal.loop-item-preserved
loop-item-preserved g c =
    let e =
    said (λ v o u. g.W.Walker.walk_gives v c.args.graph.now o u) c.in-Some-walk_next.is c.walk_next.ensures.steps in
    let k = calls_item g.P.FnMut c.predicate.ensures c.if-not-predicate.false in (
      passed_more c.loop-item.invariant.0 _ _ _ e (went_on c.in-Some-walk_next.is c.walk_next.ensures.goes) k,
      on_item c.loop-item.invariant.1 _ _ _ e k,
      c.loop-item.invariant.2,
    )

pub returns-in-Some-clause-steps : goal.returns-in-Some-clause-steps
returns-in-Some-clause-steps g c =
    let i = c.loop-item.invariant.0 in
    let e =
    said (λ v o u. g.W.Walker.walk_gives v c.args.graph.now o u) c.in_default-walk_next.is c.walk_next.ensures.steps in
    record {
      gives =
          tell_some _ _ (sym c.take.ensures.value ∙ c.in-Some.is)
          (i.seen, c.loop-item.predicate, (c.loop-item.self.walker, i.gave, e), i.called, tt);
      drops = c.loop-item.invariant.2;
    }

pub returns-in-Some-clause-goes : goal.returns-in-Some-clause-goes
returns-in-Some-clause-goes g c =
    let i = c.loop-item.invariant.0 in
    let e =
    said (λ v o u. g.W.Walker.walk_gives v c.args.graph.now o u) c.in_default-walk_next.is c.walk_next.ensures.steps in
    let a = passed_then i _ _ e (went_on c.in_default-walk_next.is c.walk_next.ensures.goes) in
    record { stays = (a.stays, λ x h. some_of_none (sym c.loop-item.invariant.2 ∙ h)); falls = a.falls }

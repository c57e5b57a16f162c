use Rattle.std.proofs.Common.{refl, rules, arith}
use Rattle.std.specs.Iterator.{Yields}
use Rattle.daggy_guard.proofs.ItemsSoFar.{yields_more}
use Rattle.daggy_guard.proofs.ExtendAllLoop.{extending_starts, extending_on, stops, no_looks, few_more, few_last}
use Rattle.daggy_guard.proofs.ExtendAllLoop.{few_all}
use Rattle.daggy_guard.proofs.guard.Guarded.extend_all.Goals as goal

pub items-init : goal.items-init
items-init g c = record {
  can = search rules;
  ends = search rules;
  extending = extending_starts _;
  looked = omega arith;
  few = no_looks _ _;
}

pub items-preserved : goal.items-preserved
items-preserved g c = record {
  can = search rules;
  ends = search rules;
  extending = extending_on c.items.invariant.extending record {
    edge = _;
    is = c.into_weighted_edge-a.ensures;
    extended = c.in-Ok.ensures.extended;
    given = refl;
  };
  looked = omega (arith, c.items.invariant.looked, c.extend_by.ensures.looked);
  few = few_more c.items.invariant.few c.in-Ok.ensures.more c.extend_by.ensures.counted;
}

pub returns-in-Err-clause-stopped : goal.returns-in-Err-clause-stopped
returns-in-Err-clause-stopped g c =
    let so_far : Yields g.I.Iterator.next_gives c.args.items c.items.yielded c.items.item-iterator = search rules in
    let asked =
    yields_more g.I.Iterator.next_gives c.args.items c.items.item-iterator c.next.new.self c.items.yielded
    so_far c.next.ensures.steps c.in-Some.is in
    stops c.items.invariant.extending _ c.in-Some.item _ c.into_weighted_edge-a.ensures asked
    c.in-Err.ensures.stopped

pub returns-in-Err-clause-counted : goal.returns-in-Err-clause-counted
returns-in-Err-clause-counted g c =
    few_last c.items.invariant.few c.in-Err.ensures.as_many c.extend_by.ensures.counted

pub returns-clause-counted : goal.returns-clause-counted
returns-clause-counted g c = few_all c.items.invariant.few

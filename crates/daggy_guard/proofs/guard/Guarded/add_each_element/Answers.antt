use Rattle.std.proofs.Common.{rules}
use Rattle.std.specs.Iterator.{Yields}
use Rattle.std.proofs.lemmas.Fn.{FoldsTo-push}
use Rattle.daggy_guard.proofs.ItemsSoFar.{yields_more}
use Rattle.daggy_guard.specs.Elements.{WithElement}
use Rattle.daggy_guard.proofs.guard.Guarded.add_each_element.Goals as goal

pub items-preserved : goal.items-preserved
items-preserved g c = record {
  can = search rules;
  ends = search rules;
  made =
      FoldsTo-push (WithElement g.Ix.IndexType.greatest) _ c.items.yielded _ c.in-Some.element _ c.items.invariant.made
      c.in-Ok.ensures.added;
}

pub returns-in-Err-clause-refused : goal.returns-in-Err-clause-refused
returns-in-Err-clause-refused g c =
    let so_far : Yields g.I.Iterator.next_gives c.args.items c.items.yielded c.items.element-iterator = search rules in
    let asked =
    yields_more g.I.Iterator.next_gives c.args.items c.items.element-iterator c.next.new.self c.items.yielded
    so_far c.next.ensures.steps c.in-Some.is in
    record {
      given = c.items.yielded;
      at = c.in-Some.element;
      rest = c.next.new.self;
      asked = asked;
      mid = _;
      made = c.items.invariant.made;
      refused = c.in-Err.ensures.refused;
    }

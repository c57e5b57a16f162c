use Rattle.std.specs.List.{FoldsTo}
use Rattle.daggy_guard.specs.Elements.{WithElement}
use Rattle.daggy_guard.proofs.guard.Guarded.add_each_element.Given as goal

abbrev pub invariant-items : goal.invariant-items
invariant-items g l = record {
  can : (goal.iterator-items g).can_next l.element-iterator;
  ends : (goal.iterator-items g).is_finite l.element-iterator;
  made : FoldsTo (WithElement g.Ix.IndexType.greatest) l.fn.self.graph l.yielded l.self.graph;
}

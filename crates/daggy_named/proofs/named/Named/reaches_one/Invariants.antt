use Rattle.std.proofs.Common.{◌≡◌, ◌<◌, ℕ, get_or}
use Rattle.daggy_base.specs.Path.{Reaches}
use Rattle.daggy_named.specs.Asked.{ForNode}
use Rattle.daggy_named.proofs.named.Named.reaches_one.Given as goal

abbrev pub invariant-items : goal.invariant-items
invariant-items g l = record {
  same : l.self ≡ l.fn.self;
  none :
      (k : ℕ) (x : _) → k < l.i → get_or l.items k x ≡ x
      → ForNode (g.Q.Equivalent.equivalent x.0) l.fn.self.keys
      (λ m. Reaches l.fn.self.graph (g.Ix.IndexType.number l.n) m) → ⊥;
}

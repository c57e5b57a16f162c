use Rattle.std.proofs.Common.{◌≡◌, ◌<◌, ◌≤◌, ℕ, inl, inr, ap, sym, subst, refl, ◌∙◌}
use Rattle.std.proofs.lemmas.Bool.{false≢true, cases_lt}
use Rattle.daggy_base.specs.Adding.{next_edge, with_edge}
use Rattle.daggy_base.specs.Graph.{edge_count}
use Rattle.daggy_base.specs.Path.{Reaches}
use Rattle.daggy_named.specs.Naming.{ForNodes}
use Rattle.daggy_named.proofs.Depended.{Told, told_ok, told_error, cycle_told, ok_told, for_nodes, from_nodes}
use Rattle.daggy_named.proofs.named.Named.depend.Goals as goal
use Rattle.daggy_named.proofs.named.Named.depend.Goals.{in-Ok, in-Err}

pub returns-then-not-can_add_edge-clause-full : goal.returns-then-not-can_add_edge-clause-full
returns-then-not-can_add_edge-clause-full g c =
    let s = c.args.self.now in
    let end = g.Ix.IndexType.greatest in
    let full : end ≤ edge_count c.self.inside.dag.graph = elim (cases_lt (edge_count c.self.inside.dag.graph) end) [
      | inl below ↦ absurd (false≢true (sym c.if-not-can_add_edge.true ∙ c.can_add_edge.ensures.1 below))
      | inr above ↦ above
    ] in (
      λ _. for_nodes (g.Q.Equivalent.equivalent c.args.on) (g.Q.Equivalent.equivalent c.args.what) s.keys (λ _ _. end ≤ edge_count s.graph)
          c.in-Some.ensures.found c.in-Some-index_of.ensures.found
          (subst (λ z. end ≤ edge_count z.graph) c.self.view_is full),
      λ _. refl,
    )

pub returns-clause-cycle : goal.returns-clause-cycle
returns-clause-cycle g c =
    let t : Told c.args.weight c.add_edge.result c.match-add_edge.result = elim c.match-add_edge.branch [
      | in-Ok w ↦ told_ok w.in-Ok.e w.in-Ok.is w.result-is
      | in-Err w ↦
          told_error w.in-Err.error w.refusal.result w.in-Err.is w.result-is w.in-Err.ensures.refusal
          w.refusal.ensures.cycle w.refusal.ensures.memory
    ] in
    let s = c.args.self.now in
    let end = g.Ix.IndexType.greatest in
    let u = g.Ix.IndexType.number c.in-Some.parent in
    let v = g.Ix.IndexType.number c.in-Some-index_of.child in
    let P : ℕ → ℕ → Type 0 = λ u v. edge_count s.graph < end × Reaches s.graph v u in
    let room : edge_count c.self.inside.dag.graph < end = c.can_add_edge.ensures.0 c.if-not-can_add_edge.false in
    let decided = cycle_told t c.add_edge.ensures.cycle in (
      λ is. for_nodes (g.Q.Equivalent.equivalent c.args.on) (g.Q.Equivalent.equivalent c.args.what) s.keys P
          c.in-Some.ensures.found c.in-Some-index_of.ensures.found (
            subst (λ z. edge_count z.graph < end) c.self.view_is room,
            subst (λ z. Reaches z.graph v u) c.self.view_is (decided.0 is),
          ),
      λ at. decided.1 (subst (λ z. Reaches z.graph v u) (sym c.self.view_is)
          (from_nodes (g.Q.Equivalent.equivalent c.args.on) (g.Q.Equivalent.equivalent c.args.what) s.keys P
          c.in-Some.ensures.found c.in-Some-index_of.ensures.found at).1),
    )

pub returns-clause-added : goal.returns-clause-added
returns-clause-added g c =
    let t : Told c.args.weight c.add_edge.result c.match-add_edge.result = elim c.match-add_edge.branch [
      | in-Ok w ↦ told_ok w.in-Ok.e w.in-Ok.is w.result-is
      | in-Err w ↦
          told_error w.in-Err.error w.refusal.result w.in-Err.is w.result-is w.in-Err.ensures.refusal
          w.refusal.ensures.cycle w.refusal.ensures.memory
    ] in
    let s = c.args.self.now in
    let new = c.add_edge.new.self.graph in
    let old = c.self.inside.dag.graph in
    let u = g.Ix.IndexType.number c.in-Some.parent in
    let v = g.Ix.IndexType.number c.in-Some-index_of.child in
    let P : ℕ → ℕ → Type 0 = λ u v. new ≡ with_edge s.graph u v c.args.weight in
    ok_told
    (λ e. (g.Ix.IndexType.number e ≡ next_edge old) × (new ≡ with_edge old u v c.args.weight))
    (λ e. (g.Ix.IndexType.number e ≡ next_edge s.graph)
    × ForNodes (g.Q.Equivalent.equivalent c.args.on) (g.Q.Equivalent.equivalent c.args.what) s.keys P) t
    (λ e p. (
      p.0 ∙ ap (λ z. next_edge z.graph) c.self.view_is,
      for_nodes (g.Q.Equivalent.equivalent c.args.on) (g.Q.Equivalent.equivalent c.args.what) s.keys P
          c.in-Some.ensures.found c.in-Some-index_of.ensures.found
          (p.1 ∙ ap (λ z. with_edge z.graph u v c.args.weight) c.self.view_is),
    ))
    c.add_edge.ensures.added

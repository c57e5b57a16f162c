use Rattle.std.proofs.Common.{◌≡◌, ◌≢◌, ◌∙◌, ◌<◌, ◌+◌, ℕ, None, List, reverse, vec_len, sym, ap}
use Rattle.std.proofs.lemmas.Result.{IfOk-weaker}
use Rattle.daggy_base.specs.Graph.{edge_count}
use Rattle.daggy_base.specs.declared.kind.Kind.TheVariants.{Stable}
use Rattle.daggy_guard.specs.Parents.{edges_to, entering, HasParentsSet, KeepsOtherEdges, ReachesParent}
use Rattle.daggy_named.specs.Dependencies.{first_unknown}
use Rattle.daggy_named.proofs.Depended.{for_node}
use Rattle.daggy_named.proofs.DependenciesSet.{for_parents, from_parents}
use Rattle.daggy_named.proofs.named.Named.set_dependencies.Given.{Over}
use Rattle.daggy_named.proofs.named.Named.set_dependencies.Goals.{After-set_known}
use Rattle.daggy_named.proofs.named.Named.set_dependencies.Goals as goal

known : (g : Over) (c : After-set_known g)
    → first_unknown g.Q.Equivalent.equivalent c.args.self.now.keys c.args.items.items ≡ None
known g c =
    ap (first_unknown g.Q.Equivalent.equivalent c.args.self.now.keys) (sym c.as_slice.ensures.value)
    ∙ sym c.find_unknown.ensures ∙ c.in_default-find_unknown.is

pub returns-clause-cycle : goal.returns-clause-cycle
returns-clause-cycle g c =
    let keys = c.args.self.now.keys in
    let same = g.Q.Equivalent.equivalent in
    let P : ℕ → List (ℕ × g.row.E.Denot) → Type 0 = λ n parents. ReachesParent (λ u. u) c.args.self.now.graph n parents in
    let told = c.set_known.ensures.cycle in (
      λ t. for_parents same keys (same c.args.key) c.args.items.items P c.in-Some.ensures.found
          (known g (goal.at.returns-clause-cycle g c).After-set_known) (told.0 t),
      λ h. told.1 (from_parents same keys (same c.args.key) c.args.items.items P c.in-Some.ensures.found h),
    )

pub returns-clause-full : goal.returns-clause-full
returns-clause-full g c =
    let keys = c.args.self.now.keys in
    let graph = c.args.self.now.graph in
    let same = g.Q.Equivalent.equivalent in
    let P : ℕ → List (ℕ × g.row.E.Denot) → Type 0 = λ n parents. (¬ ReachesParent (λ u. u) graph n parents)
    × (g.Ix.IndexType.greatest < edge_count graph + vec_len c.args.items) in
    let told = c.set_known.ensures.full in (
      λ t. for_parents same keys (same c.args.key) c.args.items.items P c.in-Some.ensures.found
          (known g (goal.at.returns-clause-full g c).After-set_known) (told.0 t),
      λ h. told.1 (from_parents same keys (same c.args.key) c.args.items.items P c.in-Some.ensures.found h),
    )

pub returns-clause-set : goal.returns-clause-set
returns-clause-set g c =
    let same = g.Q.Equivalent.equivalent in
    let P : ℕ → List (ℕ × g.row.E.Denot) → Type 0 = λ n parents.
    HasParentsSet Stable n (edges_to (λ u. u) n parents) c.args.self.now.graph c.set_known.new.self.graph in
    IfOk-weaker c.set_known.result _ _ (λ _ done. for_parents same c.args.self.now.keys (same c.args.key) c.args.items.items P
    c.in-Some.ensures.found (known g (goal.at.returns-clause-set g c).After-set_known) done) c.set_known.ensures.set

pub returns-clause-parents : goal.returns-clause-parents
returns-clause-parents g c =
    let same = g.Q.Equivalent.equivalent in
    let P : ℕ → List (ℕ × g.row.E.Denot) → Type 0 = λ n parents.
    entering c.set_known.new.self.graph n ≡ reverse parents in
    IfOk-weaker c.set_known.result _ _ (λ _ done. for_parents same c.args.self.now.keys (same c.args.key) c.args.items.items P
    c.in-Some.ensures.found (known g (goal.at.returns-clause-parents g c).After-set_known) done)
    c.set_known.ensures.parents

pub returns-clause-others : goal.returns-clause-others
returns-clause-others g c =
    let P : ℕ → Type 0 = λ n. (m : ℕ) → m ≢ n
    → entering c.set_known.new.self.graph m ≡ entering c.args.self.now.graph m in
    IfOk-weaker c.set_known.result _ _ (λ _ done. for_node (g.Q.Equivalent.equivalent c.args.key) c.args.self.now.keys P
    c.in-Some.ensures.found done) c.set_known.ensures.others

pub returns-clause-keeps : goal.returns-clause-keeps
returns-clause-keeps g c =
    let P : ℕ → Type 0 = λ n. KeepsOtherEdges n c.args.self.now.graph c.set_known.new.self.graph in
    IfOk-weaker c.set_known.result _ _ (λ _ done. for_node (g.Q.Equivalent.equivalent c.args.key) c.args.self.now.keys P
    c.in-Some.ensures.found done) c.set_known.ensures.keeps

use Rattle.std.proofs.Common.{◌≡◌, ◌≢◌, ◌<◌, ◌≤◌, ◌+◌, ◌∙◌, ℕ, length, get_or, set, sym, ap, arith}
use Rattle.std.proofs.lemmas.Bool.{false≢true, eq-eqb, eqb-true}
use Rattle.daggy_base.specs.Path.{AreJoined}
use Rattle.daggy_operators.proofs.Wholes.{exists_low}
use Rattle.daggy_operators.proofs.Distances.{measured_node, measured_more, measured_all}
use Rattle.daggy_operators.proofs.simple_paths.distances_to.Given.{Over}
use Rattle.daggy_operators.proofs.simple_paths.distances_to.Goals.{In-Some, then-eq, else-eq}
use Rattle.daggy_operators.proofs.simple_paths.distances_to.Goals as goal

node_low : (g : Over) (c : In-Some g) → g.Ix.IndexType.number c.in-Some.n < length c.nodes.distances.items
node_low g c =
    let has = measured_node c.requires c.nodes.invariant c.next_back.new.self (g.Ix.IndexType.number c.in-Some.n) c.in-Some.ensures.steps in
    let low = exists_low (g.S.EdgeSource.graph c.args.store.now) (g.Ix.IndexType.number c.in-Some.n) has in
    omega (arith, low, c.nodes.invariant.sized)

pub index_mut-requires : goal.index_mut-requires
index_mut-requires g c =
    let low = node_low g (goal.at.index_mut-requires g c).In-Some in
    omega (arith, low, c.index.ensures.value, c.nodes.distances.ok.0)

pub nodes-preserved : goal.nodes-preserved
nodes-preserved g c =
    let distances = c.nodes.distances.items in
    let n = g.Ix.IndexType.number c.in-Some.n in
    let to = g.Ix.IndexType.number c.args.to in
    let here : n ≡ to → c.if-eq.distance ≡ 0 = λ same. elim c.if-eq.branch [
      | then-eq w ↦ w.distance-is
      | else-eq w ↦ absurd (false≢true (sym w.if-eq.false ∙ c.eq.ensures ∙ eq-eqb n to same))
    ] in
    let next : n ≢ to → (v : ℕ) → AreJoined (g.S.EdgeSource.graph c.args.store.now) n v → c.if-eq.distance ≤ get_or distances v 0 + 1 =
    λ other v j. elim c.if-eq.branch [
      | then-eq w ↦ absurd (other (eqb-true n to (sym c.eq.ensures ∙ w.if-eq.true)))
      | else-eq w ↦ (let near = w.distance_by_children-distance.ensures v j in omega (arith, near, w.distance-is))
    ] in
    measured_more c.requires c.nodes.invariant c.next_back.new.self n c.in-Some.ensures.steps c.if-eq.distance here next
    (node_low g (goal.at.nodes-preserved g c).In-Some) (set distances c.index.result c.if-eq.distance)
    (ap (λ z. set distances z c.if-eq.distance) c.index.ensures.value)

pub returns-clause-none_shorter : goal.returns-clause-none_shorter
returns-clause-none_shorter g c =
    measured_all c.requires c.nodes.invariant c.invariant.ensures.well_formed c.in_default.ensures.steps.0

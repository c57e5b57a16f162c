use Rattle.std.proofs.Common.{◌≡◌, ◌++◌, map, reverse, sym, ap, ◌∙◌, append-nil}
use Rattle.std.specs.Prelude.{option_copied}
use Rattle.daggy_base.specs.declared.index.Direction.TheVariants.{Incoming}
use Rattle.daggy_base.specs.Graph.{in_list}
use Rattle.daggy_dag.specs.Walks.{rest_of_walk}
use Rattle.daggy_dag.proofs.WalkSteps.{whole_walk}
use Rattle.daggy_computed.proofs.Entering.{shown, shown_ahead, map_back}
use Rattle.daggy_computed.proofs.Walked.{over, shorter}
use Rattle.daggy_computed.proofs.parents.entering_edges.Goals as goal

pub edges-init : goal.edges-init
edges-init g c =
    let number = g.Ix.IndexType.number in
    let graph = g.S.EdgeSource.graph c.args.store.now in
    let cursor = number c.first_edge-cursor.result in
    let rest : rest_of_walk Incoming graph cursor ≡ in_list graph (number c.args.n) =
    ap (rest_of_walk Incoming graph) c.first_edge-cursor.ensures
    ∙ whole_walk g.Ix.IndexType.greatest graph c.invariant.ensures.well_formed Incoming (number c.args.n) in
    ap (λ z. map (λ x. (number x.0, x.1)) z ++ shown graph (rest_of_walk Incoming graph cursor)) c.new-found.ensures.items
    ∙ ap (shown graph) rest

pub edges-smaller : goal.edges-smaller
edges-smaller g c =
    shorter g.Ix.IndexType.number Incoming c.invariant.ensures.well_formed c.in-Some.item c.in-Some.ensures

pub edges-preserved : goal.edges-preserved
edges-preserved g c =
    let number = g.Ix.IndexType.number in
    let graph = g.S.EdgeSource.graph c.args.store.now in
    shown_ahead number c.invariant.ensures.well_formed c.in-Some.item c.in-Some.ensures c.edges.found.items
    c.push.new.self.items c.unwrap-weight.result.now (shown graph (in_list graph (number c.args.n)))
    (sym (ap option_copied c.unwrap-weight.ensures) ∙ c.edge_weight.ensures) c.in_ok-push.ensures.items c.edges.invariant

pub returns : goal.returns
returns g c =
    let number = g.Ix.IndexType.number in
    let graph = g.S.EdgeSource.graph c.args.store.now in
    let none = over number Incoming c.invariant.ensures.well_formed _ c.in_default.is c.step.ensures in
    let found = c.edges.found.items in
    ap (map (λ x. (number x.0, x.1))) c.reverse.ensures.items
    ∙ (map_back (λ x. (number x.0, x.1)) found
    ∙ ap reverse
    (sym (append-nil (map (λ x. (number x.0, x.1)) found))
    ∙ (ap (λ z. map (λ x. (number x.0, x.1)) found ++ shown graph z) (sym none) ∙ c.edges.invariant)))

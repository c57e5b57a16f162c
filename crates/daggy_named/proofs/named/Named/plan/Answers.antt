use Rattle.std.proofs.Common.{map, subst}
use Rattle.daggy_base.specs.Graph.{HasNode}
use Rattle.daggy_run.specs.Plans.{stages_of, IsPlan, IsByLevels, IsChain, IsShortest}
use Rattle.daggy_named.proofs.NamedNodes.{each_number}
use Rattle.daggy_named.proofs.PlansByKey.{stages_exist, chain_exists}
use Rattle.daggy_named.proofs.named.Named.plan.Goals as goal

pub keys_of_stages-requires : goal.keys_of_stages-requires
keys_of_stages-requires g c =
    let graph = c.args.self.now.graph in
    let nodes = stages_of g.Ix.IndexType.number c.in_ok-found.found.stages.items in
    rw c.as_slice.ensures.value (stages_exist graph nodes (subst (λ z. IsPlan z.graph nodes) c.self.view_is
    c.in_ok-found.ensures.plan))

pub keys_of-requires : goal.keys_of-requires
keys_of-requires g c =
    let number = g.Ix.IndexType.number in
    let graph = c.args.self.now.graph in
    let nodes = stages_of number c.in_ok-found.found.stages.items in
    let path = map number c.in_ok-found.found.chain.items in
    let chain = subst (λ z. IsChain z.graph nodes path) c.self.view_is c.in_ok-found.ensures.chain in
    rw c.as_slice-2.ensures.value (each_number (HasNode graph) number c.in_ok-found.found.chain.items
    (chain_exists graph path chain.path))

pub returns : goal.returns
returns g c =
    let number = g.Ix.IndexType.number in
    let nodes = stages_of number c.in_ok-found.found.stages.items in
    let path = map number c.in_ok-found.found.chain.items in
    let found = c.in_ok-found.ensures in
    record {
      nodes = nodes;
      path = path;
      nodes_named = rw (← c.as_slice.ensures.value) c.in_ok-stages.ensures;
      path_named = rw (← c.as_slice-2.ensures.value) c.in_ok-chain.ensures;
      plan = subst (λ z. IsPlan z.graph nodes) c.self.view_is found.plan;
      by_levels = subst (λ z. IsByLevels z.graph nodes) c.self.view_is found.by_levels;
      along = subst (λ z. IsChain z.graph nodes path) c.self.view_is found.chain;
      shortest = subst (λ z. IsShortest z.graph nodes) c.self.view_is found.shortest;
    }

use Rattle.std.proofs.Common.{◌≡◌, ℕ, ◌↔◌, Some, map, subst, Contains, IfOk}
use Rattle.std.proofs.lemmas.Result.{IfOk-weaker}
use Rattle.daggy_base.specs.Graph.{HasNode}
use Rattle.daggy_schedule.specs.Fallible.{IsOver, IsSkipped}
use Rattle.daggy_schedule.specs.Work.{IsSet}
use Rattle.daggy_named.specs.Asked.{AreKeysOf}
use Rattle.daggy_named.specs.Naming.{key_at}
use Rattle.daggy_named.specs.Working.{AreSkipped}
use Rattle.daggy_named.proofs.NamedNodes.{each_number}
use Rattle.daggy_named.proofs.WorkCounts.{skipped_exist}
use Rattle.daggy_named.proofs.named.ready.ReadyKeys.skipped.Given.{Over}
use Rattle.daggy_named.proofs.named.ready.ReadyKeys.skipped.Goals.{In_ok-nodes}
use Rattle.daggy_named.proofs.named.ready.ReadyKeys.skipped.Goals as goal

-- what was found, in the graph of the dag
found : (g : Over) (c : In_ok-nodes g)
    → AreSkipped c.self.inside.named.now.graph c.self.inside.ready (map g.Ix.IndexType.number c.in_ok-nodes.nodes.items)
found g c =
    let queue = c.self.inside.ready in
    let nodes = map g.Ix.IndexType.number c.in_ok-nodes.nodes.items in
    record {
      exact = subst (λ z. (n : ℕ) → Contains nodes n ↔ IsSkipped z queue n) c.dag.ensures c.in_ok-nodes.ensures.exact;
      ascending = c.in_ok-nodes.ensures.ascending;
      over =
          subst (λ z. IsOver queue → (n : ℕ) → Contains nodes n ↔ (HasNode z n × ¬ IsSet queue.work.out n)) c.dag.ensures
          c.in_ok-nodes.ensures.over;
    }

pub keys_of-requires : goal.keys_of-requires
keys_of-requires g c =
    let number = g.Ix.IndexType.number in
    let graph = c.self.inside.named.now.graph in
    let items = c.in_ok-nodes.nodes.items in
    rw c.as_slice.ensures.value (each_number (HasNode graph) number items
    (skipped_exist graph c.self.inside.ready (map number items) (found g (goal.at.keys_of-requires g c).In_ok-nodes).exact))

pub returns : goal.returns
returns g c =
    let number = g.Ix.IndexType.number in
    let nodes = map number c.in_ok-nodes.nodes.items in
    let keys = c.self.inside.named.now.keys in
    let queue = c.self.inside.ready in
    let graph = c.self.inside.named.now.graph in
    let skipped = found g (goal.at.returns g c).In_ok-nodes in
    subst (λ s. IfOk c.keys_of.result (λ r. AreKeysOf s.named.keys (AreSkipped s.named.graph s.queue) (map (λ k. k.now) r.items)))
    c.self.view_is
    (IfOk-weaker c.keys_of.result _ (λ r. AreKeysOf keys (AreSkipped graph queue) (map (λ k. k.now) r.items)) (λ r is. (
      nodes,
      subst (λ xs. map (key_at keys) (map number xs) ≡ map Some (map (λ k. k.now) r.items)) c.as_slice.ensures.value is,
      skipped,
    )) c.keys_of.ensures)

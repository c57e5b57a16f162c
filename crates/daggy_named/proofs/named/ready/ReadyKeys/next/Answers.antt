use Rattle.std.proofs.Common.{◌≡◌, Some, sym, ap, subst, ◌∙◌}
use Rattle.std.specs.Option.{option_copied}
use Rattle.daggy_named.specs.Asked.{ForNode}
use Rattle.daggy_named.specs.Naming.{index_by}
use Rattle.daggy_named.specs.Working.{remaining_of}
use Rattle.daggy_schedule.specs.Fallible.{IsSkipped}
use Rattle.daggy_named.proofs.NamedNodes.{has_key, lent_some, index_named}
use Rattle.daggy_named.proofs.WorkCounts.{first_exists, remaining_less}
use Rattle.daggy_named.proofs.named.ready.ReadyKeys.next.Given.{Over}
use Rattle.daggy_named.proofs.named.ready.ReadyKeys.next.Goals.{After-unwrap}
use Rattle.daggy_named.proofs.named.ready.ReadyKeys.next.Goals as goal

pub unwrap-requires : goal.unwrap-requires
unwrap-requires g c =
    let named = c.self.inside.named.now in
    lent_some c.key_of.result c.key_of.ensures (has_key named.keys named.graph c.node_count-count.ensures.named.exact
    (g.Ix.IndexType.number c.in_ok-n.n)
    (first_exists named.graph c.self.invariant.under_way c.in_ok-n.ensures.first))

-- the key leads to the node
found : (g : Over) (c : After-unwrap g)
    → index_by (g.K.PartialEq.eq c.unwrap.result.now) c.self.inside.named.now.keys ≡ Some (g.Ix.IndexType.number c.in_ok-n.n)
found g c =
    index_named g.met.K.Eq.laws c.self.inside.named.now c.node_count-count.ensures.named (g.Ix.IndexType.number c.in_ok-n.n)
    c.unwrap.result.now (sym c.key_of.ensures ∙ ap option_copied c.unwrap.ensures)

pub returns-clause-is_out : goal.returns-clause-is_out
returns-clause-is_out g c = (
  g.Ix.IndexType.number c.in_ok-n.n,
  found g c,
  c.in_ok-n.ensures.in_progress,
)

pub returns-clause-not_skipped : goal.returns-clause-not_skipped
returns-clause-not_skipped g c =
    let n = g.Ix.IndexType.number c.in_ok-n.n in
    subst (λ s. ForNode (g.K.PartialEq.eq c.unwrap.result.now) s.named.keys (λ m. ¬ IsSkipped s.named.graph s.queue m)) c.self.view_is (
      n,
      found g c,
      subst (λ z. ¬ IsSkipped z c.self.inside.ready n) c.dag.ensures c.in_ok-n.ensures.not_skipped,
    )

pub returns-clause-fewer : goal.returns-clause-fewer
returns-clause-fewer g c =
    remaining_less c.self.inside.named.now.graph c.self.invariant.under_way c.in_ok-n.ensures.first
    ∙ ap (λ s. remaining_of s.named.graph s.queue.work) c.self.view_is

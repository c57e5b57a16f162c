use Rattle.std.proofs.Common.{map, sym, subst, Contains}
use Rattle.std.proofs.lemmas.List.{take_all}
use Rattle.daggy_computed.specs.Cells.{IsStaleAt}
use Rattle.daggy_computed.proofs.Ancestry.{listed_number, one_more_listed}
use Rattle.daggy_computed.proofs.needed.none_stale_among.Goals as goal

pub returns-then-is_stale : goal.returns-then-is_stale
returns-then-is_stale g c =
    let number = g.Ix.IndexType.number in
    let nodes = c.args.nodes.now in (
      λ t. absurd cc,
      λ h. absurd (h (number c.index-nodes-i.result) (listed_number number nodes c.nodes.i c.index-nodes-i.result c.nodes-test.true c.index-nodes-i.is)
          (subst (IsStaleAt c.args.entries.now) c.index.ensures.value (c.is_stale.ensures.0 cc))),
    )

pub nodes-preserved : goal.nodes-preserved
nodes-preserved g c =
    let number = g.Ix.IndexType.number in
    let nodes = c.args.nodes.now in
    one_more_listed number nodes c.nodes.i c.index-nodes-i.result (IsStaleAt c.args.entries.now) c.nodes-test.true c.index-nodes-i.is c.nodes.invariant
    (λ s. (let t = c.is_stale.ensures.1 (subst (IsStaleAt c.args.entries.now) (sym c.index.ensures.value) s) in cc))

pub returns : goal.returns
returns g c =
    let number = g.Ix.IndexType.number in
    let nodes = c.args.nodes.now in (
      λ t m k s. c.nodes.invariant m (subst (λ z. Contains (map number z) m) (sym (take_all c.nodes.i nodes c.nodes-test.false)) k) s,
      λ h. cc,
    )

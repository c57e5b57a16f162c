use Rattle.std.proofs.Common.{◌≡◌, ◌≢◌, ◌<◌, ◌≤◌, ◌+◌, ℕ, length, sym, ap, ◌∙◌, get_or, inl, inr, subst, arith}
use Rattle.std.proofs.lemmas.Bool.{cases_lt}
use Rattle.daggy_base.specs.Path.{AreJoined}
use Rattle.daggy_base.specs.Ordered.{place}
use Rattle.daggy_base.proofs.EdgeEnds.{parent_low, child_low}
use Rattle.daggy_base.proofs.OutEdgesRead.{below_bound}
use Rattle.daggy_base.proofs.PathsWithNode.{bound_low}
use Rattle.daggy_reduction.proofs.PlacedNodes.{order_short}
use Rattle.daggy_reduction.proofs.spans.is_near.Given.{Over}
use Rattle.daggy_reduction.proofs.spans.is_near.Goals.{After-number_nodes, Then-last-end}
use Rattle.daggy_reduction.proofs.spans.is_near.Goals.{else-last-end-via-then-last-end+else-index-gt-BLOCK}
use Rattle.daggy_reduction.proofs.spans.is_near.Goals.{else-last-end-via-else-last-end}
use Rattle.daggy_reduction.proofs.spans.is_near.Goals as goal

-- the noted child of a node, if it is not the end
child : (g : Over) (c : After-number_nodes g) (u : ℕ)
    → get_or c.number_nodes.new.work.nodes u g.Ix.IndexType.greatest ≢ g.Ix.IndexType.greatest
    → AreJoined (g.S.EdgeSource.graph c.args.source.now) u (get_or c.number_nodes.new.work.nodes u g.Ix.IndexType.greatest)
child g c u some =
    let end = g.Ix.IndexType.greatest in
    let same = ap (λ z. get_or z u end) c.number_nodes.ensures.same in
    elim (c.requires.last.joined u) [
      | inl none ↦ absurd (some (same ∙ none))
      | inr j ↦ subst (AreJoined (g.S.EdgeSource.graph c.args.source.now) u) (sym same) j
    ]

-- the places of both
places : (g : Over) (c : After-number_nodes g) (u v : ℕ) → AreJoined (g.S.EdgeSource.graph c.args.source.now) u v
    → (v < length c.number_nodes.new.work.cursors)
    × (get_or c.number_nodes.new.work.cursors u 0 ≡ place c.args.order.now u)
    × (get_or c.number_nodes.new.work.cursors v 0 ≡ place c.args.order.now v)
places g c u v j =
    let w = c.node_bound-well_formed.ensures.well_formed in (
      omega (arith, child_low w j.0 _ j.2, c.requires.fits, c.number_nodes.ensures.kept.cursors_are),
      c.number_nodes.ensures.places u ((c.requires.ordered.exact u).1 (w.parents j.0 _ j.2)),
      c.number_nodes.ensures.places v ((c.requires.ordered.exact v).1 (w.children j.0 _ j.2)),
    )

-- what was read is not the end
not_end : (g : Over) (c : Then-last-end g)
    → get_or c.number_nodes.new.work.nodes c.nodes.i g.Ix.IndexType.greatest ≢ g.Ix.IndexType.greatest
not_end g c e =
    c.if-last-end.true
    (c.index-last.ensures.value ∙ c.node.ensures g.Ix.IndexType.greatest ∙ e
    ∙ sym (c.index-end.ensures.value ∙ c.end.ensures.value))

pub number_nodes-requires-clause-low : goal.number_nodes-requires-clause-low
number_nodes-requires-clause-low g c n there =
    omega (
      arith,
      below_bound (g.S.EdgeSource.graph c.args.source.now).nodes n ((c.requires.ordered.exact n).0 there),
      c.requires.fits,
    )

pub number_nodes-requires-clause-few : goal.number_nodes-requires-clause-few
number_nodes-requires-clause-few g c =
    omega (
      arith,
      order_short c.args.order.now c.requires.ordered,
      bound_low (g.S.EdgeSource.graph c.args.source.now).nodes,
      c.node_bound-well_formed.ensures.well_formed.few_nodes,
    )

pub cursor-requires : goal.cursor-requires
cursor-requires g c =
    let at = goal.at.cursor-requires g c in
    let end = g.Ix.IndexType.greatest in
    let joined = child g at.After-number_nodes c.nodes.i (not_end g at.Then-last-end) in
    omega (
      arith,
      (places g at.After-number_nodes c.nodes.i _ joined).0,
      c.index-last.ensures.value,
      c.node.ensures end,
    )

pub overflow_sub-index : goal.overflow_sub-index
overflow_sub-index g c =
    let at = goal.at.overflow_sub-index g c in
    let end = g.Ix.IndexType.greatest in
    let j = child g at.After-number_nodes c.nodes.i (not_end g at.Then-last-end) in
    let p = places g at.After-number_nodes c.nodes.i _ j in
    omega (
      arith,
      p.1,
      p.2,
      c.requires.ordered.sorted c.nodes.i _ j,
      c.index.ensures.value,
      c.cursor.ensures 0,
      ap (λ z. get_or c.number_nodes.new.work.cursors z 0) (c.index-last.ensures.value ∙ c.node.ensures end),
      c.index-then-last-end.ensures.value,
      c.cursor-then-last-end.ensures 0,
    )

pub nodes-preserved : goal.nodes-preserved
nodes-preserved g c u low some =
    let at = goal.at.nodes-preserved g c in
    let end = g.Ix.IndexType.greatest in
    let nodes = c.number_nodes.new.work.nodes in
    let cursors = c.number_nodes.new.work.cursors in
    let order = c.args.order.now in
    elim (cases_lt u c.nodes.i) [
      | inl before ↦ c.nodes.invariant u before some
      | inr past ↦
          (let is : u ≡ c.nodes.i = omega (arith, low, past) in
          let here : get_or nodes c.nodes.i end ≢ end = subst (λ z. get_or nodes z end ≢ end) is some in
          let read : c.index-last.result ≡ get_or nodes c.nodes.i end = c.index-last.ensures.value ∙ c.node.ensures end in
          subst (λ z. place order (get_or nodes z end) ≤ place order z + 512) (sym is)
          (elim c.else-last-end.branch [
            | else-last-end-via-then-last-end+else-index-gt-BLOCK w ↦
                (let p = places g at.After-number_nodes c.nodes.i _ (child g at.After-number_nodes c.nodes.i here) in
                omega (
                  arith,
                  p.1,
                  p.2,
                  w.if-index-gt-BLOCK.false,
                  w.index.ensures.value,
                  w.cursor.ensures 0,
                  ap (λ z. get_or cursors z 0) read,
                  w.index-then-last-end.ensures.value,
                  w.cursor-then-last-end.ensures 0,
                ))
            | else-last-end-via-else-last-end w ↦
                absurd (here (sym read ∙ w.if-last-end.false ∙ c.index-end.ensures.value ∙ c.end.ensures.value))
          ]))
    ]

pub returns-clause-near : goal.returns-clause-near
returns-clause-near g c told u v j =
    let same = ap (λ z. get_or z u g.Ix.IndexType.greatest) c.number_nodes.ensures.same in
    omega (
      arith,
      c.requires.last.last u v j,
      ap (place c.args.order.now) same,
      c.nodes.invariant u
          (omega (
            arith,
            parent_low c.node_bound-well_formed.ensures.well_formed j.0 _ j.2,
            c.requires.fits,
            c.nodes-test.false,
            c.nodes.auto.i-end,
            c.len-i-end.ensures,
            c.number_nodes.ensures.kept.size_is,
          ))
          (λ e. c.requires.last.some u v j (sym same ∙ e)),
    )

use Rattle.std.proofs.Common.{◌≡◌, ◌≢◌, ◌+◌, ◌≤◌, ◌<◌, ◌∙◌, ◌∷◌, [], ℕ, sym, ap, subst, arith, map, get_or, reverse}
use Rattle.std.proofs.Common.{List}
use Rattle.std.specs.List.{Contains}
use Rattle.std.proofs.lemmas.List.{map-append}
use Rattle.daggy_base.specs.Graph.{HasNode}
use Rattle.daggy_base.specs.Path.{AreJoined}
use Rattle.daggy_base.specs.Ordered.{place, stretch, edges_from}
use Rattle.daggy_order.specs.Links.{Stored, IsLabelled}
use Rattle.daggy_order.proofs.OrderEdgeResult.{lower_label, ascending, placed, between}
use Rattle.daggy_order.proofs.WaysBack.{back_more, came_back, map_reverse}
use Rattle.daggy_order.proofs.order.path.path_before.Given.{Over}
use Rattle.daggy_order.proofs.order.path.path_before.Goals.{After-label-limit, After-note_parents, After-node-n}
use Rattle.daggy_order.proofs.order.path.path_before.Goals as goal

-- the labels ascend along the list, and the limit is the label of `to`
labelled : (g : Over) (c : After-label-limit g) → IsLabelled c.list.inside.links.labels c.args.list.now.nodes
labelled g c =
    let P : Stored → Type 0 = λ z. IsLabelled c.list.inside.links.labels z.nodes in
    subst P c.list.view_is c.list.invariant

limit_is : (g : Over) (c : After-label-limit g)
    → c.label-limit.result ≡ get_or c.list.inside.links.labels (g.Ix.IndexType.number c.args.to) 0
limit_is g c = c.label-limit.ensures ∙ ap (λ z. get_or c.list.inside.links.labels z 0) c.index.ensures.value

-- all looks are at edges that leave the nodes between
few : (g : Over) (c : After-label-limit g) (looks : ℕ)
    → ((ns : List ℕ) → ((n : ℕ) → HasNode (g.S.EdgeSource.graph c.args.source.now) n
    → get_or c.list.inside.links.labels (g.Ix.IndexType.number c.args.from) 0 ≤ get_or c.list.inside.links.labels n 0
    → get_or c.list.inside.links.labels n 0 < c.label-limit.result → Contains ns n)
    → looks ≤ g.S.EdgeSource.looks c.args.source.now + edges_from (g.S.EdgeSource.graph c.args.source.now) ns)
    → looks
    ≤ g.S.EdgeSource.looks c.args.source.now
    + edges_from (g.S.EdgeSource.graph c.args.source.now)
    (stretch c.args.list.now.nodes (place c.args.list.now.nodes (g.Ix.IndexType.number c.args.from))
    (place c.args.list.now.nodes (g.Ix.IndexType.number c.args.to)))
few g c looks counted =
    counted _ (λ n h above below.
    between c.contains_node-exists.ensures.well_formed c.requires.ordered (labelled g c) (g.Ix.IndexType.number c.args.to)
    (g.Ix.IndexType.number c.args.from) c.requires.to c.requires.from n h above (omega (arith, below, limit_is g c)))

-- n is not the first node, and what is noted for it is its parent
away : (g : Over) (c : After-node-n g) → g.Ix.IndexType.number c.back.n ≢ g.Ix.IndexType.number c.args.from
away g c = λ h. c.back-test.true cc

parent_is : (g : Over) (c : After-node-n g)
    → g.Ix.IndexType.number c.node-n.result
    ≡ get_or c.note_parents.new.work.cursors (g.Ix.IndexType.number c.back.n) 0
parent_is g c =
    c.node-n.ensures.value
    ∙ (c.cursor.ensures 0 ∙ ap (λ z. get_or c.note_parents.new.work.cursors z 0) c.index-in-back-3.ensures.value)

pub label-limit-requires : goal.label-limit-requires
label-limit-requires g c =
    let P : Stored → Type 0 = λ z. IsLabelled c.list.inside.links.labels z.nodes in
    omega (
      arith,
      c.index.ensures.value,
      placed c.contains_node-exists.ensures.well_formed c.requires.ordered (subst P c.list.view_is c.list.invariant) _
          c.requires.to,
    )

pub note_parents-requires-clause-placed : goal.note_parents-requires-clause-placed
note_parents-requires-clause-placed g c =
    placed c.contains_node-exists.ensures.well_formed c.requires.ordered
    (labelled g (goal.at.note_parents-requires-clause-placed g c).After-label-limit)

pub note_parents-requires-clause-ascending : goal.note_parents-requires-clause-ascending
note_parents-requires-clause-ascending g c =
    ascending c.contains_node-exists.ensures.well_formed c.requires.ordered
    (labelled g (goal.at.note_parents-requires-clause-ascending g c).After-label-limit)

pub note_parents-requires-clause-before : goal.note_parents-requires-clause-before
note_parents-requires-clause-before g c =
    let at = (goal.at.note_parents-requires-clause-before g c).After-label-limit in
    omega (
      arith,
      lower_label c.contains_node-exists.ensures.well_formed c.requires.ordered (labelled g at)
          (g.Ix.IndexType.number c.args.from) (g.Ix.IndexType.number c.args.to) c.requires.from c.requires.to c.requires.before,
      limit_is g at,
    )

pub returns-then-not-note_parents-clause-counted : goal.returns-then-not-note_parents-clause-counted
returns-then-not-note_parents-clause-counted g c =
    few g (goal.at.returns-then-not-note_parents-clause-counted g c).After-label-limit _ c.note_parents.ensures.counted

pub returns-in_err-push-clause-counted : goal.returns-in_err-push-clause-counted
returns-in_err-push-clause-counted g c =
    few g (goal.at.returns-in_err-push-clause-counted g c).After-label-limit _ c.note_parents.ensures.counted

pub returns-in_err-push-2-clause-counted : goal.returns-in_err-push-2-clause-counted
returns-in_err-push-2-clause-counted g c =
    few g (goal.at.returns-in_err-push-2-clause-counted g c).After-label-limit _ c.note_parents.ensures.counted

pub returns-clause-counted : goal.returns-clause-counted
returns-clause-counted g c =
    few g (goal.at.returns-clause-counted g c).After-label-limit _ c.note_parents.ensures.counted

pub back-smaller : goal.back-smaller
back-smaller g c =
    let at = (goal.at.back-smaller g c).After-node-n in
    let n = g.Ix.IndexType.number c.back.n in
    let J : ℕ → Type 0 = λ z. AreJoined (g.S.EdgeSource.graph c.args.source.now) z n in
    let t = c.back.invariant.lead.noted.noted n c.back.invariant.here (away g at) in
    c.requires.ordered.sorted (g.Ix.IndexType.number c.node-n.result) n (subst J (sym (parent_is g at)) t.joined)

pub back-preserved : goal.back-preserved
back-preserved g c =
    let at = (goal.at.back-preserved g c).After-node-n in
    let number = g.Ix.IndexType.number in
    back_more c.contains_node-exists.ensures.well_formed c.back.invariant (away g at)
    (ap (map number) c.in_ok-push.ensures.items ∙ map-append number c.back.path.items (c.back.n ∷ [])) (parent_is g at)

pub returns-clause-path : goal.returns-clause-path
returns-clause-path g c =
    let number = g.Ix.IndexType.number in
    let is : number c.back.n ≡ number c.args.from = cc in
    came_back c.contains_node-exists.ensures.well_formed c.back.invariant is (map number c.reverse.new.self.items)
    (ap (map number) c.reverse.ensures.items
    ∙ (map_reverse number c.push-2.new.self.items
    ∙ ap reverse
    (ap (map number) c.in_ok-push-2.ensures.items ∙ map-append number c.back.path.items (c.back.n ∷ []))))

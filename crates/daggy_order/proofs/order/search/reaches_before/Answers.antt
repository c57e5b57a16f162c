use Rattle.std.proofs.Common.{◌≡◌, ◌∙◌, sym, ap, subst, arith}
use Rattle.std.proofs.Common.{get_or}
use Rattle.std.proofs.lemmas.Option.{IfSome_then}
use Rattle.daggy_order.specs.Links.{Stored, IsLabelled}
use Rattle.daggy_base.proofs.PathEnds.{reached_exists}
use Rattle.daggy_order.proofs.OrderEdgeResult.{lower_label, lower_earlier, ascending, placed, between}
use Rattle.daggy_order.proofs.order.search.reaches_before.Given.{Over}
use Rattle.daggy_order.proofs.order.search.reaches_before.Goals.{After-label-limit}
use Rattle.daggy_order.proofs.order.search.reaches_before.Goals as goal

-- the labels ascend along the list, and the limit is the label of `to`
labelled : (g : Over) (c : After-label-limit g) → IsLabelled c.list.inside.links.labels c.args.list.now.nodes
labelled g c =
    let P : Stored → Type 0 = λ z. IsLabelled c.list.inside.links.labels z.nodes in
    subst P c.list.view_is c.list.invariant

limit_is : (g : Over) (c : After-label-limit g)
    → c.label-limit.result ≡ get_or c.list.inside.links.labels (g.Ix.IndexType.number c.args.to) 0
limit_is g c = c.label-limit.ensures ∙ ap (λ z. get_or c.list.inside.links.labels z 0) c.index.ensures.value

pub label-limit-requires : goal.label-limit-requires
label-limit-requires g c =
    let P : Stored → Type 0 = λ z. IsLabelled c.list.inside.links.labels z.nodes in
    omega (
      arith,
      c.index.ensures.value,
      placed c.contains_node-exists.ensures.well_formed c.requires.ordered (subst P c.list.view_is c.list.invariant) _
          c.requires.to,
    )

pub reaches_below-requires-clause-placed : goal.reaches_below-requires-clause-placed
reaches_below-requires-clause-placed g c =
    placed c.contains_node-exists.ensures.well_formed c.requires.ordered
    (labelled g (goal.at.reaches_below-requires-clause-placed g c).After-label-limit)

pub reaches_below-requires-clause-ascending : goal.reaches_below-requires-clause-ascending
reaches_below-requires-clause-ascending g c =
    ascending c.contains_node-exists.ensures.well_formed c.requires.ordered
    (labelled g (goal.at.reaches_below-requires-clause-ascending g c).After-label-limit)

pub reaches_below-requires-clause-limit_is : goal.reaches_below-requires-clause-limit_is
reaches_below-requires-clause-limit_is g c =
    sym (limit_is g (goal.at.reaches_below-requires-clause-limit_is g c).After-label-limit)

pub reaches_below-requires-clause-before : goal.reaches_below-requires-clause-before
reaches_below-requires-clause-before g c =
    let at = (goal.at.reaches_below-requires-clause-before g c).After-label-limit in
    omega (
      arith,
      lower_label c.contains_node-exists.ensures.well_formed c.requires.ordered (labelled g at)
          (g.Ix.IndexType.number c.args.from) (g.Ix.IndexType.number c.args.to) c.requires.from c.requires.to c.requires.before,
      limit_is g at,
    )

pub returns-clause-counted : goal.returns-clause-counted
returns-clause-counted g c =
    let at = (goal.at.returns-clause-counted g c).After-label-limit in
    c.reaches_below.ensures.counted _ (λ n h above below.
    between c.contains_node-exists.ensures.well_formed c.requires.ordered (labelled g at) (g.Ix.IndexType.number c.args.to)
    (g.Ix.IndexType.number c.args.from) c.requires.to c.requires.from n h above (omega (arith, below, limit_is g at)))

pub returns-clause-found : goal.returns-clause-found
returns-clause-found g c =
    let at = (goal.at.returns-clause-found g c).After-label-limit in
    let graph = g.S.EdgeSource.graph c.args.source.now in
    let from = g.Ix.IndexType.number c.args.from in
    let to = g.Ix.IndexType.number c.args.to in
    let earlier =
    lower_earlier c.contains_node-exists.ensures.well_formed c.requires.ordered (labelled g at) to from c.requires.to
    c.requires.from in
    IfSome_then c.reaches_below.result c.reaches_below.ensures.found (λ k f. (
      f.0,
      (
        f.1.0,
        λ n. (
          λ h. (
              let e = (f.1.1 n).0 h in
              (e.0, (earlier n (reached_exists graph from n e.0)).0 (omega (arith, e.1, limit_is g at)))),
          λ r. (f.1.1 n).1 (
            r.0,
            (let low = (earlier n (reached_exists graph from n r.0)).1 r.1 in omega (arith, low, limit_is g at)),
          ),
        ),
      ),
    ))

pub returns-clause-labelled : goal.returns-clause-labelled
returns-clause-labelled g c =
    let at = (goal.at.returns-clause-labelled g c).After-label-limit in
    (c.list.inside.links.labels, labelled g at)

use Rattle.std.proofs.Common.{◌+◌, ◌<◌, ◌∷◌, [], length, map, sym, ap, ◌∙◌, arith}
use Rattle.std.proofs.lemmas.List.{map-append, length-map}
use Rattle.daggy_paths.proofs.EdgesAlong.{along_more, along_whole, are_joined, none_missed, number_at}
use Rattle.daggy_paths.proofs.edges.edges_along.Goals.{in-Some+in_ok-push, in_default}
use Rattle.daggy_paths.proofs.edges.edges_along.Goals as goal

pub nodes-preserved : goal.nodes-preserved
nodes-preserved g c =
    let number = g.Ix.IndexType.number in
    let graph = g.S.EdgeSource.graph c.args.store.now in
    let many = length-map c.args.nodes.now number in
    let low : c.nodes.at + 1 < length c.args.nodes.now = omega (arith, c.nodes-test.true) in
    let within : c.nodes.at + 1 < length (map number c.args.nodes.now) = omega (arith, low, many) in
    let first =
    ap number c.index-nodes-at.is
    ∙ number_at number c.args.nodes.now c.nodes.at c.index-nodes-at.result (omega (arith, low)) in
    let second =
    ap number c.index-nodes-at-in-nodes.is
    ∙ number_at number c.args.nodes.now (c.nodes.at + 1) c.index-nodes-at-in-nodes.result low in
    elim c.match-find_edge.branch [
      | in-Some+in_ok-push w ↦
          along_more c.nodes.invariant within _ _ first second (number w.in-Some.e) (sym w.in-Some.ensures)
          (map number c.match-find_edge.edges.items)
          (ap (λ z. map number z.items) w.edges-is ∙ (ap (map number) w.in_ok-push.ensures.items
          ∙ map-append number c.nodes.edges.items (w.in-Some.e ∷ [])))
      | in_default w ↦
          absurd (none_missed graph _ _ number c.invariant.ensures.well_formed w.in_default.ensures
          (are_joined c.nodes.invariant within _ _ first second))
    ]

pub returns : goal.returns
returns g c =
    along_whole c.nodes.invariant (omega (arith, c.nodes-test.false, length-map c.args.nodes.now g.Ix.IndexType.number))

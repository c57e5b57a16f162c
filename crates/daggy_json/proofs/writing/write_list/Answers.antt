use Rattle.std.proofs.Common.{◌≡◌, ◌≢◌, ◌+◌, [], ◌∷◌, length-append, is_some, length, ap, ◌∙◌, arith}
use Rattle.daggy_json.specs.Document.{whole}
use Rattle.daggy_json.proofs.WrittenLists.{listed_more, listed_whole, listed_edge, listed_next}
use Rattle.daggy_json.proofs.writing.write_list.Goals as goal

pub next_edge-e-requires : goal.next_edge-e-requires
next_edge-e-requires g c =
    let here : g.Ix.IndexType.number c.edges.e ≢ g.Ix.IndexType.greatest = λ h. c.edges-test.true cc in
    ap is_some (listed_edge c.invariant.ensures.well_formed _ _ c.edges.invariant here).1

pub edges-preserved : goal.edges-preserved
edges-preserved g c =
    let here : g.Ix.IndexType.number c.edges.e ≢ g.Ix.IndexType.greatest = λ h. c.edges-test.true cc in
    listed_next c.invariant.ensures.well_formed _ _ c.edges.invariant here c.from.result
    (c.from.ensures ∙ ap whole c.index-in-edges.ensures.value) c.in_ok-push.ensures.items c.next_edge-e.ensures

pub edges-smaller : goal.edges-smaller
edges-smaller g c =
    let here : g.Ix.IndexType.number c.edges.e ≢ g.Ix.IndexType.greatest = λ h. c.edges-test.true cc in
    let more : length c.push.new.self.items ≡ length c.edges.list.items + 1 =
    ap length c.in_ok-push.ensures.items ∙ length-append c.edges.list.items (c.from.result ∷ []) in
    omega (arith, listed_more c.invariant.ensures.well_formed _ _ c.edges.invariant here, more)

pub returns : goal.returns
returns g c =
    let at_end : g.Ix.IndexType.number c.edges.e ≡ g.Ix.IndexType.greatest = cc in
    listed_whole c.invariant.ensures.well_formed _ _ c.edges.invariant at_end

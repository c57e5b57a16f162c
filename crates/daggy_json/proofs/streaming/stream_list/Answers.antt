use Rattle.std.proofs.Common.{◌≡◌, ◌≢◌, ℕ, ◌+◌, List, is_some, take, ap, subst, arith}
use Rattle.json.specs.Token.{Token}
use Rattle.daggy_base.specs.Graph.{list_at}
use Rattle.daggy_json.specs.Document.{whole}
use Rattle.daggy_json.specs.Passing.{Writes, AreTokensOf}
use Rattle.daggy_visit.proofs.ListCursors.{at_edge, at_whole, at_front, at_next, at_closer}
use Rattle.daggy_json.proofs.TokenTrees.{Each}
use Rattle.daggy_json.proofs.WrittenTokens.{writes_none, writes_more, writes_array_of}
use Rattle.daggy_json.proofs.streaming.stream_list.Goals as goal

abbrev IsEdge : ℕ → List Token → Type 0
IsEdge n us = AreTokensOf (whole n) us

pub edges-init : goal.edges-init
edges-init g c =
    (0, record { within = omega arith; cursor = c.first_edge-e.ensures }, writes_none IsEdge c.begin_array.new.self)

pub next_edge-e-requires : goal.next_edge-e-requires
next_edge-e-requires g c =
    let here : g.Ix.IndexType.number c.edges.e ≢ g.Ix.IndexType.greatest = λ h. c.edges-test.true cc in
    ap is_some (at_edge c.invariant.ensures.well_formed _ _ c.edges.invariant.1 here).1

pub edges-smaller : goal.edges-smaller
edges-smaller g c =
    let here : g.Ix.IndexType.number c.edges.e ≢ g.Ix.IndexType.greatest = λ h. c.edges-test.true cc in
    at_closer c.invariant.ensures.well_formed _ _ c.edges.invariant.1 here c.next_edge-e.ensures

pub edges-preserved : goal.edges-preserved
edges-preserved g c =
    let here : g.Ix.IndexType.number c.edges.e ≢ g.Ix.IndexType.greatest = λ h. c.edges-test.true cc in
    let w = c.invariant.ensures.well_formed in
    let i = c.edges.invariant in
    let list = list_at c.args.dir (g.S.EdgeSource.graph c.args.store.now) (g.Ix.IndexType.number c.args.n) in
    let written = subst (λ n. Writes g.W.Write.contents c.edges.out c.whole.new.self (IsEdge n))
    c.index-in-edges.ensures.value c.whole.ensures in (
      i.0 + 1,
      at_next w _ _ i.1 here c.next_edge-e.ensures,
      writes_more IsEdge (take i.0 list) (g.Ix.IndexType.number c.edges.e) (at_front w _ _ i.1 here) i.2 written,
    )

pub returns : goal.returns
returns g c =
    let at_end : g.Ix.IndexType.number c.edges.e ≡ g.Ix.IndexType.greatest = cc in
    let i = c.edges.invariant in
    let list = list_at c.args.dir (g.S.EdgeSource.graph c.args.store.now) (g.Ix.IndexType.number c.args.n) in
    writes_array_of whole list c.begin_array.ensures
    (subst (λ l. Writes g.W.Write.contents c.begin_array.new.self c.edges.out (Each IsEdge l))
    (at_whole c.invariant.ensures.well_formed _ _ i.1 at_end) i.2) c.token.ensures

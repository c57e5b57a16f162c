use Rattle.std.proofs.Common.{◌≡◌, length, arith, rules}
use Rattle.std.proofs.lemmas.List.{length-map}
use Rattle.serde_json.specs.View.{view}
use Rattle.daggy_json.proofs.FaultPlaces.{hole_laid, nodes_laid, edges_laid, all_laid}
use Rattle.daggy_json.proofs.reading.layout.check_layout.Goals as goal

pub returns-in-Some-clause-err : goal.returns-in-Some-clause-err
returns-in-Some-clause-err g c =
    let nodes : c.len.result ≡ length c.args.parts.now.nodes.now.items = search rules in
    let holes : c.len-2.result ≡ length c.args.parts.now.holes.items = search rules in
    hole_laid _ _ _ _ (search rules) _ c.in-Some.i (omega (
      arith,
      nodes,
      holes,
      length-map c.args.parts.now.nodes.now.items view,
    )) c.in-Some.ensures c.at.ensures.error c.at.ensures.member c.at.ensures.entry

pub returns-then-slots-greatest-clause-err : goal.returns-then-slots-greatest-clause-err
returns-then-slots-greatest-clause-err g c =
    let nodes : c.len.result ≡ length c.args.parts.now.nodes.now.items = search rules in
    let holes : c.len-2.result ≡ length c.args.parts.now.holes.items = search rules in
    let limit : c.index-greatest.result ≡ g.Ix.IndexType.greatest = search rules in
    nodes_laid _ _ _ _ (search rules) _ (omega (
      arith,
      nodes,
      holes,
      length-map c.args.parts.now.nodes.now.items view,
    )) c.in_default.ensures (omega (arith, limit, c.if-slots-greatest.true)) c.of-then-slots-greatest.ensures.error
    c.of-then-slots-greatest.ensures.member c.of-then-slots-greatest.ensures.entry

pub returns-then-len-greatest-clause-err : goal.returns-then-len-greatest-clause-err
returns-then-len-greatest-clause-err g c =
    let nodes : c.len.result ≡ length c.args.parts.now.nodes.now.items = search rules in
    let holes : c.len-2.result ≡ length c.args.parts.now.holes.items = search rules in
    let edges : c.len-3.result ≡ length c.args.parts.now.edges.now.items = search rules in
    let limit : c.index-greatest.result ≡ g.Ix.IndexType.greatest = search rules in
    edges_laid _ _ _ _ (search rules) _ (omega (
      arith,
      nodes,
      holes,
      length-map c.args.parts.now.nodes.now.items view,
    )) c.in_default.ensures (omega (arith, limit, c.if-slots-greatest.false))
    (omega (arith, limit, edges, length-map c.args.parts.now.edges.now.items view, c.if-len-greatest.true))
    c.of-then-len-greatest.ensures.error c.of-then-len-greatest.ensures.member c.of-then-len-greatest.ensures.entry

pub returns-clause-ok : goal.returns-clause-ok
returns-clause-ok g c =
    let nodes : c.len.result ≡ length c.args.parts.now.nodes.now.items = search rules in
    let holes : c.len-2.result ≡ length c.args.parts.now.holes.items = search rules in
    let edges : c.len-3.result ≡ length c.args.parts.now.edges.now.items = search rules in
    let limit : c.index-greatest.result ≡ g.Ix.IndexType.greatest = search rules in
    all_laid _ _ _ (search rules) _ (omega (
      arith,
      nodes,
      holes,
      length-map c.args.parts.now.nodes.now.items view,
    )) c.in_default.ensures (omega (arith, limit, c.if-slots-greatest.false))
    (omega (arith, limit, edges, length-map c.args.parts.now.edges.now.items view, c.if-len-greatest.false))

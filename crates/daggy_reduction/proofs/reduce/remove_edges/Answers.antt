use Rattle.std.proofs.Common.{◌≡◌, ◌-◌, ◌<◌, length, map, get_or, sym, ap, ◌∙◌, arith}
use Rattle.std.proofs.lemmas.List.{length-map, get_or-map}
use Rattle.daggy_reduction.proofs.EdgesRemovedDownward.{remove_on}
use Rattle.daggy_reduction.proofs.reduce.remove_edges.Goals as goal

pub edges-preserved : goal.edges-preserved
edges-preserved g c =
    let number = g.Ix.IndexType.number in
    let edges = c.args.edges.now in
    let at = c.edges.left - 1 in
    let y = number c.index-edges-left.result in
    let within = c.edges.invariant.within in
    let low : at < length edges = omega (arith, c.edges-test.true, within, length-map edges number) in
    let is : y ≡ get_or (map number edges) at y =
    sym (get_or-map number edges at c.index-edges-left.result y low ∙ ap number (sym c.index-edges-left.is)) in
    let ens = c.remove_edge-weight.ensures in
    remove_on c.edges.invariant c.requires.ascending c.requires.exist at y (omega (arith, c.edges-test.true)) is
    c.remove_edge-weight.result ens.gives ens.removed ens.counted

pub edges-preserved-in-edges : goal.edges-preserved-in-edges
edges-preserved-in-edges g c =
    let number = g.Ix.IndexType.number in
    let edges = c.args.edges.now in
    let at = c.edges.left - 1 in
    let y = number c.index-edges-left.result in
    let within = c.edges.invariant.within in
    let low : at < length edges = omega (arith, c.edges-test.true, within, length-map edges number) in
    let is : y ≡ get_or (map number edges) at y =
    sym (get_or-map number edges at c.index-edges-left.result y low ∙ ap number (sym c.index-edges-left.is)) in
    let ens = c.remove_edge-weight.ensures in
    remove_on c.edges.invariant c.requires.ascending c.requires.exist at y (omega (arith, c.edges-test.true)) is
    c.remove_edge-weight.result ens.gives ens.removed ens.counted

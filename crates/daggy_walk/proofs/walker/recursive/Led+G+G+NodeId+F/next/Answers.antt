use Rattle.std.proofs.Common.{rules, Some, None, [], refl, sym, ◌∙◌}
use Rattle.daggy_walk.proofs.RecursiveSteps.{calls_node, stays_there, leads_on}
use Rattle.daggy_walk.proofs.walker.recursive.Led+G+G+NodeId+F.next.Goals as goal

pub f-requires : goal.f-requires
f-requires g c = search (rules, c.requires.at [] _ _ refl c.args.graph refl)

pub returns-in_err-edge-clause-step : goal.returns-in_err-edge-clause-step
returns-in_err-edge-clause-step g c =
    stays_there g.F.FnMut (calls_node g.F.FnMut c.f.ensures (c.in_err-edge.was ∙ sym c.from_residual.ensures))
    c.from_residual.ensures

pub returns-in_err-edge-clause-can : goal.returns-in_err-edge-clause-can
returns-in_err-edge-clause-can g c =
    leads_on g.F.FnMut None c.requires (stays_there g.F.FnMut (calls_node g.F.FnMut c.f.ensures c.in_err-edge.was) refl)

pub returns-clause-can : goal.returns-clause-can
returns-clause-can g c =
    leads_on g.F.FnMut (Some (c.in_ok-edge.edge, c.in_ok-edge.node)) c.requires
    (record { asked = calls_node g.F.FnMut c.f.ensures c.in_ok-edge.was; moves = refl })

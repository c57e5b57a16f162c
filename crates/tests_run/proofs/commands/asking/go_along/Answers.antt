use Rattle.std.proofs.Common.{◌≡◌, ℕ, Option, Some, None, refl, sym, ap, ◌∙◌}
use Rattle.std.specs.Prelude.{IsSome}
use Rattle.std.specs.Option.{option_map}
use Rattle.daggy_base.specs.Graph.{Edge, ends_of, pair_of, edge_at}
use Rattle.tests_run.proofs.commands.asking.go_along.Goals as goal

-- an edge that has ends exists
exists : {E : Type 0} (o : Option (Edge E)) (ends : ℕ × ℕ) → Some ends ≡ option_map ends_of o → IsSome o
exists None ends is = absurd cc
exists (Some x) ends is = refl

pub child_edge-requires : goal.child_edge-requires
child_edge-requires g c =
    exists (edge_at (g.D.GuardedDag.graph c.play.new.dag) c.e-newest.result) (pair_of (λ i. i) c.in-Some._ends)
    (sym (ap (option_map (pair_of (λ i. i))) c.in-Some.is) ∙ c.edge_endpoints.ensures)

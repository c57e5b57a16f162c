use Rattle.std.proofs.Common.{◌≡◌, ℕ, ◌<◌, true, false, IsSome, get_or, map}
use Rattle.std.specs.Option.{option_map}
use Rattle.daggy_base.specs.Graph.{slot}
use Rattle.daggy_json.specs.Found.{edge_of}
use Rattle.daggy_json.proofs.reading.rearranged.leaves_none.Given as goal

abbrev pub invariant-loop-e : goal.invariant-loop-e
invariant-loop-e g l =
    (k : ℕ) → k < l.e → IsSome (slot (map (option_map (edge_of g.Ix.IndexType.number)) l.edges.items) k)
    → get_or l.marks k false ≡ true

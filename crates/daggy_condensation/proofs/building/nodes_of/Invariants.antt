use Rattle.std.proofs.Common.{◌≡◌, ℕ, ◌<◌, map, vec_len, slice_get}
use Rattle.std.specs.Option.{option_map}
use Rattle.daggy_base.specs.Graph.{slot}
use Rattle.daggy_condensation.proofs.building.nodes_of.Given as goal

abbrev pub invariant-components : goal.invariant-components
invariant-components g l =
    (vec_len l.slots ≡ l.k)
    × ((i : ℕ) → i < l.k
    → option_map (λ v. map g.Ix.IndexType.number v.items) (slot l.slots.items i) ≡ slice_get l.components i)

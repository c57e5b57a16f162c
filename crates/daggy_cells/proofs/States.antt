-- The state of a graph, and its nodes and edges.
use Rattle.std.proofs.Common.{◌≡◌, ℕ, ap, ◌∙◌}
use Rattle.daggy_base.specs.Graph.{Graph}
use Rattle.daggy_base.specs.State.{State, with_graph}

-- a state whose graph alone changes
pub state_changed : {N E : Type 0} (s : State N E) (g h : Graph N E) (k : ℕ) (f : Graph N E → Graph N E)
    → record { graph = g; looks = k } ≡ s → h ≡ f g → record { graph = h; looks = k } ≡ with_graph s (f s.graph)
state_changed {N} {E} s g h k f was is =
    let with_k : Graph N E → State N E = λ z. record { graph = z; looks = k } in
    ap with_k is ∙ ap (λ z. with_graph z (f z.graph)) was

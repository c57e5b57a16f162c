-- What equal states share.
use Rattle.std.proofs.Common.{◌≡◌, sym, ap, subst}
use Rattle.daggy_base.specs.Graph.{Graph}
use Rattle.daggy_base.specs.Path.{IsAcyclic}
use Rattle.daggy_base.specs.State.{State}

-- the graph and the count
pub same_graph : {N E : Type 0} {s t : State N E} → s ≡ t → s.graph ≡ t.graph
same_graph {N} {E} same = ap (λ (z : State N E). z.graph) same

pub same_looks : {N E : Type 0} {s t : State N E} → s ≡ t → s.looks ≡ t.looks
same_looks {N} {E} same = ap (λ (z : State N E). z.looks) same

-- an equal graph is acyclic too
pub kept_acyclic : {N E : Type 0} {g h : Graph N E} → g ≡ h → IsAcyclic h → IsAcyclic g
kept_acyclic {N} {E} same acyclic = let P : Graph N E → Type 0 = λ z. IsAcyclic z in subst P (sym same) acyclic

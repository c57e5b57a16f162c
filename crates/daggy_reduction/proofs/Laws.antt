-- What a reduction keeps and removes, from its definition.
use Rattle.std.proofs.Common.{◌≡◌, ℕ, inl, inr, List, sym, subst}
use Rattle.daggy_base.specs.Graph.{Graph}
use Rattle.daggy_base.specs.Path.{IsAcyclic}
use Rattle.daggy_base.specs.Removal.{KeepsIndices, without_edges}
use Rattle.daggy_base.specs.declared.kind.Kind.{Kind}
use Rattle.daggy_base.specs.declared.kind.Kind.TheVariants.{Stable}
use Rattle.daggy_base.specs.WellFormed.{IsWellFormed}
use Rattle.daggy_base.specs.Reduction.{IsReduction}
use Rattle.daggy_redundant.specs.Comparison.{JoinsAll, HaveSameReachability, JoinsCovers, JoinsOthers}
use Rattle.daggy_redundant.specs.Comparison.{IsLeast, HasNoneRedundant, IsCanonical}
use Rattle.daggy_reduction.proofs.LostPairs.{LosesRoundPairs}
use Rattle.daggy_reduction.proofs.RemainingEdges.{reduction_loses}
use Rattle.daggy_reduction.proofs.ReachabilityKept.{same_reachability}
use Rattle.daggy_reduction.proofs.CoverPairs.{joined_exactly}
use Rattle.daggy_reduction.proofs.Canonical.{least, nothing_left, alike_exactly}
use Rattle.daggy_redundant.proofs.FlaggedRedundant.{joined_exist}
use Rattle.daggy_reduction.proofs.EdgesRemovedDownward.{keeps_indices}

module _ {N E : Type 0} {limit : ℕ} (kind : Kind) (roots : List ℕ) (old new : Graph N E) (acyclic : IsAcyclic old)
    (w : IsWellFormed limit old) (r : IsReduction kind roots old new) where
  loses : LosesRoundPairs roots old new
  loses = reduction_loses kind roots old new r

  pub law_reachability : HaveSameReachability old new
  law_reachability = same_reachability roots old new acyclic loses

  pub law_fewer : JoinsAll new old
  law_fewer = loses.joined

  pub law_covers : JoinsCovers roots old new
  law_covers u v below = joined_exactly roots old new acyclic loses (joined_exist limit old w) u v below

  pub law_others : JoinsOthers roots old new
  law_others u v out = (
    λ j. loses.joined u v j,
    λ j. elim (loses.kept u v j) [ inl k ↦ k | inr both ↦ absurd (out both.0) ],
  )

  pub law_least : IsLeast roots old new
  law_least h same u v below j = least roots old new acyclic loses (joined_exist limit old w) h same u v below j

  pub law_none : HasNoneRedundant roots new
  law_none e red =
      nothing_left roots old new acyclic loses (joined_exist limit old w) red.edge.parent red.edge.child
      (e, red.edge.weight, red.at) red.below red.round

  pub law_canonical : IsCanonical limit roots old new
  law_canonical all h h' other =
      alike_exactly record {
        roots = roots;
        old = old;
        new = new;
        acyclic = acyclic;
        loses = loses;
        ends = joined_exist limit old w;
        all = all;
      } record {
        roots = other.roots;
        old = h;
        new = h';
        acyclic = other.dag.acyclic;
        loses = reduction_loses other.kind other.roots h h' other.reduced;
        ends = joined_exist limit h other.dag.well_formed;
        all = other.all;
      } other.nodes

pub law_indices : {N E : Type 0} (kind : Kind) (roots : List ℕ) (old new : Graph N E)
    → IsReduction kind roots old new → kind ≡ Stable → KeepsIndices old new
law_indices {N} {E} kind roots old new r stable =
    let P : Graph N E → Type 0 = λ z. KeepsIndices old z in
    let Q : Kind → Type 0 = λ z. new ≡ without_edges z old r.redundant in
    subst P (sym (subst Q stable r.removed)) (keeps_indices r.redundant old)

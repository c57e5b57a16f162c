-- The loop of `fill`: so many nodes were added.
use Rattle.std.proofs.Common.{◌≡◌, ℕ, ◌+◌, ◌≤◌, List, [], ◌∷◌, ◌++◌, length, refl, sym, ap, ◌∙◌, arith}
use Rattle.std.specs.List.{AllByRecursion}
use Rattle.std.proofs.lemmas.List.{length-append}
use Rattle.daggy_base.specs.Graph.{Graph, node_count, edge_count}
use Rattle.daggy_base.specs.Adding.{with_node}
use Rattle.daggy_base.specs.WellFormed.{IsWellFormed}
use Rattle.daggy_base.proofs.PathsWithNewNode.{free_slots}
use Rattle.daggy_guard.specs.Extension.{with_nodes, missing, IsPartFilled}
use Rattle.daggy_guard.proofs.AcceptedEdges.{count_taken}

nodes_more : {N E : Type 0} (g : Graph N E) (ws : List N) (w : N)
    → with_nodes g (ws ++ w ∷ []) ≡ with_node (with_nodes g ws) w
nodes_more g [] w = refl
nodes_more g (v ∷ vs) w = nodes_more (with_node g v) vs w

all_more : {A : Type 0} (P : A → Type 0) (xs : List A) (x : A)
    → AllByRecursion P xs → P x → AllByRecursion P (xs ++ x ∷ [])
all_more P [] x all here = (here, tt)
all_more P (y ∷ ys) x all here = (all.0, all_more P ys x all.1 here)

pub edges_kept : {N E : Type 0} (g : Graph N E) (ws : List N) → edge_count (with_nodes g ws) ≡ edge_count g
edges_kept g [] = refl
edges_kept g (w ∷ ws) = edges_kept (with_node g w) ws

pub record Filling {N E : Type 0} (IsDefault : N → Type 0) (last : ℕ) (old now : Graph N E) : Type 0 where
  pub weights : List N
  pub defaults : AllByRecursion IsDefault weights
  pub added : now ≡ with_nodes old weights
  pub within : length weights ≤ missing IsDefault old last
  pub count : node_count now ≡ node_count old + length weights

pub filling_starts : {N E : Type 0} (IsDefault : N → Type 0) (last : ℕ) (g : Graph N E) → Filling IsDefault last g g
filling_starts IsDefault last g =
    record { weights = []; defaults = tt; added = refl; within = omega arith; count = omega arith }

module _ {N E : Type 0} {IsDefault : N → Type 0} {last : ℕ} {old now : Graph N E}
    (s : Filling IsDefault last old now) where
  pub filling_on : {limit : ℕ} → IsWellFormed limit now → node_count now ≤ last → (w : N) → IsDefault w
      → {new : Graph N E} → new ≡ with_node now w → Filling IsDefault last old new
  filling_on f few w default is =
      let one : node_count (with_node now w) ≡ node_count now + 1 =
      omega (arith, count_taken now.nodes now.vacant_nodes w (free_slots now.nodes now.vacant_nodes f.node_slots)) in
      record {
        weights = s.weights ++ w ∷ [];
        defaults = all_more IsDefault s.weights w s.defaults default;
        added = is ∙ ap (λ z. with_node z w) s.added ∙ sym (nodes_more old s.weights w);
        within = omega (arith, s.within, s.count, few, length-append s.weights (w ∷ []));
        count = omega (arith, ap node_count is, one, s.count, length-append s.weights (w ∷ []));
      }

  pub fewer_missing : (limit : ℕ) → IsWellFormed limit now → (w : N) → (new : Graph N E) → new ≡ with_node now w
      → node_count new ≡ node_count now + 1
  fewer_missing limit f w new is =
      omega (
        arith,
        ap node_count is,
        count_taken now.nodes now.vacant_nodes w (free_slots now.nodes now.vacant_nodes f.node_slots),
      )

  pub is_part_filled : node_count now ≤ last → (new : Graph N E) → new ≡ now → IsPartFilled IsDefault last old new
  is_part_filled few new same = (
    length s.weights,
    omega (arith, s.count, few),
    record { weights = s.weights; defaults = s.defaults; as_many = refl; added = same ∙ s.added },
  )

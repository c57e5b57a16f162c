-- Slots and orders of a document, as a dag is made of them.
use Rattle.std.proofs.Common.{◌≡◌, ℕ, zero, suc, ◌+◌, ◌<◌, ◌≤◌, List, [], ◌∷◌, length, map, Option, Some, None, IsSome}
use Rattle.std.proofs.Common.{refl, arith}
use Rattle.std.specs.Option.{option_map}
use Rattle.std.proofs.lemmas.List.{length-map}
use Rattle.daggy_base.specs.declared.index.Direction.TheVariants.{Outgoing, Incoming}
use Rattle.daggy_base.specs.Graph.{Edge, slot, IsCompact}
use Rattle.daggy_base.specs.FromSlots.{graph_of_slots, MakeGraph}
use Rattle.daggy_base.proofs.PathsWithoutNode.{slot-map}
use Rattle.daggy_base.proofs.SlotLists.{none_vacant}
use Rattle.daggy_json.specs.Document.{vacant_from}
use Rattle.daggy_json.specs.Found.{EndsExist}

pub full_from : {A : Type 0} (k : ℕ) (xs : List (Option A))
    → vacant_from k xs ≡ [] → (i : ℕ) → i < length xs → IsSome (slot xs i)
full_from k [] h i low = absurd (omega arith)
full_from k (None ∷ xs) h i low = absurd cc
full_from k (Some x ∷ xs) h zero low = refl
full_from k (Some x ∷ xs) h (suc i) low = full_from (k + 1) xs h i (omega arith)

some_mapped : {A B : Type 0} (f : A → B) (o : Option A) → IsSome o → IsSome (option_map f o)
some_mapped f None h = h
some_mapped f (Some x) h = refl

module _ {N E A : Type 0} (f : A → Edge E) (nodes : List (Option N)) (edges : List (Option A)) where
  full_edges : vacant_from 0 edges ≡ [] → (i : ℕ) → i < length (map (option_map f) edges)
      → IsSome (slot (map (option_map f) edges) i)
  full_edges h i low =
      rw (slot-map f edges i)
      (some_mapped f (slot edges i) (full_from 0 edges h i (omega (arith, length-map edges (option_map f)))))

  -- no slot is vacant
  pub compact_slots : vacant_from 0 nodes ≡ [] → vacant_from 0 edges ≡ []
      → IsCompact (graph_of_slots nodes (map (option_map f) edges))
  compact_slots h k =
      record {
        nodes = none_vacant nodes (full_from 0 nodes h);
        edges = none_vacant (map (option_map f) edges) (full_edges k);
      }

  -- the slots make a graph
  pub slots_fit : (limit : ℕ) → length nodes ≤ limit → length edges ≤ limit → EndsExist nodes (map (option_map f) edges)
      → MakeGraph limit nodes (map (option_map f) edges)
  slots_fit limit few_nodes few_edges ends =
      record {
        few_nodes = few_nodes;
        few_edges = omega (arith, few_edges, length-map edges (option_map f));
        parents = ends Outgoing;
        children = ends Incoming;
      }

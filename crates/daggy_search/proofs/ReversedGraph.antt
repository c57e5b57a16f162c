-- What reversing the edges of a graph keeps, and what it turns round.
use Rattle.std.proofs.Common.{◌≡◌, ℕ, zero, suc, ◌≤◌, Option, Some, None, List, [], ◌∷◌, map, refl, sym, ap, subst, ◌∙◌}
use Rattle.std.specs.Prelude.{slice_get}
use Rattle.std.specs.Option.{option_map}
use Rattle.std.proofs.lemmas.List.{length-map}
use Rattle.daggy_base.specs.Graph.{Graph, Edge, HasNode, slot, edge_at, bound_of, bound_step}
use Rattle.daggy_base.specs.Graph.{ends_of}
use Rattle.daggy_base.specs.Cursor.{cursor_after}
use Rattle.daggy_base.specs.Look.{IsLook}
use Rattle.daggy_base.specs.declared.index.Direction.TheVariants.{Incoming}
use Rattle.daggy_base.specs.Path.{AreJoined, IsPath, Reaches, end_of}
use Rattle.daggy_base.specs.WellFormed.{IsWellFormed, ListsVacant}
use Rattle.daggy_base.proofs.LongerPaths.{reaches_more}
use Rattle.daggy_search.specs.Reversed.{reversed, reversed_edge}

module _ {A B : Type 0} (f : A → B) where
  slot-map : (xs : List (Option A)) (i : ℕ) → slot (map (option_map f) xs) i ≡ option_map f (slot xs i)
  slot-map [] i = refl
  slot-map (x ∷ xs) zero = refl
  slot-map (x ∷ xs) (suc i) = slot-map xs i

  bound_step-map : (x : Option A) (n : ℕ) → bound_step (option_map f x) n ≡ bound_step x n
  bound_step-map x (suc n) = refl
  bound_step-map None zero = refl
  bound_step-map (Some x) zero = refl

  pub bound_of-map : (xs : List (Option A)) → bound_of (map (option_map f) xs) ≡ bound_of xs
  bound_of-map [] = refl
  bound_of-map (x ∷ xs) =
      bound_step-map x (bound_of (map (option_map f) xs)) ∙ ap (λ (z : ℕ). bound_step x z) (bound_of-map xs)

  vacant_here : (xs : List (Option A)) (i : ℕ)
      → slice_get xs i ≡ Some None → slice_get (map (option_map f) xs) i ≡ Some None
  vacant_here [] i h = absurd cc
  vacant_here (x ∷ xs) zero h = ap (option_map (option_map f)) h
  vacant_here (x ∷ xs) (suc i) h = vacant_here xs i h

  vacant_back : (xs : List (Option A)) (i : ℕ)
      → slice_get (map (option_map f) xs) i ≡ Some None → slice_get xs i ≡ Some None
  vacant_back [] i h = absurd cc
  vacant_back (None ∷ xs) zero h = refl
  vacant_back (Some x ∷ xs) zero h = absurd cc
  vacant_back (x ∷ xs) (suc i) h = vacant_back xs i h

  pub lists_vacant : {xs : List (Option A)} {vacant : List ℕ} → ListsVacant xs vacant
      → ListsVacant (map (option_map f) xs) vacant
  lists_vacant {xs} h =
      record {
        exact = λ i. (λ c. vacant_here xs i ((h.exact i).0 c), λ s. (h.exact i).1 (vacant_back xs i s));
        once = h.once;
      }

module _ {N E : Type 0} (g : Graph N E) where
  pub edge_reversed : (e : ℕ) → edge_at (reversed g) e ≡ option_map reversed_edge (edge_at g e)
  edge_reversed e = slot-map reversed_edge g.edges e

  pub edge_into : (e : ℕ) (x : Edge E) → edge_at g e ≡ Some x → edge_at (reversed g) e ≡ Some (reversed_edge x)
  edge_into e x at = edge_reversed e ∙ ap (option_map reversed_edge) at

  edge_of : (o : Option (Edge E)) (x : Edge E) → option_map reversed_edge o ≡ Some x → o ≡ Some (reversed_edge x)
  edge_of None x h = absurd cc
  edge_of (Some y) x h = let same : reversed_edge y ≡ x = cc in ap (λ z. Some (reversed_edge z)) same

  pub edge_out : (e : ℕ) (x : Edge E) → edge_at (reversed g) e ≡ Some x → edge_at g e ≡ Some (reversed_edge x)
  edge_out e x at = edge_of (edge_at g e) x (sym (edge_reversed e) ∙ at)

  pub joined_into : (u v : ℕ) → AreJoined g u v → AreJoined (reversed g) v u
  joined_into u v j = (j.0, j.1, edge_into j.0 _ j.2)

  pub joined_out : (u v : ℕ) → AreJoined (reversed g) u v → AreJoined g v u
  joined_out u v j = (j.0, j.1, edge_out j.0 _ j.2)

  pub reversed_well_formed : (limit : ℕ) → IsWellFormed limit g → IsWellFormed limit (reversed g)
  reversed_well_formed limit h =
      record {
        out_list_count = h.in_list_count;
        in_list_count = h.out_list_count;
        parents = λ e x at. h.children e (reversed_edge x) (edge_out e x at);
        children = λ e x at. h.parents e (reversed_edge x) (edge_out e x at);
        out_of = record {
          exact = λ n e. (
            λ c. let found = (h.in_of.exact n e).0 c in (reversed_edge found.0, edge_into e found.0 found.1, found.2),
            λ found. (h.in_of.exact n e).1 (reversed_edge found.0, edge_out e found.0 found.1, found.2),
          );
          once = h.in_of.once;
        };
        in_of = record {
          exact = λ n e. (
            λ c. let found = (h.out_of.exact n e).0 c in (reversed_edge found.0, edge_into e found.0 found.1, found.2),
            λ found. (h.out_of.exact n e).1 (reversed_edge found.0, edge_out e found.0 found.1, found.2),
          );
          once = h.out_of.once;
        };
        node_slots = h.node_slots;
        edge_slots = lists_vacant reversed_edge h.edge_slots;
        few_nodes = h.few_nodes;
        few_edges = let P : ℕ → Type 0 = λ z. z ≤ limit in subst P (sym (length-map g.edges (option_map reversed_edge))) h.few_edges;
      }

-- a path of one graph, read backwards, is one of another whose edges are those of the first reversed
module _ {N E : Type 0} (g h : Graph N E) (nodes : (n : ℕ) → HasNode g n → HasNode h n)
    (edges : (u v : ℕ) → AreJoined g u v → AreJoined h v u) where
  turn_path : (u v : ℕ) (rest : List ℕ) → IsPath g (u ∷ rest) → end_of u rest ≡ v → Reaches h v u
  turn_path u v [] p is = let P : ℕ → Type 0 = λ z. Reaches h z u in subst P is ([], nodes u p, refl)
  turn_path u v (x ∷ rest) p is =
      reaches_more h v x u (turn_path x v rest p.2 is) (edges u x p.1) (nodes u p.0)

  pub turn_reaches : (u v : ℕ) → Reaches g u v → Reaches h v u
  turn_reaches u v r = turn_path u v r.0 r.1 r.2

module _ {N E : Type 0} (g : Graph N E) where
  pub reaches_into : (u v : ℕ) → Reaches g u v → Reaches (reversed g) v u
  reaches_into = turn_reaches g (reversed g) (λ n has. has) (joined_into g)

  pub reaches_out : (u v : ℕ) → Reaches (reversed g) u v → Reaches g v u
  reaches_out = turn_reaches (reversed g) g (λ n has. has) (joined_out g)

-- the parent of an edge, and the edge after it among those that enter its child, are what reading it returns
pub looked_back : {N E : Type 0} (end : ℕ) (g : Graph N E) (e : ℕ) {next : ℕ} {ends : Option (ℕ × ℕ)} (p : ℕ × ℕ)
    → ends ≡ Some p → ends ≡ option_map ends_of (edge_at g e)
    → next ≡ cursor_after Incoming end g e (edge_at g e) → IsLook end (reversed g) e p.0 next
looked_back {N} {E} end g e {next} p there ends_are next_is =
    go (edge_at g e) refl (sym there ∙ ends_are) next_is
  where
    go : (o : Option (Edge E)) → edge_at g e ≡ o → Some p ≡ option_map ends_of o
        → next ≡ cursor_after Incoming end g e o → IsLook end (reversed g) e p.0 next
    go None at is after = absurd cc
    go (Some x) at is after = let same_ends : p ≡ ends_of x = cc in
        record {
          edge = reversed_edge x;
          at = edge_into g e x at;
          child_is = ap (λ q. q.0) same_ends;
          next_is = after;
        }

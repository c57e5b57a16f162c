-- Work goes on while weights are written.
use Rattle.std.proofs.Common.{◌≡◌, ◌↔◌, ℕ, zero, suc, List, [], ◌∷◌, Option, Some, None, Contains, map, set, not, refl, sym, ap, subst, ◌∙◌}
use Rattle.std.specs.List.{count_by}
use Rattle.std.specs.Option.{option_map}
use Rattle.daggy_base.specs.Graph.{Graph, Edge, HasNode, edge_at, slot, in_list}
use Rattle.daggy_base.specs.Weights.{with_node_weight, with_edge_weight, edge_with_weight}
use Rattle.daggy_order.proofs.OrderLaws.{nodes_with_weight}
use Rattle.daggy_schedule.specs.Work.{Work, IsUnderWay, MayBegin, is_set, parent_or, parents_of}
use Rattle.daggy_schedule.specs.ByKey.{KeyedWork, IsUnderWayByKey, work_of}
use Rattle.daggy_schedule.specs.Fallible.{FallibleWork, IsUnderWayWithFailures}

-- the same nodes exist, with the same parents
pub record HasSameParents {N E M F : Type 0} (g : Graph N E) (h : Graph M F) : Type 0 where
  pub nodes : (n : ℕ) → HasNode h n ↔ HasNode g n
  pub parents : (n : ℕ) → parents_of h n ≡ parents_of g n

module _ {N E M F : Type 0} (g : Graph N E) (h : Graph M F) (s : HasSameParents g h) where
  begins_still : (done : List _) (n : ℕ) → MayBegin g done n → MayBegin h done n
  begins_still done n b = (
    (s.nodes n).1 b.0,
    λ u c. b.1 u (let P : List ℕ → Type 0 = λ z. Contains z u in subst P (s.parents n) c),
  )

  began_before : (done : List _) (n : ℕ) → MayBegin h done n → MayBegin g done n
  began_before done n b = (
    (s.nodes n).0 b.0,
    λ u c. b.1 u (let P : List ℕ → Type 0 = λ z. Contains z u in subst P (sym (s.parents n)) c),
  )

  pub still_under_way : (work : Work) → IsUnderWay g work → IsUnderWay h work
  still_under_way work u =
      record {
        waits = λ n has.
            u.waits n ((s.nodes n).0 has)
            ∙ ap (λ ps. Some (count_by (λ u. not (is_set work.done u)) ps)) (sym (s.parents n));
        ready = λ n. (
          λ a. (let b = (u.ready n).0 a in (begins_still work.done n b.0, b.1)),
          λ b. (u.ready n).1 (began_before work.done n b.0, b.1),
        );
        once = u.once;
        out = λ n a. begins_still work.done n (u.out n a);
        done = u.done;
        idle = (
          λ i n has. u.idle.0 i n ((s.nodes n).0 has),
          λ all. u.idle.1 (λ n has. all n ((s.nodes n).1 has)),
        );
      }

  pub still_under_way_by_key : {K : Type 0} (work : KeyedWork K) → IsUnderWayByKey g work → IsUnderWayByKey h work
  still_under_way_by_key work u =
      record {
        under_way = still_under_way (work_of work) u.under_way;
        flagged = λ n has. u.flagged n ((s.nodes n).0 has);
        keyed = λ n has fresh. u.keyed n ((s.nodes n).0 has) fresh;
      }

  pub still_under_way_with_failures : (work : FallibleWork) → IsUnderWayWithFailures g work → IsUnderWayWithFailures h work
  still_under_way_with_failures work u =
      record {
        under_way = still_under_way work.work u.under_way;
        flagged = λ n has. u.flagged n ((s.nodes n).0 has);
        failed = u.failed;
      }

-- ---- a weight is written

pub parents_with_node_weight : {N E : Type 0} (g : Graph N E) (n : ℕ) (w : N) → HasNode g n
    → HasSameParents g (with_node_weight g n w)
parents_with_node_weight g n w exists = record { nodes = nodes_with_weight g n w exists; parents = λ m. refl }

parent_same : {E : Type 0} (w : E) (o : Option (Edge E)) → parent_or (option_map (edge_with_weight w) o) ≡ parent_or o
parent_same w None = refl
parent_same w (Some x) = refl

parent_set : {E : Type 0} (xs : List (Option (Edge E))) (e k : ℕ) (w : E)
    → parent_or (slot (set xs e (option_map (edge_with_weight w) (slot xs e))) k) ≡ parent_or (slot xs k)
parent_set [] zero k w = refl
parent_set [] (suc e) k w = refl
parent_set (x ∷ xs) zero zero w = parent_same w x
parent_set (x ∷ xs) zero (suc k) w = refl
parent_set (x ∷ xs) (suc e) zero w = refl
parent_set (x ∷ xs) (suc e) (suc k) w = parent_set xs e k w

map_alike : (f f' : ℕ → ℕ) → ((n : ℕ) → f' n ≡ f n) → (xs : List ℕ) → map f' xs ≡ map f xs
map_alike f f' same [] = refl
map_alike f f' same (x ∷ xs) = let here = same x in let rest = map_alike f f' same xs in cc

pub parents_with_edge_weight : {N E : Type 0} (g : Graph N E) (e : ℕ) (w : E) → HasSameParents g (with_edge_weight g e w)
parents_with_edge_weight g e w =
    record {
      nodes = λ n. (λ h. h, λ h. h);
      parents = λ n.
          map_alike (λ k. parent_or (edge_at g k)) (λ k. parent_or (edge_at (with_edge_weight g e w) k))
          (λ k. parent_set g.edges e k w) (in_list g n);
    }

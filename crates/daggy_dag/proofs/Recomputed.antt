-- New weights for the nodes of a list, one after another.
use Rattle.std.proofs.Common.{◌≡◌, ℕ, Some, Result, Ok, List, [], ◌∷◌, ◌++◌, set, refl, sym, ap, subst, ◌∙◌, Contains, Err, OnOk, IfErr}
use Rattle.std.proofs.lemmas.List.Elements.{Contains-append_left}
use Rattle.std.specs.Borrow.{Bor}
use Rattle.daggy_base.specs.Graph.{Graph, HasNode}
use Rattle.daggy_base.specs.Weights.{with_node_weight}
use Rattle.daggy_base.proofs.Lists.{Contains-here, Contains-there}
use Rattle.daggy_order.proofs.OrderLaws.{nodes_with_weight}
use Rattle.daggy_dag.specs.Recomputing.{DiffersInWeights, IsComputed, Recomputes, Answers, RecomputesInTurn, StopsInTurn}
use Rattle.daggy_dag.proofs.OrderKept.{IsKept, stays_so}
use Rattle.daggy_dag.proofs.OrderWithWeights.{node_written}

pub differs_not : {N E : Type 0} (g : Graph N E) → DiffersInWeights g g
differs_not g = (g.nodes, refl, λ n. (λ h. h, λ h. h))

pub differs_written : {N E : Type 0} (g h : Graph N E) → DiffersInWeights g h → (n : ℕ) (w : N) → HasNode h n
    → DiffersInWeights g (with_node_weight h n w)
differs_written {N} {E} g h d n w there =
    let nodes = set h.nodes n (Some w) in
    let written : Graph N E → Graph N E = λ z. record z { nodes = nodes } in (
      nodes,
      ap written d.1,
      λ m. (let same = nodes_with_weight h n w there m in
          (λ k. (d.2 m).0 (same.0 k), λ k. same.1 ((d.2 m).1 k))),
    )

module _ {N E S F I : Type 0} (graph : S → Graph N E) (of : ℕ → I) (post : F → Bor S → I → N → Type 0) (f : F) where
  pub recomputes_one_more : (ns : List ℕ) (n : ℕ) (w : N) (old mid new : Graph N E)
      → Recomputes graph of post f ns old mid → IsComputed graph of post f mid n w → new ≡ with_node_weight mid n w
      → Recomputes graph of post f (ns ++ n ∷ []) old new
  recomputes_one_more [] n w old mid new done computed is =
      let P : Graph N E → Type 0 = λ z. IsComputed graph of post f z n w in
      (w, subst P done computed, is ∙ ap (λ z. with_node_weight z n w) done)
  recomputes_one_more (m ∷ ms) n w old mid new done computed is =
      (done.0, done.1, recomputes_one_more ms n w (with_node_weight old m done.0) mid new done.2 computed is)

  -- a dag keeps its order, and room for its searches
  pub recomputed_kept : (ns order : List ℕ) (capacity : ℕ) (old new : Graph N E)
      → IsKept old order capacity → ((n : ℕ) → Contains ns n → HasNode old n) → Recomputes graph of post f ns old new
      → IsKept new order capacity
  recomputed_kept [] order capacity old new kept exist is = stays_so order capacity new old is kept
  recomputed_kept (n ∷ ns) order capacity old new kept exist is =
      let there = exist n (Contains-here n ns) in
      recomputed_kept ns order capacity (with_node_weight old n is.0) new (node_written capacity old order kept n is.0 there)
      (λ m c. (nodes_with_weight old n is.0 there m).1 (exist m (Contains-there n m ns c))) is.2

module _ {N E S F I X : Type 0} (graph : S → Graph N E) (of : ℕ → I)
    (step : F → Bor S → I → Result N X → F → Type 0) where
  pub in_turn_one_more : (ns : List ℕ) (n : ℕ) (w : N) (f now next : F) (old mid new : Graph N E)
      → RecomputesInTurn graph of step ns f old now mid → Answers graph of step now mid n (Ok w) next
      → new ≡ with_node_weight mid n w → RecomputesInTurn graph of step (ns ++ n ∷ []) f old next new
  in_turn_one_more [] n w f now next old mid new done answer is =
      let at_old : Answers graph of step now old n (Ok w) next =
      subst (λ z. Answers graph of step now z n (Ok w) next) done.1 answer in (
        w,
        next,
        subst (λ z. Answers graph of step z old n (Ok w) next) done.0 at_old,
        (refl, is ∙ ap (λ z. with_node_weight z n w) done.1),
      )
  in_turn_one_more (m ∷ ms) n w f now next old mid new done answer is = (
    done.0,
    done.1,
    done.2,
    in_turn_one_more ms n w done.1 now next (with_node_weight old m done.0) mid new done.3 answer is,
  )

  -- a dag keeps its order, and room for its searches
  pub in_turn_kept : (ns order : List ℕ) (capacity : ℕ) (f last : F) (old new : Graph N E)
      → IsKept old order capacity → ((n : ℕ) → Contains ns n → HasNode old n)
      → RecomputesInTurn graph of step ns f old last new → IsKept new order capacity
  in_turn_kept [] order capacity f last old new kept exist is = stays_so order capacity new old is.1 kept
  in_turn_kept (n ∷ ns) order capacity f last old new kept exist is =
      let there = exist n (Contains-here n ns) in
      in_turn_kept ns order capacity is.1 last (with_node_weight old n is.0) new
      (node_written capacity old order kept n is.0 there)
      (λ m c. (nodes_with_weight old n is.0 there m).1 (exist m (Contains-there n m ns c))) is.3

  -- whether all the calls answered or one failed
  pub tried_kept : {T : Type 0} (result : Result T X) (ns order : List ℕ) (capacity : ℕ) (f : F) (old new : Graph N E)
      → IsKept old order capacity → ((n : ℕ) → Contains ns n → HasNode old n)
      → OnOk result ((last : F) × RecomputesInTurn graph of step ns f old last new)
      → IfErr result (λ error. StopsInTurn graph of step ns f old error new) → IsKept new order capacity
  tried_kept (Ok _) ns order capacity f old new kept exist written stopped =
      in_turn_kept ns order capacity f written.0 old new kept exist written.1
  tried_kept (Err error) ns order capacity f old new kept exist written stopped =
      let done = stopped.0 in
      let rest = stopped.2 ∷ stopped.1 in
      in_turn_kept done order capacity f stopped.3 old new kept
      (λ m c. exist m (subst (λ z. Contains z m) (sym stopped.5) (Contains-append_left done rest m c))) stopped.6

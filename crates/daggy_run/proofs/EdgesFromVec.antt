-- A batch whose edges came out of a `Vec`: what is told of the edges that were given is told of the list.
use Rattle.std.proofs.Common.{◌≡◌, ℕ, List, [], ◌∷◌, ◌++◌, length, map, Option, None, refl, sym, ap, subst, ◌∙◌}
use Rattle.std.proofs.Common.{append_assoc, reverse}
use Rattle.std.specs.declared.alloc.Global.{Global}
use Rattle.std.specs.declared.vec.IntoIter.{IntoIter}
use Rattle.std.specs.Iterator.{Yields, Drains}
use Rattle.std.specs.Vec.Iter.{into_iter_items, into_iter_len, into_iter_steps}
use Rattle.std.proofs.lemmas.List.{map-append, map-id}
use Rattle.std.proofs.lemmas.Iterator.Adapters.{YieldsList-from_vec}
use Rattle.std.proofs.lemmas.Iterator.Consumers.{YieldsList-end}
use Rattle.daggy_base.specs.Graph.{Graph}
use Rattle.daggy_base.specs.Path.{IsAcyclic}
use Rattle.daggy_base.specs.declared.error.EdgesError.{EdgesError}
use Rattle.daggy_base.specs.declared.error.EdgesError.TheVariants.{BadEndpoint, Full, Memory, WouldCycle}
use Rattle.daggy_guard.specs.EdgeBatch as batch
use Rattle.daggy_guard.specs.EdgeBatch.{weights_back, LacksEnd, LacksIndex, LacksMemory}
use Rattle.daggy_base.specs.Adding.{NewEdge, by_numbers}
use Rattle.daggy_run.specs.EdgeLists.{AddsAll, StopsAt, ClosesCycle, IsRefused}

module _ {A : Type 0} where
  -- what came is the front of what there was
  given_first : (xs : List A) (s t : IntoIter A Global)
      → Yields (into_iter_steps {X = A} {Z = Global}) s xs t → into_iter_items s ≡ xs ++ into_iter_items t
  given_first [] s t h = ap into_iter_items h
  given_first (x ∷ xs) s t h = h.1.0 ∙ ap (λ ys. x ∷ ys) (given_first xs h.0 t h.2)

  given_all : (xs items : List A) (s : IntoIter A Global) → into_iter_items s ≡ items → into_iter_len s ≡ length items
      → Drains (into_iter_steps {X = A} {Z = Global}) s xs → xs ≡ items
  given_all xs items s here count h =
      let all = YieldsList-end (YieldsList-from_vec {s = s} items here count) xs h.1.0 h.1.1 None h.0 refl h.1.2 in
      sym (map-id xs) ∙ all.0

-- weights are those of the edges by their numbers
same_weights : {I E : Type 0} (number : I → ℕ) (xs : List (I × I × E))
    → map (λ (x : I × I × E). x.2) xs ≡ map (λ (x : NewEdge E). x.2) (map (by_numbers number) xs)
same_weights number [] = refl
same_weights number (x ∷ xs) = ap (λ ws. x.2 ∷ ws) (same_weights number xs)

weights_by_numbers : {I E : Type 0} (number : I → ℕ) (xs : List (I × I × E))
    → weights_back xs ≡ weights_back (map (by_numbers number) xs)
weights_by_numbers number xs = ap reverse (same_weights number xs)

abbrev gives : {I E : Type 0} → IntoIter (I × I × E) Global → Option (I × I × E) → IntoIter (I × I × E) Global → Type 0
gives = into_iter_steps

module _ {I N E : Type 0} (number : I → ℕ) (limit : ℕ) (items : List (I × I × E)) (s : IntoIter (I × I × E) Global)
    (here : into_iter_items s ≡ items) (count : into_iter_len s ≡ length items) where
  -- the edges were added
  pub all_added : {old new : Graph N E} {indices : List ℕ} → batch.IsAdded number limit gives s old new indices
      → IsAcyclic new → AddsAll limit old (map (by_numbers number) items) indices new
  all_added {old} {new} {indices} added acyclic =
      let all : added.given ≡ items = given_all added.given items s here count added.drained in
      rw (sym all) (record {
        faultless = added.faultless;
        acyclic = subst IsAcyclic added.added acyclic;
        indices_are = added.indices;
        added = added.added;
      })

  -- or one is at fault
  stopped : (IsCause : Graph N E → NewEdge E → Type 0) (g : Graph N E) (last : E) (before : List E)
      → batch.IsFirstFault number limit gives s IsCause g last before
      → StopsAt limit g (map (by_numbers number) items) IsCause last before
  stopped IsCause g last before fault =
      let all : items ≡ (fault.given ++ fault.at ∷ []) ++ into_iter_items fault.rest =
      sym here ∙ given_first (fault.given ++ fault.at ∷ []) s fault.rest fault.asked in
      record {
        front = map (by_numbers number) fault.given;
        at = by_numbers number fault.at;
        behind = map (by_numbers number) (into_iter_items fault.rest);
        edges_are =
            ap (map (by_numbers number)) (all ∙ append_assoc fault.given (fault.at ∷ []) (into_iter_items fault.rest))
            ∙ map-append (by_numbers number) fault.given (fault.at ∷ into_iter_items fault.rest);
        faultless = fault.faultless;
        cause = fault.cause;
        last_is = fault.last_is;
        before_is = fault.before_is ∙ weights_by_numbers number fault.given;
      }

  -- or with all of them there would be a cycle
  closes : (g : Graph N E) (weights : List E)
      → batch.ClosesCycle number limit gives s g weights → ClosesCycle limit g (map (by_numbers number) items) weights
  closes g weights cycle =
      let all : cycle.given ≡ items = given_all cycle.given items s here count cycle.drained in
      rw (sym all) (record {
        faultless = cycle.faultless;
        cyclic = cycle.cyclic;
        weights_are = cycle.weights_are ∙ weights_by_numbers number cycle.given;
      })

  pub none_added : (g : Graph N E) (error : EdgesError E)
      → batch.IsRefused number limit gives s g error → IsRefused limit g (map (by_numbers number) items) error
  none_added g (BadEndpoint last before) refused = stopped LacksEnd g last before.items refused
  none_added g (Full last before) refused = stopped (LacksIndex limit) g last before.items refused
  none_added g (Memory last before) refused = stopped (LacksMemory limit) g last before.items refused
  none_added g (WouldCycle w) refused = closes g w.0.items refused

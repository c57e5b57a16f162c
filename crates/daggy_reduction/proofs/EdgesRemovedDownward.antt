-- Removing the edges of an ascending list one by one, the last one first.
use Rattle.std.proofs.Common.{◌≡◌, ℕ, zero, suc, ◌+◌, ◌<◌, ◌≤◌, ◌↔◌, inl, inr, List, [], ◌∷◌, ◌++◌, length, get_or}
use Rattle.std.proofs.Common.{drop, reverse, Option, Some, None, refl, sym, ap, subst, ◌∙◌, arith, Contains, IsSome}
use Rattle.std.proofs.Common.{OnSome, option_map}
use Rattle.std.proofs.lemmas.List.{drop_more, reverse-append}
use Rattle.daggy_base.specs.Graph.{Graph, Edge, HasEdge, slot, edge_at}
use Rattle.daggy_base.specs.Removal.{KeepsIndices, without_edge, without_edges}
use Rattle.daggy_base.specs.declared.kind.Kind.{Kind}
use Rattle.daggy_base.specs.declared.kind.Kind.TheVariants.{Compact, Stable}
use Rattle.daggy_base.specs.Reduction.{IsDescending, IsReduction, IsRedundant}
use Rattle.daggy_base.specs.Weights.{edge_weight}
use Rattle.daggy_base.proofs.Lists.{Mem, mem_left, mem_right, mem_cases, mem_at, mem_contains, contains_mem}
use Rattle.daggy_base.proofs.OutEdgesRead.{below_bound}
use Rattle.daggy_base.proofs.PathsWithNode.{bound_low}
use Rattle.daggy_base.proofs.PathsWithoutEdge.{slot_put}
use Rattle.daggy_redundant.specs.Comparison.{IsAscending}
use Rattle.daggy_reduction.proofs.RemainingEdges.{left_below, below_first, descending_rest}

mem_turned : (x : ℕ) (xs : List ℕ) → Mem x xs → Mem x (reverse xs)
mem_turned x [] m = absurd m
mem_turned x (y ∷ xs) m =
    let P : List ℕ → Type 0 = λ z. Mem x z in
    subst P (sym (reverse-append (y ∷ []) xs)) (elim m [
      | inl here ↦ mem_right (reverse xs) (y ∷ []) x (inl here)
      | inr later ↦ mem_left (reverse xs) (y ∷ []) x (mem_turned x xs later)
    ])

turned_mem : (x : ℕ) (xs : List ℕ) → Mem x (reverse xs) → Mem x xs
turned_mem x [] m = absurd m
turned_mem x (y ∷ xs) m =
    let P : List ℕ → Type 0 = λ z. Mem x z in
    elim (mem_cases (reverse xs) (y ∷ []) x (subst P (reverse-append (y ∷ []) xs) m)) [
      | inl a ↦ inr (turned_mem x xs a)
      | inr b ↦ elim b [ inl here ↦ inl here | inr none ↦ absurd none ]
    ]

-- the first of an ascending list is less than the others
first_least : (x : ℕ) (xs : List ℕ) → IsAscending (x ∷ xs) → (y : ℕ) → Mem y xs → x < y
first_least x [] up y m = absurd m
first_least x (z ∷ xs) up y m =
    elim m [
      | inl here ↦ omega (arith, up.0, here)
      | inr later ↦ let low = first_least z xs up.1 y later in omega (arith, up.0, low)
    ]

ascending_rest : (x : ℕ) (xs : List ℕ) → IsAscending (x ∷ xs) → IsAscending xs
ascending_rest x [] up = tt
ascending_rest x (y ∷ xs) up = up.1

descending_more : (xs : List ℕ) (k : ℕ) → IsDescending xs → ((x : ℕ) → Mem x xs → k < x) → IsDescending (xs ++ k ∷ [])
descending_more [] k down low = tt
descending_more (x ∷ []) k down low = (low x (inl refl), tt)
descending_more (x ∷ y ∷ xs) k down low = (down.0, descending_more (y ∷ xs) k down.1 (λ z m. low z (inr m)))

pub turned_descends : (xs : List ℕ) → IsAscending xs → IsDescending (reverse xs)
turned_descends [] up = tt
turned_descends (x ∷ xs) up =
    let P : List ℕ → Type 0 = λ z. IsDescending z in
    subst P (sym (reverse-append (x ∷ []) xs))
    (descending_more (reverse xs) x (turned_descends xs (ascending_rest x xs up))
    (λ y m. first_least x xs up y (turned_mem y xs m)))

ascending_drop : (k : ℕ) (xs : List ℕ) → IsAscending xs → IsAscending (drop k xs)
ascending_drop zero [] up = up
ascending_drop zero (x ∷ xs) up = up
ascending_drop (suc k) [] up = tt
ascending_drop (suc k) (x ∷ xs) up = ascending_drop k xs (ascending_rest x xs up)

mem_dropped : (k x : ℕ) (xs : List ℕ) → Mem x (drop k xs) → Mem x xs
mem_dropped zero x [] m = m
mem_dropped zero x (y ∷ xs) m = m
mem_dropped (suc k) x [] m = absurd m
mem_dropped (suc k) x (y ∷ xs) m = inr (mem_dropped k x xs m)

module _ {N E : Type 0} (kind : Kind) where
  without_last : (ds : List ℕ) (g : Graph N E) (d : ℕ)
      → without_edges kind g (ds ++ d ∷ []) ≡ without_edge kind (without_edges kind g ds) d
  without_last [] g d = refl
  without_last (e ∷ ds) g d = without_last ds (without_edge kind g e) d

  -- below all removed ones each edge stands where it stood
  still_there : (ds : List ℕ) (g : Graph N E) → IsDescending ds → ((d : ℕ) → Mem d ds → HasEdge g d)
      → (y : ℕ) → ((d : ℕ) → Mem d ds → y < d) → edge_at (without_edges kind g ds) y ≡ edge_at g y
  still_there [] g down exist y low = refl
  still_there (d ∷ ds) g down exist y low =
      let inside : d < length g.edges = has_inside g.edges d (exist d (inl refl)) in
      let still : (e : ℕ) → Mem e ds → HasEdge (without_edge kind g d) e = λ e m. (
      let P : Option (Edge E) → Type 0 = λ z. IsSome z in
      subst P (sym (left_below g d kind e inside (below_first d ds down e m))) (exist e (inr m))
      ) in
      still_there ds (without_edge kind g d) (descending_rest d ds down) still y (λ e m. low e (inr m))
      ∙ left_below g d kind y inside (low d (inl refl))
    where
      has_inside : {A : Type 0} (xs : List (Option A)) (i : ℕ) → IsSome (slot xs i) → i < length xs
      has_inside xs i h = let low = below_bound xs i h in let all = bound_low xs in omega (arith, low, all)

  pub nodes_kept : (ds : List ℕ) (g : Graph N E) → (without_edges kind g ds).nodes ≡ g.nodes
  nodes_kept [] g = refl
  nodes_kept (d ∷ ds) g = nodes_kept ds (without_edge kind g d) ∙ one kind
    where
      one : (k : Kind) → (without_edge k g d).nodes ≡ g.nodes
      one Compact = refl
      one Stable = refl

-- in slots that stay, what is left stands where it stood
pub keeps_indices : {N E : Type 0} (ds : List ℕ) (g : Graph N E) → KeepsIndices g (without_edges Stable g ds)
keeps_indices [] g = record { nodes = λ n w h. h; edges = λ e x h. h }
keeps_indices (d ∷ ds) g =
    let later = keeps_indices ds (without_edge Stable g d) in
    record {
      nodes = later.nodes;
      edges = λ e x h. elim (slot_put g.edges d e None x (later.edges e x h)) [ inl a ↦ absurd cc | inr b ↦ b ];
    }

some_of : {A : Type 0} (o : Option A) → IsSome o → (x : A) × (o ≡ Some x)
some_of None h = absurd cc
some_of (Some x) h = (x, refl)

on_some : {A : Type 0} (o : Option A) (x : A) (P : Type 0) → o ≡ Some x → OnSome o P → P
on_some {A} o x P is h = let Q : Option A → Type 0 = λ z. OnSome z P in subst Q is h

-- the edges from a place of the list on are removed
pub record Removing {N E : Type 0} (kind : Kind) (g₀ g : Graph N E) (edges : List ℕ)
    (left looks₀ looks : ℕ) : Type 0 where
  pub within : left ≤ length edges
  pub removed : g ≡ without_edges kind g₀ (reverse (drop left edges))
  pub counted : looks ≡ looks₀

module _ {N E : Type 0} {kind : Kind} {g₀ g : Graph N E} {edges : List ℕ} {left looks₀ looks : ℕ}
    (s : Removing kind g₀ g edges left looks₀ looks) where
  module _ (up : IsAscending edges) (exist : (e : ℕ) → Contains edges e → HasEdge g₀ e) (at y : ℕ)
      (next : at + 1 ≡ left) (is : y ≡ get_or edges at y) where
    low : at < length edges
    low = let within = s.within in omega (arith, within, next)

    longer : drop at edges ≡ y ∷ drop left edges
    longer = drop_more edges at y low ∙ ap (λ z. z ∷ drop (at + 1) edges) (sym is) ∙ ap (λ z. y ∷ drop z edges) next

    ascends : IsAscending (y ∷ drop left edges)
    ascends = let P : List ℕ → Type 0 = λ z. IsAscending z in subst P longer (ascending_drop at edges up)

    abbrev later : List ℕ
    later = reverse (drop left edges)

    was_there : edge_at g y ≡ edge_at g₀ y
    was_there =
        ap (λ (z : Graph N E). edge_at z y) s.removed
        ∙ still_there kind later g₀ (turned_descends (drop left edges) (ascending_rest y (drop left edges) ascends))
        (λ d m. exist d (mem_contains edges d (mem_dropped left d edges (turned_mem d (drop left edges) m)))) y
        (λ d m. first_least y (drop left edges) ascends d (turned_mem d (drop left edges) m))

    there : HasEdge g y
    there =
        let P : Option (Edge E) → Type 0 = λ z. IsSome z in
        let M : ℕ → Type 0 = λ z. Mem z edges in
        subst P (sym was_there) (exist y (mem_contains edges y (subst M (sym is) (mem_at edges at y low))))

    pub remove_on : {g' : Graph N E} {looks' : ℕ} (gone : Option E) → gone ≡ edge_weight g y
        → OnSome gone (g' ≡ without_edge kind g y) → looks' ≡ looks → Removing kind g₀ g' edges at looks₀ looks'
    remove_on {g'} {looks'} gone gives taken counted' =
        let x = some_of (edge_at g y) there in
        let weighs : gone ≡ Some x.0.weight = gives ∙ ap (option_map (λ (z : Edge E). z.weight)) x.1 in
        let new : g' ≡ without_edge kind g y = on_some gone x.0.weight (g' ≡ without_edge kind g y) weighs taken in
        record {
          within = omega (arith, low);
          removed = new
              ∙ ap (λ z. without_edge kind z y) s.removed
              ∙ sym (without_last kind later g₀ y)
              ∙ ap (λ z. without_edges kind g₀ z) (sym (ap reverse longer ∙ reverse-append (y ∷ []) (drop left edges)));
          counted = counted' ∙ s.counted;
        }

-- removed like that, the redundant edges leave the reduction
pub reduced : {N E : Type 0} (kind : Kind) (roots edges : List ℕ) (old new : Graph N E)
    → IsAscending edges → ((e : ℕ) → Contains edges e ↔ IsRedundant old roots e)
    → new ≡ without_edges kind old (reverse edges) → IsReduction kind roots old new
reduced kind roots edges old new up exact removed =
    record {
      redundant = reverse edges;
      descending = turned_descends edges up;
      exact = λ e. (
        λ c. (exact e).0 (mem_contains edges e (turned_mem e edges (contains_mem (reverse edges) e c))),
        λ r. mem_contains (reverse edges) e (mem_turned e edges (contains_mem edges e ((exact e).1 r))),
      );
      removed = removed;
    }

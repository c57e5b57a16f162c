-- Lists of nodes that exist, and their keys.
use Rattle.std.proofs.Common.{◌≡◌, ℕ, ◌+◌, suc, zero, ◌↔◌, List, [], ◌∷◌, Option, Some, None, IsSome, is_some, map}
use Rattle.std.proofs.Common.{get_or, Contains, Bor, Bool, true, slice_get, option_and_then, refl, sym, ap, subst, ◌∙◌, arith}
use Rattle.std.proofs.lemmas.List.{length-map, get_or-map}
use Rattle.std.proofs.lemmas.List.Elements.{Contains-get_or}
use Rattle.std.specs.Cmp.{IsEquivalence}
use Rattle.std.specs.List.{All, filter_map}
use Rattle.std.specs.Option.{option_map, option_copied}
use Rattle.std.proofs.lemmas.Bool.{false≢true}
use Rattle.daggy_base.specs.declared.index.Direction.{Direction}
use Rattle.daggy_base.specs.declared.index.Direction.TheVariants.{Outgoing, Incoming}
use Rattle.daggy_base.specs.Graph.{Graph, Edge, HasNode, slot, edge_at, far_end, list_at}
use Rattle.daggy_base.specs.Iterating.{numbered, node_identifiers, neighbors_at}
use Rattle.daggy_base.specs.Ordered.{IsOrderOf}
use Rattle.daggy_base.specs.Path.{IsPath}
use Rattle.daggy_base.specs.WellFormed.{IsWellFormed}
use Rattle.daggy_order.specs.Paths.{IsShortestPath}
use Rattle.daggy_reduction.specs.Descendants.{IsDescendantOf, IsDescendantOfAny, IsAncestorOfAny, IsOrderOfPart}
use Rattle.daggy_named.specs.Naming.{Naming, IsNamed, key_at, index_by, is_named}
use Rattle.daggy_named.proofs.Slots.{same_marks, slot_within, position_only}

-- what holds of each number holds of the number of each item
pub each_number : {I B : Type 0} (P : B → Type 0) (number : I → B) (items : List I) → All P (map number items)
    → All (λ i. P (number i)) items
each_number P number items h k d low =
    subst P (get_or-map number items k d (number d) low) (h k (number d) (omega (arith, low, length-map items number)))

pub each_member : {A : Type 0} (P : A → Type 0) (xs : List A) → ((x : A) → Contains xs x → P x) → All P xs
each_member P xs h k d low = h (get_or xs k d) (Contains-get_or xs k d low)

pub nothing : {A : Type 0} (P : A → Type 0) → All P []
nothing P k d low = absurd (omega (arith, low))

one_more : {A : Type 0} (P : A → Type 0) (x : A) (xs : List A) → P x → All P xs → All P (x ∷ xs)
one_more P x xs first rest zero d low = first
one_more P x xs first rest (suc k) d low = rest k d (omega (arith, low))

pub all_rest : {A : Type 0} (P : A → Type 0) (x : A) (xs : List A) → All P (x ∷ xs) → All P xs
all_rest P x xs h k d low = h (suc k) d (omega (arith, low))

-- the nodes of a path exist
pub path_exists : {N E : Type 0} (g : Graph N E) (u : ℕ) (rest : List ℕ) → IsPath g (u ∷ rest) → All (HasNode g) (u ∷ rest)
path_exists g u [] p = one_more (HasNode g) u [] p (nothing (HasNode g))
path_exists g u (v ∷ rest) p = one_more (HasNode g) u (v ∷ rest) p.0 (path_exists g v rest p.2)

pub shortest_exists : {N E : Type 0} (g : Graph N E) (u v : ℕ) (path : List ℕ) → IsShortestPath g u v path
    → All (HasNode g) path
shortest_exists g u v path s =
    subst (All (HasNode g)) (sym s.between.begins) (path_exists g u s.between.rest s.between.joined)

-- the indices of all nodes exist
numbered_exist : {A : Type 0} (P : ℕ → Type 0) (i : ℕ) (xs : List (Option A))
    → ((m : ℕ) → IsSome (slot xs m) → P (m + i)) → All P (map (λ p. p.0) (numbered i xs))
numbered_exist P i [] h = nothing P
numbered_exist P i (None ∷ xs) h =
    numbered_exist P (i + 1) xs (λ m some. subst P (omega arith) (h (suc m) some))
numbered_exist P i (Some x ∷ xs) h =
    one_more P i (map (λ p. p.0) (numbered (i + 1) xs)) (subst P (omega arith) (h zero refl))
    (numbered_exist P (i + 1) xs (λ m some. subst P (omega arith) (h (suc m) some)))

pub identifiers_exist : {N E : Type 0} (g : Graph N E) → All (HasNode g) (node_identifiers g)
identifiers_exist g =
    numbered_exist (HasNode g) 0 g.nodes (λ m some. subst (HasNode g) (omega arith) some)

pub order_exists : {N E : Type 0} (g : Graph N E) (order : List ℕ) → IsOrderOf g order → All (HasNode g) order
order_exists g order o = each_member (HasNode g) order (λ n there. (o.exact n).0 there)

-- the far endpoints of edges exist
module _ {N E : Type 0} (g : Graph N E) {end : ℕ} (w : IsWellFormed end g) (dir : Direction) where
  far_exists : (dir : Direction) (e : ℕ) (x : Edge E) → edge_at g e ≡ Some x → HasNode g (far_end dir x)
  far_exists Outgoing e x at = w.children e x at
  far_exists Incoming e x at = w.parents e x at

  abbrev far_ends : List ℕ → List ℕ
  far_ends es = map (λ (p : ℕ × Edge E). far_end dir p.1) (filter_map (λ e. option_map (λ x. (e, x)) (edge_at g e)) es)

  far_exist : (es : List ℕ) → All (HasNode g) (far_ends es)
  far_exist [] = nothing (HasNode g)
  far_exist (e ∷ es) = by (far_exist es) (edge_at g e) refl
    where
      by : All (HasNode g) (far_ends es) → (o : Option (Edge E)) → edge_at g e ≡ o → All (HasNode g) (far_ends (e ∷ es))
      by rest None at = rw at rest
      by rest (Some x) at = rw at (one_more (HasNode g) (far_end dir x) (far_ends es) (far_exists dir e x at) rest)

  pub neighbors_exist : (n : ℕ) → All (HasNode g) (neighbors_at dir g n)
  neighbors_exist n = far_exist (list_at dir g n)

-- the descendants, and the ancestors, of one node
module _ {N E : Type 0} (g : Graph N E) (n : ℕ) where
  one_given : (a : ℕ) → Contains (n ∷ []) a → n ≡ a
  one_given a (zero, low, is) = is
  one_given a (suc k, low, is) = absurd (omega (arith, low))

  of_one : (m : ℕ) → IsDescendantOfAny g (n ∷ []) m ↔ IsDescendantOf g n m
  of_one m = (
    λ d. subst (λ a. IsDescendantOf g a m) (sym (one_given d.0 d.1)) d.2,
    λ d. (n, (zero, omega arith, refl), d),
  )

  to_one : (m : ℕ) → IsAncestorOfAny g (n ∷ []) m ↔ IsDescendantOf g m n
  to_one m = (
    λ d. subst (λ b. IsDescendantOf g m b) (sym (one_given d.0 d.1)) d.2,
    λ d. (n, (zero, omega arith, refl), d),
  )

  order_same : {P Q : ℕ → Type 0} {nodes : List ℕ} → ((m : ℕ) → P m ↔ Q m) → IsOrderOfPart g P nodes
      → IsOrderOfPart g Q nodes
  order_same same o =
      record {
        exact = λ m. (λ c. (same m).0 ((o.exact m).0 c), λ q. (o.exact m).1 ((same m).1 q));
        once = o.once;
        sorted = o.sorted;
      }

  pub order_of_one : {nodes : List ℕ} → IsOrderOfPart g (IsDescendantOfAny g (n ∷ [])) nodes
      → IsOrderOfPart g (λ m. IsDescendantOf g n m) nodes
  order_of_one = order_same of_one

  pub order_to_one : {nodes : List ℕ} → IsOrderOfPart g (IsAncestorOfAny g (n ∷ [])) nodes
      → IsOrderOfPart g (λ m. IsDescendantOf g m n) nodes
  order_to_one = order_same to_one

-- the nodes of a part exist if each node of which the part speaks does
pub part_exists : {N E : Type 0} (g : Graph N E) {Part : ℕ → Type 0} (nodes : List ℕ)
    → ((m : ℕ) → Part m → HasNode g m) → IsOrderOfPart g Part nodes → All (HasNode g) nodes
part_exists g nodes exists o = each_member (HasNode g) nodes (λ m there. exists m ((o.exact m).0 there))

-- a node that exists has a key
module _ {K N E : Type 0} (keys : List (Option K)) (g : Graph N E) (exact : map is_some keys ≡ map is_some g.nodes) where
  pub has_key : (n : ℕ) → HasNode g n → IsSome (key_at keys n)
  has_key n some = same_marks keys g.nodes exact n ∙ some

  pub have_keys : (xs : List ℕ) → All (HasNode g) xs → All (λ n. IsSome (key_at keys n)) xs
  have_keys xs h k d low = has_key (get_or xs k d) (h k d low)

-- a key that a node has leads to that node
pub index_named : {K N E : Type 0} {eq : K → K → Bool} → IsEquivalence eq → (s : Naming K N E) → IsNamed eq s
    → (n : ℕ) (k : K) → key_at s.keys n ≡ Some k → index_by (eq k) s.keys ≡ Some n
index_named {K} {N} {E} {eq} laws s named n k at =
    position_only (is_named (eq k)) s.keys n (Some k) (slot_within s.keys n k at) (laws.refl k) only
  where
    only : (m : ℕ) (x : Option K) → slice_get s.keys m ≡ Some x → is_named (eq k) x ≡ true → m ≡ n
    only m None there passes = absurd (false≢true passes)
    only m (Some y) there passes =
        sym (named.once n m k y at (ap (option_and_then (λ z. z)) there) passes)

-- what is behind a reference is there
pub lent_some : {A : Type 0} (r : Option (Bor A)) {o : Option A} → option_copied r ≡ o → IsSome o → IsSome r
lent_some None is some = absurd (false≢true (ap is_some is ∙ some))
lent_some (Some x) is some = refl

pub map_twice : {A B C : Type 0} (f : B → C) (h : A → B) (xs : List A) → map f (map h xs) ≡ map (λ x. f (h x)) xs
map_twice f h [] = refl
map_twice f h (x ∷ xs) = ap (λ ys. f (h x) ∷ ys) (map_twice f h xs)

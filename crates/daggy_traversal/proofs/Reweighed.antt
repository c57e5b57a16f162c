-- Walks go on while weights are written.
use Rattle.std.proofs.Common.{◌≡◌, ℕ, zero, suc, ◌≤◌, true, cond, List, [], ◌∷◌, ◌++◌, Option, Some, None, is_some}
use Rattle.std.proofs.Common.{map, length, set, refl, sym, ap, subst, ◌∙◌}
use Rattle.std.specs.Option.{option_map}
use Rattle.std.proofs.lemmas.Bool.{false≢true}
use Rattle.daggy_base.specs.declared.index.Direction.{Direction}
use Rattle.daggy_base.specs.declared.index.Direction.TheVariants.{Outgoing, Incoming}
use Rattle.daggy_base.specs.Graph.{Graph, Edge, HasNode, edge_at, slot, ends_of, list_at, bound_of, bound_step}
use Rattle.daggy_base.specs.Path.{AreJoined}
use Rattle.daggy_base.specs.Weights.{with_node_weight, with_edge_weight, edge_with_weight}
use Rattle.daggy_traversal.specs.Reweighed.{HasSameShape}
use Rattle.daggy_traversal.specs.Traversal.{LeadsTo, far_of, far_or, neighbors, edges_left, neighbors_left, neighbors_of, rest_from}
use Rattle.daggy_traversal.specs.Traversal.{begin, are_found, without_old}
use Rattle.daggy_traversal.specs.Breadth.{Breadth, IsBreadthFirst}
use Rattle.daggy_traversal.specs.Depth.{Depth, IsDepthFirst, neighbors_back, ahead}
use Rattle.daggy_traversal.specs.OldestFirst.{OldestFirst, IsOldestFirst, edges_of, oldest_back}
use Rattle.daggy_traversal.specs.Postorder.{Postorder, IsPostorder, leads_along, is_way}

-- ---- a weight is written

set_some : {A : Type 0} (xs : List (Option A)) (n m : ℕ) (w : A) → is_some (slot xs n) ≡ true
    → is_some (slot (set xs n (Some w)) m) ≡ is_some (slot xs m)
set_some [] n m w h = absurd (false≢true h)
set_some (x ∷ xs) zero zero w h = sym h
set_some (x ∷ xs) zero (suc m) w h = refl
set_some (x ∷ xs) (suc n) zero w h = refl
set_some (x ∷ xs) (suc n) (suc m) w h = set_some xs n m w h

step_some : {A : Type 0} (x w : A) (b : ℕ) → bound_step (Some w) b ≡ bound_step (Some x) b
step_some x w zero = refl
step_some x w (suc b) = refl

bound_set : {A : Type 0} (xs : List (Option A)) (n : ℕ) (w : A) → is_some (slot xs n) ≡ true
    → bound_of (set xs n (Some w)) ≡ bound_of xs
bound_set [] n w h = absurd (false≢true h)
bound_set (None ∷ xs) zero w h = absurd (false≢true h)
bound_set (Some x ∷ xs) zero w h = step_some x w (bound_of xs)
bound_set (x ∷ xs) (suc n) w h = ap (bound_step x) (bound_set xs n w h)

same_ends : {E : Type 0} (w : E) (o : Option (Edge E))
    → option_map ends_of (option_map (edge_with_weight w) o) ≡ option_map ends_of o
same_ends w None = refl
same_ends w (Some x) = refl

ends_set : {E : Type 0} (xs : List (Option (Edge E))) (e k : ℕ) (w : E)
    → option_map ends_of (slot (set xs e (option_map (edge_with_weight w) (slot xs e))) k) ≡ option_map ends_of (slot xs k)
ends_set [] zero k w = refl
ends_set [] (suc e) k w = refl
ends_set (x ∷ xs) zero zero w = same_ends w x
ends_set (x ∷ xs) zero (suc k) w = refl
ends_set (x ∷ xs) (suc e) zero w = refl
ends_set (x ∷ xs) (suc e) (suc k) w = ends_set xs e k w

same_lists : {N E N' E' : Type 0} (g : Graph N E) (h : Graph N' E') → h.out_lists ≡ g.out_lists → h.in_lists ≡ g.in_lists
    → (dir : Direction) (n : ℕ) → list_at dir h n ≡ list_at dir g n
same_lists g h outs ins Outgoing n = cc
same_lists g h outs ins Incoming n = cc

pub shape_with_node_weight : {N E : Type 0} (g : Graph N E) (n : ℕ) (w : N) → HasNode g n
    → HasSameShape g (with_node_weight g n w)
shape_with_node_weight g n w exists =
    record {
      nodes = λ m. set_some g.nodes n m w exists;
      ends = λ e. refl;
      lists = same_lists g (with_node_weight g n w) refl refl;
      bound = bound_set g.nodes n w exists;
    }

pub shape_with_edge_weight : {N E : Type 0} (g : Graph N E) (e : ℕ) (w : E) → HasSameShape g (with_edge_weight g e w)
shape_with_edge_weight g e w =
    record {
      nodes = λ m. refl;
      ends = λ k. ends_set g.edges e k w;
      lists = same_lists g (with_edge_weight g e w) refl refl;
      bound = refl;
    }

-- ---- what walks read

abbrev far_of_ends : Direction → Option (ℕ × ℕ) → ℕ
far_of_ends dir None = 0
far_of_ends dir (Some p) = far_of dir p.0 p.1

far_by_ends : {E : Type 0} (dir : Direction) (o : Option (Edge E)) → far_or dir o ≡ far_of_ends dir (option_map ends_of o)
far_by_ends dir None = refl
far_by_ends Outgoing (Some x) = refl
far_by_ends Incoming (Some x) = refl

map_alike : {A : Type 0} (f f' : ℕ → A) → ((n : ℕ) → f' n ≡ f n) → (xs : List ℕ) → map f' xs ≡ map f xs
map_alike f f' same [] = refl
map_alike f f' same (x ∷ xs) = let here = same x in let rest = map_alike f f' same xs in cc

joined_by_ends : {E : Type 0} (o : Option (Edge E)) (u v : ℕ) → option_map ends_of o ≡ Some (u, v)
    → (w : E) × (o ≡ Some (record { parent = u; child = v; weight = w }))
joined_by_ends None u v is = absurd cc
joined_by_ends {E} (Some x) u v is =
    let both : (x.parent, x.child) ≡ (u, v) = cc in
    let parent : x.parent ≡ u = ap (λ (p : ℕ × ℕ). p.0) both in
    let child : x.child ≡ v = ap (λ (p : ℕ × ℕ). p.1) both in
    (x.weight, λ i. Some (record { parent = parent i; child = child i; weight = x.weight }))

module _ {N E M F : Type 0} (g : Graph N E) (h : Graph M F) (s : HasSameShape g h) where
  far_same : (dir : Direction) (e : ℕ) → far_or dir (edge_at h e) ≡ far_or dir (edge_at g e)
  far_same dir e =
      far_by_ends dir (edge_at h e) ∙ (ap (far_of_ends dir) (s.ends e) ∙ sym (far_by_ends dir (edge_at g e)))

  neighbors_same : (dir : Direction) (n : ℕ) → neighbors dir h n ≡ neighbors dir g n
  neighbors_same dir n =
      ap (map (λ e. far_or dir (edge_at h e))) (s.lists dir n)
      ∙ map_alike (λ e. far_or dir (edge_at g e)) (λ e. far_or dir (edge_at h e)) (far_same dir) (list_at dir g n)

  neighbors_of_same : (dir : Direction) (ns : List ℕ) → neighbors_of dir h ns ≡ neighbors_of dir g ns
  neighbors_of_same dir [] = refl
  neighbors_of_same dir (n ∷ ns) = let here = neighbors_same dir n in let rest = neighbors_of_same dir ns in cc

  neighbors_back_same : (dir : Direction) (ns : List ℕ) → neighbors_back dir h ns ≡ neighbors_back dir g ns
  neighbors_back_same dir [] = refl
  neighbors_back_same dir (n ∷ ns) = let here = neighbors_same dir n in let rest = neighbors_back_same dir ns in cc

  oldest_back_same : (dir : Direction) (ns : List ℕ) → oldest_back dir h ns ≡ oldest_back dir g ns
  oldest_back_same dir [] = refl
  oldest_back_same dir (n ∷ ns) = let here = neighbors_same dir n in let rest = oldest_back_same dir ns in cc

  edges_of_same : (dir : Direction) (ns : List ℕ) → edges_of dir h ns ≡ edges_of dir g ns
  edges_of_same dir [] = refl
  edges_of_same dir (n ∷ ns) = let here = s.lists dir n in let rest = edges_of_same dir ns in cc

  begin_same : (start : ℕ) → begin h start ≡ begin g start
  begin_same start = ap (λ b. cond b (start ∷ []) []) (s.nodes start)

  found_same : (dir : Direction) (start : ℕ) (given ns : List ℕ)
      → are_found dir h start given ns ≡ are_found dir g start given ns
  found_same dir start given [] = refl
  found_same dir start given (n ∷ ns) =
      let first = begin_same start in
      let next = neighbors_of_same dir given in
      let rest = found_same dir start (given ++ n ∷ []) ns in
      cc

  edges_left_same : (dir : Direction) (e : ℕ) (o : Option (Edge E)) (o' : Option (Edge F))
      → option_map ends_of o' ≡ option_map ends_of o → edges_left dir h e o' ≡ edges_left dir g e o
  edges_left_same dir e None None is = refl
  edges_left_same dir e None (Some y) is = absurd cc
  edges_left_same dir e (Some x) None is = absurd cc
  edges_left_same Outgoing e (Some x) (Some y) is =
      let both : (y.parent, y.child) ≡ (x.parent, x.child) = cc in
      let at : y.parent ≡ x.parent = ap (λ (p : ℕ × ℕ). p.0) both in
      ap (λ z. rest_from z e) (s.lists Outgoing y.parent ∙ ap (list_at Outgoing g) at)
  edges_left_same Incoming e (Some x) (Some y) is =
      let both : (y.parent, y.child) ≡ (x.parent, x.child) = cc in
      let at : y.child ≡ x.child = ap (λ (p : ℕ × ℕ). p.1) both in
      ap (λ z. rest_from z e) (s.lists Incoming y.child ∙ ap (list_at Incoming g) at)

  left_same : (dir : Direction) (e : ℕ) → neighbors_left dir h e ≡ neighbors_left dir g e
  left_same dir e =
      ap (map (λ k. far_or dir (edge_at h k))) (edges_left_same dir e (edge_at g e) (edge_at h e) (s.ends e))
      ∙ map_alike (λ k. far_or dir (edge_at g k)) (λ k. far_or dir (edge_at h k)) (far_same dir)
      (edges_left dir g e (edge_at g e))

  ahead_same : (dir : Direction) (es : List ℕ) → ahead dir h es ≡ ahead dir g es
  ahead_same dir [] = refl
  ahead_same dir (e ∷ es) = let here = left_same dir e in let rest = ahead_same dir es in cc

  along_same : (dir : Direction) (u : ℕ) (ns : List ℕ) → leads_along dir h u ns ≡ leads_along dir g u ns
  along_same dir u [] = refl
  along_same dir u (n ∷ ns) = let here = neighbors_same dir u in let rest = along_same dir n ns in cc

  way_same : (dir : Direction) (start : ℕ) (path : List ℕ) → is_way dir h start path ≡ is_way dir g start path
  way_same dir start [] = refl
  way_same dir start (u ∷ rest) = let more = along_same dir u rest in cc

  joined_same : (u v : ℕ) → AreJoined h u v → AreJoined g u v
  joined_same u v j =
      (let p = joined_by_ends (edge_at g j.0) u v (sym (s.ends j.0) ∙ ap (option_map ends_of) j.2) in (j.0, p.0, p.1))

  leads_same : (dir : Direction) (u v : ℕ) → LeadsTo dir h u v → LeadsTo dir g u v
  leads_same Outgoing u v j = joined_same u v j
  leads_same Incoming u v j = joined_same v u j

  -- ---- the walks

  pub still_breadth_first : (walk : Breadth) → IsBreadthFirst g walk → IsBreadthFirst h walk
  still_breadth_first walk w =
      let first = begin_same walk.start in
      let next = neighbors_of_same walk.dir walk.given in
      let P : ℕ → Type 0 = λ z. z ≤ walk.bound in
      record {
        met = (let was = w.met in cc);
        found = found_same walk.dir walk.start [] walk.given ∙ w.found;
        room = subst P (sym s.bound) w.room;
      }

  pub still_depth_first : (walk : Depth) → IsDepthFirst g walk → IsDepthFirst h walk
  still_depth_first walk w =
      let first = begin_same walk.start in
      let back = neighbors_back_same walk.dir walk.given in
      let rest = ahead_same walk.dir walk.cursors in
      let P : ℕ → Type 0 = λ z. z ≤ walk.bound in
      record {
        left = (let was = w.left in cc);
        once = w.once;
        found = found_same walk.dir walk.start [] walk.given ∙ w.found;
        first = λ waits. (let was = w.first waits in (s.nodes walk.start ∙ was.0, was.1, was.2));
        few = w.few;
        room = subst P (sym s.bound) w.room;
      }

  pub still_oldest_first : (walk : OldestFirst) → IsOldestFirst g walk → IsOldestFirst h walk
  still_oldest_first walk w =
      let first = begin_same walk.start in
      let back = oldest_back_same walk.dir walk.given in
      let P : ℕ → Type 0 = λ z. z ≤ walk.bound in
      let Q : List ℕ → Type 0 = λ z. length walk.stack ≤ suc (length z) in
      let R : List ℕ → Type 0 = λ z. length z ≤ walk.room in
      record {
        left = (let was = w.left in cc);
        once = w.once;
        found = found_same walk.dir walk.start [] walk.given ∙ w.found;
        present = λ n among. s.nodes n ∙ w.present n among;
        few = subst Q (sym (edges_of_same walk.dir walk.given)) w.few;
        bounded = subst P (sym s.bound) w.bounded;
        fits = λ ns once. subst R (sym (edges_of_same walk.dir ns)) (w.fits ns once);
      }

  pub still_postorder : (walk : Postorder) → IsPostorder g walk → IsPostorder h walk
  still_postorder walk w =
      let met = walk.given ++ walk.path in
      let P : ℕ → Type 0 = λ z. z ≤ walk.bound in
      record {
        left =
            map_alike (λ n. without_old met (neighbors walk.dir g n)) (λ n. without_old met (neighbors walk.dir h n))
            (λ n. ap (without_old met) (neighbors_same walk.dir n)) walk.path
            ∙ (w.left
            ∙ sym (map_alike (λ e. without_old met (neighbors_left walk.dir g e))
            (λ e. without_old met (neighbors_left walk.dir h e)) (λ e. ap (without_old met) (left_same walk.dir e))
            walk.cursors));
        way = way_same walk.dir walk.start walk.path ∙ w.way;
        once = w.once;
        exists = λ some. s.nodes walk.start ∙ w.exists some;
        present = λ n a. s.nodes n ∙ w.present n a;
        first = λ has. w.first (sym (s.nodes walk.start) ∙ has);
        done = λ u v a j. w.done u v a (leads_same walk.dir u v j);
        room = subst P (sym s.bound) w.room;
      }

-- The edges of a node read one after the other, and reversed.
use Rattle.std.proofs.Common.{◌≡◌, ℕ, inl, Some, None, List, [], ◌∷◌, ◌++◌, map, reverse, refl, sym, ap, subst, ◌∙◌, append_assoc}
use Rattle.std.proofs.lemmas.List.{append-nil, map-append, reverse-append}
use Rattle.daggy_base.specs.declared.index.Direction.{Direction}
use Rattle.daggy_base.specs.declared.index.Direction.TheVariants.{Outgoing, Incoming}
use Rattle.daggy_base.specs.Graph.{Graph, Edge, HasNode, edge_at, list_at, near_end}
use Rattle.daggy_base.specs.Cursor.{first_of}
use Rattle.daggy_base.specs.WellFormed.{IsWellFormed}
use Rattle.daggy_base.proofs.Lists.{Mem}
use Rattle.daggy_traversal.specs.Traversal.{IsNeighbor, far_or, edges_left}
use Rattle.daggy_traversal.specs.OldestFirst.{steps}
use Rattle.daggy_traversal.proofs.Edges.{edges_first, edges_next, far_here, listed_edge}

pub map_reverse : {A B : Type 0} (f : A → B) (xs : List A) → map f (reverse xs) ≡ reverse (map f xs)
map_reverse f [] = refl
map_reverse f (x ∷ xs) =
    ap (map f) (reverse-append (x ∷ []) xs)
    ∙ (map-append f (reverse xs) (x ∷ [])
    ∙ (ap (λ z. z ++ f x ∷ []) (map_reverse f xs) ∙ sym (reverse-append (f x ∷ []) (map f xs))))

-- what was read of a list, with one element more
pub read_more : {A B : Type 0} (f : A → B) (done : List A) (x : A) {y : B} {rest left all : List B} {done' : List A}
    → done' ≡ done ++ x ∷ [] → f x ≡ y → left ≡ y ∷ rest → map f done ++ left ≡ all → map f done' ++ rest ≡ all
read_more f done x {y} {rest} {left} {all} {done'} more is here so_far =
    ap (λ z. map f z ++ rest) more
    ∙ (ap (λ z. z ++ rest) (map-append f done (x ∷ []))
    ∙ (append_assoc (map f done) (f x ∷ []) rest
    ∙ (ap (λ z. map f done ++ z ∷ rest) is ∙ (ap (λ z. map f done ++ z) (sym here) ∙ so_far))))

-- nothing is left to read
pub read_all : {A B : Type 0} (f : A → B) (done : List A) {left all : List B}
    → left ≡ [] → map f done ++ left ≡ all → map f done ≡ all
read_all f done over so_far = sym (append-nil (map f done)) ∙ (ap (λ z. map f done ++ z) (sym over) ∙ so_far)

-- the edges from the edge e on in its list, each with the node that it leads to
abbrev pub steps_left : {N E : Type 0} → Direction → Graph N E → (e : ℕ) → List (ℕ × ℕ)
steps_left dir g e = map (λ k. (k, far_or dir (edge_at g k))) (edges_left dir g e (edge_at g e))

pub no_steps_left : {N E : Type 0} (dir : Direction) (g : Graph N E) (e : ℕ)
    → edge_at g e ≡ None → steps_left dir g e ≡ []
no_steps_left dir g e none = ap (λ o. map (λ k. (k, far_or dir (edge_at g k))) (edges_left dir g e o)) none

module _ {N E : Type 0} {end : ℕ} {g : Graph N E} (w : IsWellFormed end g) (dir : Direction) where
  pub steps_first : (n e : ℕ) → e ≡ first_of end (list_at dir g n) → steps_left dir g e ≡ steps dir g n
  steps_first n e is = ap (λ z. map (λ k. (k, far_or dir (edge_at g k))) z) (edges_first w dir n e is)

  pub steps_next : {e v next : ℕ} → IsNeighbor dir end g e v next → steps_left dir g e ≡ (e, v) ∷ steps_left dir g next
  steps_next {e} {v} {next} step =
      ap (map (λ k. (k, far_or dir (edge_at g k)))) (edges_next w dir step)
      ∙ ap (λ z. (e, z) ∷ steps_left dir g next) (far_here w dir step)

  near_by : (d : Direction) (x : Edge E) (e : ℕ) → edge_at g e ≡ Some x → HasNode g (near_end d x)
  near_by Outgoing x e at = w.parents e x at
  near_by Incoming x e at = w.children e x at

  -- what does not exist has no edges
  pub no_list : (n : ℕ) → (HasNode g n → ⊥) → list_at dir g n ≡ []
  no_list n missing = by_list (list_at dir g n) (λ e m. m)
    where
      by_list : (es : List ℕ) → ((e : ℕ) → Mem e es → Mem e (list_at dir g n)) → es ≡ []
      by_list [] all = refl
      by_list (e ∷ es) all =
          let p = listed_edge w dir n e (all e (inl refl)) in
          let P : ℕ → Type 0 = λ z. HasNode g z in
          absurd (missing (subst P p.2 (near_by dir p.0 e p.1)))

-- a list that shows nothing is empty
pub nothing_shown : {A B C : Type 0} (f : A → B) (h : C → B) (xs : List A) {ys : List C}
    → map f xs ≡ reverse (map h ys) → ys ≡ [] → xs ≡ []
nothing_shown f h [] shown none = refl
nothing_shown f h (x ∷ xs) {ys} shown none =
    let over : map f (x ∷ xs) ≡ [] = shown ∙ ap (λ z. reverse (map h z)) none in cc

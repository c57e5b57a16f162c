-- How cursors move on to a neighbor that was not given.
use Rattle.std.proofs.Common.{◌≡◌, ℕ, ◌+◌, ◌<◌, ◌≤◌, Bool, ◌⊎◌, ◌↔◌, Some, None, List, [], ◌∷◌, ◌++◌}
use Rattle.std.proofs.Common.{length, map, refl, sym, ap, ◌∙◌, arith, append_assoc}
use Rattle.std.proofs.lemmas.List.{append-nil, length_push, length-append}
use Rattle.daggy_base.specs.declared.index.Direction.{Direction}
use Rattle.daggy_base.specs.Graph.{Graph, HasNode, node_bound, edge_at, list_at}
use Rattle.daggy_base.specs.Cursor.{first_of}
use Rattle.daggy_base.specs.WellFormed.{IsWellFormed}
use Rattle.daggy_base.proofs.Lists.{Mem, mem_mid}
use Rattle.daggy_base.proofs.OutEdgesRead.{below_bound}
use Rattle.daggy_visit.specs.Visit.{IsVisited}
use Rattle.daggy_traversal.specs.Traversal.{AreMarked, neighbors, neighbors_left, edges_left, far_or, without_old}
use Rattle.daggy_traversal.specs.Traversal.{first_new}
use Rattle.daggy_traversal.specs.Depth.{ahead}
use Rattle.daggy_traversal.proofs.Edges.{left_first}
use Rattle.daggy_traversal.proofs.Fresh.{first_in}
use Rattle.daggy_traversal.proofs.Marks.{marked_more, marked_by, marked_room, listed}
use Rattle.daggy_traversal.proofs.Others.{others_old, others_new, others_append, others_first, others_still, first_not_old}

-- the neighbors at one more cursor come first
pub ahead_push : {N E : Type 0} (dir : Direction) (g : Graph N E) (es : List ℕ) (e : ℕ)
    → ahead dir g (es ++ e ∷ []) ≡ neighbors_left dir g e ++ ahead dir g es
ahead_push dir g [] e = sym (append-nil (neighbors_left dir g e))
ahead_push dir g (x ∷ es) e =
    ap (λ z. z ++ neighbors_left dir g x) (ahead_push dir g es e)
    ∙ append_assoc (neighbors_left dir g e) (ahead dir g es) (neighbors_left dir g x)

pub none_left_there : {N E : Type 0} (dir : Direction) (g : Graph N E) (e : ℕ)
    → edge_at g e ≡ None → neighbors_left dir g e ≡ []
none_left_there dir g e none = ap (λ o. map (λ k. far_or dir (edge_at g k)) (edges_left dir g e o)) none

-- the cursors have the neighbors ahead, but for those that were given
pub record Descending {N E : Type 0} (dir : Direction) (g : Graph N E) (given all : List ℕ) (bound : ℕ)
    (met : List Bool) (cursors : List ℕ) : Type 0 where
  pub left : without_old given (ahead dir g cursors) ≡ without_old given all
  pub few : length cursors ≤ length given
  pub marked : AreMarked met given
  pub sized : length met ≡ bound

-- nothing is ahead
pub all_given : {N E : Type 0} {dir : Direction} {g : Graph N E} {given all : List ℕ} {bound : ℕ} {met : List Bool}
    {cursors : List ℕ} → Descending dir g given all bound met cursors → cursors ≡ [] → first_new given all ≡ None
all_given {dir = dir} {g = g} {given = given} {all = all} s none =
    others_first given all
    ∙ ap first_in (sym s.left ∙ ap (λ z. without_old given (ahead dir g z)) none)

-- the last cursor is at e
module _ {N E : Type 0} {end : ℕ} {g : Graph N E} (w : IsWellFormed end g) {dir : Direction} {given all : List ℕ}
    {bound : ℕ} {met : List Bool} {cursors : List ℕ} (s : Descending dir g given all bound met cursors)
    (fits : node_bound g ≤ bound) (es : List ℕ) (e : ℕ) (last : cursors ≡ es ++ e ∷ []) where
  long : length cursors ≡ length es + 1
  long = ap (λ z. length z) last ∙ length_push es e

  here : ahead dir g cursors ≡ neighbors_left dir g e ++ ahead dir g es
  here = ap (λ z. ahead dir g z) last ∙ ahead_push dir g es e

  -- the neighbors that are left there
  module _ {at : ℕ} (value : at ≡ e) where
    split : without_old given (ahead dir g cursors)
        ≡ without_old given (neighbors_left dir g at) ++ without_old given (ahead dir g es)
    split =
        ap (λ z. without_old given z) (here ∙ ap (λ k. neighbors_left dir g k ++ ahead dir g es) (sym value))
        ∙ others_append given (neighbors_left dir g at) (ahead dir g es)

    -- all were given
    pub goes_up : without_old given (neighbors_left dir g at) ≡ [] → {es' : List ℕ} → es' ≡ es
        → Descending dir g given all bound met es'
    goes_up none {es'} is = record {
      left =
          ap (λ z. without_old given (ahead dir g z)) is
          ∙ (sym (split ∙ ap (λ z. z ++ without_old given (ahead dir g es)) none) ∙ s.left);
      few = omega (arith, s.few, long, ap (λ z. length z) is);
      marked = s.marked;
      sized = s.sized;
    }

    pub goes_up_smaller : {es' : List ℕ} → es' ≡ es
        → length (ahead dir g es') + length es' < length (ahead dir g cursors) + length cursors
    goes_up_smaller {es'} is =
        omega (
          arith,
          ap (λ z. length z) here,
          length-append (neighbors_left dir g e) (ahead dir g es),
          ap (λ z. length (ahead dir g z)) is,
          ap (λ z. length z) is,
          long,
        )

    -- v is the first that was not given
    module _ (v next : ℕ) (exists : HasNode g v)
        (some : without_old given (neighbors_left dir g at) ≡ v ∷ without_old given (neighbors_left dir g next)) where
      not_given : Mem v given → ⊥
      not_given m = first_not_old given (neighbors_left dir g at) some m

      unvisited : IsVisited met v → ⊥
      unvisited h = not_given (listed s.marked v h)

      pub neighbor_within : v < length met
      neighbor_within = omega (arith, below_bound g.nodes v exists, fits, s.sized)

      pub goes_down_room : length cursors < bound
      goes_down_room = omega (arith, s.few, marked_room s.marked v unvisited neighbor_within, s.sized)

      module _ (cursors' : List ℕ) (moved : ahead dir g cursors' ≡ neighbors_left dir g next ++ ahead dir g es) where
        unmet : without_old given all ≡ v ∷ without_old given (ahead dir g cursors')
        unmet =
            sym s.left
            ∙ (split
            ∙ (ap (λ z. z ++ without_old given (ahead dir g es)) some
            ∙ ap (λ z. v ∷ z) (sym (ap (λ z. without_old given z) moved
            ∙ others_append given (neighbors_left dir g next) (ahead dir g es)))))

        pub goes_down_to : first_new given all ≡ Some v
        goes_down_to = others_first given all ∙ ap first_in unmet

        module _ {given' : List ℕ} {y : ℕ} (gave : given' ≡ given ++ y ∷ []) (y_is : y ≡ v) where
          gave_v : given' ≡ given ++ v ∷ []
          gave_v = gave ∙ ap (λ k. given ++ k ∷ []) y_is

          pub goes_down_marked : (met' : List Bool) → ((m : ℕ) → IsVisited met' m ↔ ((m ≡ v) ⊎ IsVisited met m))
              → AreMarked met' given'
          goes_down_marked met' visited = marked_by refl gave_v (marked_more s.marked v visited unvisited)

          pub goes_down : (cursors'' : List ℕ) (first : ℕ)
              → ahead dir g cursors'' ≡ neighbors_left dir g first ++ ahead dir g cursors'
              → first ≡ first_of end (list_at dir g v)
              → without_old given' (ahead dir g cursors'') ≡ without_old given' (neighbors dir g v ++ all)
          goes_down cursors'' first entered first_is =
              let down : ahead dir g cursors'' ≡ neighbors dir g v ++ ahead dir g cursors' =
              entered ∙ ap (λ z. z ++ ahead dir g cursors') (left_first w dir v first first_is) in
              let more = given ++ v ∷ [] in
              let rest : without_old more (ahead dir g cursors') ≡ without_old more all =
              sym (others_old more (ahead dir g cursors') v (mem_mid given [] v))
              ∙ others_still given (v ∷ []) (v ∷ ahead dir g cursors') all
              (others_new given (ahead dir g cursors') v not_given ∙ sym unmet) in
              ap (λ z. without_old z (ahead dir g cursors'')) gave_v
              ∙ (ap (λ z. without_old more z) down
              ∙ (others_append more (neighbors dir g v) (ahead dir g cursors')
              ∙ (ap (λ z. without_old more (neighbors dir g v) ++ z) rest
              ∙ (sym (others_append more (neighbors dir g v) all)
              ∙ ap (λ z. without_old z (neighbors dir g v ++ all)) (sym gave_v)))))

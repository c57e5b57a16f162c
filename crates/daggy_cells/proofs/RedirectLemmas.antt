-- Redirecting one link: when it is allowed, and what it does to a list.
use Rattle.std.proofs.Common.{◌≡◌, ℕ, ◌<◌, ◌≤◌, List, length, get_or, sym, ap, subst, ◌∙◌, arith, Contains}
use Rattle.std.proofs.lemmas.List.{length-map, get_or-map}
use Rattle.daggy_cells.specs.declared.cell.Node.{Node}
use Rattle.daggy_cells.specs.declared.cell.Edge.{Edge}
use Rattle.daggy_base.specs.declared.index.Direction.{Direction}
use Rattle.daggy_cells.specs.Links.{nth_list, IsLinkedList, AreLinkedLists, Redirected}
use Rattle.daggy_cells.specs.Raw.{raw_first, raw_next}
use Rattle.daggy_cells.specs.Fields.{firsts_of, nexts_of, ends_of, list_from, IsReady, IsHead, Redirects}
use Rattle.daggy_cells.proofs.LinkedLists.{row_is}

-- n is the edge's end of that direction, l is n's list, and the edges are few enough for the links
pub record IsListOf {N E Ix : Type 0} (end : ℕ) (dir : Direction) (nodes : List (Node N Ix)) (edges : List (Edge E Ix))
    (e n : ℕ) (l : List ℕ) : Type 0 where
  pub linked : IsLinkedList end (nexts_of dir edges) (get_or (firsts_of dir nodes) n 0) l
  pub end_is : get_or (ends_of dir edges) e 0 ≡ n
  pub few : length edges ≤ end

module _ {N E Ix : Type 0} {end : ℕ} {dir : Direction} {nodes : List (Node N Ix)} {edges : List (Edge E Ix)}
    {old n : ℕ} {l : List ℕ} (is : IsListOf end dir nodes edges old n l) where
  -- following the links gives the list
  walked : list_from dir edges (get_or (firsts_of dir nodes) n 0) ≡ l
  walked = row_is end _ (nexts_of dir edges) l is.linked (omega (arith, is.few, length-map edges (raw_next dir)))

  -- and the edge stands in it
  pub Ready-row : n < length nodes → old < length edges → Contains l old → IsReady end dir nodes edges old
  Ready-row n_in old_in there =
      let row_w : IsLinkedList end (nexts_of dir edges) (get_or (firsts_of dir nodes) n 0)
      (list_from dir edges (get_or (firsts_of dir nodes) n 0)) =
      subst (IsLinkedList end (nexts_of dir edges) (get_or (firsts_of dir nodes) n 0)) (sym walked) is.linked in
      record {
        edge = old_in;
        node = omega (arith, n_in, is.end_is);
        linked =
            subst (λ z. IsLinkedList end (nexts_of dir edges) (get_or (firsts_of dir nodes) z 0)
            (list_from dir edges (get_or (firsts_of dir nodes) z 0))) (sym is.end_is) row_w;
        listed =
            subst (λ z. Contains (list_from dir edges (get_or (firsts_of dir nodes) z 0)) old) (sym is.end_is)
            (subst (λ z. Contains z old) (sym walked) there);
        few = is.few;
      }

  pub Redirected-list_from : {new : ℕ} (nodes' : List (Node N Ix)) (edges' : List (Edge E Ix))
      → Redirects dir nodes edges old new nodes' edges'
      → Redirected l n old new (firsts_of dir nodes) (nexts_of dir edges) (firsts_of dir nodes') (nexts_of dir edges')
  Redirected-list_from {new} nodes' edges' red =
      let at_n : Redirected (list_from dir edges (get_or (firsts_of dir nodes) n 0)) n old new (firsts_of dir nodes)
      (nexts_of dir edges) (firsts_of dir nodes') (nexts_of dir edges') =
      subst (λ z. Redirected (list_from dir edges (get_or (firsts_of dir nodes) z 0)) z old new (firsts_of dir nodes)
      (nexts_of dir edges) (firsts_of dir nodes') (nexts_of dir edges')) is.end_is red in
      subst (λ z. Redirected z n old new (firsts_of dir nodes) (nexts_of dir edges) (firsts_of dir nodes')
      (nexts_of dir edges')) walked at_n

-- the list of an edge's end among linked lists
pub list_of_end : {N E Ix : Type 0} {end : ℕ} {dir : Direction} {nodes : List (Node N Ix)} {edges : List (Edge E Ix)}
    {lists : List (List ℕ)} {e n : ℕ}
    → AreLinkedLists end (firsts_of dir nodes) (nexts_of dir edges) lists → get_or (ends_of dir edges) e 0 ≡ n
    → n < length nodes → length edges ≤ end → IsListOf end dir nodes edges e n (nth_list lists n)
list_of_end {dir = dir} {nodes} {n = n} linked end_is n_in few = record {
  linked = linked.each n (omega (arith, n_in, length-map nodes (raw_first dir)));
  end_is = end_is;
  few = few;
}

-- a list begins where it did while the first links and the ends of its direction stay
pub head_kept : {N E Ix : Type 0} {dir : Direction} {nodes nodes' : List (Node N Ix)} {edges edges' : List (Edge E Ix)}
    {e node first : ℕ} → firsts_of dir nodes' ≡ firsts_of dir nodes → ends_of dir edges' ≡ ends_of dir edges
    → IsHead dir nodes edges e node first → IsHead dir nodes' edges' e node first
head_kept {N} {E} {Ix} {dir} {nodes} {nodes'} {edges} {edges'} {e} firsts ends head =
    record {
      node_is = head.node_is ∙ ap (λ l. get_or l e 0) (sym ends);
      first_is =
          head.first_is ∙ ap (λ l. get_or l (get_or (ends_of dir edges) e 0) 0) (sym firsts)
          ∙ ap (λ l. get_or (firsts_of dir nodes') (get_or l e 0) 0) (sym ends);
    }

pub next_is : {E Ix : Type 0} (dir : Direction) (edges : List (Edge E Ix)) (i e : ℕ) (x : Edge E Ix)
    → x ≡ get_or edges i x → i ≡ e → e < length edges → raw_next dir x ≡ get_or (nexts_of dir edges) e 0
next_is dir edges i e x is i_is e_in =
    ap (raw_next dir) (is ∙ ap (λ z. get_or edges z x) i_is) ∙ sym (get_or-map (raw_next dir) edges e x 0 e_in)

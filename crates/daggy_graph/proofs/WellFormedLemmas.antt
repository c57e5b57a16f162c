-- What is stored is well formed.
use Rattle.std.proofs.Common.{◌≡◌, ℕ, zero, suc, ◌<◌, List, [], ◌∷◌, map, length, get_or, Some, None, slice_get, refl}
use Rattle.std.proofs.Common.{sym, ap, subst, ◌∙◌, inl, inr, arith}
use Rattle.std.proofs.lemmas.List.{length-map, get_or-map}
use Rattle.std.proofs.lemmas.Bool.{cases_lt}
use Rattle.std.proofs.lemmas.Option.{same_Some, none-some}
use Rattle.daggy_base.specs.Graph.{Graph, Edge as PlainEdge, slot, edge_at, list_at, near_end}
use Rattle.daggy_base.specs.Cursor.{after, first_of, cursor_after}
use Rattle.daggy_base.specs.Look.{IsLook}
use Rattle.daggy_base.specs.WellFormed.{AreDistinct, ListsVacant, IsWellFormed}
use Rattle.daggy_cells.specs.declared.cell.Node.{Node}
use Rattle.daggy_cells.specs.declared.cell.Edge.{Edge}
use Rattle.daggy_base.specs.declared.index.Direction.{Direction}
use Rattle.daggy_base.specs.declared.index.Direction.TheVariants.{Outgoing, Incoming}
use Rattle.daggy_cells.specs.Links.{nth_list}
use Rattle.daggy_cells.specs.Raw.{raw_first, raw_next}
use Rattle.daggy_cells.specs.Fields.{weight_of, plain, plain_edge, end_at, firsts_of, ends_of, lists_at}
use Rattle.daggy_graph.specs.Stored.{stored_graph, Stores}
use Rattle.daggy_base.proofs.Lists.{Contains-nil, slice_get_mapped}
use Rattle.daggy_cells.proofs.LinkedListChanges.{row_within, row_past}
use Rattle.daggy_cells.proofs.FieldLemmas.{firsts_as_many}
use Rattle.daggy_graph.proofs.StoredLemmas.{stored_is, Stores-itself}
use Rattle.daggy_base.proofs.MappedSlots.{slot_holds, slot_is}

module _ {E Ix : Type 0} where
  end_is : (dir : Direction) (y : Edge E Ix)
      → near_end dir (record { parent = y.parent; child = y.child; weight = y.weight }) ≡ end_at dir y
  end_is Outgoing y = refl
  end_is Incoming y = refl

  -- the ends of the stored edges are those that the graph shows
  pub end_shown : (dir : Direction) (edges : List (Edge E Ix)) (e n : ℕ) → slice_get (ends_of dir edges) e ≡ Some n
      → (x : PlainEdge E) × (slot (map plain_edge edges) e ≡ Some x) × (near_end dir x ≡ n)
  end_shown dir [] e n p = absurd (none-some n p)
  end_shown dir (y ∷ ys) zero n p = (
    record { parent = y.parent; child = y.child; weight = y.weight },
    refl,
    end_is dir y ∙ same_Some _ n p,
  )
  end_shown dir (y ∷ ys) (suc e) n p = end_shown dir ys e n p

  pub end_stored : (dir : Direction) (edges : List (Edge E Ix)) (e : ℕ) (x : PlainEdge E)
      → slot (map plain_edge edges) e ≡ Some x → slice_get (ends_of dir edges) e ≡ Some (near_end dir x)
  end_stored dir [] e x p = absurd (none-some x p)
  end_stored dir (y ∷ ys) zero x p = ap Some (sym (end_is dir y) ∙ ap (near_end dir) (same_Some _ x p))
  end_stored dir (y ∷ ys) (suc e) x p = end_stored dir ys e x p

none_vacant : {A B : Type 0} (f : A → B) (xs : List A) → ListsVacant (map (λ x. Some (f x)) xs) []
none_vacant {A} {B} f xs = record {
  exact = λ i. (λ p. absurd (Contains-nil i p), λ q. absurd (never xs i q));
  once = tt;
}
  where
    never : (xs : List A) (i : ℕ) → slice_get (map (λ x. Some (f x)) xs) i ≡ Some None → ⊥
    never [] i q = none-some None q
    never (x ∷ xs) zero q = none-some (f x) (sym (same_Some (Some (f x)) None q))
    never (x ∷ xs) (suc i) q = never xs i q

module _ {N E Ix : Type 0} (end : ℕ) (nodes : List (Node N Ix)) (edges : List (Edge E Ix)) where
  pub IsWellFormed-stored : (g : Graph N E) → Stores end nodes edges g → IsWellFormed end g
  IsWellFormed-stored g t = subst (IsWellFormed end) (stored_is end nodes edges g t) whole
    where
      distinct : (dir : Direction) → Stores end nodes edges (stored_graph nodes edges)
          → (n : ℕ) → AreDistinct (nth_list (lists_at dir (stored_graph nodes edges)) n)
      distinct dir s n =
          elim (cases_lt n (length (firsts_of dir nodes))) [
            | inl within ↦ ((s.linked dir).each n within).distinct
            | inr past ↦
                subst AreDistinct
                (sym (row_past (lists_at dir (stored_graph nodes edges)) n (omega (arith, past, (s.linked dir).rows))))
                tt
          ]

      whole : IsWellFormed end (stored_graph nodes edges)
      whole =
          let s = Stores-itself end nodes edges g t in
          let node_in : (dir : Direction) (e : ℕ) (x : PlainEdge E)
          → slot (map plain_edge edges) e ≡ Some x → near_end dir x < length nodes =
          λ dir e x p.
          let there = (s.listed dir (near_end dir x) e).1 (end_stored dir edges e x p) in
          omega (
            arith,
            row_within (lists_at dir (stored_graph nodes edges)) _ e there,
            (s.linked dir).rows,
            length-map nodes (raw_first dir),
          ) in
          let once : (dir : Direction) (n : ℕ) → AreDistinct (nth_list (lists_at dir (stored_graph nodes edges)) n) =
          λ dir n.
          distinct dir s n in
          record {
            out_list_count = (s.linked Outgoing).rows ∙ firsts_as_many weight_of Outgoing nodes;
            in_list_count = (s.linked Incoming).rows ∙ firsts_as_many weight_of Incoming nodes;
            parents = λ e x p. slot_holds (λ z. z.weight) nodes x.parent (node_in Outgoing e x p);
            children = λ e x p. slot_holds (λ z. z.weight) nodes x.child (node_in Incoming e x p);
            out_of = record {
              exact = λ n e. (
                λ p. end_shown Outgoing edges e n ((s.listed Outgoing n e).0 p),
                λ q. (s.listed Outgoing n e).1 (end_stored Outgoing edges e q.0 q.1 ∙ ap Some q.2),
              );
              once = once Outgoing;
            };
            in_of = record {
              exact = λ n e. (
                λ p. end_shown Incoming edges e n ((s.listed Incoming n e).0 p),
                λ q. (s.listed Incoming n e).1 (end_stored Incoming edges e q.0 q.1 ∙ ap Some q.2),
              );
              once = once Incoming;
            };
            node_slots = none_vacant (λ z. z.weight) nodes;
            edge_slots = none_vacant (λ z. record { parent = z.parent; child = z.child; weight = z.weight }) edges;
            few_nodes = omega (arith, s.few_nodes, length-map nodes weight_of);
            few_edges = omega (arith, s.few_edges, length-map edges plain_edge);
          }

  -- the first of a list, and what follows an edge in its list
  pub first_shown : (dir : Direction) (g : Graph N E) → Stores end nodes edges g → (n : ℕ) (x : Node N Ix)
      → n < length nodes → x ≡ get_or nodes n x → raw_first dir x ≡ first_of end (nth_list (lists_at dir g) n)
  first_shown dir g s n x within is =
      let inside : n < length (firsts_of dir nodes) = omega (arith, within, length-map nodes (raw_first dir)) in
      ap (raw_first dir) is ∙ sym (get_or-map (raw_first dir) nodes n x 0 within)
      ∙ ((s.linked dir).each n inside).starts

  -- the same, as contracts say it
  pub first_listed : (dir : Direction)
      → Stores end nodes edges (stored_graph nodes edges) → (n : ℕ) (x : Node N Ix) → n < length nodes
      → x ≡ get_or nodes n x → raw_first dir x ≡ first_of end (list_at dir (stored_graph nodes edges) n)
  first_listed dir s n x within is =
      first_shown dir (stored_graph nodes edges) s n x within is ∙ ap (first_of end) (list_of dir)
    where
      list_of : (d : Direction)
          → nth_list (lists_at d (stored_graph nodes edges)) n ≡ list_at d (stored_graph nodes edges) n
      list_of Outgoing = refl
      list_of Incoming = refl

  pub next_shown : (dir : Direction) (g : Graph N E)
      → Stores end nodes edges g → (e : ℕ) (x : Edge E Ix) → e < length edges → x ≡ get_or edges e x
      → raw_next dir x ≡ after end (nth_list (lists_at dir g) (end_at dir x)) e
  next_shown dir g s e x within is =
      let ends = slice_get_mapped (end_at dir) edges e x within is in
      let there = (s.listed dir (end_at dir x) e).1 ends in
      let inside : end_at dir x < length (firsts_of dir nodes) =
      omega (arith, row_within (lists_at dir g) _ e there, (s.linked dir).rows) in
      let goes = ((s.linked dir).each (end_at dir x) inside).goes_on e there in
      same_Some _ _ (sym (slice_get_mapped (raw_next dir) edges e x within is) ∙ goes)

  pub cursor_shown : (dir : Direction) → Stores end nodes edges (stored_graph nodes edges)
      → (e : ℕ) (x : Edge E Ix) → e < length edges → x ≡ get_or edges e x
      → raw_next dir x ≡ cursor_after dir end (stored_graph nodes edges) e (edge_at (stored_graph nodes edges) e)
  cursor_shown dir s e x within is =
      next_shown dir (stored_graph nodes edges) s e x within is ∙ seen dir
      ∙ ap (cursor_after dir end (stored_graph nodes edges) e) (sym (slot_is plain edges e x within is))
    where
      seen : (d : Direction)
          → after end (nth_list (lists_at d (stored_graph nodes edges)) (end_at d x)) e
          ≡ cursor_after d end (stored_graph nodes edges) e (Some (plain x))
      seen Outgoing = refl
      seen Incoming = refl

  pub look_shown : Stores end nodes edges (stored_graph nodes edges)
      → (e : ℕ) {child next : ℕ} (x : Edge E Ix) → e < length edges → x ≡ get_or edges e x → child ≡ x.child
      → next ≡ x.next_out → IsLook end (stored_graph nodes edges) e child next
  look_shown s e x within is child_is next_is =
      record {
        edge = plain x;
        at = slot_is plain edges e x within is;
        child_is = child_is;
        next_is = next_is ∙ next_shown Outgoing (stored_graph nodes edges) s e x within is;
      }

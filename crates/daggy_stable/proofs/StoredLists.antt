-- What is stored at an index, in terms of the graph.
use Rattle.std.proofs.Common.{◌≡◌, ℕ, ◌<◌, ◌≤◌, List, length, get_or, true, false, Option, Some, None, is_some, refl}
use Rattle.std.proofs.Common.{sym, ap, ◌∙◌, arith}
use Rattle.std.proofs.lemmas.Bool.{false≢true}
use Rattle.std.specs.Option.{option_map}
use Rattle.daggy_base.specs.Graph.{Graph, node_weight, edge_at, ends_of, slot}
use Rattle.daggy_base.specs.State.{State}
use Rattle.daggy_cells.specs.declared.cell.Node.{Node}
use Rattle.daggy_cells.specs.declared.cell.Edge.{Edge}
use Rattle.daggy_base.proofs.MappedSlots.{slot_beyond}
use Rattle.daggy_stable.specs.Stored.{plain, plain_edge, Stores}
use Rattle.daggy_stable.proofs.Stores.{node_read, node_beyond, edge_read}

pub plain_none : {E Ix : Type 0} (x : Edge (Option E) Ix) → is_some x.weight ≡ false → plain_edge x ≡ None
plain_none {E} {Ix} x = go x.weight
  where
    go : (o : Option E) → is_some o ≡ false → option_map (plain x) o ≡ None
    go None is = refl
    go (Some w) is = absurd (false≢true (sym is))

pub plain_ends : {E Ix : Type 0} (x : Edge (Option E) Ix)
    → is_some x.weight ≡ true → option_map ends_of (plain_edge x) ≡ Some (x.parent, x.child)
plain_ends {E} {Ix} x = go x.weight
  where
    go : (o : Option E) → is_some o ≡ true → option_map ends_of (option_map (plain x) o) ≡ Some (x.parent, x.child)
    go None is = absurd (false≢true is)
    go (Some w) is = refl

module _ {N E Ix : Type 0} {end : ℕ} {nodes : List (Node (Option N) Ix)} {edges : List (Edge (Option E) Ix)}
    {node_head edge_head nodes_counted edges_counted : ℕ} {g : Graph N E}
    (stored : Stores end nodes edges node_head edge_head nodes_counted edges_counted g) (k : ℕ) (s : State N E)
    (view : record { graph = g; looks = k } ≡ s) {i n : ℕ} (i_is : i ≡ n) where
  pub node_got : {lent : List (Node (Option N) Ix)} {x : Node (Option N) Ix}
      → lent ≡ nodes → i < length lent → x ≡ get_or lent i x → x.weight ≡ node_weight s.graph n
  node_got {lent} {x} lent_is within is =
      sym (node_read stored i x (omega (arith, ap length lent_is, within)) (is ∙ ap (λ l. get_or l i x) lent_is))
      ∙ ap (slot g.nodes) i_is ∙ ap (λ z. node_weight z.graph n) view

  pub no_node_got : {lent : List (Node (Option N) Ix)} → lent ≡ nodes → length lent ≤ i → None ≡ node_weight s.graph n
  no_node_got lent_is past =
      sym (node_beyond stored i (omega (arith, ap length lent_is, past))) ∙ ap (slot g.nodes) i_is
      ∙ ap (λ z. node_weight z.graph n) view

  pub edge_got : {lent : List (Edge (Option E) Ix)} {x : Edge (Option E) Ix}
      → lent ≡ edges → i < length lent → x ≡ get_or lent i x → plain_edge x ≡ edge_at s.graph n
  edge_got {lent} {x} lent_is within is =
      sym (edge_read stored i x (omega (arith, ap length lent_is, within)) (is ∙ ap (λ l. get_or l i x) lent_is))
      ∙ ap (edge_at g) i_is ∙ ap (λ z. edge_at z.graph n) view

  pub no_edge_got : {lent : List (Edge (Option E) Ix)} → lent ≡ edges → length lent ≤ i → None ≡ edge_at s.graph n
  no_edge_got lent_is past =
      sym
      (ap (λ l. slot l i) stored.edges_are ∙ slot_beyond plain_edge edges i (omega (arith, ap length lent_is, past)))
      ∙ ap (edge_at g) i_is ∙ ap (λ z. edge_at z.graph n) view

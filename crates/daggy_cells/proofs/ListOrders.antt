-- The lists of a graph can be linked.
use Rattle.std.proofs.Common.{◌≡◌, ℕ, zero, suc, ◌<◌, List, [], ◌∷◌, map, length, get_or, Option, Some, None, is_some}
use Rattle.std.proofs.Common.{refl, sym, ap, ◌∙◌, arith}
use Rattle.std.specs.Global.{Vec}
use Rattle.std.specs.Option.{option_map}
use Rattle.std.proofs.lemmas.Option.{same_Some, none-some}
use Rattle.daggy_base.specs.declared.index.Direction.{Direction}
use Rattle.daggy_base.specs.declared.index.Direction.TheVariants.{Outgoing, Incoming}
use Rattle.daggy_base.specs.Graph.{Graph, Edge, edge_at, near_end}
use Rattle.daggy_base.specs.WellFormed.{ListsEdges, IsWellFormed}
use Rattle.daggy_base.specs.Orders.{numbers_of}
use Rattle.daggy_base.proofs.OutEdgesRead.{below_bound}
use Rattle.daggy_base.proofs.PathsWithNode.{bound_low}
use Rattle.daggy_cells.specs.Links.{nth_list, ListsBy, CanLinkAll}
use Rattle.daggy_cells.specs.Fields.{lists_at, order_at}

module _ {N E : Type 0} {limit : ℕ} (g : Graph N E) (w : IsWellFormed limit g) where
  edge_inside : (e : ℕ) (x : Edge E) → edge_at g e ≡ Some x → e < length g.edges
  edge_inside e x at = let below = below_bound g.edges e (ap is_some at) in omega (arith, below, bound_low g.edges)

  can_side : (count : ℕ) → length g.edges ≡ count
      → (near : Edge E → ℕ) (lists : List (List ℕ)) → ListsEdges g near (nth_list lists) → CanLinkAll count lists
  can_side count long near lists l =
      record {
        each = λ n. record {
          once = l.once n;
          within = λ e p. let x = (l.exact n e).0 p in
              let inside = edge_inside e x.0 x.1 in omega (arith, inside, long);
        };
        apart = λ n m e p q.
            let x = (l.exact n e).0 p in
            let y = (l.exact m e).0 q in
            sym x.2 ∙ ap near (same_Some x.0 y.0 (sym x.1 ∙ y.1)) ∙ y.2;
      }

  pub can_link_all : (count : ℕ) → length g.edges ≡ count → (dir : Direction) → CanLinkAll count (lists_at dir g)
  can_link_all count long Outgoing = can_side count long (near_end Outgoing) g.out_lists w.out_of
  can_link_all count long Incoming = can_side count long (near_end Incoming) g.in_lists w.in_of

  listed_side : (near : Edge E → ℕ) (lists : List (List ℕ))
      → ListsEdges g near (nth_list lists) → ListsBy (λ e. option_map near (edge_at g e)) lists
  listed_side near lists l n e = (
    λ p. let x = (l.exact n e).0 p in ap (option_map near) x.1 ∙ ap Some x.2,
    λ q. (l.exact n e).1 (go (edge_at g e) refl q),
  )
    where
      go : (o : Option (Edge E)) → edge_at g e ≡ o → option_map near (edge_at g e) ≡ Some n
          → (x : Edge E) × (edge_at g e ≡ Some x) × (near x ≡ n)
      go None at q = absurd (none-some n (sym (ap (option_map near) at) ∙ q))
      go (Some x) at q = (x, at, same_Some (near x) n (sym (ap (option_map near) at) ∙ q))

  pub rows_listed : (dir : Direction) → ListsBy (λ e. option_map (near_end dir) (edge_at g e)) (lists_at dir g)
  rows_listed Outgoing = listed_side (near_end Outgoing) g.out_lists w.out_of
  rows_listed Incoming = listed_side (near_end Incoming) g.in_lists w.in_of

-- the lists that are given for a node, at its place
pub order_read : {I : Type 0} (number : I → ℕ) (dir : Direction) (orders : List (Vec I × Vec I)) (i : ℕ)
    (p : Vec I × Vec I)
    → i < length orders → p ≡ get_or orders i p
    → nth_list (map (order_at dir) (map (numbers_of number) orders)) i ≡ order_at dir (numbers_of number p)
order_read number dir [] i p within is = absurd (omega (arith, within))
order_read number dir (q ∷ qs) zero p within is = ap (λ z. order_at dir (numbers_of number z)) (sym is)
order_read number dir (q ∷ qs) (suc i) p within is = order_read number dir qs i p (omega (arith, within)) is

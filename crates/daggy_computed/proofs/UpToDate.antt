-- A node whose value is up to date.
use Rattle.std.proofs.Common.{◌≡◌, ℕ, ◌⊎◌, inl, inr, Bool, List, [], arith, Contains}
use Rattle.daggy_base.specs.Graph.{Graph, HasNode}
use Rattle.daggy_base.specs.Ordered.{IsOrderOf}
use Rattle.daggy_base.specs.Path.{AreJoined, Reaches}
use Rattle.daggy_order.specs.Paths.{IsPathBetween, IsShortestPath}
use Rattle.daggy_reduction.specs.Descendants.{IsOrderOfPart}
use Rattle.daggy_computed.specs.declared.entry.Entry.{Entry}
use Rattle.daggy_computed.specs.Cells.{cells, IsStaleAt}
use Rattle.daggy_computed.specs.Recomputing.{IsUpToDate}
use Rattle.daggy_computed.specs.Refreshing.{IsAscending}
use Rattle.daggy_computed.specs.Settling.{Refreshes}
use Rattle.daggy_computed.proofs.Celled.{stale_cell, cell_stale}
use Rattle.daggy_computed.proofs.CellGraphs.{reaches_cells, path_cells}
use Rattle.daggy_computed.proofs.WholeRefresh.{ascending_among}

-- a part of an order, as the list alone
pub list_of_part : {N E : Type 0} (g : Graph N E) (P : ℕ → Type 0) (ns : List ℕ) → IsOrderOfPart g P ns
    → IsOrderOfPart g (Contains ns) ns
list_of_part g P ns part = record { exact = λ m. (λ c. c, λ c. c); once = part.once; sorted = part.sorted }

-- no node is its own parent
pub no_loops : {N E : Type 0} (g : Graph N E) (order : List ℕ) → IsOrderOf g order → (m : ℕ) → AreJoined g m m → ⊥
no_loops g order o m j = (let low = o.sorted m m j in absurd (omega (arith, low)))

module _ {K V E : Type 0} (g : Graph K E) (es : List (Entry V)) where
  pub part_cells : (P : ℕ → Type 0) (ns : List ℕ) → IsOrderOfPart g P ns → IsOrderOfPart (cells g es) P ns
  part_cells P ns part =
      record {
        exact = part.exact;
        once = part.once;
        sorted = λ u v c d r. part.sorted u v c d ((reaches_cells g es u v).1 r);
      }

  pub needs_there : (n m : ℕ) → HasNode g m → (m ≡ n) ⊎ Reaches g m n → Reaches (cells g es) m n
  needs_there n m there h =
      (reaches_cells g es m n).0 (elim h [ inl e ↦ ([], there, e) | inr r ↦ r ])

  module _ (n : ℕ) (ns : List ℕ) (part : IsOrderOfPart g (λ m. (m ≡ n) ⊎ Reaches g m n) ns) where
    pub up_to_date : ((m : ℕ) → Contains ns m → ¬ IsStaleAt es m) → IsUpToDate (cells g es) n
    up_to_date fresh m r s = fresh m ((part.exact m).1 (inr ((reaches_cells g es m n).1 r))) (stale_cell g es m s).1

    pub needed_fresh : ((m : ℕ) → IsStaleAt es m → HasNode g m) → IsUpToDate (cells g es) n
        → (m : ℕ) → Contains ns m → ¬ IsStaleAt es m
    needed_fresh real fresh m c s =
        let there = real m s in fresh m (needs_there n m there ((part.exact m).0 c)) (cell_stale g es m there s)

  -- the nodes of such a list that had their turns
  pub needed_turns : (eq : V → V → Bool) (gives : K → List V → V → Type 0) (n : ℕ) (ns : List ℕ) (fs : List (Entry V))
      (changed : List ℕ) → IsOrderOfPart g (λ m. (m ≡ n) ⊎ Reaches g m n) ns
      → (t : (turns : List ℕ) × IsAscending ns turns × ((m : ℕ) → Contains turns m → Contains ns m × HasNode g m)
      × Refreshes eq gives turns (cells g es) (cells g fs) changed)
      → IsOrderOfPart (cells g es) (Contains t.0) t.0 × ((m : ℕ) → Contains t.0 m → Reaches (cells g es) m n)
  needed_turns eq gives n ns fs changed part t = (
    part_cells (Contains t.0) t.0 (ascending_among g ns t.0 (list_of_part g _ ns part) t.1 (λ m c. (t.2 m c).0)),
    λ m c. (let at = t.2 m c in needs_there n m at.1 ((part.exact m).0 at.0)),
  )

  -- ---- paths

  between_cells : (a b : ℕ) (path : List ℕ) → IsPathBetween g a b path → IsPathBetween (cells g es) a b path
  between_cells a b path p =
      record { rest = p.rest; begins = p.begins; joined = (path_cells g es a p.rest).0 p.joined; ends = p.ends }

  between_back : (a b : ℕ) (path : List ℕ) → IsPathBetween (cells g es) a b path → IsPathBetween g a b path
  between_back a b path p =
      record { rest = p.rest; begins = p.begins; joined = (path_cells g es a p.rest).1 p.joined; ends = p.ends }

  pub shortest_cells : (a b : ℕ) (path : List ℕ) → IsShortestPath g a b path → IsShortestPath (cells g es) a b path
  shortest_cells a b path p =
      record {
        between = between_cells a b path p.between;
        fewest = λ other q. p.fewest other (between_back a b other q);
      }

use Rattle.std.proofs.Common.{◌≡◌, ℕ, List, Option, None, inr, map, sym, ap, subst, ◌∙◌}
use Rattle.std.specs.Prelude.{Ok, Err}
use Rattle.std.specs.Option.{option_map}
use Rattle.daggy_base.specs.State.{State}
use Rattle.daggy_base.specs.Graph.{Graph}
use Rattle.daggy_base.specs.Path.{IsAcyclic}
use Rattle.daggy_base.specs.Orders.{numbers_of}
use Rattle.daggy_json.specs.Found.{ordered}
use Rattle.daggy_json.specs.Reading.{IsTested}
use Rattle.daggy_json.proofs.Cycles.{of_some, tested_made, tested_cyclic}
use Rattle.daggy_json.proofs.GivenSlots.{slots_fit, compact_slots}
use Rattle.daggy_json.proofs.making.make.Goals as goal

-- the dag that was made, where no lists were handed to it
tested_bare : {N E : Type 0} {g made : Graph N E} {o : Option (List (List ℕ × List ℕ))}
    → o ≡ None → made ≡ g → IsAcyclic made → IsTested (ordered g o) (Ok made)
tested_bare {N} {E} {g} {made} {o} none same acyclic =
    subst (λ z. IsTested (ordered g z) (Ok made)) (sym none) (subst IsAcyclic same acyclic, same)

pub from_slots-requires-clause-makes_graph : goal.from_slots-requires-clause-makes_graph
from_slots-requires-clause-makes_graph g c =
    slots_fit _ c.args.found.nodes.items c.args.found.edges.items g.Ix.IndexType.greatest c.requires.few_nodes
    c.requires.few_edges c.requires.ends

pub from_slots-requires-clause-compact : goal.from_slots-requires-clause-compact
from_slots-requires-clause-compact g c = λ k.
    compact_slots _ c.args.found.nodes.items c.args.found.edges.items (c.requires.full_nodes k)
    (c.requires.full_edges k)

pub returns-in-Err-Cycle-clause-err : goal.returns-in-Err-Cycle-clause-err
returns-in-Err-Cycle-clause-err g c =
    inr (tested_cyclic _ _ (c.from_slots.ensures.cycle (c.in-Err-Cycle.is ∙ ap Err c.in-Err-Cycle.field-0-is)))

pub set_orders-requires : goal.set_orders-requires
set_orders-requires g c =
    rw (c.in-Ok.ensures.made, c.as_slice.ensures.value)
    (of_some _ c.args.found.orders c.in-Some.rows c.in-Some.is c.requires.orders)

pub returns-clause-ok : goal.returns-clause-ok
returns-clause-ok g c =
    let numbers = map (numbers_of g.Ix.IndexType.number) in
    tested_made numbers
    (ap (option_map (λ v. numbers v.items)) c.in-Some.is) c.in-Ok.ensures.made c.as_slice.ensures.value
    (ap (λ (z : State _ _). z.graph) c.set_orders.ensures.ordered) c.in-Ok.ensures.acyclic

pub returns-in_default-clause-ok : goal.returns-in_default-clause-ok
returns-in_default-clause-ok g c =
    let numbers = map (numbers_of g.Ix.IndexType.number) in
    tested_bare (ap (option_map (λ v. numbers v.items)) c.in_default.is) c.in-Ok.ensures.made c.in-Ok.ensures.acyclic

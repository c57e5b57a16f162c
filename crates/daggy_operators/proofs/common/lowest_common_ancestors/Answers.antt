use Rattle.std.proofs.Common.{◌≡◌, ◌<◌, ◌↔◌, ◌∙◌, ℕ, List, Some, true, false, map, length, vec_len, Contains, ap, subst}
use Rattle.daggy_base.specs.Graph.{Graph, Edge, edge_at}
use Rattle.daggy_base.specs.Path.{Reaches}
use Rattle.daggy_operators.specs.Parts.{mark_of}
use Rattle.daggy_operators.proofs.Marks.{AreMarked}
use Rattle.daggy_operators.proofs.Wholes.{on_ok}
use Rattle.daggy_operators.proofs.CommonAncestors.{lowest_marked}
use Rattle.daggy_operators.proofs.common.lowest_common_ancestors.Given.{Over}
use Rattle.daggy_operators.proofs.common.lowest_common_ancestors.Goals.{In_ok-first, In_ok-second, In_ok-third}
use Rattle.daggy_operators.proofs.common.lowest_common_ancestors.Goals as goal

slots_are : (g : Over) (c : In_ok-first g) → c.node_slots-slots.result ≡ length c.args.dag.now.graph.nodes
slots_are g c = c.node_slots-slots.ensures ∙ ap (λ z. length z.nodes) c.graph-store.ensures.graph

first_are : (g : Over) (c : In_ok-first g) (n : ℕ) → n < length c.args.dag.now.graph.nodes
    → (mark_of c.in_ok-first.first.items n ≡ true) ↔ Reaches c.args.dag.now.graph n (g.Ix.IndexType.number c.args.a)
first_are g c n low =
    let P : ℕ → Type 0 = λ z. AreMarked z (map g.Ix.IndexType.number c.in_ok-above_a.above_a.items) c.in_ok-first.first.items in
    let Q : List _ → Type 0 = λ z. AreMarked c.node_slots-slots.result (map g.Ix.IndexType.number z) c.in_ok-first.first.items in
    let marked : P (length c.args.dag.now.graph.nodes) =
    subst P (slots_are g c) (subst Q c.as_slice.ensures.value c.in_ok-first.ensures.marked) in
    let m = marked n low in
    let r = c.in_ok-above_a.ensures n in
    (λ yes_it. r.0 (m.0 yes_it), λ it. m.1 (r.1 it))

second_are : (g : Over) (c : In_ok-second g) (n : ℕ) → n < length c.args.dag.now.graph.nodes
    → (mark_of c.in_ok-second.second.items n ≡ true) ↔ Reaches c.args.dag.now.graph n (g.Ix.IndexType.number c.args.b)
second_are g c n low =
    let P : ℕ → Type 0 = λ z. AreMarked z (map g.Ix.IndexType.number c.in_ok-above_b.above_b.items) c.in_ok-second.second.items in
    let Q : List _ → Type 0 = λ z. AreMarked c.node_slots-slots.result (map g.Ix.IndexType.number z) c.in_ok-second.second.items in
    let marked : P (length c.args.dag.now.graph.nodes) =
    subst P (c.node_slots-slots.ensures ∙ ap (λ z. length z.nodes) c.graph-store.ensures.graph)
    (subst Q c.as_slice-2.ensures.value c.in_ok-second.ensures.marked) in
    let m = marked n low in
    let r = c.in_ok-above_b.ensures n in
    (λ yes_it. r.0 (m.0 yes_it), λ it. m.1 (r.1 it))

pub returns-clause-found : goal.returns-clause-found
returns-clause-found g c =
    let graph = c.args.dag.now.graph in
    let formed = c.node_count-count.ensures.dag.well_formed in
    let first = c.in_ok-first.first.items in
    let second = c.in_ok-second.second.items in
    let third = c.in_ok-third.third.items in
    let P : Graph _ _ → Type 0 = λ z. (n : ℕ) → (mark_of third n ≡ true)
    ↔ ((e : ℕ) × (x : Edge _) × (edge_at z e ≡ Some x) × (x.parent ≡ n)
    × ((mark_of first x.child ≡ true) × (mark_of second x.child ≡ true))) in
    let third_are : P graph = subst P c.graph-store.ensures.graph c.in_ok-third.ensures.marked in
    let lowest = lowest_marked graph formed.parents formed.children (g.Ix.IndexType.number c.args.a)
    (g.Ix.IndexType.number c.args.b) first second third
    (first_are g (goal.at.returns-clause-found g c).In_ok-first) (second_are g (goal.at.returns-clause-found g c).In_ok-second)
    third_are in
    on_ok c.marked_nodes.result (λ found exact n.
    let low : ℕ → Type 0 = λ z. Contains (map g.Ix.IndexType.number found.items) n ↔ (((mark_of first n ≡ true) × (mark_of second n ≡ true) × (mark_of third n ≡ false)) × (n < z)) in
    let sized : vec_len c.in_ok-first.first ≡ length graph.nodes = c.in_ok-first.ensures.sized ∙ slots_are g (goal.at.returns-clause-found g c).In_ok-first in
    let e = subst low sized (exact n) in
    (λ h. (lowest n).0 (e.0 h), λ h. e.1 ((lowest n).1 h))) c.marked_nodes.ensures.exact

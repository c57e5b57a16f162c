use Rattle.std.proofs.Common.{◌≡◌, ◌∙◌, ℕ, List, length, set, refl, sym, ap, subst, arith, not, eqb}
use Rattle.std.specs.List.{Contains}
use Rattle.std.proofs.lemmas.List.{length-set}
use Rattle.daggy_base.specs.Removal.{without}
use Rattle.daggy_base.proofs.Lists.{Mem, contains_mem}
use Rattle.daggy_order.specs.Links.{Listed}
use Rattle.daggy_base.proofs.Sorted.{filter_mem}
use Rattle.daggy_base.proofs.ListParts.{held_is}
use Rattle.daggy_order.proofs.Labelled.{labelled_without}
use Rattle.daggy_order.proofs.list.take_out.Given.{Over}
use Rattle.daggy_order.proofs.list.take_out.Goals.{After-remove}
use Rattle.daggy_order.proofs.list.take_out.Goals as goal

-- the nodes and the labels after the removal
nodes_are : (g : Over) (c : After-remove g)
    → c.remove.new.self.nodes ≡ without (g.Ix.IndexType.number c.args.n) c.args.links.now.nodes
nodes_are g c =
    ap (λ (z : Listed). z.nodes) c.remove.ensures
    ∙ (ap (λ z. without z c.set_label.new.self.nodes) c.of_node.ensures
    ∙ ap (λ (z : Listed). without (g.Ix.IndexType.number c.args.n) z.nodes) c.set_label.ensures)

labels_are : (g : Over) (c : After-remove g)
    → c.remove.new.self.labels ≡ set c.args.links.now.labels (g.Ix.IndexType.number c.args.n) 0
labels_are g c =
    ap (λ (z : Listed). z.labels) c.remove.ensures
    ∙ (ap (λ (z : Listed). z.labels) c.set_label.ensures
    ∙ ap (λ z. set c.args.links.now.labels z 0) c.index.ensures.value)

pub set_label-requires : goal.set_label-requires
set_label-requires g c =
    omega (
      arith,
      c.index.ensures.value,
      c.len-count.ensures.within (g.Ix.IndexType.number c.args.n) c.requires.held,
    )

pub remove-requires : goal.remove-requires
remove-requires g c =
    let P : ℕ → Type 0 = λ z. Contains c.set_label.new.self.nodes z in
    let Q : List ℕ → Type 0 = λ z. Contains z (g.Ix.IndexType.number c.args.n) in
    subst P (sym c.of_node.ensures) (subst Q (sym (ap (λ (z : Listed). z.nodes) c.set_label.ensures)) c.requires.held)

pub returns-clause-nodes : goal.returns-clause-nodes
returns-clause-nodes g c = nodes_are g (goal.at.returns-clause-nodes g c).After-remove

pub returns-clause-labelled : goal.returns-clause-labelled
returns-clause-labelled g c =
    let n : ℕ = g.Ix.IndexType.number c.args.n in
    let at = (goal.at.returns-clause-labelled g c).After-remove in
    rw (labels_are g at, nodes_are g at)
    (labelled_without c.requires.labelled n (contains_mem c.args.links.now.nodes n c.requires.held))

pub returns-clause-absent : goal.returns-clause-absent
returns-clause-absent g c =
    let n : ℕ = g.Ix.IndexType.number c.args.n in
    let P : List ℕ → Type 0 = λ z. Mem n z in
    let nodes = nodes_are g (goal.at.returns-clause-absent g c).After-remove in
    λ h.
    let m = subst P nodes (contains_mem c.remove.new.self.nodes n h) in
    held_is n n (filter_mem (λ x. not (eqb x n)) c.args.links.now.nodes n m).1 refl

pub returns-clause-real : goal.returns-clause-real
returns-clause-real g c e =
    let Q : ℕ → Type 0 = λ z. Contains c.args.links.now.nodes z in
    c.len-count.ensures.distinct.0 (subst Q e c.requires.held)

pub returns-clause-numbered : goal.returns-clause-numbered
returns-clause-numbered g c =
    let n : ℕ = g.Ix.IndexType.number c.args.n in
    omega (
      arith,
      ap (λ (z : List ℕ). length z) (labels_are g (goal.at.returns-clause-numbered g c).After-remove),
      length-set c.args.links.now.labels n 0,
      c.len-count.ensures.within n c.requires.held,
    )

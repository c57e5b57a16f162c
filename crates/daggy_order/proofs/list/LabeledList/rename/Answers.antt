use Rattle.std.proofs.Common.{◌≡◌, ◌≢◌, ◌<◌, ℕ, List, length, map, get_or, set, refl, sym, ap, subst}
use Rattle.std.proofs.Common.{◌∙◌, arith}
use Rattle.std.proofs.lemmas.List.{length-set}
use Rattle.daggy_base.specs.Removal.{renamed}
use Rattle.daggy_base.proofs.Lists.{Mem, mem_left, mem_right, contains_mem, mem_contains, split_at}
use Rattle.daggy_order.specs.Links.{Listed, Stored}
use Rattle.daggy_order.proofs.Labelled.{label_within, label_once, labelled_renamed, renamed_mid}
use Rattle.daggy_order.proofs.list.LabeledList.rename.Given.{Over}
use Rattle.daggy_order.proofs.list.LabeledList.rename.Goals.{After-self, After-rename, After-set_label-2}
use Rattle.daggy_order.proofs.list.LabeledList.rename.Goals as goal

-- n is a node
has_n : (g : Over) (c : After-self g) → Mem (g.Ix.IndexType.number c.args.n) c.self.inside.links.nodes
has_n g c =
    let P : List ℕ → Type 0 = λ z. Mem (g.Ix.IndexType.number c.args.n) z in
    subst P (sym (ap (λ (z : Stored). z.nodes) c.self.view_is))
    (contains_mem c.args.self.now.nodes (g.Ix.IndexType.number c.args.n) c.requires.held)

-- and has a label
low : (g : Over) (c : After-self g) → g.Ix.IndexType.number c.args.n < length c.self.inside.links.labels
low g c = label_within c.self.invariant (g.Ix.IndexType.number c.args.n) (has_n g c)

-- the labels are those of before, and the renamed node has that of n
labels_are : (g : Over) (c : After-set_label-2 g)
    → c.set_label-2.new.self.labels
    ≡ set (set c.self.inside.links.labels (g.Ix.IndexType.number c.args.n) 0) (g.Ix.IndexType.number c.args.m)
    (get_or c.self.inside.links.labels (g.Ix.IndexType.number c.args.n) 0)
labels_are g c =
    let labels = c.self.inside.links.labels in
    let label : c.label-label.result ≡ get_or labels (g.Ix.IndexType.number c.args.n) 0 =
    c.label-label.ensures ∙ ap (λ z. get_or labels z 0) c.index-i.ensures.value in
    ap (λ (z : Listed). z.labels) c.set_label-2.ensures
    ∙ (ap (λ (z : Listed). set z.labels c.index.result c.label-label.result) c.set_label.ensures
    ∙ (ap (λ (z : Listed). set (set z.labels c.index-i.result 0) c.index.result c.label-label.result) c.rename.ensures
    ∙ (ap (λ z. set (set labels z 0) c.index.result c.label-label.result) c.index-i.ensures.value
    ∙ (ap (λ z. set (set labels (g.Ix.IndexType.number c.args.n) 0) z c.label-label.result) c.index.ensures.value
    ∙ ap (λ z. set (set labels (g.Ix.IndexType.number c.args.n) 0) (g.Ix.IndexType.number c.args.m) z) label))))

-- and the nodes are renamed
nodes_are : (g : Over) (c : After-set_label-2 g)
    → c.set_label-2.new.self.nodes
    ≡ map (renamed (g.Ix.IndexType.number c.args.n) (g.Ix.IndexType.number c.args.m)) c.self.inside.links.nodes
nodes_are g c =
    let nodes = c.self.inside.links.nodes in
    ap (λ (z : Listed). z.nodes) c.set_label-2.ensures
    ∙ (ap (λ (z : Listed). z.nodes) c.set_label.ensures
    ∙ (ap (λ (z : Listed). z.nodes) c.rename.ensures
    ∙ (ap (λ z. map (renamed z c.of_node-2.result) nodes) c.of_node.ensures
    ∙ ap (λ z. map (renamed (g.Ix.IndexType.number c.args.n) z) nodes) c.of_node-2.ensures)))

pub label-label-requires : goal.label-label-requires
label-label-requires g c =
    omega (arith, c.index-i.ensures.value, low g (goal.at.label-label-requires g c).After-self)

pub set_label-requires : goal.set_label-requires
set_label-requires g c =
    omega (
      arith,
      c.index-i.ensures.value,
      low g (goal.at.set_label-requires g c).After-self,
      ap (λ (z : Listed). length z.labels) c.rename.ensures,
    )

pub set_label-requires-2 : goal.set_label-requires-2
set_label-requires-2 g c =
    omega (
      arith,
      c.index.ensures.value,
      c.requires.lower,
      low g (goal.at.set_label-requires-2 g c).After-self,
      ap (λ (z : Listed). length z.labels) c.set_label.ensures,
      length-set c.rename.new.self.labels c.index-i.result 0,
      ap (λ (z : Listed). length z.labels) c.rename.ensures,
    )

pub rename-requires-clause-numbered : goal.rename-requires-clause-numbered
rename-requires-clause-numbered g c =
    let at = goal.at.rename-requires-clause-numbered g c in
    omega (
      arith,
      c.of_node-2.ensures,
      c.requires.lower,
      c.len-count.ensures.within _ (mem_contains c.self.inside.links.nodes _ (has_n g at.After-self)),
    )

pub invariant_of-self : goal.invariant_of-self
invariant_of-self g c =
    let n : ℕ = g.Ix.IndexType.number c.args.n in
    let m : ℕ = g.Ix.IndexType.number c.args.m in
    let at = goal.at.invariant_of-self g c in
    let there = has_n g at.After-self in
    let parts = split_at c.self.inside.links.nodes n there in
    let apart : m ≢ n = λ e. omega (arith, c.requires.lower, e) in
    let low_m : m < length c.self.inside.links.labels = omega (arith, c.requires.lower, low g at.After-self) in
    let absent : Mem m c.self.inside.links.nodes → ⊥ = λ h.
    c.requires.free (let A : List ℕ → Type 0 = λ z. Mem m z in
    mem_contains c.args.self.now.nodes m (subst A (ap (λ (z : Stored). z.nodes) c.self.view_is) h)) in
    let only = label_once c.self.invariant parts.0 n parts.1 parts.2 in
    let nodes =
    nodes_are g at.After-set_label-2
    ∙ (ap (map (renamed n m)) parts.2
    ∙ renamed_mid n m parts.0 parts.1 (λ h. only n (mem_left parts.0 parts.1 n h) refl)
    (λ h. only n (mem_right parts.0 parts.1 n h) refl)) in
    rw (labels_are g at.After-set_label-2, nodes)
    (labelled_renamed c.self.invariant n there m apart low_m absent parts.0 parts.1 parts.2)

pub returns : goal.returns
returns g c =
    nodes_are g (goal.at.returns g c).After-set_label-2
    ∙ ap (map (renamed (g.Ix.IndexType.number c.args.n) (g.Ix.IndexType.number c.args.m)))
    (ap (λ (z : Stored). z.nodes) c.self.view_is)

use Rattle.std.proofs.Common.{rules, ◌≡◌, ℕ, ◌+◌, ◌<◌, ◌≤◌, ◌^◌, List, ◌++◌, ◌∙◌, sym, ap, subst, arith, length, get_or}
use Rattle.std.specs.List.{range_with_len}
use Rattle.daggy_base.proofs.Lists.{Mem, mem_contains}
use Rattle.daggy_order.specs.Links.{Listed, LeadsTo, nodes_from, neighbor, nexts_of}
use Rattle.daggy_order.proofs.Items.{labels_many, previous_many, label_kept}
use Rattle.daggy_order.proofs.LinkedNodes.{Keeps, few, length_walk}
use Rattle.daggy_order.proofs.NodeItems.{linking}
use Rattle.daggy_order.proofs.RunsWritten.{extended}
use Rattle.daggy_order.proofs.list.links.Links.extend_run.Given.{Over}
use Rattle.daggy_order.proofs.list.links.Links.extend_run.Goals.{After-set_next-2}
use Rattle.daggy_order.proofs.list.links.Links.extend_run.Goals as goal

-- the links lead over the run too
kept : (g : Over) (c : After-set_next-2 g)
    → Keeps g.Ix.IndexType.greatest
    (linking c.set_next-2.new.items.items c.set_next-2.new.first c.new-last.result)
    (c.self.inside.count + c.args.count) (c.args.self.now.nodes ++ range_with_len (c.args.n + 1) c.args.count)
kept g c =
    let E : ℕ = g.Ix.IndexType.greatest in
    let old = c.self.inside.items.items in
    let new = c.write_run.new.items.items in
    let between = c.set_next.new.items.items in
    let after = c.set_next-2.new.items.items in
    let xs = nodes_from E (nexts_of old) c.self.inside.first c.self.inside.count in
    let nodes : xs ≡ c.args.self.now.nodes = ap (λ (z : Listed). z.nodes) c.self.view_is in
    let most : (m : ℕ) → Mem m xs → m ≤ c.args.n = λ m h.
    let A : List ℕ → Type 0 = λ z. Mem m z in
    c.requires.ends.most m (mem_contains c.args.self.now.nodes m (subst A nodes h)) in
    let numbered : c.args.n + c.args.count < length old =
    omega (arith, c.requires.numbered, ap (λ (z : Listed). length z.labels) c.self.view_is, labels_many old) in
    let N : ℕ → ℕ = neighbor E c.self.inside.first (nexts_of new) in
    let N' : ℕ → ℕ = neighbor E c.set_next.new.first (nexts_of between) in
    let N'' : ℕ → ℕ = neighbor E c.set_next-2.new.first (nexts_of after) in
    let A : ℕ → Type 0 = λ z. LeadsTo N N' z c.new-2.result in
    let B : ℕ → Type 0 = λ z. LeadsTo N N' c.args.n z in
    let to = subst B c.new-2.ensures (subst A c.new.ensures c.set_next.ensures.next) in
    let C : ℕ → Type 0 = λ z. LeadsTo N' N'' z c.end.result in
    let D : ℕ → Type 0 = λ z. LeadsTo N' N'' (c.args.n + c.args.count) z in
    let close = subst D c.end.ensures.value (subst C c.new-last.ensures c.set_next-2.ensures.next) in
    let counted = length_walk E (nexts_of old) c.self.inside.first c.self.inside.count in
    let total : ℕ = c.self.inside.count + c.args.count in
    let all =
    extended old new between after c.set_next.new.first c.set_next-2.new.first c.self.invariant
    c.write_run.ensures.written c.requires.ends.before (nodes ∙ c.requires.ends.is) most c.requires.real numbered to close
    (c.set_next-2.ensures.previous ∙ c.set_next.ensures.previous) total (omega (arith, counted)) in
    let R : ℕ → List ℕ → Type 0 = λ z ys.
    Keeps E (linking after c.set_next-2.new.first z) total (ys ++ range_with_len (c.args.n + 1) c.args.count) in
    let S : ℕ → Type 0 = λ z. R z c.args.self.now.nodes in
    let T : List ℕ → Type 0 = λ z. R (c.args.n + c.args.count) z in
    subst S (sym c.new-last.ensures) (subst T nodes all)

pub overflow_add-self : goal.overflow_add-self
overflow_add-self g c =
    let after = c.set_next-2.new.items in
    let is_kept = kept g (goal.at.overflow_add-self g c).After-set_next-2 in
    let most = few is_kept.linked in
    let total =
    length_walk g.Ix.IndexType.greatest (nexts_of after.items) c.set_next-2.new.first
    (c.self.inside.count + c.args.count) in
    let low : c.self.inside.count + c.args.count < 2 ^ 63 =
    omega (arith, total, most, previous_many after.items, after.small, after.ok) in
    search rules

pub invariant_of-self : goal.invariant_of-self
invariant_of-self g c = (kept g (goal.at.invariant_of-self g c).After-set_next-2).linked

pub returns-clause-nodes : goal.returns-clause-nodes
returns-clause-nodes g c = (kept g (goal.at.returns-clause-nodes g c).After-set_next-2).same

pub returns-clause-others : goal.returns-clause-others
returns-clause-others g c = λ k h.
    let labels = c.set_next-2.ensures.labels ∙ c.set_next.ensures.labels in
    ap (λ (z : List ℕ). get_or z k 0) labels
    ∙ (label_kept g.Ix.IndexType.greatest c.self.inside.items.items c.write_run.new.items.items k
    (c.write_run.ensures.written.others k h)
    ∙ ap (λ (z : Listed). get_or z.labels k 0) c.self.view_is)

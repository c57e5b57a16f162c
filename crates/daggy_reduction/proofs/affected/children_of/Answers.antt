use Rattle.std.proofs.Common.{◌≡◌, ◌≤◌, ◌<◌, ◌+◌, ◌↔◌, ◌⊎◌, ℕ, length, map, take, get_or, refl, ap, sym, subst, ◌∙◌, arith, Contains}
use Rattle.std.proofs.lemmas.List.{length-map, get_or-map}
use Rattle.daggy_base.specs.Graph.{Graph, out_list}
use Rattle.daggy_base.specs.Ordered.{edges_from}
use Rattle.daggy_base.specs.Path.{AreJoined}
use Rattle.daggy_reduction.proofs.ListedChildren.{list_children, list_none, all_listed, edges_more, edges_from_take}
use Rattle.daggy_reduction.proofs.affected.children_of.Goals as goal
use Rattle.daggy_reduction.proofs.affected.children_of.Given.{Over}
use Rattle.daggy_reduction.proofs.affected.children_of.Goals.{After-push_children}

node_is : (g : Over) (c : After-push_children g)
    → g.Ix.IndexType.number c.index-nodes-k.result
    ≡ get_or (map g.Ix.IndexType.number c.args.nodes.now) c.nodes.k (g.Ix.IndexType.number c.index-nodes-k.result)
node_is g c =
    let number = g.Ix.IndexType.number in
    ap number c.index-nodes-k.is
    ∙ sym (get_or-map number c.args.nodes.now c.nodes.k c.index-nodes-k.result (number c.index-nodes-k.result)
    c.nodes-test.true)

within : (g : Over) (c : After-push_children g) → c.nodes.k < length (map g.Ix.IndexType.number c.args.nodes.now)
within g c = omega (arith, c.nodes-test.true, length-map c.args.nodes.now g.Ix.IndexType.number)

counted : (g : Over) (c : After-push_children g)
    → g.S.EdgeSource.looks c.push_children.new.source
    ≤ g.S.EdgeSource.looks c.args.source.now + edges_from (g.S.EdgeSource.graph c.args.source.now)
    (take (c.nodes.k + 1) (map g.Ix.IndexType.number c.args.nodes.now))
counted g c =
    let u = g.Ix.IndexType.number c.index-nodes-k.result in
    let s = c.nodes.invariant in
    let P : Graph g.row.S-NodeWeight.Denot g.row.S-EdgeWeight.Denot → Type 0 = λ z.
    g.S.EdgeSource.looks c.push_children.new.source ≤ g.S.EdgeSource.looks c.nodes.source + length (out_list z u) in
    omega (
      arith,
      s.counted,
      subst P s.same c.push_children.ensures.counted,
      edges_more s.listing (within g c) (node_is g c),
    )

pub nodes-init : goal.nodes-init
nodes-init g c =
    rw c.new-children.ensures.items (record {
      same = refl;
      within = omega arith;
      looked = omega arith;
      counted = omega arith;
      listing = list_none (g.S.EdgeSource.graph c.args.source.now) (map g.Ix.IndexType.number c.args.nodes.now);
    })

pub nodes-preserved : goal.nodes-preserved
nodes-preserved g c =
    let at = (goal.at.nodes-preserved g c).After-push_children in
    let u = g.Ix.IndexType.number c.index-nodes-k.result in
    let s = c.nodes.invariant in
    let number = g.Ix.IndexType.number in
    let J : Graph g.row.S-NodeWeight.Denot g.row.S-EdgeWeight.Denot → Type 0 = λ z.
    (n : ℕ) → Contains (map number c.push_children.new.children.items) n
    ↔ (Contains (map number c.nodes.children.items) n ⊎ AreJoined z u n) in
    record {
      same = c.push_children.ensures.same ∙ s.same;
      within = omega (arith, c.nodes-test.true);
      looked = omega (arith, s.looked, c.push_children.ensures.looked);
      counted = counted g at;
      listing = list_children s.listing (within g at) (node_is g at) (subst J s.same c.in_ok-push_children.ensures.exact);
    }

pub returns-in_err-push_children-clause-counted : goal.returns-in_err-push_children-clause-counted
returns-in_err-push_children-clause-counted g c =
    let at = (goal.at.returns-in_err-push_children-clause-counted g c).After-push_children in
    omega (
      arith,
      counted g at,
      edges_from_take (g.S.EdgeSource.graph c.args.source.now) (c.nodes.k + 1) (map g.Ix.IndexType.number c.args.nodes.now),
    )

pub returns-clause-exact : goal.returns-clause-exact
returns-clause-exact g c =
    all_listed c.nodes.invariant.listing
    (omega (arith, c.nodes-test.false, length-map c.args.nodes.now g.Ix.IndexType.number))

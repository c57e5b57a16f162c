use Rattle.std.proofs.Common.{◌≡◌, [], ◌∷◌, ◌++◌, refl, sym, ap, subst, ◌∙◌, append_assoc}
use Rattle.std.specs.Borrow.{Bor}
use Rattle.daggy_base.specs.Graph.{Graph, HasNode}
use Rattle.daggy_base.proofs.Lists.{mem_contains, mem_mid}
use Rattle.daggy_base.proofs.OutEdgesRead.{below_bound}
use Rattle.daggy_dag.specs.Recomputing.{DiffersInWeights, IsComputed}
use Rattle.daggy_dag.proofs.Recomputed.{differs_not, differs_written, recomputes_one_more}
use Rattle.daggy_dag.proofs.acyclic.recomputing.recompute_nodes.Given.{Over}
use Rattle.daggy_dag.proofs.acyclic.recomputing.recompute_nodes.Goals.{In-Some}
use Rattle.daggy_dag.proofs.acyclic.recomputing.recompute_nodes.Goals as goal

-- the nodes done, the next one, and the rest
split : (g : Over) (c : In-Some g) → c.args.nodes ≡ c.nodes.invariant.done ++ g.Ix.IndexType.number c.in-Some.n ∷ c.next.new.self
split g c = c.nodes.invariant.split ∙ ap (λ z. c.nodes.invariant.done ++ z) c.in-Some.ensures.steps

-- the next node existed from the beginning
existed : (g : Over) (c : In-Some g) → HasNode (g.S.EdgeSource.graph c.args.store.now) (g.Ix.IndexType.number c.in-Some.n)
existed g c =
    let n = g.Ix.IndexType.number c.in-Some.n in
    let s = c.nodes.invariant in
    c.requires.exist n (rw (split g c) (mem_contains _ n (mem_mid s.done c.next.new.self n)))

-- and exists now
exists : (g : Over) (c : In-Some g) → HasNode (g.S.EdgeSource.graph c.nodes.store) (g.Ix.IndexType.number c.in-Some.n)
exists g c = (c.nodes.invariant.alike.2 (g.Ix.IndexType.number c.in-Some.n)).1 (existed g c)

pub nodes-init : goal.nodes-init
nodes-init g c =
    record { done = []; split = refl; so_far = refl; alike = differs_not (g.S.EdgeSource.graph c.args.store.now); looks = refl }

pub f-weight-requires : goal.f-weight-requires
f-weight-requires g c =
    let n = g.Ix.IndexType.number c.in-Some.n in
    let s = c.nodes.invariant in
    let at = (goal.at.f-weight-requires g c).In-Some in
    let there = existed g at in
    let shown : Bor g.row.S.Denot = record { ref_ptr = c.args.store.ref_ptr; now = c.nodes.store } in
    let P : g.row.Ix.Denot → Type 0 = λ z. g.F.Fn.pre c.args.f.now (shown, (z, tt)) in
    subst P (g.Ix.IndexType.of_number c.in-Some.n)
    (c.requires.callable s.done c.next.new.self n shown (split g at) s.so_far s.alike there
    (below_bound (g.S.EdgeSource.graph c.args.store.now).nodes n there))

pub node_mut-requires : goal.node_mut-requires
node_mut-requires g c = exists g (goal.at.node_mut-requires g c).In-Some

pub nodes-preserved : goal.nodes-preserved
nodes-preserved g c =
    let graph = g.S.EdgeSource.graph in
    let n = g.Ix.IndexType.number c.in-Some.n in
    let w = c.f-weight.result in
    let s = c.nodes.invariant in
    let old = graph c.args.store.now in
    let mid = graph c.nodes.store in
    let written = g.met.S.Store.node_written_is c.nodes.store n w in
    let post = goal.F-post g in
    let shown : Bor g.row.S.Denot = record { ref_ptr = c.args.store.ref_ptr; now = c.nodes.store } in
    let P : g.row.Ix.Denot → Type 0 = λ z. post c.args.f.now shown z w in
    let computed : IsComputed graph g.Ix.IndexType.of post c.args.f.now mid n w =
    (shown, refl, subst P (sym (g.Ix.IndexType.of_number c.in-Some.n)) c.f-weight.ensures) in
    let D : Graph _ _ → Type 0 = λ z. DiffersInWeights old z in
    let there = exists g (goal.at.nodes-preserved g c).In-Some in
    record {
      done = s.done ++ n ∷ [];
      split = s.split ∙ (ap (λ z. s.done ++ z) c.in-Some.ensures.steps ∙ sym (append_assoc s.done (n ∷ []) c.next.new.self));
      so_far = recomputes_one_more graph g.Ix.IndexType.of post c.args.f.now s.done n w old mid _ s.so_far computed written;
      alike = subst D (sym written) (differs_written old mid s.alike n w there);
      looks = g.met.S.Store.node_written_looks c.nodes.store n w ∙ s.looks;
    }

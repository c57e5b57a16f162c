use Rattle.std.proofs.Common.{rules, ◌≡◌, Ok, Err, [], ◌∷◌, ◌++◌, refl, sym, ap, subst, ◌∙◌, append_assoc}
use Rattle.std.proofs.lemmas.List.{append-nil}
use Rattle.std.specs.Borrow.{Bor}
use Rattle.daggy_base.specs.Graph.{Graph, HasNode}
use Rattle.daggy_base.proofs.Lists.{mem_contains, mem_mid}
use Rattle.daggy_base.proofs.OutEdgesRead.{below_bound}
use Rattle.daggy_dag.specs.Recomputing.{DiffersInWeights, Answers}
use Rattle.daggy_dag.proofs.Recomputed.{differs_not, differs_written, in_turn_one_more}
use Rattle.daggy_dag.proofs.acyclic.recomputing.try_recompute_nodes.Given.{Over}
use Rattle.daggy_dag.proofs.acyclic.recomputing.try_recompute_nodes.Goals.{In-Some}
use Rattle.daggy_dag.proofs.acyclic.recomputing.try_recompute_nodes.Goals as goal

-- the nodes done, the next one, and the rest
split : (g : Over) (c : In-Some g) → c.args.nodes ≡ c.nodes.invariant.done ++ g.Ix.IndexType.number c.in-Some.n ∷ c.next.new.self
split g c = c.nodes.invariant.split ∙ ap (λ z. c.nodes.invariant.done ++ z) c.in-Some.ensures.steps

-- the next node existed from the beginning
existed : (g : Over) (c : In-Some g) → HasNode (g.S.EdgeSource.graph c.args.store.now) (g.Ix.IndexType.number c.in-Some.n)
existed g c =
    let n = g.Ix.IndexType.number c.in-Some.n in
    let s = c.nodes.invariant in
    c.requires.exist n (rw (split g c) (mem_contains _ n (mem_mid s.done c.next.new.self n)))

-- and exists now
exists : (g : Over) (c : In-Some g) → HasNode (g.S.EdgeSource.graph c.nodes.store) (g.Ix.IndexType.number c.in-Some.n)
exists g c = (c.nodes.invariant.alike.2 (g.Ix.IndexType.number c.in-Some.n)).1 (existed g c)

pub nodes-init : goal.nodes-init
nodes-init g c =
    record {
      done = [];
      split = refl;
      so_far = (refl, refl);
      alike = differs_not (g.S.EdgeSource.graph c.args.store.now);
      looks = refl;
    }

pub f-answer-requires : goal.f-answer-requires
f-answer-requires g c =
    let n = g.Ix.IndexType.number c.in-Some.n in
    let s = c.nodes.invariant in
    let at = (goal.at.f-answer-requires g c).In-Some in
    let there = existed g at in
    let shown : Bor g.row.S.Denot = record { ref_ptr = c.args.store.ref_ptr; now = c.nodes.store } in
    let P : g.row.Ix.Denot → Type 0 = λ z. goal.F-pre g c.nodes.f shown z in
    subst P (g.Ix.IndexType.of_number c.in-Some.n)
    (c.requires.callable s.done c.next.new.self n c.nodes.f shown (split g at) s.so_far s.alike there
    (below_bound (g.S.EdgeSource.graph c.args.store.now).nodes n there))

pub node_mut-requires : goal.node_mut-requires
node_mut-requires g c = exists g (goal.at.node_mut-requires g c).In-Some

pub nodes-preserved : goal.nodes-preserved
nodes-preserved g c =
    let graph = g.S.EdgeSource.graph in
    let n = g.Ix.IndexType.number c.in-Some.n in
    let w = c.in-Ok.weight in
    let s = c.nodes.invariant in
    let mid = graph c.nodes.store in
    let written = g.met.S.Store.node_written_is c.nodes.store n w in
    let step = goal.F-step g in
    let next = c.f-answer.new.self in
    let shown : Bor g.row.S.Denot = record { ref_ptr = c.args.store.ref_ptr; now = c.nodes.store } in
    let P : g.row.Ix.Denot → Type 0 = λ z. step c.nodes.f shown z (Ok w) next in
    let answer : Answers graph g.Ix.IndexType.of step c.nodes.f mid n (Ok w) next =
    (shown, refl, subst P (sym (g.Ix.IndexType.of_number c.in-Some.n)) (search rules)) in
    let there = exists g (goal.at.nodes-preserved g c).In-Some in
    record {
      done = s.done ++ n ∷ [];
      split = s.split ∙ (ap (λ z. s.done ++ z) c.in-Some.ensures.steps ∙ sym (append_assoc s.done (n ∷ []) c.next.new.self));
      so_far =
          in_turn_one_more graph g.Ix.IndexType.of step s.done n w c.args.f c.nodes.f next (graph c.args.store.now) mid _ s.so_far
          answer written;
      alike =
          subst (λ (z : Graph _ _). DiffersInWeights (graph c.args.store.now) z) (sym written)
          (differs_written (graph c.args.store.now) mid s.alike n w there);
      looks = g.met.S.Store.node_written_looks c.nodes.store n w ∙ s.looks;
    }

pub returns-in-Err-clause-stopped : goal.returns-in-Err-clause-stopped
returns-in-Err-clause-stopped g c =
    let graph = g.S.EdgeSource.graph in
    let s = c.nodes.invariant in
    let at = (goal.at.returns-in-Err-clause-stopped g c).In-Some in
    let step = goal.F-step g in
    let next = c.f-answer.new.self in
    let shown : Bor g.row.S.Denot = record { ref_ptr = c.args.store.ref_ptr; now = c.nodes.store } in
    let P : g.row.Ix.Denot → Type 0 = λ z. step c.nodes.f shown z (Err c.in-Err.error) next in (
      s.done,
      c.next.new.self,
      g.Ix.IndexType.number c.in-Some.n,
      c.nodes.f,
      next,
      split g at,
      s.so_far,
      (shown, refl, subst P (sym (g.Ix.IndexType.of_number c.in-Some.n)) (search rules)),
    )

pub returns-in-Err-clause-looks : goal.returns-in-Err-clause-looks
returns-in-Err-clause-looks g c = c.nodes.invariant.looks

pub returns-clause-written : goal.returns-clause-written
returns-clause-written g c =
    let s = c.nodes.invariant in
    let all : c.args.nodes ≡ s.done =
    s.split ∙ ap (λ z. s.done ++ z) c.in_default.ensures.steps.0 ∙ append-nil s.done in
    (c.nodes.f, rw all s.so_far)

pub returns-clause-looks : goal.returns-clause-looks
returns-clause-looks g c = c.nodes.invariant.looks

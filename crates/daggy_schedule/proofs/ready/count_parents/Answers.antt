use Rattle.std.proofs.Common.{◌≡◌, ◌∙◌, ◌<◌, ◌+◌, ℕ, List, length, replicate, get_or, set, sym, ap, subst, arith, rules, vec_len}
use Rattle.std.proofs.lemmas.List.{length-replicate, length-set, get_or_default}
use Rattle.daggy_base.proofs.EdgeEnds.{edge_here, no_edge_here, child_low}
use Rattle.daggy_schedule.proofs.Parents.{AreCounted, none_counted, counted_none, counted_one, one_fits, all_counted}
use Rattle.daggy_schedule.proofs.Starting.{resized, all_zero}
use Rattle.daggy_schedule.proofs.ready.count_parents.Goals.{in-Some, in_default}
use Rattle.daggy_schedule.proofs.ready.count_parents.Goals as goal

pub edges-init : goal.edges-init
edges-init g c =
    let size = c.node_bound.result in
    let zeros : c.resize.new.self.items ≡ replicate size 0 =
    resized _ _ size _ 0 c.new-counts.ensures.items c.new-counts.ensures.len c.in_ok-resize.ensures.items in
    record {
      within = omega arith;
      sized = ap length zeros ∙ (length-replicate size 0 ∙ c.node_bound.ensures.value);
      counted =
          none_counted (g.S.EdgeSource.graph c.args.store.now) c.resize.new.self.items
          (λ n. ap (λ z. get_or z n 0) zeros ∙ all_zero size n);
    }

pub new-requires : goal.new-requires
new-requires g c =
    omega (arith, c.edges-test.true, c.edge_slots-bound.ensures, c.invariant.ensures.well_formed.few_edges)

pub index_mut-requires : goal.index_mut-requires
index_mut-requires g c =
    let graph = g.S.EdgeSource.graph c.args.store.now in
    let w = c.invariant.ensures.well_formed in
    let (x, at, parent, child) = edge_here graph _ c.edges.e _ c.new.ensures.number c.in-Some.ensures in
    let size : vec_len c.edges.counts ≡ length c.edges.counts.items = search rules in
    omega (arith, child_low w c.edges.e x at, child, size, c.edges.invariant.sized, c.index.ensures.value)

pub overflow_add-index_mut : goal.overflow_add-index_mut
overflow_add-index_mut g c =
    let graph = g.S.EdgeSource.graph c.args.store.now in
    let w = c.invariant.ensures.well_formed in
    let counts = c.edges.counts.items in
    let i = c.index.result in
    let (x, at, parent, child) = edge_here graph _ c.edges.e _ c.new.ensures.number c.in-Some.ensures in
    let here : i ≡ x.child = c.index.ensures.value ∙ child in
    let low : i < length counts = omega (arith, child_low w c.edges.e x at, here, c.edges.invariant.sized) in
    let is : c.index_mut.result.now ≡ get_or counts x.child 0 =
    c.index_mut.ensures.value ∙ (get_or_default counts i _ 0 low ∙ ap (λ k. get_or counts k 0) here) in
    let fits = one_fits w c.edges.e counts c.edges.invariant.counted x at in
    omega (arith, is, fits, c.edge_slots-bound.ensures)

pub edges-preserved : goal.edges-preserved
edges-preserved g c =
    let graph = g.S.EdgeSource.graph c.args.store.now in
    let w = c.invariant.ensures.well_formed in
    let e = c.edges.e in
    let counts = c.edges.counts.items in
    let s = c.edges.invariant in
    elim c.match-edge_endpoints.branch [
      | in-Some b ↦
          (let (x, at, parent, child) = edge_here graph _ e _ c.new.ensures.number b.in-Some.ensures in
          let i = b.index.result in
          let here : i ≡ x.child = b.index.ensures.value ∙ child in
          let low : i < length counts = omega (arith, child_low w e x at, here, s.sized) in
          let one_more = b.index_mut.result.now + 1 in
          let is : b.index_mut.result.now ≡ get_or counts x.child 0 =
          b.index_mut.ensures.value ∙ (get_or_default counts i _ 0 low ∙ ap (λ k. get_or counts k 0) here) in
          let P : List ℕ → Type 0 = λ z. AreCounted graph (e + 1) z in
          let now : set counts x.child (get_or counts x.child 0 + 1) ≡ set counts i one_more =
          ap (λ k. set counts k (get_or counts x.child 0 + 1)) (sym here) ∙ ap (λ k. set counts i (k + 1)) (sym is) in
          rw b.counts-is record {
            within = omega (arith, c.edges-test.true);
            sized = length-set counts i one_more ∙ s.sized;
            counted = subst P now (counted_one w e counts s.counted x at (omega (arith, low, here)));
          })
      | in_default b ↦
          rw b.counts-is record {
            within = omega (arith, c.edges-test.true);
            sized = s.sized;
            counted = counted_none w e counts s.counted (no_edge_here graph _ e c.new.ensures.number b.in_default.ensures);
          }
    ]

pub returns-clause-counted : goal.returns-clause-counted
returns-clause-counted g c =
    let graph = g.S.EdgeSource.graph c.args.store.now in
    let counts = c.edges.counts.items in
    let all : c.edges.e ≡ length graph.edges =
    omega (arith, c.edges.invariant.within, c.edges-test.false, c.edge_slots-bound.ensures) in
    let P : ℕ → Type 0 = λ k. AreCounted graph k counts in
    all_counted c.invariant.ensures.well_formed counts (subst P all c.edges.invariant.counted)

use Rattle.std.proofs.Common.{◌≡◌, ◌≢◌, ◌++◌, ◌∷◌, [], ℕ, List, Err, true, map, set, is_some}
use Rattle.std.proofs.Common.{inl, inr, refl, ap, sym, subst, ◌∙◌, arith}
use Rattle.daggy_base.specs.Graph.{Graph, pair_of}
use Rattle.daggy_base.specs.Path.{Reaches}
use Rattle.daggy_base.proofs.EdgeEnds.{edge_here, no_edge_here}
use Rattle.daggy_components.proofs.MetChildren.{map_last}
use Rattle.daggy_cycles.specs.Trying.{AreTried}
use Rattle.daggy_cycles.proofs.Tried.{has_component, together, apart, parent_real, child_real, parent_in, child_in}
use Rattle.daggy_cycles.proofs.Tried.{place_low, read_mark, was_marked, lies_apart, has_index, is_left_out, is_kept}
use Rattle.daggy_cycles.proofs.Tried.{not_both}
use Rattle.daggy_cycles.proofs.Trying.{tries_none}
use Rattle.daggy_cycles.proofs.feedback.try_edge.Goals as goal

pub returns-in_default : goal.returns-in_default
returns-in_default g c =
    let graph = g.S.EdgeSource.graph c.args.store.now in
    let n = g.Ix.IndexType.number c.args.e in
    record {
      tried = λ tried t. tries_none c.invariant.ensures.well_formed t n (no_edge_here graph n n refl c.in_default.ensures);
    }

pub index-requires-2 : goal.index-requires-2
index-requires-2 g c =
    let graph = g.S.EdgeSource.graph c.args.store.now in
    let number = g.Ix.IndexType.number in
    let n = number c.args.e in
    let p = pair_of number c.in-Some.ends in
    let ends = edge_here graph n n p refl c.in-Some.ensures in
    omega (
      arith,
      place_low c.invariant.ensures.well_formed c.requires.tried.1 n p ends,
      c.index.ensures.value,
      c.args.marks.now.ok.0,
    )

pub returns-then-index : goal.returns-then-index
returns-then-index g c =
    let graph = g.S.EdgeSource.graph c.args.store.now in
    let number = g.Ix.IndexType.number in
    let n = number c.args.e in
    let p = pair_of number c.in-Some.ends in
    let ends = edge_here graph n n p refl c.in-Some.ensures in
    let w = c.invariant.ensures.well_formed in
    let low = place_low w c.requires.tried.1 n p ends in
    let mark =
    read_mark c.args.marks.now.items c.index.result n c.index-2.result.now c.index-2.ensures c.index.ensures.value low
    ∙ c.if-index.true in
    record { tried = λ tried t. was_marked w t n p ends c.edge_count-count.ensures.dag.acyclic mark }

pub index_mut-requires : goal.index_mut-requires
index_mut-requires g c =
    let graph = g.S.EdgeSource.graph c.args.store.now in
    let number = g.Ix.IndexType.number in
    let n = number c.args.e in
    let p = pair_of number c.in-Some.ends in
    let ends = edge_here graph n n p refl c.in-Some.ensures in
    omega (
      arith,
      place_low c.invariant.ensures.well_formed c.requires.tried.1 n p ends,
      c.index-3.ensures.value,
      c.args.marks.now.ok.0,
    )

pub unwrap-j-requires : goal.unwrap-j-requires
unwrap-j-requires g c =
    let graph = g.S.EdgeSource.graph c.args.store.now in
    let number = g.Ix.IndexType.number in
    let n = number c.args.e in
    let p = pair_of number c.in-Some.ends in
    let ends = edge_here graph n n p refl c.in-Some.ensures in
    let q =
    has_component c.requires.components p.0
    (parent_real c.invariant.ensures.well_formed c.requires.tried.1 n p ends) in
    ap is_some ((c.component_of.ensures q.0).1 q.1)

pub unwrap-k-requires : goal.unwrap-k-requires
unwrap-k-requires g c =
    let graph = g.S.EdgeSource.graph c.args.store.now in
    let number = g.Ix.IndexType.number in
    let n = number c.args.e in
    let p = pair_of number c.in-Some.ends in
    let ends = edge_here graph n n p refl c.in-Some.ensures in
    let q =
    has_component c.requires.components p.1
    (child_real c.invariant.ensures.well_formed c.requires.tried.1 n p ends) in
    ap is_some ((c.component_of-2.ensures q.0).1 q.1)

pub returns-then-j-k : goal.returns-then-j-k
returns-then-j-k g c =
    let graph = g.S.EdgeSource.graph c.args.store.now in
    let number = g.Ix.IndexType.number in
    let n = number c.args.e in
    let p = pair_of number c.in-Some.ends in
    let ends = edge_here graph n n p refl c.in-Some.ensures in
    let w = c.invariant.ensures.well_formed in
    let marks = c.args.marks.now.items in
    let mark =
    read_mark marks c.index.result n c.index-2.result.now c.index-2.ensures c.index.ensures.value
    (place_low w c.requires.tried.1 n p ends)
    ∙ c.if-index.false in
    let differ : c.unwrap-j.result ≢ c.unwrap-k.result = c.if-j-k.true in
    let off =
    apart c.requires.components c.unwrap-j.result c.unwrap-k.result p.0 p.1
    ((c.component_of.ensures c.unwrap-j.result).0 c.unwrap-j.ensures)
    ((c.component_of-2.ensures c.unwrap-k.result).0 c.unwrap-k.ensures) differ in
    record {
      tried = λ tried t. (
          let P : ℕ → Type 0 = λ z.
          AreTried graph c.args.kept.now.graph (set marks z true) (tried ++ n ∷ []) (map number c.args.left_out.now.items) in
          subst P (sym c.index-3.ensures.value) (lies_apart w t n p ends mark off));
    }

pub add_edge-requires-clause-parent : goal.add_edge-requires-clause-parent
add_edge-requires-clause-parent g c =
    let graph = g.S.EdgeSource.graph c.args.store.now in
    let number = g.Ix.IndexType.number in
    let n = number c.args.e in
    let p = pair_of number c.in-Some.ends in
    let ends = edge_here graph n n p refl c.in-Some.ensures in
    parent_in c.invariant.ensures.well_formed c.requires.tried.1 n p ends

pub add_edge-requires-clause-child : goal.add_edge-requires-clause-child
add_edge-requires-clause-child g c =
    let graph = g.S.EdgeSource.graph c.args.store.now in
    let number = g.Ix.IndexType.number in
    let n = number c.args.e in
    let p = pair_of number c.in-Some.ends in
    let ends = edge_here graph n n p refl c.in-Some.ensures in
    child_in c.invariant.ensures.well_formed c.requires.tried.1 n p ends

pub add_edge-requires-clause-index_left : goal.add_edge-requires-clause-index_left
add_edge-requires-clause-index_left g c =
    let graph = g.S.EdgeSource.graph c.args.store.now in
    let number = g.Ix.IndexType.number in
    let n = number c.args.e in
    let p = pair_of number c.in-Some.ends in
    let ends = edge_here graph n n p refl c.in-Some.ensures in
    let w = c.invariant.ensures.well_formed in
    let mark =
    read_mark c.args.marks.now.items c.index.result n c.index-2.result.now c.index-2.ensures c.index.ensures.value
    (place_low w c.requires.tried.1 n p ends)
    ∙ c.if-index.false in
    has_index w c.requires.tried.1 n p ends mark

pub returns-in-Ok : goal.returns-in-Ok
returns-in-Ok g c =
    let graph = g.S.EdgeSource.graph c.args.store.now in
    let number = g.Ix.IndexType.number in
    let n = number c.args.e in
    let p = pair_of number c.in-Some.ends in
    let ends = edge_here graph n n p refl c.in-Some.ensures in
    let w = c.invariant.ensures.well_formed in
    let marks = c.args.marks.now.items in
    let old = c.args.kept.now.graph in
    let mark =
    read_mark marks c.index.result n c.index-2.result.now c.index-2.ensures c.index.ensures.value
    (place_low w c.requires.tried.1 n p ends)
    ∙ c.if-index.false in
    let same : c.unwrap-j.result ≡ c.unwrap-k.result = omega (arith, c.if-j-k.false) in
    let round =
    together c.requires.components c.unwrap-j.result c.unwrap-k.result p.0 p.1
    ((c.component_of.ensures c.unwrap-j.result).0 c.unwrap-j.ensures)
    ((c.component_of-2.ensures c.unwrap-k.result).0 c.unwrap-k.ensures) same in
    let off : Reaches old p.1 p.0 → ⊥ = λ r. let refused = c.in-Ok.ensures.cycle.1 r in absurd cc in
    record {
      tried = λ tried t. (
          let out = map number c.args.left_out.now.items in
          let P : ℕ → Type 0 = λ z.
          AreTried graph c.add_edge.new.self.graph (set marks z true) (tried ++ n ∷ []) out in
          let Q : Graph _ _ → Type 0 = λ z. AreTried graph z (set marks n true) (tried ++ n ∷ []) out in
          subst P (sym c.index-3.ensures.value) (subst Q (sym c.in-Ok.ensures.added.1)
          (is_kept w t n p ends mark g.Ix.IndexType.greatest c.edge_count-count.ensures.dag.well_formed (tt {0}) round
          off)));
    }

pub returns-in_ok-push-in-Err-WouldCycle : goal.returns-in_ok-push-in-Err-WouldCycle
returns-in_ok-push-in-Err-WouldCycle g c =
    let graph = g.S.EdgeSource.graph c.args.store.now in
    let number = g.Ix.IndexType.number in
    let n = number c.args.e in
    let p = pair_of number c.in-Some.ends in
    let ends = edge_here graph n n p refl c.in-Some.ensures in
    let w = c.invariant.ensures.well_formed in
    let marks = c.args.marks.now.items in
    let old = c.args.kept.now.graph in
    let mark =
    read_mark marks c.index.result n c.index-2.result.now c.index-2.ensures c.index.ensures.value
    (place_low w c.requires.tried.1 n p ends)
    ∙ c.if-index.false in
    let back : Reaches old p.1 p.0 =
    elim c.in-Err-WouldCycle.ensures.refusal [
      | inl same ↦ c.in-Err-WouldCycle.ensures.cycle.0 (ap Err same)
      | inr other ↦ absurd (not_both _ _ _ c.in-Err-WouldCycle.field-0-is other)
    ] in
    let pushes =
    ap (λ z. map number z) c.in_ok-push-in-Err-WouldCycle.ensures.items
    ∙ map_last number c.args.left_out.now.items c.args.e in
    record {
      tried = λ tried t. (
          let P : ℕ → Type 0 = λ z.
          AreTried graph c.add_edge.new.self.graph (set marks z true) (tried ++ n ∷ [])
          (map number c.push.new.self.items) in
          let Q : Graph _ _ → Type 0 = λ z.
          AreTried graph z (set marks n true) (tried ++ n ∷ []) (map number c.push.new.self.items) in
          let R : List ℕ → Type 0 = λ z. AreTried graph old (set marks n true) (tried ++ n ∷ []) z in
          subst P (sym c.index-3.ensures.value) (subst Q (sym c.in-Err-WouldCycle.ensures.unchanged)
          (subst R (sym pushes) (is_left_out w t n p ends mark back))));
    }

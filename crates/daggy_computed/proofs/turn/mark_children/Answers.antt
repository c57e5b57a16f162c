use Rattle.std.proofs.Common.{◌≡◌, ◌⊎◌, Contains, List, ◌<◌, ◌++◌, ◌∷◌, [], ℕ, map, length, true, inl, inr, refl, arith, ap, sym, subst, ◌∙◌, append_assoc}
use Rattle.std.proofs.lemmas.List.{append-nil, map-append, length-set}
use Rattle.daggy_base.specs.declared.index.Direction.TheVariants.{Outgoing}
use Rattle.daggy_base.proofs.Lists.{Mem, contains_mem, mem_contains, mem_left, mem_mid}
use Rattle.daggy_dag.specs.Walks.{rest_of_walk}
use Rattle.daggy_computed.specs.Cells.{cells, value_of, IsStaleAt, marked_at}
use Rattle.daggy_computed.specs.Marking.{all_marked, far_nodes, children_of}
use Rattle.daggy_computed.proofs.Celled.{cells_marked, stale_marked_at, weight_of}
use Rattle.daggy_dag.proofs.WalkSteps.{whole_walk}
use Rattle.daggy_computed.proofs.Walked.{over, shorter, far_ahead, far_exists}
use Rattle.daggy_computed.proofs.turn.mark_children.Goals as goal

-- a queue after a node was put there
put_after : {I : Type 0} (number : I → ℕ) (old new : List I) (n : I)
    → ((new ≡ old) × Contains (map number old) (number n)) ⊎ (new ≡ old ++ n ∷ [])
    → (more : List I) × (new ≡ old ++ more) × ((m : ℕ) → Mem m (map number old) → Mem m (map number new))
    × Mem (number n) (map number new)
put_after number old new n (inl h) = (
  [],
  h.0 ∙ sym (append-nil old),
  λ m k. subst (λ z. Mem m (map number z)) (sym h.0) k,
  contains_mem (map number new) (number n) (subst (λ z. Contains (map number z) (number n)) (sym h.0) h.1),
)
put_after number old new n (inr h) =
    let is : map number new ≡ map number old ++ number n ∷ [] = ap (map number) h ∙ map-append number old (n ∷ []) in (
      n ∷ [],
      h,
      λ m k. subst (Mem m) (sym is) (mem_left (map number old) (number n ∷ []) m k),
      subst (Mem (number n)) (sym is) (mem_mid (map number old) [] (number n)),
    )

pub children-init : goal.children-init
children-init g c =
    let number = g.Ix.IndexType.number in
    let graph = g.S.EdgeSource.graph c.args.store.now in
    let n = number c.args.n in
    let es = c.args.entries.now.items in
    let whole : far_nodes Outgoing graph (rest_of_walk Outgoing graph (number c.first_edge-cursor.result)) ≡ children_of graph n =
    ap (far_nodes Outgoing graph)
    (ap (rest_of_walk Outgoing graph) c.first_edge-cursor.ensures
    ∙ whole_walk g.Ix.IndexType.greatest graph c.invariant.ensures.well_formed Outgoing n) in
    record {
      marked = ap (all_marked (cells graph es)) whole;
      among = λ m k. subst (Mem m) whole k;
      stale = λ m s. inr s;
      len = refl;
      put = ([], sym (append-nil c.args.queue.now.nodes));
      all = λ m k. inr (subst (Mem m) (sym whole) k);
      slots = refl;
    }

pub mark-requires : goal.mark-requires
mark-requires g c =
    let s = c.children.invariant in
    let low =
    c.requires.sized _ (far_exists g.Ix.IndexType.number Outgoing c.invariant.ensures.well_formed c.in-Some.item c.in-Some.ensures) in
    omega (arith, low, s.len, c.index.ensures.value)

pub put-requires : goal.put-requires
put-requires g c =
    let s = c.children.invariant in
    let low =
    c.requires.sized _ (far_exists g.Ix.IndexType.number Outgoing c.invariant.ensures.well_formed c.in-Some.item c.in-Some.ensures) in
    omega (arith, low, s.slots, c.requires.slots)

pub children-smaller : goal.children-smaller
children-smaller g c =
    shorter g.Ix.IndexType.number Outgoing c.invariant.ensures.well_formed c.in-Some.item c.in-Some.ensures

pub children-preserved : goal.children-preserved
children-preserved g c =
    let number = g.Ix.IndexType.number in
    let graph = g.S.EdgeSource.graph c.args.store.now in
    let w = c.invariant.ensures.well_formed in
    let s = c.children.invariant in
    let es = c.children.entries.items in
    let child = number c.in-Some.item.1 in
    let there = far_exists number Outgoing w c.in-Some.item c.in-Some.ensures in
    let k = weight_of graph es child there in
    let low : child < length es = omega (arith, c.requires.sized child there, s.len, c.children.entries.ok.0) in
    let ahead = far_ahead number Outgoing w c.in-Some.item c.in-Some.ensures in
    let left = far_nodes Outgoing graph (rest_of_walk Outgoing graph (number c.children.cursor)) in
    let rest = far_nodes Outgoing graph (rest_of_walk Outgoing graph (number c.step.new.cursor)) in
    let now = c.mark.new.entries.items in
    let is : now ≡ marked_at es child = c.mark.ensures ∙ ap (marked_at es) c.index.ensures.value in
    let queue = put_after number c.children.queue.nodes c.put.new.self.nodes c.in-Some.item.1 c.put.ensures.put in
    let here : (m : ℕ) → Mem m left → (m ≡ child) ⊎ Mem m rest = λ m k. subst (Mem m) ahead k in
    record {
      marked = ap (λ z. all_marked z rest) (ap (cells graph) is ∙ cells_marked graph es child k.0 low k.1)
          ∙ (ap (all_marked (cells graph es)) (sym ahead) ∙ s.marked);
      among = λ m q. s.among m (subst (Mem m) (sym ahead) (inr q));
      stale = λ m t. elim (stale_marked_at es child m (subst (λ z. IsStaleAt z m) is t)) [
        | inl e ↦ inl (s.among m (subst (Mem m) (sym ahead) (inl e)))
        | inr t ↦ s.stale m t
      ];
      len = omega (
        arith,
        c.mark.new.entries.ok.0,
        c.children.entries.ok.0,
        s.len,
        ap length is,
        length-set es child (record { value = value_of es child; stale = true }),
      );
      put = (s.put.0 ++ queue.0, queue.1 ∙ (ap (λ z. z ++ queue.0) s.put.1 ∙ append_assoc c.args.queue.now.nodes s.put.0 queue.0));
      all = λ m q. elim (s.all m q) [
        | inl r ↦ inl (queue.2 m r)
        | inr l ↦ elim (here m l) [ inl e ↦ inl (subst (λ z. Mem z (map number c.put.new.self.nodes)) (sym e) queue.3) | inr r ↦ inr r ]
      ];
      slots = c.put.ensures.slots ∙ s.slots;
    }

pub returns-clause-stale : goal.returns-clause-stale
returns-clause-stale g c = λ m s. elim (c.children.invariant.stale m s) [ inl k ↦ inl (mem_contains _ m k) | inr t ↦ inr t ]

pub returns-clause-all : goal.returns-clause-all
returns-clause-all g c = λ m k.
    let number = g.Ix.IndexType.number in
    let graph = g.S.EdgeSource.graph c.args.store.now in
    let none = over number Outgoing c.invariant.ensures.well_formed _ c.in_default.is c.step.ensures in
    elim (c.children.invariant.all m (contains_mem _ m k)) [
      | inl q ↦ mem_contains _ m q
      | inr left ↦ absurd (subst (λ z. Mem m (far_nodes Outgoing graph z)) none left)
    ]

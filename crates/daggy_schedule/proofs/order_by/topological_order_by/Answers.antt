use Rattle.std.proofs.Common.{◌≡◌, ◌∙◌, ◌++◌, ◌∷◌, [], ℕ, List, length, map, refl, sym, ap, subst, arith, is_some, Some, None}
use Rattle.std.proofs.Common.{inl, true}
use Rattle.std.proofs.lemmas.Bool.{false≢true}
use Rattle.std.proofs.lemmas.List.{map-append, length-map, length_push}
use Rattle.daggy_base.specs.Graph.{node_weight}
use Rattle.daggy_base.proofs.Lists.{mem_contains}
use Rattle.daggy_base.proofs.OutEdgesRead.{below_bound}
use Rattle.daggy_schedule.specs.Work.{Work, IsOut, IsUnderWay, is_among}
use Rattle.daggy_schedule.specs.LeastFirst.{IsKeyOf}
use Rattle.daggy_schedule.proofs.Members.{among_in}
use Rattle.daggy_schedule.proofs.Ordering.{IsOrdering, ordering_from, ordering_wait, ordering_next, ordering_room, waits_out}
use Rattle.daggy_schedule.proofs.Ordering.{ordering_whole, ordering_least_first}
use Rattle.daggy_schedule.proofs.order_by.topological_order_by.Goals as goal

pub order-init : goal.order-init
order-init g c =
    let graph = c.args.dag.now.graph in
    let cmp = g.K.Ord.cmp in
    let work = c.in_ok-ready.ready in
    let P : List (_ × ℕ) → Type 0 = λ z.
    IsOrdering cmp (IsKeyOf g.Ix.IndexType.of (goal.F-post g) c.args.key graph) graph work z
    (map g.Ix.IndexType.number c.in_ok-order.order.items) in
    let Q : List _ → Type 0 = λ z.
    IsOrdering cmp (IsKeyOf g.Ix.IndexType.of (goal.F-post g) c.args.key graph) graph work []
    (map g.Ix.IndexType.number z) in
    record {
      under_way = c.in_ok-ready.ensures.under_way;
      ordering = subst P (sym c.new-candidates.ensures) (subst Q (sym c.in_ok-order.ensures.items)
          (ordering_from c.in_ok-ready.ensures.none_out c.in_ok-ready.ensures.under_way.done));
    }

pub key-requires : goal.key-requires
key-requires g c =
    let graph = c.args.dag.now.graph in
    let n = g.Ix.IndexType.number c.in-Some.n in
    let weight = c.in-Some-node_weight.weight in
    let at : node_weight graph n ≡ Some weight.now =
    sym (c.in-Some-node_weight.ensures ∙ ap (λ z. node_weight z n) c.graph-store.ensures.graph) in
    let P : _ → Type 0 = λ z. goal.F-pre g c.args.key z weight in
    subst P (g.Ix.IndexType.of_number c.in-Some.n)
    (c.requires n weight.now at (below_bound graph.nodes n (ap is_some at)) weight refl)

pub ready-preserved-in-Continue-branch-3 : goal.ready-preserved-in-Continue-branch-3
ready-preserved-in-Continue-branch-3 g c =
    let graph = c.args.dag.now.graph in
    let n = g.Ix.IndexType.number c.in-Some.n in
    let weight = c.in-Some-node_weight.weight in
    let at : node_weight graph n ≡ Some weight.now =
    sym (c.in-Some-node_weight.ensures ∙ ap (λ z. node_weight z n) c.graph-store.ensures.graph) in
    let given = c.in-Some.ensures in
    let A : List ℕ → Type 0 = λ z. is_among z n ≡ true in
    let was_ready = subst A (sym given.first) (among_in (n ∷ c.next.new.self.ready) n
    (mem_contains (n ∷ c.next.new.self.ready) n (inl refl))) in
    let fresh = ((c.ready.invariant.under_way.ready n).0 was_ready).1 in
    let P : _ → Type 0 = λ z. goal.F-post g c.args.key z weight c.key.result in
    let key : IsKeyOf g.Ix.IndexType.of (goal.F-post g) c.args.key graph (c.key.result, n) =
    (weight, at, subst P (sym (g.Ix.IndexType.of_number c.in-Some.n)) c.key.ensures) in
    record {
      under_way = given.under_way;
      ordering = ordering_wait c.ready.invariant.ordering c.next.new.self c.add.new.self.items c.key.result n (ap is_some at) key fresh
          given.is_out given.out given.done c.in_ok-add.ensures;
    }

pub ready-preserved : goal.ready-preserved
ready-preserved g c =
    let graph = c.args.dag.now.graph in
    let n = g.Ix.IndexType.number c.in-Some.n in
    let given = c.in-Some.ensures in
    let none : None ≡ node_weight graph n =
    c.in_default-node_weight.ensures ∙ ap (λ z. node_weight z n) c.graph-store.ensures.graph in
    absurd (false≢true (ap is_some none ∙ (given.under_way.out n given.is_out.0).0))

pub returns-in_default-take_first-clause-ordered : goal.returns-in_default-take_first-clause-ordered
returns-in_default-take_first-clause-ordered g c =
    let none = c.in_default.ensures.none.0 refl in
    ordering_whole c.ready.invariant.ordering c.node_count.ensures.dag.well_formed c.ready.invariant.under_way none
    (c.in_default-take_first.ensures.none refl).0

pub returns-in_default-take_first-clause-least : goal.returns-in_default-take_first-clause-least
returns-in_default-take_first-clause-least g c =
    let none = c.in_default.ensures.none.0 refl in
    ordering_least_first g.Ix.IndexType.of (goal.F-post g) c.args.key g.K.Ord.cmp c.ready.invariant.ordering
    c.node_count.ensures.dag.well_formed c.ready.invariant.under_way none (c.in_default-take_first.ensures.none refl).0

pub done-requires-clause-out : goal.done-requires-clause-out
done-requires-clause-out g c =
    let none = c.in_default.ensures.none.0 refl in
    let first = c.in-Some-take_first.first in
    let n = g.Ix.IndexType.number first.1 in
    let P : Work → Type 0 = λ z. IsOut z n in
    subst P (sym (c.in_default.ensures.unchanged refl))
    (waits_out c.ready.invariant.ordering c.node_count.ensures.dag.well_formed c.ready.invariant.under_way none
    c.take_first.new.self.items first.0 n c.in-Some-take_first.ensures.taken)

pub order-smaller : goal.order-smaller
order-smaller g c =
    let none = c.in_default.ensures.none.0 refl in
    let first = c.in-Some-take_first.first in
    let number = g.Ix.IndexType.number in
    let n = number first.1 in
    let items = c.order.order.items in
    let room = ordering_room c.ready.invariant.ordering c.node_count.ensures.dag.well_formed c.ready.invariant.under_way none
    c.take_first.new.self.items first.0 n c.in-Some-take_first.ensures.taken in
    omega (
      arith,
      room,
      length-map items number,
      ap length c.in_ok-push.ensures.items,
      length_push items first.1,
    )

pub order-preserved : goal.order-preserved
order-preserved g c =
    let graph = c.args.dag.now.graph in
    let number = g.Ix.IndexType.number in
    let first = c.in-Some-take_first.first in
    let n = number first.1 in
    let items = c.order.order.items in
    let same = c.in_default.ensures.unchanged refl in
    let none = c.in_default.ensures.none.0 refl in
    let IsKey = IsKeyOf g.Ix.IndexType.of (goal.F-post g) c.args.key graph in
    let S : Work → Type 0 = λ z. IsOrdering g.K.Ord.cmp IsKey graph z c.ready.candidates.items (map number items) in
    let U : Work → Type 0 = λ z. IsUnderWay graph z in
    let R : Work → Type 0 = λ z. z.ready ≡ [] in
    let more : map number c.push.new.self.items ≡ map number items ++ n ∷ [] =
    ap (map number) c.in_ok-push.ensures.items ∙ map-append number items (first.1 ∷ []) in
    let O : List ℕ → Type 0 = λ z. IsOrdering g.K.Ord.cmp IsKey graph c.done.new.self c.take_first.new.self.items z in
    record {
      under_way = c.done.ensures.under_way;
      ordering = subst O (sym more) (ordering_next (subst S (sym same) c.ready.invariant.ordering)
          c.node_count.ensures.dag.well_formed (subst U (sym same) c.ready.invariant.under_way) (subst R (sym same) none)
          c.done.new.self c.take_first.new.self.items first.0 n c.in-Some-take_first.ensures.taken c.in-Some-take_first.ensures.first
          c.done.ensures.done c.done.ensures.out);
    }

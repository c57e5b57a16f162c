use Rattle.std.proofs.Common.{◌≡◌, ◌+◌, ◌<◌, ℕ, List, [], ◌∷◌, ◌++◌, length, get_or, take, drop, refl, sym, ap, subst}
use Rattle.std.proofs.Common.{inl, ◌∙◌, arith}
use Rattle.std.specs.List.{Contains}
use Rattle.std.proofs.lemmas.List.{take_more, take_all, take-append-drop, drop_more, get_or-take, length-take-le}
use Rattle.daggy_base.specs.Removal.{without}
use Rattle.daggy_base.proofs.Lists.{Mem, Unique, mem_left, mem_at, contains_mem, mem_contains, unique_from_distinct}
use Rattle.daggy_order.specs.Links.{Listed, without_all}
use Rattle.daggy_base.proofs.Sorted.{unique_cross}
use Rattle.daggy_order.proofs.MovedNodes.{Moving, moves_none, moves_in, moves_at, moves_absent, moves_more}
use Rattle.daggy_order.proofs.list.moving.put_all_after.Given.{Over}
use Rattle.daggy_order.proofs.list.moving.put_all_after.Goals.{After-node-n}
use Rattle.daggy_order.proofs.list.moving.put_all_after.Goals as goal

-- what stands at a place of a list of differing elements stands not before it
not_taken : (xs : List ℕ) (i x : ℕ) → Unique xs → i < length xs → x ≡ get_or xs i x → Mem x (take i xs) → ⊥
not_taken xs i x once within is m =
    let P : List ℕ → Type 0 = λ z. Unique z in
    unique_cross (take i xs) (drop i xs) (subst P (sym (take-append-drop i xs)) once) x m (
    let Q : List ℕ → Type 0 = λ z. Mem x z in
    subst Q (sym (drop_more xs i x within)) (inl is))

-- what is read is the next node of the list
read : (g : Over) (c : After-node-n g)
    → (c.node-n.result ≡ get_or (take c.args.count c.args.work.now.nodes) c.nodes.i c.node-n.result)
    × (c.nodes.i < length (take c.args.count c.args.work.now.nodes))
read g c =
    let low : c.nodes.i < c.args.count = c.nodes-test.true in (
      c.node-n.ensures c.node-n.result
          ∙ sym (get_or-take c.args.count c.args.work.now.nodes c.nodes.i c.node-n.result low),
      omega (arith, low, length-take-le c.args.count c.args.work.now.nodes c.requires.within),
    )

-- the next node n to be moved: it stands before a, and is not moved yet
record IsNext (a at n : ℕ) (done before behind now : List ℕ) : Type 0 where
  moving : Moving a at done before behind now
  once : Unique (before ++ a ∷ behind)
  held : Mem n before
  fresh : Mem n done → ⊥

next : (g : Over) (c : After-node-n g) (before behind : List ℕ)
    → c.args.links.now.nodes ≡ before ++ c.args.a ∷ behind
    → ((n : ℕ) → Contains (take c.args.count c.args.work.now.nodes) n → Contains before n)
    → IsNext c.args.a c.nodes.at c.node-n.result (take c.nodes.i (take c.args.count c.args.work.now.nodes)) before behind
    c.nodes.links.nodes
next g c before behind is stand =
    let n : ℕ = c.node-n.result in
    let U : List ℕ → Type 0 = λ z. Unique z in
    let M : ℕ → Type 0 = λ z. Mem z (take c.args.count c.args.work.now.nodes) in
    let in_nodes : Mem n (take c.args.count c.args.work.now.nodes) =
    subst M (sym (read g c).0) (mem_at (take c.args.count c.args.work.now.nodes) c.nodes.i n (read g c).1) in
    record {
      moving = c.nodes.invariant.1 before behind is stand;
      once = subst U is
          (unique_from_distinct (g.Ix.IndexType.greatest ∷ c.args.links.now.nodes) c.len-count.ensures.distinct).1;
      held = contains_mem before n (stand n (mem_contains (take c.args.count c.args.work.now.nodes) n in_nodes));
      fresh = not_taken (take c.args.count c.args.work.now.nodes) c.nodes.i n (unique_from_distinct (take c.args.count c.args.work.now.nodes) c.requires.distinct)
          (read g c).1 (read g c).0;
    }

-- it is a node
in_old : (g : Over) (c : After-node-n g) → Mem c.node-n.result c.args.links.now.nodes
in_old g c =
    let n : ℕ = c.node-n.result in
    let h = c.requires.stand in
    let P : List ℕ → Type 0 = λ z. Mem n z in
    subst P (sym h.is)
    (mem_left h.before (c.args.a ∷ h.behind) n (next g c h.before h.behind h.is h.stand).held)

pub nodes-init : goal.nodes-init
nodes-init g c = (refl, λ before behind is stand. moves_none c.args.a before behind c.args.links.now.nodes is)

pub remove-requires : goal.remove-requires
remove-requires g c =
    let n : ℕ = c.node-n.result in
    let h = c.requires.stand in
    let w = next g (goal.at.remove-requires g c).After-node-n h.before h.behind h.is h.stand in
    mem_contains c.nodes.links.nodes n (moves_in w.moving w.once n w.held w.fresh)

pub put_after-requires-clause-held : goal.put_after-requires-clause-held
put_after-requires-clause-held g c =
    let n : ℕ = c.node-n.result in
    let h = c.requires.stand in
    let at = goal.at.put_after-requires-clause-held g c in
    let w = next g at.After-node-n h.before h.behind h.is h.stand in
    let P : Listed → Type 0 = λ z. Contains z.nodes c.nodes.at in
    subst P (sym c.remove.ensures)
    (mem_contains (without n c.nodes.links.nodes) c.nodes.at (moves_at w.moving w.once n w.held w.fresh))

pub put_after-requires-clause-real : goal.put_after-requires-clause-real
put_after-requires-clause-real g c =
    let at = goal.at.put_after-requires-clause-real g c in
    λ e.
    (unique_from_distinct (g.Ix.IndexType.greatest ∷ c.args.links.now.nodes) c.len-count.ensures.distinct).0
    (let M : ℕ → Type 0 = λ z. Mem z c.args.links.now.nodes in subst M e (in_old g at.After-node-n))

pub put_after-requires-clause-absent : goal.put_after-requires-clause-absent
put_after-requires-clause-absent g c =
    let n : ℕ = c.node-n.result in
    let h = c.requires.stand in
    let at = goal.at.put_after-requires-clause-absent g c in
    let w = next g at.After-node-n h.before h.behind h.is h.stand in
    let P : Listed → Type 0 = λ z. Contains z.nodes n → ⊥ in
    subst P (sym c.remove.ensures)
    (λ h. moves_absent w.moving w.once n w.held w.fresh (contains_mem (without n c.nodes.links.nodes) n h))

pub put_after-requires-clause-numbered : goal.put_after-requires-clause-numbered
put_after-requires-clause-numbered g c =
    let at = goal.at.put_after-requires-clause-numbered g c in
    omega (
      arith,
      c.len-count.ensures.within _ (mem_contains c.args.links.now.nodes _ (in_old g at.After-node-n)),
      ap (λ (z : List ℕ). length z) c.nodes.invariant.0,
      ap (λ (z : Listed). length z.labels) c.remove.ensures,
    )

pub nodes-preserved : goal.nodes-preserved
nodes-preserved g c =
    let at = (goal.at.nodes-preserved g c).After-node-n in
    let ns = take c.args.count c.args.work.now.nodes in (
      c.put_after.ensures.labels ∙ (ap (λ (z : Listed). z.labels) c.remove.ensures ∙ c.nodes.invariant.0),
      λ before behind is stand.
          let n : ℕ = c.node-n.result in
          let w = next g at before behind is stand in
          let more : take (c.nodes.i + 1) ns ≡ take c.nodes.i ns ++ n ∷ [] =
          take_more ns c.nodes.i n (read g at).1 ∙ ap (λ (z : ℕ). take c.nodes.i ns ++ z ∷ []) (sym (read g at).0) in
          let P : List ℕ → Type 0 = λ z. Moving c.args.a n z before behind c.put_after.new.self.nodes in
          subst P (sym more) (moves_more w.moving w.once n w.held w.fresh c.put_after.new.self.nodes
          (λ ns ms e. c.put_after.ensures.nodes ns ms (ap (λ (z : Listed). z.nodes) c.remove.ensures ∙ e))),
    )

pub returns : goal.returns
returns g c =
    record {
      moved = λ before behind is stand.
          let s = c.nodes.invariant.1 before behind is stand in
          let all : take c.nodes.i (take c.args.count c.args.work.now.nodes) ≡ (take c.args.count c.args.work.now.nodes) =
          take_all c.nodes.i (take c.args.count c.args.work.now.nodes) (omega (
            arith,
            c.nodes-test.false,
            length-take-le c.args.count c.args.work.now.nodes c.requires.within,
          )) in
          s.is ∙ ap (λ (z : List ℕ). without_all z before ++ c.args.a ∷ (z ++ behind)) all;
      labels = c.nodes.invariant.0;
    }

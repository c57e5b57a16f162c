use Rattle.std.proofs.Common.{◌≡◌, inl, inr, ℕ, List, map, Some, None, sym, ap, subst, ◌∙◌, arith}
use Rattle.std.proofs.lemmas.Bool.{false≢true}
use Rattle.daggy_base.specs.Graph.{slot}
use Rattle.daggy_base.specs.Removal.{without, renamed}
use Rattle.std.specs.List.{Contains, filter_map}
use Rattle.daggy_base.proofs.Lists.{mem_contains, contains_mem}
use Rattle.daggy_order.proofs.RenumberedNodes.{slot_read, names_to, named_start, named_end, named_past, named_step}
use Rattle.daggy_order.proofs.RenumberedNodes.{named_gone, name_free}
use Rattle.daggy_order.proofs.order.Order.rename_all.Goals as goal
use Rattle.daggy_order.proofs.order.Order.rename_all.Goals.{then-holds+in-Some, then-holds+in-None, else-holds}

pub nodes-init : goal.nodes-init
nodes-init g c = named_start c.args.names.now c.args.self.now

pub nodes-preserved : goal.nodes-preserved
nodes-preserved g c =
    let names = c.args.names.now in
    let old = c.args.self.now in
    let i = c.nodes.i in
    let same = c.nodes.invariant in
    elim c.if-holds.branch [
      | then-holds+in-Some w ↦ (
          let is : slot names i ≡ Some w.in-Some.name =
          slot_read names i _ (Some w.in-Some.name) c.nodes-test.true w.in-Some.is in
          w.self-is
          ∙ w.rename.ensures
          ∙ ap (λ n. map (renamed n (g.Ix.IndexType.number w.node.result)) c.nodes.self) c.new-n.ensures.number
          ∙ ap (λ k. map (renamed i k) c.nodes.self) w.node.ensures.value
          ∙ ap (map (renamed i w.in-Some.name)) same
          ∙ named_step names old i c.requires.lower c.requires.distinct w.in-Some.name is
          )
      | then-holds+in-None w ↦ (
          let is : slot names i ≡ None = slot_read names i _ None c.nodes-test.true w.in-None.is in
          w.self-is
          ∙ w.remove.ensures
          ∙ ap (λ n. without n c.nodes.self) c.new-n.ensures.number
          ∙ ap (without i) same
          ∙ named_gone names old i c.requires.lower c.requires.distinct is
          )
      | else-holds w ↦ (
          let P : List ℕ → Type 0 = λ xs. Contains xs i in
          let Q : ℕ → Type 0 = λ n. Contains c.nodes.self n in
          w.self-is ∙ same
          ∙ named_past names old i (λ m.
          let stands : Contains c.nodes.self (g.Ix.IndexType.number c.new-n.result) =
          subst Q (sym c.new-n.ensures.number)
          (subst P (sym same) (mem_contains (filter_map (names_to names i) old) i m)) in
          false≢true (sym w.if-holds.false ∙ c.holds.ensures.1 stands))
          )
    ]

pub rename-requires-clause-free : goal.rename-requires-clause-free
rename-requires-clause-free g c =
    let names = c.args.names.now in
    let old = c.args.self.now in
    let name = c.in-Some.name in
    let is : slot names c.nodes.i ≡ Some name =
    slot_read names c.nodes.i _ (Some name) c.nodes-test.true c.in-Some.is in
    let free = name_free names old c.nodes.i c.requires.lower c.requires.distinct name is in
    let P : List ℕ → Type 0 = λ xs. Contains xs name in
    let Q : ℕ → Type 0 = λ k. Contains c.nodes.self k in
    elim free [
      | inl apart ↦
          inl (λ h. apart (contains_mem (filter_map (names_to names c.nodes.i) old) name
          (subst P c.nodes.invariant (subst Q c.node.ensures.value h))))
      | inr e ↦ inr (c.node.ensures.value ∙ (e ∙ sym c.new-n.ensures.number))
    ]

pub rename-requires-clause-lower : goal.rename-requires-clause-lower
rename-requires-clause-lower g c =
    let names = c.args.names.now in
    let is : slot names c.nodes.i ≡ Some c.in-Some.name =
    slot_read names c.nodes.i _ (Some c.in-Some.name) c.nodes-test.true c.in-Some.is in
    omega (arith, c.requires.lower c.nodes.i c.in-Some.name is)

pub returns : goal.returns
returns g c =
    c.nodes.invariant
    ∙ named_end c.args.names.now c.args.self.now c.nodes.i
    (λ n m. omega (arith, c.requires.covered n (mem_contains c.args.self.now n m)))

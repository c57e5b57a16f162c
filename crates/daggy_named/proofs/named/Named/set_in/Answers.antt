use Rattle.std.proofs.Common.{◌≡◌, ◌∙◌, List, length, map, reverse, vec_len, sym, ap, subst, refl, arith}
use Rattle.std.proofs.lemmas.List.{length-map}
use Rattle.std.specs.List.{All, zip}
use Rattle.daggy_base.specs.Adding.{NewEdge}
use Rattle.daggy_base.specs.Errors.{parents_items_of}
use Rattle.daggy_base.specs.Graph.{Graph, HasNode}
use Rattle.daggy_base.specs.declared.kind.Kind.TheVariants.{Stable}
use Rattle.daggy_guard.specs.Parents.{edges_to, HasParentsSet, KeepsOtherEdges}
use Rattle.daggy_named.specs.Dependencies.{parents_by}
use Rattle.daggy_named.proofs.DependenciesSet.{parents_are, as_many_named, as_many_paired, firsts_hold, items_again}
use Rattle.daggy_named.proofs.DependenciesSet.{not_told_if_ok, told_by, cycle_same, full_same, edges_same}
use Rattle.daggy_named.proofs.DependenciesSet.{parents_returned, cycle_cause, full_cause}
use Rattle.daggy_named.proofs.named.Named.set_in.Given.{Over}
use Rattle.daggy_named.proofs.named.Named.set_in.Goals.{After-pair_up}
use Rattle.daggy_named.proofs.named.Named.set_in.Goals as goal

module _ (g : Over) (c : After-pair_up g) where
  paired : c.pair_up.new.to.items ≡ zip c.args.room.nodes.items (map (λ x. x.1) c.args.items.items)
  paired =
      c.pair_up.ensures.paired ∙ ap (λ nodes. zip nodes (map (λ x. x.1) c.args.items.items)) c.as_slice.ensures.value

  named : map (λ x. (g.Ix.IndexType.number x.0, x.1)) c.pair_up.new.to.items
      ≡ parents_by g.Q.Equivalent.equivalent c.args.self.now.keys c.args.items.items
  named =
      ap (map (λ x. (g.Ix.IndexType.number x.0, x.1))) paired
      ∙ parents_are g.Q.Equivalent.equivalent c.args.self.now.keys g.Ix.IndexType.number c.args.items.items
      c.args.room.nodes.items c.requires.named

  many : length c.args.room.nodes.items ≡ length c.args.items.items
  many = as_many_named _ g.Ix.IndexType.number c.args.items.items c.args.room.nodes.items c.requires.named

  long : vec_len c.pair_up.new.to ≡ vec_len c.args.items
  long =
      omega (
        arith,
        c.pair_up.new.to.ok.0,
        c.args.items.ok.0,
        as_many_paired c.args.items.items c.args.room.nodes.items many c.pair_up.new.to.items paired,
      )

pub set_parents-requires-clause-parents : goal.set_parents-requires-clause-parents
set_parents-requires-clause-parents g c =
    let at = (goal.at.set_parents-requires-clause-parents g c).After-pair_up in
    let number = g.Ix.IndexType.number in
    let nodes = c.args.room.nodes.items in
    let P : Graph g.row.N.Denot g.row.E.Denot → Type 0 = λ z. All (λ n. HasNode z (number n)) nodes in
    let Q : List (g.row.Ix.Denot × g.row.E.Denot) → Type 0 = λ z.
    All (λ x. HasNode c.self.inside.dag.graph (number x.0)) z in
    subst Q (sym (paired g at)) (firsts_hold (λ n. HasNode c.self.inside.dag.graph (number n)) nodes
    (map (λ x. x.1) c.args.items.items) (subst P (sym (ap (λ z. z.graph) c.self.view_is)) c.requires.exist))

pub returns-in_default-clause-cycle : goal.returns-in_default-clause-cycle
returns-in_default-clause-cycle g c =
    let at = (goal.at.returns-in_default-clause-cycle g c).After-pair_up in
    not_told_if_ok c.in_default.is
    (cycle_same g.Ix.IndexType.number (g.Ix.IndexType.number c.args.n) (ap (λ z. z.graph) c.self.view_is) c.pair_up.new.to.items _ (named g at)
    c.set_parents.ensures.cycle)

pub returns-in_default-clause-full : goal.returns-in_default-clause-full
returns-in_default-clause-full g c =
    let at = (goal.at.returns-in_default-clause-full g c).After-pair_up in
    not_told_if_ok c.in_default.is
    (full_same g.Ix.IndexType.number (g.Ix.IndexType.number c.args.n) (ap (λ z. z.graph) c.self.view_is) c.pair_up.new.to.items _ (named g at)
    (long g at) c.set_parents.ensures.full)

pub returns-in_default-clause-set : goal.returns-in_default-clause-set
returns-in_default-clause-set g c =
    let at = (goal.at.returns-in_default-clause-set g c).After-pair_up in
    let n = g.Ix.IndexType.number c.args.n in
    let new = c.set_parents.new.self.graph in
    let P : Graph g.row.N.Denot g.row.E.Denot → List (NewEdge g.row.E.Denot) → Type 0 = λ z edges.
    HasParentsSet Stable n edges z new in
    subst (λ z. P z (edges_to (λ u. u) n
    (parents_by g.Q.Equivalent.equivalent c.args.self.now.keys c.args.items.items))) (ap (λ z. z.graph) c.self.view_is)
    (subst (P c.self.inside.dag.graph)
    (edges_same g.Ix.IndexType.number n (ap (λ z. z.graph) c.self.view_is) c.pair_up.new.to.items _ (named g at)) c.in_default.ensures.set)

pub returns-in_default-clause-parents : goal.returns-in_default-clause-parents
returns-in_default-clause-parents g c =
    let at = (goal.at.returns-in_default-clause-parents g c).After-pair_up in
    c.in_default.ensures.parents ∙ ap reverse (named g at)

pub returns-in_default-clause-keeps : goal.returns-in_default-clause-keeps
returns-in_default-clause-keeps g c =
    let at = (goal.at.returns-in_default-clause-keeps g c).After-pair_up in
    let P : Graph g.row.N.Denot g.row.E.Denot → Type 0 = λ z.
    KeepsOtherEdges (g.Ix.IndexType.number c.args.n) z c.set_parents.new.self.graph in
    subst P (ap (λ z. z.graph) c.self.view_is) (c.in_default.ensures.keeps refl)

pub refusal-requires-clause-as_many : goal.refusal-requires-clause-as_many
refusal-requires-clause-as_many g c =
    let at = (goal.at.refusal-requires-clause-as_many g c).After-pair_up in
    let items = c.args.items.items in
    let back = parents_items_of c.in-Err.error in
    omega (
      arith,
      ap length (c.as_slice-2.ensures.value ∙ c.requires.keys),
      length-map items (λ (x : g.row.Q.Denot × g.row.E.Denot). x.0),
      back.ok.0,
      ap length (parents_returned c.pair_up.new.to c.in-Err.error c.in-Err.ensures.refusal),
      as_many_paired items c.args.room.nodes.items (many g at) c.pair_up.new.to.items (paired g at),
    )

pub refusal-requires-clause-room : goal.refusal-requires-clause-room
refusal-requires-clause-room g c =
    let at = (goal.at.refusal-requires-clause-room g c).After-pair_up in
    let back = parents_items_of c.in-Err.error in
    omega (
      arith,
      back.ok.0,
      ap length (parents_returned c.pair_up.new.to c.in-Err.error c.in-Err.ensures.refusal),
      as_many_paired c.args.items.items c.args.room.nodes.items (many g at) c.pair_up.new.to.items (paired g at),
      c.args.items.ok.0,
      c.args.items.ok.1,
      c.pair_up.ensures.capacity,
    )

pub returns-clause-cycle : goal.returns-clause-cycle
returns-clause-cycle g c =
    let at = (goal.at.returns-clause-cycle g c).After-pair_up in
    told_by c.refusal.ensures.cause
    (cycle_cause c.pair_up.new.to c.in-Err.error c.in-Err.ensures.refusal c.set_parents.result c.in-Err.is
    (cycle_same g.Ix.IndexType.number (g.Ix.IndexType.number c.args.n) (ap (λ z. z.graph) c.self.view_is) c.pair_up.new.to.items _ (named g at)
    c.set_parents.ensures.cycle))

pub returns-clause-full : goal.returns-clause-full
returns-clause-full g c =
    let at = (goal.at.returns-clause-full g c).After-pair_up in
    told_by c.refusal.ensures.cause
    (full_cause c.pair_up.new.to c.in-Err.error c.in-Err.ensures.refusal c.set_parents.result c.in-Err.is
    (full_same g.Ix.IndexType.number (g.Ix.IndexType.number c.args.n) (ap (λ z. z.graph) c.self.view_is) c.pair_up.new.to.items _ (named g at)
    (long g at) c.set_parents.ensures.full))

pub returns-clause-returned : goal.returns-clause-returned
returns-clause-returned g c =
    let at = (goal.at.returns-clause-returned g c).After-pair_up in
    c.refusal.ensures.returned
    ∙ items_again c.args.items.items c.args.room.nodes.items (many g at) c.as_slice-2.result.now
    (parents_items_of c.in-Err.error).items (c.as_slice-2.ensures.value ∙ c.requires.keys)
    (parents_returned c.pair_up.new.to c.in-Err.error c.in-Err.ensures.refusal ∙ paired g at)

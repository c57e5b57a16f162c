use Rattle.std.proofs.Common.{◌≡◌, ◌∙◌, ◌++◌, ◌∷◌, [], sym, ap, subst, length}
use Rattle.std.specs.Prelude.{IfNone, IfSome}
use Rattle.daggy_traversal.specs.Postorder.{Postorder, GivesLast, AreLeft}
use Rattle.daggy_traversal.proofs.Postorder.{Winds, winds, post_kept, post_few}
use Rattle.daggy_traversal.proofs.Postorder.{step_far, step_after, step_acyclic, step_once, step_none, step_on}
use Rattle.daggy_traversal.proofs.post_order.DfsPostOrder.next.Given.{Over}
use Rattle.daggy_traversal.proofs.post_order.DfsPostOrder.next.Goals.{After-descend}
use Rattle.daggy_traversal.proofs.post_order.DfsPostOrder.next.Goals as goal

-- what was said of the fields, of what they are seen as
gives : (g : Over) (c : After-descend g) → IfSome c.descend.result (λ n. GivesLast c.args.self.now.dir
    (g.S.EdgeSource.graph c.args.graph.now) c.args.self.now.given c.args.self.now.path c.descend.new.path.items
    (g.Ix.IndexType.number n))
gives g c =
    let P : Postorder → Type 0 = λ z. IfSome c.descend.result (λ n. GivesLast z.dir
    (g.S.EdgeSource.graph c.args.graph.now) z.given z.path c.descend.new.path.items (g.Ix.IndexType.number n)) in
    subst P c.self.view_is c.descend.ensures.next

gave : (g : Over) (c : After-descend g) → IfSome c.descend.result (λ n. c.descend.new.given.nodes
    ≡ c.args.self.now.given ++ g.Ix.IndexType.number n ∷ [])
gave g c =
    let P : Postorder → Type 0 = λ z. IfSome c.descend.result (λ n. c.descend.new.given.nodes
    ≡ z.given ++ g.Ix.IndexType.number n ∷ []) in
    subst P c.self.view_is c.descend.ensures.given

pub returns-clause-none : goal.returns-clause-none
returns-clause-none g c =
    let P : Postorder → Type 0 = λ z. IfNone c.descend.result (z.path ≡ []) in
    step_none c.invariant.ensures.well_formed (winds c.requires) g.Ix.IndexType.number c.descend.new.path.items
    c.descend.new.given.nodes c.descend.result (gives g c)
    (subst P c.self.view_is c.descend.ensures.over) (gave g c) c.descend.ensures.marked.once

pub returns-clause-reached : goal.returns-clause-reached
returns-clause-reached g c =
    step_far c.invariant.ensures.well_formed (winds c.requires) g.Ix.IndexType.number c.descend.new.path.items
    c.descend.new.given.nodes c.descend.result (gives g c)

pub returns-clause-once : goal.returns-clause-once
returns-clause-once g c =
    step_once c.invariant.ensures.well_formed (winds c.requires) g.Ix.IndexType.number c.descend.new.path.items
    c.descend.new.given.nodes c.descend.result (gives g c) (gave g c)
    c.descend.ensures.marked.once

pub returns-clause-after : goal.returns-clause-after
returns-clause-after g c =
    step_after c.invariant.ensures.well_formed (winds c.requires) g.Ix.IndexType.number c.descend.new.path.items
    c.descend.new.given.nodes c.descend.result (gives g c)

pub returns-clause-acyclic : goal.returns-clause-acyclic
returns-clause-acyclic g c =
    λ acyclic.
    step_acyclic c.invariant.ensures.well_formed (winds c.requires) g.Ix.IndexType.number c.descend.new.path.items
    c.descend.new.given.nodes c.descend.result (gives g c) acyclic

-- the walk after it gave a node, if there was one
on : (g : Over) (c : After-descend g) → Winds (g.S.EdgeSource.graph c.args.graph.now) record {
  start = g.Ix.IndexType.number c.self.inside.start;
  dir = c.self.inside.dir;
  given = c.descend.new.given.nodes;
  path = c.descend.new.path.items;
  cursors = c.descend.new.cursors.items;
  bound = length c.descend.new.met;
}
on g c =
    let graph = g.S.EdgeSource.graph c.args.graph.now in
    let d = c.descend in
    let given = c.descend.new.given.nodes in
    let path = c.descend.new.path.items in
    let cursors = c.descend.new.cursors.items in
    let K : Postorder → Type 0 = λ z. IfNone c.descend.result (given ≡ z.given) in
    let H : Postorder → Type 0 = λ z. IfNone c.descend.result (path ≡ z.path) in
    let L : Postorder → Type 0 = λ z. AreLeft z.dir graph (given ++ path) path cursors in
    let P : Postorder → Type 0 = λ z. Winds graph record {
      start = z.start;
      dir = z.dir;
      given = given;
      path = path;
      cursors = cursors;
      bound = length c.descend.new.met;
    } in
    subst P (sym c.self.view_is) (step_on c.invariant.ensures.well_formed (winds c.requires) g.Ix.IndexType.number path given
    c.descend.result (gives g c) (gave g c) (subst K c.self.view_is c.descend.ensures.kept)
    (subst H c.self.view_is c.descend.ensures.path_kept) c.descend.ensures.marked.once
    (c.descend.ensures.bound ∙ ap (λ (z : Postorder). z.bound) c.self.view_is)
    (subst L c.self.view_is c.descend.ensures.left))

pub returns-clause-under_way : goal.returns-clause-under_way
returns-clause-under_way g c = post_kept (on g c)

pub returns-clause-few : goal.returns-clause-few
returns-clause-few g c = post_few (on g c)

use Rattle.std.proofs.Common.{◌≡◌, ◌∙◌, Some, refl, sym, ap, subst, arith, length, Contains, ◌↔◌}
use Rattle.std.specs.Prelude.{IsNone}
use Rattle.std.specs.Option.{option_map}
use Rattle.daggy_base.proofs.OutEdgesRead.{below_bound}
use Rattle.daggy_traversal.specs.OldestFirst.{OldestFirst, IsOldestFirst, next_oldest}
use Rattle.daggy_traversal.specs.Traversal.{AreAllGiven, LeadsFar}
use Rattle.daggy_traversal.proofs.OldestFirst.{oldest_few, oldest_next, oldest_none, oldest_reached, oldest_new}
use Rattle.daggy_traversal.proofs.OldestFirst.{oldest_ends, neighbors_fit, oldest_goes_on}
use Rattle.daggy_traversal.proofs.dfs_oldest_first.DfsOldestFirst.next.Goals as goal

pub pop_new-requires-clause-low : goal.pop_new-requires-clause-low
pop_new-requires-clause-low g c =
    let graph = g.S.EdgeSource.graph c.args.graph.now in
    let w = c.invariant.ensures.well_formed in
    let walk = subst (λ (z : OldestFirst). IsOldestFirst graph z) (sym c.self.view_is) c.requires in
    λ n among. omega (arith, below_bound graph.nodes n (walk.present n among), walk.bounded)

pub returns-in_err-n-clause-next : goal.returns-in_err-n-clause-next
returns-in_err-n-clause-next g c =
    let graph = g.S.EdgeSource.graph c.args.graph.now in
    let w = c.invariant.ensures.well_formed in
    let walk = subst (λ (z : OldestFirst). IsOldestFirst graph z) (sym c.self.view_is) c.requires in
    let number = g.Ix.IndexType.number in
    subst (λ (z : OldestFirst). option_map number c.from_residual.result ≡ next_oldest graph z.dir z.start z.given)
    c.self.view_is (oldest_next w walk number c.from_residual.result (ap (option_map number) c.from_residual.ensures ∙ c.in_err-n.ensures.next))

pub returns-in_err-n-clause-none : goal.returns-in_err-n-clause-none
returns-in_err-n-clause-none g c =
    let graph = g.S.EdgeSource.graph c.args.graph.now in
    let w = c.invariant.ensures.well_formed in
    let walk = subst (λ (z : OldestFirst). IsOldestFirst graph z) (sym c.self.view_is) c.requires in
    let number = g.Ix.IndexType.number in
    subst (λ (z : OldestFirst). IsNone c.from_residual.result ↔ AreAllGiven graph z.dir z.start z.given)
    c.self.view_is (oldest_none w walk number c.from_residual.result (ap (option_map number) c.from_residual.ensures ∙ c.in_err-n.ensures.next))

pub returns-in_err-n-clause-few : goal.returns-in_err-n-clause-few
returns-in_err-n-clause-few g c =
    let graph = g.S.EdgeSource.graph c.args.graph.now in
    let w = c.invariant.ensures.well_formed in
    let walk = subst (λ (z : OldestFirst). IsOldestFirst graph z) (sym c.self.view_is) c.requires in
    omega (arith, oldest_few w walk, ap (λ z. length z) c.in_err-n.ensures.kept)

pub returns-in_err-n-clause-under_way : goal.returns-in_err-n-clause-under_way
returns-in_err-n-clause-under_way g c =
    let graph = g.S.EdgeSource.graph c.args.graph.now in
    let w = c.invariant.ensures.well_formed in
    let walk = subst (λ (z : OldestFirst). IsOldestFirst graph z) (sym c.self.view_is) c.requires in
    oldest_ends w walk c.in_err-n.ensures.next refl refl c.in_err-n.ensures.kept c.in_err-n.ensures.over c.in_err-n.ensures.bound c.in_err-n.ensures.room

pub push_neighbors-requires : goal.push_neighbors-requires
push_neighbors-requires g c =
    let graph = g.S.EdgeSource.graph c.args.graph.now in
    let w = c.invariant.ensures.well_formed in
    let walk = subst (λ (z : OldestFirst). IsOldestFirst graph z) (sym c.self.view_is) c.requires in
    record {
      room = omega (
        arith,
        neighbors_fit w walk c.in_ok-n.ensures.next c.pop_new.new.stack.items c.in_ok-n.ensures.left
            c.in_ok-n.ensures.among c.in_ok-n.ensures.fewer,
        c.in_ok-n.ensures.room,
      );
    }

pub returns-clause-next : goal.returns-clause-next
returns-clause-next g c =
    let graph = g.S.EdgeSource.graph c.args.graph.now in
    let w = c.invariant.ensures.well_formed in
    let walk = subst (λ (z : OldestFirst). IsOldestFirst graph z) (sym c.self.view_is) c.requires in
    let number = g.Ix.IndexType.number in
    subst (λ (z : OldestFirst). option_map number (Some c.in_ok-n.n) ≡ next_oldest graph z.dir z.start z.given)
    c.self.view_is (oldest_next w walk number (Some c.in_ok-n.n) c.in_ok-n.ensures.next)

pub returns-clause-none : goal.returns-clause-none
returns-clause-none g c =
    let graph = g.S.EdgeSource.graph c.args.graph.now in
    let w = c.invariant.ensures.well_formed in
    let walk = subst (λ (z : OldestFirst). IsOldestFirst graph z) (sym c.self.view_is) c.requires in
    let number = g.Ix.IndexType.number in
    subst (λ (z : OldestFirst). IsNone (Some c.in_ok-n.n) ↔ AreAllGiven graph z.dir z.start z.given)
    c.self.view_is (oldest_none w walk number (Some c.in_ok-n.n) c.in_ok-n.ensures.next)

pub returns-clause-reached : goal.returns-clause-reached
returns-clause-reached g c =
    let graph = g.S.EdgeSource.graph c.args.graph.now in
    let w = c.invariant.ensures.well_formed in
    let walk = subst (λ (z : OldestFirst). IsOldestFirst graph z) (sym c.self.view_is) c.requires in
    subst (λ (z : OldestFirst). LeadsFar z.dir graph z.start (g.Ix.IndexType.number c.in_ok-n.n)) c.self.view_is
    (oldest_reached w walk c.in_ok-n.ensures.next)

pub returns-clause-once : goal.returns-clause-once
returns-clause-once g c =
    let graph = g.S.EdgeSource.graph c.args.graph.now in
    let w = c.invariant.ensures.well_formed in
    let walk = subst (λ (z : OldestFirst). IsOldestFirst graph z) (sym c.self.view_is) c.requires in
    subst (λ (z : OldestFirst). Contains z.given (g.Ix.IndexType.number c.in_ok-n.n) → ⊥) c.self.view_is
    (oldest_new w walk c.in_ok-n.ensures.next)

pub returns-clause-few : goal.returns-clause-few
returns-clause-few g c =
    let graph = g.S.EdgeSource.graph c.args.graph.now in
    let w = c.invariant.ensures.well_formed in
    let walk = subst (λ (z : OldestFirst). IsOldestFirst graph z) (sym c.self.view_is) c.requires in
    oldest_few w (oldest_goes_on w walk c.in_ok-n.ensures.next c.pop_new.new.stack.items c.in_ok-n.ensures.left
    c.in_ok-n.ensures.among c.in_ok-n.ensures.fewer refl refl c.in_ok-n.ensures.given
    c.push_neighbors.ensures.pushed c.in_ok-n.ensures.bound (c.push_neighbors.ensures.capacity ∙ c.in_ok-n.ensures.room))

pub returns-clause-under_way : goal.returns-clause-under_way
returns-clause-under_way g c =
    let graph = g.S.EdgeSource.graph c.args.graph.now in
    let w = c.invariant.ensures.well_formed in
    let walk = subst (λ (z : OldestFirst). IsOldestFirst graph z) (sym c.self.view_is) c.requires in
    oldest_goes_on w walk c.in_ok-n.ensures.next c.pop_new.new.stack.items c.in_ok-n.ensures.left
    c.in_ok-n.ensures.among c.in_ok-n.ensures.fewer refl refl c.in_ok-n.ensures.given
    c.push_neighbors.ensures.pushed c.in_ok-n.ensures.bound (c.push_neighbors.ensures.capacity ∙ c.in_ok-n.ensures.room)

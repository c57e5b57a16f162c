use Rattle.std.proofs.Common.{◌≡◌, ◌∙◌, ◌++◌, ◌∷◌, [], ℕ, List, refl, sym, ap, subst, arith, length, false, true, Contains}
use Rattle.std.specs.Prelude.{IfNone, IfSome}
use Rattle.std.specs.Option.{option_map}
use Rattle.std.proofs.lemmas.Bool.{false≢true}
use Rattle.std.proofs.lemmas.List.{length_push}
use Rattle.daggy_base.specs.Graph.{list_at}
use Rattle.daggy_base.specs.Cursor.{first_of}
use Rattle.daggy_base.proofs.Lists.{Contains-nil}
use Rattle.daggy_base.proofs.OutEdgesRead.{below_bound}
use Rattle.daggy_traversal.proofs.Depth.{dives, dived, depth_kept, depth_few, next_found, step_found}
use Rattle.daggy_traversal.specs.Traversal.{are_found, first_new, neighbors, without_old}
use Rattle.daggy_traversal.specs.Depth.{Depth, IsDepthFirst, ahead}
use Rattle.daggy_traversal.proofs.Depth.{next_is_start, depth_left, depth_on, start_left}
use Rattle.daggy_traversal.proofs.Depth.{step_next, step_far, step_once, step_none, step_on}
use Rattle.daggy_traversal.proofs.Marks.{marked_more, marked_by}
use Rattle.daggy_traversal.proofs.dfs.Dfs.next.Given.{Over}
use Rattle.daggy_traversal.proofs.dfs.Dfs.next.Goals.{Then-self, After-push_reserved, After-advance}
use Rattle.daggy_traversal.proofs.dfs.Dfs.next.Goals as goal

-- the start is still to come
waits : (g : Over) (c : Then-self g) → c.args.self.now.waits ≡ true
waits g c = ap (λ (z : Depth). z.waits) (sym c.self.view_is) ∙ c.if-self.true

-- the start was given
begun : (g : Over) (c : After-advance g) → c.args.self.now.waits ≡ false
begun g c = ap (λ (z : Depth). z.waits) (sym c.self.view_is) ∙ c.if-self.false

-- what the cursors found
found : (g : Over) (c : After-advance g) → option_map g.Ix.IndexType.number c.advance.result
    ≡ first_new c.args.self.now.given
    (ahead c.args.self.now.dir (g.S.EdgeSource.graph c.args.graph.now) c.args.self.now.cursors)
found g c =
    let P : Depth → Type 0 = λ z. option_map g.Ix.IndexType.number c.advance.result
    ≡ first_new z.given (ahead z.dir (g.S.EdgeSource.graph c.args.graph.now) z.cursors) in
    subst P c.self.view_is c.advance.ensures.next

pub visit-new-requires : goal.visit-new-requires
visit-new-requires g c =
    let exists = (c.requires.first (waits g (goal.at.visit-new-requires g c).Then-self)).0 in
    let low = below_bound (g.S.EdgeSource.graph c.args.graph.now).nodes c.args.self.now.start exists in
    omega (
      arith,
      low,
      c.requires.room,
      ap (λ (z : Depth). z.start) c.self.view_is,
      ap (λ (z : Depth). z.bound) c.self.view_is,
    )

pub invariant_of-self : goal.invariant_of-self
invariant_of-self g c =
    let start = g.Ix.IndexType.number c.self.inside.start in
    let given = c.self.inside.given.nodes in
    let none : given ≡ [] =
    ap (λ (z : Depth). z.given) c.self.view_is
    ∙ (c.requires.first (waits g (goal.at.invariant_of-self g c).Then-self)).1 in
    let P : List ℕ → Type 0 = λ z. Contains z start in
    let marked = c.self.invariant.0 in (
      marked_by refl (c.push.ensures ∙ ap (λ z. given ++ z ∷ []) c.index.ensures.value)
          (marked_more marked start c.visit-new.ensures.visited
          (λ h. Contains-nil start (subst P none ((marked.exact start).0 h)))),
      omega (arith, c.self.invariant.1, c.visit-new.ensures.bound, c.push_reserved.ensures.capacity),
    )

pub returns-then-self-clause-none : goal.returns-then-self-clause-none
returns-then-self-clause-none g c = (
  λ h. absurd (false≢true (sym h)),
  λ all. absurd (depth_left c.invariant.ensures.well_formed (dives c.invariant.ensures.well_formed c.requires) c.args.self.now.start
      (next_is_start c.invariant.ensures.well_formed (dives c.invariant.ensures.well_formed c.requires)
      (waits g (goal.at.returns-then-self-clause-none g c).Then-self)) all),
)

-- the walk after it gave the start
first_way : (g : Over) (c : After-push_reserved g) → IsDepthFirst (g.S.EdgeSource.graph c.args.graph.now)
    (dived (g.Ix.IndexType.number c.self.inside.start) c.self.inside.dir c.push.new.self.nodes false
    c.push_reserved.new.self.items (length c.visit-new.new.self))
first_way g c =
    let graph = g.S.EdgeSource.graph c.args.graph.now in
    let is : c.args.self.now.waits ≡ true = ap (λ (z : Depth). z.waits) (sym c.self.view_is) ∙ c.if-self.true in
    let w = c.invariant.ensures.well_formed in
    let s = dives w c.requires in
    let d = c.args.self.now in
    let start_is = ap (λ (z : Depth). z.start) c.self.view_is in
    let gave = c.push.ensures ∙ ap (λ (z : Depth). z.given ++ c.index.result ∷ []) c.self.view_is in
    let gave_start = gave ∙ ap (λ z. d.given ++ z ∷ []) (c.index.ensures.value ∙ start_is) in
    let entered =
    c.push_reserved.ensures.items ∙ ap (λ (z : Depth). z.cursors ++ c.of_edge.result ∷ []) c.self.view_is in
    let first = c.first_edge-first.ensures ∙ ap (λ (z : Depth). first_of g.Ix.IndexType.greatest
    (list_at z.dir graph z.start)) c.self.view_is in
    let left = start_left w s is gave (c.index.ensures.value ∙ start_is) entered c.of_edge.ensures first in
    let on = depth_on w s d.start (next_is_start w s is) start_is (ap (λ (z : Depth). z.dir) c.self.view_is)
    (c.visit-new.ensures.bound ∙ ap (λ (z : Depth). z.bound) c.self.view_is) refl gave_start (omega (
      arith,
      ap (λ z. length z) entered,
      ap (λ z. length z) gave,
      length_push d.cursors c.of_edge.result,
      length_push d.given c.index.result,
      c.requires.few,
    )) left in
    let F : Depth → Type 0 = λ z. are_found z.dir graph z.start [] c.push.new.self.nodes ≡ true in
    let Q : List ℕ → Type 0 = λ z. are_found d.dir graph d.start [] z ≡ true in
    depth_kept on (subst F (sym c.self.view_is) (subst Q (sym gave_start)
    (next_found c.requires d.start (next_is_start w s is))))

pub returns-then-self-clause-under_way : goal.returns-then-self-clause-under_way
returns-then-self-clause-under_way g c = first_way g c

pub returns-then-self-clause-few : goal.returns-then-self-clause-few
returns-then-self-clause-few g c = depth_few c.invariant.ensures.well_formed (first_way g c)

pub returns-clause-next : goal.returns-clause-next
returns-clause-next g c =
    step_next c.invariant.ensures.well_formed (dives c.invariant.ensures.well_formed c.requires) (begun g c) g.Ix.IndexType.number c.advance.result (found g c)

pub returns-clause-none : goal.returns-clause-none
returns-clause-none g c =
    step_none c.invariant.ensures.well_formed (dives c.invariant.ensures.well_formed c.requires) (begun g c) g.Ix.IndexType.number c.advance.result (found g c)

pub returns-clause-reached : goal.returns-clause-reached
returns-clause-reached g c =
    step_far c.invariant.ensures.well_formed (dives c.invariant.ensures.well_formed c.requires) (begun g c) g.Ix.IndexType.number c.advance.result (found g c)

pub returns-clause-once : goal.returns-clause-once
returns-clause-once g c =
    step_once c.invariant.ensures.well_formed (dives c.invariant.ensures.well_formed c.requires) (begun g c) g.Ix.IndexType.number c.advance.result (found g c)

-- the walk after the cursors moved on
way : (g : Over) (c : After-advance g) → IsDepthFirst (g.S.EdgeSource.graph c.args.graph.now)
    (dived (g.Ix.IndexType.number c.self.inside.start) c.self.inside.dir c.advance.new.given.nodes c.self.inside.waits
    c.advance.new.cursors.items (length c.advance.new.met))
way g c =
    let graph = g.S.EdgeSource.graph c.args.graph.now in
    let w = c.invariant.ensures.well_formed in
    let s = dives w c.requires in
    let number = g.Ix.IndexType.number in
    let e = c.advance.ensures in
    let given = c.advance.new.given.nodes in
    let cursors = c.advance.new.cursors.items in
    let G : Depth → Type 0 = λ z. IfSome c.advance.result (λ a. given ≡ z.given ++ number a ∷ []) in
    let K : Depth → Type 0 = λ z. IfNone c.advance.result (given ≡ z.given) in
    let L : Depth → Type 0 = λ z. IfSome c.advance.result (λ a. without_old given (ahead z.dir graph cursors)
    ≡ without_old given (neighbors z.dir graph (number a) ++ ahead z.dir graph z.cursors)) in
    let P : Depth → Type 0 = λ z. IsDepthFirst graph record {
      start = z.start;
      dir = z.dir;
      given = given;
      waits = z.waits;
      cursors = cursors;
      bound = length c.advance.new.met;
    } in
    let gave = subst G c.self.view_is e.given in
    let kept = subst K c.self.view_is e.kept in
    subst P (sym c.self.view_is) (depth_kept (step_on w s (begun g c) number c.advance.result
    (found g c) given cursors (e.bound ∙ ap (λ (z : Depth). z.bound) c.self.view_is)
    gave kept (subst L c.self.view_is e.left) e.over e.few)
    (step_found c.requires number c.advance.result (step_next w s (begun g c) number c.advance.result (found g c))
    given gave kept))

pub returns-clause-under_way : goal.returns-clause-under_way
returns-clause-under_way g c = way g c

pub returns-clause-few : goal.returns-clause-few
returns-clause-few g c = depth_few c.invariant.ensures.well_formed (way g c)

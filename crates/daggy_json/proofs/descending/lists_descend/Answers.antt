use Rattle.std.proofs.Common.{refl, arith}
use Rattle.std.proofs.lemmas.Bool.{false≢true}
use Rattle.daggy_base.proofs.OutEdgesRead.{below_bound}
use Rattle.daggy_base.proofs.PathsWithNode.{bound_low}
use Rattle.daggy_json.proofs.DescendingLists.{lists_descend_from, descends_in}
use Rattle.daggy_json.proofs.descending.lists_descend.Goals as goal

pub new-requires : goal.new-requires
new-requires g c =
    omega (
      arith,
      c.edges-test.true,
      c.edge_bound-bound.ensures,
      bound_low (g.S.EdgeSource.graph c.args.store.now).edges,
      c.invariant.ensures.well_formed.few_edges,
    )

pub returns-then-not-descends_around : goal.returns-then-not-descends_around
returns-then-not-descends_around g c = (
  λ h. absurd (false≢true h),
  λ down.
      let yes = c.descends_around.ensures.1 (descends_in c.invariant.ensures.well_formed down _) in
      let no = c.if-not-descends_around.true in
      absurd (cc),
)

pub returns : goal.returns
returns g c = (
  λ h. lists_descend_from c.invariant.ensures.well_formed (λ e exists dir.
      let low = below_bound (g.S.EdgeSource.graph c.args.store.now).edges e exists in
      c.edges.invariant.so_far e (omega (arith, low, c.edge_bound-bound.ensures, c.edges-test.false)) exists dir),
  λ down. refl,
)

use Rattle.std.proofs.Common.{◌++◌, map, sym, ap, ◌∙◌}
use Rattle.std.proofs.Math.ListN.{drop_of_length-le}
use Rattle.std.proofs.lemmas.List.{append-nil}
use Rattle.daggy_operators.specs.Children.{put_before}
use Rattle.daggy_operators.proofs.ChildOrder.{moves_on}
use Rattle.daggy_operators.proofs.children.moved_before.Goals as goal

pub edges-init : goal.edges-init
edges-init g c =
    let number = g.Ix.IndexType.number in
    ap (λ z. map number z ++ put_before (number c.args.edge) (number c.args.before) (map number c.args.list.now))
    c.in_ok-order.ensures.items

pub edges-preserved : goal.edges-preserved
edges-preserved g c =
    let number = g.Ix.IndexType.number in
    moves_on number (number c.args.edge) (number c.args.before) c.args.list.now c.edges.i c.edges-test.true
    c.index-list-i.is _ c.in_ok-push_moved.ensures c.edges.invariant

pub returns : goal.returns
returns g c =
    let number = g.Ix.IndexType.number in
    let order = map number c.edges.order.items in
    let over = drop_of_length-le c.args.list.now c.edges-test.false in
    sym (append-nil order)
    ∙ (ap (λ z. order ++ put_before (number c.args.edge) (number c.args.before) (map number z)) (sym over)
    ∙ c.edges.invariant)

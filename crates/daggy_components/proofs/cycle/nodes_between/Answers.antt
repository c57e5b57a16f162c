use Rattle.std.proofs.Common.{◌≡◌, ℕ, ◌+◌, ◌-◌, ◌<◌, ◌++◌, ◌∷◌, List, get_or, length, map, ap, sym, ◌∙◌, arith}
use Rattle.daggy_components.proofs.Parts.{part, part_step, map_push}
use Rattle.daggy_components.proofs.cycle.nodes_between.Goals as goal

pub nodes-preserved : goal.nodes-preserved
nodes-preserved g c =
    let number = g.Ix.IndexType.number in
    let xs = c.args.work.now.nodes in
    let n = number c.node-in-nodes.result in
    let k = c.nodes.k in
    let rest = part (k + 1) (c.args.to - (k + 1)) xs in
    let within : k < length xs = omega (arith, c.requires.within) in
    let is : n ≡ get_or xs k n = c.node-in-nodes.ensures.value ∙ c.node.ensures n in
    let step : part k (c.args.to - k) xs ≡ n ∷ rest = part_step xs k c.args.to n (omega arith) (omega (arith, c.requires.within)) is in (
      omega arith,
      ap (λ z. map number z ++ rest) c.in_ok-push.ensures.items
          ∙ (map_push number c.nodes.nodes.items c.node-in-nodes.result rest
          ∙ (ap (λ (z : List ℕ). map number c.nodes.nodes.items ++ z) (sym step) ∙ c.nodes.invariant.1)),
    )

use Rattle.std.proofs.Common.{◌≡◌, ℕ, ◌+◌, ◌-◌, ◌<◌, ◌∙◌, ◌++◌, ◌∷◌, List, get_or, length, map, ap, sym, arith, length-set, refl}
use Rattle.std.proofs.lemmas.List.{get_or_read_under}
use Rattle.daggy_components.specs.Stored.{placed}
use Rattle.daggy_components.proofs.Parts.{part}
use Rattle.daggy_components.proofs.Parts.{part_step, map_push}
use Rattle.daggy_components.proofs.strongly_connected.close.Goals as goal

pub nodes-preserved : goal.nodes-preserved
nodes-preserved g c =
    let xs = c.args.nodes.now.items in
    let n = c.index-in-nodes.result in
    let k = c.nodes.k in
    let rest = part (k + 1) (c.args.to - (k + 1)) xs in
    let same : n ≡ c.index.result.now = c.index-in-nodes.ensures.value ∙ c.node-n.ensures.value in
    let within : k < length xs = omega (arith, c.requires.within) in
    let is : n ≡ get_or xs k n = same ∙ get_or_read_under xs k (length xs) c.index.result.now n c.index.ensures within refl in
    let step : part k (c.args.to - k) xs ≡ n ∷ rest = part_step xs k c.args.to n (omega arith) (omega (arith, c.requires.within)) is in (
      omega arith,
      (
        length-set c.nodes.places.items n c.args.place ∙ c.nodes.invariant.1.0,
        (
          ap (λ (z : List ℕ). placed c.nodes.places.items z c.args.place) (sym step) ∙ c.nodes.invariant.1.1.0,
          ap (λ z. map g.Ix.IndexType.number z ++ rest) c.in_ok-push.ensures.items
              ∙ (map_push g.Ix.IndexType.number c.nodes.members.items c.node-n.result rest
              ∙ (ap (λ (z : ℕ). map g.Ix.IndexType.number c.nodes.members.items ++ z ∷ rest) (sym c.index-in-nodes.ensures.value)
              ∙ (ap (λ (z : List ℕ). map g.Ix.IndexType.number c.nodes.members.items ++ z) (sym step) ∙ c.nodes.invariant.1.1.1))),
        ),
      ),
    )

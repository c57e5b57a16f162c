use Rattle.std.proofs.Common.{◌≡◌, ◌+◌, ◌*◌, ◌/◌, ◌≤◌, inl, inr, ap, ◌∙◌, arith}
use Rattle.std.proofs.Math.Nat.{mul-le-mul_right}
use Rattle.daggy_base.specs.Graph.{node_count, edge_count}
use Rattle.daggy_reduction.proofs.BlockLooks.{blocks_told}
use Rattle.daggy_reduction.proofs.choice.blocks_pay.Goals as goal

pub returns-then-looks-most-clause-fewer : goal.returns-then-looks-most-clause-fewer
returns-then-looks-most-clause-fewer g c h =
    let graph = g.S.EdgeSource.graph c.args.source.now in
    let less = c.if-looks-most.true in
    let looks_is : c.saturating_mul-looks.result ≡ (c.args.nodes / 512 + 1) * c.saturating_mul.result =
    omega (arith, less, c.saturating_mul-looks.ensures, c.spanned-most.type_inv) in
    let more : 1 * c.saturating_mul.result ≤ (c.args.nodes / 512 + 1) * c.saturating_mul.result =
    mul-le-mul_right c.saturating_mul.result (omega arith) in
    let twice_is : c.saturating_mul.result ≡ c.args.edges * 2 =
    omega (arith, less, looks_is, more, c.saturating_mul.ensures, c.spanned-most.type_inv) in
    inl (blocks_told (edge_count graph) (node_count graph) c.saturating_mul-looks.result _
    (looks_is ∙ ap (λ z. (z / 512 + 1) * c.saturating_mul.result) c.requires.nodes_are
    ∙ ap (λ z. (node_count graph / 512 + 1) * z) (twice_is ∙ ap (λ z. z * 2) c.requires.edges_are))
    (omega (arith, less, c.spanned-most.ensures.most)))

pub returns-then-saturating_mul-most-clause-fewer : goal.returns-then-saturating_mul-most-clause-fewer
returns-then-saturating_mul-most-clause-fewer g c h =
    let same = c.spanned-most.ensures.same in
    inr (
      rw same at c.is_near.ensures.near h,
      omega (
        arith,
        c.if-saturating_mul-most.true,
        c.saturating_mul-2.ensures,
        c.spanned-most.type_inv,
        c.spanned-most.ensures.most,
        c.requires.edges_are,
      ),
    )

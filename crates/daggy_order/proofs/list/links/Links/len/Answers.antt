use Rattle.std.proofs.Common.{ℕ, ◌<◌, ◌∙◌, sym, ap, subst, length, arith}
use Rattle.std.specs.List.{Contains}
use Rattle.daggy_order.specs.Links.{Listed, nexts_of}
use Rattle.daggy_order.proofs.Items.{previous_many, labels_many}
use Rattle.daggy_order.proofs.LinkedNodes.{length_walk, few}
use Rattle.daggy_order.proofs.list.links.Links.len.Goals as goal

pub returns-clause-value : goal.returns-clause-value
returns-clause-value g c =
    sym (length_walk g.Ix.IndexType.greatest (nexts_of c.self.inside.items.items) c.self.inside.first
    c.self.inside.count)
    ∙ ap (λ (z : Listed). length z.nodes) c.self.view_is

pub returns-clause-within : goal.returns-clause-within
returns-clause-within g c =
    let P : Listed → Type 0 = λ z. (n : ℕ) → Contains z.nodes n → n < length z.labels in
    subst P c.self.view_is (λ n h. omega (
      arith,
      c.self.invariant.within n h,
      previous_many c.self.inside.items.items,
      labels_many c.self.inside.items.items,
    ))

pub returns-clause-small : goal.returns-clause-small
returns-clause-small g c =
    omega (
      arith,
      few c.self.invariant,
      previous_many c.self.inside.items.items,
      c.self.inside.items.small,
      c.self.inside.items.ok,
      ap (λ (z : Listed). length z.nodes) c.self.view_is,
    )

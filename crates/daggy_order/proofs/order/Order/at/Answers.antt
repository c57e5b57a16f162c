use Rattle.std.proofs.Common.{rules, ◌<◌, ◌≤◌, ◌^◌, ◌-◌, ◌+◌, ℕ, List, length, get_or, sym, ap, ◌∙◌, arith}
use Rattle.daggy_order.proofs.Tails.{tail_length, at_late}
use Rattle.daggy_order.proofs.order.Order.at.Goals as goal

pub overflow_add-self-inside : goal.overflow_add-self-inside
overflow_add-self-inside g c =
    let low : c.self.inside.tail.from + (c.args.place - c.len-count.result) < 2 ^ 64 =
    omega (
      arith,
      c.requires,
      ap (λ (z : List ℕ). length z) c.self.view_is,
      tail_length c.self.invariant,
      c.self.invariant.real,
      g.met.Ix.IndexType.fits,
      c.len-count.ensures.value,
      c.if-place-count.false,
    ) in
    search rules

pub new-requires : goal.new-requires
new-requires g c =
    omega (
      arith,
      c.requires,
      ap (λ (z : List ℕ). length z) c.self.view_is,
      tail_length c.self.invariant,
      c.self.invariant.real,
      c.len-count.ensures.value,
      c.if-place-count.false,
    )

pub returns-else-place-count : goal.returns-else-place-count
returns-else-place-count g c =
    let low : length c.self.inside.list.nodes ≤ c.args.place =
    omega (arith, c.len-count.ensures.value, c.if-place-count.false) in
    let within : c.args.place < length c.self.inside.list.nodes + c.self.inside.tail.count =
    omega (arith, c.requires, ap (λ (z : List ℕ). length z) c.self.view_is, tail_length c.self.invariant) in
    c.new.ensures.number
    ∙ (ap (λ (z : ℕ). c.self.inside.tail.from + (c.args.place - z)) c.len-count.ensures.value
    ∙ (sym (at_late c.self.invariant c.args.place low within)
    ∙ ap (λ (z : List ℕ). get_or z c.args.place 0) c.self.view_is))

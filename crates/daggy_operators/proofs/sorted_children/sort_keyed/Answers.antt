use Rattle.std.specs.Ordering.{nat_cmp}
use Rattle.std.proofs.lemmas.List.Sorted.{IsPermutation-map}
use Rattle.daggy_operators.proofs.SortedChildren.{sorted_keys}
use Rattle.daggy_operators.proofs.sorted_children.sort_keyed.Goals as goal

pub returns-clause-permuted : goal.returns-clause-permuted
returns-clause-permuted g c =
    IsPermutation-map (λ p. record { key = p.0; place = p.1.0; edge = g.Ix.IndexType.number p.1.1 })
    c.args.keyed.now.items c.sort_unstable.new.self.items c.sort_unstable.ensures.permutation

pub returns-clause-sorted : goal.returns-clause-sorted
returns-clause-sorted g c =
    let number = g.Ix.IndexType.number in
    sorted_keys g.met.K.Ord.total number (λ a b. nat_cmp (number a) (number b)) c.sort_unstable.new.self.items
    c.sort_unstable.ensures.sorted

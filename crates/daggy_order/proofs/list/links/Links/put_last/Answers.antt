use Rattle.std.proofs.Common.{◌≡◌, ℕ, List, [], ◌∷◌, ◌++◌, ◌∙◌, sym, ap, subst, arith, length, append_assoc}
use Rattle.daggy_base.proofs.Lists.{Mem, mem_contains}
use Rattle.daggy_order.specs.Links.{Listed, nexts_of}
use Rattle.daggy_order.proofs.LinkedNodes.{listed}
use Rattle.daggy_order.proofs.LinkedNodes.{ended, length_walk, last_in, last_is}
use Rattle.daggy_order.proofs.list.links.Links.put_last.Goals as goal

pub put_after-requires-clause-held : goal.put_after-requires-clause-held
put_after-requires-clause-held g c =
    let s = c.self.invariant in
    let count = length_walk g.Ix.IndexType.greatest (nexts_of c.self.inside.items.items) c.self.inside.first c.self.inside.count in
    let P : Listed → Type 0 = λ z. Mem c.self.inside.last z.nodes in
    mem_contains c.args.self.now.nodes c.self.inside.last
    (subst P c.self.view_is (last_in s (omega (arith, count, c.if-self-eq0.false))))

pub returns-else-self-eq0 : goal.returns-else-self-eq0
returns-else-self-eq0 g c =
    let s = c.self.invariant in
    let count = length_walk g.Ix.IndexType.greatest (nexts_of c.self.inside.items.items) c.self.inside.first c.self.inside.count in
    let nodes = ap (λ (z : Listed). z.nodes) c.self.view_is in
    let e =
    ended c.args.self.now.nodes (omega (arith, count, c.if-self-eq0.false, ap (λ (z : List ℕ). length z) nodes)) in
    let last = last_is s e.0 e.1 (nodes ∙ e.2) in
    let split : c.args.self.now.nodes ≡ e.0 ++ c.self.inside.last ∷ [] =
    e.2 ∙ ap (λ (z : ℕ). e.0 ++ z ∷ []) (sym last) in
    listed (c.put_after.ensures.nodes e.0 [] split ∙ (sym (append_assoc e.0 (c.self.inside.last ∷ []) (c.args.n ∷ []))
    ∙ ap (λ (z : List ℕ). z ++ c.args.n ∷ []) (sym split))) c.put_after.ensures.labels
    c.put_after.ensures.capacity

use Rattle.std.proofs.Common.{◌≡◌, ℕ, List, length, get_or, sym, ap, ◌∙◌, arith, ◌<◌, ◌≤◌}
use Rattle.daggy_components.proofs.Cuts.{found_by, missed_by, past}
use Rattle.daggy_components.proofs.components.Components.component_of.Goals as goal

pub returns-then-at-len : goal.returns-then-at-len
returns-then-at-len g c =
    let end = g.Ix.IndexType.greatest in
    let n = g.Ix.IndexType.number c.args.n in
    let places = c.self.inside.places.items in
    let read : get_or places n end ≡ c.index-at.result =
    sym (c.index-at.ensures.value ∙ (c.in-Some.ensures.lookup.3.1 end
    ∙ (ap (λ (z : ℕ). get_or c.deref.result.now z end) c.index.ensures.value
    ∙ ap (λ (z : List ℕ). get_or z n end) c.deref.ensures.value))) in
    let long : c.len-then-at-len.result ≡ length places = omega (arith, c.len-then-at-len.ensures) in
    let low : c.index-at.result < c.len-then-at-len.result = omega (arith, c.len.ensures, c.len-then-at-len.ensures, c.if-at-len.true) in
    λ k. found_by c.self.invariant.placed n long read low (sym c.self.view_is) k

pub returns-else-at-len : goal.returns-else-at-len
returns-else-at-len g c =
    let end = g.Ix.IndexType.greatest in
    let n = g.Ix.IndexType.number c.args.n in
    let places = c.self.inside.places.items in
    let read : get_or places n end ≡ c.index-at.result =
    sym (c.index-at.ensures.value ∙ (c.in-Some.ensures.lookup.3.1 end
    ∙ (ap (λ (z : ℕ). get_or c.deref.result.now z end) c.index.ensures.value
    ∙ ap (λ (z : List ℕ). get_or z n end) c.deref.ensures.value))) in
    let high : length places ≤ c.index-at.result = omega (arith, c.len.ensures, c.if-at-len.false) in
    λ k. missed_by c.self.invariant.placed n read high (sym c.self.view_is) k

pub returns-in-None : goal.returns-in-None
returns-in-None g c =
    let n = g.Ix.IndexType.number c.args.n in
    let long : length c.deref.result.now ≡ length c.self.inside.places.items =
    ap (λ (z : List ℕ). length z) c.deref.ensures.value in
    let high : length c.self.inside.places.items ≤ n =
    omega (arith, c.in-None.ensures.lookup.3, long, c.index.ensures.value) in
    λ k. past c.self.invariant.placed n high (sym c.self.view_is) k

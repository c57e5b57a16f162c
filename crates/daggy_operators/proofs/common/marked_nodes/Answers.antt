use Rattle.std.proofs.Common.{◌≡◌, ◌<◌, ◌↔◌, ◌∙◌, ◌+◌, ◌++◌, ◌∷◌, [], ℕ, List, true, false, map, Contains, vec_len, sym, ap, subst, arith}
use Rattle.std.proofs.lemmas.Bool.{false≢true}
use Rattle.std.proofs.lemmas.List.{map-append}
use Rattle.daggy_redundant.specs.Comparison.{IsAscending}
use Rattle.daggy_operators.specs.Parts.{mark_of}
use Rattle.daggy_operators.proofs.CommonAncestors.{ascending_more, exact_past, exact_more}
use Rattle.daggy_operators.proofs.common.marked_nodes.Goals.{then-is_lowest+in_ok-push, else-is_lowest}
use Rattle.daggy_operators.proofs.common.marked_nodes.Goals as goal

pub nodes-preserved : goal.nodes-preserved
nodes-preserved g c =
    let number = g.Ix.IndexType.number in
    let Low : ℕ → Type 0 = λ n.
    (mark_of c.args.first.now.items n ≡ true) × (mark_of c.args.second.now.items n ≡ true)
    × (mark_of c.args.third.now.items n ≡ false) in
    let xs = map number c.nodes.nodes.items in
    let i = c.nodes.i in
    let P : List ℕ → Type 0 = λ z. (n : ℕ) → Contains z n ↔ (Low n × (n < i + 1)) in
    elim c.if-is_lowest.branch [
      | then-is_lowest+in_ok-push w ↦
          (let is : map number c.if-is_lowest.nodes.items ≡ xs ++ i ∷ [] =
          ap (λ z. map number z.items) w.nodes-is
          ∙ (ap (λ z. map number z) w.in_ok-push.ensures.items
          ∙ (map-append number c.nodes.nodes.items (c.new-n.result ∷ [])
          ∙ ap (λ z. xs ++ z ∷ []) c.new-n.ensures.number)) in
          record {
            exact = subst P (sym is) (exact_more Low i xs c.nodes.invariant.exact
                (subst Low c.new-n.ensures.number (c.is_lowest.ensures.0 w.if-is_lowest.true)));
            ascending = subst IsAscending (sym is) (ascending_more xs i c.nodes.invariant.ascending
                (λ y has. ((c.nodes.invariant.exact y).0 has).1));
          })
      | else-is_lowest w ↦
          (let is : map number c.if-is_lowest.nodes.items ≡ xs = ap (λ z. map number z.items) w.nodes-is in
          record {
            exact = subst P (sym is) (exact_past Low i xs c.nodes.invariant.exact
                (λ low. absurd (false≢true (sym w.if-is_lowest.false ∙ c.is_lowest.ensures.1 (subst Low (sym c.new-n.ensures.number) low)))));
            ascending = subst IsAscending (sym is) c.nodes.invariant.ascending;
          })
    ]

pub returns-clause-exact : goal.returns-clause-exact
returns-clause-exact g c =
    let number = g.Ix.IndexType.number in
    let Low : ℕ → Type 0 = λ n.
    (mark_of c.args.first.now.items n ≡ true) × (mark_of c.args.second.now.items n ≡ true)
    × (mark_of c.args.third.now.items n ≡ false) in
    let P : ℕ → Type 0 = λ z. (n : ℕ) → Contains (map number c.nodes.nodes.items) n ↔ (Low n × (n < z)) in
    let end : c.nodes.i ≡ vec_len c.args.first.now =
    omega (arith, c.nodes-test.false, c.nodes.auto.i-end, c.len-i-end.ensures) in
    subst P end c.nodes.invariant.exact

use Rattle.std.proofs.Common.{◌≡◌, ◌∷◌, ◌++◌, [], SFits, w64, ap, sym, ◌∙◌, append_assoc, append-nil, rules}
use Rattle.std.specs.Option.{unwrap_or}
use Rattle.std.proofs.Math.Facts.{to_z-of_z}
use Rattle.dagbench_lines.specs.Cutting.{words_of}
use Rattle.dagbench_lines.specs.Listing.{edges_by_words}
use Rattle.dagbench_lines.proofs.Listed.{first_listed, none_listed, shorter_rest}
use Rattle.dagbench_lines.proofs.edge_list.EdgeList.into_edges.Goals as goal

pub edges-smaller : goal.edges-smaller
edges-smaller c = shorter_rest (words_of c.edges.rest.now) (words_of c.in-Some.behind.now) _ (sym c.in-Some.ensures)

pub edges-preserved : goal.edges-preserved
edges-preserved c =
    let there =
    first_listed (words_of c.edges.rest.now) (words_of c.in-Some.behind.now) _ (sym c.in-Some.ensures)
    c.edges.invariant.some in
    let rest = unwrap_or (edges_by_words (words_of c.in-Some.behind.now)) [] in
    let fits : SFits w64 c.in-Some.weight = search rules in
    let first : c.new_edge.result ≡ (c.in-Some.parent, c.in-Some.child, c.in-Some.weight) =
    c.new_edge.ensures ∙ ap (λ w. (c.in-Some.parent, c.in-Some.child, w)) (to_z-of_z fits) in
    record {
      some = there.0;
      whole = ap (λ edges. edges ++ rest) c.in_ok-push.ensures.items
          ∙ append_assoc c.edges.edges.items (c.new_edge.result ∷ []) rest
          ∙ ap (λ edges. c.edges.edges.items ++ edges) (ap (λ edge. edge ∷ rest) first ∙ sym there.1)
          ∙ c.edges.invariant.whole;
    }

pub returns : goal.returns
returns c =
    let none = none_listed (words_of c.edges.rest.now) (sym c.in_default.ensures) c.edges.invariant.some in
    sym (append-nil c.edges.edges.items)
    ∙ ap (λ words. c.edges.edges.items ++ unwrap_or (edges_by_words words) []) (sym none) ∙ c.edges.invariant.whole

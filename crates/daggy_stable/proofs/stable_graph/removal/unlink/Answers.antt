use Rattle.std.proofs.Common.{◌≡◌, get_or, ◌∙◌, arith}
use Rattle.daggy_base.specs.declared.index.Direction.TheVariants.{Outgoing, Incoming}
use Rattle.daggy_cells.specs.Fields.{nexts_of}
use Rattle.daggy_cells.proofs.RedirectLemmas.{next_is, head_kept}
use Rattle.daggy_stable.proofs.StoredRemoval.{ready_kept, both_redirected}
use Rattle.daggy_stable.proofs.stable_graph.removal.unlink.Goals as goal

pub of-out-requires : goal.of-out-requires
of-out-requires g c = record { edge = (c.requires Outgoing).edge; node = (c.requires Outgoing).node }

pub of-into-requires : goal.of-into-requires
of-into-requires g c = record { edge = (c.requires Incoming).edge; node = (c.requires Incoming).node }

pub index-requires : goal.index-requires
index-requires g c = omega (arith, (c.requires Outgoing).edge, c.index-i.ensures.value)

pub index-requires-2 : goal.index-requires-2
index-requires-2 g c = omega (arith, (c.requires Outgoing).edge, c.index-i.ensures.value)

pub redirect-requires : goal.redirect-requires
redirect-requires g c = record { ready = c.requires Outgoing; head = c.of-out.ensures }

pub redirect-requires-2 : goal.redirect-requires-2
redirect-requires-2 g c =
    let ends = c.redirect.ensures.keeps_edges.ends Incoming in
    record {
      ready =
          ready_kept Incoming c.redirect.ensures.keeps.firsts c.redirect.ensures.keeps_edges.nexts ends (c.requires Incoming);
      head = head_kept c.redirect.ensures.keeps.firsts ends c.of-into.ensures;
    }

pub returns : goal.returns
returns g c =
    let edges = c.args.edges.now.items in
    let e = c.args.e in
    let within = (c.requires Outgoing).edge in
    let out_is : c.next-next_out.result ≡ get_or (nexts_of Outgoing edges) e 0 =
    c.next-next_out.ensures ∙ next_is Outgoing edges _ e _ c.index.ensures c.index-i.ensures.value within in
    let into_is : c.next-next_in.result ≡ get_or (nexts_of Incoming edges) e 0 =
    c.next-next_in.ensures ∙ next_is Incoming edges _ e _ c.index-2.ensures c.index-i.ensures.value within in
    record {
      weights = c.redirect-2.ensures.keeps.weights ∙ c.redirect.ensures.keeps.weights;
      plains = c.redirect-2.ensures.keeps_edges.edges ∙ c.redirect.ensures.keeps_edges.edges;
      links = both_redirected c.redirect.ensures c.redirect-2.ensures out_is into_is;
    }

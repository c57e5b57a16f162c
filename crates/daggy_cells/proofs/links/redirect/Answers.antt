use Rattle.std.proofs.Common.{◌≢◌, ◌<◌, length, refl, sym, ◌∙◌, arith}
use Rattle.std.proofs.lemmas.List.{length-map}
use Rattle.std.proofs.lemmas.Option.{slice_get_within}
use Rattle.daggy_cells.specs.Raw.{raw_next}
use Rattle.daggy_cells.specs.Fields.{nexts_of}
use Rattle.daggy_cells.proofs.LinkedListChanges.{Redirected-first, Redirected-later}
use Rattle.daggy_cells.proofs.FieldLemmas.{KeepsNodes-set, KeepsEdges-set, firsts_of-set, nexts_of-set}
use Rattle.daggy_cells.proofs.links.redirect.Goals as goal

pub find_before-before-requires-clause-listed : goal.find_before-before-requires-clause-listed
find_before-before-requires-clause-listed g c =
    rw (c.as_slice.ensures.value, c.requires.head.first_is) c.requires.ready.listed

pub index_mut-requires-else-index : goal.index_mut-requires-else-index
index_mut-requires-else-index g c =
    let listed = rw (c.as_slice.ensures.value, c.requires.head.first_is) at c.find_before-before.ensures.listed in
    let within : c.find_before-before.result < length (nexts_of c.args.dir c.args.edges.now.items) =
    slice_get_within (nexts_of c.args.dir c.args.edges.now.items) _ _ (c.requires.ready.linked.goes_on _ listed) in
    omega (arith, within, length-map c.args.edges.now.items (raw_next c.args.dir), c.index-j.ensures.value)

pub returns-then-index : goal.returns-then-index
returns-then-index g c =
    let inside : c.args.old ≢ g.Ix.IndexType.greatest = omega (arith, c.requires.ready.edge, c.requires.ready.few) in
    let here =
    sym c.requires.head.first_is ∙ sym c.index.ensures.value ∙ c.if-index.true ∙ c.index-2.ensures.value in
    let at_node = c.index-i.ensures.value ∙ c.requires.head.node_is in
    let x_is = rw at_node at c.index_mut.ensures.value in
    rw (c.set_first.ensures, at_node) (record {
      links =
          rw (firsts_of-set _ _ _ c.args.new x_is c.args.dir) (Redirected-first _ _ _ _ _ c.requires.ready.linked here
          inside);
      keeps = KeepsNodes-set _ _ _ c.args.new x_is c.args.dir;
      keeps_edges = record { edges = refl; ends = λ d. refl; nexts = refl };
    })

pub returns-else-index : goal.returns-else-index
returns-else-index g c =
    let inside : c.args.old ≢ g.Ix.IndexType.greatest = omega (arith, c.requires.ready.edge, c.requires.ready.few) in
    let seen = rw (c.as_slice.ensures.value, c.requires.head.first_is) at c.find_before-before.ensures in
    let x_is = rw c.index-j.ensures.value at c.index_mut-else-index.ensures.value in
    rw (c.set_next.ensures, c.index-j.ensures.value) (record {
      links =
          rw (nexts_of-set _ _ _ c.args.new x_is c.args.dir) (Redirected-later c.find_before-before.result
          c.requires.ready.linked
          (λ q. c.if-index.false (c.index.ensures.value ∙ c.requires.head.first_is ∙ q ∙ sym c.index-2.ensures.value))
          seen.listed seen.before inside);
      keeps = record { weights = refl; firsts = refl };
      keeps_edges = KeepsEdges-set _ _ _ c.args.new x_is c.args.dir;
    })

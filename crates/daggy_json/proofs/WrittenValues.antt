-- The document of a dag is also that of a dag of values.
use Rattle.std.proofs.Common.{◌≡◌, ℕ, zero, suc, ◌+◌, ◌≤◌, Option, Some, None, List, [], ◌∷◌, map, take, refl, sym, ap}
use Rattle.std.proofs.Common.{◌∙◌, arith}
use Rattle.std.specs.List.{AllZip}
use Rattle.std.proofs.lemmas.Option.{none-some}
use Rattle.serde_json.specs.Data.{Data}
use Rattle.daggy_base.specs.Graph.{Graph, Edge, bound_of, bound_step, edge_bound, IsCompact}
use Rattle.daggy_base.specs.Iterating.{numbered, node_identifiers}
use Rattle.daggy_base.specs.WellFormed.{IsDag}
use Rattle.daggy_base.specs.declared.kind.Kind.{Kind}
use Rattle.daggy_base.specs.declared.kind.Kind.TheVariants.{Compact}
use Rattle.daggy_base.specs.Mapping.{weight_in, with_weight}
use Rattle.daggy_json.specs.Document.{whole, row_of, holes_of, document_of, IsEntry, IsDocumentOf}
use Rattle.daggy_json.specs.Restoring.{IsCopyAs, HasValues}
use Rattle.daggy_json.proofs.CopiedSlots.{AreCopied, stands, copied_numbers, copied_vacant, copied_bound, filled_nodes}
use Rattle.daggy_json.proofs.CopiedGraphs.{copy_dag, copy_trimmed}

zip_refl : {A : Type 0} (xs : List A) → AllZip (λ x y. x ≡ y) xs xs
zip_refl [] = tt
zip_refl (x ∷ xs) = (refl, zip_refl xs)

-- ---- the slots of the edges

below : {A : Type 0} (x : Option A) (b n : ℕ) → bound_step x b ≤ suc n → b ≤ n
below x zero n low = omega arith
below x (suc b) n low = omega arith

none_below : {A : Type 0} (x : Option A) (b : ℕ) → bound_step x b ≤ 0 → (x ≡ None) × (b ≤ 0)
none_below None zero low = (refl, low)
none_below (Some x) zero low = absurd (omega arith)
none_below x (suc b) low = absurd (omega arith)

module _ {E : Type 0} (edge_as : E → Data → Type 0) where
  -- slots that hold the value of each weight, up to the bound
  filled_edges : (n i : ℕ) (xs : List (Option (Edge E))) (ds : List Data) → bound_of xs ≤ n
      → AllZip (IsEntry edge_as) (take n xs) ds
      → (ys : List (Option (Edge Data))) × AreCopied edge_as weight_in with_weight i xs ys
      × AllZip (IsEntry (λ w v. w ≡ v)) (take n ys) ds
  filled_edges zero i [] ds low z = ([], refl, z)
  filled_edges zero i (None ∷ xs) ds low z =
      let more = filled_edges zero (i + 1) xs ds (none_below {A = Edge E} None (bound_of xs) low).1 z in
      (None ∷ more.0, (more.0, refl, more.1), more.2)
  filled_edges zero i (Some x ∷ xs) ds low z =
      absurd (none-some x (sym (none_below (Some x) (bound_of xs) low).0))
  filled_edges (suc n) i [] ds low z = ([], refl, none ds z)
    where
      none : (ds : List Data) → AllZip (IsEntry edge_as) [] ds → AllZip (IsEntry {E = Data} (λ w v. w ≡ v)) [] ds
      none [] z = tt
      none (d ∷ ds) z = z
  filled_edges (suc n) i (x ∷ xs) [] low z = absurd z
  filled_edges (suc n) i (None ∷ xs) (d ∷ ds) low z =
      let more = filled_edges n (i + 1) xs ds (below {A = Edge E} None (bound_of xs) n low) z.1 in
      (None ∷ more.0, (more.0, refl, more.1), (z.0, more.2))
  filled_edges (suc n) i (Some x ∷ xs) (d ∷ ds) low z =
      let more = filled_edges n (i + 1) xs ds (below (Some x) (bound_of xs) n low) z.1 in (
        Some (with_weight x z.0.0) ∷ more.0,
        (
          z.0.0,
          tt,
          stands edge_as weight_in with_weight x.weight z.0.0 i z.0.1,
          more.0,
          refl,
          more.1,
        ),
        ((z.0.0, refl, z.0.2), more.2),
      )

-- ---- the dag of values

module _ {N E : Type 0} (kind : Kind) (limit : ℕ) (node_as : N → Data → Type 0) (edge_as : E → Data → Type 0)
    (g : Graph N E) (dag : IsDag limit g) (compact : kind ≡ Compact → IsCompact g) (d : Data)
    (doc : IsDocumentOf node_as edge_as g d) where
  filled : (ys : List (Option Data)) × AreCopied node_as (λ w. w) (λ w v. v) 0 g.nodes ys
      × (map (λ p. p.1) (numbered 0 ys) ≡ doc.weights)
  filled = filled_nodes node_as 0 g.nodes doc.weights doc.nodes

  linked : (ys : List (Option (Edge Data))) × AreCopied edge_as weight_in with_weight 0 g.edges ys
      × AllZip (IsEntry (λ w v. w ≡ v)) (take (edge_bound g) ys) doc.entries
  linked = filled_edges edge_as (edge_bound g) 0 g.edges doc.entries (omega arith) doc.edges

  abbrev values : Graph Data Data
  values = record {
    nodes = filled.0;
    edges = linked.0;
    out_lists = g.out_lists;
    in_lists = g.in_lists;
    vacant_nodes = g.vacant_nodes;
    vacant_edges = g.vacant_edges;
  }

  copied : IsCopyAs node_as edge_as g values
  copied =
      record {
        nodes = filled.1;
        edges = linked.1;
        out_lists = refl;
        in_lists = refl;
        vacant_nodes = refl;
        vacant_edges = refl;
      }

  document : IsDocumentOf (λ w v. w ≡ v) (λ w v. w ≡ v) values d
  document =
      let bound : edge_bound values ≡ edge_bound g =
      copied_bound edge_as weight_in with_weight 0 g.edges linked.0 linked.1 in
      let front = copy_trimmed node_as edge_as g values copied in
      let holes : holes_of values ≡ holes_of g =
      copied_vacant node_as (λ w. w) (λ w v. v) 0 _ _ front.nodes in
      let ids : node_identifiers values ≡ node_identifiers g =
      copied_numbers node_as (λ w. w) (λ w v. v) 0 g.nodes filled.0 filled.1 in
      record {
        entries = doc.entries;
        weights = doc.weights;
        edges = rw bound linked.2;
        nodes = rw filled.2 (zip_refl doc.weights);
        is =
            doc.is ∙ ap (λ hs. document_of doc.entries (map whole hs) doc.weights (map (row_of g) (node_identifiers g)))
            (sym holes)
            ∙ ap (λ ns. document_of doc.entries (map whole (holes_of values)) doc.weights (map (row_of g) ns)) (sym ids);
      }

  -- a dag whose document is written has values
  pub has_values : HasValues kind limit node_as edge_as g d
  has_values =
      record {
        values = values;
        copied = copied;
        dag = copy_dag node_as edge_as g values copied limit dag;
        compact = λ k. record { nodes = (compact k).nodes; edges = (compact k).edges };
        document = document;
      }

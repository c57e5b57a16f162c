-- The edges that leave nodes listed side by side, along their lists.
use Rattle.std.proofs.Common.{◌≡◌, ◌≢◌, ℕ, suc, ◌+◌, ◌<◌, ◌≤◌, ◌⊎◌, ◌↔◌, inl, inr, Option, None, Some, List, [], ◌∷◌}
use Rattle.std.proofs.Common.{zero, length, length-set, get_or, set, take, drop, refl, sym, ap, subst, ◌∙◌, arith, count_by, is_some}
use Rattle.std.proofs.lemmas.Bool.{cases_lt}
use Rattle.std.proofs.lemmas.Option.{same_Some}
use Rattle.std.proofs.lemmas.List.{take_more, get_or-set_same, get_or-set_other}
use Rattle.daggy_base.specs.Graph.{Graph, Edge, HasEdge, out_list, edge_at, node_bound, edge_bound, edge_count, bound_of, bound_step}
use Rattle.daggy_base.specs.Cursor.{first_of}
use Rattle.daggy_base.specs.WellFormed.{IsWellFormed}
use Rattle.daggy_base.specs.Look.{IsLook}
use Rattle.daggy_base.proofs.Lists.{mem_at, place_of}
use Rattle.daggy_base.proofs.Slots.{count_cons}
use Rattle.daggy_base.proofs.OutEdgesRead.{leaves, listed, below_bound, read_whole, read_part, has_edge}
use Rattle.daggy_base.proofs.OutEdgesRead.{child_exists, next_cursor, lists_of, lists_few}
use Rattle.daggy_search.specs.declared.arcs.Arc.{Arc}
use Rattle.daggy_search.specs.declared.arcs.Segment.{Segment}
use Rattle.daggy_reduction.specs.Blocks.{IsPlaced, IsIn, AreArcsOf, AreArcs, AreLaidOut, segment_at, arcs_in}
use Rattle.daggy_reduction.proofs.SegmentArcs.{in_step, in_none, in_same, arcs_same}
use Rattle.daggy_reduction.proofs.LaidOut.{at_set_same, at_set_other, arcs_fit}
use Rattle.daggy_reduction.proofs.BlockRows.{unique_front}
use Rattle.daggy_redundant.proofs.QueueProgress.{lists_append}

-- one of the first edges that leave u, with its child, is of a kind
abbrev pub Passed : {N E : Type 0} → (end : ℕ) → Graph N E → (u passed : ℕ) → (ℕ → ℕ → Type 0) → Type 0
Passed {N} {E} end g u passed P =
    (j : ℕ) × (x : Edge E) × (j < passed) × (edge_at g (get_or (out_list g u) j end) ≡ Some x)
    × P (get_or (out_list g u) j end) x.child

module _ {N E : Type 0} (end : ℕ) (g : Graph N E) (w : IsWellFormed end g) (u passed e : ℕ)
    (cursor : e ≡ first_of end (drop passed (out_list g u))) where
  -- one edge more
  pub passed_step : e ≢ end → (v next : ℕ) → IsLook end g e v next → (P : ℕ → ℕ → Type 0)
      → Passed end g u (suc passed) P ↔ (Passed end g u passed P ⊎ P e v)
  passed_step here v next look P =
      let r = read_part end g w u passed e cursor here in (
        λ (j, x, lt, at, p).
            elim (cases_lt j passed) [
              | inl early ↦ inl (j, x, early, at, p)
              | inr late ↦
                  (let last : j ≡ passed = omega (arith, lt, late) in
                  let is : get_or (out_list g u) j end ≡ e =
                  ap (λ (z : ℕ). get_or (out_list g u) z end) last ∙ sym r.1 in
                  let same : x.child ≡ v =
                  ap (λ (y : Edge E). y.child) (same_Some _ _ (sym at ∙ ap (λ z. edge_at g z) is ∙ look.at))
                  ∙ sym look.child_is in
                  let Q : ℕ → Type 0 = λ z. P z x.child in
                  inr (subst (P e) same (subst Q is p)))
            ],
        λ t.
            elim t [
              | inl b ↦ (b.0, b.1, omega (arith, b.2), b.3, b.4)
              | inr p ↦
                  (let Q : ℕ → Type 0 = λ z. P z look.edge.child in (
                    passed,
                    look.edge,
                    omega arith,
                    ap (λ (z : ℕ). edge_at g z) (sym r.1) ∙ look.at,
                    subst Q r.1 (subst (P e) look.child_is p),
                  ))
            ],
      )

  -- at `end` the edges that leave u are those that were passed
  pub passed_whole : passed ≤ length (out_list g u) → e ≡ end → (P : ℕ → ℕ → Type 0)
      → Passed end g u passed P ↔ ((k : ℕ) × (x : Edge E) × (edge_at g k ≡ Some x) × (x.parent ≡ u) × P k x.child)
  passed_whole within h P =
      let whole = read_whole end g w u passed e cursor within h in (
        λ (j, x, lt, at, p).
            (let low : j < length (out_list g u) = omega (arith, lt, whole) in
            let k = get_or (out_list g u) j end in
            let y = leaves end g w u k (mem_at (out_list g u) j end low) in
            let same : y.0 ≡ x = same_Some _ _ (sym y.1 ∙ at) in
            let from : x.parent ≡ u = sym (ap (λ (z : Edge E). z.parent) same) ∙ y.2 in
            (k, x, at, from, p)),
        λ (k, x, at, from, p).
            (let q = place_of (out_list g u) k end (listed end g w u k x at from) in
            let Q : ℕ → Type 0 = λ z. P z x.child in
            (q.0, x, omega (arith, q.1, whole), ap (λ (z : ℕ). edge_at g z) q.2 ∙ at, subst Q (sym q.2) p)),
      )

-- What is listed: the graph and the number past all its edges, the node whose edges are gone through, the places of the
-- nodes, where its arcs begin, what was listed before, and how often edges were looked at till then.
pub record Row (N E I : Type 0) : Type 0 where
  pub end : ℕ
  pub graph : Graph N E
  pub node : ℕ
  pub places : List ℕ
  pub begin : ℕ
  pub before : List (Arc I)
  pub looks : ℕ

-- What is listed so far: the graph, the next edge, how often edges were looked at, the arcs, and where they stop.
pub record Partial (N E I : Type 0) : Type 0 where
  pub graph : Graph N E
  pub edge : ℕ
  pub looks : ℕ
  pub arcs : List (Arc I)
  pub stop : ℕ

-- the edge k is e, and its child stands at p
abbrev pub StandsAt : (places : List ℕ) (e p k v : ℕ) → Type 0
StandsAt places e p k v = (k ≡ e) × (get_or places v 0 ≡ p)

-- the segment has the edges that were passed
pub record Listing {N E I : Type 0} (number : I → ℕ) (r : Row N E I) (now : Partial N E I) : Type 0 where
  pub same : now.graph ≡ r.graph
  pub fits : node_bound r.graph ≤ length r.places
  pub room : r.begin + length (out_list r.graph r.node) ≤ length r.before
  pub passed : ℕ
  pub cursor : now.edge ≡ first_of r.end (drop passed (out_list r.graph r.node))
  pub within : passed ≤ length (out_list r.graph r.node)
  pub counted : now.looks ≡ r.looks + passed
  pub stop_is : now.stop ≡ r.begin + passed
  pub arcs : (e p : ℕ) → ((a : Arc I) × IsIn now.arcs (record { begin = r.begin; end = now.stop }) a
      × (number a.edge ≡ e) × (a.place ≡ p)) ↔ Passed r.end r.graph r.node passed (StandsAt r.places e p)
  pub front_kept : (j : ℕ) (a : Arc I) → j < r.begin → get_or now.arcs j a ≡ get_or r.before j a
  pub length_kept : length now.arcs ≡ length r.before

pub row_start : {N E I : Type 0} (number : I → ℕ) (r : Row N E I) {e : ℕ} → node_bound r.graph ≤ length r.places
    → r.begin + length (out_list r.graph r.node) ≤ length r.before → e ≡ first_of r.end (out_list r.graph r.node)
    → Listing number r record { graph = r.graph; edge = e; looks = r.looks; arcs = r.before; stop = r.begin }
row_start number r fits room first =
    record {
      same = refl;
      fits = fits;
      room = room;
      passed = 0;
      cursor = first;
      within = omega arith;
      counted = omega arith;
      stop_is = omega arith;
      arcs = λ e p. (
        λ (a, inside, e_is, p_is). absurd (in_none r.before r.begin a inside),
        λ q. absurd (omega (arith, q.2)),
      );
      front_kept = λ j a low. refl;
      length_kept = refl;
    }

module _ {N E I : Type 0} {number : I → ℕ} {r : Row N E I} (w : IsWellFormed r.end r.graph) {now : Partial N E I}
    (s : Listing number r now) where
  pub row_edge : now.edge ≢ r.end → HasEdge now.graph now.edge
  row_edge here =
      let P : Graph N E → Type 0 = λ z. HasEdge z now.edge in
      subst P (sym s.same) (has_edge r.end r.graph w r.node s.passed now.edge s.cursor here)

  pub row_less : now.edge ≢ r.end → s.passed + 1 ≤ length (out_list r.graph r.node)
  row_less here = omega (arith, (read_part r.end r.graph w r.node s.passed now.edge s.cursor here).0)

  pub row_counted : now.edge ≡ r.end → s.passed ≡ length (out_list r.graph r.node)
  row_counted h = read_whole r.end r.graph w r.node s.passed now.edge s.cursor s.within h

  pub row_has_room : now.edge ≢ r.end → now.stop < length now.arcs
  row_has_room here = omega (arith, row_less here, s.stop_is, s.length_kept, s.room)

  whole : now.edge ≡ r.end → (e p : ℕ) → Passed r.end r.graph r.node s.passed (StandsAt r.places e p)
      ↔ ((k : ℕ) × (x : Edge E) × (edge_at r.graph k ≡ Some x) × (x.parent ≡ r.node) × StandsAt r.places e p k x.child)
  whole h e p = passed_whole r.end r.graph w r.node s.passed now.edge s.cursor s.within h (StandsAt r.places e p)

  pub row_whole : now.edge ≡ r.end
      → AreArcsOf number r.graph r.places 0 r.node now.arcs (record { begin = r.begin; end = now.stop })
  row_whole h =
      record {
        real = λ a inside.
            (let q = (whole h (number a.edge) a.place).0 ((s.arcs (number a.edge) a.place).0 (a, inside, refl, refl)) in
            let at : edge_at r.graph (number a.edge) ≡ Some q.1 = ap (λ z. edge_at r.graph z) (sym q.4.0) ∙ q.2 in
            record { edge = q.1; at = at; parent = q.3; place = q.4.1 });
        all = λ e p l. inl ((s.arcs e p).1 ((whole h e p).1 (e, l.edge, l.at, l.parent, (refl, l.place))));
      }

  module _ (here : now.edge ≢ r.end) {v next : ℕ} (look : IsLook r.end now.graph now.edge v next) where
    look₀ : IsLook r.end r.graph now.edge v next
    look₀ = let P : Graph N E → Type 0 = λ z. IsLook r.end z now.edge v next in subst P s.same look

    pub row_low : v < length r.places
    row_low =
        omega (
          arith,
          below_bound r.graph.nodes v
              (child_exists r.end r.graph w r.node s.passed now.edge s.cursor here v next look₀),
          s.fits,
        )

    pub row_on : (a : Arc I) → number a.edge ≡ now.edge → a.place ≡ get_or r.places v 0 → {g' : Graph N E}
        → g' ≡ now.graph → {looks' : ℕ} → looks' ≡ now.looks + 1 → (arcs' : List (Arc I))
        → arcs' ≡ set now.arcs now.stop a
        → Listing number r record { graph = g'; edge = next; looks = looks'; arcs = arcs'; stop = now.stop + 1 }
    row_on a e_is p_is same' counted' arcs' arcs_are =
        record {
          same = same' ∙ s.same;
          fits = s.fits;
          room = s.room;
          passed = suc s.passed;
          cursor = next_cursor r.end r.graph w r.node s.passed now.edge s.cursor here v next look₀;
          within = omega (arith, row_less here);
          counted = omega (arith, s.counted, counted');
          stop_is = omega (arith, s.stop_is);
          arcs = λ e p.
              (let step =
              passed_step r.end r.graph w r.node s.passed now.edge s.cursor here v next look₀ (StandsAt r.places e p) in (
                λ (b, inside, b_e, b_p). step.1 (elim ((one_more b).0 inside) [
                  | inl early ↦ inl ((s.arcs e p).0 (b, (same_front b).0 early, b_e, b_p))
                  | inr same ↦
                      (let num : number a.edge ≡ e = ap (λ (z : Arc I). number z.edge) (sym same) ∙ b_e in
                      let plc : a.place ≡ p = ap (λ (z : Arc I). z.place) (sym same) ∙ b_p in
                      inr (sym e_is ∙ num, sym p_is ∙ plc))
                ]),
                λ q. elim (step.0 q) [
                  | inl early ↦
                      (let (b, inside, b_e, b_p) = (s.arcs e p).1 early in
                      (b, (one_more b).1 (inl ((same_front b).1 inside)), b_e, b_p))
                  | inr new ↦ (a, (one_more a).1 (inr refl), e_is ∙ new.0, p_is ∙ new.1)
                ],
              ));
          front_kept = λ j b low. other j b (λ is. omega (arith, low, is, s.stop_is)) ∙ s.front_kept j b low;
          length_kept = ap length arcs_are ∙ length-set now.arcs now.stop a ∙ s.length_kept;
        }
      where
        other : (j : ℕ) (b : Arc I) → j ≢ now.stop → get_or arcs' j b ≡ get_or now.arcs j b
        other j b apart = ap (λ z. get_or z j b) arcs_are ∙ get_or-set_other now.arcs now.stop j a b apart

        there : a ≡ get_or arcs' now.stop a
        there =
            sym (ap (λ z. get_or z now.stop a) arcs_are ∙ get_or-set_same now.arcs now.stop a a (row_has_room here))

        one_more : (b : Arc I) → IsIn arcs' (record { begin = r.begin; end = now.stop + 1 }) b
            ↔ (IsIn arcs' (record { begin = r.begin; end = now.stop }) b ⊎ (b ≡ a))
        one_more =
            in_step arcs' r.begin now.stop a (omega (arith, s.stop_is))
            (omega (arith, row_has_room here, ap length arcs_are, length-set now.arcs now.stop a)) there

        same_front : (b : Arc I) → IsIn arcs' (record { begin = r.begin; end = now.stop }) b
            ↔ IsIn now.arcs (record { begin = r.begin; end = now.stop }) b
        same_front =
            in_same now.arcs arcs' (record { begin = r.begin; end = now.stop })
            (λ j b from till. other j b (λ is. omega (arith, till, is)))

few_none : (A : Type 0) (count bound : ℕ) → count ≤ bound → count ≤ bound_step {A = A} None bound
few_none A count zero few = few
few_none A count (suc b) few = omega (arith, few)

few_some : {A : Type 0} (x : A) (count bound : ℕ) → count ≤ bound → 1 + count ≤ bound_step (Some x) bound
few_some x count zero few = omega (arith, few)
few_some x count (suc b) few = omega (arith, few)

few_slots : {A : Type 0} (xs : List (Option A)) → count_by is_some xs ≤ bound_of xs
few_slots [] = omega arith
few_slots {A} (None ∷ xs) =
    omega (arith, count_cons {A = A} None xs, few_none A (count_by is_some xs) (bound_of xs) (few_slots xs))
few_slots (Some x ∷ xs) =
    omega (arith, count_cons (Some x) xs, few_some x (count_by is_some xs) (bound_of xs) (few_slots xs))

pub few_edges : {N E : Type 0} (g : Graph N E) → edge_count g ≤ edge_bound g
few_edges g = few_slots g.edges

-- What is listed: the graph and the number past all its edges, the nodes and their places, how many arcs and segments
-- there are, and how often edges were looked at till then.
pub record Side (N E : Type 0) : Type 0 where
  pub end : ℕ
  pub graph : Graph N E
  pub nodes : List ℕ
  pub places : List ℕ
  pub arcs : ℕ
  pub segments : ℕ
  pub looks : ℕ

-- How far it is: the graph, how many nodes are done, how often edges were looked at, the arcs, where they stop, and the
-- segments.
pub record Done (N E I : Type 0) : Type 0 where
  pub graph : Graph N E
  pub nodes : ℕ
  pub looks : ℕ
  pub arcs : List (Arc I)
  pub stop : ℕ
  pub segments : List Segment

-- the nodes that are done have their segments
pub record Siding {N E I : Type 0} (number : I → ℕ) (t : Side N E) (now : Done N E I) : Type 0 where
  pub same : now.graph ≡ t.graph
  pub stop_is : now.stop ≡ length (lists_of t.graph (take now.nodes t.nodes))
  pub counted : now.looks ≡ t.looks + now.stop
  pub laid_out : AreLaidOut now.nodes now.stop now.segments
  pub listed : (k : ℕ) → k < now.nodes
      → AreArcsOf number t.graph t.places 0 (get_or t.nodes k 0) now.arcs (segment_at now.segments k)
  pub arcs_kept : length now.arcs ≡ t.arcs
  pub segments_kept : length now.segments ≡ t.segments

pub side_start : {N E I : Type 0} (number : I → ℕ) (t : Side N E) (arcs : List (Arc I)) (segments : List Segment)
    → length arcs ≡ t.arcs → length segments ≡ t.segments → Siding number t
    record { graph = t.graph; nodes = 0; looks = t.looks; arcs = arcs; stop = 0; segments = segments }
side_start number t arcs segments arcs_are segments_are =
    record {
      same = refl;
      stop_is = refl;
      counted = omega arith;
      laid_out =
          record {
            ordered = λ k low. absurd (omega (arith, low));
            within = λ k low. absurd (omega (arith, low));
            apart = λ j k before low. absurd (omega (arith, low));
          };
      listed = λ k low. absurd (omega (arith, low));
      arcs_kept = arcs_are;
      segments_kept = segments_are;
    }

module _ {N E I : Type 0} {number : I → ℕ} {t : Side N E} (w : IsWellFormed t.end t.graph)
    (pl : IsPlaced t.graph t.nodes t.places) (fits : edge_bound t.graph ≤ t.arcs) {now : Done N E I}
    (s : Siding number t now) where
  few : (k : ℕ) → k ≤ length t.nodes → length (lists_of t.graph (take k t.nodes)) ≤ t.arcs
  few k within =
      omega (
        arith,
        lists_few t.end t.graph w (take k t.nodes) (unique_front pl k within),
        few_edges t.graph,
        fits,
      )

  pub side_counted : now.nodes ≤ length t.nodes → now.looks ≤ t.looks + edge_count t.graph
  side_counted within =
      omega (
        arith,
        s.counted,
        s.stop_is,
        lists_few t.end t.graph w (take now.nodes t.nodes) (unique_front pl now.nodes within),
      )

  module _ (more : now.nodes < length t.nodes) (u : ℕ) (u_is : u ≡ get_or t.nodes now.nodes 0) where
    longer : length (lists_of t.graph (take (now.nodes + 1) t.nodes))
        ≡ length (lists_of t.graph (take now.nodes t.nodes)) + length (out_list t.graph u)
    longer =
        ap (λ z. length (lists_of t.graph z)) (take_more t.nodes now.nodes 0 more)
        ∙ lists_append t.graph (take now.nodes t.nodes) (get_or t.nodes now.nodes 0)
        ∙ ap (λ z. length (lists_of t.graph (take now.nodes t.nodes)) + length (out_list t.graph z)) (sym u_is)

    pub side_room : now.stop + length (out_list now.graph u) ≤ length now.arcs
    side_room =
        omega (
          arith,
          longer,
          s.stop_is,
          s.arcs_kept,
          few (now.nodes + 1) (omega (arith, more)),
          ap (λ (z : Graph N E). length (out_list z u)) s.same,
        )

    pub side_on : {g' : Graph N E} → g' ≡ now.graph → {looks' : ℕ}
        → looks' ≡ now.looks + length (out_list now.graph u) → {arcs' : List (Arc I)} {stop' : ℕ}
        → AreArcsOf number now.graph t.places 0 u arcs' (record { begin = now.stop; end = stop' })
        → ((j : ℕ) (a : Arc I) → j < now.stop → get_or arcs' j a ≡ get_or now.arcs j a)
        → stop' ≡ now.stop + length (out_list now.graph u) → length arcs' ≡ length now.arcs → {segments' : List Segment}
        → segments' ≡ set now.segments now.nodes (record { begin = now.stop; end = stop' })
        → now.nodes < length now.segments
        → Siding number t
        record { graph = g'; nodes = now.nodes + 1; looks = looks'; arcs = arcs'; stop = stop'; segments = segments' }
    side_on same' counted' {arcs'} {stop'} are kept' stop_is' arcs_kept' {segments'} segments_are low =
        let out = ap (λ (z : Graph N E). length (out_list z u)) s.same in
        record {
          same = same' ∙ s.same;
          stop_is = omega (arith, stop_is', s.stop_is, longer, out);
          counted = omega (arith, counted', s.counted, stop_is');
          laid_out =
              record {
                ordered = λ k under. elim (cases_lt k now.nodes) [
                  | inl old ↦ omega (arith, s.laid_out.ordered k old, begin_old k old, end_old k old)
                  | inr new ↦ omega (arith, begin_new k (is k under new), end_new k (is k under new), stop_is')
                ];
                within = λ k under. elim (cases_lt k now.nodes) [
                  | inl old ↦ omega (arith, s.laid_out.within k old, end_old k old, stop_is')
                  | inr new ↦ omega (arith, end_new k (is k under new))
                ];
                apart = λ j k before under. elim (cases_lt k now.nodes) [
                  | inl old ↦
                      omega (
                        arith,
                        s.laid_out.apart j k before old,
                        end_old j (omega (arith, before, old)),
                        begin_old k old,
                      )
                  | inr new ↦
                      omega (
                        arith,
                        s.laid_out.within j (omega (arith, before, under)),
                        end_old j (omega (arith, before, under)),
                        begin_new k (is k under new),
                      )
                ];
              };
          listed = λ k under. elim (cases_lt k now.nodes) [
            | inl old ↦ arcs_same (same_arcs k old) (s.listed k old)
            | inr new ↦
                (let k_is : k ≡ now.nodes = is k under new in
                let G : Graph N E → Type 0 = λ z.
                AreArcsOf number z t.places 0 u arcs' (record { begin = now.stop; end = stop' }) in
                let U : ℕ → Type 0 = λ z.
                AreArcsOf number t.graph t.places 0 z arcs' (record { begin = now.stop; end = stop' }) in
                let S : Segment → Type 0 = λ z. AreArcsOf number t.graph t.places 0 (get_or t.nodes k 0) arcs' z in
                subst S (sym (at_new k k_is))
                (subst U (u_is ∙ ap (λ z. get_or t.nodes z 0) (sym k_is)) (subst G s.same are)))
          ];
          arcs_kept = arcs_kept' ∙ s.arcs_kept;
          segments_kept = ap length segments_are ∙ length-set now.segments now.nodes _ ∙ s.segments_kept;
        }
      where
        is : (k : ℕ) → k < now.nodes + 1 → now.nodes ≤ k → k ≡ now.nodes
        is k under new = omega (arith, under, new)

        at_new : (k : ℕ) → k ≡ now.nodes → segment_at segments' k ≡ record { begin = now.stop; end = stop' }
        at_new k k_is =
            ap (λ z. segment_at segments' z) k_is ∙ ap (λ z. segment_at z now.nodes) segments_are
            ∙ at_set_same now.segments now.nodes _ low

        at_old : (k : ℕ) → k < now.nodes → segment_at segments' k ≡ segment_at now.segments k
        at_old k old =
            ap (λ z. segment_at z k) segments_are
            ∙ at_set_other now.segments now.nodes k _ (λ same. omega (arith, old, same))

        begin_old : (k : ℕ) → k < now.nodes → (segment_at segments' k).begin ≡ (segment_at now.segments k).begin
        begin_old k old = ap (λ (z : Segment). z.begin) (at_old k old)

        end_old : (k : ℕ) → k < now.nodes → (segment_at segments' k).end ≡ (segment_at now.segments k).end
        end_old k old = ap (λ (z : Segment). z.end) (at_old k old)

        begin_new : (k : ℕ) → k ≡ now.nodes → (segment_at segments' k).begin ≡ now.stop
        begin_new k k_is = ap (λ (z : Segment). z.begin) (at_new k k_is)

        end_new : (k : ℕ) → k ≡ now.nodes → (segment_at segments' k).end ≡ stop'
        end_new k k_is = ap (λ (z : Segment). z.end) (at_new k k_is)

        same_arcs : (k : ℕ) → k < now.nodes → (a : Arc I)
            → IsIn arcs' (segment_at segments' k) a ↔ IsIn now.arcs (segment_at now.segments k) a
        same_arcs k old a =
            let P : Segment → Type 0 = λ z. IsIn arcs' z a ↔ IsIn now.arcs (segment_at now.segments k) a in
            subst P (sym (at_old k old))
            (in_same now.arcs arcs' (segment_at now.segments k)
            (λ j b from till. kept' j b (omega (arith, till, s.laid_out.within k old))) a)

  pub side_whole : now.nodes ≡ length t.nodes → AreArcs number t.graph t.nodes t.places 0 now.arcs now.segments
  side_whole whole =
      let end : now.stop ≤ length now.arcs =
      omega (arith, s.stop_is, few now.nodes (omega (arith, whole)), s.arcs_kept) in
      record {
        laid_out =
            record {
              ordered = λ k low. s.laid_out.ordered k (omega (arith, low, whole));
              within = λ k low. omega (arith, s.laid_out.within k (omega (arith, low, whole)), end);
              apart = λ j k before low. s.laid_out.apart j k before (omega (arith, low, whole));
            };
        few =
            omega (
              arith,
              arcs_fit s.laid_out,
              ap (arcs_in now.segments) whole,
              s.stop_is,
              lists_few t.end t.graph w (take now.nodes t.nodes) (unique_front pl now.nodes (omega (arith, whole))),
            );
        each = λ k low. s.listed k (omega (arith, low, whole));
      }

-- Flagging the edges of a node to marked children, one by one.
use Rattle.std.proofs.Common.{◌≡◌, ◌≢◌, ℕ, suc, ◌+◌, ◌<◌, ◌≤◌, Bool, true, false, ◌⊎◌, ◌↔◌, inl, inr, Some, List}
use Rattle.std.proofs.Common.{length, get_or, drop, set, refl, sym, ap, subst, ◌∙◌, arith, length-set}
use Rattle.std.proofs.lemmas.List.{get_or-set_other, get_or-set_same}
use Rattle.std.proofs.lemmas.Bool.{false≢true, cases_lt, cases_eq}
use Rattle.std.proofs.lemmas.Option.{same_Some}
use Rattle.daggy_base.specs.Graph.{Graph, Edge, HasEdge, out_list, edge_at, node_bound, edge_bound}
use Rattle.daggy_base.specs.Cursor.{first_of}
use Rattle.daggy_base.specs.WellFormed.{IsWellFormed}
use Rattle.daggy_base.specs.Look.{IsLook}
use Rattle.daggy_base.proofs.Lists.{Mem, mem_at, place_of}
use Rattle.daggy_base.proofs.OutEdgesRead.{leaves, listed, edge_below, below_bound, read_whole, read_part, has_edge}
use Rattle.daggy_base.proofs.OutEdgesRead.{child_exists, next_cursor}
use Rattle.daggy_redundant.specs.Flags.{IsFlagged, LeavesToMarked, FlagsMarked}

pub set_flag : (end : ℕ) (flags : List ℕ) (e : ℕ)
    → e < length flags → e < end → (k : ℕ) → IsFlagged end (set flags e e) k ↔ (IsFlagged end flags k ⊎ (k ≡ e))
set_flag end flags e within low k =
    elim (cases_eq k e) [
      | inl here ↦ (
        λ _. inr here,
        λ _ is.
            (let P : ℕ → Type 0 = λ z. get_or (set flags e e) z end ≡ end in
            let same = get_or-set_same flags e e end within in
            let at : get_or (set flags e e) e end ≡ end = subst P here is in omega (arith, low, same, at)),
      )
      | inr other ↦ (
        λ f. inl (λ is. f (get_or-set_other flags e k e end other ∙ is)),
        λ f. elim f [
          | inl a ↦ (λ is. a (sym (get_or-set_other flags e k e end other) ∙ is))
          | inr here ↦ absurd (other here)
        ],
      )
    ]

-- What is to be flagged: the graph and the number past all its edges, the node whose edges are gone through, which
-- nodes are marked, the flags there were before, and how often edges were looked at till then.
pub record Edges (N E : Type 0) : Type 0 where
  pub end : ℕ
  pub graph : Graph N E
  pub node : ℕ
  pub marks : List Bool
  pub flags : List ℕ
  pub looks : ℕ

-- What is flagged so far: the graph, the flags, the next edge, and how often edges were looked at.
pub record Flags (N E : Type 0) : Type 0 where
  pub graph : Graph N E
  pub flags : List ℕ
  pub edge : ℕ
  pub looks : ℕ

-- the edges that were passed are flagged where they lead to marked nodes, and no others are since
pub record Flagging {N E : Type 0} (edges : Edges N E) (now : Flags N E) : Type 0 where
  pub same : now.graph ≡ edges.graph
  pub sized : length now.flags ≡ length edges.flags
  pub fits : edge_bound edges.graph ≤ length now.flags
  pub marks_fit : node_bound edges.graph ≤ length edges.marks
  pub passed : ℕ
  pub cursor : now.edge ≡ first_of edges.end (drop passed (out_list edges.graph edges.node))
  pub within : passed ≤ length (out_list edges.graph edges.node)
  pub counted : now.looks ≡ edges.looks + passed
  pub only : (k : ℕ) → IsFlagged edges.end now.flags k
      → IsFlagged edges.end edges.flags k ⊎ LeavesToMarked edges.graph edges.node edges.marks k
  pub kept : (k : ℕ) → IsFlagged edges.end edges.flags k → IsFlagged edges.end now.flags k
  pub half : (j : ℕ) (x : Edge E) → j < passed
      → edge_at edges.graph (get_or (out_list edges.graph edges.node) j edges.end) ≡ Some x
      → get_or edges.marks x.child false ≡ true
      → IsFlagged edges.end now.flags (get_or (out_list edges.graph edges.node) j edges.end)

pub flags_start : {N E : Type 0} (edges : Edges N E) (e : ℕ) → edge_bound edges.graph ≤ length edges.flags
    → node_bound edges.graph ≤ length edges.marks → e ≡ first_of edges.end (out_list edges.graph edges.node)
    → Flagging edges record { graph = edges.graph; flags = edges.flags; edge = e; looks = edges.looks }
flags_start edges e fits marks_fit first =
    record {
      same = refl;
      sized = refl;
      fits = fits;
      marks_fit = marks_fit;
      passed = 0;
      cursor = first;
      within = omega arith;
      counted = omega arith;
      only = λ k f. inl f;
      kept = λ k f. f;
      half = λ j x lt a m. absurd (omega (arith, lt));
    }

module _ {N E : Type 0} {edges : Edges N E} (w : IsWellFormed edges.end edges.graph) {now : Flags N E}
    (s : Flagging edges now) where
  abbrev end : ℕ
  end = edges.end

  abbrev g₀ : Graph N E
  g₀ = edges.graph

  abbrev u : ℕ
  u = edges.node

  abbrev marks : List Bool
  marks = edges.marks

  abbrev before : List ℕ
  before = edges.flags

  pub edge_here : now.edge ≢ end → HasEdge now.graph now.edge
  edge_here here =
      let P : Graph N E → Type 0 = λ z. HasEdge z now.edge in
      subst P (sym s.same) (has_edge end g₀ w u s.passed now.edge s.cursor here)

  pub looked_whole : now.edge ≡ end → now.looks ≡ edges.looks + length (out_list g₀ u)
  looked_whole h = omega (arith, s.counted, read_whole end g₀ w u s.passed now.edge s.cursor s.within h)

  pub passed_less : now.edge ≢ end → s.passed + 1 ≤ length (out_list g₀ u)
  passed_less here = omega (arith, (read_part end g₀ w u s.passed now.edge s.cursor here).0)

  module _ (here : now.edge ≢ end) {v next : ℕ} (look : IsLook end now.graph now.edge v next) where
    look₀ : IsLook end g₀ now.edge v next
    look₀ = let P : Graph N E → Type 0 = λ z. IsLook end z now.edge v next in subst P s.same look

    pub child_low : v < length marks
    child_low =
        omega (
          arith,
          below_bound g₀.nodes v (child_exists end g₀ w u s.passed now.edge s.cursor here v next look₀),
          s.marks_fit,
        )

    pub edge_low : now.edge < length now.flags
    edge_low =
        omega (
          arith,
          below_bound g₀.edges now.edge (has_edge end g₀ w u s.passed now.edge s.cursor here),
          s.fits,
        )

    at_cursor : now.edge ≡ get_or (out_list g₀ u) s.passed end
    at_cursor = (read_part end g₀ w u s.passed now.edge s.cursor here).1

    leaves_here : (x : Edge E) × (edge_at g₀ now.edge ≡ Some x) × (x.parent ≡ u)
    leaves_here =
        let r = read_part end g₀ w u s.passed now.edge s.cursor here in
        leaves end g₀ w u now.edge (let P : ℕ → Type 0 = λ z. Mem z (out_list g₀ u) in
        subst P (sym r.1) (mem_at _ s.passed end r.0))

    child_is : (x : Edge E) → edge_at g₀ now.edge ≡ Some x → x.child ≡ v
    child_is x at = ap (λ (y : Edge E). y.child) (same_Some _ _ (sym at ∙ look₀.at)) ∙ sym look₀.child_is

    module _ {g' : Graph N E} (same' : g' ≡ now.graph) {looks' : ℕ} (one_more : looks' ≡ now.looks + 1)
        {flags' : List ℕ} (flagged : get_or marks v false ≡ true → flags' ≡ set now.flags now.edge now.edge)
        (passed_by : get_or marks v false ≡ false → flags' ≡ now.flags) where
      record Flagged : Type 0 where
        only : (k : ℕ) → IsFlagged end flags' k → IsFlagged end now.flags k ⊎ LeavesToMarked g₀ u marks k
        kept : (k : ℕ) → IsFlagged end now.flags k → IsFlagged end flags' k
        here_too : get_or marks v false ≡ true → IsFlagged end flags' now.edge
        size_kept : length flags' ≡ length now.flags

      flagged_now : Flagged
      flagged_now = go (get_or marks v false) refl
        where
          go : (b : Bool) → b ≡ get_or marks v false → Flagged
          go true is =
              let h = flagged (sym is) in
              let x = leaves_here in
              let low = edge_below end g₀ w now.edge x.0 x.1 in
              let P : List ℕ → Type 0 = λ z.
              (k : ℕ) → IsFlagged end z k ↔ (IsFlagged end now.flags k ⊎ (k ≡ now.edge)) in
              let all = subst P (sym h) (set_flag end now.flags now.edge edge_low low) in
              let M : ℕ → Type 0 = λ z. get_or marks z false ≡ true in
              let L : ℕ → Type 0 = λ z. LeavesToMarked g₀ u marks z in
              record {
                only = λ k f. elim ((all k).0 f) [
                  | inl a ↦ inl a
                  | inr k_is ↦ inr (subst L (sym k_is) (record {
                    edge = x.0;
                    at = x.1;
                    parent = x.2;
                    child = subst M (sym (child_is x.0 x.1)) (sym is);
                  }))
                ];
                kept = λ k f. (all k).1 (inl f);
                here_too = λ _. (all now.edge).1 (inr refl);
                size_kept = ap length h ∙ length-set now.flags now.edge now.edge;
              }
          go false is =
              let h = passed_by (sym is) in
              let P : List ℕ → Type 0 = λ z. (k : ℕ) → IsFlagged end z k ↔ IsFlagged end now.flags k in
              let all = subst P (sym h) (λ k. (λ f. f, λ f. f)) in
              record {
                only = λ k f. inl ((all k).0 f);
                kept = λ k f. (all k).1 f;
                here_too = λ m. absurd (false≢true (is ∙ m));
                size_kept = ap length h;
              }

      pub flags_on : Flagging edges record { graph = g'; flags = flags'; edge = next; looks = looks' }
      flags_on =
          record {
            same = same' ∙ s.same;
            sized = flagged_now.size_kept ∙ s.sized;
            fits = omega (arith, s.fits, flagged_now.size_kept);
            marks_fit = s.marks_fit;
            passed = suc s.passed;
            cursor = next_cursor end g₀ w u s.passed now.edge s.cursor here v next look₀;
            within = omega (arith, passed_less here);
            counted = omega (arith, s.counted, one_more);
            only = λ k f. elim (flagged_now.only k f) [ inl a ↦ s.only k a | inr b ↦ inr b ];
            kept = λ k f. flagged_now.kept k (s.kept k f);
            half = λ j x lt a m. elim (cases_lt j s.passed) [
              | inl early ↦ flagged_now.kept _ (s.half j x early a m)
              | inr late ↦ (
                  let last : j ≡ s.passed = omega (arith, lt, late) in
                  let is : get_or (out_list g₀ u) j end ≡ now.edge =
                  ap (λ (z : ℕ). get_or (out_list g₀ u) z end) last ∙ sym at_cursor in
                  let P : ℕ → Type 0 = λ z. IsFlagged end flags' z in
                  let M : ℕ → Type 0 = λ z. get_or marks z false ≡ true in
                  subst P (sym is) (flagged_now.here_too (subst M (child_is x (ap (λ z. edge_at g₀ z) (sym is) ∙ a)) m))
                  )
            ];
          }

  -- at `end` all were gone through
  pub flags_marked : now.edge ≡ end → FlagsMarked end g₀ u marks before now.flags
  flags_marked h k = (
    s.only k,
    λ f. elim f [
      | inl a ↦ s.kept k a
      | inr l ↦ (
          let p = place_of (out_list g₀ u) k end (listed end g₀ w u k l.edge l.at l.parent) in
          let P : ℕ → Type 0 = λ z. IsFlagged end now.flags z in
          let all = read_whole end g₀ w u s.passed now.edge s.cursor s.within h in
          subst P p.2 (s.half p.0 l.edge (omega (arith, p.1, all)) (ap (λ (z : ℕ). edge_at g₀ z) p.2 ∙ l.at) l.child)
          )
    ],
  )

-- A block worked through, node by node from the last to the first, while rows are written and edges are flagged.
use Rattle.std.proofs.Common.{◌≡◌, ℕ, suc, ◌+◌, ◌-◌, ◌*◌, ◌<◌, ◌≤◌, Bool, true, false, ◌⊎◌, ◌↔◌, inl, inr, List}
use Rattle.std.proofs.Common.{length, get_or, set, length-set, refl, sym, ap, subst, ◌∙◌, arith, Contains}
use Rattle.std.proofs.lemmas.Bool.{cases_eq, cases_lt}
use Rattle.daggy_base.specs.Graph.{Graph, Edge, edge_count}
use Rattle.daggy_base.specs.Path.{AreJoined}
use Rattle.daggy_base.specs.Reduction.{ReachesIndirectly}
use Rattle.daggy_base.specs.WellFormed.{IsWellFormed}
use Rattle.daggy_base.proofs.OutEdgesRead.{joins}
use Rattle.daggy_search.specs.declared.arcs.Arc.{Arc}
use Rattle.daggy_search.specs.declared.arcs.Segment.{Segment}
use Rattle.daggy_redundant.specs.Flags.{IsFlagged}
use Rattle.daggy_reduction.proofs.BlockRows.{AreRows, IsRow}
use Rattle.daggy_reduction.specs.Blocks.{IsPlaced, HasBits, HasBit, AreArcsOf, AreArcs, AreLaidOut, AreLeft, HasArcTo}
use Rattle.daggy_reduction.specs.Blocks.{ArePassedOn, MarksArcs, is_in_row, segment_at, segment_length, arcs_in, LeadsInto}
use Rattle.daggy_reduction.specs.Blocks.{IsArcTo, StayBefore, LeadAtMost}
use Rattle.daggy_reduction.proofs.SegmentArcs.{arcs_same, arcs_later}
use Rattle.daggy_reduction.proofs.LaidOut.{laid_out_shorter, others_kept, here_is, arcs_fewer, each_shorter}
use Rattle.daggy_reduction.proofs.BlockRows.{LeadsFrom, there, listed_at}
use Rattle.daggy_reduction.proofs.BlockRows.{row_direct, row_indirect, rows_pass, row_both, rows_on, flags_here, arcs_left}

-- What is worked through: the graph and the number past all its edges, the nodes and their places, the block, how many
-- rows, arcs and segments there are, and the flags from before.
pub record Task (N E I : Type 0) : Type 0 where
  pub number : I → ℕ
  pub end : ℕ
  pub graph : Graph N E
  pub nodes : List ℕ
  pub places : List ℕ
  pub low : ℕ
  pub high : ℕ
  pub room : ℕ
  pub segments : ℕ
  pub flags : List ℕ

-- How far it is: the rows, the arcs and their segments, the flags, and how many nodes are left.
pub record Progress (I : Type 0) : Type 0 where
  pub rows : List (List Bool)
  pub arcs : List (Arc I)
  pub segments : List Segment
  pub flags : List ℕ
  pub left : ℕ

-- the nodes behind those that are left have their rows, and the flags of their edges, and no arc that has a flag
pub record Working {N E I : Type 0} (t : Task N E I) (now : Progress I) : Type 0 where
  pub within : now.left ≤ t.high
  pub sized : length now.flags ≡ length t.flags
  pub roomy : length now.rows ≡ t.room
  pub parted : length now.segments ≡ t.segments
  pub laid_out : AreLaidOut (length t.nodes) (length now.arcs) now.segments
  pub few : arcs_in now.segments (length t.nodes) ≤ edge_count t.graph
  pub ahead : (k : ℕ) → k < now.left
      → AreArcsOf t.number t.graph t.places t.low (get_or t.nodes k 0) now.arcs (segment_at now.segments k)
  pub behind : (k : ℕ) → now.left ≤ k → k < length t.nodes
      → AreArcsOf t.number t.graph t.places t.high (get_or t.nodes k 0) now.arcs (segment_at now.segments k)
  pub rows : AreRows t.graph t.nodes t.low t.high now.left now.rows
  pub flagged : (e : ℕ) → IsFlagged t.end now.flags e
      ↔ (IsFlagged t.end t.flags e
      ⊎ ((m : ℕ) × (now.left ≤ m) × (m < t.high) × LeadsFrom t.graph t.places t.low t.high (get_or t.nodes m 0) e))

-- How far a search for the next block's first node is: no node from the place left up to it has a child past the block,
-- and it is as near as its edges lead.
pub record Onward {N E : Type 0} (g : Graph N E) (nodes places : List ℕ) (high left first : ℕ) : Type 0 where
  pub early : first ≤ high
  pub before : (u v : ℕ) → Contains nodes u → AreJoined g u v → left ≤ get_or places u 0 → get_or places u 0 < first
      → get_or places v 0 < high
  pub near : (d : ℕ) → LeadAtMost g nodes places d → high ≤ first + d

pub onward_start : {N E : Type 0} (g : Graph N E) (nodes places : List ℕ) (high : ℕ) → Onward g nodes places high high high
onward_start g nodes places high =
    record {
      early = omega arith;
      before = λ u v c j from till. absurd (omega (arith, from, till));
      near = λ d all. omega arith;
    }

-- nodes that are left have no child past the block, where they have none in it
pub onward_done : {N E : Type 0} {g : Graph N E} {nodes places : List ℕ} {high left first : ℕ}
    → Onward g nodes places high left first → (from low : ℕ) → left ≤ from → StayBefore g nodes places from low
    → low ≤ high → StayBefore g nodes places first high
onward_done {places = places} {left = left} o from low stop stays up u v c j till =
    elim (cases_lt (get_or places u 0) left) [
      | inl early ↦ omega (arith, stays u v c j (omega (arith, early, stop)), up)
      | inr late ↦ o.before u v c j late till
    ]

pub work_start : {N E I : Type 0} (t : Task N E I) (rows : List (List Bool)) (arcs : List (Arc I)) (segments : List Segment)
    → length rows ≡ t.room → length segments ≡ t.segments → t.low ≤ t.high → t.high ≤ length t.nodes
    → AreArcs t.number t.graph t.nodes t.places t.low arcs segments
    → Working t record { rows = rows; arcs = arcs; segments = segments; flags = t.flags; left = t.high }
work_start t rows arcs segments roomy parted up inside are =
    record {
      within = omega arith;
      sized = refl;
      roomy = roomy;
      parted = parted;
      laid_out = are.laid_out;
      few = are.few;
      ahead = λ k low. are.each k (omega (arith, low, inside));
      behind = λ k from low. arcs_later up (are.each k low);
      rows = λ m from till. absurd (omega (arith, from, till));
      flagged = λ e. (
        λ f. inl f,
        λ h. elim h [ inl f ↦ f | inr late ↦ absurd (omega (arith, late.1, late.2)) ],
      );
    }

module _ {N E I : Type 0} {t : Task N E I} (w : IsWellFormed t.end t.graph) (pl : IsPlaced t.graph t.nodes t.places)
    (inside : t.high ≤ length t.nodes) {now : Progress I} (s : Working t now) where
  module _ (m : ℕ) (m_is : suc m ≡ now.left) where
    abbrev n : ℕ
    n = get_or t.nodes m 0

    here : m < length t.nodes
    here = omega (arith, m_is, s.within, inside)

    abbrev seg : Segment
    seg = segment_at now.segments m

    pub arcs_are : AreArcsOf t.number t.graph t.places t.low n now.arcs seg
    arcs_are = s.ahead m (omega (arith, m_is))

    rows_are : AreRows t.graph t.nodes t.low t.high (suc m) now.rows
    rows_are =
        let P : ℕ → Type 0 = λ z. AreRows t.graph t.nodes t.low t.high z now.rows in subst P (sym m_is) s.rows

    -- what was paid for, with what the nodes that are left cost at most
    pub work_paid : (before : List Segment) → ((k : ℕ) → segment_length now.segments k ≤ segment_length before k)
        → (looks looks' all : ℕ) → looks + 2 * arcs_in before now.left ≤ all
        → looks' ≤ looks + 2 * (seg.end - seg.begin) → looks' + 2 * arcs_in before m ≤ all
    work_paid before shorter looks looks' all paid more =
        omega (arith, paid, more, shorter m, ap (arcs_in before) m_is)

    -- the segments are still no longer than they were
    pub work_shorter : (before : List Segment) → ((k : ℕ) → segment_length now.segments k ≤ segment_length before k)
        → length t.nodes ≤ length now.segments → (stop : ℕ) → seg.begin ≤ stop → stop ≤ seg.end → {segments' : List Segment}
        → segments' ≡ set now.segments m (record { begin = seg.begin; end = stop })
        → (k : ℕ) → segment_length segments' k ≤ segment_length before k
    work_shorter before shorter fits stop from till segments_are k =
        omega (
          arith,
          shorter k,
          ap (λ z. segment_length z k) segments_are,
          each_shorter s.laid_out m here fits stop from till k,
        )

    -- whether the node has a child past the block tells where the next block's first node is
    pub onward_on : t.low < t.high → {first : ℕ} → Onward t.graph t.nodes t.places t.high now.left first → (beyond : ℕ)
        → ((t.high ≤ beyond) ↔ HasArcTo now.arcs seg (λ p. t.high ≤ p)) → {first' : ℕ} → (t.high ≤ beyond → first' ≡ m)
        → (beyond < t.high → first' ≡ first) → Onward t.graph t.nodes t.places t.high m first'
    onward_on up {first} o beyond told {first'} this other =
        elim (cases_lt beyond t.high) [ inl none ↦ later none (other none) | inr some ↦ here_first some (this some) ]
      where
        here_first : t.high ≤ beyond → first' ≡ m → Onward t.graph t.nodes t.places t.high m first'
        here_first some at =
            record {
              early = omega (arith, at, m_is, s.within);
              before = λ u v c j from till. absurd (omega (arith, at, from, till));
              near = λ d all.
                  (let (a, inside, far) = told.0 some in
                  let l = arcs_are.real a inside in
                  let j = joins t.end t.graph w (t.number a.edge) n l.edge l.at l.parent in
                  omega (arith, at, far, l.place, all n l.edge.child (listed_at pl m here) j, pl.at m here));
            }

        stays : beyond < t.high → (v : ℕ) → AreJoined t.graph n v → get_or t.places v 0 < t.high
        stays none v j =
            let x : Edge E = record { parent = n; child = v; weight = j.1 } in
            let l : IsArcTo t.graph t.places n j.0 (get_or t.places v 0) =
            record { edge = x; at = j.2; parent = refl; place = refl } in
            elim (arcs_are.all j.0 (get_or t.places v 0) l) [
              | inl (a, inside, e_is, p_is) ↦ elim (cases_lt (get_or t.places v 0) t.high) [
                | inl low ↦ low
                | inr far ↦ absurd (omega (arith, none, told.1 (a, inside, omega (arith, p_is, far))))
              ]
              | inr (early, round) ↦ omega (arith, early, up)
            ]

        later : beyond < t.high → first' ≡ first → Onward t.graph t.nodes t.places t.high m first'
        later none at =
            record {
              early = omega (arith, at, o.early);
              before = λ u v c j from till. elim (cases_lt (get_or t.places u 0) now.left) [
                | inl left ↦
                    (let u_is : n ≡ u =
                    ap (λ z. get_or t.nodes z 0) (omega (arith, from, left, m_is)) ∙ (there pl u c).1 in
                    stays none v (subst (λ z. AreJoined t.graph z v) (sym u_is) j))
                | inr done ↦ o.before u v c j done (omega (arith, at, till))
              ];
              near = λ d all. omega (arith, at, o.near d all);
            }

    pub passed_on : ArePassedOn now.arcs seg t.low t.high now.rows
    passed_on = rows_pass pl t.low t.high inside m here t.number w now.arcs seg arcs_are now.rows rows_are

    module _ (direct indirect row : List Bool)
        (d : HasBits t.low t.high (λ i. HasArcTo now.arcs seg (λ p. p ≡ t.low + i)) direct)
        (r : HasBits t.low t.high (λ i. HasArcTo now.arcs seg (λ p. (p < t.high) × HasBit now.rows p i)) indirect)
        (flags' : List ℕ) (marked : MarksArcs t.end t.number now.arcs seg (is_in_row t.low t.high indirect) now.flags flags')
        (both : (i : ℕ)
        → (get_or row i false ≡ true) ↔ ((get_or direct i false ≡ true) ⊎ (get_or indirect i false ≡ true)))
        (stop : ℕ) (arcs' : List (Arc I))
        (left : AreLeft (is_in_row t.low t.high indirect) seg stop now.arcs arcs') where
      r₁ : IsRow t.nodes t.low t.high (ReachesIndirectly t.graph n) indirect
      r₁ = row_indirect pl t.low t.high inside m here t.number w now.arcs seg arcs_are now.rows indirect rows_are r

      pub work_on : (rows' : List (List Bool)) → rows' ≡ set now.rows m row → m < length now.rows
          → length rows' ≡ length now.rows → length flags' ≡ length now.flags → (segments' : List Segment)
          → segments' ≡ set now.segments m (record { begin = seg.begin; end = stop })
          → length t.nodes ≤ length now.segments → t.low < t.high
          → Working t record { rows = rows'; arcs = arcs'; segments = segments'; flags = flags'; left = m }
      work_on rows' rows_is room rows_kept flags_kept segments' segments_are fits some =
          let d₁ = row_direct pl t.low t.high inside m here t.number w now.arcs seg arcs_are direct d in
          let b₁ = row_both pl t.low t.high inside m here direct indirect row d₁ r₁ both in
          let on = rows_on pl t.low t.high inside m here now.rows row room rows_are b₁ in
          let R : List (List Bool) → Type 0 = λ z. AreRows t.graph t.nodes t.low t.high m z in
          let F : ℕ → ℕ → Type 0 = λ e z. LeadsFrom t.graph t.places t.low t.high (get_or t.nodes z 0) e in
          let L : List Segment → Type 0 = λ z. AreLaidOut (length t.nodes) (length arcs') z in
          record {
            within = omega (arith, m_is, s.within);
            sized = flags_kept ∙ s.sized;
            roomy = rows_kept ∙ s.roomy;
            parted = ap length segments_are ∙ length-set now.segments m _ ∙ s.parted;
            laid_out =
                subst L (sym segments_are)
                (laid_out_shorter s.laid_out m here fits stop left.from left.till left.length_kept);
            few =
                omega (
                  arith,
                  s.few,
                  ap (λ z. arcs_in z (length t.nodes)) segments_are,
                  arcs_fewer s.laid_out m here fits stop left.from left.till (length t.nodes),
                );
            ahead = λ k low.
                (let S : List Segment → Type 0 = λ z.
                AreArcsOf t.number t.graph t.places t.low (get_or t.nodes k 0) arcs' (segment_at z k) in
                subst S (sym segments_are)
                (arcs_same (others_kept s.laid_out m here fits stop left.from left.till now.arcs arcs' left.others k
                (λ is. omega (arith, low, is)) (omega (arith, low, here))) (s.ahead k (omega (arith, low, m_is)))));
            behind = λ k from low. subst (Behind k) (sym segments_are) (elim (cases_eq k m) [
              | inl is ↦
                  (let P : ℕ → Type 0 = λ z. Behind z (set now.segments m (record { begin = seg.begin; end = stop })) in
                  subst P (sym is)
                  (arcs_same (here_is s.laid_out m here fits stop left.from left.till arcs')
                  (arcs_left pl t.low t.high inside m here t.number w now.arcs seg arcs_are indirect r₁ some stop arcs' left)))
              | inr apart ↦
                  arcs_same (others_kept s.laid_out m here fits stop left.from left.till now.arcs arcs' left.others k apart
                  low) (s.behind k (omega (arith, from, apart, m_is)) low)
            ]);
            rows = subst R (sym rows_is) on;
            flagged = λ e.
                (let f =
                flags_here pl t.low t.high inside m here t.number w now.arcs seg arcs_are indirect r₁ now.flags flags'
                marked e in (
                  λ h. elim (f.0 h) [
                    | inl a ↦ elim ((s.flagged e).0 a) [
                      | inl b ↦ inl b
                      | inr late ↦ inr (late.0, omega (arith, late.1, m_is), late.2, late.3)
                    ]
                    | inr l ↦ inr (m, omega arith, omega (arith, m_is, s.within), l)
                  ],
                  λ h. f.1 (elim h [
                    | inl a ↦ inl ((s.flagged e).1 (inl a))
                    | inr late ↦ elim (cases_eq late.0 m) [
                      | inl is ↦ inr (let P : ℕ → Type 0 = λ z. F e z in subst P is late.3)
                      | inr other ↦
                          inl ((s.flagged e).1 (inr (late.0, omega (arith, late.1, other, m_is), late.2, late.3)))
                    ]
                  ]),
                ));
          }
        where
          Behind : ℕ → List Segment → Type 0
          Behind k z = AreArcsOf t.number t.graph t.places t.high (get_or t.nodes k 0) arcs' (segment_at z k)

  -- each node has its arcs, also one that is left
  pub work_listed : t.low ≤ t.high → AreArcs t.number t.graph t.nodes t.places t.high now.arcs now.segments
  work_listed up =
      record {
        laid_out = s.laid_out;
        few = s.few;
        each = λ k low. elim (cases_lt k now.left) [
          | inl early ↦ arcs_later up (s.ahead k early)
          | inr late ↦ s.behind k late low
        ];
      }

  -- where no edge leads from those that are left into the block, exactly the edges that lead into it are flagged since
  pub work_done : (first : ℕ) → now.left ≤ first → StayBefore t.graph t.nodes t.places first t.low → (e : ℕ)
      → IsFlagged t.end now.flags e ↔ (IsFlagged t.end t.flags e ⊎ LeadsInto t.graph t.nodes t.places t.low t.high e)
  work_done first stop stays e = (
    λ h. elim ((s.flagged e).0 h) [
      | inl a ↦ inl a
      | inr late ↦
          (let l = late.3 in
          let C : ℕ → Type 0 = λ z. Contains t.nodes z in
          let R : ℕ → Type 0 = λ z. ReachesIndirectly t.graph z l.edge.child in
          inr (record {
            edge = l.edge;
            at = l.at;
            parent = subst C (sym l.parent) (listed_at pl late.0 (omega (arith, late.2, inside)));
            round = subst R (sym l.parent) l.round;
            from = l.from;
            till = l.till;
          }))
    ],
    λ h. (s.flagged e).1 (elim h [
      | inl a ↦ inl a
      | inr l ↦
          (let u = l.edge.parent in
          let at = there pl u l.parent in
          let R : ℕ → Type 0 = λ z. ReachesIndirectly t.graph z l.edge.child in
          let joined = joins t.end t.graph w e u l.edge l.at refl in
          let rise = pl.sorted u l.edge.child l.parent joined in
          inr (
            get_or t.places u 0,
            elim (cases_lt (get_or t.places u 0) now.left) [
              | inl early ↦ absurd (omega (arith, l.from, stays u l.edge.child l.parent joined (omega (arith, early, stop))))
              | inr late ↦ late
            ],
            omega (arith, rise, l.till),
            record {
              edge = l.edge;
              at = l.at;
              parent = sym at.1;
              round = subst R (sym at.1) l.round;
              from = l.from;
              till = l.till;
            },
          ))
    ]),
  )

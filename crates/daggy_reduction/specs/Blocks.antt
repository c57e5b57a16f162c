-- Nodes in an order with their positions, and rows of bits over a block of them.
use Rattle.std.specs.Prelude.{◌≡◌, ℕ, ◌+◌, ◌-◌, ◌/◌, ◌<◌, ◌≤◌, Bool, true, false, ◌&&◌, nat_lt, nat_le, Some, List, []}
use Rattle.std.specs.Prelude.{length, slice_index, slice_index_or, Contains, ◌↔◌, ◌⊎◌}
use Rattle.daggy_base.specs.Graph.{Graph, Edge, HasNode, edge_at, edge_count}
use Rattle.daggy_base.specs.Path.{AreJoined}
use Rattle.daggy_base.specs.Reduction.{ReachesIndirectly}
use Rattle.daggy_search.specs.declared.arcs.Arc.{Arc}
use Rattle.daggy_search.specs.declared.arcs.Segment.{Segment}
use Rattle.daggy_redundant.specs.Flags.{IsFlagged}
use Rattle.daggy_reduction.specs.CountedArcs.{sum_below}

-- how many blocks of 512 nodes it takes for this many nodes
abbrev pub blocks_of : (nodes : ℕ) → ℕ
blocks_of nodes = (nodes + 511) / 512

-- existing nodes and everything that they reach, each parent before its children, with the position of each; other
-- nodes have positions past the end
pub record IsPlaced {N E : Type 0} (g : Graph N E) (nodes places : List ℕ) : Type 0 where
  pub exist : (n : ℕ) → Contains nodes n → HasNode g n
  pub at : (k : ℕ) → k < length nodes → slice_index places (slice_index nodes k) ≡ k
  pub elsewhere : (n : ℕ) → HasNode g n
      → slice_index places n < length nodes → slice_index nodes (slice_index places n) ≡ n
  pub closed : (u v : ℕ) → Contains nodes u → AreJoined g u v → Contains nodes v
  pub sorted : (u v : ℕ) → Contains nodes u → AreJoined g u v → slice_index places u < slice_index places v

-- no edge leads from a node before the position first to the position low, or past it
abbrev pub StayBefore : {N E : Type 0} → Graph N E → (nodes places : List ℕ) (first low : ℕ) → Type 0
StayBefore g nodes places first low =
    (u v : ℕ) → Contains nodes u → AreJoined g u v → slice_index places u < first → slice_index places v < low

-- each edge that leaves one of the nodes leads at most d positions on
abbrev pub LeadAtMost : {N E : Type 0} → Graph N E → (nodes places : List ℕ) (d : ℕ) → Type 0
LeadAtMost g nodes places d =
    (u v : ℕ) → Contains nodes u → AreJoined g u v → slice_index places v ≤ slice_index places u + d

-- of the bits of a block, exactly those are set for which the test holds
abbrev pub HasBits : (low high : ℕ) → (ℕ → Type 0) → List Bool → Type 0
HasBits low high At row = (i : ℕ) → low + i < high → (slice_index_or row i false ≡ true) ↔ At i

-- e leaves u, and its child is at the position p
pub record IsArcTo {N E : Type 0} (g : Graph N E) (places : List ℕ) (u e p : ℕ) : Type 0 where
  pub edge : Edge E
  pub at : edge_at g e ≡ Some edge
  pub parent : edge.parent ≡ u
  pub place : slice_index places edge.child ≡ p

-- an arc of a segment
abbrev pub IsIn : {I : Type 0} → List (Arc I) → Segment → Arc I → Type 0
IsIn arcs s a = (j : ℕ) × (s.begin ≤ j) × (j < s.end) × (slice_index_or arcs j a ≡ a)

-- The edges that leave u, each with the position of its child. An edge to a position before low may be left out if a
-- longer path leads there too.
pub record AreArcsOf {N E I : Type 0} (number : I → ℕ) (g : Graph N E) (places : List ℕ) (low u : ℕ)
    (arcs : List (Arc I)) (s : Segment) : Type 0 where
  pub real : (a : Arc I) → IsIn arcs s a → IsArcTo g places u (number a.edge) a.place
  pub all : (e p : ℕ) (l : IsArcTo g places u e p) → ((a : Arc I) × IsIn arcs s a × (number a.edge ≡ e) × (a.place ≡ p))
      ⊎ ((p < low) × ReachesIndirectly g u l.edge.child)

-- the segment of a node
abbrev pub segment_at : List Segment → ℕ → Segment
segment_at segments k = slice_index_or segments k (record { begin = 0; end = 0 })

-- how many arcs the segment of a node has
abbrev pub segment_length : List Segment → ℕ → ℕ
segment_length segments k = (segment_at segments k).end - (segment_at segments k).begin

-- how many arcs the first segments have
abbrev pub arcs_in : List Segment → (count : ℕ) → ℕ
arcs_in segments count = sum_below (segment_length segments) count

-- segments one after another
pub record AreLaidOut (count total : ℕ) (segments : List Segment) : Type 0 where
  pub ordered : (k : ℕ) → k < count → (segment_at segments k).begin ≤ (segment_at segments k).end
  pub within : (k : ℕ) → k < count → (segment_at segments k).end ≤ total
  pub apart : (j k : ℕ) → j < k → k < count → (segment_at segments j).end ≤ (segment_at segments k).begin

-- a segment of them for each node, and no more arcs than edges
pub record AreArcs {N E I : Type 0} (number : I → ℕ) (g : Graph N E) (nodes places : List ℕ) (low : ℕ)
    (arcs : List (Arc I)) (segments : List Segment) : Type 0 where
  pub laid_out : AreLaidOut (length nodes) (length arcs) segments
  pub few : arcs_in segments (length nodes) ≤ edge_count g
  pub each : (k : ℕ) → k < length nodes
      → AreArcsOf number g places low (slice_index nodes k) arcs (segment_at segments k)

-- one of the arcs leads to a position that passes the test
abbrev pub HasArcTo : {I : Type 0} → List (Arc I) → Segment → (ℕ → Type 0) → Type 0
HasArcTo {I} arcs s At = (a : Arc I) × IsIn arcs s a × At a.place

-- the row of the position p has the bit i
abbrev pub HasBit : (rows : List (List Bool)) (p i : ℕ) → Type 0
HasBit rows p i = slice_index_or (slice_index_or rows p []) i false ≡ true

-- if the row of an arc's position has the position of another arc in a block, it has everything that the other row has
abbrev pub ArePassedOn : {I : Type 0} → List (Arc I) → Segment → (low high : ℕ) (rows : List (List Bool)) → Type 0
ArePassedOn {I} arcs s low high rows =
    (a b : Arc I) → IsIn arcs s a → IsIn arcs s b → a.place < high → low ≤ b.place → b.place < high
    → HasBit rows a.place (b.place - low)
    → (i : ℕ) → low + i < high → HasBit rows b.place i → HasBit rows a.place i

-- the edges of the arcs to marked positions are flagged too, and nothing else
abbrev pub MarksArcs : {I : Type 0}
    → (end : ℕ) → (number : I → ℕ) → List (Arc I) → Segment → (mark : ℕ → Bool) (old new : List ℕ) → Type 0
MarksArcs {I} end number arcs s mark old new =
    (e : ℕ) → IsFlagged end new e ↔ (IsFlagged end old e
    ⊎ ((a : Arc I) × IsIn arcs s a × (number a.edge ≡ e) × (mark a.place ≡ true)))

-- whether a position is in a block and in the row
abbrev pub is_in_row : (low high : ℕ) → List Bool → ℕ → Bool
is_in_row low high row p = nat_le low p && (nat_lt p high && slice_index_or row (p - low) false)

-- e leads to a node of a block, and a longer path leads there too
pub record LeadsInto {N E : Type 0} (g : Graph N E) (nodes places : List ℕ) (low high e : ℕ) : Type 0 where
  pub edge : Edge E
  pub at : edge_at g e ≡ Some edge
  pub parent : Contains nodes edge.parent
  pub round : ReachesIndirectly g edge.parent edge.child
  pub from : low ≤ slice_index places edge.child
  pub till : slice_index places edge.child < high

-- The arcs of a segment that are not marked, at its front, up to a new end. The other arcs are as before.
pub record AreLeft {I : Type 0} (mark : ℕ → Bool) (s : Segment) (end : ℕ) (old new : List (Arc I)) : Type 0 where
  pub from : s.begin ≤ end
  pub till : end ≤ s.end
  pub exact : (a : Arc I)
      → IsIn new (record { begin = s.begin; end = end }) a ↔ (IsIn old s a × (mark a.place ≡ false))
  pub others : (j : ℕ) (a : Arc I) → (j < s.begin) ⊎ (s.end ≤ j) → slice_index_or new j a ≡ slice_index_or old j a
  pub length_kept : length new ≡ length old

-- All blocks worked through, from the first to the last.
use Rattle.std.proofs.Common.{◌≡◌, ℕ, ◌<◌, ◌≤◌, ◌⊎◌, ◌↔◌, inl, inr, List}
use Rattle.std.proofs.Common.{length, get_or, refl, sym, subst, ◌∙◌, arith, Contains}
use Rattle.std.proofs.lemmas.Bool.{cases_lt}
use Rattle.daggy_base.specs.Graph.{Graph}
use Rattle.daggy_base.specs.Reduction.{IsBelow, IsRedundant}
use Rattle.daggy_base.specs.WellFormed.{IsWellFormed}
use Rattle.daggy_base.proofs.OutEdgesRead.{joins}
use Rattle.daggy_redundant.specs.Flags.{IsFlagged}
use Rattle.daggy_search.specs.declared.arcs.Arc.{Arc}
use Rattle.daggy_search.specs.declared.arcs.Segment.{Segment}
use Rattle.daggy_reduction.specs.Blocks.{IsPlaced, AreArcs, LeadsInto}
use Rattle.daggy_reduction.proofs.BlockRows.{there}

-- What is worked through: the graph and the number past all its edges, the nodes and their places, and how many rows,
-- segments and flags there are.
pub record Plan (N E I : Type 0) : Type 0 where
  pub number : I → ℕ
  pub end : ℕ
  pub graph : Graph N E
  pub nodes : List ℕ
  pub places : List ℕ
  pub rows : ℕ
  pub segments : ℕ
  pub flags : ℕ

-- How far it is: how many rows there are, the arcs, the flags, and where the next block begins.
pub record Stage (I : Type 0) : Type 0 where
  pub rows : ℕ
  pub arcs : List (Arc I)
  pub segments : List Segment
  pub flags : List ℕ
  pub low : ℕ

-- exactly the redundant edges that lead to the nodes of the blocks so far are flagged
pub record Blocks {N E I : Type 0} (plan : Plan N E I) (now : Stage I) : Type 0 where
  pub within : now.low ≤ length plan.nodes
  pub sized : length now.flags ≡ plan.flags
  pub roomy : now.rows ≡ plan.rows
  pub parted : length now.segments ≡ plan.segments
  pub listed : AreArcs plan.number plan.graph plan.nodes plan.places now.low now.arcs now.segments
  pub flagged : (e : ℕ) → IsFlagged plan.end now.flags e ↔ LeadsInto plan.graph plan.nodes plan.places 0 now.low e

pub blocks_start : {N E I : Type 0} (plan : Plan N E I) (flags : List ℕ) → length flags ≡ plan.flags
    → ((e : ℕ) → ¬ IsFlagged plan.end flags e) → (arcs : List (Arc I)) (segments : List Segment)
    → length segments ≡ plan.segments → AreArcs plan.number plan.graph plan.nodes plan.places 0 arcs segments
    → Blocks plan record { rows = plan.rows; arcs = arcs; segments = segments; flags = flags; low = 0 }
blocks_start plan flags sized none arcs segments parted listed =
    record {
      within = omega arith;
      sized = sized;
      roomy = refl;
      parted = parted;
      listed = listed;
      flagged = λ e. (λ f. absurd (none e f), λ l. absurd (omega (arith, l.till)));
    }

module _ {N E I : Type 0} {plan : Plan N E I} {now : Stage I} (s : Blocks plan now) where
  pub blocks_on : (high : ℕ) → high ≤ length plan.nodes → now.low < high → (rows' : ℕ) (flags' : List ℕ)
      → rows' ≡ now.rows → length flags' ≡ length now.flags
      → ((e : ℕ) → IsFlagged plan.end flags' e
      ↔ (IsFlagged plan.end now.flags e ⊎ LeadsInto plan.graph plan.nodes plan.places now.low high e))
      → (arcs' : List (Arc I)) (segments' : List Segment) → length segments' ≡ length now.segments
      → AreArcs plan.number plan.graph plan.nodes plan.places high arcs' segments'
      → Blocks plan record { rows = rows'; arcs = arcs'; segments = segments'; flags = flags'; low = high }
  blocks_on high fits up rows' flags' rows_kept flags_kept flagged' arcs' segments' parted' listed' =
      record {
        within = fits;
        sized = flags_kept ∙ s.sized;
        roomy = rows_kept ∙ s.roomy;
        parted = parted' ∙ s.parted;
        listed = listed';
        flagged = λ e. (
          λ f. elim ((flagged' e).0 f) [
            | inl a ↦
                (let l = (s.flagged e).0 a in
                record {
                  edge = l.edge;
                  at = l.at;
                  parent = l.parent;
                  round = l.round;
                  from = l.from;
                  till = omega (arith, l.till, up);
                })
            | inr l ↦
                record {
                  edge = l.edge;
                  at = l.at;
                  parent = l.parent;
                  round = l.round;
                  from = omega arith;
                  till = l.till;
                }
          ],
          λ l. (flagged' e).1 (elim (cases_lt (get_or plan.places l.edge.child 0) now.low) [
            | inl early ↦
                inl ((s.flagged e).1 (record {
                  edge = l.edge;
                  at = l.at;
                  parent = l.parent;
                  round = l.round;
                  from = l.from;
                  till = early;
                }))
            | inr late ↦
                inr (record {
                  edge = l.edge;
                  at = l.at;
                  parent = l.parent;
                  round = l.round;
                  from = late;
                  till = l.till;
                })
          ]),
        );
      }

  pub blocks_redundant : IsWellFormed plan.end plan.graph → IsPlaced plan.graph plan.nodes plan.places
      → (roots : List ℕ) → ((n : ℕ) → Contains plan.nodes n ↔ IsBelow plan.graph roots n)
      → length plan.nodes ≤ now.low → (e : ℕ) → IsFlagged plan.end now.flags e ↔ IsRedundant plan.graph roots e
  blocks_redundant w pl roots below past e = (
    λ f.
        (let l = (s.flagged e).0 f in
        record { edge = l.edge; at = l.at; below = (below l.edge.parent).0 l.parent; round = l.round }),
    λ r.
        (let u = r.edge.parent in
        let listed = (below u).1 r.below in
        let child = pl.closed u r.edge.child listed (joins plan.end plan.graph w e u r.edge r.at refl) in
        (s.flagged e).1 (record {
          edge = r.edge;
          at = r.at;
          parent = listed;
          round = r.round;
          from = omega arith;
          till = omega (arith, (there pl r.edge.child child).0, past);
        })),
  )

  -- the same in the graph that was given
  pub blocks_exact : {g : Graph N E} → plan.graph ≡ g → IsWellFormed plan.end g → IsPlaced g plan.nodes plan.places
      → (roots : List ℕ) → ((n : ℕ) → Contains plan.nodes n ↔ IsBelow g roots n) → length plan.nodes ≤ now.low
      → (e : ℕ) → IsFlagged plan.end now.flags e ↔ IsRedundant g roots e
  blocks_exact {g} is w pl roots below past e =
      let W : Graph N E → Type 0 = λ z. IsWellFormed plan.end z in
      let L : Graph N E → Type 0 = λ z. IsPlaced z plan.nodes plan.places in
      let B : Graph N E → Type 0 = λ z. (n : ℕ) → Contains plan.nodes n ↔ IsBelow z roots n in
      let R : Graph N E → Type 0 = λ z. IsFlagged plan.end now.flags e ↔ IsRedundant z roots e in
      subst R is
      (blocks_redundant (subst W (sym is) w) (subst L (sym is) pl) roots (subst B (sym is) below) past e)

-- Flagging the redundant edges of the nodes below the roots, node by node.
use Rattle.std.proofs.Common.{◌≡◌, ℕ, zero, suc, ◌+◌, ◌*◌, ◌<◌, ◌≤◌, true, ◌↔◌, inl, inr, Option, None, IsSome, is_some}
use Rattle.std.proofs.Common.{List, [], ◌∷◌, ◌++◌, length, get_or, take, refl, sym, ap, subst, ◌∙◌, arith, Contains}
use Rattle.std.proofs.Math.Nat.{suc-mul, zero-mul}
use Rattle.std.proofs.lemmas.List.{take_more, take_all}
use Rattle.daggy_base.specs.Graph.{Graph, Edge, HasNode, slot, out_list, node_count, edge_count, edge_bound}
use Rattle.daggy_base.specs.Reduction.{IsBelow, IsRedundant, ReachesIndirectly}
use Rattle.daggy_base.specs.WellFormed.{IsWellFormed, AreDistinct}
use Rattle.daggy_base.proofs.Lists.{Mem, mem_left, mem_right, mem_cases, mem_contains, contains_mem}
use Rattle.daggy_base.proofs.Lists.{unique_from_distinct, pigeon}
use Rattle.daggy_base.proofs.OutEdgesRead.{lists_of, lists_few, below_bound}
use Rattle.daggy_redundant.specs.Flags.{IsFlagged, LeavesRound, FlagsRound}
use Rattle.daggy_base.proofs.PathEnds.{path_ends}
use Rattle.daggy_redundant.proofs.QueueProgress.{lists_append}

-- a number for each node of a list, summed
abbrev pub total : (ℕ → ℕ) → List ℕ → ℕ
total cost [] = 0
total cost (x ∷ xs) = cost x + total cost xs

total_append : (cost : ℕ → ℕ) (xs : List ℕ) (x : ℕ) → total cost (xs ++ x ∷ []) ≡ total cost xs + cost x
total_append cost [] x = omega arith
total_append cost (y ∷ ys) x = omega (arith, total_append cost ys x)

-- What is swept: the graph and the number past all its edges, what the search from each node costs, the nodes below the
-- roots, and how often edges were looked at before.
pub record Sweep (N E : Type 0) : Type 0 where
  pub end : ℕ
  pub graph : Graph N E
  pub cost : ℕ → ℕ
  pub below : List ℕ
  pub looks : ℕ

-- What is swept so far: the graph, the flags, how many of the nodes were searched from, and how often edges were looked
-- at.
pub record Swept (N E : Type 0) : Type 0 where
  pub graph : Graph N E
  pub flags : List ℕ
  pub count : ℕ
  pub looks : ℕ

-- the flagged edges are those of the nodes so far that a longer way goes round, and no search took more than its cost
pub record Sweeping {N E : Type 0} (sweep : Sweep N E) (now : Swept N E) : Type 0 where
  pub same : now.graph ≡ sweep.graph
  pub only : (e : ℕ) → IsFlagged sweep.end now.flags e
      → (u : ℕ) × Mem u (take now.count sweep.below) × LeavesRound sweep.graph u e
  pub all : (u e : ℕ)
      → Mem u (take now.count sweep.below) → LeavesRound sweep.graph u e → IsFlagged sweep.end now.flags e
  pub looked : sweep.looks ≤ now.looks
  pub counted : now.looks ≤ sweep.looks + edge_count sweep.graph + total sweep.cost (take now.count sweep.below)
      + length (lists_of sweep.graph (take now.count sweep.below))

pub more_times : (a b m : ℕ) → a ≤ b → a * m ≤ b * m
more_times zero b m h = omega (arith, zero-mul m)
more_times (suc a) zero m h = absurd (omega (arith, h))
more_times (suc a) (suc b) m h = let less = more_times a b m (omega (arith, h)) in
    omega (arith, less, suc-mul a m, suc-mul b m)

module _ {N E : Type 0} {sweep : Sweep N E} {now : Swept N E} (s : Sweeping sweep now) where
  abbrev end : ℕ
  end = sweep.end

  abbrev g₀ : Graph N E
  g₀ = sweep.graph

  abbrev cost : ℕ → ℕ
  cost = sweep.cost

  abbrev below : List ℕ
  below = sweep.below

  pub sweep_on : now.count < length below → (u : ℕ) → u ≡ get_or below now.count u
      → {g' : Graph N E} {flags' : List ℕ} {looks' : ℕ} → g' ≡ now.graph → FlagsRound end now.graph u now.flags flags'
      → now.looks ≤ looks'
      → looks' ≤ now.looks + cost u + length (out_list now.graph u)
      → Sweeping sweep record { graph = g'; flags = flags'; count = now.count + 1; looks = looks' }
  sweep_on low u is {g'} {flags'} {looks'} same' round looked' counted' =
      let longer : take (now.count + 1) below ≡ take now.count below ++ u ∷ [] =
      take_more below now.count u low ∙ ap (λ z. take now.count below ++ z ∷ []) (sym is) in
      let R : Graph N E → Type 0 = λ z. FlagsRound end z u now.flags flags' in
      let C : Graph N E → Type 0 = λ z. looks' ≤ now.looks + cost u + length (out_list z u) in
      let flagged = subst R s.same round in
      let few = subst C s.same counted' in
      record {
        same = same' ∙ s.same;
        only = λ e f. (
            elim ((flagged e).0 f) [
              | inl a ↦
                  (let o = s.only e a in let P : List ℕ → Type 0 = λ z. Mem o.0 z in
                  (o.0, subst P (sym longer) (mem_left (take now.count below) (u ∷ []) o.0 o.1), o.2))
              | inr l ↦
                  (let P : List ℕ → Type 0 = λ z. Mem u z in
                  (u, subst P (sym longer) (mem_right (take now.count below) (u ∷ []) u (inl refl)), l))
            ]
            );
        all = λ v e m l. (
            let P : List ℕ → Type 0 = λ z. Mem v z in
            let L : ℕ → Type 0 = λ z. LeavesRound g₀ z e in
            (flagged e).1 (elim (mem_cases (take now.count below) (u ∷ []) v (subst P longer m)) [
              | inl a ↦ inl (s.all v e a l)
              | inr b ↦ elim b [ inl here ↦ inr (subst L here l) | inr none ↦ absurd none ]
            ])
            );
        looked = omega (arith, s.looked, looked');
        counted = omega (
          arith,
          s.counted,
          few,
          ap (total cost) longer,
          total_append cost (take now.count below) u,
          ap (λ z. length (lists_of g₀ z)) longer,
          lists_append g₀ (take now.count below) u,
        );
      }

pub total_few : (cost : ℕ → ℕ) (m : ℕ) (us : List ℕ) → ((u : ℕ) → Mem u us → cost u ≤ m) → total cost us ≤ length us * m
total_few cost m [] each = omega (arith, zero-mul m)
total_few cost m (u ∷ us) each =
    omega (arith, each u (inl refl), total_few cost m us (λ v h. each v (inr h)), suc-mul (length us) m)

some_there : {A : Type 0} (xs : List (Option A)) (x : ℕ) → IsSome (slot xs x) → is_some (get_or xs x None) ≡ true
some_there [] x h = absurd cc
some_there (y ∷ xs) zero h = h
some_there (y ∷ xs) (suc x) h = some_there xs x h

pub below_exists : {N E : Type 0} (g : Graph N E) (roots : List ℕ) (n : ℕ) → IsBelow g roots n → HasNode g n
below_exists g roots n b = let P : ℕ → Type 0 = λ z. HasNode g z in subst P b.3.2 (path_ends g b.0 b.3.0 b.3.1)

-- distinct nodes are no more than exist
pub few_there : {N E : Type 0} (g : Graph N E) (xs : List ℕ)
    → AreDistinct xs → ((n : ℕ) → Contains xs n → HasNode g n) → length xs ≤ node_count g
few_there g xs distinct there =
    pigeon is_some None refl xs g.nodes (unique_from_distinct xs distinct)
    (λ x m. some_there g.nodes x (there x (mem_contains xs x m)))

module _ {N E : Type 0} {sweep : Sweep N E} (w : IsWellFormed sweep.end sweep.graph) (roots : List ℕ)
    {now : Swept N E} (s : Sweeping sweep now) (past : length sweep.below ≤ now.count)
    (exact : (n : ℕ) → Contains sweep.below n ↔ IsBelow sweep.graph roots n) (distinct : AreDistinct sweep.below) where
  whole : take now.count sweep.below ≡ sweep.below
  whole = take_all now.count sweep.below past

  pub flags_redundant : (e : ℕ) → IsFlagged sweep.end now.flags e ↔ IsRedundant sweep.graph roots e
  flags_redundant e = (
    λ f. (
        let o = s.only e f in
        let l = o.2 in
        let M : List ℕ → Type 0 = λ z. Mem o.0 z in
        let under = (exact o.0).0 (mem_contains sweep.below o.0 (subst M whole o.1)) in
        let B : ℕ → Type 0 = λ z. IsBelow sweep.graph roots z in
        let R : ℕ → Type 0 = λ z. ReachesIndirectly sweep.graph z l.edge.child in
        record {
          edge = l.edge;
          at = l.at;
          below = subst B (sym l.parent) under;
          round = subst R (sym l.parent) l.round;
        }
        ),
    λ r. (
        let u = r.edge.parent in
        let M : List ℕ → Type 0 = λ z. Mem u z in
        let m = subst M (sym whole) (contains_mem sweep.below u ((exact u).1 r.below)) in
        s.all u e m (record { edge = r.edge; at = r.at; parent = refl; round = r.round })
        ),
  )

  few_nodes : length sweep.below ≤ node_count sweep.graph
  few_nodes =
      few_there sweep.graph sweep.below distinct (λ n c. below_exists sweep.graph roots n ((exact n).0 c))

  -- one search for each node below, and each list read once more before and after them
  pub looks_total : now.looks ≤ sweep.looks + 2 * edge_count sweep.graph + total sweep.cost sweep.below
  looks_total =
      let lists = lists_few sweep.end sweep.graph w sweep.below (unique_from_distinct sweep.below distinct) in
      omega (arith, s.counted, ap (λ z. length (lists_of sweep.graph z)) whole, ap (total sweep.cost) whole, lists)

  -- no search takes more looks than there are edges
  pub looks_few : ((u : ℕ) → Mem u sweep.below → sweep.cost u ≤ edge_count sweep.graph)
      → now.looks ≤ sweep.looks + (node_count sweep.graph + 2) * edge_count sweep.graph
  looks_few each =
      let m = edge_count sweep.graph in
      let more = more_times (length sweep.below + 2) (node_count sweep.graph + 2) m (omega (arith, few_nodes)) in
      let last : (length sweep.below + 2) * m ≡ (length sweep.below + 1) * m + m =
      ap (λ z. z * m) (omega arith) ∙ suc-mul (length sweep.below + 1) m in
      let last' : (length sweep.below + 1) * m ≡ length sweep.below * m + m =
      ap (λ z. z * m) (omega arith) ∙ suc-mul (length sweep.below) m in
      omega (arith, looks_total, total_few sweep.cost m sweep.below each, more, last, last')

pub redundant_low : {N E : Type 0} (g : Graph N E) (roots : List ℕ) (e : ℕ) → IsRedundant g roots e → e < edge_bound g
redundant_low {N} {E} g roots e r = let P : Option (Edge E) → Type 0 = λ z. IsSome z in
    below_bound g.edges e (subst P (sym r.at) cc)

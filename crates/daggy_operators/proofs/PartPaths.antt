-- The edges and the paths of the marked part of a graph.
use Rattle.std.proofs.Common.{◌≡◌, ℕ, Bool, true, false, ◌&&◌, List, [], ◌∷◌, Option, Some, None, IsSome}
use Rattle.std.proofs.Common.{refl, sym, ap, subst, ◌∙◌, ◌↔◌}
use Rattle.std.specs.Option.{option_map}
use Rattle.std.specs.List.{AllByRecursion as ByRecursion}
use Rattle.std.specs.Borrow.{Bor}
use Rattle.daggy_base.specs.declared.index.Direction.{Direction}
use Rattle.daggy_base.specs.declared.index.Direction.TheVariants.{Outgoing, Incoming}
use Rattle.daggy_base.specs.Graph.{Graph, Edge, HasNode, node_weight, edge_at, ends_of}
use Rattle.daggy_base.specs.Path.{AreJoined, IsPath, Reaches, IsAcyclic, end_of}
use Rattle.daggy_base.proofs.LongerPaths.{reaches_more}
use Rattle.daggy_base.proofs.PathsWithEdge.{reaches_itself, no_round}
use Rattle.daggy_base.proofs.PathEnds.{path_begins}
use Rattle.daggy_operators.specs.Parts.{kept, mark_of, turned, kept_ends, IsPart}
use Rattle.daggy_operators.specs.Operators.{Leads}

-- ---- values that are kept

pub kept_some : {A : Type 0} (b : Bool) (o : Option A) (x : A) → kept b o ≡ Some x → (b ≡ true) × (o ≡ Some x)
kept_some true o x h = (refl, h)
kept_some false o x h = absurd cc

both_true : (a b : Bool) → a && b ≡ true → (a ≡ true) × (b ≡ true)
both_true true true h = (refl, refl)
both_true true false h = absurd cc
both_true false b h = absurd cc

-- ends that are kept stem from ends that are marked
pub kept_from : (dir : Direction) (marks : List Bool) (o : Option (ℕ × ℕ)) (x : ℕ × ℕ) → kept_ends dir marks o ≡ Some x
    → (y : ℕ × ℕ) × (o ≡ Some y) × (mark_of marks y.0 ≡ true) × (mark_of marks y.1 ≡ true) × (turned dir y ≡ x)
kept_from dir marks None x h = absurd cc
kept_from dir marks (Some y) x h =
    let k = kept_some (mark_of marks y.0 && mark_of marks y.1) (Some (turned dir y)) x h in
    let m = both_true (mark_of marks y.0) (mark_of marks y.1) k.0 in
    let same : turned dir y ≡ x = (let e : Some (turned dir y) ≡ Some x = k.1 in cc) in
    (y, refl, m.0, m.1, same)

-- ends that are marked are kept
pub kept_to : (dir : Direction) (marks : List Bool) (o : Option (ℕ × ℕ)) (y : ℕ × ℕ) → o ≡ Some y
    → mark_of marks y.0 ≡ true → mark_of marks y.1 ≡ true → kept_ends dir marks o ≡ Some (turned dir y)
kept_to dir marks o y is p c = rw (is, p, c) refl

-- a value shown of an option
pub shown_from : {A B : Type 0} (f : A → B) (o : Option A) (x : B) → option_map f o ≡ Some x
    → (a : A) × (o ≡ Some a) × (f a ≡ x)
shown_from f None x h = absurd cc
shown_from f (Some a) x h = let same : f a ≡ x = (let e : Some (f a) ≡ Some x = h in cc) in (a, refl, same)

pub shown_some : {A B : Type 0} (f : A → B) (o : Option A) → IsSome (option_map f o) ↔ IsSome o
shown_some f None = (λ h. h, λ h. h)
shown_some f (Some a) = (λ h. refl, λ h. refl)

kept_exists : {A : Type 0} (b : Bool) (o : Option A) → IsSome (kept b o) ↔ (IsSome o × (b ≡ true))
kept_exists true o = (λ h. (h, refl), λ h. h.0)
kept_exists false o = (λ h. absurd cc, λ h. absurd (let e : false ≡ true = h.1 in cc))

-- edges whose parts agree
pub same_edge : {E : Type 0} (x y : Edge E) → x.parent ≡ y.parent → x.child ≡ y.child → x.weight ≡ y.weight → x ≡ y
same_edge x y p c w =
    ap (λ z. record { parent = z; child = x.child; weight = x.weight }) p
    ∙ ap (λ z. record { parent = y.parent; child = z; weight = x.weight }) c
    ∙ ap (λ z. record { parent = y.parent; child = y.child; weight = z }) w

-- ---- nodes and edges of a part

-- an edge leads from the near end to the far end in that direction
abbrev pub Turns : {N E : Type 0} → Direction → Graph N E → ℕ → ℕ → Type 0
Turns Outgoing g u v = AreJoined g u v
Turns Incoming g u v = AreJoined g v u

-- nodes are joined if and only if an edge has them as its ends
pub ends_joined : {N E : Type 0} (g : Graph N E) (e u v : ℕ) → Leads g e u v → AreJoined g u v
ends_joined g e u v leads =
    let found = shown_from ends_of (edge_at g e) (u, v) leads in (
      e,
      found.0.weight,
      found.1 ∙ ap Some (same_edge found.0 (record { parent = u; child = v; weight = found.0.weight })
          (ap (λ z. z.0) found.2) (ap (λ z. z.1) found.2) refl),
    )

joined_ends : {N E : Type 0} (g : Graph N E) (u v : ℕ) → AreJoined g u v → (e : ℕ) × Leads g e u v
joined_ends g u v j = (j.0, ap (option_map ends_of) j.2)

module _ {N E F : Type 0} {dir : Direction} {marks : List Bool} {g : Graph N E} {h : Graph (Bor N) F}
    (part : IsPart dir marks g h) where
  pub node_exists : (n : ℕ) → HasNode h n ↔ (HasNode g n × (mark_of marks n ≡ true))
  node_exists n =
      let P : Option N → Type 0 = λ z. IsSome z ↔ IsSome (node_weight h n) in
      let shown : IsSome (kept (mark_of marks n) (node_weight g n)) ↔ IsSome (node_weight h n) =
      subst P (part.nodes n) (shown_some (λ b. b.now) (node_weight h n)) in
      let exists = kept_exists (mark_of marks n) (node_weight g n) in
      (λ p. exists.0 (shown.1 p), λ q. shown.0 (exists.1 q))

  -- an edge of the part stems from one between marked nodes
  pub joined_from : (u v : ℕ) → AreJoined h u v
      → Turns dir g u v × (mark_of marks u ≡ true) × (mark_of marks v ≡ true)
  joined_from u v j =
      let at = joined_ends h u v j in
      let found = kept_from dir marks (option_map ends_of (edge_at g at.0)) (u, v) (sym (part.edges at.0) ∙ at.1) in
      turned_from dir at.0 found.0 found.1 found.2 found.3 found.4
    where
      turned_from : (d : Direction) (e : ℕ) (y : ℕ × ℕ) → option_map ends_of (edge_at g e) ≡ Some y
          → mark_of marks y.0 ≡ true → mark_of marks y.1 ≡ true → turned d y ≡ (u, v)
          → Turns d g u v × (mark_of marks u ≡ true) × (mark_of marks v ≡ true)
      turned_from Outgoing e y at p c is =
          (ends_joined g e u v (at ∙ ap Some is), ap (λ z. mark_of marks z.0) (sym is) ∙ p, ap (λ z. mark_of marks z.1) (sym is) ∙ c)
      turned_from Incoming e y at p c is =
          let back : y ≡ (v, u) = ap (λ z. (z.1, z.0)) is in (
            ends_joined g e v u (at ∙ ap Some back),
            ap (λ z. mark_of marks z.1) (sym back) ∙ c,
            ap (λ z. mark_of marks z.0) (sym back) ∙ p,
          )

  -- an edge between marked nodes is in the part
  pub joined_to : (u v : ℕ) → Turns dir g u v → mark_of marks u ≡ true → mark_of marks v ≡ true → AreJoined h u v
  joined_to u v = turned_to dir part
    where
      turned_to : (d : Direction) → IsPart d marks g h → Turns d g u v → mark_of marks u ≡ true → mark_of marks v ≡ true
          → AreJoined h u v
      turned_to Outgoing p j from to =
          let at = joined_ends g u v j in
          ends_joined h at.0 u v (p.edges at.0 ∙ kept_to Outgoing marks (option_map ends_of (edge_at g at.0)) (u, v) at.1 from to)
      turned_to Incoming p j from to =
          let at = joined_ends g v u j in
          ends_joined h at.0 u v (p.edges at.0 ∙ kept_to Incoming marks (option_map ends_of (edge_at g at.0)) (v, u) at.1 to from)

-- ---- a part whose edges are as they are

module _ {N E F : Type 0} {marks : List Bool} {g : Graph N E} {h : Graph (Bor N) F}
    (part : IsPart Outgoing marks g h) where
  -- a path of the part is a path through marked nodes
  pub path_from : (p : List ℕ) → IsPath h p → IsPath g p × ByRecursion (λ n. mark_of marks n ≡ true) p
  path_from [] p = absurd p
  path_from (u ∷ []) p = let there = (node_exists part u).0 p in (there.0, (there.1, record {}))
  path_from (u ∷ v ∷ rest) p =
      let there = (node_exists part u).0 p.0 in
      let more = path_from (v ∷ rest) p.2 in
      ((there.0, (joined_from part u v p.1).0, more.0), (there.1, more.1))

  pub path_to : (p : List ℕ) → IsPath g p → ByRecursion (λ n. mark_of marks n ≡ true) p → IsPath h p
  path_to [] p all = absurd p
  path_to (u ∷ []) p all = (node_exists part u).1 (p, all.0)
  path_to (u ∷ v ∷ rest) p all =
      ((node_exists part u).1 (p.0, all.0), joined_to part u v p.1 all.0 all.1.0, path_to (v ∷ rest) p.2 all.1)

  pub part_acyclic : IsAcyclic g → IsAcyclic h
  part_acyclic acyclic u v rest p = acyclic u v rest (path_from (u ∷ v ∷ rest) p).0

-- ---- all nodes, with their edges reversed

module _ {N E F : Type 0} {marks : List Bool} {g : Graph N E} {h : Graph (Bor N) F}
    (part : IsPart Incoming marks g h) where
  back_from_path : (u : ℕ) (rest : List ℕ) → IsPath h (u ∷ rest) → Reaches g (end_of u rest) u
  back_from_path u [] p = reaches_itself g u ((node_exists part u).0 p).0
  back_from_path u (v ∷ rest) p =
      reaches_more g (end_of v rest) v u (back_from_path v rest p.2) (joined_from part u v p.1).0
      ((node_exists part u).0 p.0).0

  pub back_from : (u v : ℕ) → Reaches h u v → Reaches g v u
  back_from u v r = let P : ℕ → Type 0 = λ z. Reaches g z u in subst P r.2 (back_from_path u r.0 r.1)

  pub reverse_acyclic : IsAcyclic g → IsAcyclic h
  reverse_acyclic acyclic u v rest p round =
      let P : ℕ → Type 0 = λ z. Reaches g z v in
      no_round g acyclic v u ((node_exists part v).0 (path_begins h v rest p.2)).0 (joined_from part u v p.1).0
      (subst P round (back_from_path v rest p.2))

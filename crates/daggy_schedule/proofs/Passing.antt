-- The edges that leave a node, passed one after the other.
use Rattle.std.proofs.Common.{◌≡◌, ◌≢◌, ℕ, ◌-◌, ◌<◌, inl, inr, List, [], ◌∷◌, ◌++◌, length, Option, Some, refl}
use Rattle.std.proofs.Common.{sym, ap, subst, ◌∙◌, arith, append_assoc, append-nil, is_some}
use Rattle.std.specs.Option.{option_map}
use Rattle.daggy_base.specs.Graph.{Graph, Edge, HasEdge, edge_at, out_list, ends_of, node_bound}
use Rattle.daggy_base.specs.Path.{AreJoined}
use Rattle.daggy_base.specs.Cursor.{first_of, after, cursor_after}
use Rattle.daggy_base.specs.declared.index.Direction.TheVariants.{Outgoing}
use Rattle.daggy_base.specs.Ordered.{place}
use Rattle.daggy_base.specs.WellFormed.{IsWellFormed}
use Rattle.daggy_base.proofs.Lists.{Mem, Unique, mem_cases, mem_mid}
use Rattle.daggy_base.proofs.OutEdgesRead.{leaves, listed, out_unique, edge_below, below_bound}
use Rattle.daggy_schedule.proofs.Counts.{after_split, next_closer}

-- the cursor e is behind the edges of n that were passed, to which, with their children, P applies
pub record Passing {N E : Type 0} (end : ℕ) (g : Graph N E) (n e : ℕ) (P : ℕ → ℕ → Type 0) : Type 0 where
  pub before : List ℕ
  pub rest : List ℕ
  pub split : out_list g n ≡ before ++ rest
  pub at_rest : e ≡ first_of end rest
  pub passed : (k : ℕ) (x : Edge E) → Mem k before → edge_at g k ≡ Some x → P k x.child

pub passing_from : {N E : Type 0} {end : ℕ} {g : Graph N E} {n e : ℕ} (P : ℕ → ℕ → Type 0)
    → e ≡ first_of end (out_list g n) → Passing end g n e P
passing_from {N} {E} {end} {g} {n} P is =
    record { before = []; rest = out_list g n; split = refl; at_rest = is; passed = λ k x m. absurd m }

first_rest : (end e : ℕ) (xs : List ℕ) → e ≡ first_of end xs → e ≢ end → (es : List ℕ) × (xs ≡ e ∷ es)
first_rest end e [] is ne = absurd (ne is)
first_rest end e (x ∷ xs) is ne = (xs, ap (λ z. z ∷ xs) (sym is))

module _ {N E : Type 0} {end : ℕ} {g : Graph N E} (w : IsWellFormed end g) {n e : ℕ} {P : ℕ → ℕ → Type 0}
    (s : Passing end g n e P) where
  none_left : e ≡ end → (xs : List ℕ) → out_list g n ≡ s.before ++ xs → e ≡ first_of end xs → xs ≡ []
  none_left h [] split is = refl
  none_left h (y ∷ ys) split is =
      let M : List ℕ → Type 0 = λ z. Mem y z in
      let p = leaves end g w n y (subst M (sym split) (mem_mid s.before ys y)) in
      let low = edge_below end g w y p.0 p.1 in
      absurd (omega (arith, low, is, h))

  -- at the end all edges were passed
  pub all_passed : e ≡ end → (v : ℕ) (j : AreJoined g n v) → P j.0 v
  all_passed h v j =
      let all : out_list g n ≡ s.before =
      s.split ∙ (ap (λ z. s.before ++ z) (none_left h s.rest s.split s.at_rest) ∙ append-nil s.before) in
      let M : List ℕ → Type 0 = λ z. Mem j.0 z in
      s.passed j.0 _ (subst M all (listed end g w n j.0 _ j.2 refl)) j.2

  module _ (here : e ≢ end) where
    tail : (es : List ℕ) × (s.rest ≡ e ∷ es)
    tail = first_rest end e s.rest s.at_rest here

    split_here : out_list g n ≡ s.before ++ e ∷ tail.0
    split_here = s.split ∙ ap (λ z. s.before ++ z) tail.1

    once_all : Unique (s.before ++ e ∷ tail.0)
    once_all = let U : List ℕ → Type 0 = λ z. Unique z in subst U split_here (out_unique end g w n)

    edge : (x : Edge E) × (edge_at g e ≡ Some x) × (x.parent ≡ n)
    edge =
        let M : List ℕ → Type 0 = λ z. Mem e z in
        leaves end g w n e (subst M (sym split_here) (mem_mid s.before tail.0 e))

    pub edge_exists : HasEdge g e
    edge_exists = ap is_some edge.1

    module _ (next : ℕ) (is : next ≡ cursor_after Outgoing end g e (edge_at g e)) where
      next_is : next ≡ first_of end tail.0
      next_is =
          is
          ∙ (ap (λ z. cursor_after Outgoing end g e z) edge.1
          ∙ (ap (λ (z : ℕ). after end (out_list g z) e) edge.2
          ∙ (ap (λ (z : List ℕ). after end z e) split_here ∙ after_split end s.before e tail.0 once_all)))

      pub passed_closer : length (out_list g n) - place (out_list g n) next < length (out_list g n) - place (out_list g n) e
      passed_closer =
          let C : List ℕ → Type 0 = λ z. length z - place z next < length z - place z e in
          let absent : Mem end (s.before ++ e ∷ tail.0) → ⊥ = λ m.
          (let M : List ℕ → Type 0 = λ z. Mem end z in
          let p = leaves end g w n end (subst M (sym split_here) m) in
          let low = edge_below end g w end p.0 p.1 in
          omega (arith, low)) in
          subst C (sym split_here) (next_closer end s.before e tail.0 next once_all absent next_is)

    -- by what the store says of the edge
    module _ {p c : ℕ} (ends : Some (p, c) ≡ option_map ends_of (edge_at g e)) where
      child_is : edge.0.child ≡ c
      child_is =
          let r = edge in
          let x = r.0 in
          let same : Some (p, c) ≡ Some (x.parent, x.child) = ends ∙ ap (option_map ends_of) r.1 in
          let whole : (p, c) ≡ (x.parent, x.child) = cc in
          sym (ap (λ (q : ℕ × ℕ). q.1) whole)

      pub passed_edge : (x : E) × (edge_at g e ≡ Some (record { parent = n; child = c; weight = x }))
      passed_edge =
          let r = edge in
          let J : ℕ → Type 0 = λ z. edge_at g e ≡ Some (record { parent = z; child = c; weight = r.0.weight }) in
          let K : ℕ → Type 0 = λ z. edge_at g e ≡ Some (record { parent = r.0.parent; child = z; weight = r.0.weight }) in
          (r.0.weight, subst J r.2 (subst K child_is r.1))

      pub passed_joined : AreJoined g n c
      passed_joined = (e, passed_edge.0, passed_edge.1)

      pub passed_low : c < node_bound g
      passed_low = let j = passed_joined in below_bound g.nodes c (w.children j.0 _ j.2)

      pub passing_on : (next : ℕ) → next ≡ cursor_after Outgoing end g e (edge_at g e) → (Q : ℕ → ℕ → Type 0)
          → ((k v : ℕ) → P k v → Q k v) → Q e c → Passing end g n next Q
      passing_on next is Q keeps holds =
          record {
            before = s.before ++ e ∷ [];
            rest = tail.0;
            split = split_here ∙ sym (append_assoc s.before (e ∷ []) tail.0);
            at_rest = next_is next is;
            passed = λ k x m at.
                elim (mem_cases s.before (e ∷ []) k m) [
                  | inl a ↦ keeps k x.child (s.passed k x a at)
                  | inr b ↦ elim b [
                    | inl same ↦ (
                        let both : Some x ≡ Some edge.0 = sym at ∙ (ap (λ z. edge_at g z) same ∙ edge.1) in
                        let whole : x ≡ edge.0 = cc in
                        let R : ℕ → Type 0 = λ z. Q z x.child in
                        subst R (sym same) (subst (Q e) (sym (ap (λ (y : Edge E). y.child) whole ∙ child_is)) holds)
                        )
                    | inr nothing ↦ absurd nothing
                  ]
                ];
          }

pub ends_at : {o : Option (ℕ × ℕ)} {p c i : ℕ} → Some (p, c) ≡ o → i ≡ c → Some (p, i) ≡ o
ends_at {o} {p} {c} {i} is same = ap (λ z. Some (p, z)) same ∙ is

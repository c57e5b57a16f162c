-- Edges counted at their parents, one by one.
use Rattle.std.proofs.Common.{◌≡◌, ◌≢◌, is_some, None, ℕ, ◌+◌, ◌<◌, ◌≤◌, ◌⊎◌, inl, inr, Some, List, [], ◌∷◌, length, get_or, set}
use Rattle.std.proofs.Common.{refl, sym, ap, subst, ◌∙◌, arith}
use Rattle.std.proofs.lemmas.Bool.{cases_eq, cases_lt}
use Rattle.std.proofs.lemmas.List.{get_or-set_same, get_or-set_other, get_or_past}
use Rattle.std.proofs.lemmas.Option.{none-some, same_Some}
use Rattle.daggy_base.specs.Graph.{Graph, Edge, edge_at, edge_bound, out_list}
use Rattle.daggy_base.specs.Ordered.{place}
use Rattle.daggy_base.specs.Path.{AreJoined}
use Rattle.daggy_base.specs.WellFormed.{IsWellFormed}
use Rattle.daggy_base.proofs.Lists.{Mem, Unique, fewer_than}
use Rattle.daggy_base.proofs.OutEdgesRead.{listed, below_bound}
use Rattle.daggy_reduction.specs.Spans.{AreLastChildren}
use Rattle.daggy_order.proofs.MovedNodes.{no_longer}

-- a list is written from the front with one number
pub reset_on : (xs : List ℕ) (i x : ℕ) → i < length xs → ((n : ℕ) → n < i → get_or xs n x ≡ x)
    → (n : ℕ) → n < i + 1 → get_or (set xs i x) n x ≡ x
reset_on xs i x low all n below =
    elim (cases_eq n i) [
      | inl here ↦ rw here (get_or-set_same xs i x x low)
      | inr apart ↦ get_or-set_other xs i n x x apart ∙ all n (omega (arith, below, apart))
    ]

pub reset_all : (xs : List ℕ) (i x : ℕ) → length xs ≤ i → ((n : ℕ) → n < i → get_or xs n x ≡ x)
    → (n : ℕ) → get_or xs n x ≡ x
reset_all xs i x long all n =
    elim (cases_lt n i) [ inl low ↦ all n low | inr past ↦ get_or_past xs n x (omega (arith, past, long)) ]

-- how many of the edges below k leave n, and one of its children, or the end
pub record Noted {N E : Type 0} (g : Graph N E) (end k : ℕ) (cursors nodes : List ℕ) (n : ℕ) : Type 0 where
  pub edges : List ℕ
  pub once : Unique edges
  pub early : (e : ℕ) → Mem e edges → (e < k) × Mem e (out_list g n)
  pub count : get_or cursors n 0 ≡ length edges
  pub child : (get_or nodes n end ≡ end) ⊎ AreJoined g n (get_or nodes n end)

pub none_noted : {N E : Type 0} (g : Graph N E) (end : ℕ) (cursors nodes : List ℕ)
    → ((n : ℕ) → get_or cursors n 0 ≡ 0) → ((n : ℕ) → get_or nodes n end ≡ end)
    → (n : ℕ) → Noted g end 0 cursors nodes n
none_noted g end cursors nodes zeros ends n =
    record {
      edges = [];
      once = tt;
      early = λ e m. absurd m;
      count = zeros n;
      child = inl (ends n);
    }

module _ {N E : Type 0} {g : Graph N E} {end k : ℕ} {cursors nodes : List ℕ} where
  -- a vacant slot
  pub passed : ((n : ℕ) → Noted g end k cursors nodes n) → (n : ℕ) → Noted g end (k + 1) cursors nodes n
  passed all n =
      let s = all n in
      record {
        edges = s.edges;
        once = s.once;
        early = λ e m. (omega (arith, (s.early e m).0), (s.early e m).1);
        count = s.count;
        child = s.child;
      }

  pub few : {n : ℕ} → Noted g end k cursors nodes n → get_or cursors n 0 ≤ k
  few s = omega (arith, s.count, fewer_than s.edges k s.once (λ e m. (s.early e m).0))

  pub degree : {n : ℕ} → Noted g end k cursors nodes n → get_or cursors n 0 ≤ length (out_list g n)
  degree {n} s = omega (arith, s.count, no_longer s.edges (out_list g n) s.once (λ e m. (s.early e m).1))

  -- one edge more
  pub noted : IsWellFormed end g → ((n : ℕ) → Noted g end k cursors nodes n)
      → (x : Edge E) → edge_at g k ≡ Some x → x.parent < length cursors → x.parent < length nodes
      → {cursors' nodes' : List ℕ} → cursors' ≡ set cursors x.parent (get_or cursors x.parent 0 + 1)
      → (nodes' ≡ nodes) ⊎ (nodes' ≡ set nodes x.parent x.child)
      → (n : ℕ) → Noted g end (k + 1) cursors' nodes' n
  noted w all x at low room {cursors'} {nodes'} counted child n =
      elim (cases_eq n x.parent) [
        | inl here ↦ (let P : ℕ → Type 0 = λ z. Noted g end (k + 1) cursors' nodes' z in subst P (sym here) at_parent)
        | inr apart ↦
            (let s = all n in
            record {
              edges = s.edges;
              once = s.once;
              early = λ e m. (omega (arith, (s.early e m).0), (s.early e m).1);
              count =
                  ap (λ z. get_or z n 0) counted
                  ∙ get_or-set_other cursors x.parent n (get_or cursors x.parent 0 + 1) 0 apart ∙ s.count;
              child = elim child [
                | inl same ↦ rw same s.child
                | inr put ↦ rw (put, get_or-set_other nodes x.parent n x.child end apart) s.child
              ];
            })
      ]
    where
      at_parent : Noted g end (k + 1) cursors' nodes' x.parent
      at_parent =
          let s = all x.parent in
          let new : Mem k s.edges → ⊥ = λ m. absurd (omega (arith, (s.early k m).0)) in
          record {
            edges = k ∷ s.edges;
            once = (new, s.once);
            early = λ e m. elim m [
              | inl is ↦
                  (let P : ℕ → Type 0 = λ z. (z < k + 1) × Mem z (out_list g x.parent) in
                  subst P (sym is) (omega arith, listed end g w x.parent k x at refl))
              | inr old ↦ (omega (arith, (s.early e old).0), (s.early e old).1)
            ];
            count =
                ap (λ z. get_or z x.parent 0) counted
                ∙ get_or-set_same cursors x.parent (get_or cursors x.parent 0 + 1) 0 low
                ∙ omega (arith, s.count);
            child = elim child [
              | inl same ↦ rw same s.child
              | inr put ↦ rw (put, get_or-set_same nodes x.parent x.child end room) (inr (k, x.weight, at))
            ];
          }

-- of the edges below k, no child of a node is later than the one that is noted
pub record LastNoted {N E : Type 0} (g : Graph N E) (order : List ℕ) (end k : ℕ) (nodes : List ℕ) : Type 0 where
  pub some : (e : ℕ) (x : Edge E) → e < k → edge_at g e ≡ Some x → get_or nodes x.parent end ≢ end
  pub last : (e : ℕ) (x : Edge E) → e < k → edge_at g e ≡ Some x
      → place order x.child ≤ place order (get_or nodes x.parent end)

pub last_start : {N E : Type 0} (g : Graph N E) (order : List ℕ) (end : ℕ) (nodes : List ℕ)
    → LastNoted g order end 0 nodes
last_start g order end nodes =
    record { some = λ e x low at. absurd (omega (arith, low)); last = λ e x low at. absurd (omega (arith, low)) }

module _ {N E : Type 0} {g : Graph N E} {order : List ℕ} {end k : ℕ} {nodes : List ℕ}
    (s : LastNoted g order end k nodes) where
  pub last_gap : edge_at g k ≡ None → LastNoted g order end (k + 1) nodes
  last_gap none =
      record {
        some = λ e x low at. s.some e x (early e x low at) at;
        last = λ e x low at. s.last e x (early e x low at) at;
      }
    where
      early : (e : ℕ) (x : Edge E) → e < k + 1 → edge_at g e ≡ Some x → e < k
      early e x low at =
          elim (cases_lt e k) [
            | inl less ↦ less
            | inr past ↦
                (let is : k ≡ e = omega (arith, low, past) in
                absurd (none-some x (sym none ∙ ap (edge_at g) is ∙ at)))
          ]

  pub last_on : (x : Edge E) → edge_at g k ≡ Some x → {nodes' : List ℕ}
      → (nodes' ≡ nodes) ⊎ (nodes' ≡ set nodes x.parent x.child) → get_or nodes' x.parent end ≢ end
      → ((v : ℕ) → (v ≡ x.child) ⊎ ((get_or nodes x.parent end ≡ v) × (v ≢ end))
      → place order v ≤ place order (get_or nodes' x.parent end))
      → LastNoted g order end (k + 1) nodes'
  last_on x at {nodes'} child there later =
      record { some = λ e y low at_e. (both e y low at_e).0; last = λ e y low at_e. (both e y low at_e).1 }
    where
      Here : ℕ → ℕ → Type 0
      Here v u = (get_or nodes' u end ≢ end) × (place order v ≤ place order (get_or nodes' u end))

      kept : (u : ℕ) → u ≢ x.parent → get_or nodes' u end ≡ get_or nodes u end
      kept u apart =
          elim child [
            | inl same ↦ ap (λ z. get_or z u end) same
            | inr put ↦ ap (λ z. get_or z u end) put ∙ get_or-set_other nodes x.parent u x.child end apart
          ]

      old : (e : ℕ) (y : Edge E) → e < k → edge_at g e ≡ Some y → Here y.child y.parent
      old e y low at_e =
          elim (cases_eq y.parent x.parent) [
            | inl here ↦
                (let was = get_or nodes y.parent end in
                let noted : get_or nodes x.parent end ≡ was = ap (λ z. get_or nodes z end) (sym here) in
                let on = later was (inr (noted, s.some e y low at_e)) in
                subst (Here y.child) (sym here) (there, omega (arith, s.last e y low at_e, on)))
            | inr apart ↦
                subst (λ z. (z ≢ end) × (place order y.child ≤ place order z)) (sym (kept y.parent apart))
                (s.some e y low at_e, s.last e y low at_e)
          ]

      both : (e : ℕ) (y : Edge E) → e < k + 1 → edge_at g e ≡ Some y → Here y.child y.parent
      both e y low at_e =
          elim (cases_lt e k) [
            | inl early ↦ old e y early at_e
            | inr past ↦
                (let is : k ≡ e = omega (arith, low, past) in
                let same : x ≡ y = same_Some x y (sym at ∙ ap (edge_at g) is ∙ at_e) in
                subst (λ (z : Edge E). Here z.child z.parent) same (there, later x.child (inl refl)))
          ]

-- with all edges seen, the noted children are the last ones
pub all_last : {N E : Type 0} {g : Graph N E} {order : List ℕ} {end k : ℕ} {nodes : List ℕ}
    → LastNoted g order end k nodes → edge_bound g ≤ k
    → ((n : ℕ) → (get_or nodes n end ≡ end) ⊎ AreJoined g n (get_or nodes n end))
    → AreLastChildren g order end nodes
all_last {N} {E} {g} {order} {end} {k} s whole joined =
    record {
      joined = joined;
      some = λ u v j. s.some j.0 (edge j) (low j) j.2;
      last = λ u v j. s.last j.0 (edge j) (low j) j.2;
    }
  where
    edge : {u v : ℕ} → AreJoined g u v → Edge E
    edge {u} {v} j = record { parent = u; child = v; weight = j.1 }

    low : {u v : ℕ} (j : AreJoined g u v) → j.0 < k
    low j = omega (arith, below_bound g.edges j.0 (ap is_some j.2), whole)

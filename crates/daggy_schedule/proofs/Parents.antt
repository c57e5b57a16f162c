-- The edges that lead to each node, counted by their indices.
use Rattle.std.proofs.Common.{◌≡◌, ◌≢◌, ℕ, suc, ◌+◌, ◌<◌, ◌≤◌, Bool, inl, inr, List, length, get_or, set, Option}
use Rattle.std.proofs.Common.{Some, None, refl, sym, ap, subst, ◌∙◌, arith}
use Rattle.std.proofs.Math.Dec.{ltb}
use Rattle.std.proofs.lemmas.Bool.{lt-ltb, le-ltb, cases_eq, cases_lt}
use Rattle.std.proofs.lemmas.List.{get_or-set_same, get_or-set_other}
use Rattle.std.proofs.lemmas.Option.{slice_get_within, none-some}
use Rattle.daggy_base.specs.Graph.{Graph, Edge, edge_at, in_list}
use Rattle.daggy_base.specs.WellFormed.{IsWellFormed}
use Rattle.daggy_base.proofs.Lists.{Mem, Unique, mem_contains, contains_mem, unique_from_distinct, fewer_than}
use Rattle.daggy_base.proofs.OutEdgesRead.{slot_get}
use Rattle.daggy_schedule.specs.Queue.{count_of}
use Rattle.daggy_schedule.specs.Work.{child_or}
use Rattle.daggy_schedule.proofs.Counts.{count_same, count_none, count_all, count_rises, count_most}

-- whether an edge is among the first k
abbrev pub early : ℕ → ℕ → Bool
early k e = ltb e k

-- by node index, how many of the first k edges lead to each node
abbrev pub AreCounted : {N E : Type 0} → Graph N E → ℕ → List ℕ → Type 0
AreCounted g k counts = (n : ℕ) → get_or counts n 0 ≡ count_of (early k) (in_list g n)

pub none_counted : {N E : Type 0} (g : Graph N E) (counts : List ℕ) → ((n : ℕ) → get_or counts n 0 ≡ 0)
    → AreCounted g 0 counts
none_counted g counts zeros n =
    zeros n ∙ sym (count_none (early 0) (in_list g n) (λ e m. le-ltb e 0 (omega arith)))

early_next : (k e : ℕ) → e ≢ k → early (k + 1) e ≡ early k e
early_next k e apart =
    elim (cases_lt e k) [
      | inl low ↦ lt-ltb e (k + 1) (omega (arith, low)) ∙ sym (lt-ltb e k low)
      | inr past ↦ le-ltb e (k + 1) (omega (arith, past, apart)) ∙ sym (le-ltb e k past)
    ]

module _ {N E : Type 0} {limit : ℕ} {g : Graph N E} (w : IsWellFormed limit g) where
  leads : (n e : ℕ) → Mem e (in_list g n) → (x : Edge E) × (edge_at g e ≡ Some x) × (x.child ≡ n)
  leads n e m = (w.in_of.exact n e).0 (mem_contains (in_list g n) e m)

  once : (n : ℕ) → Unique (in_list g n)
  once n = unique_from_distinct (in_list g n) (w.in_of.once n)

  below : (n e : ℕ) → Mem e (in_list g n) → e < length g.edges
  below n e m =
      let y = leads n e m in
      slice_get_within g.edges e (Some y.0) (slot_get g.edges e y.0 y.1)

  pub all_counted : (counts : List ℕ) → AreCounted g (length g.edges) counts
      → (n : ℕ) → get_or counts n 0 ≡ length (in_list g n)
  all_counted counts so_far n =
      so_far n
      ∙ count_all (early (length g.edges)) (in_list g n) (λ e m. lt-ltb e (length g.edges) (below n e m))

  module _ (k : ℕ) (counts : List ℕ) (so_far : AreCounted g k counts) where
    -- the next edge does not lead to the node
    elsewhere : (n : ℕ) → (Mem k (in_list g n) → ⊥) → get_or counts n 0 ≡ count_of (early (k + 1)) (in_list g n)
    elsewhere n absent =
        so_far n
        ∙ sym (count_same (early k) (early (k + 1)) (in_list g n) (λ e m. early_next k e (λ is.
        absent (let P : ℕ → Type 0 = λ z. Mem z (in_list g n) in subst P is m))))

    -- a vacant slot
    pub counted_none : edge_at g k ≡ None → AreCounted g (k + 1) counts
    counted_none vacant n = elsewhere n (λ m. (let y = leads n k m in none-some y.0 (sym vacant ∙ y.1)))

    -- the next edge
    module _ (x : Edge E) (at : edge_at g k ≡ Some x) where
      rises : count_of (early (k + 1)) (in_list g x.child) ≡ suc (count_of (early k) (in_list g x.child))
      rises =
          let there = contains_mem (in_list g x.child) k ((w.in_of.exact x.child k).1 (x, at, refl)) in
          count_rises (early k) (early (k + 1)) k (in_list g x.child) (once x.child) there (le-ltb k k (omega arith))
          (lt-ltb k (k + 1) (omega arith)) (λ e apart. early_next k e apart)

      pub one_fits : get_or counts x.child 0 + 1 ≤ length g.edges
      one_fits =
          let few = fewer_than (in_list g x.child) (length g.edges) (once x.child) (below x.child) in
          omega (arith, so_far x.child, rises, count_most (early (k + 1)) (in_list g x.child), few)

      pub counted_one : x.child < length counts
          → AreCounted g (k + 1) (set counts x.child (get_or counts x.child 0 + 1))
      counted_one low n =
          let one_more = get_or counts x.child 0 + 1 in
          elim (cases_eq n x.child) [
            | inl here ↦ (
                let P : ℕ → Type 0 = λ z. get_or (set counts x.child one_more) z 0
                ≡ count_of (early (k + 1)) (in_list g z) in
                let at_child : P x.child =
                get_or-set_same counts x.child one_more 0 low ∙ omega (arith, so_far x.child, rises) in
                subst P (sym here) at_child
                )
            | inr apart ↦
                get_or-set_other counts x.child n one_more 0 apart
                ∙ elsewhere n (λ m. (
                let y = leads n k m in
                apart (sym y.2 ∙ ap (λ (o : Option (Edge E)). child_or o) (sym y.1 ∙ at))
                ))
          ]

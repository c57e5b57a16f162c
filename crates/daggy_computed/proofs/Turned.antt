-- The turn of one node, by what is kept at its index.
use Rattle.std.proofs.Common.{◌≡◌, ◌≢◌, ℕ, ◌<◌, ◌⊎◌, inl, inr, Bool, true, false, Some, List, ◌∷◌, length, map, set, ◌++◌}
use Rattle.std.proofs.Common.{sym, ap, subst, ◌∙◌, arith, Contains, if◌then◌else◌}
use Rattle.std.specs.List.Sorted.{IsPermutation}
use Rattle.std.proofs.lemmas.Bool.{cases_eq, false≢true}
use Rattle.std.proofs.lemmas.List.{get_or-set_same, get_or-set_other, map-append}
use Rattle.std.proofs.lemmas.List.Sorted.{Contains-permutation, IsPermutation-map}
use Rattle.daggy_base.specs.Graph.{Graph, HasNode, node_weight}
use Rattle.daggy_base.specs.Weights.{with_node_weight}
use Rattle.daggy_base.proofs.Lists.{Contains-cases, contains_mem, mem_contains, mem_left}
use Rattle.daggy_computed.specs.declared.entry.Entry.{Entry}
use Rattle.daggy_computed.specs.Cells.{blank, cells, cell_of, entry_at, value_of, IsStaleAt}
use Rattle.daggy_computed.specs.Inputs.{inputs}
use Rattle.daggy_computed.specs.Marking.{all_marked, children_of}
use Rattle.daggy_computed.specs.Refreshing.{IsReady}
use Rattle.daggy_computed.specs.Settling.{IsTurn, is_new, kept_value, settled, settled_at}
use Rattle.daggy_computed.proofs.Celled.{cells_set, cell_at}

-- a node that was computed is not stale, and the others are as before
pub stale_settled : {V : Type 0} (eq : V → V → Bool) (es : List (Entry V)) (n : ℕ) (v : V) → n < length es → (m : ℕ)
    → IsStaleAt (settled_at eq es n v) m → (m ≢ n) × IsStaleAt es m
stale_settled {V} eq es n v low m s =
    let e : Entry V = record { value = kept_value eq (value_of es n) v; stale = false } in
    elim (cases_eq m n) [
      | inl here ↦ (
          let off : (entry_at (set es n e) n).stale ≡ false = ap (λ z. z.stale) (get_or-set_same es n e blank low) in
          absurd (false≢true (sym off ∙ (ap (λ k. (entry_at (set es n e) k).stale) (sym here) ∙ s)))
          )
      | inr apart ↦ (apart, sym (ap (λ z. z.stale) (get_or-set_other es n m e blank apart)) ∙ s)
    ]

module _ {K V E : Type 0} (eq : V → V → Bool) (gives : K → List V → V → Type 0) (g : Graph K E) (es : List (Entry V)) (n : ℕ)
    (k : K) (low : n < length es) (at : node_weight g n ≡ Some k) (stale : IsStaleAt es n) (v : V)
    (given : gives k (inputs (cells g es) n) v) (b : Bool) (kept : b ≡ is_new eq (value_of es n) v) where
  put : cells g (settled_at eq es n v) ≡ with_node_weight (cells g es) n (settled eq (cell_of (entry_at es n) k) v)
  put = cells_set g es n k (record { value = kept_value eq (value_of es n) v; stale = false }) low at

  pub turn_same : b ≡ false → (next : List (Entry V)) → next ≡ settled_at eq es n v
      → IsTurn eq gives n (cells g es) (cells g next) b
  turn_same off next is =
      let mid = with_node_weight (cells g es) n (settled eq (cell_of (entry_at es n) k) v) in
      record {
        cell = cell_of (entry_at es n) k;
        there = cell_at g es n k at;
        stale = stale;
        value = v;
        given = given;
        kept = kept;
        is = ap (cells g) is
            ∙ (put ∙ sym (ap (λ z. if z then all_marked mid (children_of (cells g es) n) else mid) (sym kept ∙ off)));
      }

  pub turn_new : b ≡ true → (next : List (Entry V))
      → cells g next ≡ all_marked (cells g (settled_at eq es n v)) (children_of g n)
      → IsTurn eq gives n (cells g es) (cells g next) b
  turn_new on next is =
      let mid = with_node_weight (cells g es) n (settled eq (cell_of (entry_at es n) k) v) in
      record {
        cell = cell_of (entry_at es n) k;
        there = cell_at g es n k at;
        stale = stale;
        value = v;
        given = given;
        kept = kept;
        is = is
            ∙ (ap (λ z. all_marked z (children_of g n)) put
            ∙ sym (ap (λ z. if z then all_marked mid (children_of (cells g es) n) else mid) (sym kept ∙ on)));
      }

module _ {K V E I : Type 0} (number : I → ℕ) (g : Graph K E) (es mid : List (Entry V)) (slots slots' : ℕ) (nodes now : List I)
    (n : I) (h : IsReady g es slots (map number nodes)) (moved : IsPermutation nodes (n ∷ now)) (len : length mid ≡ length es)
    (same : slots' ≡ slots) (left : (m : ℕ) → IsStaleAt mid m → (m ≢ number n) × IsStaleAt es m) where
  waits_on : (m : ℕ) → IsStaleAt mid m → Contains (map number now) m
  waits_on m s =
      let l = left m s in
      elim (Contains-cases (number n) m (map number now)
      (Contains-permutation (map number nodes) (map number (n ∷ now)) m (IsPermutation-map number nodes (n ∷ now) moved)
      (h.waits m l.1))) [
        | inl here ↦ absurd (l.0 (sym here))
        | inr later ↦ later
      ]

  -- after a node was computed and taken out
  pub ready_settled : IsReady g mid slots' (map number now)
  ready_settled =
      record {
        sized = λ m k. omega (arith, h.sized m k, len);
        slots_are = len ∙ (h.slots_are ∙ sym same);
        real = λ m s. h.real m (left m s).1;
        waits = waits_on;
      }

-- after fewer are stale
pub ready_less : {K V E : Type 0} (g : Graph K E) (es mid : List (Entry V)) (slots : ℕ) (queue : List ℕ)
    → IsReady g es slots queue → length mid ≡ length es → ((m : ℕ) → IsStaleAt mid m → IsStaleAt es m)
    → IsReady g mid slots queue
ready_less g es mid slots queue h len less =
    record {
      sized = λ m k. omega (arith, h.sized m k, len);
      slots_are = len ∙ h.slots_are;
      real = λ m s. h.real m (less m s);
      waits = λ m s. h.waits m (less m s);
    }

-- after children of a node were marked and put into the queue
pub ready_marked : {K V E I : Type 0} (number : I → ℕ) (g : Graph K E) (mid next : List (Entry V)) (slots slots' : ℕ)
    (now put sifted more : List I) (kids : List ℕ) → IsReady g mid slots (map number now) → length next ≡ length mid → slots' ≡ slots
    → put ≡ now ++ more → IsPermutation put sifted → ((m : ℕ) → Contains kids m → Contains (map number put) m)
    → ((m : ℕ) → Contains kids m → HasNode g m)
    → ((m : ℕ) → IsStaleAt next m → Contains kids m ⊎ IsStaleAt mid m) → IsReady g next slots' (map number sifted)
ready_marked number g mid next slots slots' now put sifted more kids h len same is moved all exist stale =
    record {
      sized = λ m k. omega (arith, h.sized m k, len);
      slots_are = len ∙ (h.slots_are ∙ sym same);
      real = λ m s. elim (stale m s) [ inl k ↦ exist m k | inr t ↦ h.real m t ];
      waits = λ m s. Contains-permutation (map number put) (map number sifted) m (IsPermutation-map number put sifted moved)
          (elim (stale m s) [
            | inl k ↦ all m k
            | inr t ↦
                subst (λ z. Contains (map number z) m) (sym is)
                (subst (λ z. Contains z m) (sym (map-append number now more))
                (mem_contains _ m (mem_left (map number now) (map number more) m (contains_mem _ m (h.waits m t)))))
          ]);
    }

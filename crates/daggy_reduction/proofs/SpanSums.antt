-- Sums of counts along an order, and the spans that they tell.
use Rattle.std.proofs.Common.{◌≡◌, ℕ, ◌+◌, ◌<◌, ◌≤◌, zero, suc, inl, inr, List, [], ◌∷◌, ◌++◌, length, get_or, set}
use Rattle.std.proofs.Common.{take, drop, is_some, refl, sym, ap, subst, ◌∙◌, arith, append_assoc, append-nil, length-append}
use Rattle.std.proofs.lemmas.Bool.{cases_eq}
use Rattle.std.proofs.lemmas.List.{get_or-set_same, get_or-set_other, take_at}
use Rattle.std.proofs.lemmas.List.Sums.{count_by-le-length}
use Rattle.daggy_base.specs.Graph.{Graph, out_list}
use Rattle.daggy_base.specs.Path.{AreJoined}
use Rattle.daggy_base.specs.Ordered.{IsOrderOf, place, stretch, edges_from}
use Rattle.daggy_base.specs.WellFormed.{IsWellFormed}
use Rattle.daggy_base.proofs.Lists.{Mem, Unique, mem_left, mem_right, mem_cases, unique_from_distinct}
use Rattle.daggy_base.proofs.OutEdgesRead.{lists_few}
use Rattle.daggy_base.proofs.Sorted.{place_same, place_right, unique_cross}
use Rattle.daggy_base.proofs.EdgesFrom.{lists_length}
use Rattle.daggy_reduction.specs.SearchSpan.{last_place, edges_spanned, all_spanned}
use Rattle.daggy_reduction.specs.Spans.{sum_at}
use Rattle.daggy_reduction.proofs.BoundedQueue.{last_over}
use Rattle.daggy_reduction.proofs.SpannedLooks.{total_is}
use Rattle.daggy_redundant.proofs.SweptNodes.{total}

-- sums over parts of a list
total_join : (cost : ℕ → ℕ) (xs ys : List ℕ) → total cost (xs ++ ys) ≡ total cost xs + total cost ys
total_join cost [] ys = omega arith
total_join cost (x ∷ xs) ys = omega (arith, total_join cost xs ys)

total_less : (low high : ℕ → ℕ) → ((n : ℕ) → low n ≤ high n) → (xs : List ℕ) → total low xs ≤ total high xs
total_less low high less [] = omega arith
total_less low high less (x ∷ xs) = omega (arith, less x, total_less low high less xs)

take_part : (xs : List ℕ) (i j : ℕ) → i ≤ j → take j xs ≡ take i xs ++ drop i (take j xs)
take_part xs zero j up = refl
take_part [] (suc i) zero up = refl
take_part [] (suc i) (suc j) up = refl
take_part (x ∷ xs) (suc i) zero up = absurd (omega (arith, up))
take_part (x ∷ xs) (suc i) (suc j) up = ap (λ (z : List ℕ). x ∷ z) (take_part xs i j (omega (arith, up)))

total_part : (cost : ℕ → ℕ) (xs : List ℕ) (i j : ℕ) → i ≤ j
    → total cost (take j xs) ≡ total cost (take i xs) + total cost (stretch xs i j)
total_part cost xs i j up =
    ap (total cost) (take_part xs i j up) ∙ total_join cost (take i xs) (drop i (take j xs))

sum_is : (numbers ns : List ℕ) → sum_at numbers ns ≡ total (λ n. get_or numbers n 0) ns
sum_is numbers [] = refl
sum_is numbers (n ∷ ns) = omega (arith, sum_is numbers ns)

edges_are : {N E : Type 0} (g : Graph N E) (ns : List ℕ) → edges_from g ns ≡ total (λ n. length (out_list g n)) ns
edges_are g [] = refl
edges_are g (n ∷ ns) = omega (arith, edges_are g ns)

-- counts that are at most the degrees
module _ {N E : Type 0} {end : ℕ} {g : Graph N E} (w : IsWellFormed end g) {order : List ℕ} (ord : IsOrderOf g order)
    (counts : List ℕ) (few : (n : ℕ) → get_or counts n 0 ≤ length (out_list g n)) where
  pub sum_few : sum_at counts order ≤ end
  sum_few =
      omega (
        arith,
        sum_is counts order,
        total_less (λ n. get_or counts n 0) (λ n. length (out_list g n)) few order,
        edges_are g order,
        lists_length g order,
        lists_few end g w order (unique_from_distinct order ord.once),
        count_by-le-length is_some g.edges,
        w.few_edges,
      )

  -- what two running sums differ by is spanned
  pub one_span : (n v : ℕ) → AreJoined g n v
      → (sum_at counts (take (place order n) order) ≤ sum_at counts (take (place order v) order))
      × (sum_at counts (take (place order v) order)
      ≤ sum_at counts (take (place order n) order) + edges_spanned g order n)
  one_span n v j =
      let i = place order n in
      let m = place order v in
      let k = last_place g order n in
      let cost : ℕ → ℕ = λ z. get_or counts z 0 in
      let degree : ℕ → ℕ = λ z. length (out_list g z) in
      let up : i < m = ord.sorted n v j in
      let over : m ≤ k = last_over end g w order n v j in
      let near = total_part cost order i m (omega (arith, up)) in
      let few_near = total_less cost degree few (stretch order i m) in
      let at_m = total_part degree order i m (omega (arith, up)) in
      let at_k = total_part degree order i k (omega (arith, up, over)) in
      let beyond = total_part degree order m k over in (
        omega (arith, sum_is counts (take i order), sum_is counts (take m order), near),
        omega (
          arith,
          sum_is counts (take i order),
          sum_is counts (take m order),
          near,
          few_near,
          at_m,
          at_k,
          beyond,
          edges_are g (stretch order i k),
        ),
      )

-- running sums written so far
pub record Summing (counts order rest cursors : List ℕ) (sum : ℕ) : Type 0 where
  pub done : List ℕ
  pub whole : order ≡ done ++ rest
  pub sum_so_far : sum ≡ sum_at counts done
  pub sums : (n : ℕ) → Mem n done → get_or cursors n 0 ≡ sum_at counts (take (place order n) order)
  pub left : (n : ℕ) → (Mem n done → ⊥) → get_or cursors n 0 ≡ get_or counts n 0

pub sum_start : (counts order rest : List ℕ) → rest ≡ order → Summing counts order rest counts 0
sum_start counts order rest is =
    record {
      done = [];
      whole = sym is;
      sum_so_far = refl;
      sums = λ n m. absurd m;
      left = λ n m. refl;
    }

sum_append : (counts xs ys : List ℕ) → sum_at counts (xs ++ ys) ≡ sum_at counts xs + sum_at counts ys
sum_append counts [] ys = omega arith
sum_append counts (x ∷ xs) ys = omega (arith, sum_append counts xs ys)

-- where the next node of an order stands
module _ {order : List ℕ} (done : List ℕ) {rest rest' : List ℕ} (whole : order ≡ done ++ rest) (n : ℕ)
    (next : rest ≡ n ∷ rest') where
  pub whole_is : order ≡ done ++ n ∷ rest'
  whole_is = whole ∙ ap (λ z. done ++ z) next

  pub next_there : Mem n order
  next_there = let P : List ℕ → Type 0 = λ z. Mem n z in
      subst P (sym whole_is) (mem_right done (n ∷ rest') n (inl refl))

  pub whole_next : order ≡ (done ++ n ∷ []) ++ rest'
  whole_next = whole_is ∙ sym (append_assoc done (n ∷ []) rest')

  module _ (once : Unique order) where
    pub next_new : Mem n done → ⊥
    next_new m =
        let P : List ℕ → Type 0 = λ z. Unique z in
        unique_cross done (n ∷ rest') (subst P whole_is once) n m (inl refl)

    pub place_next : place order n ≡ length done
    place_next =
        ap (λ z. place z n) whole_is ∙ place_right done (n ∷ rest') n next_new
        ∙ omega (arith, place_same n n rest' refl)

    pub before_next : take (place order n) order ≡ done
    before_next =
        ap (λ z. take (place order n) z) whole_is ∙ take_at done (n ∷ rest') (place order n) (sym place_next)

module _ {counts order rest cursors : List ℕ} {sum : ℕ} (once : Unique order)
    (s : Summing counts order rest cursors sum) (n : ℕ) {rest' : List ℕ} (next : rest ≡ n ∷ rest') where
  pub sum_within : sum + get_or cursors n 0 ≤ sum_at counts order
  sum_within =
      omega (
        arith,
        s.sum_so_far,
        s.left n (next_new s.done s.whole n next once),
        ap (sum_at counts) (whole_is s.done s.whole n next),
        sum_append counts s.done (n ∷ rest'),
      )

  pub sum_on : n < length cursors → {cursors' : List ℕ} → cursors' ≡ set cursors n sum
      → Summing counts order rest' cursors' (sum + get_or cursors n 0)
  sum_on low {cursors'} put =
      record {
        done = s.done ++ n ∷ [];
        whole = whole_next s.done s.whole n next;
        sum_so_far =
            omega (
              arith,
              s.sum_so_far,
              s.left n (next_new s.done s.whole n next once),
              sum_append counts s.done (n ∷ []),
            );
        sums = λ m h. elim (cases_eq m n) [
          | inl here ↦
              (let at : get_or cursors' n 0 ≡ sum_at counts (take (place order n) order) =
              ap (λ z. get_or z n 0) put ∙ get_or-set_same cursors n sum 0 low ∙ s.sum_so_far
              ∙ ap (sum_at counts) (sym (before_next s.done s.whole n next once)) in
              rw here at)
          | inr apart ↦ elim (mem_cases s.done (n ∷ []) m h) [
            | inl old ↦
                ap (λ z. get_or z m 0) put ∙ get_or-set_other cursors n m sum 0 apart ∙ s.sums m old
            | inr new ↦ elim new [ inl e ↦ absurd (apart e) | inr none ↦ absurd none ]
          ]
        ];
        left = λ m h.
            (let apart : m ≡ n → ⊥ = λ e. h (mem_right s.done (n ∷ []) m (inl e)) in
            ap (λ z. get_or z m 0) put ∙ get_or-set_other cursors n m sum 0 apart
            ∙ s.left m (λ old. h (mem_left s.done (n ∷ []) m old)));
      }

pub all_summed : {counts order rest cursors : List ℕ} {sum : ℕ} → Summing counts order rest cursors sum → rest ≡ []
    → (n : ℕ) → Mem n order → get_or cursors n 0 ≡ sum_at counts (take (place order n) order)
all_summed {counts} {order} {rest} s none n m =
    let P : List ℕ → Type 0 = λ z. Mem n z in
    s.sums n (subst P (s.whole ∙ ap (λ z. s.done ++ z) none ∙ append-nil s.done) m)

-- spans summed so far
pub record Spanning {N E : Type 0} (g : Graph N E) (order rest : List ℕ) (sum : ℕ) : Type 0 where
  pub done : List ℕ
  pub whole : order ≡ done ++ rest
  pub few : sum ≤ all_spanned g order done

module _ {N E : Type 0} {g : Graph N E} {order : List ℕ} where
  pub span_start : {rest : List ℕ} → rest ≡ order → Spanning g order rest 0
  span_start is = record { done = []; whole = sym is; few = omega arith }

  pub span_on : {rest rest' : List ℕ} {sum sum' : ℕ} → Spanning g order rest sum → (n : ℕ) → rest ≡ n ∷ rest'
      → sum' ≤ sum + edges_spanned g order n → Spanning g order rest' sum'
  span_on s n next less =
      record {
        done = s.done ++ n ∷ [];
        whole = whole_next s.done s.whole n next;
        few =
            omega (
              arith,
              s.few,
              less,
              total_is g order s.done,
              total_is g order (s.done ++ n ∷ []),
              total_join (edges_spanned g order) s.done (n ∷ []),
            );
      }

  pub all_span : {rest : List ℕ} {sum : ℕ} → Spanning g order rest sum → rest ≡ [] → sum ≤ all_spanned g order order
  all_span s none =
      let is : order ≡ s.done = s.whole ∙ ap (λ z. s.done ++ z) none ∙ append-nil s.done in
      omega (arith, s.few, ap (all_spanned g order) is)

-- places written so far
pub record Numbering (order rest cursors : List ℕ) (k : ℕ) : Type 0 where
  pub done : List ℕ
  pub whole : order ≡ done ++ rest
  pub count : k ≡ length done
  pub places : (n : ℕ) → Mem n done → get_or cursors n 0 ≡ place order n

pub number_start : (order rest cursors : List ℕ) → rest ≡ order → Numbering order rest cursors 0
number_start order rest cursors is =
    record { done = []; whole = sym is; count = refl; places = λ n m. absurd m }

module _ {order rest cursors : List ℕ} {k : ℕ} (s : Numbering order rest cursors k) (n : ℕ) {rest' : List ℕ}
    (next : rest ≡ n ∷ rest') where
  pub number_few : k < length order
  number_few =
      omega (
        arith,
        s.count,
        ap (λ (z : List ℕ). length z) (whole_is s.done s.whole n next),
        length-append s.done (n ∷ rest'),
      )

  pub number_on : Unique order → n < length cursors → {cursors' : List ℕ} → cursors' ≡ set cursors n k
      → Numbering order rest' cursors' (k + 1)
  number_on once low {cursors'} put =
      record {
        done = s.done ++ n ∷ [];
        whole = whole_next s.done s.whole n next;
        count = omega (arith, s.count, length-append s.done (n ∷ []));
        places = λ m h. elim (cases_eq m n) [
          | inl here ↦
              (let at : get_or cursors' n 0 ≡ place order n =
              ap (λ z. get_or z n 0) put ∙ get_or-set_same cursors n k 0 low ∙ s.count
              ∙ sym (place_next s.done s.whole n next once) in
              rw here at)
          | inr apart ↦ elim (mem_cases s.done (n ∷ []) m h) [
            | inl old ↦ ap (λ z. get_or z m 0) put ∙ get_or-set_other cursors n m k 0 apart ∙ s.places m old
            | inr new ↦ elim new [ inl e ↦ absurd (apart e) | inr none ↦ absurd none ]
          ]
        ];
      }

pub all_numbered : {order rest cursors : List ℕ} {k : ℕ} → Numbering order rest cursors k → rest ≡ [] → (n : ℕ)
    → Mem n order → get_or cursors n 0 ≡ place order n
all_numbered {order} {rest} s none n m =
    s.places n (subst (Mem n) (s.whole ∙ ap (λ z. s.done ++ z) none ∙ append-nil s.done) m)

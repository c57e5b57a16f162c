-- A set of nodes, and the list of its nodes.
use Rattle.std.proofs.Common.{◌≡◌, ℕ, ◌<◌, Bool, true, false, ◌⊎◌, ◌↔◌, inl, inr, List, [], ◌∷◌, ◌++◌, length, sym, subst, ◌∙◌}
use Rattle.std.proofs.Common.{Contains, arith}
use Rattle.std.proofs.lemmas.Bool.{false≢true, cases_lt}
use Rattle.std.proofs.lemmas.List.{append-nil, get_or_past}
use Rattle.daggy_base.proofs.Lists.{Mem, Unique, mem_contains, contains_mem, mem_left, mem_cases, mem_mid, unique_mid}
use Rattle.daggy_base.proofs.Lists.{unique_from_distinct, distinct_from_unique, fewer_than, Contains-nil}
use Rattle.daggy_visit.specs.Visit.{IsVisited}
use Rattle.daggy_traversal.specs.Traversal.{AreMarked}

visited_low : (set : List Bool) (n : ℕ) → IsVisited set n → n < length set
visited_low set n h =
    elim (cases_lt n (length set)) [
      | inl low ↦ low
      | inr past ↦ absurd (false≢true (sym (get_or_past set n false past) ∙ h))
    ]

module _ {set set' : List Bool} {nodes : List ℕ} (marked : AreMarked set nodes) (v : ℕ)
    (visited : (m : ℕ) → IsVisited set' m ↔ ((m ≡ v) ⊎ IsVisited set m)) where
  -- a node that the list has
  pub marked_again : IsVisited set v → AreMarked set' nodes
  marked_again old = record {
    exact = λ m. (
      λ h. elim ((visited m).0 h) [
        | inl same ↦ (let P : ℕ → Type 0 = λ z. Contains nodes z in subst P (sym same) ((marked.exact v).0 old))
        | inr before ↦ (marked.exact m).0 before
      ],
      λ c. (visited m).1 (inr ((marked.exact m).1 c)),
    );
    once = marked.once;
  }

  -- a node that the list gets
  pub marked_more : (IsVisited set v → ⊥) → AreMarked set' (nodes ++ v ∷ [])
  marked_more new = record {
    exact = λ m. (
      λ h. mem_contains (nodes ++ v ∷ []) m (elim ((visited m).0 h) [
        | inl same ↦ (let P : ℕ → Type 0 = λ z. Mem z (nodes ++ v ∷ []) in subst P (sym same) (mem_mid nodes [] v))
        | inr before ↦ mem_left nodes (v ∷ []) m (contains_mem nodes m ((marked.exact m).0 before))
      ]),
      λ c. (visited m).1 (elim (mem_cases nodes (v ∷ []) m (contains_mem (nodes ++ v ∷ []) m c)) [
        | inl before ↦ inr ((marked.exact m).1 (mem_contains nodes m before))
        | inr last ↦ elim last [ inl same ↦ inl same | inr none ↦ absurd none ]
      ]),
    );
    once = distinct_from_unique (nodes ++ v ∷ []) (once_more (λ m. new ((marked.exact v).1 (mem_contains nodes v m))));
  }
    where
      once_more : (Mem v nodes → ⊥) → Unique (nodes ++ v ∷ [])
      once_more none =
          let P : List ℕ → Type 0 = λ z. Unique z in
          let Q : List ℕ → Type 0 = λ z. Mem v z → ⊥ in
          unique_mid nodes [] v (subst P (sym (append-nil nodes)) (unique_from_distinct nodes marked.once))
          (subst Q (sym (append-nil nodes)) none)

pub listed : {set : List Bool} {nodes : List ℕ} → AreMarked set nodes → (v : ℕ) → IsVisited set v → Mem v nodes
listed {set} {nodes} marked v h = contains_mem nodes v ((marked.exact v).0 h)

pub unlisted : {set : List Bool} {nodes : List ℕ} → AreMarked set nodes → (v : ℕ)
    → (IsVisited set v → ⊥) → Mem v nodes → ⊥
unlisted {set} {nodes} marked v new m = new ((marked.exact v).1 (mem_contains nodes v m))

-- what a visit answers of a node that was not in the set
pub was_new : {answer : Bool} {Old : Type 0} → (answer ≡ false) ↔ Old → answer ≡ true → Old → ⊥
was_new says new old = false≢true (sym (says.1 old) ∙ new)

-- an index below the bound that is not in the list leaves room
pub marked_room : {set : List Bool} {nodes : List ℕ} → AreMarked set nodes → (v : ℕ)
    → (IsVisited set v → ⊥) → v < length set → length nodes < length set
marked_room {set} {nodes} marked v new low =
    let few = fewer_than (v ∷ nodes) (length set) (
      λ m. new ((marked.exact v).1 (mem_contains nodes v m)),
      unique_from_distinct nodes marked.once,
    ) (λ x m. elim m [
      | inl same ↦ (let P : ℕ → Type 0 = λ z. z < length set in subst P (sym same) low)
      | inr there ↦ visited_low set x ((marked.exact x).1 (mem_contains nodes x there))
    ]) in
    omega (arith, few)

-- the set of no nodes
pub marked_none : {set : List Bool} {nodes : List ℕ}
    → ((n : ℕ) → IsVisited set n → ⊥) → nodes ≡ [] → AreMarked set nodes
marked_none {set} {nodes} empty none =
    let P : List ℕ → Type 0 = λ z. AreMarked set z in
    subst P (sym none) (record {
      exact = λ n. (λ h. absurd (empty n h), λ c. absurd (Contains-nil n c));
      once = tt;
    })

-- the same set and the same list by other names
pub marked_by : {set set' : List Bool} {nodes nodes' : List ℕ}
    → set' ≡ set → nodes' ≡ nodes → AreMarked set nodes → AreMarked set' nodes'
marked_by {set} {set'} {nodes} {nodes'} same_set same_nodes marked =
    let P : List Bool → Type 0 = λ z. AreMarked z nodes' in
    let Q : List ℕ → Type 0 = λ z. AreMarked set z in
    subst P (sym same_set) (subst Q (sym same_nodes) marked)

-- The links between the nodes of an order, and their labels.
use Rattle.std.specs.Prelude.{◌≡◌, ◌≢◌, ℕ, zero, suc, ◌+◌, ◌-◌, ◌<◌, ◌≤◌, ◌==◌, ◌^◌, List, [], ◌∷◌, ◌++◌, length, take, drop, map}
use Rattle.std.specs.Prelude.{filter, not, Bool, true, ◌↔◌, ◌⊎◌, slice_index, slice_index_or, Contains, if◌then◌else◌}
use Rattle.std.specs.List.{range_with_len}
use Rattle.daggy_base.specs.Cursor.{first_of}
use Rattle.daggy_base.specs.Ordered.{place}
use Rattle.daggy_base.specs.Removal.{without}
use Rattle.daggy_base.specs.WellFormed.{AreDistinct}
use Rattle.daggy_order.specs.declared.list.links.Item.{Item}

-- a list of nodes, the label at each index, and the number of indices for which there is memory
pub record Listed : Type 0 where
  pub nodes : List ℕ
  pub labels : List ℕ
  pub capacity : ℕ

-- the item stored at the index of a node that is not in the list
abbrev pub vacant : {I : Type 0} → (end : ℕ) → Item I
vacant end = record { next = end; previous = end; label = 0 }

-- the `next` link of each item
abbrev pub nexts_of : {I : Type 0} → List (Item I) → List ℕ
nexts_of items = map (λ x. x.next) items

-- the `previous` link of each item
abbrev pub previous_of : {I : Type 0} → List (Item I) → List ℕ
previous_of items = map (λ x. x.previous) items

-- the label of each item
abbrev pub labels_of : {I : Type 0} → List (Item I) → List ℕ
labels_of items = map (λ x. x.label) items

-- a list of nodes, and the number of indices for which there is memory
pub record Stored : Type 0 where
  pub nodes : List ℕ
  pub capacity : ℕ

-- `count` nodes along these links, from `from` on
abbrev pub nodes_from : (end : ℕ) → List ℕ → (from count : ℕ) → List ℕ
nodes_from end next from zero = []
nodes_from end next from (suc count) = from ∷ nodes_from end next (slice_index_or next from end) count

-- the link of a node; `end` is a sentinel before the first node and after the last, and its link is `outer`
abbrev pub neighbor : (end outer : ℕ) → List ℕ → ℕ → ℕ
neighbor end outer links n = if n == end then outer else slice_index_or links n end

-- the link of p is now q, and every other link is unchanged
pub record LeadsTo (old new : ℕ → ℕ) (p q : ℕ) : Type 0 where
  pub led : new p ≡ q
  pub others : (k : ℕ) → k ≢ p → new k ≡ old k

-- from p along the nodes to q, each is linked to the one after it, and back to the one before it
abbrev pub IsLinkChain : (next previous : ℕ → ℕ) → (p : ℕ) → List ℕ → (q : ℕ) → Type 0
IsLinkChain next previous p [] q = (next p ≡ q) × (previous q ≡ p)
IsLinkChain next previous p (x ∷ xs) q = (next p ≡ x) × (previous x ≡ p) × IsLinkChain next previous x xs q

-- the invariant of the links of a list
pub record AreLinksOf (end : ℕ) (next previous : List ℕ) (first last : ℕ) (nodes : List ℕ) : Type 0 where
  pub chained : IsLinkChain (neighbor end first next) (neighbor end last previous) end nodes end
  pub distinct : AreDistinct (end ∷ nodes)
  pub within : (n : ℕ) → Contains nodes n → n < length previous

-- the labels ascend along a list, and all are above `low` and below `high`
abbrev pub LabelsAscend : (labels : List ℕ) → (low : ℕ) → List ℕ → (high : ℕ) → Type 0
LabelsAscend labels low [] high = low < high
LabelsAscend labels low (n ∷ nodes) high =
    (low < slice_index labels n) × LabelsAscend labels (slice_index labels n) nodes high

-- the items of the `count` nodes after node n, by their indices, are written: each leads to the next index and to the
-- one before, and their labels ascend from above `low` to at most `high`; the other items are kept
pub record IsRunWritten {I : Type 0} (end : ℕ) (old new : List (Item I)) (n count low high : ℕ) : Type 0 where
  pub sized : length new ≡ length old
  pub next : (k : ℕ) → n < k → k ≤ n + count → slice_index_or (nexts_of new) k end ≡ k + 1
  pub previous : (k : ℕ) → n ≤ k → k < n + count → slice_index_or (previous_of new) (k + 1) end ≡ k
  pub ascending : LabelsAscend (labels_of new) low (range_with_len (n + 1) count) (high + 1)
  pub others : (k : ℕ) → (k ≤ n) ⊎ (n + count < k)
      → slice_index_or new k (vacant end) ≡ slice_index_or old k (vacant end)

-- n is the last of these nodes, and none is greater
pub record EndsAtGreatest (nodes : List ℕ) (n : ℕ) : Type 0 where
  pub before : List ℕ
  pub is : nodes ≡ before ++ n ∷ []
  pub most : (m : ℕ) → Contains nodes m → m ≤ n

-- the labels ascend along a list, and are 0 for a node that is not in it
pub record IsLabelled (labels nodes : List ℕ) : Type 0 where
  pub ascending : LabelsAscend labels 0 nodes (2 ^ 64)
  pub held : (n : ℕ) → 0 < slice_index labels n → Contains nodes n

-- `run` is a part of the list: `count` nodes from `from` on
pub record IsSegment (end : ℕ) (nodes : List ℕ) (from count : ℕ) (before run behind : List ℕ) : Type 0 where
  pub is : nodes ≡ before ++ (run ++ behind)
  pub counted : length run ≡ count
  pub begins : from ≡ first_of end (run ++ behind)

-- such a part exists
pub record HasSegment (end : ℕ) (nodes : List ℕ) (from count : ℕ) : Type 0 where
  pub before : List ℕ
  pub run : List ℕ
  pub behind : List ℕ
  pub is_run : IsSegment end nodes from count before run behind

-- the labels ascend along a list, except for the `count` nodes after a, from `from` up to, not including, `after`
pub record HasGap (end : ℕ) (labels nodes : List ℕ) (a from count after : ℕ) : Type 0 where
  pub before : List ℕ
  pub run : List ℕ
  pub behind : List ℕ
  pub is : nodes ≡ before ++ a ∷ (run ++ behind)
  pub counted : length run ≡ count
  pub begins : from ≡ first_of end (run ++ behind)
  pub ends : after ≡ first_of end behind
  pub ascending : LabelsAscend labels 0 (before ++ a ∷ behind) (2 ^ 64)

-- the labels ascend along a list, except for its last node n; `last` is the node before n
pub record HasLast (labels nodes : List ℕ) (last n : ℕ) : Type 0 where
  pub before : List ℕ
  pub is : nodes ≡ before ++ n ∷ []
  pub ends : (ns : List ℕ) (m : ℕ) → before ≡ ns ++ m ∷ [] → last ≡ m
  pub ascending : LabelsAscend labels 0 before (2 ^ 64)

-- the labels ascend along a list, except for its first node n; `first` is the node after n
pub record HasFirst (end : ℕ) (labels nodes : List ℕ) (first n : ℕ) : Type 0 where
  pub behind : List ℕ
  pub is : nodes ≡ n ∷ behind
  pub begins : first ≡ first_of end behind
  pub ascending : LabelsAscend labels 0 behind (2 ^ 64)

-- `left` nodes of a list, from `at` on
abbrev pub nodes_at : (left at : ℕ) → List ℕ → List ℕ
nodes_at left at nodes = take left (drop (place nodes at) nodes)

-- the position of an iteration that has yet to yield `left` nodes of a list: `at` is the first of them, `back` the last
pub record IsAt (nodes : List ℕ) (left at back : ℕ) : Type 0 where
  pub distinct : AreDistinct nodes
  pub within : place nodes at + left ≤ length nodes
  pub ends : left ≢ 0 → back ≡ slice_index nodes (place nodes at + (left - 1))

-- each of these nodes comes before a
pub record StandBefore (nodes : List ℕ) (a : ℕ) (ns : List ℕ) : Type 0 where
  pub before : List ℕ
  pub behind : List ℕ
  pub is : nodes ≡ before ++ a ∷ behind
  pub stand : (n : ℕ) → Contains ns n → Contains before n

-- The nodes of `ns`, which come before a, are moved to right after it, in their old order.
pub record IsMoved (a : ℕ) (ns old new : List ℕ) : Type 0 where
  pub test : ℕ → Bool
  pub exact : (n : ℕ) → (test n ≡ true) ↔ Contains ns n
  pub before : List ℕ
  pub behind : List ℕ
  pub was : old ≡ before ++ a ∷ behind
  pub is : new ≡ filter (λ n. not (test n)) before ++ a ∷ (filter test before ++ behind)

-- a list without some nodes
abbrev pub without_all : List ℕ → List ℕ → List ℕ
without_all [] nodes = nodes
without_all (n ∷ ns) nodes = without_all ns (without n nodes)

-- the linked nodes are followed by a run of `count` consecutive indices from `from` on: these are above all linked
-- nodes, and there is memory to link them
pub record IsTailed (end : ℕ) (nodes : List ℕ) (capacity from count index_bound : ℕ) : Type 0 where
  pub below : (n : ℕ) → Contains nodes n → n < from
  pub real : from + count ≤ end
  pub within : index_bound ≤ capacity
  pub fits : 0 < count → from + count ≤ index_bound

-- the position of an iteration that has yet to yield `left` nodes of a list, the first at `at` and the last at `back`,
-- and then `count` consecutive indices from `from` on
pub record IsAmong (end : ℕ) (nodes : List ℕ) (left at back from count : ℕ) : Type 0 where
  pub written : IsAt nodes left at back
  pub real : from + count ≤ end
  pub few : left ≤ from

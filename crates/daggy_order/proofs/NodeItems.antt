-- The item of a node: what is read from it, and links that are stored in items.
use Rattle.std.proofs.Common.{◌≡◌, ◌≢◌, ℕ, ◌<◌, ◌⊎◌, inl, inr, List, [], ◌∷◌, ◌++◌, length, get_or, sym, ap, subst}
use Rattle.std.proofs.Common.{◌∙◌, arith}
use Rattle.std.specs.List.{Contains}
use Rattle.daggy_base.proofs.Lists.{Mem, contains_mem}
use Rattle.daggy_order.specs.declared.list.links.Item.{Item}
use Rattle.daggy_order.specs.Links.{AreLinksOf, neighbor, nexts_of, previous_of, labels_of}
use Rattle.daggy_order.proofs.Chains.{neighbor_node}
use Rattle.daggy_order.proofs.Items.{previous_many, labels_many, next_read, previous_read, as_many}
use Rattle.daggy_order.proofs.LinkedNodes.{Linking, CanPut, once, inside, is_fresh, next_leads, previous_leads}
use Rattle.daggy_order.proofs.LinkedNodes.{leads_within}

-- the links that are stored in items
abbrev pub linking : {I : Type 0} → List (Item I) → (first last : ℕ) → Linking
linking items first last = record {
  next = nexts_of items;
  previous = previous_of items;
  first = first;
  last = last;
}

-- a node of the list
pub is_held : {n : ℕ} {xs nodes : List ℕ} → xs ≡ nodes → Contains nodes n → Mem n xs
is_held {n} {xs} {nodes} is held =
    let P : List ℕ → Type 0 = λ z. Mem n z in
    subst P (sym is) (contains_mem nodes n held)

module _ {I : Type 0} {end first last : ℕ} (items : List (Item I)) {xs : List ℕ}
    (s : AreLinksOf end (nexts_of items) (previous_of items) first last xs) {n : ℕ} (held : Mem n xs) where
  -- there is an item for it
  pub item_low : n < length items
  item_low = omega (arith, inside s n held, previous_many items)

  real : n ≢ end
  real e = (once s).0 (let P : ℕ → Type 0 = λ z. Mem z xs in subst P e held)

  -- the item is read
  module _ {i : ℕ} {x : Item I} (is : x ≡ get_or items i x) (at : i ≡ n) where
    next_is_read : x.next ≡ get_or (nexts_of items) n end
    next_is_read = next_read items is at (omega (arith, at, item_low)) end

    previous_is_read : x.previous ≡ get_or (previous_of items) n end
    previous_is_read = previous_read items is at (omega (arith, at, item_low)) end

    pub next_here : x.next ≡ neighbor end first (nexts_of items) n
    next_here = next_is_read ∙ sym (neighbor_node end first (nexts_of items) n real)

    pub previous_here : x.previous ≡ neighbor end last (previous_of items) n
    previous_here = previous_is_read ∙ sym (neighbor_node end last (previous_of items) n real)

    -- its links lead to nodes, or to the end
    pub next_among : Mem x.next (xs ++ end ∷ [])
    next_among =
        let P : ℕ → Type 0 = λ z. Mem z (xs ++ end ∷ []) in
        subst P (sym next_is_read) (next_leads s n held)

    pub previous_among : Mem x.previous (end ∷ xs)
    previous_among =
        let P : ℕ → Type 0 = λ z. Mem z (end ∷ xs) in
        subst P (sym previous_is_read) (previous_leads s n held)

    pub next_low : (x.next ≡ end) ⊎ (x.next < length items)
    next_low =
        elim (leads_within s x.next next_among) [
          | inl e ↦ inl e
          | inr below ↦ inr (omega (arith, below, previous_many items))
        ]

    pub previous_low : (x.previous ≡ end) ⊎ (x.previous < length items)
    previous_low =
        elim previous_among [
          | inl e ↦ inl e
          | inr m ↦ inr (omega (arith, inside s x.previous m, previous_many items))
        ]

-- two joins can put in a node that the list lacks and for which there is an item
pub can_put : {I : Type 0} {end n : ℕ} {xs nodes labels : List ℕ} (items between new : List (Item I)) (first last : ℕ)
    → xs ≡ nodes → labels_of items ≡ labels → n ≢ end → (Contains nodes n → ⊥) → n < length labels
    → labels_of between ≡ labels_of items → labels_of new ≡ labels_of between
    → CanPut end xs (previous_of items) (linking new first last) n
can_put items between new first last are labels_are apart absent numbered kept kept_on = record {
  fresh = is_fresh are apart absent;
  low = omega (arith, numbered, ap (λ (z : List ℕ). length z) labels_are, previous_many items, labels_many items);
  long = omega (
    arith,
    as_many items between kept,
    as_many between new kept_on,
    previous_many items,
    previous_many new,
  );
}

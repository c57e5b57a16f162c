-- Lists of stored items: what is read from them, and what a write changes.
use Rattle.std.proofs.Common.{◌≡◌, ◌≢◌, ℕ, ◌<◌, List, length, get_or, set, map, cond, eqb, sym, ap, ◌∙◌}
use Rattle.std.proofs.lemmas.List.{length-map, get_or-map, get_or-set_same, get_or-set_other}
use Rattle.std.proofs.Math.ListN.{get_or-map as get_or-mapped}
use Rattle.daggy_order.specs.declared.list.links.Item.{Item}
use Rattle.daggy_order.specs.Links.{LeadsTo, vacant, neighbor, nexts_of, previous_of, labels_of}
use Rattle.daggy_order.proofs.Chains.{neighbor_end, neighbor_node}

-- there is a link and a label for each item
pub nexts_many : {I : Type 0} (items : List (Item I)) → length (nexts_of items) ≡ length items
nexts_many items = length-map items (λ x. x.next)

pub previous_many : {I : Type 0} (items : List (Item I)) → length (previous_of items) ≡ length items
previous_many items = length-map items (λ x. x.previous)

pub labels_many : {I : Type 0} (items : List (Item I)) → length (labels_of items) ≡ length items
labels_many items = length-map items (λ x. x.label)

-- an item that is read
module _ {I : Type 0} (items : List (Item I)) {i k : ℕ} {x : Item I} (is : x ≡ get_or items i x) (at : i ≡ k)
    (low : i < length items) where
  pub next_read : (end : ℕ) → x.next ≡ get_or (nexts_of items) k end
  next_read end =
      ap (λ (z : Item I). z.next) is
      ∙ (sym (get_or-map (λ (z : Item I). z.next) items i x end low) ∙ ap (λ z. get_or (nexts_of items) z end) at)

  pub previous_read : (end : ℕ) → x.previous ≡ get_or (previous_of items) k end
  previous_read end =
      ap (λ (z : Item I). z.previous) is
      ∙ (sym (get_or-map (λ (z : Item I). z.previous) items i x end low)
      ∙ ap (λ z. get_or (previous_of items) z end) at)

  pub label_read : x.label ≡ get_or (labels_of items) k 0
  label_read =
      ap (λ (z : Item I). z.label) is
      ∙ (sym (get_or-map (λ (z : Item I). z.label) items i x 0 low) ∙ ap (λ z. get_or (labels_of items) z 0) at)

-- where a node leads after a write of its link, and where `end` leads after a write of what is outside
pub leads_set : (end outer : ℕ) (links : List ℕ) (p q : ℕ)
    → p ≢ end → p < length links → LeadsTo (neighbor end outer links) (neighbor end outer (set links p q)) p q
leads_set end outer links p q real low = record {
  led = neighbor_node end outer (set links p q) p real ∙ get_or-set_same links p q end low;
  others = λ k d. ap (λ z. cond (eqb k end) outer z) (get_or-set_other links p k q end d);
}

pub leads_outer : (end outer q : ℕ) (links : List ℕ) (p : ℕ)
    → p ≡ end → LeadsTo (neighbor end outer links) (neighbor end q links) p q
leads_outer end outer q links p is = record {
  led = ap (neighbor end q links) is ∙ neighbor_end end q links;
  others = λ k d. neighbor_node end q links k (λ e. d (e ∙ sym is))
      ∙ sym (neighbor_node end outer links k (λ e. d (e ∙ sym is)));
}

-- as many items as before, if their labels are the same
pub as_many : {I : Type 0} (old new : List (Item I)) → labels_of new ≡ labels_of old → length new ≡ length old
as_many old new is =
    sym (labels_many new) ∙ (ap (λ (z : List ℕ). length z) is ∙ labels_many old)

-- where an item is the same, or vacant and was not there, so are its links and its label
module _ {I : Type 0} (end : ℕ) (old new : List (Item I)) (k : ℕ)
    (same : get_or new k (vacant end) ≡ get_or old k (vacant end)) where
  field_kept : (f : Item I → ℕ) → get_or (map f new) k (f (vacant end)) ≡ get_or (map f old) k (f (vacant end))
  field_kept f = get_or-mapped f new k (vacant end) ∙ (ap f same ∙ sym (get_or-mapped f old k (vacant end)))

  pub next_kept : get_or (nexts_of new) k end ≡ get_or (nexts_of old) k end
  next_kept = field_kept (λ x. x.next)

  pub previous_kept : get_or (previous_of new) k end ≡ get_or (previous_of old) k end
  previous_kept = field_kept (λ x. x.previous)

  pub label_kept : get_or (labels_of new) k 0 ≡ get_or (labels_of old) k 0
  label_kept = field_kept (λ x. x.label)

-- the same of all items
module _ {I : Type 0} (end : ℕ) (old new : List (Item I))
    (same : (k : ℕ) → get_or new k (vacant end) ≡ get_or old k (vacant end)) where
  pub same_nexts : (k : ℕ) → get_or (nexts_of new) k end ≡ get_or (nexts_of old) k end
  same_nexts k = next_kept end old new k (same k)

  pub same_previous : (k : ℕ) → get_or (previous_of new) k end ≡ get_or (previous_of old) k end
  same_previous k = previous_kept end old new k (same k)

  pub same_labels : (k : ℕ) → get_or (labels_of new) k 0 ≡ get_or (labels_of old) k 0
  same_labels k = label_kept end old new k (same k)

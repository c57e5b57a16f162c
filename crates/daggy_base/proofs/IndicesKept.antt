-- What outlives a removal that leaves slots vacant keeps its index.
use Rattle.std.proofs.Common.{◌≡◌, ℕ, zero, suc, inl, inr, List, [], ◌∷◌, length, Option, Some, None, OnSome, IfNone}
use Rattle.std.proofs.Common.{subst, sym}
use Rattle.daggy_base.specs.Graph.{Graph, out_list, in_list, list_at}
use Rattle.daggy_base.specs.Removal.{KeepsIndices, without_edge, without_first, without_front}
use Rattle.daggy_base.specs.declared.kind.Kind.TheVariants.{Stable}
use Rattle.daggy_base.specs.Removal.{with_node_isolated, with_node_dropped, without_node}
use Rattle.daggy_base.specs.declared.index.Direction.{Direction}
use Rattle.daggy_base.specs.declared.index.Direction.TheVariants.{Outgoing, Incoming}
use Rattle.daggy_base.proofs.PathsWithoutEdge.{slot_put}

pub keeps_itself : {N E : Type 0} (g : Graph N E) → KeepsIndices g g
keeps_itself g = record { nodes = λ n w h. h; edges = λ e x h. h }

pub keeps_on : {N E : Type 0} (a b c : Graph N E) → KeepsIndices a b → KeepsIndices b c → KeepsIndices a c
keeps_on a b c p q = record {
  nodes = λ n w h. p.nodes n w (q.nodes n w h);
  edges = λ e x h. p.edges e x (q.edges e x h);
}

keeps_without_edge : {N E : Type 0} (g : Graph N E) (e : ℕ) → KeepsIndices g (without_edge Stable g e)
keeps_without_edge g e =
    record {
      nodes = λ n w h. h;
      edges = λ i x h. elim (slot_put g.edges e i None x h) [ inl a ↦ absurd cc | inr b ↦ b ];
    }

keeps_without_first : {N E : Type 0} (g : Graph N E) (es : List ℕ) → KeepsIndices g (without_first Stable g es)
keeps_without_first g [] = keeps_itself g
keeps_without_first g (e ∷ es) = keeps_without_edge g e

keeps_without_front : {N E : Type 0} (dir : Direction) (k : ℕ) (g : Graph N E) (n : ℕ)
    → KeepsIndices g (without_front Stable dir k g n)
keeps_without_front dir zero g n = keeps_itself g
keeps_without_front dir (suc k) g n =
    let h = without_first Stable g (list_at dir g n) in
    keeps_on g h (without_front Stable dir k h n) (keeps_without_first g (list_at dir g n))
    (keeps_without_front dir k h n)

keeps_isolated : {N E : Type 0} (g : Graph N E) (n : ℕ) → KeepsIndices g (with_node_isolated Stable g n)
keeps_isolated g n =
    let h = without_front Stable Outgoing (length (out_list g n)) g n in
    keeps_on g h (with_node_isolated Stable g n) (keeps_without_front Outgoing (length (out_list g n)) g n)
    (keeps_without_front Incoming (length (in_list h n)) h n)

keeps_dropped : {N E : Type 0} (g : Graph N E) (n : ℕ) → KeepsIndices g (with_node_dropped Stable g n)
keeps_dropped g n =
    record {
      nodes = λ i w h. elim (slot_put g.nodes n i None w h) [ inl a ↦ absurd cc | inr b ↦ b ];
      edges = λ e x h. h;
    }

-- whether the edge was there or not
pub keeps_edge_gone : {A N E : Type 0} (old new : Graph N E) (e : ℕ) (r : Option A)
    → OnSome r (new ≡ without_edge Stable old e) → IfNone r (new ≡ old) → KeepsIndices old new
keeps_edge_gone {A} {N} {E} old new e None removed missing =
    let P : Graph N E → Type 0 = λ z. KeepsIndices old z in subst P (sym missing) (keeps_itself old)
keeps_edge_gone {A} {N} {E} old new e (Some a) removed missing =
    let P : Graph N E → Type 0 = λ z. KeepsIndices old z in subst P (sym removed) (keeps_without_edge old e)

-- whether the node was there or not
pub keeps_node_gone : {A N E : Type 0} (old new : Graph N E) (n : ℕ) (r : Option A)
    → OnSome r (new ≡ without_node Stable old n) → IfNone r (new ≡ old) → KeepsIndices old new
keeps_node_gone {A} {N} {E} old new n None removed missing =
    let P : Graph N E → Type 0 = λ z. KeepsIndices old z in subst P (sym missing) (keeps_itself old)
keeps_node_gone {A} {N} {E} old new n (Some a) removed missing =
    let P : Graph N E → Type 0 = λ z. KeepsIndices old z in
    let h = with_node_isolated Stable old n in
    subst P (sym removed) (keeps_on old h (without_node Stable old n) (keeps_isolated old n) (keeps_dropped h n))

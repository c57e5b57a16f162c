-- A node that is taken back leaves the graph from before.
use Rattle.std.proofs.Common.{◌≡◌, ℕ, Bool, ◌+◌, ◌-◌, true, List, [], ◌∷◌, length, map, get_or, set, Option, Some, None}
use Rattle.std.proofs.Common.{slice_get, inl, refl, sym, ap, subst, ◌∙◌, arith}
use Rattle.std.specs.Option.{option_map}
use Rattle.std.proofs.lemmas.Bool.{false≢true}
use Rattle.std.proofs.lemmas.List.{set-get_or}
use Rattle.std.proofs.lemmas.Option.{unwrap_or-slice_get}
use Rattle.std.proofs.Math.Seq.{take-append_seam}
use Rattle.daggy_base.specs.Graph.{Graph, Edge, HasNode, slot, out_list, in_list}
use Rattle.daggy_base.specs.Adding.{with_node, next_node, next_slot, with_slot_filled}
use Rattle.daggy_base.specs.Removal.{renamed, with_ends_renamed, with_node_dropped}
use Rattle.daggy_base.specs.declared.kind.Kind.TheVariants.{Compact}
use Rattle.daggy_base.specs.TakingBack.{is_slot_made, with_node_taken_back, lists_taken_back, UndoesNode}
use Rattle.daggy_base.specs.WellFormed.{IsWellFormed}
use Rattle.daggy_base.proofs.Lists.{Mem, mem_contains}
use Rattle.daggy_base.proofs.Slots.{slot_vacant}
use Rattle.daggy_base.proofs.PathsWithNewNode.{free_slots}
use Rattle.daggy_base.proofs.EdgeTakenBack.{same_graph, slots_undone, vacant_undone, cut_last, renamed_itself}

no_members : (xs : List ℕ) → ((x : ℕ) → Mem x xs → ⊥) → xs ≡ []
no_members [] none = refl
no_members (x ∷ xs) none = absurd (none x (inl refl))

-- the list of a vacant slot is empty
abbrev VacantRowEmpty : List (List ℕ) → List ℕ → Type 0
VacantRowEmpty rows [] = Unit {0}
VacantRowEmpty rows (v ∷ vs) = get_or rows v [] ≡ []

rows_undone : {A : Type 0} (nodes : List A) (rows : List (List ℕ)) (vacant : List ℕ)
    → length rows ≡ length nodes → VacantRowEmpty rows vacant
    → lists_taken_back (is_slot_made vacant) (with_slot_filled rows vacant []) (next_slot nodes vacant) ≡ rows
rows_undone nodes rows [] same empty = rw (← same) (take-append_seam rows ([] ∷ []))
rows_undone nodes rows (v ∷ vs) same empty = ap (set rows v) (sym empty) ∙ set-get_or rows v []

vacant_empty : {A : Type 0} (nodes : List (Option A)) (rows : List (List ℕ)) (vacant : List ℕ)
    → ((i : ℕ) → slot nodes i ≡ None → get_or rows i [] ≡ [])
    → ((v : ℕ) (vs : List ℕ) → vacant ≡ v ∷ vs → slice_get nodes v ≡ Some None) → VacantRowEmpty rows vacant
vacant_empty nodes rows [] none there = tt
vacant_empty nodes rows (v ∷ vs) none there = none v (slot_vacant nodes v (there v vs refl))

module _ {N E : Type 0} (end : ℕ) (g : Graph N E) (f : IsWellFormed end g) where
  missing : (n : ℕ) → slot g.nodes n ≡ None → HasNode g n → ⊥
  missing n none h = false≢true (rw none at h)

  out_empty : (n : ℕ) → slot g.nodes n ≡ None → get_or g.out_lists n [] ≡ []
  out_empty n none =
      sym (unwrap_or-slice_get g.out_lists n []) ∙ no_members (out_list g n) (λ e m.
      let x = (f.out_of.exact n e).0 (mem_contains _ _ m) in
      missing n none (let P : ℕ → Type 0 = λ z. HasNode g z in subst P x.2 (f.parents e x.0 x.1)))

  in_empty : (n : ℕ) → slot g.nodes n ≡ None → get_or g.in_lists n [] ≡ []
  in_empty n none =
      sym (unwrap_or-slice_get g.in_lists n []) ∙ no_members (in_list g n) (λ e m.
      let x = (f.in_of.exact n e).0 (mem_contains _ _ m) in
      missing n none (let P : ℕ → Type 0 = λ z. HasNode g z in subst P x.2 (f.children e x.0 x.1)))

  first_vacant : (v : ℕ) (vs : List ℕ) → g.vacant_nodes ≡ v ∷ vs → slice_get g.nodes v ≡ Some None
  first_vacant v vs is = free_slots g.nodes (v ∷ vs) (rw is at f.node_slots)

  pub node_taken_back_undoes : (w : N)
      → with_node_taken_back (is_slot_made g.vacant_nodes) (with_node g w) (next_node g) ≡ g
  node_taken_back_undoes w =
      same_graph g (slots_undone g.nodes g.vacant_nodes w (free_slots _ _ f.node_slots)) refl
      (rows_undone g.nodes g.out_lists g.vacant_nodes f.out_list_count
      (vacant_empty g.nodes g.out_lists g.vacant_nodes out_empty first_vacant))
      (rows_undone g.nodes g.in_lists g.vacant_nodes f.in_list_count
      (vacant_empty g.nodes g.in_lists g.vacant_nodes in_empty first_vacant))
      (vacant_undone g.nodes g.vacant_nodes) refl

-- the last node of a compact store is taken back by dropping it
ends_itself : {E : Type 0} (n : ℕ) (x : Edge E) → with_ends_renamed n n x ≡ x
ends_itself {E} n x =
    let mk : ℕ → ℕ → Edge E = λ u v. record { parent = u; child = v; weight = x.weight } in
    ap (λ u. mk u (renamed n n x.child)) (renamed_itself n x.parent) ∙ ap (mk x.parent) (renamed_itself n x.child)

edges_itself : {E : Type 0} (n : ℕ) (xs : List (Option (Edge E))) → map (option_map (with_ends_renamed n n)) xs ≡ xs
edges_itself n [] = refl
edges_itself n (None ∷ xs) = ap (λ z. None ∷ z) (edges_itself n xs)
edges_itself n (Some x ∷ xs) =
    ap (λ z. Some z ∷ map (option_map (with_ends_renamed n n)) xs) (ends_itself n x)
    ∙ ap (λ z. Some x ∷ z) (edges_itself n xs)

pub last_node_dropped : {N E : Type 0} (g : Graph N E) (n : ℕ)
    → length g.out_lists ≡ length g.nodes → length g.in_lists ≡ length g.nodes → n + 1 ≡ length g.nodes
    → with_node_dropped Compact g n ≡ with_node_taken_back true g n
last_node_dropped g n outs ins last =
    let from : length g.nodes - 1 ≡ n = omega (arith, last) in
    same_graph (with_node_taken_back true g n) (cut_last g.nodes n None last)
    (ap (λ k. map (option_map (with_ends_renamed k n)) g.edges) from ∙ edges_itself n g.edges)
    (cut_last g.out_lists n [] (last ∙ sym outs)) (cut_last g.in_lists n [] (last ∙ sym ins)) refl refl

-- taking back the node that was added last gives the graph from before
pub undoes_node : {N E : Type 0} (end : ℕ) (made : Bool) (old : Graph N E) (n : ℕ) (new : Graph N E)
    → new ≡ with_node_taken_back made old n → UndoesNode end made old n new
undoes_node end made old n new taken = λ before w well_formed added slot fresh.
    taken ∙ ap (λ b. with_node_taken_back b old n) fresh
    ∙ ap (λ g. with_node_taken_back (is_slot_made before.vacant_nodes) g n) added
    ∙ ap (with_node_taken_back (is_slot_made before.vacant_nodes) (with_node before w)) slot
    ∙ node_taken_back_undoes end before well_formed w

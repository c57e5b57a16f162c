-- A node that was just added, until an edge to it is added or it is taken back.
use Rattle.std.proofs.Common.{◌≡◌, ℕ, zero, suc, ◌+◌, ◌<◌, leb, IsTrue, true, List, [], ◌∷◌, ◌++◌, length, get_or, set}
use Rattle.std.proofs.Common.{Option, Some, refl, sym, ap, ◌∙◌, arith}
use Rattle.std.proofs.lemmas.Bool.{false≢true}
use Rattle.std.proofs.lemmas.Bool.Decides.{nat_tests}
use Rattle.std.proofs.lemmas.List.{length_push}
use Rattle.std.proofs.lemmas.Option.{unwrap_or-slice_get, slice_get_within, same_Some}
use Rattle.daggy_base.specs.declared.index.Direction.{Direction}
use Rattle.daggy_base.specs.declared.index.Direction.TheVariants.{Outgoing, Incoming}
use Rattle.daggy_base.specs.Graph.{Graph, HasNode, node_weight, list_at, IsCompact}
use Rattle.daggy_base.specs.Adding.{with_node, next_node, next_slot, with_slot_filled}
use Rattle.daggy_base.specs.declared.kind.Kind.{Kind}
use Rattle.daggy_base.specs.declared.kind.Kind.TheVariants.{Compact}
use Rattle.daggy_base.specs.TakingBack.{with_node_taken_back, is_slot_made}
use Rattle.daggy_base.specs.WellFormed.{IsWellFormed}
use Rattle.daggy_base.proofs.Slots.{IsFree, slot_taken_new}
use Rattle.daggy_base.proofs.PathsWithNewNode.{free_slots, node_kept, node_new}
use Rattle.daggy_base.proofs.PathsWithNode.{bound_low}
use Rattle.daggy_base.proofs.NodeTakenBack.{node_taken_back_undoes}
use Rattle.daggy_base.proofs.OutEdgesRead.{below_bound}
use Rattle.daggy_guard.specs.NewNode.{IsAddedNode}

emptied : (rows : List (List ℕ)) (i : ℕ) → get_or (set rows i []) i [] ≡ []
emptied [] i = refl
emptied (r ∷ rows) zero = refl
emptied (r ∷ rows) (suc i) = emptied rows i

pushed : (rows : List (List ℕ)) → get_or (rows ++ [] ∷ []) (length rows) [] ≡ []
pushed [] = refl
pushed (r ∷ rows) = pushed rows

new_row : {A : Type 0} (nodes : List A) (rows : List (List ℕ)) (vacant : List ℕ)
    → length rows ≡ length nodes → get_or (with_slot_filled rows vacant []) (next_slot nodes vacant) [] ≡ []
new_row nodes rows [] same = rw (← same) (pushed rows)
new_row nodes rows (v ∷ vs) same = emptied rows v

-- whether the slot was made, by its place
made_cases : {A : Type 0} (nodes : List (Option A)) (vacant : List ℕ)
    → IsFree nodes vacant → leb (length nodes) (next_slot nodes vacant) ≡ is_slot_made vacant
made_cases nodes [] free = grind (arith, nat_tests)
made_cases nodes (v ∷ vs) free = let within = slice_get_within nodes v _ free in grind (arith, nat_tests)

made_last : {A : Type 0} (nodes : List (Option A)) (vacant : List ℕ) (w : A)
    → is_slot_made vacant ≡ true → next_slot nodes vacant + 1 ≡ length (with_slot_filled nodes vacant (Some w))
made_last nodes [] w made = sym (length_push nodes (Some w))
made_last nodes (v ∷ vs) w made = absurd (false≢true made)

pub added_node : {N E : Type 0} {limit : ℕ} {kind : Kind} {old now : Graph N E} {n slots : ℕ} (w : N)
    → IsWellFormed limit old → (kind ≡ Compact → IsCompact old) → slots ≡ length old.nodes → n ≡ next_node old
    → now ≡ with_node old w
    → IsAddedNode limit kind old now w n slots
added_node w f compact were is added = record {
  well_formed = f;
  compact = λ c. (compact c).nodes;
  now_is = added;
  index_is = is;
  slot_count_is = were;
}

module _ {N E : Type 0} {limit : ℕ} {kind : Kind} {old now : Graph N E} {w : N} {n slots : ℕ}
    (s : IsAddedNode limit kind old now w n slots) where
  free : IsFree old.nodes old.vacant_nodes
  free = free_slots old.nodes old.vacant_nodes s.well_formed.node_slots

  pub new_exists : HasNode now n
  new_exists = rw (s.now_is, s.index_is) (node_new limit old w s.well_formed)

  pub new_low : {end : ℕ} → IsWellFormed end now → n < end
  new_low f = omega (arith, below_bound now.nodes n new_exists, bound_low now.nodes, f.few_nodes)

  pub old_exists : (m : ℕ) → HasNode old m → HasNode now m
  old_exists m h = rw s.now_is (node_kept limit old w s.well_formed m h)

  pub weight_is : (x : N) → node_weight now n ≡ Some x → x ≡ w
  weight_is x gives =
      let there : node_weight now n ≡ Some w =
      rw (s.now_is, s.index_is) (slot_taken_new old.nodes old.vacant_nodes w free) in
      same_Some x w (sym gives ∙ there)

  pub no_lists : (dir : Direction) → list_at dir now n ≡ []
  no_lists Outgoing =
      rw (s.now_is, s.index_is) (unwrap_or-slice_get (with_node old w).out_lists (next_node old) []
      ∙ new_row old.nodes old.out_lists old.vacant_nodes s.well_formed.out_list_count)
  no_lists Incoming =
      rw (s.now_is, s.index_is) (unwrap_or-slice_get (with_node old w).in_lists (next_node old) []
      ∙ new_row old.nodes old.in_lists old.vacant_nodes s.well_formed.in_list_count)

  made_is : leb slots n ≡ is_slot_made old.vacant_nodes
  made_is =
      ap (λ k. leb k n) s.slot_count_is ∙ ap (leb (length old.nodes)) s.index_is
      ∙ made_cases old.nodes old.vacant_nodes free

  pub made_where_compact : kind ≡ Compact → IsTrue (leb slots n)
  made_where_compact c = made_is ∙ ap is_slot_made (s.compact c)

  pub made_is_last : IsTrue (leb slots n) → n + 1 ≡ length now.nodes
  made_is_last made = rw (s.now_is, s.index_is) (made_last old.nodes old.vacant_nodes w (sym made_is ∙ made))

  pub taken_back_is_old : with_node_taken_back (leb slots n) now n ≡ old
  taken_back_is_old =
      ap (λ b. with_node_taken_back b now n) made_is
      ∙ ap (λ h. with_node_taken_back (is_slot_made old.vacant_nodes) h n) s.now_is
      ∙ ap (with_node_taken_back (is_slot_made old.vacant_nodes) (with_node old w)) s.index_is
      ∙ node_taken_back_undoes limit old s.well_formed w

-- What was written of a list so far.
use Rattle.std.proofs.Common.{◌≡◌, ◌≢◌, ℕ, ◌+◌, ◌<◌, ◌≤◌, Some, List, [], ◌∷◌, ◌++◌, length, take, drop, map, sym, ap, ◌∙◌}
use Rattle.std.proofs.Common.{arith, length-append}
use Rattle.std.proofs.lemmas.List.{map-append}
use Rattle.daggy_base.specs.declared.index.Direction.{Direction}
use Rattle.daggy_base.specs.Graph.{Graph, Edge, edge_at, list_at, near_end}
use Rattle.daggy_base.specs.Cursor.{first_of, cursor_after}
use Rattle.daggy_base.specs.WellFormed.{IsWellFormed}
use Rattle.serde_json.specs.View.{view}
use Rattle.serde_json.specs.declared.value.Value.{Value}
use Rattle.daggy_json.specs.Document.{whole}
use Rattle.daggy_visit.proofs.ListCursors.{IsAt, at_element, at_edge, at_whole, at_front, at_next}

-- as many numbers of the list were written as there are values, and the cursor is at the one that follows
pub record Listed (end : ℕ) (list : List ℕ) (vs : List Value) (e : ℕ) : Type 0 where
  pub within : length vs ≤ length list
  pub written : map view vs ≡ map whole (take (length vs) list)
  pub cursor : e ≡ first_of end (drop (length vs) list)

cursor_at : {end : ℕ} {list : List ℕ} {vs : List Value} {e : ℕ} → Listed end list vs e → IsAt end list (length vs) e
cursor_at s = record { within = s.within; cursor = s.cursor }

module _ {N E : Type 0} {end : ℕ} {g : Graph N E} (w : IsWellFormed end g) where
  module _ (dir : Direction) (n : ℕ) {e : ℕ} {vs : List Value} (s : Listed end (list_at dir g n) vs e) where
    pub listed_more : e ≢ end → length vs < length (list_at dir g n)
    listed_more h = (at_element w dir n (cursor_at s) h).0

    pub listed_edge : e ≢ end → (x : Edge E) × (edge_at g e ≡ Some x) × (near_end dir x ≡ n)
    listed_edge h = at_edge w dir n (cursor_at s) h

    pub listed_whole : e ≡ end → map view vs ≡ map whole (list_at dir g n)
    listed_whole at_end = s.written ∙ ap (map whole) (at_whole w dir n (cursor_at s) at_end)

    pub listed_next : e ≢ end → (v : Value) {vs' : List Value} {e' : ℕ} → view v ≡ whole e → vs' ≡ vs ++ v ∷ []
        → e' ≡ cursor_after dir end g e (edge_at g e) → Listed end (list_at dir g n) vs' e'
    listed_next h v {vs'} is more next =
        let list = list_at dir g n in
        let moved = at_next w dir n (cursor_at s) h next in
        let long : length vs' ≡ length vs + 1 = ap length more ∙ length-append vs (v ∷ []) in
        let longer : take (length vs') list ≡ take (length vs) list ++ e ∷ [] =
        ap (λ k. take k list) long ∙ at_front w dir n (cursor_at s) h in
        record {
          within = omega (arith, moved.within, long);
          written =
              rw (longer, more, map-append view vs (v ∷ []), s.written, is)
              (sym (map-append whole (take (length vs) list) (e ∷ [])));
          cursor = moved.cursor ∙ ap (λ k. first_of end (drop k list)) (sym long);
        }

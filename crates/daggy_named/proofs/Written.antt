-- A node whose weight is written.
use Rattle.std.proofs.Common.{◌≡◌, ℕ, Bool, true, List, map, set, Option, Some, is_some, refl, sym, ◌∙◌}
use Rattle.std.proofs.lemmas.Option.{get_or_from_slice_get}
use Rattle.daggy_base.specs.Graph.{slot}
use Rattle.daggy_base.proofs.Lists.{map-set_same}
use Rattle.daggy_named.specs.Places.{IsKept}
use Rattle.daggy_named.proofs.Slots.{slot_within, what_is}

pub kept_written : {K I N : Type 0} {eq : K → K → Bool}
    {number : I → ℕ} {nodes : List (Option N)} {entries : List (K × I)}
    {places : List (Option ℕ)} (n : ℕ) (w : N) → is_some (slot nodes n) ≡ true → IsKept eq number nodes entries places
    → IsKept eq number (set nodes n (Some w)) entries places
kept_written {K} {I} {N} {eq} {number} {nodes} {entries} {places} n w there kept =
    let held = what_is (slot nodes n) there in
    let at = slot_within nodes n held.0 held.1 in
    let same : map is_some (set nodes n (Some w)) ≡ map is_some nodes =
    map-set_same is_some nodes n (Some held.0) (Some w)
    (sym (get_or_from_slice_get nodes n (Some held.0) (Some held.0) at)) refl in
    record { slots = kept.slots ∙ sym same; back = kept.back; forth = kept.forth; once = kept.once }

-- The graph of cells is well formed, ordered and joined as the graph of formulas is.
use Rattle.std.proofs.Common.{◌≡◌, ◌<◌, ◌+◌, ◌↔◌, ℕ, zero, suc, Option, Some, None, List, [], ◌∷◌, ◌++◌, length, map, set, take, get_or, cond}
use Rattle.std.proofs.Common.{refl, sym, ap, subst, ◌∙◌, arith}
use Rattle.std.specs.Option.{option_map}
use Rattle.std.specs.Prelude.{IsSome, slice_get, count_by, is_some}
use Rattle.std.proofs.lemmas.Option.{same_Some}
use Rattle.daggy_base.specs.Graph.{Graph, HasNode, node_weight}
use Rattle.daggy_base.specs.Ordered.{IsOrderOf}
use Rattle.daggy_base.specs.Path.{IsPath, Reaches}
use Rattle.daggy_base.specs.WellFormed.{IsWellFormed}
use Rattle.daggy_computed.specs.declared.entry.Entry.{Entry}
use Rattle.daggy_computed.specs.Cells.{blank, entry_at, cell_of, with_entries, cells}
use Rattle.daggy_computed.specs.Computation.{formulas}
use Rattle.daggy_base.proofs.Slots.{count_cons}
use Rattle.daggy_computed.proofs.Celled.{slot_at}
use Rattle.daggy_computed.proofs.ValuesKept.{IsTwoWay}

-- ---- slots

pub length_entries : {K V : Type 0} (os : List (Option K)) (es : List (Entry V)) → length (with_entries os es) ≡ length os
length_entries [] es = refl
length_entries (o ∷ os) [] = ap suc (length_entries os [])
length_entries (o ∷ os) (e ∷ es) = ap suc (length_entries os es)

pub formulas_entries : {K V : Type 0} (os : List (Option K)) (es : List (Entry V))
    → map (option_map (λ c. c.formula)) (with_entries os es) ≡ os
formulas_entries [] es = refl
formulas_entries (None ∷ os) [] = ap (λ z. None ∷ z) (formulas_entries os [])
formulas_entries (Some k ∷ os) [] = ap (λ z. Some k ∷ z) (formulas_entries os [])
formulas_entries (None ∷ os) (e ∷ es) = ap (λ z. None ∷ z) (formulas_entries os es)
formulas_entries (Some k ∷ os) (e ∷ es) = ap (λ z. Some k ∷ z) (formulas_entries os es)

pub formulas_cells : {K V E : Type 0} (g : Graph K E) (es : List (Entry V)) → formulas (cells g es) ≡ g
formulas_cells g es = ap (λ z. record g { nodes = z }) (formulas_entries g.nodes es)

vacant_there : {K V : Type 0} (os : List (Option K)) (es : List (Entry V)) (i : ℕ)
    → slice_get os i ≡ Some None → slice_get (with_entries os es) i ≡ Some None
vacant_there [] es i h = absurd cc
vacant_there (o ∷ os) [] zero h = ap (λ z. Some (option_map (cell_of blank) z)) (same_Some o None h)
vacant_there (o ∷ os) [] (suc i) h = vacant_there os [] i h
vacant_there (o ∷ os) (e ∷ es) zero h = ap (λ z. Some (option_map (cell_of e) z)) (same_Some o None h)
vacant_there (o ∷ os) (e ∷ es) (suc i) h = vacant_there os es i h

none_before : {K V : Type 0} (o : Option K) (e : Entry V) → Some (option_map (cell_of e) o) ≡ Some None → Some o ≡ Some None
none_before None e h = refl
none_before (Some k) e h = absurd cc

vacant_back : {K V : Type 0} (os : List (Option K)) (es : List (Entry V)) (i : ℕ)
    → slice_get (with_entries os es) i ≡ Some None → slice_get os i ≡ Some None
vacant_back [] es i h = absurd cc
vacant_back (o ∷ os) [] zero h = none_before o blank h
vacant_back (o ∷ os) [] (suc i) h = vacant_back os [] i h
vacant_back (o ∷ os) (e ∷ es) zero h = none_before o e h
vacant_back (o ∷ os) (e ∷ es) (suc i) h = vacant_back os es i h

module _ {K V E : Type 0} (g : Graph K E) (es : List (Entry V)) where
  some_there : (o : Option K) (e : Entry V) → IsSome o ↔ IsSome (option_map (cell_of e) o)
  some_there None e = (λ h. absurd cc, λ h. absurd cc)
  some_there (Some k) e = (λ h. refl, λ h. refl)

  -- the same nodes exist
  pub same_nodes : (n : ℕ) → HasNode g n ↔ HasNode (cells g es) n
  same_nodes n =
      let s = some_there (node_weight g n) (entry_at es n) in (
        λ h. subst IsSome (sym (slot_at g.nodes es n)) (s.0 h),
        λ h. s.1 (subst IsSome (slot_at g.nodes es n) h),
      )

  pub wf_cells : (end : ℕ) → IsWellFormed end g → IsWellFormed end (cells g es)
  wf_cells end w =
      record {
        out_list_count = w.out_list_count ∙ sym (length_entries g.nodes es);
        in_list_count = w.in_list_count ∙ sym (length_entries g.nodes es);
        parents = λ e x h. (same_nodes x.parent).0 (w.parents e x h);
        children = λ e x h. (same_nodes x.child).0 (w.children e x h);
        out_of = record { exact = w.out_of.exact; once = w.out_of.once };
        in_of = record { exact = w.in_of.exact; once = w.in_of.once };
        node_slots = record {
          exact = λ i. (
            λ c. vacant_there g.nodes es i ((w.node_slots.exact i).0 c),
            λ h. (w.node_slots.exact i).1 (vacant_back g.nodes es i h),
          );
          once = w.node_slots.once;
        };
        edge_slots = w.edge_slots;
        few_nodes = omega (arith, w.few_nodes, length_entries g.nodes es);
        few_edges = w.few_edges;
      }

  pub order_cells : (order : List ℕ) → IsOrderOf g order → IsOrderOf (cells g es) order
  order_cells order o =
      record {
        exact = λ n. (λ c. (same_nodes n).0 ((o.exact n).0 c), λ h. (o.exact n).1 ((same_nodes n).1 h));
        once = o.once;
        sorted = o.sorted;
      }

  pub two_way_cells : IsTwoWay g → IsTwoWay (cells g es)
  two_way_cells t = record { turned = t.turned; no_loop = t.no_loop }

  pub path_cells : (u : ℕ) (rest : List ℕ) → IsPath g (u ∷ rest) ↔ IsPath (cells g es) (u ∷ rest)
  path_cells u [] = same_nodes u
  path_cells u (v ∷ rest) = (
    λ p. ((same_nodes u).0 p.0, p.1, (path_cells v rest).0 p.2),
    λ p. ((same_nodes u).1 p.0, p.1, (path_cells v rest).1 p.2),
  )

  pub reaches_cells : (u v : ℕ) → Reaches g u v ↔ Reaches (cells g es) u v
  reaches_cells u v =
      (λ r. (r.0, (path_cells u r.0).0 r.1, r.2), λ r. (r.0, (path_cells u r.0).1 r.1, r.2))

-- ---- slots where other things are kept

abbrev tail_of : {V : Type 0} → List (Entry V) → List (Entry V)
tail_of [] = []
tail_of (e ∷ es) = es

tail_at : {V : Type 0} (es : List (Entry V)) (m : ℕ) → entry_at (tail_of es) m ≡ entry_at es (suc m)
tail_at [] m = refl
tail_at (e ∷ es) m = refl

opened : {K V : Type 0} (o : Option K) (os : List (Option K)) (es : List (Entry V))
    → with_entries (o ∷ os) es ≡ option_map (cell_of (entry_at es 0)) o ∷ with_entries os (tail_of es)
opened o os [] = refl
opened o os (e ∷ es) = refl

-- only what is kept at the slots counts
pub same_entries : {K V : Type 0} (os : List (Option K)) (es fs : List (Entry V))
    → ((m : ℕ) → m < length os → entry_at fs m ≡ entry_at es m) → with_entries os fs ≡ with_entries os es
same_entries [] es fs same = refl
same_entries (o ∷ os) es fs same =
    opened o os fs
    ∙ (ap (λ z. option_map (cell_of z) o ∷ with_entries os (tail_of fs)) (same 0 (omega arith))
    ∙ (ap (λ z. option_map (cell_of (entry_at es 0)) o ∷ z)
    (same_entries os (tail_of es) (tail_of fs)
    (λ m low. tail_at fs m ∙ (same (suc m) (omega (arith, low)) ∙ sym (tail_at es m))))
    ∙ sym (opened o os es)))

-- a slot is filled or emptied
pub entries_put : {K V : Type 0} (os : List (Option K)) (es fs : List (Entry V)) (i : ℕ) (o : Option K)
    → ((m : ℕ) → m < length os → (m ≡ i → ⊥) → entry_at fs m ≡ entry_at es m)
    → with_entries (set os i o) fs ≡ set (with_entries os es) i (option_map (cell_of (entry_at fs i)) o)
entries_put [] es fs zero o same = refl
entries_put [] es fs (suc i) o same = refl
entries_put (x ∷ os) es fs zero o same =
    opened o os fs
    ∙ (ap (λ z. option_map (cell_of (entry_at fs 0)) o ∷ z)
    (same_entries os (tail_of es) (tail_of fs)
    (λ m low. tail_at fs m ∙ (same (suc m) (omega (arith, low)) (λ e. absurd (omega (arith, e))) ∙ sym (tail_at es m))))
    ∙ sym (ap (λ z. set z 0 (option_map (cell_of (entry_at fs 0)) o)) (opened x os es)))
entries_put (x ∷ os) es fs (suc i) o same =
    opened x (set os i o) fs
    ∙ (ap (λ z. option_map (cell_of z) x ∷ with_entries (set os i o) (tail_of fs)) (same 0 (omega arith) (λ e. absurd (omega (arith, e))))
    ∙ (ap (λ z. option_map (cell_of (entry_at es 0)) x ∷ z)
    (entries_put os (tail_of es) (tail_of fs) i o
    (λ m low d. tail_at fs m ∙ (same (suc m) (omega (arith, low)) (λ e. d (omega (arith, e))) ∙ sym (tail_at es m)))
    ∙ ap (λ z. set (with_entries os (tail_of es)) i (option_map (cell_of z) o)) (tail_at fs i))
    ∙ sym (ap (λ z. set z (suc i) (option_map (cell_of (entry_at fs (suc i))) o)) (opened x os es))))

-- a slot is made at the end
pub entries_more : {K V : Type 0} (os : List (Option K)) (fs : List (Entry V)) (o : Option K)
    → with_entries (os ++ o ∷ []) fs ≡ with_entries os fs ++ option_map (cell_of (entry_at fs (length os))) o ∷ []
entries_more [] fs o = opened o [] fs
entries_more (x ∷ os) fs o =
    opened x (os ++ o ∷ []) fs
    ∙ (ap (λ z. option_map (cell_of (entry_at fs 0)) x ∷ z)
    (entries_more os (tail_of fs) o
    ∙ ap (λ z. with_entries os (tail_of fs) ++ option_map (cell_of z) o ∷ []) (tail_at fs (length os)))
    ∙ sym (ap (λ z. z ++ option_map (cell_of (entry_at fs (suc (length os)))) o ∷ []) (opened x os fs)))

-- the first slots
pub entries_first : {K V : Type 0} (k : ℕ) (os : List (Option K)) (es : List (Entry V))
    → with_entries (take k os) es ≡ take k (with_entries os es)
entries_first zero os es = refl
entries_first (suc k) [] es = refl
entries_first (suc k) (o ∷ os) [] = ap (λ z. option_map (cell_of blank) o ∷ z) (entries_first k os [])
entries_first (suc k) (o ∷ os) (e ∷ es) = ap (λ z. option_map (cell_of e) o ∷ z) (entries_first k os es)

-- what is in a slot
pub entry_got : {K V : Type 0} (os : List (Option K)) (es : List (Entry V)) (i : ℕ)
    → get_or (with_entries os es) i None ≡ option_map (cell_of (entry_at es i)) (get_or os i None)
entry_got [] es i = refl
entry_got (o ∷ os) [] zero = refl
entry_got (o ∷ os) [] (suc i) = entry_got os [] i
entry_got (o ∷ os) (e ∷ es) zero = refl
entry_got (o ∷ os) (e ∷ es) (suc i) = entry_got os es i

as_some : {K V : Type 0} (o : Option K) (e : Entry V) → is_some (option_map (cell_of e) o) ≡ is_some o
as_some None e = refl
as_some (Some k) e = refl

-- how many there are
pub count_entries : {K V : Type 0} (os : List (Option K)) (es : List (Entry V))
    → count_by is_some (with_entries os es) ≡ count_by is_some os
count_entries [] es = refl
count_entries (o ∷ os) es =
    let rest = count_entries os (tail_of es) in
    ap (count_by is_some) (opened o os es)
    ∙ (count_cons (option_map (cell_of (entry_at es 0)) o) (with_entries os (tail_of es))
    ∙ (ap (λ z. cond (is_some (option_map (cell_of (entry_at es 0)) o)) 1 0 + z) rest
    ∙ (ap (λ z. cond z 1 0 + count_by is_some os) (as_some o (entry_at es 0)) ∙ sym (count_cons o os))))

-- The parents of other nodes while the edges of a node are removed.
use Rattle.std.proofs.Common.{◌≡◌, ◌≢◌, ℕ, zero, suc, ◌-◌, ◌<◌, ◌≤◌, ◌⊎◌, inl, inr, not, eqb, true, List, [], ◌∷◌, length, map}
use Rattle.std.proofs.Common.{Option, Some, None, set, slice_get, unwrap_or, refl, sym, ap, subst, ◌∙◌, arith}
use Rattle.std.specs.Prelude.{option_and_then}
use Rattle.std.specs.List.{swap_remove}
use Rattle.std.proofs.lemmas.Bool.{cases_eq, cases_lt, eq-eqb, ne_eqb}
use Rattle.std.proofs.lemmas.List.{length-map}
use Rattle.std.proofs.lemmas.Option.{same_Some}
use Rattle.daggy_base.specs.declared.index.Direction.{Direction}
use Rattle.daggy_base.specs.declared.index.Direction.TheVariants.{Incoming, Outgoing}
use Rattle.daggy_base.specs.declared.kind.Kind.{Kind}
use Rattle.daggy_base.specs.declared.kind.Kind.TheVariants.{Compact, Stable}
use Rattle.daggy_base.specs.Graph.{Graph, Edge, edge_at, in_list, out_list, list_at, slot}
use Rattle.daggy_base.specs.Path.{AreJoined}
use Rattle.daggy_base.specs.Removal.{without, renamed, without_edge, without_first, without_front, with_node_isolated}
use Rattle.daggy_base.specs.WellFormed.{IsWellFormed}
use Rattle.daggy_base.proofs.ListParts.{filter_yes, filter_no, is_held}
use Rattle.daggy_base.proofs.Lists.{Mem, contains_mem, mem_contains, IsSwapRemoved, IsSwapRemoved-from}
use Rattle.daggy_base.proofs.PathsWithoutEdge.{joined_before}
use Rattle.daggy_base.proofs.Sorted.{filter_mem}
use Rattle.daggy_computed.specs.Marking.{far_nodes, end_before}

-- the parents of a node, one for each edge, newest first
abbrev pub parents_of : {N E : Type 0} → Graph N E → ℕ → List ℕ
parents_of g n = far_nodes Incoming g (in_list g n)

-- ---- lists

pub renamed_last : (last d e : ℕ) → e ≡ last → renamed last d e ≡ d
renamed_last last d e h = rw (eq-eqb e last h) refl

pub renamed_other : (last d e : ℕ) → e ≢ last → renamed last d e ≡ e
renamed_other last d e h = rw (ne_eqb e last h) refl

map_itself : (xs : List ℕ) → map (λ (x : ℕ). x) xs ≡ xs
map_itself [] = refl
map_itself (x ∷ xs) = ap (λ z. x ∷ z) (map_itself xs)

row_mapped : (f : List ℕ → List ℕ) → f [] ≡ [] → (rows : List (List ℕ)) (m : ℕ)
    → unwrap_or (slice_get (map f rows) m) [] ≡ f (unwrap_or (slice_get rows m) [])
row_mapped f none [] m = sym none
row_mapped f none (r ∷ rows) zero = refl
row_mapped f none (r ∷ rows) (suc m) = row_mapped f none rows m

mem_mapped : (f : ℕ → ℕ) (es : List ℕ) (e : ℕ) → Mem e (map f es) → (k : ℕ) × Mem k es × (e ≡ f k)
mem_mapped f [] e m = absurd m
mem_mapped f (k ∷ es) e m =
    elim m [
      | inl same ↦ (k, inl refl, same)
      | inr later ↦ (let more = mem_mapped f es e later in (more.0, inr more.1, more.2))
    ]

mapped_mem : (f : ℕ → ℕ) (es : List ℕ) (e : ℕ) → Mem e es → Mem (f e) (map f es)
mapped_mem f [] e m = absurd m
mapped_mem f (k ∷ es) e m = elim m [ inl same ↦ inl (ap f same) | inr later ↦ inr (mapped_mem f es e later) ]

mem_without : (d e : ℕ) (es : List ℕ) → Mem e (without d es) → Mem e es × (e ≢ d)
mem_without d e es m =
    let at = filter_mem (λ z. not (eqb z d)) es e m in
    (at.0, λ h. absurd (held at.1 h))
  where
    held : not (eqb e d) ≡ true → e ≡ d → ⊥
    held t h = let f = eq-eqb e d h in cc

without_here : (d : ℕ) (es : List ℕ) → without d (d ∷ es) ≡ without d es
without_here d es = filter_no (λ z. not (eqb z d)) d es (ap not (eq-eqb d d refl))

without_there : (d e : ℕ) (es : List ℕ) → e ≢ d → without d (e ∷ es) ≡ e ∷ without d es
without_there d e es h = filter_yes (λ z. not (eqb z d)) e es (is_held d e h)

kept_without : (d e : ℕ) (es : List ℕ) → Mem e es → e ≢ d → Mem e (without d es)
kept_without d e [] m h = absurd m
kept_without d e (k ∷ es) m h =
    elim (cases_eq k d) [
      | inl is ↦ (
          let rest : Mem e es = elim m [ inl same ↦ absurd (h (same ∙ is)) | inr later ↦ later ] in
          subst (Mem e) (sym (ap (λ z. without d (z ∷ es)) is ∙ without_here d es)) (kept_without d e es rest h)
          )
      | inr apart ↦
          subst (Mem e) (sym (without_there d k es apart))
          (elim m [ inl same ↦ inl same | inr later ↦ inr (kept_without d e es later h) ])
    ]

without_none : (d : ℕ) (es : List ℕ) → (Mem d es → ⊥) → without d es ≡ es
without_none d [] absent = refl
without_none d (e ∷ es) absent =
    without_there d e es (λ h. absent (inl (sym h)))
    ∙ ap (λ z. e ∷ z) (without_none d es (λ m. absent (inr m)))

fewer_without : (d : ℕ) (es : List ℕ) → length (without d es) ≤ length es
fewer_without d [] = omega arith
fewer_without d (e ∷ es) =
    elim (cases_eq e d) [
      | inl is ↦ omega (arith, fewer_without d es, ap length (ap (λ z. without d (z ∷ es)) is ∙ without_here d es))
      | inr apart ↦ omega (arith, fewer_without d es, ap length (without_there d e es apart))
    ]

none_of : (es : List ℕ) → length es ≤ 0 → es ≡ []
none_of [] low = refl
none_of (e ∷ es) low = absurd (omega (arith, low))

-- ---- one edge removed

-- the index that an edge has after the one at d is removed
abbrev index_after : {N E : Type 0} → Kind → Graph N E → (d e : ℕ) → ℕ
index_after Compact g d e = renamed (length g.edges - 1) d e
index_after Stable g d e = e

abbrev pub held : {A : Type 0} → Option (Option A) → Option A
held o = option_and_then (λ x. x) o

slot_inside : {A : Type 0} (xs : List (Option A)) (i : ℕ) (y : A) → slot xs i ≡ Some y → i < length xs
slot_inside [] i y h = absurd cc
slot_inside (x ∷ xs) zero y h = omega arith
slot_inside (x ∷ xs) (suc i) y h = let more = slot_inside xs i y h in omega (arith, more)

pub slot_other : {A : Type 0} (xs : List (Option A)) (i m : ℕ) (o : Option A) → m ≢ i → slot (set xs i o) m ≡ slot xs m
slot_other [] zero m o d = refl
slot_other [] (suc i) m o d = refl
slot_other (z ∷ xs) zero zero o d = absurd (d refl)
slot_other (z ∷ xs) zero (suc m) o d = refl
slot_other (z ∷ xs) (suc i) zero o d = refl
slot_other (z ∷ xs) (suc i) (suc m) o d = slot_other xs i m o (λ e. d (ap suc e))

pub slot_emptied : {A : Type 0} (xs : List (Option A)) (i : ℕ) (y : A) → slot (set xs i None) i ≡ Some y → ⊥
slot_emptied [] zero y h = cc
slot_emptied [] (suc i) y h = cc
slot_emptied (x ∷ xs) zero y h = cc
slot_emptied (x ∷ xs) (suc i) y h = slot_emptied xs i y h

far_moved : {N E : Type 0} (g h : Graph N E) (f : ℕ → ℕ) (es : List ℕ)
    → ((e : ℕ) → Mem e es → (x : Edge E) × (edge_at g e ≡ Some x) × (edge_at h (f e) ≡ Some x))
    → far_nodes Incoming h (map f es) ≡ far_nodes Incoming g es
far_moved g h f [] each = refl
far_moved g h f (e ∷ es) each =
    let at = each e (inl refl) in
    ap (λ z. end_before Incoming z (far_nodes Incoming h (map f es))) at.2
    ∙ (ap (λ z. at.0.parent ∷ z) (far_moved g h f es (λ d m. each d (inr m)))
    ∙ sym (ap (λ z. end_before Incoming z (far_nodes Incoming g es)) at.1))

-- the lists have edges that exist, at the end that is listed, and each edge is in the list of its parent
pub record IsListed {N E : Type 0} (g : Graph N E) : Type 0 where
  pub rows : length g.in_lists ≡ length g.nodes
  pub ins : (m e : ℕ) → Mem e (in_list g m) → (x : Edge E) × (edge_at g e ≡ Some x) × (x.child ≡ m)
  pub outs : (m e : ℕ) → Mem e (out_list g m) → (x : Edge E) × (edge_at g e ≡ Some x) × (x.parent ≡ m)
  pub complete : (e : ℕ) (x : Edge E) → edge_at g e ≡ Some x → Mem e (out_list g x.parent)

pub listed : {N E : Type 0} {end : ℕ} (g : Graph N E) → IsWellFormed end g → IsListed g
listed g w =
    record {
      rows = w.in_list_count;
      ins = λ m e k. (w.in_of.exact m e).0 (mem_contains (in_list g m) e k);
      outs = λ m e k. (w.out_of.exact m e).0 (mem_contains (out_list g m) e k);
      complete = λ e x h. contains_mem (out_list g x.parent) e ((w.out_of.exact x.parent e).1 (x, h, refl));
    }

-- h is g without some of the edges that leave n or enter it
pub record IsFewer {N E : Type 0} (n : ℕ) (g h : Graph N E) : Type 0 where
  pub nodes : h.nodes ≡ g.nodes
  pub is_listed : IsListed h
  pub joined : (m : ℕ) → AreJoined h n m → AreJoined g n m
  pub parents : (m : ℕ) → m ≢ n → (AreJoined g n m → ⊥) → parents_of h m ≡ parents_of g m

same_fewer : {N E : Type 0} (n : ℕ) (g : Graph N E) → IsListed g → IsFewer n g g
same_fewer n g l = record { nodes = refl; is_listed = l; joined = λ m j. j; parents = λ m d none. refl }

fewer_on : {N E : Type 0} (n : ℕ) (g h k : Graph N E) → IsFewer n g h → IsFewer n h k → IsFewer n g k
fewer_on n g h k a b =
    record {
      nodes = b.nodes ∙ a.nodes;
      is_listed = b.is_listed;
      joined = λ m j. a.joined m (b.joined m j);
      parents = λ m d none. b.parents m d (λ j. none (a.joined m j)) ∙ a.parents m d none;
    }

module _ {N E : Type 0} (g : Graph N E) (d : ℕ) where
  ins_after : (kind : Kind) (m : ℕ) → in_list (without_edge kind g d) m ≡ map (index_after kind g d) (without d (in_list g m))
  ins_after Compact m =
      let r = renamed (length g.edges - 1) d in
      row_mapped (map r) refl (map (without d) g.in_lists) m ∙ ap (map r) (row_mapped (without d) refl g.in_lists m)
  ins_after Stable m = row_mapped (without d) refl g.in_lists m ∙ sym (map_itself (without d (in_list g m)))

  outs_after : (kind : Kind) (m : ℕ)
      → out_list (without_edge kind g d) m ≡ map (index_after kind g d) (without d (out_list g m))
  outs_after Compact m =
      let r = renamed (length g.edges - 1) d in
      row_mapped (map r) refl (map (without d) g.out_lists) m ∙ ap (map r) (row_mapped (without d) refl g.out_lists m)
  outs_after Stable m = row_mapped (without d) refl g.out_lists m ∙ sym (map_itself (without d (out_list g m)))

  rows_after : (kind : Kind) → length (without_edge kind g d).in_lists ≡ length g.in_lists
  rows_after Compact =
      length-map (map (without d) g.in_lists) (map (renamed (length g.edges - 1) d)) ∙ length-map g.in_lists (without d)
  rows_after Stable = length-map g.in_lists (without d)

  nodes_after : (kind : Kind) → (without_edge kind g d).nodes ≡ g.nodes
  nodes_after Compact = refl
  nodes_after Stable = refl

  module _ (y : Edge E) (at : edge_at g d ≡ Some y) where
    inside : d < length g.edges
    inside = slot_inside g.edges d y at

    abbrev last : ℕ
    last = length g.edges - 1

    swapped : IsSwapRemoved g.edges (swap_remove g.edges d None) d last
    swapped = IsSwapRemoved-from g.edges d last None inside (omega (arith, inside))

    edge_after : (kind : Kind) (e : ℕ) (x : Edge E) → edge_at g e ≡ Some x → e ≢ d
        → edge_at (without_edge kind g d) (index_after kind g d e) ≡ Some x
    edge_after Stable e x h other = slot_other g.edges d e None other ∙ h
    edge_after Compact e x h other =
        let P : ℕ → Type 0 = λ z. slot (swap_remove g.edges d None) z ≡ Some x in
        elim (cases_eq e last) [
          | inl same ↦
              subst P (sym (renamed_last last d e same))
              (ap held (swapped.moved (λ k. other (same ∙ sym k))) ∙ (ap (slot g.edges) (sym same) ∙ h))
          | inr differs ↦
              subst P (sym (renamed_other last d e differs))
              (ap held (swapped.kept e (omega (arith, slot_inside g.edges e x h, differs)) other) ∙ h)
        ]

    edge_before : (kind : Kind) (f : ℕ) (x : Edge E) → edge_at (without_edge kind g d) f ≡ Some x
        → (e : ℕ) × (edge_at g e ≡ Some x) × (e ≢ d) × (index_after kind g d e ≡ f)
    edge_before Stable f x h =
        elim (cases_eq f d) [
          | inl e ↦
              (let P : ℕ → Type 0 = λ z. slot (set g.edges d None) z ≡ Some x in absurd (slot_emptied g.edges d x (subst P e h)))
          | inr other ↦ (f, sym (slot_other g.edges d f None other) ∙ h, other, refl)
        ]
    edge_before Compact f x h =
        elim (cases_lt f last) [
          | inl low ↦ elim (cases_eq f d) [
            | inl e ↦ (
                let P : ℕ → Type 0 = λ z. slot (swap_remove g.edges d None) z ≡ Some x in
                let apart : d ≢ last = λ q. absurd (omega (arith, low, e, q)) in
                let is : edge_at g last ≡ Some x = sym (ap held (swapped.moved apart)) ∙ subst P e h in
                (last, is, λ q. apart (sym q), renamed_last last d last refl ∙ sym e)
                )
            | inr other ↦ (
              f,
              sym (ap held (swapped.kept f low other)) ∙ h,
              other,
              renamed_other last d f (λ q. absurd (omega (arith, low, q))),
            )
          ]
          | inr past ↦
              (let none : slot (swap_remove g.edges d None) f ≡ None = ap held (swapped.gone f past) in absurd cc)
        ]

    listed_after : IsListed g → (kind : Kind) → IsListed (without_edge kind g d)
    listed_after l kind =
        let h = without_edge kind g d in
        let r = index_after kind g d in
        record {
          rows = rows_after kind ∙ (l.rows ∙ sym (ap length (nodes_after kind)));
          ins = λ m f k.
              let from = mem_mapped r (without d (in_list g m)) f (subst (Mem f) (ins_after kind m) k) in
              let was = mem_without d from.0 (in_list g m) from.1 in
              let x = l.ins m from.0 was.0 in
              let P : ℕ → Type 0 = λ z. edge_at h z ≡ Some x.0 in
              (x.0, subst P (sym from.2) (edge_after kind from.0 x.0 x.1 was.1), x.2);
          outs = λ m f k.
              let from = mem_mapped r (without d (out_list g m)) f (subst (Mem f) (outs_after kind m) k) in
              let was = mem_without d from.0 (out_list g m) from.1 in
              let x = l.outs m from.0 was.0 in
              let P : ℕ → Type 0 = λ z. edge_at h z ≡ Some x.0 in
              (x.0, subst P (sym from.2) (edge_after kind from.0 x.0 x.1 was.1), x.2);
          complete = λ f x at_f.
              let b = edge_before kind f x at_f in
              let P : ℕ → Type 0 = λ z. Mem z (out_list h x.parent) in
              subst P b.3
              (subst (Mem (r b.0)) (sym (outs_after kind x.parent))
              (mapped_mem r (without d (out_list g x.parent)) b.0
              (kept_without d b.0 (out_list g x.parent) (l.complete b.0 x b.1) b.2)));
        }

    fewer_edge : (n : ℕ) → IsListed g → (y.parent ≡ n) ⊎ (y.child ≡ n) → (kind : Kind) → IsFewer n g (without_edge kind g d)
    fewer_edge n l touches kind =
        let h = without_edge kind g d in
        let r = index_after kind g d in
        record {
          nodes = nodes_after kind;
          is_listed = listed_after l kind;
          joined = λ m j. joined_before kind g d n m j;
          parents = λ m apart none.
              let absent : Mem d (in_list g m) → ⊥ = λ k. (
              let x = l.ins m d k in
              let same : y ≡ x.0 = same_Some y x.0 (sym at ∙ x.1) in
              let to : y.child ≡ m = ap (λ z. z.child) same ∙ x.2 in
              elim touches [
                | inl from ↦
                    none (d, y.weight, at ∙ (λ i. Some (record { parent = from i; child = to i; weight = y.weight })))
                | inr here ↦ apart (sym to ∙ here)
              ]
              ) in
              ap (far_nodes Incoming h) (ins_after kind m ∙ ap (map r) (without_none d (in_list g m) absent))
              ∙ far_moved g h r (in_list g m) (λ e k. (
              let x = l.ins m e k in
              let P : ℕ → Type 0 = λ z. Mem z (in_list g m) in
              (x.0, x.1, edge_after kind e x.0 x.1 (λ q. absent (subst P q k)))
              ));
        }

-- ---- the edges of n removed

module _ {N E : Type 0} (n : ℕ) (kind : Kind) where
  fewer_first : (dir : Direction) (g : Graph N E) (es : List ℕ) → list_at dir g n ≡ es → IsListed g
      → IsFewer n g (without_first kind g es)
  fewer_first dir g [] is l = same_fewer n g l
  fewer_first Outgoing g (e ∷ es) is l =
      let x = l.outs n e (subst (Mem e) (sym is) (inl refl)) in fewer_edge g e x.0 x.1 n l (inl x.2) kind
  fewer_first Incoming g (e ∷ es) is l =
      let x = l.ins n e (subst (Mem e) (sym is) (inl refl)) in fewer_edge g e x.0 x.1 n l (inr x.2) kind

  fewer_front : (dir : Direction) (k : ℕ) (g : Graph N E) → IsListed g → IsFewer n g (without_front kind dir k g n)
  fewer_front dir zero g l = same_fewer n g l
  fewer_front dir (suc k) g l =
      let next = without_first kind g (list_at dir g n) in
      let one = fewer_first dir g (list_at dir g n) refl l in
      fewer_on n g next (without_front kind dir k next n) one (fewer_front dir k next one.is_listed)

  emptied : (k : ℕ) (g : Graph N E) → length (out_list g n) ≤ k → out_list (without_front kind Outgoing k g n) n ≡ []
  emptied zero g low = none_of (out_list g n) low
  emptied (suc k) g low = emptied k (without_first kind g (out_list g n)) (shorter (out_list g n) refl)
    where
      shorter : (es : List ℕ) → out_list g n ≡ es → length (out_list (without_first kind g es) n) ≤ k
      shorter [] is = omega (arith, ap length is)
      shorter (e ∷ es) is =
          let r = index_after kind g e in
          omega (
            arith,
            low,
            ap length is,
            ap length (outs_after g e kind n ∙ ap (λ z. map r (without e z)) is),
            length-map (without e (e ∷ es)) r,
            ap length (without_here e es),
            fewer_without e es,
          )

  stays_empty : (k : ℕ) (g : Graph N E) → out_list g n ≡ [] → out_list (without_front kind Incoming k g n) n ≡ []
  stays_empty zero g none = none
  stays_empty (suc k) g none = stays_empty k (without_first kind g (in_list g n)) (still (in_list g n))
    where
      still : (es : List ℕ) → out_list (without_first kind g es) n ≡ []
      still [] = none
      still (e ∷ es) = outs_after g e kind n ∙ ap (λ z. map (index_after kind g e) (without e z)) none

  -- no edge leaves n then, and the parents of each other node that is no child of n are the same
  pub isolated : (g : Graph N E) → IsListed g
      → IsFewer n g (with_node_isolated kind g n) × (out_list (with_node_isolated kind g n) n ≡ [])
  isolated g l =
      let h = without_front kind Outgoing (length (out_list g n)) g n in
      let one = fewer_front Outgoing (length (out_list g n)) g l in (
        fewer_on n g h (with_node_isolated kind g n) one (fewer_front Incoming (length (in_list h n)) h one.is_listed),
        stays_empty (length (in_list h n)) h (emptied (length (out_list g n)) g (omega arith)),
      )

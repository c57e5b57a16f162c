-- What was written is read again, part by part.
use Rattle.std.proofs.Common.{◌≡◌, ℕ, suc, ◌+◌, ◌<◌, inl, inr, ◌⊎◌, Option, Some, None, IsSome, List, [], ◌∷◌, ◌++◌}
use Rattle.std.proofs.Common.{length, map, take, slice_get, refl, sym, ap, subst, ◌∙◌, arith}
use Rattle.std.specs.Prelude.{Result, Ok, Err, MatchResult, Contains, option_and_then, codes}
use Rattle.std.specs.List.{AllZip}
use Rattle.serde_json.specs.Data.{Data, null}
use Rattle.daggy_base.specs.Graph.{Graph, Edge, slot, out_list, in_list, edge_bound}
use Rattle.daggy_base.specs.Iterating.{numbered, node_identifiers, node_weights}
use Rattle.daggy_base.specs.Filtering.{ListsDescend}
use Rattle.daggy_base.specs.Orders.{lists_by_slots}
use Rattle.daggy_base.specs.declared.kind.Kind.{Kind}
use Rattle.daggy_base.specs.declared.kind.Kind.TheVariants.{Stable}
use Rattle.daggy_json.specs.Document.{whole, listed, wholes, row_of, holes_of, document_of, document_without_orders}
use Rattle.daggy_json.specs.Document.{IsEntry, IsDocumentOf, IsShortDocumentOf}
use Rattle.daggy_json.specs.Reading.{parts_in, array_in, whole_in, all_in, numbers_in, pair_in, orders_in, triple_in}
use Rattle.daggy_json.specs.Reading.{ReadsEach, IsEntryRead, HasEnds}
use Rattle.daggy_base.specs.Mapping.{weight_in, with_weight}
use Rattle.daggy_json.specs.declared.error.ReadError.{ReadError}
use Rattle.daggy_json.specs.declared.error.ReadError.TheVariants.{Shape, Weight, BadEndpoint}
use Rattle.daggy_json.proofs.CopiedSlots.{SlotAs}
use Rattle.daggy_json.proofs.FoundParts.{list_of-items_of}
use Rattle.daggy_json.proofs.MarkedLists.{row}

-- ---- arrays

array_again : (ds : List Data) → array_in (listed ds) ≡ Some ds
array_again ds = ap Some (list_of-items_of ds)

all_again : {A : Type 0} (one : Data → Option A) (as_data : A → Data)
    → ((x : A) → one (as_data x) ≡ Some x) → (xs : List A) → all_in one (map as_data xs) ≡ Some xs
all_again one as_data again [] = refl
all_again one as_data again (x ∷ xs) =
    rw (again x, all_again one as_data again xs)

pub numbers_again : (ns : List ℕ) → numbers_in (wholes ns) ≡ Some ns
numbers_again ns =
    ap (option_and_then (all_in whole_in)) (array_again (map whole ns)) ∙ all_again whole_in whole (λ n. refl) ns

-- the lists of the nodes
abbrev pub lists_of : {N E : Type 0} → Graph N E → ℕ → List ℕ × List ℕ
lists_of g n = (out_list g n, in_list g n)

row_again : (a b : List ℕ) → pair_in (listed (wholes a ∷ wholes b ∷ [])) ≡ Some (a, b)
row_again a b =
    rw (numbers_again a, numbers_again b)

pub orders_again : {N E : Type 0} (g : Graph N E) (ns : List ℕ)
    → orders_in (listed (map (row_of g) ns)) ≡ Some (map (lists_of g) ns)
orders_again g ns = ap (option_and_then (all_in pair_in)) (array_again (map (row_of g) ns)) ∙ go ns
  where
    go : (ns : List ℕ) → all_in pair_in (map (row_of g) ns) ≡ Some (map (lists_of g) ns)
    go [] = refl
    go (n ∷ ns) =
        rw (row_again (out_list g n) (in_list g n), go ns)

-- the parts of a document
parts_again : (entries : List Data) (holes : List ℕ) (weights orders : List Data)
    → parts_in (document_of entries (map whole holes) weights orders) ≡ Some (record {
      nodes = weights;
      holes = holes;
      property = codes "directed";
      edges = entries;
      orders = Some (listed orders);
    })
parts_again entries holes weights orders =
    rw (
      list_of-items_of weights,
      list_of-items_of (map whole holes),
      all_again whole_in whole (λ n. refl) holes,
      list_of-items_of entries,
    )

parts_without_orders : (entries : List Data) (holes : List ℕ) (weights : List Data)
    → parts_in (document_without_orders entries (map whole holes) weights) ≡ Some (record {
      nodes = weights;
      holes = holes;
      property = codes "directed";
      edges = entries;
      orders = None;
    })
parts_without_orders entries holes weights =
    rw (
      list_of-items_of weights,
      list_of-items_of (map whole holes),
      all_again whole_in whole (λ n. refl) holes,
      list_of-items_of entries,
    )

-- what is found in a document of a graph, with the orders or without
pub record HasParts {N E : Type 0} (node_as : N → Data → Type 0) (edge_as : E → Data → Type 0) (g : Graph N E) (d : Data)
    : Type 0 where
  pub entries : List Data
  pub weights : List Data
  pub orders : Option Data
  pub edges : AllZip (IsEntry edge_as) (take (edge_bound g) g.edges) entries
  pub nodes : AllZip node_as (node_weights g) weights
  pub found : parts_in d ≡ Some (record {
    nodes = weights;
    holes = holes_of g;
    property = codes "directed";
    edges = entries;
    orders = orders;
  })
  pub given : (orders ≡ Some (listed (map (row_of g) (node_identifiers g)))) ⊎ ((orders ≡ None) × ListsDescend g)

module _ {N E : Type 0} (node_as : N → Data → Type 0) (edge_as : E → Data → Type 0) (g : Graph N E) (d : Data) where
  pub document_parts : IsDocumentOf node_as edge_as g d → HasParts node_as edge_as g d
  document_parts doc =
      record {
        entries = doc.entries;
        weights = doc.weights;
        orders = Some (listed (map (row_of g) (node_identifiers g)));
        edges = doc.edges;
        nodes = doc.nodes;
        found = ap parts_in doc.is
            ∙ parts_again doc.entries (holes_of g) doc.weights (map (row_of g) (node_identifiers g));
        given = inl refl;
      }

  pub short_parts : IsShortDocumentOf node_as edge_as g d → HasParts node_as edge_as g d
  short_parts doc =
      elim doc [
        | inl short ↦ record {
          entries = short.1.entries;
          weights = short.1.weights;
          orders = None;
          edges = short.1.edges;
          nodes = short.1.nodes;
          found = ap parts_in short.1.is ∙ parts_without_orders short.1.entries (holes_of g) short.1.weights;
          given = inr (refl, short.0);
        }
        | inr long ↦ document_parts long.1
      ]

-- ---- one after another

-- Each is read as what may be read of it. If not, one of them is at fault.
module _ {A B : Type 0} (reads : Data → Result B ReadError → Type 0) (stands : A → Data → Type 0) where
  abbrev pub ReadsThrough : A → Result B ReadError → Type 0
  ReadsThrough x r = (d : Data) × stands x d × reads d r

  each_ok : (xs : List A) (ds : List Data) (ys : List B) → AllZip stands xs ds → AllZip (λ d y. reads d (Ok y)) ds ys
      → AllZip (λ x y. ReadsThrough x (Ok y)) xs ys
  each_ok [] [] [] w r = tt
  each_ok (x ∷ xs) (d ∷ ds) (y ∷ ys) w r = ((d, w.0, r.0), each_ok xs ds ys w.1 r.1)
  each_ok [] [] _ w r = absurd r
  each_ok (x ∷ xs) (d ∷ ds) _ w r = absurd r
  each_ok _ _ ys w r = absurd w

  one_err : (xs : List A) (before : List Data) (at : Data) (after : List Data) (e : ReadError)
      → AllZip stands xs (before ++ at ∷ after) → reads at (Err e) → (x : A) × Contains xs x × ReadsThrough x (Err e)
  one_err [] [] at after e w r = absurd w
  one_err [] (d ∷ before) at after e w r = absurd w
  one_err (x ∷ xs) [] at after e w r = (x, (0, omega arith, refl), (at, w.0, r))
  one_err (x ∷ xs) (d ∷ before) at after e w r =
      let more = one_err xs before at after e w.1 r in
      let within = more.1.1 in
      (more.0, (suc more.1.0, omega (arith, within), more.1.2), more.2)

  pub each_read : (xs : List A) (ds : List Data) (r : Result (List B) ReadError)
      → AllZip stands xs ds → ReadsEach reads ds r
      → MatchResult r (λ ys. AllZip (λ x y. ReadsThrough x (Ok y)) xs ys)
      (λ e. (x : A) × Contains xs x × ReadsThrough x (Err e))
  each_read xs ds (Ok ys) w r = each_ok xs ds ys w r
  each_read xs ds (Err e) w (before, at, after, ys, split, good, bad) =
      one_err xs before at after e (subst (AllZip stands xs) split w) bad

pub zip_both : {A B : Type 0} (R : A → B → Type 0) (P : A → Type 0) (xs : List A) (ys : List B)
    → AllZip R xs ys → ((i : ℕ) (x : A) → slice_get xs i ≡ Some x → P x) → AllZip (λ x y. R x y × P x) xs ys
zip_both R P [] [] w all = tt
zip_both R P (x ∷ xs) (y ∷ ys) w all = ((w.0, all 0 x refl), zip_both R P xs ys w.1 (λ i z e. all (suc i) z e))
zip_both R P _ _ w all = w

-- ---- a weight and an entry

-- what is read of a value that stands for a weight
abbrev pub Through : {W V : Type 0} → (weight_as : W → Data → Type 0) → (answers : Data → Option V → Type 0) → W → V → Type 0
Through weight_as answers w v = (d : Data) × weight_as w d × answers d (Some v)

-- a value that stands for one of these weights may be refused
abbrev pub IsRefused : {W V : Type 0}
    → (weight_as : W → Data → Type 0) → (answers : Data → Option V → Type 0) → List W → Type 0
IsRefused {W} weight_as answers ws = (w : W) × Contains ws w × (d : Data) × weight_as w d × answers d None

-- what an edge slot needs in order to be read
abbrev pub CanBeRead : {N E : Type 0} → (kind : Kind) → List (Option N) → Option (Edge E) → Type 0
CanBeRead kind nodes None = kind ≡ Stable
CanBeRead kind nodes (Some x) = IsSome (slot nodes x.parent) × IsSome (slot nodes x.child)

module _ {N E F : Type 0} (kind : Kind) (nodes : List (Option N)) (weight_as : F → Data → Type 0)
    (answers : Data → Option E → Type 0) where
  -- the edge is there, and a value that stands for its weight may be refused
  abbrev pub IsRefusedEdge : Option (Edge F) → Type 0
  IsRefusedEdge x = (z : Edge F) × (x ≡ Some z) × (d : Data) × weight_as z.weight d × answers d None

  abbrev pub EntryRead : Option (Edge F) → Result (Option (Edge E)) ReadError → Type 0
  EntryRead x r =
      MatchResult r (SlotAs (Through weight_as answers) weight_in with_weight x) (λ e. (e ≡ Weight) × IsRefusedEdge x)

  null_read : (d : Data) (r : Result (Option (Edge E)) ReadError)
      → d ≡ null → kind ≡ Stable → IsEntryRead kind nodes answers d r → EntryRead None r
  null_read d r is may says = go r (rw is at says)
    where
      go : (r : Result (Option (Edge E)) ReadError) → IsEntryRead kind nodes answers null r → EntryRead None r
      go (Ok None) s = refl
      go (Ok (Some x)) s = let none : triple_in null ≡ None = refl in absurd cc
      go (Err Shape) s = absurd (s.1 (may, refl))
      go (Err BadEndpoint) s = let none : triple_in null ≡ None = refl in absurd cc
      go (Err Weight) s = let none : triple_in null ≡ None = refl in absurd cc
      go (Err _) s = absurd s

  edge_read : (x : Edge F) (w : Data) (r : Result (Option (Edge E)) ReadError)
      → weight_as x.weight w → HasEnds nodes (x.parent, x.child, w)
      → IsEntryRead kind nodes answers (listed (whole x.parent ∷ whole x.child ∷ w ∷ [])) r → EntryRead (Some x) r
  edge_read x w r stands ends says = go r says
    where
      triple_of : Option (ℕ × ℕ × Data)
      triple_of = Some (x.parent, x.child, w)

      found : triple_in (listed (whole x.parent ∷ whole x.child ∷ w ∷ [])) ≡ triple_of
      found = refl

      one_edge : (p q : ℕ) (v : E) (a : Data) → triple_of ≡ Some (p, q, a) → answers a (Some v)
          → SlotAs (Through weight_as answers) weight_in with_weight (Some x)
          (Some (record { parent = p; child = q; weight = v }))
      one_edge p q v a e s =
          let old : ℕ × ℕ × Data = (x.parent, x.child, w) in
          let new : ℕ × ℕ × Data = (p, q, a) in
          let same : new ≡ old = cc in
          rw (ap (λ (t : ℕ × ℕ × Data). t.0) same, ap (λ (t : ℕ × ℕ × Data). t.1) same)
          (v, (w, stands, rw (ap (λ (t : ℕ × ℕ × Data). t.2) same) at s), refl)

      go : (r : Result (Option (Edge E)) ReadError)
          → IsEntryRead kind nodes answers (listed (whole x.parent ∷ whole x.child ∷ w ∷ [])) r
          → EntryRead (Some x) r
      go (Ok None) s = absurd (let bad = s.1 in cc)
      go (Ok (Some y)) s = one_edge y.parent y.child y.weight s.0 s.1 s.3
      go (Err Shape) s = absurd (let bad = sym found ∙ s.0 in cc)
      go (Err BadEndpoint) s =
          absurd (let same : triple_of ≡ Some s.0 = sym found ∙ s.1 in let e : (x.parent, x.child, w) ≡ s.0 = cc in
          s.2 (subst (HasEnds nodes) e ends))
      go (Err Weight) s =
          let same : triple_of ≡ Some s.0 = sym found ∙ s.1 in
          let whole_is : (x.parent, x.child, w) ≡ s.0 = cc in
          (refl, (x, refl, w, stands, rw (ap (λ (t : ℕ × ℕ × Data). t.2) (sym whole_is)) at s.3))
      go (Err _) s = absurd s

  pub entry_read : (x : Option (Edge F)) (d : Data) (r : Result (Option (Edge E)) ReadError)
      → IsEntry weight_as x d × CanBeRead kind nodes x → IsEntryRead kind nodes answers d r → EntryRead x r
  entry_read None d r w says = null_read d r w.0 w.1 says
  entry_read (Some x) d r w says = edge_read x w.0.0 r w.0.1 w.1 (rw w.0.2 at says)

-- ---- lists by slots

-- each list at its node again
pub rows_again : {A : Type 0} (f : ℕ → List ℕ) (i : ℕ) (xs : List (Option A)) (lists : List (List ℕ))
    → length lists ≡ length xs → ((k : ℕ) → IsSome (slot xs k) → f (i + k) ≡ row lists k)
    → ((k : ℕ) → k < length xs → slot xs k ≡ None → row lists k ≡ [])
    → lists_by_slots xs (map f (map (λ p. p.0) (numbered i xs))) ≡ lists
rows_again f i [] [] long at empty = refl
rows_again f i [] (l ∷ lists) long at empty = absurd (omega (arith, long))
rows_again f i (x ∷ xs) [] long at empty = absurd (omega (arith, long))
rows_again f i (None ∷ xs) (l ∷ lists) long at empty =
    let head : l ≡ [] = empty 0 (omega arith) refl in
    rw head (ap (λ k. [] ∷ k)
    (rows_again f (i + 1) xs lists (omega (arith, long)) (λ k s. ap f (let e : i + 1 + k ≡ i + suc k = omega arith in e)
    ∙ at (suc k) s) (λ k low none. empty (suc k) (omega (arith, low)) none)))
rows_again f i (Some x ∷ xs) (l ∷ lists) long at empty =
    let head : f i ≡ l = ap f (let e : i ≡ i + 0 = omega arith in e) ∙ at 0 refl in
    rw head (ap (λ k. l ∷ k)
    (rows_again f (i + 1) xs lists (omega (arith, long)) (λ k s. ap f (let e : i + 1 + k ≡ i + suc k = omega arith in e)
    ∙ at (suc k) s) (λ k low none. empty (suc k) (omega (arith, low)) none)))

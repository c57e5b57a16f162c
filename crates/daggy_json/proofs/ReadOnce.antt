-- Reading gives one result only, if each value is decoded in one way.
use Rattle.std.proofs.Common.{◌≡◌, ℕ, ◌+◌, Option, Some, None, List, [], ◌∷◌, ◌++◌, map, refl, sym, ap, subst}
use Rattle.std.proofs.Common.{◌∙◌, arith}
use Rattle.std.specs.Prelude.{MatchOption, MatchResult, Result, Ok, Err}
use Rattle.std.specs.List.{AllZip}
use Rattle.serde_json.specs.Data.{Data}
use Rattle.daggy_base.specs.Graph.{Graph, Edge}
use Rattle.daggy_base.specs.Iterating.{numbered}
use Rattle.daggy_base.specs.FromSlots.{graph_of_slots}
use Rattle.daggy_base.specs.Orders.{with_orders}
use Rattle.daggy_base.specs.declared.kind.Kind.{Kind}
use Rattle.daggy_json.specs.Document.{vacant_from}
use Rattle.daggy_json.specs.Reading.{Parts, parts_in, IsLaidOut, ReadsEach, IsWeight, triple_in, HasEnds, IsEntryRead}
use Rattle.daggy_json.specs.Reading.{AreSlots, IsOrdered, IsItself, Then, IsLinked, IsFilled, IsGraphRead}
use Rattle.std.proofs.lemmas.Option.{same_Some}
use Rattle.daggy_json.specs.Fault.{IsDecided, Agrees}
use Rattle.daggy_json.specs.declared.error.ReadError.{ReadError}
use Rattle.daggy_json.specs.declared.error.ReadError.TheVariants.{Shape, Property, Holes, Full, Weight, BadEndpoint}
use Rattle.daggy_json.specs.declared.error.ReadError.TheVariants.{Orders, Cycle, Memory}
use Rattle.daggy_json.specs.declared.fault.Fault.{Fault}
use Rattle.daggy_json.proofs.CopiedSlots.{low_first}

-- there is one result at most
abbrev IsOnce : {A : Type 0} → (Result A ReadError → Type 0) → Type 0
IsOnce {A} gives = (x y : Result A ReadError) → gives x → gives y → x ≡ y

-- ---- each of a list

module _ {A : Type 0} (reads : Data → Result A ReadError → Type 0) (once : (d : Data) → IsOnce (reads d)) where
  -- these were read
  abbrev AreRead : List Data → List A → Type 0
  AreRead = AllZip (λ d x. reads d (Ok x))

  read_twice : (ds : List Data) (xs ys : List A) → AreRead ds xs → AreRead ds ys → xs ≡ ys
  read_twice [] [] [] h k = refl
  read_twice (d ∷ ds) (x ∷ xs) (y ∷ ys) h k =
      let same = once d (Ok x) (Ok y) h.0 k.0 in
      let item : x ≡ y = cc in
      ap (λ z. z ∷ xs) item ∙ ap (λ z. y ∷ z) (read_twice ds xs ys h.1 k.1)
  read_twice [] [] (y ∷ ys) h k = absurd k
  read_twice [] (x ∷ xs) ys h k = absurd h
  read_twice (d ∷ ds) [] ys h k = absurd h
  read_twice (d ∷ ds) (x ∷ xs) [] h k = absurd k

  -- one of them is not read
  not_read : (before : List Data) (at : Data) (after : List Data) (xs : List A) (e : ReadError) (ys : List A)
      → AreRead before xs → reads at (Err e) → AreRead (before ++ at ∷ after) ys → ⊥
  not_read [] at after xs e [] h f k = k
  not_read [] at after xs e (y ∷ ys) h f k = let same = once at (Err e) (Ok y) f k.0 in cc
  not_read (b ∷ before) at after [] e ys h f k = h
  not_read (b ∷ before) at after (x ∷ xs) e [] h f k = k
  not_read (b ∷ before) at after (x ∷ xs) e (y ∷ ys) h f k = not_read before at after xs e ys h.1 f k.1

  one_fault : (before : List Data) (at : Data) (after : List Data) (xs : List A) (e : ReadError) (before' : List Data)
      (at' : Data) (after' : List Data) (xs' : List A) (e' : ReadError)
      → before ++ at ∷ after ≡ before' ++ at' ∷ after' → AreRead before xs → reads at (Err e) → AreRead before' xs'
      → reads at' (Err e') → e ≡ e'
  one_fault [] at after xs e [] at' after' xs' e' same h f h' f' =
      let here : at ≡ at' = cc in
      let both = once at (Err e) (Err e') f (subst (λ z. reads z (Err e')) (sym here) f') in
      cc
  one_fault [] at after xs e (b ∷ before') at' after' [] e' same h f h' f' = absurd h'
  one_fault [] at after xs e (b ∷ before') at' after' (x ∷ xs') e' same h f h' f' =
      let here : at ≡ b = cc in
      let both = once at (Err e) (Ok x) f (subst (λ z. reads z (Ok x)) (sym here) h'.0) in
      cc
  one_fault (b ∷ before) at after [] e before' at' after' xs' e' same h f h' f' = absurd h
  one_fault (b ∷ before) at after (x ∷ xs) e [] at' after' xs' e' same h f h' f' =
      let here : b ≡ at' = cc in
      let both = once at' (Ok x) (Err e') (subst (λ z. reads z (Ok x)) here h.0) f' in
      cc
  one_fault (b ∷ before) at after (x ∷ xs) e (b' ∷ before') at' after' [] e' same h f h' f' = absurd h'
  one_fault (b ∷ before) at after (x ∷ xs) e (b' ∷ before') at' after' (x' ∷ xs') e' same h f h' f' =
      one_fault before at after xs e before' at' after' xs' e' (let rest : before ++ at ∷ after ≡ before' ++ at' ∷ after' = cc in
      rest) h.1 f h'.1 f'

  each_once : (ds : List Data) → IsOnce (ReadsEach reads ds)
  each_once ds (Ok xs) (Ok ys) h k = ap Ok (read_twice ds xs ys h k)
  each_once ds (Ok xs) (Err e) h k =
      absurd (not_read k.0 k.1 k.2 k.3 e xs k.5 k.6 (subst (λ z. AreRead z xs) k.4 h))
  each_once ds (Err e) (Ok xs) k h =
      absurd (not_read k.0 k.1 k.2 k.3 e xs k.5 k.6 (subst (λ z. AreRead z xs) k.4 h))
  each_once ds (Err e) (Err e') h k =
      ap Err (one_fault h.0 h.1 h.2 h.3 e k.0 k.1 k.2 k.3 e' (sym h.4 ∙ k.4) h.5 h.6 k.5 k.6)

-- ---- weights and entries

weight_once : {W : Type 0} (answers : Data → Option W → Type 0) → IsDecided answers → (d : Data)
    → IsOnce (IsWeight answers d)
weight_once answers decided d (Ok w) (Ok v) h k =
    let same = decided d (Some w) (Some v) h k in let item : w ≡ v = cc in ap Ok item
weight_once answers decided d (Ok w) (Err e) h k = let same = decided d (Some w) None h k.0 in cc
weight_once answers decided d (Err e) (Ok w) h k = let same = decided d None (Some w) h.0 k in cc
weight_once answers decided d (Err e) (Err e') h k = ap Err (h.1 ∙ sym k.1)

same_edge : {E : Type 0} (x y : Edge E) → x.parent ≡ y.parent → x.child ≡ y.child → x.weight ≡ y.weight → x ≡ y
same_edge {E} x y p c w =
    ap (λ z. the z x.child x.weight) p ∙ (ap (λ z. the y.parent z x.weight) c ∙ ap (λ z. the y.parent y.child z) w)
  where
    the : ℕ → ℕ → E → Edge E
    the parent child weight = record { parent = parent; child = child; weight = weight }

module _ {N E : Type 0} (kind : Kind) (nodes : List (Option N)) (answers : Data → Option E → Type 0)
    (decided : IsDecided answers) (d : Data) where
  -- what an entry is read as
  abbrev Gives : Result (Option (Edge E)) ReadError → Type 0
  Gives = IsEntryRead kind nodes answers d

  none_triple : (t : ℕ × ℕ × Data) → Gives (Ok None) → triple_in d ≡ Some t → ⊥
  none_triple t h k = let vacant : triple_in d ≡ None = ap triple_in h.1 in cc

  shape_triple : (t : ℕ × ℕ × Data) → Gives (Err Shape) → triple_in d ≡ Some t → ⊥
  shape_triple t h k = let none = h.0 in cc

  same_triple : (s t : ℕ × ℕ × Data) → triple_in d ≡ Some s → triple_in d ≡ Some t → s ≡ t
  same_triple s t h k = same_Some s t (sym h ∙ k)

  bad_ends : (t : ℕ × ℕ × Data) → Gives (Err BadEndpoint) → triple_in d ≡ Some t → HasEnds nodes t → ⊥
  bad_ends t h k ends = h.2 (subst (HasEnds nodes) (same_triple t h.0 k h.1) ends)

  some_refused : (x : Edge E) → Gives (Ok (Some x)) → Gives (Err Weight) → ⊥
  some_refused x h k =
      let same = same_triple (x.parent, x.child, h.0) k.0 h.1 k.1 in
      let there : h.0 ≡ k.0.2 = ap (λ (z : ℕ × ℕ × Data). z.2) same in
      let both = decided k.0.2 (Some x.weight) None (subst (λ z. answers z (Some x.weight)) there h.3) k.3 in
      cc

  some_once : (x y : Edge E) → Gives (Ok (Some x)) → Gives (Ok (Some y)) → x ≡ y
  some_once x y h k =
      let same = same_triple (x.parent, x.child, h.0) (y.parent, y.child, k.0) h.1 k.1 in
      let there : h.0 ≡ k.0 = ap (λ (z : ℕ × ℕ × Data). z.2) same in
      let both =
      decided k.0 (Some x.weight) (Some y.weight) (subst (λ z. answers z (Some x.weight)) there h.3) k.3 in
      same_edge x y (ap (λ (z : ℕ × ℕ × Data). z.0) same) (ap (λ (z : ℕ × ℕ × Data). z.1) same)
      (same_Some x.weight y.weight both)

  entry_once : IsOnce Gives
  entry_once (Ok None) (Ok None) h k = refl
  entry_once (Ok None) (Ok (Some y)) h k = absurd (none_triple _ h k.1)
  entry_once (Ok None) (Err Shape) h k = absurd (k.1 h)
  entry_once (Ok None) (Err BadEndpoint) h k = absurd (none_triple _ h k.1)
  entry_once (Ok None) (Err Weight) h k = absurd (none_triple _ h k.1)
  entry_once (Ok (Some x)) (Ok None) h k = absurd (none_triple _ k h.1)
  entry_once (Ok (Some x)) (Ok (Some y)) h k = ap (λ z. Ok (Some z)) (some_once x y h k)
  entry_once (Ok (Some x)) (Err Shape) h k = absurd (shape_triple _ k h.1)
  entry_once (Ok (Some x)) (Err BadEndpoint) h k = absurd (bad_ends _ k h.1 h.2)
  entry_once (Ok (Some x)) (Err Weight) h k = absurd (some_refused x h k)
  entry_once (Err Shape) (Ok None) h k = absurd (h.1 k)
  entry_once (Err Shape) (Ok (Some y)) h k = absurd (shape_triple _ h k.1)
  entry_once (Err Shape) (Err Shape) h k = refl
  entry_once (Err Shape) (Err BadEndpoint) h k = absurd (shape_triple _ h k.1)
  entry_once (Err Shape) (Err Weight) h k = absurd (shape_triple _ h k.1)
  entry_once (Err BadEndpoint) (Ok None) h k = absurd (none_triple _ k h.1)
  entry_once (Err BadEndpoint) (Ok (Some y)) h k = absurd (bad_ends _ h k.1 k.2)
  entry_once (Err BadEndpoint) (Err Shape) h k = absurd (shape_triple _ k h.1)
  entry_once (Err BadEndpoint) (Err BadEndpoint) h k = refl
  entry_once (Err BadEndpoint) (Err Weight) h k = absurd (bad_ends _ h k.1 k.2)
  entry_once (Err Weight) (Ok None) h k = absurd (none_triple _ k h.1)
  entry_once (Err Weight) (Ok (Some y)) h k = absurd (some_refused y k h)
  entry_once (Err Weight) (Err Shape) h k = absurd (shape_triple _ k h.1)
  entry_once (Err Weight) (Err BadEndpoint) h k = absurd (bad_ends _ k h.1 h.2)
  entry_once (Err Weight) (Err Weight) h k = refl
  entry_once (Err Property) y h k = absurd h
  entry_once (Err Holes) y h k = absurd h
  entry_once (Err Full) y h k = absurd h
  entry_once (Err Orders) y h k = absurd h
  entry_once (Err Cycle) y h k = absurd h
  entry_once (Err Memory) y h k = absurd h
  entry_once x (Err Property) h k = absurd k
  entry_once x (Err Holes) h k = absurd k
  entry_once x (Err Full) h k = absurd k
  entry_once x (Err Orders) h k = absurd k
  entry_once x (Err Cycle) h k = absurd k
  entry_once x (Err Memory) h k = absurd k

-- ---- slots

slots_from : {N : Type 0} (i : ℕ) (xs ys : List (Option N)) → vacant_from i xs ≡ vacant_from i ys
    → map (λ p. p.1) (numbered i xs) ≡ map (λ p. p.1) (numbered i ys) → xs ≡ ys
slots_from i [] [] vacant given = refl
slots_from i [] (None ∷ ys) vacant given = cc
slots_from i [] (Some y ∷ ys) vacant given = cc
slots_from i (None ∷ xs) [] vacant given = cc
slots_from i (Some x ∷ xs) [] vacant given = cc
slots_from i (None ∷ xs) (None ∷ ys) vacant given =
    let rest : vacant_from (i + 1) xs ≡ vacant_from (i + 1) ys = cc in
    ap (λ z. None ∷ z) (slots_from (i + 1) xs ys rest given)
slots_from i (Some x ∷ xs) (Some y ∷ ys) vacant given =
    let here : x ≡ y = cc in
    let rest : map (λ p. p.1) (numbered (i + 1) xs) ≡ map (λ p. p.1) (numbered (i + 1) ys) = cc in
    ap (λ z. Some z ∷ xs) here ∙ ap (λ z. Some y ∷ z) (slots_from (i + 1) xs ys vacant rest)
slots_from i (None ∷ xs) (Some y ∷ ys) vacant given =
    let late = low_first (i + 1) i ys _ (sym vacant) in absurd (omega arith)
slots_from i (Some x ∷ xs) (None ∷ ys) vacant given =
    let late = low_first (i + 1) i xs _ vacant in absurd (omega arith)

slots_once : {N : Type 0} (holes : List ℕ) (weights : List N) (xs ys : List (Option N))
    → AreSlots xs holes weights → AreSlots ys holes weights → xs ≡ ys
slots_once holes weights xs ys h k = slots_from 0 xs ys (h.vacant ∙ sym k.vacant) (h.given ∙ sym k.given)

-- ---- the other stages

laid_once : (limit : ℕ) (kind : Kind) (p : Parts) (f f' : Option ReadError)
    → IsLaidOut limit kind p f → IsLaidOut limit kind p f' → f ≡ f'
laid_once limit kind p None None h k = refl
laid_once limit kind p None (Some Property) h k = absurd (k h.0)
laid_once limit kind p None (Some Holes) h k = absurd (k.1 h.1)
laid_once limit kind p None (Some Full) h k = absurd (k.2 h.2)
laid_once limit kind p (Some Property) None h k = absurd (h k.0)
laid_once limit kind p (Some Property) (Some Property) h k = refl
laid_once limit kind p (Some Property) (Some Holes) h k = absurd (h k.0)
laid_once limit kind p (Some Property) (Some Full) h k = absurd (h k.0)
laid_once limit kind p (Some Holes) None h k = absurd (h.1 k.1)
laid_once limit kind p (Some Holes) (Some Property) h k = absurd (k h.0)
laid_once limit kind p (Some Holes) (Some Holes) h k = refl
laid_once limit kind p (Some Holes) (Some Full) h k = absurd (h.1 k.1)
laid_once limit kind p (Some Full) None h k = absurd (h.2 k.2)
laid_once limit kind p (Some Full) (Some Property) h k = absurd (k h.0)
laid_once limit kind p (Some Full) (Some Holes) h k = absurd (k.1 h.1)
laid_once limit kind p (Some Full) (Some Full) h k = refl
laid_once limit kind p (Some Shape) f' h k = absurd h
laid_once limit kind p (Some Weight) f' h k = absurd h
laid_once limit kind p (Some BadEndpoint) f' h k = absurd h
laid_once limit kind p (Some Orders) f' h k = absurd h
laid_once limit kind p (Some Cycle) f' h k = absurd h
laid_once limit kind p (Some Memory) f' h k = absurd h
laid_once limit kind p f (Some Shape) h k = absurd k
laid_once limit kind p f (Some Weight) h k = absurd k
laid_once limit kind p f (Some BadEndpoint) h k = absurd k
laid_once limit kind p f (Some Orders) h k = absurd k
laid_once limit kind p f (Some Cycle) h k = absurd k
laid_once limit kind p f (Some Memory) h k = absurd k

ordered_once : {N E : Type 0} (g : Graph N E) (o : Option Data) → IsOnce (IsOrdered g o)
ordered_once g None x y h k = h ∙ sym k
ordered_once g (Some d) (Ok a) (Ok b) h k =
    let same = same_Some h.0 k.0 (sym h.1 ∙ k.1) in ap Ok (h.3 ∙ (ap (with_orders g) same ∙ sym k.3))
ordered_once g (Some d) (Ok a) (Err e) h k = absurd (k.0 h.0 h.1 h.2)
ordered_once g (Some d) (Err e) (Ok b) h k = absurd (h.0 k.0 k.1 k.2)
ordered_once g (Some d) (Err e) (Err e') h k = ap Err (h.1 ∙ sym k.1)

then_once : {A B : Type 0} (first : Result A ReadError → Type 0) (next : A → Result B ReadError → Type 0)
    → IsOnce first → ((a : A) → IsOnce (next a)) → IsOnce (Then first next)
then_once {A} first next once later r r' h k =
    go k.0 (subst (λ x. MatchResult x (λ a. next a r) (λ e. r ≡ Err e)) (once h.0 k.0 h.1 k.1) h.2) k.2
  where
    go : (x : Result A ReadError) → MatchResult x (λ a. next a r) (λ e. r ≡ Err e)
        → MatchResult x (λ a. next a r') (λ e. r' ≡ Err e) → r ≡ r'
    go (Ok a) u v = later a r r' u v
    go (Err e) u v = u ∙ sym v

-- ---- the whole

module _ {N E : Type 0} (limit : ℕ) (kind : Kind) (node_answers : Data → Option N → Type 0)
    (edge_answers : Data → Option E → Type 0) (nodes_decided : IsDecided node_answers)
    (edges_decided : IsDecided edge_answers) where
  linked_once : (p : Parts) (nodes : List (Option N))
      → IsOnce (IsLinked limit kind node_answers edge_answers IsItself p nodes)
  linked_once p nodes =
      then_once _ _ (each_once _ (entry_once kind nodes edge_answers edges_decided) p.edges)
      (λ edges. then_once _ _ (ordered_once (graph_of_slots nodes edges) p.orders) (λ g r r' u v. u ∙ sym v))

  filled_once : (p : Parts) → IsOnce (IsFilled limit kind node_answers edge_answers IsItself p)
  filled_once p =
      then_once _ _ (each_once _ (weight_once node_answers nodes_decided) p.nodes)
      (λ weights r r' h k. linked_once p k.0 r r' (subst (λ z. IsLinked limit kind node_answers edge_answers IsItself p z r)
      (slots_once p.holes weights h.0 k.0 h.1 k.1) h.2) k.2)

  -- what is read of these parts
  abbrev Part : Parts → Result (Graph N E) ReadError → Type 0
  Part p r =
      (fault : Option ReadError) × IsLaidOut limit kind p fault
      × MatchOption fault (IsFilled limit kind node_answers edge_answers IsItself p r) (λ e. r ≡ Err e)

  read_once : (d : Data) → IsOnce (IsGraphRead limit kind node_answers edge_answers d)
  read_once d r r' h k = at (parts_in d) h k
    where
      on : (p : Parts) (fault : Option ReadError)
          → MatchOption fault (IsFilled limit kind node_answers edge_answers IsItself p r) (λ e. r ≡ Err e)
          → MatchOption fault (IsFilled limit kind node_answers edge_answers IsItself p r') (λ e. r' ≡ Err e) → r ≡ r'
      on p None u v = filled_once p r r' u v
      on p (Some e) u v = u ∙ sym v

      at : (o : Option Parts) → MatchOption o (r ≡ Err Shape) (λ p. Part p r)
          → MatchOption o (r' ≡ Err Shape) (λ p. Part p r') → r ≡ r'
      at None u v = u ∙ sym v
      at (Some p) u v =
          on p v.0 (subst (λ f. MatchOption f (IsFilled limit kind node_answers edge_answers IsItself p r) (λ e. r ≡ Err e))
          (laid_once limit kind p u.0 v.0 u.1 v.1) u.2) v.2

  pub agrees_none : (d : Data) (g : Graph N E) → IsGraphRead limit kind node_answers edge_answers d (Ok g)
      → (r : Result (Graph N E) ReadError) → IsGraphRead limit kind node_answers edge_answers d r → Agrees None r
  agrees_none d g h r k = subst (Agrees None) (read_once d (Ok g) r h k) refl

  pub agrees_fault : (d : Data) (f : Fault) → IsGraphRead limit kind node_answers edge_answers d (Err f.error)
      → (r : Result (Graph N E) ReadError) → IsGraphRead limit kind node_answers edge_answers d r → Agrees (Some f) r
  agrees_fault d f h r k = subst (Agrees (Some f)) (read_once d (Err f.error) r h k) refl

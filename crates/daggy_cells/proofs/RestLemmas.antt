-- What an iterator still has to yield, before and after a step.
use Rattle.std.proofs.Common.{◌≡◌, ℕ, zero, suc, ◌+◌, ◌-◌, ◌<◌, ◌≤◌, List, [], ◌∷◌, map, length, get_or, Option, Some}
use Rattle.std.proofs.Common.{None, slice_get, unwrap_or, refl, sym, ap, subst, ◌∙◌, arith}
use Rattle.std.proofs.lemmas.List.{length-map}
use Rattle.std.proofs.lemmas.Option.{same_Some, slice_get_past, slice_get_read}
use Rattle.std.specs.List.{filter_map, cons_option, range_with_len}
use Rattle.std.specs.Option.{option_map}
use Rattle.daggy_base.specs.declared.index.Direction.{Direction}
use Rattle.daggy_base.specs.Cursor.{first_of}
use Rattle.daggy_base.specs.Graph.{Edge as PlainEdge}
use Rattle.daggy_cells.specs.declared.cell.Edge.{Edge}
use Rattle.daggy_base.specs.Iterating.{numbered}
use Rattle.daggy_cells.specs.Links.{follow, IsLinkedList}
use Rattle.daggy_cells.specs.Raw.{raw_next}
use Rattle.daggy_cells.specs.Rest.{edges_left, IsOnList}
use Rattle.daggy_cells.specs.Fields.{nexts_of, list_from, plain}
use Rattle.daggy_cells.proofs.LinkedLists.{row_splits, row_is, IsLinkedList-tail, after_here}
use Rattle.daggy_base.proofs.Lists.{Contains-here, slice_get_mapped}

-- no slot is vacant

pub length-numbered : {A B : Type 0} (f : A → B) (i : ℕ) (xs : List A)
    → length (numbered i (map (λ x. Some (f x)) xs)) ≡ length xs
length-numbered f i [] = refl
length-numbered f i (x ∷ xs) = ap suc (length-numbered f (i + 1) xs)

pub numbers_are : {A B : Type 0} (f : A → B) (i : ℕ) (xs : List A)
    → map (λ p. p.0) (numbered i (map (λ x. Some (f x)) xs)) ≡ range_with_len i (length xs)
numbers_are f i [] = refl
numbers_are f i (x ∷ xs) = ap (λ l. i ∷ l) (numbers_are f (i + 1) xs)

pub values_are : {A B C : Type 0} (f : A → B) (h : B → C) (i : ℕ) (xs : List A)
    → map (λ p. h p.1) (numbered i (map (λ x. Some (f x)) xs)) ≡ map (λ x. h (f x)) xs
values_are f h i [] = refl
values_are f h i (x ∷ xs) = ap (λ l. h (f x) ∷ l) (values_are f h (i + 1) xs)

pub range_step : (a e : ℕ) → a < e → range_with_len a (e - a) ≡ a ∷ range_with_len (a + 1) (e - (a + 1))
range_step a e within = let longer : e - a ≡ suc (e - (a + 1)) = omega (arith, within) in ap (range_with_len a) longer

-- a step along a list

abbrev pub at_index : {A : Type 0} → ℕ → A → ℕ × A
at_index i x = (i, x)

pub follow_past : (nexts : List ℕ) (fuel e : ℕ) → length nexts ≤ e → follow nexts fuel e ≡ []
follow_past nexts zero e past = refl
follow_past nexts (suc k) e past = rw (slice_get_past nexts e past) refl

module _ {E Ix : Type 0} (end : ℕ) (dir : Direction) (edges : List (Edge E Ix)) where
  pub edges_past : (e : ℕ) → length edges ≤ e → edges_left dir edges e ≡ []
  edges_past e past =
      ap (filter_map (λ i. option_map (λ x. at_index i (plain x)) (slice_get edges i))) (follow_past
      (nexts_of dir edges) (length (nexts_of dir edges)) e (omega (arith, past, length-map edges (raw_next dir))))

  -- the walk from an edge that is there
  pub step_on : (e : ℕ) (x : Edge E Ix) → e < length edges → x ≡ get_or edges e x → IsOnList end dir edges e
      → (list_from dir edges e ≡ e ∷ list_from dir edges (raw_next dir x))
      × IsLinkedList end (nexts_of dir edges) (raw_next dir x) (list_from dir edges (raw_next dir x))
  step_on e x within is s =
      let nexts = nexts_of dir edges in
      let long : length nexts ≡ length edges = length-map edges (raw_next dir) in
      let limit : length nexts ≤ end = omega (arith, long, s.few) in
      let split = row_splits end nexts e (list_from dir edges e) s.linked (omega (arith, within, long)) limit in
      let row_e : IsLinkedList end nexts e (e ∷ split.0) = subst (IsLinkedList end nexts e) split.1 s.linked in
      let goes = slice_get_mapped (raw_next dir) edges e x within is in
      let next : first_of end split.0 ≡ raw_next dir x =
      same_Some _ _
      (ap Some (sym (after_here end e split.0)) ∙ sym (row_e.goes_on e (Contains-here e split.0)) ∙ goes) in
      let tail : IsLinkedList end nexts (raw_next dir x) split.0 =
      subst (λ z. IsLinkedList end nexts z split.0) next (IsLinkedList-tail end nexts e split.0 row_e) in
      let rest : list_from dir edges (raw_next dir x) ≡ split.0 =
      row_is end (raw_next dir x) nexts split.0 tail limit in
      (split.1 ∙ ap (λ l. e ∷ l) (sym rest), subst (IsLinkedList end nexts (raw_next dir x)) (sym rest) tail)

  pub IsOnList-step : (e : ℕ) (x : Edge E Ix)
      → e < length edges → x ≡ get_or edges e x → IsOnList end dir edges e → IsOnList end dir edges (raw_next dir x)
  IsOnList-step e x within is s = record { linked = (step_on e x within is s).1; few = s.few }

  pub edges_step : (e : ℕ) (x : Edge E Ix) → e < length edges → x ≡ get_or edges e x → IsOnList end dir edges e
      → edges_left dir edges e ≡ (e, plain x) ∷ edges_left dir edges (raw_next dir x)
  edges_step e x within is s =
      let h : ℕ → Option (ℕ × PlainEdge E) = λ i. option_map (λ y. at_index i (plain y)) (slice_get edges i) in
      let reads : slice_get edges e ≡ Some x = slice_get_read edges (length edges) e x refl within is in
      ap (filter_map h) (step_on e x within is s).0 ∙ rw reads refl

-- no more is left than there are edges

go_few : (nexts : List ℕ) (k e : ℕ) → ((next : ℕ) → length (follow nexts k next) ≤ k)
    → (o : Option ℕ) → length (unwrap_or (option_map (λ next. e ∷ follow nexts k next) o) []) ≤ suc k
go_few nexts k e few None = omega arith
go_few nexts k e few (Some next) = omega (arith, few next)

pub follow_few : (nexts : List ℕ) (fuel e : ℕ) → length (follow nexts fuel e) ≤ fuel
follow_few nexts zero e = omega arith
follow_few nexts (suc k) e = go_few nexts k e (follow_few nexts k) (slice_get nexts e)

cons_few : {A : Type 0} (o : Option A) (xs : List A) → length (cons_option o xs) ≤ length xs + 1
cons_few None xs = omega arith
cons_few (Some x) xs = omega arith

pub filter_map_few : {A : Type 0} (h : ℕ → Option A) (xs : List ℕ) → length (filter_map h xs) ≤ length xs
filter_map_few h [] = omega arith
filter_map_few h (x ∷ xs) = let more = filter_map_few h xs in omega (arith, more, cons_few (h x) (filter_map h xs))

pub edges_few : {E Ix : Type 0} (dir : Direction) (edges : List (Edge E Ix)) (e : ℕ)
    → length (edges_left dir edges e) ≤ length edges
edges_few dir edges e =
    let one =
    filter_map_few (λ i. option_map (λ x. at_index i (plain x)) (slice_get edges i)) (list_from dir edges e) in
    let two = follow_few (nexts_of dir edges) (length (nexts_of dir edges)) e in
    omega (arith, one, two, length-map edges (raw_next dir))

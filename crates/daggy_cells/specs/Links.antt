-- Linked lists of numbers: a list has a first element, and each element has a link to the next.
use Rattle.std.specs.Prelude.{◌≡◌, ℕ, zero, suc, ◌<◌, ◌↔◌, Option, Some, List, [], ◌∷◌, length, map, slice_get}
use Rattle.std.specs.Prelude.{slice_set, slice_index, unwrap_or, Contains}
use Rattle.std.specs.Option.{option_map}
use Rattle.daggy_base.specs.Cursor.{first_of, after}
use Rattle.daggy_base.specs.WellFormed.{AreDistinct}
use Rattle.daggy_base.specs.Removal.{renamed}

-- the elements met by following the links from e on, at most `fuel` of them
abbrev pub follow : (nexts : List ℕ) → (fuel : ℕ) → ℕ → List ℕ
follow nexts zero e = []
follow nexts (suc k) e = unwrap_or (option_map (λ next. e ∷ follow nexts k next) (slice_get nexts e)) []

-- the linked lists that begin with these elements
abbrev pub linked_lists : (firsts nexts : List ℕ) → List (List ℕ)
linked_lists firsts nexts = map (follow nexts (length nexts)) firsts

-- the n-th of the lists, or the empty list
abbrev pub nth_list : List (List ℕ) → ℕ → List ℕ
nth_list lists n = unwrap_or (slice_get lists n) []

-- the links form this list
pub record IsLinkedList (end : ℕ) (nexts : List ℕ) (first : ℕ) (list : List ℕ) : Type 0 where
  pub starts : first ≡ first_of end list
  pub distinct : AreDistinct list
  pub goes_on : (e : ℕ) → Contains list e → slice_get nexts e ≡ Some (after end list e)

-- the links form these lists, one for each of `firsts`
pub record AreLinkedLists (end : ℕ) (firsts nexts : List ℕ) (lists : List (List ℕ)) : Type 0 where
  pub rows : length lists ≡ length firsts
  pub each : (n : ℕ) → n < length firsts → IsLinkedList end nexts (slice_index firsts n) (nth_list lists n)

-- the n-th of the lists has exactly the elements whose end is n
abbrev pub ListsBy : (end_of : ℕ → Option ℕ) → List (List ℕ) → Type 0
ListsBy end_of lists = (n e : ℕ) → Contains (nth_list lists n) e ↔ (end_of e ≡ Some n)

-- the n-th of the lists has exactly the positions of n in `ends`
abbrev pub ListsEach : (ends : List ℕ) → List (List ℕ) → Type 0
ListsEach ends lists = (n e : ℕ) → Contains (nth_list lists n) e ↔ (slice_get ends e ≡ Some n)

-- the link to old in the list of n is replaced by a link to new
pub record Redirected (list : List ℕ) (n old new : ℕ) (firsts nexts firsts' nexts' : List ℕ) : Type 0 where
  pub first : firsts' ≡ slice_set firsts n (renamed old new (slice_index firsts n))
  pub same_length : length nexts' ≡ length nexts
  pub inside : (e : ℕ) → Contains list e → slice_get nexts' e ≡ option_map (renamed old new) (slice_get nexts e)
  pub outside : (e : ℕ) → ¬ Contains list e → slice_get nexts' e ≡ slice_get nexts e

-- the elements of the list are distinct, and each has a link
pub record CanLink (count : ℕ) (list : List ℕ) : Type 0 where
  pub once : AreDistinct list
  pub within : (e : ℕ) → Contains list e → e < count

-- the links of the elements form this list, and every other link is unchanged
pub record Relinked (end : ℕ) (list nexts nexts' : List ℕ) : Type 0 where
  pub same_length : length nexts' ≡ length nexts
  pub inside : (e : ℕ) → Contains list e → slice_get nexts' e ≡ Some (after end list e)
  pub outside : (e : ℕ) → ¬ Contains list e → slice_get nexts' e ≡ slice_get nexts e

-- each of the lists can be linked, and no two of them share an element
pub record CanLinkAll (count : ℕ) (lists : List (List ℕ)) : Type 0 where
  pub each : (n : ℕ) → CanLink count (nth_list lists n)
  pub apart : (n m e : ℕ) → Contains (nth_list lists n) e → Contains (nth_list lists m) e → n ≡ m

-- Nodes without an edge in one direction, found by their first links and gone through by index.
use Rattle.std.proofs.Common.{◌≡◌, ℕ, ◌+◌, ◌-◌, ◌<◌, ◌≤◌, ◌==◌, true, false, Option, Some, None, IsSome, is_some, List}
use Rattle.std.proofs.Common.{[], ◌∷◌, length, refl, ap, sym, ◌∙◌, arith, inl}
use Rattle.std.specs.List.{filter, range_with_len}
use Rattle.std.proofs.Math.Dec.{eqb-suc-zero}
use Rattle.std.proofs.lemmas.List.FromFn.{length-range_with_len}
use Rattle.std.proofs.lemmas.List.Sums.{length-filter, count_by-le-length}
use Rattle.std.proofs.lemmas.Bool.{ne_eqb, eq-eqb}
use Rattle.daggy_base.specs.declared.index.Direction.{Direction}
use Rattle.daggy_base.specs.declared.index.Direction.TheVariants.{Outgoing, Incoming}
use Rattle.daggy_base.specs.Graph.{Graph, list_at}
use Rattle.daggy_base.specs.Cursor.{first_of}
use Rattle.daggy_base.specs.Externals.{is_external, externals_from}
use Rattle.daggy_base.specs.WellFormed.{IsWellFormed}
use Rattle.daggy_base.proofs.Lists.{Mem, mem_contains}
use Rattle.daggy_base.proofs.OutEdgesRead.{edge_below}
use Rattle.daggy_cells.proofs.RestLemmas.{range_step}

first_none : (end : ℕ) (xs : List ℕ) → ((e : ℕ) → Mem e xs → e < end) → (first_of end xs == end) ≡ (length xs == 0)
first_none end [] low = eq-eqb end end refl
first_none end (x ∷ xs) low =
    ne_eqb x end (λ h. let here = low x (inl refl) in absurd (omega (arith, here, h))) ∙ sym (eqb-suc-zero (length xs))

module _ {N E : Type 0} (end : ℕ) (g : Graph N E) (w : IsWellFormed end g) where
  below : (dir : Direction) (n e : ℕ) → Mem e (list_at dir g n) → e < end
  below Outgoing n e m = let x = (w.out_of.exact n e).0 (mem_contains _ _ m) in edge_below end g w e x.0 x.1
  below Incoming n e m = let x = (w.in_of.exact n e).0 (mem_contains _ _ m) in edge_below end g w e x.0 x.1

  -- a list whose first link is `end` is empty
  pub empty_if_ended : (dir : Direction) (n : ℕ)
      → (first_of end (list_at dir g n) == end) ≡ (length (list_at dir g n) == 0)
  empty_if_ended dir n = first_none end (list_at dir g n) (below dir n)

pub is_some_of : {A : Type 0} (o : Option A) → IsSome o → is_some o ≡ true
is_some_of None h = absurd cc
is_some_of (Some x) h = refl

module _ {N E : Type 0} (dir : Direction) (g : Graph N E) (i : ℕ) where
  pub taken : i < length g.nodes → is_external dir g i ≡ true
      → externals_from dir g i ≡ i ∷ externals_from dir g (i + 1)
  taken within is = ap (filter (is_external dir g)) (range_step i (length g.nodes) within) ∙ rw is refl

  pub passed : i < length g.nodes → is_external dir g i ≡ false → externals_from dir g i ≡ externals_from dir g (i + 1)
  passed within is = ap (filter (is_external dir g)) (range_step i (length g.nodes) within) ∙ rw is refl

pub few : {N E : Type 0} (dir : Direction) (g : Graph N E) → length (externals_from dir g 0) ≤ length g.nodes
few dir g =
    let range = range_with_len 0 (length g.nodes - 0) in
    omega (
      arith,
      length-filter (is_external dir g) range,
      count_by-le-length (is_external dir g) range,
      length-range_with_len 0 (length g.nodes - 0),
    )

-- The arcs of a segment gone through, one by one.
use Rattle.std.proofs.Common.{◌≡◌, ◌≢◌, ℕ, ◌+◌, ◌-◌, ◌<◌, ◌≤◌, Bool, true, false, ◌⊎◌, ◌↔◌, inl, inr, List}
use Rattle.std.proofs.Common.{length, get_or, set, replicate, refl, sym, ap, subst, ◌∙◌, arith}
use Rattle.std.proofs.lemmas.Bool.{false≢true, cases_lt}
use Rattle.std.proofs.lemmas.List.{get_or-replicate, get_or_past, length-replicate, get_or-set_same, get_or-set_other}
use Rattle.std.proofs.Common.{length-set}
use Rattle.daggy_search.specs.declared.arcs.Arc.{Arc}
use Rattle.daggy_search.specs.declared.arcs.Segment.{Segment}
use Rattle.daggy_redundant.specs.Flags.{IsFlagged}
use Rattle.daggy_reduction.specs.Blocks.{HasBits, HasBit, IsIn, HasArcTo, ArePassedOn, MarksArcs, AreLeft}
use Rattle.daggy_redundant.proofs.FlaggedChildren.{set_flag}
use Rattle.daggy_reduction.proofs.SegmentArcs.{in_step, in_none, in_same}

none_set : (n i : ℕ) → get_or (replicate n false) i false ≡ false
none_set n i =
    elim (cases_lt i n) [
      | inl low ↦ get_or-replicate n i false false low
      | inr past ↦ get_or_past (replicate n false) i false (omega (arith, length-replicate {A = Bool} n false, past))
    ]

-- the front of a segment, up to a position
abbrev pub front : Segment → ℕ → Segment
front s k = record { begin = s.begin; end = k }

module _ {I : Type 0} (arcs : List (Arc I)) (s : Segment) where
  -- no bit is set before the first arc
  pub bits_start : (low high : ℕ) (At : ℕ → ℕ → Type 0) {row : List Bool} (n : ℕ) → row ≡ replicate n false
      → HasBits low high (λ i. HasArcTo arcs (front s s.begin) (At i)) row
  bits_start low high At n is i low_i = (
    λ t. absurd (false≢true (sym (ap (λ z. get_or z i false) is ∙ none_set n i) ∙ t)),
    λ (a, inside, at). absurd (in_none arcs s.begin a inside),
  )

  pub bits_done : (k : ℕ) → k ≡ s.end → (low high : ℕ) (At : ℕ → ℕ → Type 0) (row : List Bool)
      → HasBits low high (λ i. HasArcTo arcs (front s k) (At i)) row → HasBits low high (λ i. HasArcTo arcs s (At i)) row
  bits_done k done low high At row has =
      let P : ℕ → Type 0 = λ z. HasBits low high (λ i. HasArcTo arcs (front s z) (At i)) row in subst P done has

  -- nothing is found before the first arc
  pub found_start : (At : ℕ → Type 0) (Found : Type 0) → (Found → ⊥) → Found ↔ HasArcTo arcs (front s s.begin) At
  found_start At Found none = (λ f. absurd (none f), λ (a, inside, at). absurd (in_none arcs s.begin a inside))

  pub found_done : (k : ℕ) → k ≡ s.end → (At : ℕ → Type 0) (Found : Type 0)
      → (Found ↔ HasArcTo arcs (front s k) At) → Found ↔ HasArcTo arcs s At
  found_done k done At Found has = subst (λ z. Found ↔ HasArcTo arcs (front s z) At) done has

  module _ (k : ℕ) (x : Arc I) (from : s.begin ≤ k) (till : k < length arcs) (x_is : x ≡ get_or arcs k x) where
    pub bits_on : (low high p : ℕ) → p ≡ x.place → (At : ℕ → ℕ → Type 0) (old new : List Bool)
        → HasBits low high (λ i. HasArcTo arcs (front s k) (At i)) old
        → ((i : ℕ) → low + i < high → (get_or new i false ≡ true) ↔ ((get_or old i false ≡ true) ⊎ At i p))
        → HasBits low high (λ i. HasArcTo arcs (front s (k + 1)) (At i)) new
    bits_on low high p p_is At old new before more i low_i = (
      λ t. elim ((more i low_i).0 t) [
        | inl b ↦
            (let (a, inside, at) = (before i low_i).0 b in (a, (in_step arcs s.begin k x from till x_is a).1 (inl inside), at))
        | inr at ↦ (x, (in_step arcs s.begin k x from till x_is x).1 (inr refl), subst (At i) p_is at)
      ],
      λ (a, inside, at). (more i low_i).1 (elim ((in_step arcs s.begin k x from till x_is a).0 inside) [
        | inl early ↦ inl ((before i low_i).1 (a, early, at))
        | inr same ↦
            (let P : Arc I → Type 0 = λ z. At i z.place in inr (subst (At i) (sym p_is) (subst P same at)))
      ]),
    )

    pub found_on : (p : ℕ) → p ≡ x.place → (At : ℕ → Type 0) (Old New : Type 0)
        → (Old ↔ HasArcTo arcs (front s k) At) → (New ↔ (Old ⊎ At p)) → New ↔ HasArcTo arcs (front s (k + 1)) At
    found_on p p_is At Old New before more = (
      λ t. elim (more.0 t) [
        | inl b ↦
            (let (a, inside, at) = before.0 b in (a, (in_step arcs s.begin k x from till x_is a).1 (inl inside), at))
        | inr at ↦ (x, (in_step arcs s.begin k x from till x_is x).1 (inr refl), subst At p_is at)
      ],
      λ (a, inside, at). more.1 (elim ((in_step arcs s.begin k x from till x_is a).0 inside) [
        | inl early ↦ inl (before.1 (a, early, at))
        | inr same ↦ inr (subst At (ap (λ (z : Arc I). z.place) same ∙ sym p_is) at)
      ]),
    )

    -- what the rows of the first arcs give has a row whose place it has
    pub reached_passes : (low high p : ℕ) → p ≡ x.place → (rows : List (List Bool)) (indirect : List Bool)
        → k < s.end → ArePassedOn arcs s low high rows
        → HasBits low high (λ i. HasArcTo arcs (front s k) (λ q. (q < high) × HasBit rows q i)) indirect
        → low ≤ p → p < high → get_or indirect (p - low) false ≡ true → (i : ℕ) → low + i < high → HasBit rows p i
        → get_or indirect i false ≡ true
    reached_passes low high p p_is rows indirect inside passed_on has p_from p_till there i low_i bit =
        let place_is : low + (p - low) ≡ p = omega (arith, p_from) in
        let (a, (j, after, before, is), (early, has_p)) =
        (has (p - low) (omega (arith, place_is, p_till))).0 there in
        let P : ℕ → Type 0 = λ z. HasBit rows z i in
        let Q : ℕ → Type 0 = λ z. HasBit rows a.place (z - low) in
        let on =
        passed_on a x (j, after, omega (arith, before, inside), is) (k, from, inside, sym x_is) early
        (omega (arith, p_is, p_from)) (omega (arith, p_is, p_till)) (subst Q p_is has_p) i low_i (subst P p_is bit) in
        (has i low_i).1 (a, (j, after, before, is), (early, on))

    module _ (end : ℕ) (number : I → ℕ) (mark : ℕ → Bool) (old now : List ℕ)
        (before : MarksArcs end number arcs (front s k) mark old now) where
      pub marks_true : mark x.place ≡ true → number x.edge < length now → number x.edge < end → {new : List ℕ}
          → new ≡ set now (number x.edge) (number x.edge) → MarksArcs end number arcs (front s (k + 1)) mark old new
      marks_true m within real {new} is e =
          let F : List ℕ → Type 0 = λ z. IsFlagged end z e ↔ (IsFlagged end now e ⊎ (e ≡ number x.edge)) in
          let all = subst F (sym is) (set_flag end now (number x.edge) within real e) in (
            λ f. elim (all.0 f) [
              | inl b ↦ elim ((before e).0 b) [
                | inl o ↦ inl o
                | inr (a, inside, e_is, marked) ↦
                    inr (a, (in_step arcs s.begin k x from till x_is a).1 (inl inside), e_is, marked)
              ]
              | inr here ↦ inr (x, (in_step arcs s.begin k x from till x_is x).1 (inr refl), sym here, m)
            ],
            λ t. all.1 (elim t [
              | inl o ↦ inl ((before e).1 (inl o))
              | inr (a, inside, e_is, marked) ↦ elim ((in_step arcs s.begin k x from till x_is a).0 inside) [
                | inl early ↦ inl ((before e).1 (inr (a, early, e_is, marked)))
                | inr same ↦ inr (sym e_is ∙ ap (λ (z : Arc I). number z.edge) same)
              ]
            ]),
          )

      pub marks_false : mark x.place ≡ false → MarksArcs end number arcs (front s (k + 1)) mark old now
      marks_false m e = (
        λ f. elim ((before e).0 f) [
          | inl o ↦ inl o
          | inr (a, inside, e_is, marked) ↦
              inr (a, (in_step arcs s.begin k x from till x_is a).1 (inl inside), e_is, marked)
        ],
        λ t. (before e).1 (elim t [
          | inl o ↦ inl o
          | inr (a, inside, e_is, marked) ↦ elim ((in_step arcs s.begin k x from till x_is a).0 inside) [
            | inl early ↦ inr (a, early, e_is, marked)
            | inr same ↦ absurd (false≢true (sym m ∙ ap (λ (z : Arc I). mark z.place) (sym same) ∙ marked))
          ]
        ]),
      )

-- What is gone through: the number past all edges, what is marked, the segment, and the arcs and flags from before.
pub record Whole (I : Type 0) : Type 0 where
  pub end : ℕ
  pub number : I → ℕ
  pub mark : ℕ → Bool
  pub segment : Segment
  pub arcs : List (Arc I)
  pub flags : List ℕ

-- How far it is: the next position, where the arcs that stay end, the arcs, and the flags.
pub record Parted (I : Type 0) : Type 0 where
  pub next : ℕ
  pub left : ℕ
  pub arcs : List (Arc I)
  pub flags : List ℕ

-- of the arcs that were passed, the marked ones have flags, and the others stand at the front
pub record Parting {I : Type 0} (t : Whole I) (now : Parted I) : Type 0 where
  pub begins : t.segment.begin ≤ now.left
  pub ends : now.left ≤ now.next
  pub marked : MarksArcs t.end t.number t.arcs (front t.segment now.next) t.mark t.flags now.flags
  pub exact : (a : Arc I)
      → IsIn now.arcs (front t.segment now.left) a ↔ (IsIn t.arcs (front t.segment now.next) a × (t.mark a.place ≡ false))
  pub others : (j : ℕ) (a : Arc I)
      → (j < t.segment.begin) ⊎ (now.next ≤ j) → get_or now.arcs j a ≡ get_or t.arcs j a
  pub arcs_kept : length now.arcs ≡ length t.arcs
  pub flags_kept : length now.flags ≡ length t.flags

pub part_start : {I : Type 0} (t : Whole I)
    → Parting t record { next = t.segment.begin; left = t.segment.begin; arcs = t.arcs; flags = t.flags }
part_start {I} t =
    record {
      begins = omega arith;
      ends = omega arith;
      marked = λ e. (
        λ f. inl f,
        λ h. elim h [ inl f ↦ f | inr (a, inside, e_is, m) ↦ absurd (in_none t.arcs t.segment.begin a inside) ],
      );
      exact = λ a. (
        λ inside. absurd (in_none t.arcs t.segment.begin a inside),
        λ (inside, m). absurd (in_none t.arcs t.segment.begin a inside),
      );
      others = λ j a out. refl;
      arcs_kept = refl;
      flags_kept = refl;
    }

module _ {I : Type 0} {t : Whole I} {now : Parted I} (p : Parting t now) (x : Arc I)
    (inside : t.segment.end ≤ length t.arcs) (more : now.next < t.segment.end) (x_is : x ≡ get_or now.arcs now.next x) where
  first : x ≡ get_or t.arcs now.next x
  first = x_is ∙ p.others now.next x (inr (omega arith))

  from : t.segment.begin ≤ now.next
  from = omega (arith, p.begins, p.ends)

  low : now.next < length t.arcs
  low = omega (arith, more, inside)

  pub part_read : IsIn t.arcs t.segment x
  part_read = (now.next, from, more, sym first)

  pub part_marked : t.mark x.place ≡ true → t.number x.edge < length now.flags → t.number x.edge < t.end
      → {flags' : List ℕ} → flags' ≡ set now.flags (t.number x.edge) (t.number x.edge)
      → Parting t record { next = now.next + 1; left = now.left; arcs = now.arcs; flags = flags' }
  part_marked m within real is =
      record {
        begins = p.begins;
        ends = omega (arith, p.ends);
        marked =
            marks_true t.arcs t.segment now.next x from low first t.end t.number t.mark t.flags now.flags p.marked m
            within real is;
        exact = λ a. (
          λ h.
              (let q = (p.exact a).0 h in
              ((in_step t.arcs t.segment.begin now.next x from low first a).1 (inl q.0), q.1)),
          λ (h, clear).
              (p.exact a).1 (elim ((in_step t.arcs t.segment.begin now.next x from low first a).0 h) [
                | inl early ↦ (early, clear)
                | inr same ↦ absurd (false≢true (sym clear ∙ ap (λ (z : Arc I). t.mark z.place) same ∙ m))
              ]),
        );
        others = λ j a out.
            p.others j a (elim out [ inl before ↦ inl before | inr after ↦ inr (omega (arith, after)) ]);
        arcs_kept = p.arcs_kept;
        flags_kept = ap length is ∙ length-set now.flags _ _ ∙ p.flags_kept;
      }

  pub part_left : t.mark x.place ≡ false → {arcs' : List (Arc I)} → arcs' ≡ set now.arcs now.left x
      → Parting t record { next = now.next + 1; left = now.left + 1; arcs = arcs'; flags = now.flags }
  part_left m {arcs'} is =
      record {
        begins = omega (arith, p.begins);
        ends = omega (arith, p.ends);
        marked =
            marks_false t.arcs t.segment now.next x from low first t.end t.number t.mark t.flags now.flags p.marked m;
        exact = λ a. (
          λ h. elim ((in_step arcs' t.segment.begin now.left x p.begins room there a).0 h) [
            | inl early ↦
                (let q = (p.exact a).0 ((same_front a).0 early) in
                ((in_step t.arcs t.segment.begin now.next x from low first a).1 (inl q.0), q.1))
            | inr same ↦ (
              (in_step t.arcs t.segment.begin now.next x from low first a).1 (inr same),
              ap (λ (z : Arc I). t.mark z.place) same ∙ m,
            )
          ],
          λ (h, clear). (in_step arcs' t.segment.begin now.left x p.begins room there a).1
              (elim ((in_step t.arcs t.segment.begin now.next x from low first a).0 h) [
                | inl early ↦ inl ((same_front a).1 ((p.exact a).1 (early, clear)))
                | inr same ↦ inr same
              ]),
        );
        others = λ j a out. other j a (apart j out)
            ∙ p.others j a (elim out [ inl before ↦ inl before | inr after ↦ inr (omega (arith, after)) ]);
        arcs_kept = ap length is ∙ length-set now.arcs _ _ ∙ p.arcs_kept;
        flags_kept = p.flags_kept;
      }
    where
      below : now.left < length now.arcs
      below = omega (arith, p.ends, low, p.arcs_kept)

      room : now.left < length arcs'
      room = omega (arith, below, ap length is, length-set now.arcs now.left x)

      there : x ≡ get_or arcs' now.left x
      there = sym (ap (λ z. get_or z now.left x) is ∙ get_or-set_same now.arcs now.left x x below)

      other : (j : ℕ) (a : Arc I) → j ≢ now.left → get_or arcs' j a ≡ get_or now.arcs j a
      other j a apart = ap (λ z. get_or z j a) is ∙ get_or-set_other now.arcs now.left j x a apart

      same_front : (a : Arc I) → IsIn arcs' (front t.segment now.left) a ↔ IsIn now.arcs (front t.segment now.left) a
      same_front =
          in_same now.arcs arcs' (front t.segment now.left)
          (λ j a after till. other j a (λ here. omega (arith, till, here)))

      apart : (j : ℕ) → (j < t.segment.begin) ⊎ (now.next + 1 ≤ j) → j ≢ now.left
      apart j (inl before) here = omega (arith, before, p.begins, here)
      apart j (inr after) here = omega (arith, after, p.ends, here)

pub part_done : {I : Type 0} {t : Whole I} {now : Parted I} → Parting t now → now.next ≡ t.segment.end
    → MarksArcs t.end t.number t.arcs t.segment t.mark t.flags now.flags
    × AreLeft t.mark t.segment now.left t.arcs now.arcs
part_done {I} {t} {now} p done =
    let M : ℕ → Type 0 = λ z. MarksArcs t.end t.number t.arcs (front t.segment z) t.mark t.flags now.flags in
    let X : ℕ → Type 0 = λ z. (a : Arc I)
    → IsIn now.arcs (front t.segment now.left) a ↔ (IsIn t.arcs (front t.segment z) a × (t.mark a.place ≡ false)) in (
      subst M done p.marked,
      record {
        from = p.begins;
        till = omega (arith, p.ends, done);
        exact = subst X done p.exact;
        others = λ j a out.
            p.others j a (elim out [ inl before ↦ inl before | inr after ↦ inr (omega (arith, after, done)) ]);
        length_kept = p.arcs_kept;
      },
    )

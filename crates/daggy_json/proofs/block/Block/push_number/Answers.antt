use Rattle.std.proofs.Common.{ℕ, ◌≡◌, ◌+◌, ◌^◌, ◌<◌, ◌≤◌, ◌∙◌, Bool, true, false, cond, List, [], ◌∷◌, ◌++◌, set, length, take, drop, decimal}
use Rattle.std.proofs.Common.{sym, ap, subst, arith, append_assoc, append-nil, length-append, length-set, take-append-drop, length-take-le}
use Rattle.std.specs.Int.{from_bool}
use Rattle.std.proofs.lemmas.Fmt.{length-decimal-le, decimal_nonempty}
use Rattle.std.proofs.lemmas.List.{take-set, take_more_set}
use Rattle.std.proofs.Math.Seq.{take-append_seam}
use Rattle.daggy_json.specs.declared.block.TheConstants.{CAPACITY, LONGEST}
use Rattle.daggy_json.proofs.block.Block.push_number.Goals as goal

-- a comma that was written behind the first bytes, and is kept if it is due
comma_kept : (comma : Bool) (bytes : List ℕ) (len : ℕ) → len < length bytes
    → take (len + from_bool comma) (set bytes len 44) ≡ take len bytes ++ cond comma (44 ∷ []) []
comma_kept true bytes len low = take_more_set bytes len 44 low
comma_kept false bytes len low =
    let same : len + 0 ≡ len = omega arith in
    ap (λ k. take k (set bytes len 44)) same ∙ (take-set bytes len 44 ∙ sym (append-nil (take len bytes)))

-- bytes that were written behind the first ones of a list
placed : (start at end : ℕ) (old new bytes : List ℕ) → end ≡ start + length bytes → at + length bytes ≡ end
    → start ≤ length old → drop at new ≡ bytes ++ drop end old → take at new ≡ take at old
    → take end new ≡ take start old ++ bytes
placed start at end old new bytes ends begins low written before =
    let same : at ≡ start = omega arith in
    let whole : new ≡ (take start old ++ bytes) ++ drop end old =
    sym (take-append-drop at new) ∙ (ap (λ l. l ++ drop at new) before ∙ (ap (λ l. take at old ++ l) written
    ∙ (sym (append_assoc (take at old) bytes (drop end old)) ∙ ap (λ k. (take k old ++ bytes) ++ drop end old) same))) in
    let fits : length (take start old ++ bytes) ≡ end =
    length-append (take start old) bytes ∙ (ap (λ k. k + length bytes) (length-take-le start old low) ∙ sym ends) in
    ap (take end) whole
    ∙ subst (λ k. take k ((take start old ++ bytes) ++ drop end old) ≡ take start old ++ bytes) fits
    (take-append_seam (take start old ++ bytes) (drop end old))

one_at_most : (comma : Bool) → from_bool comma ≤ 1
one_at_most true = omega arith
one_at_most false = omega arith

-- where the digits end
ends_within : (bytes block : List ℕ) (len from n : ℕ) (comma : Bool) → take len bytes ≡ block → len ≤ length bytes
    → length block + LONGEST ≤ CAPACITY → from ≡ from_bool comma → n < 2 ^ 64
    → len + from + length (decimal n) ≤ CAPACITY
ends_within bytes block len from n comma is low room from_is fits =
    let all : length block ≡ len = ap length (sym is) ∙ length-take-le len bytes low in
    let digits : length (decimal n) ≤ 20 = length-decimal-le 20 n (omega arith) (omega arith) fits in
    omega (arith, all, digits, from_is, one_at_most comma)

pub overflow_add-end-2 : goal.overflow_add-end-2
overflow_add-end-2 c =
    omega (
      arith,
      c.count_digits.ensures,
      ends_within c.self.inside.bytes c.args.self.now c.self.inside.len c.from.result c.args.n c.args.comma
          c.self.view_is (omega (arith, c.self.invariant)) c.requires c.from.ensures (omega arith),
    )

pub write_digits-requires : goal.write_digits-requires
write_digits-requires c =
    let within = ends_within c.self.inside.bytes c.args.self.now c.self.inside.len c.from.result c.args.n c.args.comma
    c.self.view_is (omega (arith, c.self.invariant)) c.requires c.from.ensures (omega arith) in
    let same = length-set c.self.inside.bytes c.self.inside.len 44 in
    (omega (arith, c.count_digits.ensures), omega (arith, within, same, c.self.invariant, c.count_digits.ensures))

pub returns : goal.returns
returns c =
    let bytes = c.self.inside.bytes in
    let len = c.self.inside.len in
    let w = c.write_digits.ensures in
    let same = length-set bytes len 44 in
    let within = ends_within bytes c.args.self.now len c.from.result c.args.n c.args.comma
    c.self.view_is (omega (arith, c.self.invariant)) c.requires c.from.ensures (omega arith) in
    let digits : take (len + c.from.result + c.count_digits.result) c.write_digits.new.buf
    ≡ take (len + c.from.result) (set bytes len 44) ++ decimal c.args.n =
    placed (len + c.from.result) c.write_digits.result _ (set bytes len 44) c.write_digits.new.buf (decimal c.args.n)
    (omega (arith, c.count_digits.ensures)) w.start (omega (arith, within, same, c.self.invariant)) w.written w.before in
    let comma : take (len + c.from.result) (set bytes len 44) ≡ take len bytes ++ cond c.args.comma (44 ∷ []) [] =
    ap (λ k. take (len + k) (set bytes len 44)) c.from.ensures
    ∙ comma_kept c.args.comma bytes len
    (omega (arith, within, c.self.invariant, decimal_nonempty c.args.n (omega arith))) in
    digits ∙ (ap (λ l. l ++ decimal c.args.n) (comma ∙ ap (λ l. l ++ cond c.args.comma (44 ∷ []) []) c.self.view_is)
    ∙ append_assoc c.args.self.now (cond c.args.comma (44 ∷ []) []) (decimal c.args.n))

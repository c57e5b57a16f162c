use Rattle.std.proofs.Common.{◌≡◌, ◌+◌, ◌-◌, ◌<◌, map, set, length, sym, ap, ◌∙◌, arith}
use Rattle.std.proofs.lemmas.List.{length-map}
use Rattle.daggy_reduction.specs.Blocks.{is_in_row}
use Rattle.daggy_reduction.proofs.PassedArcs.{part_read, part_marked, part_left, part_done}
use Rattle.daggy_reduction.proofs.block.flag_row.Goals.{then-is_in, else-is_in}
use Rattle.daggy_reduction.proofs.block.flag_row.Goals as goal

pub flag-requires : goal.flag-requires
flag-requires g c =
    let number = g.Ix.IndexType.number in
    let p = c.arcs.invariant.parting in
    omega (
      arith,
      c.requires.flags_fit c.index-arcs-k.result
          (part_read p c.index-arcs-k.result c.requires.inside c.arcs-test.true c.index-arcs-k.is),
      p.flags_kept,
      length-map c.arcs.flags number,
      length-map c.args.flags.now number,
      ap number c.look.ensures.edge,
    )

pub write_arc-requires : goal.write_arc-requires
write_arc-requires g c =
    let p = c.arcs.invariant.parting in omega (arith, p.ends, p.arcs_kept, c.arcs-test.true, c.requires.inside)

pub arcs-preserved : goal.arcs-preserved
arcs-preserved g c =
    let number = g.Ix.IndexType.number in
    let p = c.arcs.invariant.parting in
    let x = c.index-arcs-k.result in
    let here = part_read p x c.requires.inside c.arcs-test.true c.index-arcs-k.is in
    let mark = is_in_row c.args.block.low c.args.block.high c.args.row.now in
    let told : mark x.place ≡ c.is_in.result =
    ap mark (sym (c.index.ensures.value ∙ c.look.ensures.place)) ∙ sym c.is_in.ensures in
    let same = c.look.ensures.same ∙ c.arcs.invariant.same in
    let counted : g.S.EdgeSource.looks c.look.new.source
    ≡ g.S.EdgeSource.looks c.args.source.now + (c.arcs.k + 1 - c.args.segment.begin) =
    omega (arith, c.look.ensures.counted, c.arcs.invariant.counted, c.arcs.auto.k) in
    elim c.if-is_in.branch [
      | then-is_in w ↦
          (let within : number x.edge < length (map number c.arcs.flags) =
          omega (
            arith,
            c.requires.flags_fit x here,
            p.flags_kept,
            length-map c.args.flags.now number,
          ) in
          rw (w.arcs-is, w.end-is) record {
            parting =
                part_marked p x c.requires.inside c.arcs-test.true c.index-arcs-k.is (told ∙ w.if-is_in.true) within
                (c.requires.real x here)
                (ap (map number) w.flags-is ∙ w.flag.ensures.flagged
                ∙ ap (λ z. set (map number c.arcs.flags) (number z) (number z)) c.look.ensures.edge);
            same = same;
            counted = counted;
          })
      | else-is_in w ↦
          rw (w.flags-is, w.end-is) record {
            parting =
                part_left p x c.requires.inside c.arcs-test.true c.index-arcs-k.is (told ∙ w.if-is_in.false)
                (w.arcs-is ∙ w.write_arc.ensures);
            same = same;
            counted = counted;
          }
    ]

pub returns-clause-flagged : goal.returns-clause-flagged
returns-clause-flagged g c =
    (part_done c.arcs.invariant.parting (omega (arith, c.arcs-test.false, c.arcs.auto.k-end, c.requires.ordered))).0

pub returns-clause-left : goal.returns-clause-left
returns-clause-left g c =
    (part_done c.arcs.invariant.parting (omega (arith, c.arcs-test.false, c.arcs.auto.k-end, c.requires.ordered))).1

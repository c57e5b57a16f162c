use Rattle.std.proofs.Common.{◌≡◌, ◌∙◌, String, sym, ◌+◌, ◌<◌, ◌++◌, ◌∷◌, [], Some, Ok, true, length, map, string_bytes, refl, ap, subst, arith, rules}
use Rattle.std.proofs.lemmas.List.{length-append}
use Rattle.std.specs.Result.{is_ok}
use Rattle.csv.specs.Records.{fields_of}
use Rattle.daggy_base.proofs.SlotLists.{vacant_down_more}
use Rattle.std.specs.declared.alloc.Global.{Global}
use Rattle.daggy_base.specs.FromSlots.{vacant_down, edge_of, edges_by}
use Rattle.daggy_base.specs.Graph.{Edge}
use Rattle.daggy_tables.proofs.EdgesRead.{ends_more, edges_more, said_ends}
use Rattle.daggy_tables.proofs.HeaderRead.{edge_header_text}
use Rattle.daggy_tables.proofs.RowsSaid.{starts, all_said, is_text, row_stops, unread_stops, goes_on, of_text, of_no_text, said_of, said_within, occupied_more}
use Rattle.daggy_tables.specs.Rows.{Field, edge_of_row, edge_of_fields, within}
use Rattle.daggy_tables.specs.Reading.{occupied, with_text, EndsBelow}
use Rattle.daggy_tables.specs.Stops.{StopsRow}
use Rattle.daggy_tables.proofs.edges.read_edges.Goals as goal

pub rows_below-requires : goal.rows_below-requires
rows_below-requires g c = edge_header_text

pub rows-init : goal.rows-init
rows-init g c =
    let start = c.in_ok-rows.ensures in
    rw (c.into_iter-item-iterator.ensures.into_iter_gives, c.new-edges.ensures.items) (record {
      going = starts (edge_of_row g.Ix.IndexType.greatest c.args.bound c.args.beyond) c.in_ok-rows.rows.records _ start.0 start.1 start.2;
      few = omega arith;
      full = refl;
      ends = λ e x at. cc at;
    })

pub returns-in-Err-clause-stops : goal.returns-in-Err-clause-stops
returns-in-Err-clause-stops g c =
    unread_stops (edge_of_row g.Ix.IndexType.greatest c.args.bound c.args.beyond) c.rows.item-iterator.records c.next.new.self.records _ _ _ c.rows.invariant.going
    c.next.result c.next.ensures.steps c.in-Some.item c.in-Some.is c.in-Err.unread c.unread_at.result _ c.in-Err.is c.unread_at.ensures
    (ap (λ k. k + 1) (c.len-number.ensures ∙ c.rows.edges.ok.0)) (λ row no_text. of_no_text row _ no_text)

pub returns-in-Err-read_edge-clause-stops : goal.returns-in-Err-read_edge-clause-stops
returns-in-Err-read_edge-clause-stops g c =
    let limit = g.Ix.IndexType.greatest in
    let row = fields_of c.in-Ok.row in
    let most : c.index.result ≡ limit = c.index.ensures.value ∙ c.end-end.ensures.number in
    let count : c.len.result ≡ length c.rows.edges.items = c.len.ensures ∙ c.rows.edges.ok.0 in
    let a = c.rows.item-iterator.records in
    let b = c.next.new.self.records in
    let text = is_text (edge_of_row limit c.args.bound c.args.beyond) a b _ _ _ c.rows.invariant.going c.next.result c.next.ensures.steps c.in-Some.item c.in-Some.is c.in-Ok.row c.in-Ok.is in
    let why = subst (λ l. StopsRow (within l (length c.rows.edges.items) (edge_of_fields c.args.bound c.args.beyond row)) c.in-Err-read_edge.stop) most
    (subst (λ n. StopsRow (within c.index.result n (edge_of_fields c.args.bound c.args.beyond row)) c.in-Err-read_edge.stop) count c.in-Err-read_edge.ensures) in
    row_stops (edge_of_row limit c.args.bound c.args.beyond) a b _ _ _ c.rows.invariant.going c.next.result c.next.ensures.steps c.in-Some.item c.in-Some.is c.in-Ok.row
    c.in-Ok.is c.in-Err-read_edge.stop c.stop_at.result _ (said_of row _ _ text why) c.stop_at.ensures
    (ap (λ k. k + 1) (c.len-number.ensures ∙ c.rows.edges.ok.0))

pub rows-preserved : goal.rows-preserved
rows-preserved g c =
    let limit = g.Ix.IndexType.greatest in
    let number = g.Ix.IndexType.number in
    let row = fields_of c.in-Ok.row in
    let items = c.rows.edges.items in
    let slots = edges_by number items in
    let read = c.in-Ok-read_edge.read in
    let new : _ × _ × String Global = (c.new.result, c.new-in-rows.result, read.2) in
    let edge : Edge (String Global) = edge_of number new in
    let most : c.index.result ≡ limit = c.index.ensures.value ∙ c.end-end.ensures.number in
    let count : c.len.result ≡ length items = c.len.ensures ∙ c.rows.edges.ok.0 in
    let a = c.rows.item-iterator.records in
    let b = c.next.new.self.records in
    let text = is_text (edge_of_row limit c.args.bound c.args.beyond) a b _ _ _ c.rows.invariant.going c.next.result c.next.ensures.steps c.in-Some.item c.in-Some.is c.in-Ok.row c.in-Ok.is in
    let said = subst (λ l. within l (length items) (edge_of_fields c.args.bound c.args.beyond row) ≡ Ok (record { parent = read.0; child = read.1; weight = string_bytes read.2 })) most
    (subst (λ n. within c.index.result n (edge_of_fields c.args.bound c.args.beyond row) ≡ Ok (record { parent = read.0; child = read.1; weight = string_bytes read.2 })) count c.in-Ok-read_edge.ensures) in
    let same : record { parent = read.0; child = read.1; weight = string_bytes read.2 } ≡ with_text edge =
    cc (c.new.ensures.number, c.new-in-rows.ensures.number) in
    let ends = said_ends limit (length items) c.args.bound c.args.beyond row (with_text edge) (said ∙ ap (λ (x : Edge Field). Ok x) same) in
    let good : is_ok c.push.result ≡ true = search rules in
    let pushed : c.push.new.self.items ≡ items ++ Some new ∷ [] = rw good at c.push.ensures.items in
    let more : edges_by number c.push.new.self.items ≡ slots ++ Some edge ∷ [] = ap (edges_by number) pushed ∙ edges_more number items new in
    let longer : length c.push.new.self.items ≡ length items + 1 = ap length pushed ∙ length-append items (Some new ∷ []) in
    let below : length items < limit = said_within limit (length items) _ _ said in
    record {
      going =
          goes_on (edge_of_row limit c.args.bound c.args.beyond) a b _ _ _ c.rows.invariant.going c.next.result c.next.ensures.steps
          c.in-Some.item c.in-Some.is c.in-Ok.row c.in-Ok.is (with_text edge) _ _
          (of_text row _ text ∙ said ∙ ap (λ (x : Edge Field). Ok x) same)
          (ap (λ l. map with_text (occupied l)) more ∙ occupied_more with_text slots edge) longer;
      few = omega arith;
      full = ap vacant_down more ∙ vacant_down_more slots (Some edge) ∙ c.rows.invariant.full;
      ends = subst (EndsBelow c.args.bound) (sym more) (ends_more c.args.bound slots edge c.rows.invariant.ends ends.0 ends.1);
    }

pub returns-clause-said : goal.returns-clause-said
returns-clause-said g c =
    all_said (edge_of_row g.Ix.IndexType.greatest c.args.bound c.args.beyond) c.rows.item-iterator.records c.next.new.self.records _ _ _ c.rows.invariant.going
    c.next.result c.next.ensures.steps c.in-None.is

use Rattle.std.proofs.Common.{◌≡◌, ◌∙◌, ◌+◌, ◌<◌, ◌++◌, ◌∷◌, [], Some, Ok, true, length, map, string_bytes, refl, ap, subst, arith, rules}
use Rattle.std.proofs.lemmas.List.{length-append}
use Rattle.std.specs.Result.{is_ok}
use Rattle.csv.specs.Records.{fields_of}
use Rattle.daggy_base.proofs.SlotLists.{vacant_down_more}
use Rattle.daggy_base.specs.FromSlots.{vacant_down}
use Rattle.daggy_tables.proofs.HeaderRead.{node_header_text}
use Rattle.daggy_tables.proofs.RowsSaid.{starts, all_said, is_text, row_stops, unread_stops, goes_on, of_text, of_no_text, said_of, said_within, occupied_more}
use Rattle.daggy_tables.specs.Rows.{node_of_row, node_of_fields, within}
use Rattle.daggy_tables.specs.Reading.{occupied}
use Rattle.daggy_tables.specs.Stops.{StopsRow}
use Rattle.daggy_tables.proofs.nodes.read_nodes.Goals as goal

pub rows_below-requires : goal.rows_below-requires
rows_below-requires g c = node_header_text

pub rows-init : goal.rows-init
rows-init g c =
    let start = c.in_ok-rows.ensures in
    rw (c.into_iter-item-iterator.ensures.into_iter_gives, c.new-nodes.ensures.items) (record {
      going = starts (node_of_row g.Ix.IndexType.greatest) c.in_ok-rows.rows.records _ start.0 start.1 start.2;
      few = omega arith;
      full = refl;
    })

pub returns-in-Err-clause-stops : goal.returns-in-Err-clause-stops
returns-in-Err-clause-stops g c =
    unread_stops (node_of_row g.Ix.IndexType.greatest) c.rows.item-iterator.records c.next.new.self.records _ _ _ c.rows.invariant.going
    c.next.result c.next.ensures.steps c.in-Some.item c.in-Some.is c.in-Err.unread c.unread_at.result _ c.in-Err.is c.unread_at.ensures
    (ap (λ k. k + 1) (c.len-number.ensures ∙ c.rows.nodes.ok.0)) (λ row no_text. of_no_text row _ no_text)

pub returns-in-Err-read_node-clause-stops : goal.returns-in-Err-read_node-clause-stops
returns-in-Err-read_node-clause-stops g c =
    let limit = g.Ix.IndexType.greatest in
    let row = fields_of c.in-Ok.row in
    let most : c.index.result ≡ limit = c.index.ensures.value ∙ c.end-end.ensures.number in
    let count : c.len.result ≡ length c.rows.nodes.items = c.len.ensures ∙ c.rows.nodes.ok.0 in
    let a = c.rows.item-iterator.records in
    let b = c.next.new.self.records in
    let text = is_text (node_of_row limit) a b _ _ _ c.rows.invariant.going c.next.result c.next.ensures.steps c.in-Some.item c.in-Some.is c.in-Ok.row c.in-Ok.is in
    let why = subst (λ l. StopsRow (within l (length c.rows.nodes.items) (node_of_fields (length c.rows.nodes.items) row)) c.in-Err-read_node.stop) most
    (subst (λ n. StopsRow (within c.index.result n (node_of_fields n row)) c.in-Err-read_node.stop) count c.in-Err-read_node.ensures) in
    row_stops (node_of_row limit) a b _ _ _ c.rows.invariant.going c.next.result c.next.ensures.steps c.in-Some.item c.in-Some.is c.in-Ok.row
    c.in-Ok.is c.in-Err-read_node.stop c.stop_at.result _ (said_of row _ _ text why) c.stop_at.ensures
    (ap (λ k. k + 1) (c.len-number.ensures ∙ c.rows.nodes.ok.0))

pub rows-preserved : goal.rows-preserved
rows-preserved g c =
    let limit = g.Ix.IndexType.greatest in
    let row = fields_of c.in-Ok.row in
    let items = c.rows.nodes.items in
    let weight = c.in-Ok-read_node.weight in
    let most : c.index.result ≡ limit = c.index.ensures.value ∙ c.end-end.ensures.number in
    let count : c.len.result ≡ length items = c.len.ensures ∙ c.rows.nodes.ok.0 in
    let a = c.rows.item-iterator.records in
    let b = c.next.new.self.records in
    let text = is_text (node_of_row limit) a b _ _ _ c.rows.invariant.going c.next.result c.next.ensures.steps c.in-Some.item c.in-Some.is c.in-Ok.row c.in-Ok.is in
    let said = subst (λ l. within l (length items) (node_of_fields (length items) row) ≡ Ok (string_bytes weight)) most
    (subst (λ n. within c.index.result n (node_of_fields n row) ≡ Ok (string_bytes weight)) count c.in-Ok-read_node.ensures) in
    let good : is_ok c.push.result ≡ true = search rules in
    let pushed : c.push.new.self.items ≡ items ++ Some weight ∷ [] = rw good at c.push.ensures.items in
    let longer : length c.push.new.self.items ≡ length items + 1 = ap length pushed ∙ length-append items (Some weight ∷ []) in
    let below : length items < limit = said_within limit (length items) _ _ said in
    record {
      going =
          goes_on (node_of_row limit) a b _ _ _ c.rows.invariant.going c.next.result c.next.ensures.steps c.in-Some.item c.in-Some.is
          c.in-Ok.row c.in-Ok.is (string_bytes weight) _ _ (of_text row _ text ∙ said)
          (ap (λ l. map string_bytes (occupied l)) pushed ∙ occupied_more string_bytes items weight) longer;
      few = omega arith;
      full = ap vacant_down pushed ∙ vacant_down_more items (Some weight) ∙ c.rows.invariant.full;
    }

pub returns-clause-said : goal.returns-clause-said
returns-clause-said g c =
    all_said (node_of_row g.Ix.IndexType.greatest) c.rows.item-iterator.records c.next.new.self.records _ _ _ c.rows.invariant.going
    c.next.result c.next.ensures.steps c.in-None.is

-- The tokens of arrays, and the text of tokens.
use Rattle.std.proofs.Common.{◌≡◌, List, [], ◌∷◌, ◌++◌, map, codes, Some, option_map, option_and_then, refl, sym, ap, ap₂}
use Rattle.std.proofs.Common.{◌∙◌, arith, append_assoc, append-nil}
use Rattle.std.specs.List.{AllZip}
use Rattle.json.specs.Token.{Token, begin_array, end_array, begin_object, end_object, key, string}
use Rattle.json.specs.Lex.{tokens}
use Rattle.json.specs.Print.{print, ArePrintable}
use Rattle.json.specs.Json as json
use Rattle.json.specs.Tree as tree
use Rattle.json.proofs.Printed.Tokens.{tokens-print}
use Rattle.json.proofs.Printed.Trees.{value-json_tokens}
use Rattle.serde_json.specs.Data as kinds
use Rattle.serde_json.specs.Data.{Data, item, array, object, member, no_members, put}
use Rattle.serde_json.specs.Read.{of_json, of_items, max_depth}
use Rattle.serde_json.specs.View.{items_of}
use Rattle.serde_json.specs.Written.{IsInOrder, WritesItems}
use Rattle.serde_json.proofs.Texts.{tokens_from_order, print-outline}
use Rattle.daggy_json.specs.Document.{listed, document_of, document_without_orders}
use Rattle.daggy_json.specs.Streaming.{IsTextOf}
use Rattle.daggy_json.specs.Passing.{AreTokensOf, AreTokensOfA, IsArrayOf}

-- the tokens of each element, one after another
abbrev pub Each : {A : Type 0} → (A → List Token → Type 0) → List A → List Token → Type 0
Each Is [] ts = ts ≡ []
Each Is (x ∷ xs) ts = (first : List Token) × (rest : List Token) × Is x first × Each Is xs rest × (ts ≡ first ++ rest)

pub each_more : {A : Type 0} (Is : A → List Token → Type 0) (xs : List A) (x : A) (ts us : List Token)
    → Each Is xs ts → Is x us → Each Is (xs ++ x ∷ []) (ts ++ us)
each_more Is [] x ts us so_far here =
    (us, [], here, refl, ap (λ l. l ++ us) so_far ∙ sym (append-nil us))
each_more Is (y ∷ ys) x ts us so_far here = (
  so_far.0,
  so_far.1 ++ us,
  so_far.2,
  each_more Is ys x so_far.1 us so_far.3 here,
  ap (λ l. l ++ us) so_far.4 ∙ append_assoc so_far.0 so_far.1 us,
)

pub each_weaker : {A : Type 0} (Is Is' : A → List Token → Type 0) → ((x : A) (us : List Token) → Is x us → Is' x us)
    → (xs : List A) (ts : List Token) → Each Is xs ts → Each Is' xs ts
each_weaker Is Is' weaker [] ts all = all
each_weaker Is Is' weaker (x ∷ xs) ts all =
    (all.0, all.1, weaker x all.0 all.2, each_weaker Is Is' weaker xs all.1 all.3, all.4)

-- the values whose tokens they are
pub each_value : {A : Type 0} (Is : A → Data → Type 0) (xs : List A) (ts : List Token)
    → Each (λ x us. AreTokensOfA (Is x) us) xs ts → (ds : List Data) × AllZip Is xs ds × Each AreTokensOf ds ts
each_value Is [] ts all = ([], tt, all)
each_value Is (x ∷ xs) ts all =
    let rest = each_value Is xs all.1 all.3 in
    (all.2.0 ∷ rest.0, (all.2.1, rest.1), (all.0, all.1, all.2.2, rest.2, all.4))

pub each_of : {A : Type 0} (f : A → Data) (xs : List A) (ts : List Token)
    → Each (λ x us. AreTokensOf (f x) us) xs ts → Each AreTokensOf (map f xs) ts
each_of f [] ts all = all
each_of f (x ∷ xs) ts all = (all.0, all.1, all.2, each_of f xs all.1 all.3, all.4)

items_tokens_of : (ds : List Data) (ts : List Token) → Each AreTokensOf ds ts
    → WritesItems (items_of ds) [] (ts ++ end_array ∷ [])
items_tokens_of [] ts all = (json.no_items, ap (λ l. l ++ end_array ∷ []) all, refl, omega arith, refl)
items_tokens_of (d ∷ ds) ts all =
    let w = all.2 in
    let rest = items_tokens_of ds all.1 all.3 in (
      json.item w.0 rest.0,
      ap (λ l. l ++ end_array ∷ []) all.4 ∙ (append_assoc all.0 all.1 (end_array ∷ [])
          ∙ ap₂ (λ k l. k ++ l) w.1 rest.1),
      ap (option_and_then (λ e. option_map (item e) (of_items rest.0))) w.2 ∙ ap (option_map (item d)) rest.2,
      omega (arith, w.3, rest.3),
      ap₂ json.item w.4 rest.4,
    )

-- with its brackets
pub array_tokens_of : (ds : List Data) (ts : List Token) → Each AreTokensOf ds ts
    → AreTokensOf (listed ds) ((begin_array ∷ []) ++ (ts ++ end_array ∷ []))
array_tokens_of ds ts all =
    let w = items_tokens_of ds ts all in (
      json.array w.0,
      ap (λ l. begin_array ∷ l) w.1,
      ap (option_map array) w.2,
      omega (arith, w.3),
      ap json.array w.4,
    )

pub array_of : {A : Type 0} (f : A → Data) (xs : List A) (ts : List Token)
    → Each (λ x us. AreTokensOf (f x) us) xs ts
    → AreTokensOf (listed (map f xs)) ((begin_array ∷ []) ++ (ts ++ end_array ∷ []))
array_of f xs ts all = array_tokens_of (map f xs) ts (each_of f xs ts all)

pub array_of_values : {A : Type 0} (Is : A → Data → Type 0) (xs : List A) (ts : List Token)
    → Each (λ x us. AreTokensOfA (Is x) us) xs ts
    → AreTokensOfA (IsArrayOf Is xs) ((begin_array ∷ []) ++ (ts ++ end_array ∷ []))
array_of_values Is xs ts all =
    let v = each_value Is xs ts all in
    (listed v.0, (v.0, v.1, refl), array_tokens_of v.0 ts v.2)

-- ---- the text

pub text_of_tokens : (d : Data) (ts : List Token) → AreTokensOf d ts → ArePrintable ts → IsTextOf d (print ts)
text_of_tokens d ts w printable =
    let back = tokens-print ts printable in
    let order : IsInOrder (print ts) d = (w.0, back ∙ w.1, w.4) in
    let compact : print ts ≡ print (tokens (print ts)) = ap print (sym back) in
    record {
      exact = λ whole. compact ∙ (ap print (tokens_from_order (print ts) d order whole) ∙ print-outline d);
      compact = compact;
      order = order;
      reads_back = λ shallow.
          ap (λ r. option_and_then of_json (option_and_then (λ p. json.if_last p.0 p.1) r))
          (ap (json.value max_depth) (back ∙ (w.1 ∙ sym (append-nil (tree.json_tokens w.0))))
          ∙ value-json_tokens w.0 max_depth [] (omega (arith, w.3))) ∙ w.2;
    }

-- ---- the document

module _ (entries holes weights : List Data) {es hs ws : List Token} (e : AreTokensOf (listed entries) es)
    (h : AreTokensOf (listed holes) hs) (w : AreTokensOf (listed weights) ws) where
  pub tokens_without_orders : AreTokensOf (document_without_orders entries holes weights)
      (begin_object ∷ key (codes "edge_property") ∷ string (codes "directed") ∷ key (codes "edges") ∷ (es
      ++ (key (codes "node_holes") ∷ (hs ++ (key (codes "nodes") ∷ (ws ++ end_object ∷ []))))))
  tokens_without_orders = (
    json.object (json.member (codes "edge_property") (json.string (codes "directed"))
        (json.member (codes "edges") e.0 (json.member (codes "node_holes") h.0
        (json.member (codes "nodes") w.0 json.no_members)))),
    (λ i. begin_object ∷ key (codes "edge_property") ∷ string (codes "directed") ∷ key (codes "edges") ∷ (e.1 i
        ++ (key (codes "node_holes") ∷ (h.1 i ++ (key (codes "nodes") ∷ (w.1 i ++ end_object ∷ [])))))),
    (λ i. option_map object (option_and_then (λ d1. option_and_then (λ d2. option_and_then (λ d3.
        Some (put (codes "nodes") d3 (put (codes "node_holes") d2
        (put (codes "edges") d1 (member (codes "edge_property") (kinds.string (codes "directed")) no_members)))))
        (w.2 i)) (h.2 i)) (e.2 i))),
    omega (arith, e.3, h.3, w.3),
    (λ i. json.object (json.member (codes "edge_property") (json.string (codes "directed"))
        (json.member (codes "edges") (e.4 i) (json.member (codes "node_holes") (h.4 i)
        (json.member (codes "nodes") (w.4 i) json.no_members))))),
  )

module _ (entries holes weights rows : List Data) {es hs ws os : List Token} (e : AreTokensOf (listed entries) es)
    (h : AreTokensOf (listed holes) hs) (w : AreTokensOf (listed weights) ws) (o : AreTokensOf (listed rows) os) where
  pub document_tokens_of : AreTokensOf (document_of entries holes weights rows)
      (begin_object ∷ key (codes "edge_property") ∷ string (codes "directed") ∷ key (codes "edges") ∷ (es
      ++ (key (codes "node_holes") ∷ (hs ++ (key (codes "nodes") ∷ (ws ++ (key (codes "orders") ∷ (os
      ++ end_object ∷ []))))))))
  document_tokens_of = (
    json.object (json.member (codes "edge_property") (json.string (codes "directed"))
        (json.member (codes "edges") e.0 (json.member (codes "node_holes") h.0
        (json.member (codes "nodes") w.0 (json.member (codes "orders") o.0 json.no_members))))),
    (λ i. begin_object ∷ key (codes "edge_property") ∷ string (codes "directed") ∷ key (codes "edges") ∷ (e.1 i
        ++ (key (codes "node_holes") ∷ (h.1 i ++ (key (codes "nodes") ∷ (w.1 i ++ (key (codes "orders") ∷ (o.1 i
        ++ end_object ∷ [])))))))),
    (λ i. option_map object (option_and_then (λ d1. option_and_then (λ d2. option_and_then (λ d3.
        option_and_then (λ d4. Some (put (codes "orders") d4 (put (codes "nodes") d3 (put (codes "node_holes") d2
        (put (codes "edges") d1 (member (codes "edge_property") (kinds.string (codes "directed")) no_members))))))
        (o.2 i)) (w.2 i)) (h.2 i)) (e.2 i))),
    omega (arith, e.3, h.3, w.3, o.3),
    (λ i. json.object (json.member (codes "edge_property") (json.string (codes "directed"))
        (json.member (codes "edges") (e.4 i) (json.member (codes "node_holes") (h.4 i)
        (json.member (codes "nodes") (w.4 i) (json.member (codes "orders") (o.4 i) json.no_members)))))),
  )

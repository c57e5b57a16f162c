-- Tokens written one after another.
use Rattle.std.proofs.Common.{◌≡◌, ℕ, Option, List, [], ◌∷◌, ◌++◌, refl, sym, ap, subst, ◌∙◌, append_assoc}
use Rattle.std.proofs.Common.{Bool, true, false, cond, append-nil}
use Rattle.json.specs.Token.{Token}
use Rattle.json.specs.Print.{print, separator, token_text, begins, ends, IsPrintable}
use Rattle.json.proofs.Printed.Tokens.{print_from_push, ends_push, ArePrintable-push}
use Rattle.daggy_json.specs.Passing.{SendsBytes, HasText, StaysOn, Holds, Puts, Stands, Passes}
use Rattle.daggy_json.specs.declared.text.TextWriter.{TextWriter}
use Rattle.daggy_json.proofs.PassedBytes.{text_gathered, text_sent, sends_failed}

-- the comma before a token that begins a value, and before another
pub separator_begins : (after : Bool) (t : Token) → begins t ≡ true → cond after (44 ∷ []) [] ≡ separator after t
separator_begins true t e = ap (λ b. cond b (44 ∷ []) []) (sym e)
separator_begins false t e = refl

pub separator_ends : (after : Bool) (t : Token) → begins t ≡ false → [] ≡ separator after t
separator_ends true t e = ap (λ b. cond b (44 ∷ []) []) (sym e)
separator_ends false t e = refl

pub stays_then : {W : Type 0} {a b c : TextWriter W} → StaysOn a b → StaysOn b c → StaysOn a c
stays_then p q = record {
  same_reference = q.same_reference ∙ p.same_reference;
  failed = λ h. q.failed (p.failed h);
}

module _ {W : Type 0} {contents : W → Option (List ℕ)} where
  pub puts_none : (a : TextWriter W) → Puts contents a a []
  puts_none a = record {
    stays = record { same_reference = refl; failed = λ h. h };
    place = refl;
    holds = λ start text h. subst (λ l. Holds contents start l a) (sym (append-nil text)) h;
  }

  pub puts_then : {a b c : TextWriter W} {xs ys : List ℕ}
      → Puts contents a b xs → Puts contents b c ys → Puts contents a c (xs ++ ys)
  puts_then {a} {b} {c} {xs} {ys} p q = record {
    stays = stays_then p.stays q.stays;
    place = q.place ∙ p.place;
    holds = λ start text h.
        subst (λ l. Holds contents start l c) (append_assoc text xs ys) (q.holds start (text ++ xs) (p.holds start text h));
  }

  -- the block was sent
  pub flush_puts : {a b : TextWriter W} → StaysOn a b → b.after_value ≡ a.after_value → b.block ≡ []
      → SendsBytes a.fault b.fault (contents a.writer.now) (contents b.writer.now) a.block
      → Puts contents a b []
  flush_puts {a} {b} stays place nothing sends = record {
    stays = stays;
    place = place;
    holds = λ start text h.
        subst (λ l. Holds contents start l b) (sym (append-nil text))
        (subst (λ l. HasText start text b.fault (contents b.writer.now) l) (sym nothing)
        (text_sent start text _ _ _ _ _ sends h));
  }

  -- bytes came into the block
  pub block_puts : {a b : TextWriter W} (bytes : List ℕ) → b.writer ≡ a.writer → b.after_value ≡ a.after_value
      → b.fault ≡ a.fault → b.block ≡ a.block ++ bytes → Puts contents a b bytes
  block_puts {a} {b} bytes same place fault more = record {
    stays = record { same_reference = ap (λ w. w.ghost_name) same; failed = λ h. fault ∙ h };
    place = place;
    holds = λ start text h.
        subst (λ f. HasText start (text ++ bytes) f (contents b.writer.now) b.block) (sym fault)
        (subst (λ w. HasText start (text ++ bytes) a.fault (contents w.now) b.block) (sym same)
        (subst (λ l. HasText start (text ++ bytes) a.fault (contents a.writer.now) l) (sym more)
        (text_gathered start text a.fault (contents a.writer.now) a.block bytes h)));
  }

  -- bytes were sent over an empty block
  pub send_puts : {a b : TextWriter W} (bytes : List ℕ) → b.writer.ghost_name ≡ a.writer.ghost_name
      → b.after_value ≡ a.after_value → a.block ≡ [] → b.block ≡ []
      → SendsBytes a.fault b.fault (contents a.writer.now) (contents b.writer.now) bytes → Puts contents a b bytes
  send_puts {a} {b} bytes same place nothing nothing' sends = record {
    stays = record { same_reference = same; failed = sends_failed _ _ _ _ bytes sends };
    place = place;
    holds = λ start text h.
        let gathered = text_gathered start text a.fault (contents a.writer.now) a.block bytes h in
        subst (λ l. HasText start (text ++ bytes) b.fault (contents b.writer.now) l) (sym nothing')
        (text_sent start (text ++ bytes) _ _ _ _ bytes sends
        (subst (λ l. HasText start (text ++ bytes) a.fault (contents a.writer.now) (l ++ bytes)) nothing gathered));
  }

  pub passes_then : {a b c : TextWriter W} {ts us : List Token}
      → Passes contents a b ts → Passes contents b c us → Passes contents a c (ts ++ us)
  passes_then {a} {b} {c} {ts} {us} p q = record {
    stays = stays_then p.stays q.stays;
    stands = λ start vs h.
        subst (λ l. Stands contents start l c) (append_assoc vs ts us) (q.stands start (vs ++ ts) (p.stands start vs h));
  }

  pub passes_none : (a : TextWriter W) → Passes contents a a []
  passes_none a = record {
    stays = record { same_reference = refl; failed = λ h. h };
    stands = λ start vs h. subst (λ l. Stands contents start l a) (sym (append-nil vs)) h;
  }

  -- a comma, if one is due, and then the text of the token
  pub token_passes : {a b d : TextWriter W} {after : Bool} {comma : List ℕ} (t : Token) → IsPrintable t
      → comma ≡ separator a.after_value t → after ≡ ends t → Puts contents a b comma
      → Puts contents (record { writer = b.writer; block = b.block; after_value = after; fault = b.fault }) d (token_text t)
      → Passes contents a d (t ∷ [])
  token_passes {a} {b} {d} {after} {comma} t printable due after_is p q = record {
    stays = record {
      same_reference = q.stays.same_reference ∙ p.stays.same_reference;
      failed = λ h. q.stays.failed (p.stays.failed h);
    };
    stands = λ start us h. record {
      printable = ArePrintable-push us t h.printable printable;
      place = q.place ∙ (after_is ∙ sym (ends_push false us t));
      holds = subst (λ l. Holds contents start l d)
          (append_assoc (print us) comma (token_text t)
          ∙ (ap (λ l. print us ++ (l ++ token_text t)) (due ∙ ap (λ k. separator k t) h.place)
          ∙ sym (print_from_push false us t)))
          (q.holds start (print us ++ comma) (p.holds start (print us) h.holds));
    };
  }

  -- the same, put into the block at once
  pub token_passes_at_once : {a b : TextWriter W} {block : List ℕ} {after : Bool} (t : Token) → IsPrintable t
      → begins t ≡ true → after ≡ ends t → Puts contents a b []
      → block ≡ b.block ++ (cond b.after_value (44 ∷ []) [] ++ token_text t)
      → Passes contents a (record { writer = b.writer; block = block; after_value = after; fault = b.fault }) (t ∷ [])
  token_passes_at_once {a} {b} {block} {after} t printable first after_is p more =
      let PutsTo = Puts contents a (record { writer = b.writer; block = block; after_value = b.after_value; fault = b.fault }) in
      let due = ap (λ k. cond k (44 ∷ []) []) p.place ∙ separator_begins a.after_value t first in
      let q = subst (λ l. PutsTo (l ++ token_text t)) due (puts_then p (block_puts _ refl refl refl more)) in
      record {
        stays = record { same_reference = q.stays.same_reference; failed = q.stays.failed };
        stands = λ start us h. record {
          printable = ArePrintable-push us t h.printable printable;
          place = after_is ∙ sym (ends_push false us t);
          holds = subst (λ l. HasText start l b.fault (contents b.writer.now) block)
              (ap (λ k. print us ++ (separator k t ++ token_text t)) h.place ∙ sym (print_from_push false us t))
              (q.holds start (print us) h.holds);
        };
      }

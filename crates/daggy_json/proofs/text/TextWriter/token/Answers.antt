use Rattle.std.proofs.Common.{[], refl, sym, subst, ◌∙◌}
use Rattle.json.specs.Print.{separator}
use Rattle.json.specs.Reads.{token_of}
use Rattle.daggy_json.specs.Passing.{Puts}
use Rattle.daggy_json.proofs.PassedTokens.{separator_begins, separator_ends, puts_none, token_passes}
use Rattle.daggy_json.proofs.text.TextWriter.token.Goals as goal
use Rattle.daggy_json.proofs.text.TextWriter.token.Goals.{then-begins, else-begins}

pub returns : goal.returns
returns g c =
    let t = token_of c.args.token in
    let before = c.args.self.now in
    let PutsTo = Puts g.W.Write.contents before in
    let comma : PutsTo c.if-begins.self (separator before.after_value t) =
    elim c.if-begins.branch [
      | then-begins w ↦
          subst (λ l. PutsTo c.if-begins.self l) (separator_begins before.after_value t (sym c.begins.ensures ∙ w.if-begins.true))
          (subst (λ s. PutsTo s _) (sym w.self-is) w.put_comma.ensures)
      | else-begins w ↦
          subst (λ l. PutsTo c.if-begins.self l) (separator_ends before.after_value t (sym c.begins.ensures ∙ w.if-begins.false))
          (subst (λ s. PutsTo s []) (sym w.self-is) (puts_none before))
    ] in
    token_passes t c.requires refl c.ends-self.ensures comma c.put_token.ensures

-- What has been served so far, and how it grows.
use Rattle.std.proofs.Common.{◌≡◌, ℕ, zero, suc, ◌<◌, ◌==◌, Bool, true, false, List, [], ◌∷◌, ◌++◌, length, take, None}
use Rattle.std.proofs.Common.{Result, Ok, Err, nat_lt, codes, refl, sym, ap, subst, ◌∙◌, inl, inr, append_assoc}
use Rattle.std.proofs.Common.{append-nil, arith, ℤ}
use Rattle.std.proofs.lemmas.List.{take_all, length-take}
use Rattle.std.proofs.lemmas.Bool.{cond-true, cases_lt, lt-ltb}
use Rattle.std.specs.List.{flat_map, AllByRecursion}
use Rattle.std.specs.Option.{MatchOption}
use Rattle.std.specs.Result.{OnOk}
use Rattle.daggy.specs.Graph.{Graph, empty}
use Rattle.daggy_base.specs.declared.kind.Kind.{Kind}
use Rattle.dagbench_lines.specs.Cutting.{Lacks, newline, lines_of, ended_lines_of, words_of}
use Rattle.dagbench_lines.specs.Commands.{asked_in, asked_by_words}
use Rattle.dagbench_engine.specs.Transcripts.{IsAnswered, IsAnswer, IsTranscript}
use Rattle.dagbench_engine.specs.Plans.{IsTrailer}
use Rattle.dagbench_engine.specs.Serving.{Serves}
use Rattle.dagbench_engine.specs.Progress.{IsServed, IsDone, GoesOn, ended}
use Rattle.dagbench_engine.proofs.AnswersAtOnce.{AnswersLine}
use Rattle.dagbench_lines.proofs.Cuts.{cut_at-first, cut_at-last, ended_at-first, ended_at-none}

-- whole lines, and what stands behind them
joined : (line lines front : List ℕ) → (ended line ++ lines) ++ front ≡ line ++ newline ∷ (lines ++ front)
joined line lines front = append_assoc (ended line) lines front ∙ append_assoc line (newline ∷ []) (lines ++ front)

lines_behind : (lines : List (List ℕ)) (front : List ℕ)
    → AllByRecursion (Lacks newline) lines → lines_of (flat_map ended lines ++ front) ≡ lines ++ lines_of front
lines_behind [] front lack = refl
lines_behind (line ∷ lines) front lack =
    ap lines_of (joined line (flat_map ended lines) front)
    ∙ (cut_at-first newline line _ lack.0 ∙ ap (λ ls. line ∷ ls) (lines_behind lines front lack.1))

ended_behind : (lines : List (List ℕ)) (front : List ℕ) → AllByRecursion (Lacks newline) lines
    → ended_lines_of (flat_map ended lines ++ front) ≡ lines ++ ended_lines_of front
ended_behind [] front lack = refl
ended_behind (line ∷ lines) front lack =
    ap ended_lines_of (joined line (flat_map ended lines) front)
    ∙ (ended_at-first newline line _ lack.0 ∙ ap (λ ls. line ∷ ls) (ended_behind lines front lack.1))

-- a line with its answer, which leads from one graph to the next
record AnsweredLine (kind : Kind) (old new : Graph ℤ ℤ) : Type 0 where
  line : List ℕ
  answer : List ℕ
  is : IsAnswer kind old line answer new

-- one more answer
one_more : (kind : Kind) (lines : List (List ℕ)) (text : List ℕ) (old mid new : Graph ℤ ℤ)
    → IsTranscript kind old lines text mid → (last : AnsweredLine kind mid new)
    → IsTranscript kind old (lines ++ last.line ∷ []) (text ++ (last.answer ++ newline ∷ [])) new
one_more kind [] text old mid new told last = (
  last.answer,
  [],
  new,
  subst (λ g. IsAnswer kind g last.line last.answer new) told.1 last.is,
  ap (λ t. t ++ (last.answer ++ newline ∷ [])) told.0 ∙ sym (append-nil (last.answer ++ newline ∷ [])),
  (refl, refl),
)
one_more kind (first ∷ lines) text old mid new told last = (
  told.0,
  told.1 ++ (last.answer ++ newline ∷ []),
  told.2,
  told.3,
  ap (λ t. t ++ (last.answer ++ newline ∷ [])) told.4
      ∙ append_assoc (told.0 ++ newline ∷ []) told.1 (last.answer ++ newline ∷ []),
  one_more kind lines told.1 told.2 mid new told.5 last,
)

all_and_one : (lines : List (List ℕ)) (line : List ℕ)
    → AllByRecursion (Lacks newline) lines → Lacks newline line → AllByRecursion (Lacks newline) (lines ++ line ∷ [])
all_and_one [] line lack one = (one, tt)
all_and_one (first ∷ lines) line lack one = (lack.0, all_and_one lines line lack.1 one)

ended_and_one : (lines : List (List ℕ)) (line : List ℕ)
    → flat_map ended (lines ++ line ∷ []) ≡ flat_map ended lines ++ ended line
ended_and_one [] line = append-nil (ended line)
ended_and_one (first ∷ lines) line =
    ap (λ t. ended first ++ t) (ended_and_one lines line)
    ∙ sym (append_assoc (ended first) (flat_map ended lines) (ended line))

both_lack : (xs ys : List ℕ) → Lacks newline xs → Lacks newline ys → Lacks newline (xs ++ ys)
both_lack [] ys first second = second
both_lack (x ∷ xs) ys first second = (first.0, both_lack xs ys first.1 second)

take_in : (n : ℕ) (xs ys : List ℕ) → take n (take n xs ++ ys) ≡ take n (xs ++ ys)
take_in zero xs ys = refl
take_in (suc n) [] ys = refl
take_in (suc n) (x ∷ xs) ys = ap (λ t. x ∷ t) (take_in n xs ys)

nothing_kept : (n : ℕ) (xs : List ℕ) → [] ≡ take (suc n) xs → xs ≡ []
nothing_kept n [] is = refl
nothing_kept n (x ∷ xs) is = absurd (cc)

something_kept : (n : ℕ) (xs : List ℕ) → 0 < length (take n xs) → 0 < length xs
something_kept n xs some = omega (arith, length-take n xs)

-- a line that is too long asks nothing
says_none : (line : List ℕ) → 4096 < length line → asked_in line ≡ None
unfolding asked_in
says_none line long =
    cond-true (nat_lt 4096 (length line)) None (asked_by_words (words_of line)) (lt-ltb 4096 (length line) long)

-- what is kept of a line tells what the line asks
kept_says : (line : List ℕ) → asked_in (take 4097 line) ≡ asked_in line
kept_says line =
    elim (cases_lt 4096 (length line)) [
      | inl long ↦ says_none (take 4097 line) (omega (arith, length-take 4097 line)) ∙ sym (says_none line long)
      | inr short ↦ ap asked_in (take_all 4097 line (omega arith))
    ]

-- the answer depends on what the line asks
says_same : (kind : Kind) (old new : Graph ℤ ℤ) (a b text : List ℕ)
    → asked_in a ≡ asked_in b → IsAnswer kind old a text new → IsAnswer kind old b text new
says_same kind old new a b text same is =
    subst
    (λ o. MatchOption o ((text ≡ codes "bad line") × (new ≡ old)) (λ asked. IsAnswered kind old asked text new))
    same is

-- a line without its newline
last_line : (front : List ℕ) → 0 < length front → Lacks newline front → lines_of front ≡ front ∷ []
last_line [] some lacks = absurd (omega arith)
last_line (b ∷ front) some lacks = cut_at-last newline b front lacks

pub starts : (kind : Kind) (given written : List ℕ) (graph : Graph ℤ ℤ) (kept : List ℕ)
    → graph ≡ empty → kept ≡ [] → IsServed kind given given written written graph kept
starts kind given written graph kept is_empty is_nil =
    record {
      lines = [];
      front = [];
      text = [];
      given_is = sym (append-nil given);
      written_is = sym (append-nil written);
      answers = (refl, is_empty);
      whole = tt;
      unended = tt;
      kept_is = is_nil;
    }

module _ (kind : Kind) (given_old given written_old written : List ℕ) (graph : Graph ℤ ℤ) (kept : List ℕ)
    (so_far : IsServed kind given_old given written_old written graph kept) where
  s : IsServed kind given_old given written_old written graph kept
  s = so_far

  pub keeps_rest : (rest now_kept : List ℕ) → Lacks newline rest → now_kept ≡ take 4097 (kept ++ rest)
      → IsServed kind given_old (given ++ rest) written_old written graph now_kept
  keeps_rest rest now_kept lacks is =
      record {
        lines = s.lines;
        front = s.front ++ rest;
        text = s.text;
        given_is =
            ap (λ t. t ++ rest) s.given_is
            ∙ (append_assoc given_old (flat_map ended s.lines ++ s.front) rest
            ∙ ap (λ t. given_old ++ t) (append_assoc (flat_map ended s.lines) s.front rest));
        written_is = s.written_is;
        answers = s.answers;
        whole = s.whole;
        unended = both_lack s.front rest s.unended lacks;
        kept_is = is ∙ (ap (λ k. take 4097 (k ++ rest)) s.kept_is ∙ take_in 4097 s.front rest);
      }

  pub ends_line : (rest answered : List ℕ) (new : Graph ℤ ℤ) (now : List ℕ)
      → Lacks newline rest → asked_in answered ≡ asked_in (take 4097 (kept ++ rest))
      → AnswersLine kind answered graph new written now
      → IsServed kind given_old (given ++ (rest ++ newline ∷ [])) written_old now new []
  ends_line rest answered new now lacks says answer =
      let line = s.front ++ rest in
      let same : asked_in answered ≡ asked_in line =
      says ∙ (ap asked_in (ap (λ k. take 4097 (k ++ rest)) s.kept_is ∙ take_in 4097 s.front rest) ∙ kept_says line) in
      record {
        lines = s.lines ++ line ∷ [];
        front = [];
        text = s.text ++ (answer.0 ++ newline ∷ []);
        given_is = ap (λ t. t ++ (rest ++ newline ∷ [])) s.given_is
            ∙ (append_assoc given_old (flat_map ended s.lines ++ s.front) (rest ++ newline ∷ [])
            ∙ ap (λ t. given_old ++ t) (append_assoc (flat_map ended s.lines) s.front (rest ++ newline ∷ [])
            ∙ (ap (λ t. flat_map ended s.lines ++ t) (sym (append_assoc s.front rest (newline ∷ [])))
            ∙ (sym (ended_and_one s.lines line) ∙ sym (append-nil (flat_map ended (s.lines ++ line ∷ [])))))));
        written_is =
            answer.2
            ∙ (ap (λ t. t ++ (answer.0 ++ newline ∷ [])) s.written_is
            ∙ append_assoc written_old s.text (answer.0 ++ newline ∷ []));
        answers =
            one_more kind s.lines s.text empty graph new s.answers (record {
              line = line;
              answer = answer.0;
              is = says_same kind graph new answered line answer.0 same answer.1;
            });
        whole = all_and_one s.lines line s.whole (both_lack s.front rest s.unended lacks);
        unended = tt;
        kept_is = refl;
      }

  -- all lines are answered if nothing is kept
  pub ends : kept ≡ [] → IsDone kind given_old given written_old written graph
  ends is_nil =
      let none : s.front ≡ [] = nothing_kept 4096 s.front (sym is_nil ∙ s.kept_is) in
      let lines : lines_of (flat_map ended s.lines ++ s.front) ≡ s.lines =
      lines_behind s.lines s.front s.whole ∙ (ap (λ f. s.lines ++ lines_of f) none ∙ append-nil s.lines) in
      record {
        input = flat_map ended s.lines ++ s.front;
        text = s.text;
        given_is = s.given_is;
        written_is = s.written_is;
        answers = subst (λ ls. IsTranscript kind empty ls s.text graph) (sym lines) s.answers;
      }

  -- and otherwise if the last one is answered too
  pub ends_unended : (new : Graph ℤ ℤ) (now : List ℕ)
      → 0 < length kept → AnswersLine kind kept graph new written now
      → IsDone kind given_old given written_old now new
  ends_unended new now some answer =
      let last : lines_of s.front ≡ s.front ∷ [] =
      last_line s.front (something_kept 4097 s.front (subst (λ k. 0 < length k) s.kept_is some)) s.unended in
      let lines : lines_of (flat_map ended s.lines ++ s.front) ≡ s.lines ++ s.front ∷ [] =
      lines_behind s.lines s.front s.whole ∙ ap (λ ls. s.lines ++ ls) last in
      let same : asked_in kept ≡ asked_in s.front = ap asked_in s.kept_is ∙ kept_says s.front in
      record {
        input = flat_map ended s.lines ++ s.front;
        text = s.text ++ (answer.0 ++ newline ∷ []);
        given_is = s.given_is;
        written_is =
            answer.2
            ∙ (ap (λ t. t ++ (answer.0 ++ newline ∷ [])) s.written_is
            ∙ append_assoc written_old s.text (answer.0 ++ newline ∷ []));
        answers = subst (λ ls. IsTranscript kind empty ls (s.text ++ (answer.0 ++ newline ∷ [])) new) (sym lines)
            (one_more kind s.lines s.text empty graph new s.answers (record {
              line = s.front;
              answer = answer.0;
              is = says_same kind graph new kept s.front answer.0 same answer.1;
            }));
      }

  -- where the source fails, what ended is answered
  pub fails : (taken : List ℕ) → taken ≡ written → Serves kind false ended_lines_of given_old given written_old taken
  fails taken is =
      let lines : ended_lines_of (flat_map ended s.lines ++ s.front) ≡ s.lines =
      ended_behind s.lines s.front s.whole
      ∙ (ap (λ ls. s.lines ++ ls) (ended_at-none newline s.front s.unended) ∙ append-nil s.lines) in
      record {
        input = flat_map ended s.lines ++ s.front;
        output = s.text;
        graph = graph;
        trailer = [];
        given = s.given_is;
        taken = is ∙ s.written_is ∙ ap (λ t. written_old ++ t) (sym (append-nil s.text));
        answers = subst (λ ls. IsTranscript kind empty ls s.text graph) (sym lines) s.answers;
        is_trailer = refl;
      }

-- what is written behind the answers
closed : {kind : Kind} {plans : Bool} {given_old given written_old written : List ℕ} (trailer : List ℕ) {taken : List ℕ}
    {graph : Graph ℤ ℤ}
    → IsDone kind given_old given written_old written graph
    → IsTrailer plans graph trailer → taken ≡ written ++ trailer
    → Serves kind plans lines_of given_old given written_old taken
closed {kind} {plans} {given_old} {given} {written_old} trailer {taken} {graph} done is_trailer is =
    record {
      input = done.input;
      output = done.text;
      graph = graph;
      trailer = trailer;
      given = done.given_is;
      taken = is ∙ ap (λ t. t ++ trailer) done.written_is ∙ append_assoc written_old done.text trailer;
      answers = done.answers;
      is_trailer = is_trailer;
    }

-- the test of a length
pub nothing_there : (xs : List ℕ) → true ≡ (length xs == 0) → xs ≡ []
nothing_there [] is = refl
nothing_there (x ∷ xs) is = absurd (grind arith)

pub something_there : (xs : List ℕ) → false ≡ (length xs == 0) → 0 < length xs
something_there [] is = absurd (grind arith)
something_there (x ∷ xs) is = omega arith

-- a line that stands in a block whole, and one that began in an earlier block
pub at_once : {A E : Type 0} (kind : Kind) (r : Result A E) (rest written now : List ℕ) (graph new : Graph ℤ ℤ)
    {kept : List ℕ}
    → kept ≡ []
    → OnOk r (AnswersLine kind rest graph new written now)
    → OnOk r (Lacks newline rest → GoesOn kind (rest ++ newline ∷ []) written now graph new kept kept)
at_once kind (Err e) rest written now graph new none answer = tt
at_once kind (Ok x) rest written now graph new {kept} none answer = λ lacks given_old given written_old so_far.
    subst (IsServed kind given_old (given ++ (rest ++ newline ∷ [])) written_old now new) (sym none)
    (ends_line kind given_old given written_old written graph kept so_far rest rest new now lacks
    (sym (kept_says rest) ∙ ap (λ k. asked_in (take 4097 (k ++ rest))) (sym none)) answer)

pub at_last : {kind : Kind} (rest : List ℕ) {answered written now : List ℕ} {graph new : Graph ℤ ℤ}
    {kept kept_new : List ℕ}
    → answered ≡ take 4097 (kept ++ rest) → kept_new ≡ []
    → AnswersLine kind answered graph new written now → Lacks newline rest
    → GoesOn kind (rest ++ newline ∷ []) written now graph new kept kept_new
at_last {kind} rest {answered} {written} {now} {graph} {new} {kept} is none answer lacks
    given_old given written_old so_far =
    subst (IsServed kind given_old (given ++ (rest ++ newline ∷ [])) written_old now new) (sym none)
    (ends_line kind given_old given written_old written graph kept so_far rest answered new now lacks
    (ap asked_in is) answer)

-- of a block a part has been passed
abbrev pub Passed : (kind : Kind) (block rest written_before written : List ℕ) (graph_before graph : Graph ℤ ℤ)
    (kept_before kept : List ℕ)
    → Type 0
Passed kind block rest written_before written graph_before graph kept_before kept =
    (given_old given written_old : List ℕ)
    → IsServed kind given_old given written_old written_before graph_before kept_before
    → (passed : List ℕ) × (block ≡ passed ++ rest)
    × IsServed kind given_old (given ++ passed) written_old written graph kept

pub line_passed : {kind : Kind} {block rest : List ℕ} (line : List ℕ) {behind written_before written now : List ℕ}
    {graph_before graph new : Graph ℤ ℤ} {kept_before kept kept_new : List ℕ}
    → Passed kind block rest written_before written graph_before graph kept_before kept
    → rest ≡ line ++ newline ∷ behind
    → GoesOn kind (line ++ newline ∷ []) written now graph new kept kept_new
    → Passed kind block behind written_before now graph_before new kept_before kept_new
line_passed {kind} {block} {rest} line {behind} {written_before} {written} {now} {graph_before} {graph} {new}
    {kept_before} {kept} {kept_new}
    before is step given_old given written_old so_far =
    let p = before given_old given written_old so_far in (
      p.0 ++ (line ++ newline ∷ []),
      p.1
          ∙ (ap (λ r. p.0 ++ r) (is ∙ sym (append_assoc line (newline ∷ []) behind))
          ∙ sym (append_assoc p.0 (line ++ newline ∷ []) behind)),
      subst (λ g. IsServed kind given_old g written_old now new kept_new)
          (append_assoc given p.0 (line ++ newline ∷ [])) (step given_old (given ++ p.0) written_old p.2),
    )

pub block_passed : {kind : Kind} {block rest written_before written : List ℕ} {graph_before graph : Graph ℤ ℤ}
    {kept_before kept kept_new : List ℕ}
    → Passed kind block rest written_before written graph_before graph kept_before kept → Lacks newline rest
    → kept_new ≡ take 4097 (kept ++ rest)
    → GoesOn kind block written_before written graph_before graph kept_before kept_new
block_passed {kind} {block} {rest} {written_before} {written} {graph_before} {graph} {kept_before} {kept}
    {kept_new} before lacks is
    given_old given written_old so_far =
    let p = before given_old given written_old so_far in
    subst (λ g. IsServed kind given_old g written_old written graph kept_new)
    (append_assoc given p.0 rest ∙ ap (λ b. given ++ b) (sym p.1))
    (keeps_rest kind given_old (given ++ p.0) written_old written graph kept p.2 rest kept_new lacks is)

-- the last line, where it has ended, and where it has not
pub last_ended : (kind : Kind) (written : List ℕ) (graph : Graph ℤ ℤ) (kept : List ℕ) → kept ≡ []
    → (given_old given written_old : List ℕ) → IsServed kind given_old given written_old written graph kept
    → IsDone kind given_old given written_old written graph
last_ended kind written graph kept none given_old given written_old so_far =
    ends kind given_old given written_old written graph kept so_far none

pub last_unended : {A E : Type 0} (kind : Kind) (r : Result A E) (written now : List ℕ) (graph new : Graph ℤ ℤ)
    {kept answered : List ℕ}
    → 0 < length kept → answered ≡ kept
    → OnOk r (AnswersLine kind answered graph new written now)
    → OnOk r ((given_old given written_old : List ℕ) → IsServed kind given_old given written_old written graph kept
    → IsDone kind given_old given written_old now new)
last_unended kind (Err e) written now graph new some is answer = tt
last_unended kind (Ok x) written now graph new {kept} some is answer = λ given_old given written_old so_far.
    ends_unended kind given_old given written_old written graph kept so_far new now some
    (subst (λ line. AnswersLine kind line graph new written now) is answer)

-- the end
pub finished : {A E : Type 0} (Q : Type 0) {kind : Kind} (plans : Bool) (r : Result A E)
    {written between now : List ℕ} (taken : List ℕ) {graph new : Graph ℤ ℤ} {kept : List ℕ}
    → ((given_old given written_old : List ℕ) → IsServed kind given_old given written_old written graph kept
    → IsDone kind given_old given written_old between new)
    → ((trailer : List ℕ) × IsTrailer plans new trailer × (now ≡ between ++ trailer))
    → OnOk r ((taken ≡ now) × Q)
    → OnOk r ((given_old given written_old : List ℕ) → IsServed kind given_old given written_old written graph kept
    → Serves kind plans lines_of given_old given written_old taken)
finished Q plans (Err e) taken done trailer flush = tt
finished Q plans (Ok x) taken done trailer flush = λ given_old given written_old so_far.
    closed trailer.0 (done given_old given written_old so_far) trailer.1 (flush.0 ∙ trailer.2)

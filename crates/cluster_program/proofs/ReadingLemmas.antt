-- What came of a text that was read, and of nothing that is read.
use Rattle.std.proofs.Common.{Bool, Err, List, None, Ok, Option, Result, Some, [], ap, append-nil, arith, false, if◌then◌else◌, inl, inr, length, nat_lt, refl, subst, sym, true, ℕ, ◌≡◌, ◌≤◌, ◌⊎◌, ◌∙◌}
use Rattle.std.proofs.lemmas.Bool.{le-ltb, ltb-false, ltb-true}
use Rattle.std.specs.List.{concat}
use Rattle.std.specs.Option.{IfSome}
use Rattle.cluster_history.specs.declared.data.Journal.{Journal}
use Rattle.fault_io.specs.Counts.{Rose, SinkAccount, SourceAccount}
use Rattle.fault_io.specs.Given.{before_left}
use Rattle.fault_io.specs.Written.{content_after}
use Rattle.schedule_data.specs.declared.data.Schedule.{Schedule}
use Rattle.schedule_play.specs.Play.{AtLimit, AtRule, Stop, played}
use Rattle.schedule_gen.specs.Schedule.{schedule_text}
use Rattle.schedule_text.specs.Texts.{IsScheduleText, NamesFaults, ReadsTexts, schedule_of}
use Rattle.text_grammar.specs.Folds.{LineFault}
use Rattle.text_grammar.specs.declared.faults.Fault.{Fault}
use Rattle.text_grammar.specs.declared.faults.Fault.TheVariants.{Limit as PassesLimit, Refused as BreaksRule}
use Rattle.command_words.specs.declared.words.Command.{Command}
use Rattle.command_words.specs.declared.words.Command.TheVariants.{Balance, Gen, Play, Reads}
use Rattle.cluster_program.specs.Endings.{Ending, IsCommandEnding, IsGenEnding, IsReadEnding, IsTextEnding, ending_at, fault_ending, input_ending, input_limit}
use Rattle.cluster_program.specs.Readings.{command_ending, ending_of, gen_ending, reading_ending, schedule_reading}
use Rattle.cluster_program.specs.Outcomes.{Answers, AnswersAs, CameAs, CameTo, IsAnswer, IsAnswerAs, NoFault}
use Rattle.cluster_program.specs.Program.{IsComplete, IsReported, IsSummed, IsWrittenOf, asked_form}
use Rattle.cluster_program.specs.Texts.{form_lines, summary_line}
use Rattle.cluster_program.specs.declared.outcome.Outcome.{Outcome}
use Rattle.cluster_program.specs.declared.texts.Form.{Form}
use Rattle.cluster_program.specs.declared.texts.Form.TheVariants.{Planned, Repaired, Report, Summary}

-- a text that is not too long ends as its reading says
ending-read :
    (form : Form) (text : List ℕ) → length text ≤ input_limit → ending_of form text ≡ reading_ending form (schedule_reading text)
ending-read form text few =
    ap (λ test. if test then input_ending else reading_ending form (schedule_reading text)) (le-ltb input_limit (length text) few)

pub answers-read :
    (form : Form) (text : List ℕ) (outcome : Outcome) (s t : SourceAccount) (a b : SinkAccount) →
    length text ≤ input_limit →
    NoFault s t →
    CameTo (reading_ending form (schedule_reading text)) outcome a b →
    Answers (ending_of form text) outcome s t a b
answers-read form text outcome s t a b few quiet came =
    inl (quiet, subst (λ e. CameTo e outcome a b) (sym (ending-read form text few)) came)

-- ---- where nothing fails

ending-whole :
    (form : Form) (text : List ℕ) (schedule : Schedule) →
    length text ≤ input_limit →
    schedule_reading text ≡ Ok schedule →
    (played schedule).stop ≡ None →
    ending_of form text ≡ ending_at form schedule (played schedule).journal None
ending-whole form text schedule few read ended =
    let R : Result Schedule LineFault → Ending = λ read. reading_ending form read in
    let S : Option Stop → Ending = λ stop. ending_at form schedule (played schedule).journal stop in
    ending-read form text few ∙ ap R read ∙ ap S ended

reported :
    (form : Form) (schedule : Schedule) (outcome : Outcome) (s t : SourceAccount) (a b : SinkAccount) →
    (Rose s.faults t.faults → ⊥) →
    (Rose a.faults b.faults → ⊥) →
    Answers (ending_at form schedule (played schedule).journal None) outcome s t a b →
    IsReported form schedule outcome a b ⊎ (outcome.status ≡ 8)
reported form schedule outcome s t a b source sink (inl (quiet, inl (inl done))) =
    inl (record { status = done.status; journal = done.journal; written = done.written })
reported form schedule outcome s t a b source sink (inl (quiet, inl (inr cut))) = absurd (sink cut.cause)
reported form schedule outcome s t a b source sink (inl (quiet, inr starved)) = inr starved.status
reported form schedule outcome s t a b source sink (inr (rose, said)) = absurd (source rose)

read-of : (text : List ℕ) (schedule : Schedule) → ReadsTexts → IsScheduleText text schedule → schedule_reading text ≡ Ok schedule
unfolding schedule_reading
read-of text schedule law is = (law text schedule).1 is

pub complete-of :
    (form : Form) (outcome : Outcome) (s t : SourceAccount) (a b : SinkAccount) →
    ReadsTexts →
    IfSome s.left (λ text. Answers (ending_of form text) outcome s t a b) →
    IsComplete form outcome s t a b
complete-of form outcome s t a b law told text schedule left few is ended source sink =
    let P : Option (List ℕ) → Type 0 = λ o. IfSome o (λ text. Answers (ending_of form text) outcome s t a b) in
    let answer : Answers (ending_of form text) outcome s t a b = subst P left told in
    let Q : Ending → Type 0 = λ e. Answers e outcome s t a b in
    reported form schedule outcome s t a b source sink
    (subst Q (ending-whole form text schedule few (read-of text schedule law is) ended) answer)

-- ---- where nothing is read

before_left-nothing : (left : Option (List ℕ)) → left ≡ before_left [] left
before_left-nothing None = refl
before_left-nothing (Some text) = refl

-- what came of a call that does not read is an answer to no bytes
pub answer-unread :
    (ending : Ending) (outcome : Outcome) (s : SourceAccount) (a b : SinkAccount) →
    CameTo ending outcome a b →
    IsAnswer [] ending outcome s s a b
answer-unread ending outcome s a b came = record {
  bytes = record { content = before_left-nothing s.left; given = omega arith; calls = omega arith };
  within = omega arith;
  answer = inl (refl, came);
  over = λ more. absurd (omega (arith, more));
}

-- ---- what is read of a text is what it says

pub text-ending :
    ReadsTexts → NamesFaults → (form : Form) (text : List ℕ) →
    IsTextEnding form text (reading_ending form (schedule_reading text))
unfolding schedule_reading
text-ending reads names form text = by (schedule_of text) refl
  where
    by : (read : Result Schedule LineFault) → schedule_of text ≡ read → IsTextEnding form text (reading_ending form read)
    by (Ok schedule) e = inl (schedule, (reads text schedule).0 e, refl)
    by (Err fault) e = inr (fault.line, fault.fault, (names text fault.line fault.fault).0 e, refl)

pub read-ending : ReadsTexts → NamesFaults → (form : Form) (text : List ℕ) → IsReadEnding form text (ending_of form text)
read-ending reads names form text = by (nat_lt input_limit (length text)) refl
  where
    by : (over : Bool) → nat_lt input_limit (length text) ≡ over →
        IsReadEnding form text (if over then input_ending else reading_ending form (schedule_reading text))
    by true e = inl (ltb-true input_limit (length text) e, refl)
    by false e = inr (ltb-false input_limit (length text) e, text-ending reads names form text)

pub gen-ending : ReadsTexts → NamesFaults → (n : ℕ) → IsGenEnding n (gen_ending n)
gen-ending reads names n = text-ending reads names (Summary n) (schedule_text n)

pub command-ending :
    ReadsTexts → NamesFaults → (asked : Option Command) (text : List ℕ) →
    IsCommandEnding asked text (command_ending asked text)
command-ending reads names None text = refl
command-ending reads names (Some Play) text = read-ending reads names Report text
command-ending reads names (Some (Gen n)) text = gen-ending reads names n
command-ending reads names (Some Reads) text = read-ending reads names Repaired text
command-ending reads names (Some Balance) text = read-ending reads names Planned text

-- ---- what came, by what may end so

pub told-as :
    (is : List ℕ → Ending → Type 0) (of : List ℕ → Ending) → ((text : List ℕ) → is text (of text)) →
    (left : Option (List ℕ)) (outcome : Outcome) (s t : SourceAccount) (a b : SinkAccount) →
    IfSome left (λ text. Answers (of text) outcome s t a b) →
    IfSome left (λ text. AnswersAs (is text) outcome s t a b)
told-as is of ends None outcome s t a b told = told
told-as is of ends (Some text) outcome s t a b told = (of text, ends text, told)

pub taken-as :
    (is : List ℕ → Ending → Type 0) (of : List ℕ → Ending) → ((text : List ℕ) → is text (of text)) →
    (outcome : Outcome) (s t : SourceAccount) (a b : SinkAccount) →
    (taken : List ℕ) × IsAnswer taken (of taken) outcome s t a b →
    (taken : List ℕ) × IsAnswerAs (is taken) taken outcome s t a b
taken-as is of ends outcome s t a b (taken, answer) = (taken, (of taken, ends taken, answer))

pub came-as :
    (is : Ending → Type 0) (ending : Ending) (outcome : Outcome) (a b : SinkAccount) →
    is ending →
    CameTo ending outcome a b →
    CameAs is outcome a b
came-as is ending outcome a b ends came = (ending, ends, came)

-- where nothing is read
pub told-unread :
    (is : List ℕ → Ending → Type 0) (left : Option (List ℕ)) (outcome : Outcome) (s : SourceAccount) (a b : SinkAccount) →
    ((text : List ℕ) → CameAs (is text) outcome a b) →
    IfSome left (λ text. AnswersAs (is text) outcome s s a b)
told-unread is None outcome s a b came = tt
told-unread is (Some text) outcome s a b came =
    let it : CameAs (is text) outcome a b = came text in (it.0, it.1, inl (refl, it.2))

pub taken-unread :
    (is : List ℕ → Ending → Type 0) (outcome : Outcome) (s : SourceAccount) (a b : SinkAccount) →
    CameAs (is []) outcome a b →
    (taken : List ℕ) × IsAnswerAs (is taken) taken outcome s s a b
taken-unread is outcome s a b (ending, ends, came) = ([], (ending, ends, answer-unread ending outcome s a b came))

-- ---- where the words are known

pub told-asked :
    (asked wanted : Option Command) (left : Option (List ℕ)) (outcome : Outcome) (s t : SourceAccount) (a b : SinkAccount) →
    asked ≡ wanted →
    IfSome left (λ text. AnswersAs (IsCommandEnding wanted text) outcome s t a b) →
    IfSome left (λ text. AnswersAs (IsCommandEnding asked text) outcome s t a b)
told-asked asked wanted left outcome s t a b is told =
    subst (λ (o : Option Command). IfSome left (λ text. AnswersAs (IsCommandEnding o text) outcome s t a b)) (sym is) told

pub taken-asked :
    (asked wanted : Option Command) (outcome : Outcome) (s t : SourceAccount) (a b : SinkAccount) →
    asked ≡ wanted →
    (taken : List ℕ) × IsAnswerAs (IsCommandEnding wanted taken) taken outcome s t a b →
    (taken : List ℕ) × IsAnswerAs (IsCommandEnding asked taken) taken outcome s t a b
taken-asked asked wanted outcome s t a b is answer =
    subst (λ (o : Option Command). (taken : List ℕ) × IsAnswerAs (IsCommandEnding o taken) taken outcome s t a b) (sym is) answer

pub came-asked :
    (asked wanted : Option Command) (text : List ℕ) (outcome : Outcome) (a b : SinkAccount) →
    asked ≡ wanted →
    CameAs (IsCommandEnding wanted text) outcome a b →
    CameAs (IsCommandEnding asked text) outcome a b
came-asked asked wanted text outcome a b is came =
    subst (λ (o : Option Command). CameAs (IsCommandEnding o text) outcome a b) (sym is) came

-- ---- what follows of the status 0

-- only a play that came to its end has the status 0, and then all that the form has of it was written
written-at :
    (form : Form) (schedule : Schedule) (journal : Journal) (stop : Option Stop) (outcome : Outcome) (a b : SinkAccount) →
    CameTo (ending_at form schedule journal stop) outcome a b →
    outcome.status ≡ 0 →
    b.content ≡ content_after a.content (concat (form_lines form schedule outcome.journal))
written-at form schedule journal None outcome a b (inl (inl done)) zero =
    done.written ∙ ap (λ j. content_after a.content (concat (form_lines form schedule j))) (sym done.journal)
written-at form schedule journal (Some (AtRule line rule)) outcome a b (inl (inl done)) zero =
    let e : 4 ≡ 0 = sym done.status ∙ zero in absurd (omega (arith, e))
written-at form schedule journal (Some (AtLimit name)) outcome a b (inl (inl done)) zero =
    let e : 7 ≡ 0 = sym done.status ∙ zero in absurd (omega (arith, e))
written-at form schedule journal stop outcome a b (inl (inr cut)) zero =
    let e : 6 ≡ 0 = sym cut.status ∙ zero in absurd (omega (arith, e))
written-at form schedule journal stop outcome a b (inr starved) zero =
    let e : 8 ≡ 0 = sym starved.status ∙ zero in absurd (omega (arith, e))

-- a text at fault has another status
fault-not-done :
    (line : ℕ) (fault : Fault) (outcome : Outcome) (a b : SinkAccount) →
    CameTo (fault_ending line fault) outcome a b →
    outcome.status ≡ 0 → ⊥
fault-not-done line (BreaksRule rule) outcome a b (inl (inl done)) zero =
    let e : 3 ≡ 0 = sym done.status ∙ zero in omega (arith, e)
fault-not-done line (PassesLimit name) outcome a b (inl (inl done)) zero =
    let e : 7 ≡ 0 = sym done.status ∙ zero in omega (arith, e)
fault-not-done line fault outcome a b (inl (inr cut)) zero =
    let e : 6 ≡ 0 = sym cut.status ∙ zero in omega (arith, e)
fault-not-done line fault outcome a b (inr starved) zero =
    let e : 8 ≡ 0 = sym starved.status ∙ zero in omega (arith, e)

-- what was read is a schedule, and what the form has of its play was written
pub told-of :
    (form : Form) (text : List ℕ) (outcome : Outcome) (a b : SinkAccount) →
    ReadsTexts →
    CameTo (reading_ending form (schedule_reading text)) outcome a b →
    outcome.status ≡ 0 →
    (schedule : Schedule) × IsScheduleText text schedule
    × (b.content ≡ content_after a.content (concat (form_lines form schedule outcome.journal)))
unfolding schedule_reading
told-of form text outcome a b reads came zero = by (schedule_of text) refl came
  where
    by : (read : Result Schedule LineFault) → schedule_of text ≡ read →
        CameTo (reading_ending form read) outcome a b →
        (schedule : Schedule) × IsScheduleText text schedule
        × (b.content ≡ content_after a.content (concat (form_lines form schedule outcome.journal)))
    by (Ok schedule) e it = (
      schedule,
      (reads text schedule).0 e,
      written-at form schedule (played schedule).journal (played schedule).stop outcome a b it zero,
    )
    by (Err fault) e it = absurd (fault-not-done fault.line fault.fault outcome a b it zero)

pub written-of :
    (form : Form) (text : List ℕ) (outcome : Outcome) (a b : SinkAccount) →
    ReadsTexts →
    CameTo (reading_ending form (schedule_reading text)) outcome a b →
    outcome.status ≡ 0 →
    IsWrittenOf form outcome.journal a b
written-of form text outcome a b reads came zero =
    let told = told-of form text outcome a b reads came zero in (told.0, told.2)

pub summed :
    (n : ℕ) (outcome : Outcome) (a b : SinkAccount) →
    ReadsTexts →
    CameTo (gen_ending n) outcome a b →
    outcome.status ≡ 0 →
    IsSummed n outcome.journal a b
summed n outcome a b reads came zero =
    let told = told-of (Summary n) (schedule_text n) outcome a b reads came zero in (
      told.0,
      told.1,
      told.2 ∙ ap (λ l. content_after a.content l) (append-nil (summary_line n told.0 outcome.journal)),
    )

-- ---- which form is asked

-- what holds of the form that the words ask holds of the form that is asked
pub complete-asked :
    (asked wanted : Option Command) (form other : Form) (outcome : Outcome) (s t : SourceAccount) (a b : SinkAccount) →
    asked ≡ wanted →
    asked_form wanted ≡ Some form →
    IsComplete form outcome s t a b →
    asked_form asked ≡ Some other →
    IsComplete other outcome s t a b
complete-asked asked wanted form other outcome s t a b is named complete also =
    let P : Form → Type 0 = λ f. IsComplete f outcome s t a b in
    subst P (some-form form other (sym named ∙ (ap asked_form (sym is) ∙ also))) complete
  where
    some-form : (form other : Form) → Some form ≡ Some other → form ≡ other
    some-form form other e = cc

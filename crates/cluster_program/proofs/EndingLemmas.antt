-- What came of a call, where its ending is told in other words.
use Rattle.std.proofs.Common.{Err, List, None, Ok, Option, Result, Some, [], ap, append-nil, inl, inr, refl, subst, sym, ℕ, ◌≡◌, ◌∙◌}
use Rattle.base_ids.specs.declared.rules.EventRule.{EventRule}
use Rattle.base_ids.specs.declared.rules.EventRule.TheVariants.{BelowFloor}
use Rattle.base_ids.specs.declared.rules.LimitName.{LimitName}
use Rattle.base_ids.specs.declared.rules.LimitName.TheVariants.{Input}
use Rattle.cluster_history.specs.declared.data.Journal.{Journal}
use Rattle.fault_io.specs.Counts.{SinkAccount}
use Rattle.schedule_data.specs.declared.data.Schedule.{Schedule}
use Rattle.schedule_play.specs.Play.{AtLimit, AtRule, IsFrontOf, IsPlay, Played, Stop, played}
use Rattle.schedule_play.specs.contracts.playing.PlayError.{enum}
use Rattle.schedule_play.specs.declared.playing.PlayError.{PlayError}
use Rattle.schedule_play.specs.declared.playing.PlayError.TheVariants.{Limit as PlayLimit, NoMemory as PlayNoMemory, NotEnabled as PlayNotEnabled}
use Rattle.schedule_text.specs.Code.{CodeFailsAs}
use Rattle.schedule_text.specs.declared.errors.ParseError.{ParseError}
use Rattle.schedule_text.specs.declared.errors.ParseError.TheVariants.{Limit as ParseLimit, NoMemory as ParseNoMemory, Refused as ParseRefused}
use Rattle.text_grammar.specs.Folds.{LineFault}
use Rattle.cluster_program.specs.Endings.{Ending, ending_at, stopped_ending, no_journal, play_ending, whole_ending}
use Rattle.cluster_program.specs.Readings.{reading_ending}
use Rattle.cluster_program.specs.Outcomes.{CameTo, CameToFault, IsSaidOrCut}
use Rattle.cluster_program.specs.Status.{status_number}
use Rattle.cluster_program.specs.declared.outcome.Outcome.{Outcome}
use Rattle.cluster_program.specs.declared.status.Status.{Status}
use Rattle.cluster_program.specs.declared.status.Status.TheVariants.{NoMemory}
use Rattle.cluster_program.specs.declared.texts.Form.{Form}
use borrow.Enum.Total.{values_d}

-- an ending with an equal journal and equal bytes
pub said-parts :
    (status : Status) (journal other : Journal) (bytes others : List ℕ) (outcome : Outcome) (a b : SinkAccount) →
    journal ≡ other →
    bytes ≡ others →
    IsSaidOrCut (record { status = status; journal = journal; bytes = bytes }) outcome a b →
    IsSaidOrCut (record { status = status; journal = other; bytes = others }) outcome a b
said-parts status journal other bytes others outcome a b same equal said =
    let P : Journal → Type 0 =
    λ j. IsSaidOrCut (record { status = status; journal = j; bytes = others }) outcome a b in
    let Q : List ℕ → Type 0 =
    λ l. IsSaidOrCut (record { status = status; journal = journal; bytes = l }) outcome a b in
    subst P same (subst Q equal said)

-- ---- plays

-- where the play ended is what is to be told
pub came-at :
    (form : Form) (schedule : Schedule) (stop : Option Stop) (after journal : Journal) (outcome : Outcome) (a b : SinkAccount) →
    played schedule ≡ record { journal = after; stop = stop } →
    journal ≡ after →
    CameTo (ending_at form schedule journal stop) outcome a b →
    CameTo (play_ending form schedule) outcome a b
came-at form schedule stop after journal outcome a b ended same came =
    let P : Journal → Type 0 = λ j. CameTo (ending_at form schedule j stop) outcome a b in
    let Q : Played → Type 0 = λ w. CameTo (ending_at form schedule w.journal w.stop) outcome a b in
    subst Q (sym ended) (subst P same came)

-- a play that stopped is told in one form
pub stopped-at :
    (form : Form) (schedule : Schedule) (stop : Stop) (journal : Journal) (outcome : Outcome) (a b : SinkAccount) →
    CameTo (stopped_ending journal stop) outcome a b →
    CameTo (ending_at form schedule journal (Some stop)) outcome a b
stopped-at form schedule stop journal outcome a b came = came

-- the line and the rule of an error are told, as they are read off it
pub told-by-rule :
    (error : PlayError) (line : ℕ) (rule : EventRule) (journal : Journal) (outcome : Outcome) (a b : SinkAccount) →
    error ≡ PlayNotEnabled line rule →
    CameTo (stopped_ending journal (AtRule (values_d enum 0 (0, (BelowFloor, tt {0})) error).0 (values_d enum 0 (0, (BelowFloor, tt {0})) error).1.0)) outcome a b →
    CameTo (stopped_ending journal (AtRule line rule)) outcome a b
told-by-rule error line rule journal outcome a b is came =
    subst (λ (e : PlayError). CameTo (stopped_ending journal (AtRule (values_d enum 0 (0, (BelowFloor, tt {0})) e).0 (values_d enum 0 (0, (BelowFloor, tt {0})) e).1.0)) outcome a b) is came

pub told-by-limit :
    (error : PlayError) (name : LimitName) (journal : Journal) (outcome : Outcome) (a b : SinkAccount) →
    error ≡ PlayLimit name →
    CameTo (stopped_ending journal (AtLimit (values_d enum 1 (Input, tt {0}) error).0)) outcome a b →
    CameTo (stopped_ending journal (AtLimit name)) outcome a b
told-by-limit error name journal outcome a b is came =
    subst (λ (e : PlayError). CameTo (stopped_ending journal (AtLimit (values_d enum 1 (Input, tt {0}) e).0)) outcome a b) is came

pub stopped-by-rule :
    (error : PlayError) (line : ℕ) (rule : EventRule) (whole : Played) (after : Journal) →
    IsPlay (Err error) after whole →
    error ≡ PlayNotEnabled line rule →
    whole ≡ record { journal = after; stop = Some (AtRule line rule) }
stopped-by-rule error line rule whole after ended is =
    let E : PlayError → Type 0 = λ e. IsPlay (Err e) after whole in
    subst E is ended

pub stopped-by-limit :
    (error : PlayError) (name : LimitName) (whole : Played) (after : Journal) →
    IsPlay (Err error) after whole →
    error ≡ PlayLimit name →
    whole ≡ record { journal = after; stop = Some (AtLimit name) }
stopped-by-limit error name whole after ended is =
    let E : PlayError → Type 0 = λ e. IsPlay (Err e) after whole in
    subst E is ended

pub stopped-by-memory :
    (error : PlayError) (whole : Played) (after : Journal) →
    IsPlay (Err error) after whole →
    error ≡ PlayNoMemory →
    IsFrontOf after whole.journal
stopped-by-memory error whole after ended is =
    let E : PlayError → Type 0 = λ e. IsPlay (Err e) after whole in
    subst E is ended

-- ---- want of memory

-- memory was refused before anything was written, and no opening was reached
pub came-unopened :
    (ending : Ending) (journal : Journal) (outcome : Outcome) (a : SinkAccount) →
    outcome ≡ record { status = status_number NoMemory; journal = journal } →
    journal ≡ no_journal →
    CameTo ending outcome a a
came-unopened ending journal outcome a is none = inr (record {
  status = ap (λ o. o.status) is;
  journal = inl (ap (λ o. o.journal) is ∙ none);
  written = refl;
})

-- ---- texts

-- the text says no schedule
pub came-faulty :
    (form : Form) (error : ParseError) (read : Result Schedule LineFault) (outcome : Outcome) (a b : SinkAccount) →
    outcome.journal ≡ no_journal →
    CodeFailsAs error read →
    CameToFault error outcome a b →
    CameTo (reading_ending form read) outcome a b
came-faulty form (ParseRefused line rule) read outcome a b none fails came =
    let P : Result Schedule LineFault → Type 0 = λ r. CameTo (reading_ending form r) outcome a b in
    subst P (sym fails) came
came-faulty form (ParseLimit name) read outcome a b none fails came =
    let P : Result Schedule LineFault → Type 0 = λ r. CameTo (reading_ending form r) outcome a b in
    subst P (sym fails.1) came
came-faulty form ParseNoMemory read outcome a b none fails came =
    let P : SinkAccount → Type 0 = λ account. CameTo (reading_ending form read) outcome a account in
    subst P (sym came.1) (came-unopened (reading_ending form read) outcome.journal outcome a (ap (λ s. record { status = s; journal = outcome.journal }) came.0) none)

-- the text says a schedule
pub came-read :
    (form : Form) (schedule : Schedule) (read : Result Schedule LineFault) (outcome : Outcome) (a b : SinkAccount) →
    read ≡ Ok schedule →
    CameTo (play_ending form schedule) outcome a b →
    CameTo (reading_ending form read) outcome a b
came-read form schedule read outcome a b is came =
    let P : Result Schedule LineFault → Type 0 = λ r. CameTo (reading_ending form r) outcome a b in
    subst P (sym is) came

-- ---- fronts

ending-journal :
    (form : Form) (schedule : Schedule) (journal : Journal) (stop : Option Stop) →
    (ending_at form schedule journal stop).journal ≡ journal
ending-journal form schedule journal None = refl
ending-journal form schedule journal (Some stop) = refl

-- a front of the play's journal is one of the journal of its ending
ending-front :
    (form : Form) (schedule : Schedule) (journal : Journal) →
    IsFrontOf journal (played schedule).journal →
    IsFrontOf journal (play_ending form schedule).journal
ending-front form schedule journal front =
    subst
    (λ j. IsFrontOf journal j)
    (sym (ending-journal form schedule (played schedule).journal (played schedule).stop))
    front

-- memory was refused before anything was written, after some of the first entries
came-after :
    (ending : Ending) (journal : Journal) (outcome : Outcome) (a : SinkAccount) →
    outcome ≡ record { status = status_number NoMemory; journal = journal } →
    IsFrontOf journal ending.journal →
    CameTo ending outcome a a
came-after ending journal outcome a is front = inr (record {
  status = ap (λ o. o.status) is;
  journal = inr (subst (λ j. IsFrontOf j ending.journal) (sym (ap (λ o. o.journal) is)) front);
  written = refl;
})

pub came-front :
    (form : Form) (schedule : Schedule) (after journal : Journal) (outcome : Outcome) (a : SinkAccount) →
    IsFrontOf after (played schedule).journal →
    journal ≡ after →
    outcome ≡ record { status = status_number NoMemory; journal = journal } →
    CameTo (play_ending form schedule) outcome a a
came-front form schedule after journal outcome a front same starved =
    came-after (play_ending form schedule) journal outcome a starved
    (ending-front form schedule journal (subst (λ j. IsFrontOf j (played schedule).journal) (sym same) front))

-- ---- the journal at each status

front-of-itself : (journal : Journal) → IsFrontOf journal journal
front-of-itself journal = record { opening = refl; entries = ([], sym (append-nil journal.entries)) }

-- the journal that is kept of a play that ended or stopped is the play's
pub front-at :
    (stop : Option Stop) (whole : Played) (after journal : Journal) (outcome : Outcome) →
    whole ≡ record { journal = after; stop = stop } →
    journal ≡ after →
    outcome.journal ≡ journal →
    IsFrontOf outcome.journal whole.journal
front-at stop whole after journal outcome ended same kept =
    subst (λ j. IsFrontOf outcome.journal j) (kept ∙ same ∙ sym (ap (λ w. w.journal) ended)) (front-of-itself outcome.journal)

-- where memory was refused it has some of the first entries
pub front-starved :
    (whole : Played) (after journal : Journal) (outcome : Outcome) →
    IsFrontOf after whole.journal →
    journal ≡ after →
    outcome ≡ record { status = status_number NoMemory; journal = journal } →
    IsFrontOf outcome.journal whole.journal
front-starved whole after journal outcome front same starved =
    subst (λ j. IsFrontOf j whole.journal) (sym (ap (λ o. o.journal) starved ∙ same)) front

-- ---- where memory is refused after a whole play

-- a play that ended whole, and memory was refused after it
pub came-whole :
    (form : Form) (schedule : Schedule) (journal whole : Journal) (outcome : Outcome) (a : SinkAccount) →
    journal ≡ whole →
    outcome ≡ record { status = status_number NoMemory; journal = journal } →
    CameTo (whole_ending form schedule whole) outcome a a
came-whole form schedule journal whole outcome a same starved =
    came-after (whole_ending form schedule whole) journal outcome a starved (subst (λ j. IsFrontOf journal j) same (front-of-itself journal))

-- What a line says in the first format, it says in the second one too.
use Rattle.std.proofs.Common.{◌≡◌, ℕ, ◌+◌, ◌≤◌, ◌^◌, Bool, true, false, ◌&&◌, nat_le, List, [], ◌∷◌, ◌++◌, Option, Some, None, Ok, Err, refl, sym, ap, subst, ◌∙◌, arith, if◌then◌else◌, codes}
use Rattle.std.proofs.lemmas.Bool.Decides.{nat_tests}
use Rattle.std.proofs.lemmas.Slice.Eq.{bytes_eq-Decides}
use Rattle.std.specs.List.{list_all}
use Rattle.std.specs.Option.{is_some, option_map, option_or}
use Rattle.std.specs.Str.{bytes_eq}
use Rattle.base_ids.specs.declared.ids.Actor.{Actor}
use Rattle.base_ids.specs.declared.ids.LaneId.{LaneId}
use Rattle.base_ids.specs.declared.rules.LimitName.{LimitName}
use Rattle.base_ids.specs.declared.rules.LimitName.TheVariants.{Hosts}
use Rattle.cluster_history.specs.declared.data.Operation.{Operation}
use Rattle.cluster_history.specs.declared.data.Operation.TheVariants.{Read, Write}
use Rattle.schedule_data.specs.declared.data.LineAct.{LineAct}
use Rattle.schedule_data.specs.declared.data.LineEvent.{LineEvent}
use Rattle.schedule_data.specs.declared.data.LineEvent.TheVariants.{Begin}
use Rattle.schedule_data.specs.declared.data.Schedule.{Schedule}
use Rattle.schedule_data.specs.declared.data.Shorthand.{Shorthand}
use Rattle.schedule_data.specs.declared.data.Shorthand.TheVariants.{Do}
use Rattle.schedule_header.specs.Forms.{count, count_by, count_line, first_word, format_of, header_line, line_by, most_hosts, named_tablet, replicas_line, table_line, table_replica, tablet_line, verb_if}
use Rattle.schedule_header.specs.Header.{Header, Said as HeaderSaid, SaidGo, SaidHosts, SaidLanes, SaidMembers, SaidShards, SaidTable, SaidTablet, no_header}
use Rattle.schedule_lines.specs.Forms.{First, OfEvent, OfLabel, OfShort, act_by, act_form, actor, actor_by, ask, begin, begin_by, do_at, do_form, event, event_by, host_event, lane_event, mono_form, new_label, of_command, of_host, of_lane, of_lane_message, of_lane_request, of_message, of_session, of_version, operation, operation_by, read_form, short_by, topo_event, write, by_event, by_short, first_act_word}
use Rattle.schedule_lines.specs.Verbs.{actor_word, behind_word, event_word, first_short_word, operation_word, second_short_word}
use Rattle.schedule_lines.specs.declared.verbs.ActorWord.{ActorWord}
use Rattle.schedule_lines.specs.declared.verbs.ActorWord.TheVariants.{Host as HostWord, Lane as LaneWord, Topo as TopoWord}
use Rattle.schedule_lines.specs.declared.verbs.Behind.{Behind}
use Rattle.schedule_lines.specs.declared.verbs.Behind.TheVariants.{At as BehindAt, Level as BehindLevel}
use Rattle.schedule_lines.specs.declared.verbs.EventVerb.{EventVerb}
use Rattle.schedule_lines.specs.declared.verbs.EventVerb.TheVariants.{Host as HostEvent, Lane as LaneEvent, Restart as RestartVerb, Topo as TopoEvent}
use Rattle.schedule_lines.specs.declared.verbs.HostVerb.{HostVerb}
use Rattle.schedule_lines.specs.declared.verbs.HostVerb.TheVariants.{Answer as AnswerVerb, Apply as ApplyVerb, Chunk as ChunkVerb, Clean as CleanVerb, Pull as PullVerb, Quiet as QuietVerb, Serve as ServeVerb}
use Rattle.schedule_lines.specs.declared.verbs.LaneVerb.{LaneVerb}
use Rattle.schedule_lines.specs.declared.verbs.LaneVerb.TheVariants.{Begin as BeginVerb, Take as TakeVerb, Timeout as TimeoutVerb}
use Rattle.schedule_lines.specs.declared.verbs.OperationVerb.{OperationVerb}
use Rattle.schedule_lines.specs.declared.verbs.OperationVerb.TheVariants.{Read as ReadVerb, Write as WriteVerb}
use Rattle.schedule_lines.specs.declared.verbs.ShortVerb.{ShortVerb}
use Rattle.schedule_lines.specs.declared.verbs.ShortVerb.TheVariants.{Do as DoVerb, Drain as DrainVerb, Fence as FenceVerb, Force as ForceVerb, Mono as MonoVerb, Ready as ReadyVerb, Step as StepVerb, Stream as StreamVerb, Sync as SyncVerb, Tidy as TidyVerb}
use Rattle.schedule_lines.specs.declared.verbs.TopoVerb.{TopoVerb}
use Rattle.schedule_lines.specs.declared.verbs.TopoVerb.TheVariants.{Ask as AskVerb, Hear as HearVerb, Look as LookVerb, Propose as ProposeVerb}
use Rattle.schedule_words.specs.Labels.{LineOf}
use Rattle.schedule_words.specs.Places.{cell, lane, number, one_of, table_number, token}
use Rattle.schedule_words.specs.Words.{header_word, label_of, level_in, meaning}
use Rattle.schedule_words.specs.declared.counts.Counts.{Counts}
use Rattle.schedule_words.specs.declared.counts.Format.{Format}
use Rattle.schedule_words.specs.declared.counts.Format.TheVariants.{One as FirstFormat, Two as SecondFormat}
use Rattle.schedule_words.specs.declared.verbs.HeaderVerb.{HeaderVerb}
use Rattle.schedule_words.specs.declared.verbs.HeaderVerb.TheVariants.{Go as GoWord, Hosts as HostsWord, Lanes as LanesWord, Members as MembersWord, Shards as ShardsWord, Table as TableWord, Tablet as TabletWord, Tablets as TabletsWord}
use Rattle.stage_graph.specs.declared.level.Level.TheVariants.{Quorum}
use Rattle.text_grammar.proofs.TextLaws.{lines_found}
use Rattle.text_grammar.specs.Judging.{if_so, if_within}
use Rattle.text_grammar.specs.Lines.{Leads, Line, Makes, are_ascii, is_comment}
use Rattle.text_grammar.specs.Readings.{or_rule, ◌>>=◌}
use Rattle.text_grammar.specs.Shapes.{Either, EndOr, Place, Shape, Spells, Word}
use Rattle.text_grammar.specs.declared.faults.Fault.TheVariants.{Refused}
use Rattle.text_grammar.specs.declared.faults.TextRule.TheVariants.{BadHeader, BadWord, NoHeader}
use Rattle.schedule_text.specs.Language.{InBody, InHeader, LineSaid, Nothing, SaidAct, SaidFormat, SaidHeader, State, after_line, finish, form_at, schedules}
use Rattle.schedule_text.specs.Migration.{SaySame, format_line, is_passed}

-- ---- shapes

word_more : {A B : Type 0} (place : Place B) (more other : B → Shape A) → ((b : B) (words : Line) (a : A) → Spells (more b) words a → Spells (other b) words a) → (words : Line) (a : A) → Spells (Word place more) words a → Spells (Word place other) words a
word_more place more other up [] a s = s
word_more place more other up (w ∷ words) a (b, is, s) = (b, is, up b words a s)

verb_more : {A : Type 0} (more other : Operation → Shape A) → ((op : Operation) (words : Line) (a : A) → Spells (more op) words a → Spells (other op) words a) → (verb : OperationVerb) (words : Line) (a : A) → Spells (operation_by more verb) words a → Spells (operation_by other verb) words a
unfolding write read_form
verb_more more other up WriteVerb =
    word_more table_number (λ t. Word token (λ k. Word cell (λ c. more (Write t k c Quorum)))) (λ t. Word token (λ k. Word cell (λ c. other (Write t k c Quorum))))
    (λ t. word_more token (λ k. Word cell (λ c. more (Write t k c Quorum))) (λ k. Word cell (λ c. other (Write t k c Quorum)))
    (λ k. word_more cell (λ c. more (Write t k c Quorum)) (λ c. other (Write t k c Quorum)) (λ c. up (Write t k c Quorum))))
verb_more more other up ReadVerb =
    word_more table_number (λ t. Word token (λ k. more (Read t k Quorum))) (λ t. Word token (λ k. other (Read t k Quorum)))
    (λ t. word_more token (λ k. more (Read t k Quorum)) (λ k. other (Read t k Quorum)) (λ k. up (Read t k Quorum)))

operation_more : {A : Type 0} (more other : Operation → Shape A) → ((op : Operation) (words : Line) (a : A) → Spells (more op) words a → Spells (other op) words a) → (words : Line) (a : A) → Spells (operation more) words a → Spells (operation other) words a
unfolding operation
operation_more more other up = word_more (one_of operation_word) (operation_by more) (operation_by other) (verb_more more other up)

-- what may stand behind an operation
known_behind : (w : List ℕ) (behind : Behind) → or_rule BadWord (behind_word FirstFormat w) ≡ Ok behind → or_rule BadWord (behind_word SecondFormat w) ≡ Ok behind
known_behind w behind is =
    elim (bytes_eq w (codes "at")) as (λ b. or_rule BadWord (if b then Some BehindAt else option_map BehindLevel (level_in FirstFormat w)) ≡ Ok behind → or_rule BadWord (if b then Some BehindAt else option_map BehindLevel (level_in SecondFormat w)) ≡ Ok behind) [
      | true ↦ λ e. e
      | false ↦ λ e. cc e
    ] is

-- `mono` is no label
mono_is_none : (labels : LineOf) (w : List ℕ) → bytes_eq w (codes "mono") ≡ true → new_label labels (label_of w) ≡ Err (Refused BadWord)
mono_is_none labels w e = subst (λ (v : List ℕ). new_label labels (label_of v) ≡ Err (Refused BadWord)) (sym ((bytes_eq-Decides w (codes "mono")).0 e)) refl

-- the word of a shorthand, or a new label
known_short : (labels : LineOf) (w : List ℕ) (first : First) → by_short labels w (first_short_word w) ≡ Ok first → by_short labels w (second_short_word w) ≡ Ok first
known_short labels w first is = by_word (first_short_word w) is
  where
    by_mono : (t : Bool) → bytes_eq w (codes "mono") ≡ t → new_label labels (label_of w) ≡ Ok first → by_short labels w (if t then Some MonoVerb else None) ≡ Ok first
    by_mono true same e =
        let none : new_label labels (label_of w) ≡ Err (Refused BadWord) = mono_is_none labels w same in
        cc
    by_mono false other e = e

    by_word : (found : Option ShortVerb) → by_short labels w found ≡ Ok first → by_short labels w (option_or found (meaning ((codes "mono", MonoVerb) ∷ []) w)) ≡ Ok first
    by_word (Some verb) e = e
    by_word None e = by_mono (bytes_eq w (codes "mono")) refl e

-- what stands behind an operation that begins, and behind one that is done
abbrev begin_end : Format → LaneId → Operation → Shape LineEvent
begin_end format l op = EndOr (Begin l op None) (Word (one_of (behind_word format)) (begin_by l op))

abbrev do_end : Format → LaneId → Operation → Shape Shorthand
do_end format l op = EndOr (Do l op) (do_at format l op)

behind_more : (l : LaneId) (op : Operation) (words : Line) (e : LineEvent) → Spells (begin_end FirstFormat l op) words e → Spells (begin_end SecondFormat l op) words e
behind_more l op [] e s = s
behind_more l op (w ∷ words) e (behind, is, s) = (behind, known_behind w behind is, s)

do_more : (l : LaneId) (op : Operation) (words : Line) (e : Shorthand) → Spells (do_end FirstFormat l op) words e → Spells (do_end SecondFormat l op) words e
unfolding do_at
do_more l op [] e s = s
do_more l op (w ∷ words) e (level, is, s) = absurd (cc is)

-- ---- lines that are played

abbrev counts_in : Format → ℕ → ℕ → Counts
counts_in format hosts lanes = record { format = format; hosts = hosts; lanes = lanes }

module _ (hosts lanes : ℕ) (labels : LineOf) where
  abbrev one : Counts
  one = counts_in FirstFormat hosts lanes

  abbrev two : Counts
  two = counts_in SecondFormat hosts lanes

  begin_more : (words : Line) (e : LineEvent) → Spells (begin (counts_in FirstFormat hosts lanes)) words e → Spells (begin (counts_in SecondFormat hosts lanes)) words e
  unfolding begin lane
  begin_more =
      word_more (lane (counts_in SecondFormat hosts lanes)) (λ l. operation (begin_end FirstFormat l)) (λ l. operation (begin_end SecondFormat l))
      (λ l. operation_more (begin_end FirstFormat l) (begin_end SecondFormat l) (behind_more l))

  lane_more : (verb : LaneVerb) (words : Line) (e : LineEvent) → Spells (lane_event (counts_in FirstFormat hosts lanes) labels verb) words e → Spells (lane_event (counts_in SecondFormat hosts lanes) labels verb) words e
  unfolding lane of_lane_message of_lane_request
  lane_more BeginVerb words e s = begin_more words e s
  lane_more TakeVerb words e s = s
  lane_more TimeoutVerb words e s = s

  host_more : (verb : HostVerb) (words : Line) (e : LineEvent) → Spells (host_event (counts_in FirstFormat hosts lanes) labels verb) words e → Spells (host_event (counts_in SecondFormat hosts lanes) labels verb) words e
  unfolding of_host of_version of_message of_session
  host_more ApplyVerb words e s = s
  host_more QuietVerb words e s = s
  host_more ServeVerb words e s = s
  host_more AnswerVerb words e s = s
  host_more CleanVerb words e s = s
  host_more PullVerb words e s = s
  host_more ChunkVerb words e s = s

  topo_more : (verb : TopoVerb) (words : Line) (e : LineEvent) → Spells (topo_event (counts_in FirstFormat hosts lanes) labels verb) words e → Spells (topo_event (counts_in SecondFormat hosts lanes) labels verb) words e
  unfolding of_host ask of_message of_command
  topo_more LookVerb words e s = s
  topo_more AskVerb words e s = s
  topo_more HearVerb words e s = s
  topo_more ProposeVerb words e s = s

  actor_more : (word : ActorWord) (words : Line) (a : Actor) → Spells (actor_by (counts_in FirstFormat hosts lanes) word) words a → Spells (actor_by (counts_in SecondFormat hosts lanes) word) words a
  unfolding of_host of_lane lane
  actor_more HostWord words a s = s
  actor_more LaneWord words a s = s
  actor_more TopoWord words a s = s

  restart_more : (words : Line) (e : LineEvent) → Spells (event_by (counts_in FirstFormat hosts lanes) labels RestartVerb) words e → Spells (event_by (counts_in SecondFormat hosts lanes) labels RestartVerb) words e
  unfolding actor
  restart_more words e (x, s, is) = (x, word_more (one_of actor_word) (actor_by (counts_in FirstFormat hosts lanes)) (actor_by (counts_in SecondFormat hosts lanes)) actor_more words x s, is)

  event_more : (verb : EventVerb) (words : Line) (e : LineEvent) → Spells (event_by (counts_in FirstFormat hosts lanes) labels verb) words e → Spells (event_by (counts_in SecondFormat hosts lanes) labels verb) words e
  event_more (LaneEvent verb) = lane_more verb
  event_more (HostEvent verb) = host_more verb
  event_more (TopoEvent verb) = topo_more verb
  event_more RestartVerb = restart_more

  short_more : (verb : ShortVerb) (words : Line) (e : Shorthand) → Spells (short_by (counts_in FirstFormat hosts lanes) verb) words e → Spells (short_by (counts_in SecondFormat hosts lanes) verb) words e
  unfolding do_form mono_form lane of_host of_command of_session
  short_more SyncVerb words e s = s
  short_more DoVerb words e s = word_more (lane (counts_in SecondFormat hosts lanes)) (λ l. operation (do_end FirstFormat l)) (λ l. operation (do_end SecondFormat l)) (λ l. operation_more (do_end FirstFormat l) (do_end SecondFormat l) (do_more l)) words e s
  short_more MonoVerb words e s = s
  short_more DrainVerb words e s = s
  short_more FenceVerb words e s = s
  short_more StepVerb words e s = s
  short_more ForceVerb words e s = s
  short_more StreamVerb words e s = s
  short_more TidyVerb words e s = s
  short_more ReadyVerb words e s = s

  act_more : (first : First) (words : Line) (a : Option (List ℕ) × LineAct) → Spells (act_by (counts_in FirstFormat hosts lanes) labels first) words a → Spells (act_by (counts_in SecondFormat hosts lanes) labels first) words a
  unfolding event
  act_more (OfEvent verb) words a (x, s, is) = (x, event_more verb words x s, is)
  act_more (OfShort verb) words a (x, s, is) = (x, short_more verb words x s, is)
  act_more (OfLabel name) words a (x, s, is) = (x, word_more (one_of event_word) (event_by (counts_in FirstFormat hosts lanes) labels) (event_by (counts_in SecondFormat hosts lanes) labels) event_more words x s, is)

  first_known : (w : List ℕ) (first : First) → first_act_word FirstFormat labels w ≡ Ok first → first_act_word SecondFormat labels w ≡ Ok first
  first_known w first is = by_header (is_some (header_word w)) is
    where
      by_verb : (verb : Option EventVerb) → by_event FirstFormat labels w verb ≡ Ok first → by_event SecondFormat labels w verb ≡ Ok first
      by_verb (Some verb) e = e
      by_verb None e = known_short labels w first e

      by_header : (t : Bool) → (if t then Err (Refused BadHeader) else by_event FirstFormat labels w (event_word w)) ≡ Ok first → (if t then Err (Refused BadHeader) else by_event SecondFormat labels w (event_word w)) ≡ Ok first
      by_header true e = cc e
      by_header false e = by_verb (event_word w) e

  act_line_more : (words : Line) (a : Option (List ℕ) × LineAct) → Spells (act_form (counts_in FirstFormat hosts lanes) labels) words a → Spells (act_form (counts_in SecondFormat hosts lanes) labels) words a
  unfolding act_form
  act_line_more [] a s = s
  act_line_more (w ∷ words) a (first, is, s) = (first, first_known w first is, act_more first words a s)

-- ---- lines of the header

abbrev header_in_format : Format → Header → Header
header_in_format format header = record header { format = format }

-- a count that may be so great may be so in a format that allows as many or more
count_within : (less more : ℕ) (name : LimitName) (n m : ℕ) → less ≤ more → count_by less name n ≡ Ok m → count_by more name n ≡ Ok m
count_within less more name n m most e =
    (elim (nat_le n less) as (λ b. nat_le n less ≡ b → (if_within b name n >>= λ x. if_so (nat_le 1 x) BadHeader x) ≡ Ok m → count_by more name n ≡ Ok m) [
      | true ↦ λ within h. let also : nat_le n more ≡ true = still within in rw also h
      | false ↦ λ over h. cc h
    ]) refl e
  where
    still : nat_le n less ≡ true → nat_le n more ≡ true
    still within = grind (arith, nat_tests)

count_more : (limit less more : ℕ) (name : LimitName) → less ≤ more → (words : Line) (n : ℕ) → Spells (count_line limit less name) words n → Spells (count_line limit more name) words n
unfolding count_line count
count_more limit less more name most [] n s = s
count_more limit less more name most (w ∷ words) n (m, (a, is, e), s) = (m, (a, is, count_within less more name a m most e), s)

first_more : (header : Header) (w : List ℕ) (verb : HeaderVerb) → first_word (header_in_format FirstFormat header) w ≡ Ok verb → first_word (header_in_format SecondFormat header) w ≡ Ok verb
first_more header w verb e = by_word (header_word w) e
  where
    by_word : (word : Option HeaderVerb) → verb_if (header_in_format FirstFormat header) word ≡ Ok verb → verb_if (header_in_format SecondFormat header) word ≡ Ok verb
    by_word None h = cc h
    by_word (Some TabletsWord) h = h
    by_word (Some HostsWord) h = h
    by_word (Some LanesWord) h = h
    by_word (Some ShardsWord) h = h
    by_word (Some MembersWord) h = h
    by_word (Some TableWord) h = h
    by_word (Some TabletWord) h = h
    by_word (Some GoWord) h = h

line_more : (header : Header) (verb : HeaderVerb) (words : Line) (said : HeaderSaid) → Spells (line_by (header_in_format FirstFormat header) verb) words said → Spells (line_by (header_in_format SecondFormat header) verb) words said
unfolding table_line replicas_line table_replica tablet_line named_tablet
line_more header TabletsWord words said s = s
line_more header HostsWord words said (n, s, e) = (n, count_more (2 ^ 16) (most_hosts FirstFormat) (most_hosts SecondFormat) Hosts (omega arith) words n s, e)
line_more header LanesWord words said s = s
line_more header ShardsWord words said s = s
line_more header MembersWord words said s = s
line_more header TableWord words said s = s
line_more header TabletWord words said s = s
line_more header GoWord words said s = s

header_more : (header : Header) (words : Line) (said : HeaderSaid) → Spells (header_line (header_in_format FirstFormat header)) words said → Spells (header_line (header_in_format SecondFormat header)) words said
unfolding header_line
header_more header [] said s = s
header_more header (w ∷ words) said (verb, is, s) = (verb, first_more header w verb is, line_more header verb words said s)

-- ---- lines

abbrev in_format : Format → State → State
in_format format Nothing = Nothing
in_format format (InHeader header) = InHeader (header_in_format format header)
in_format format (InBody body) = InBody (record body { format = format })

-- the format is said
abbrev IsSaid : State → Type 0
IsSaid Nothing = ⊥
IsSaid (InHeader header) = Unit {0}
IsSaid (InBody body) = Unit {0}

-- what a line of the header makes in a format is that format's, and is otherwise what it makes in another
header_after : (format other : Format) (number : ℕ) (header : Header) (said : HeaderSaid) → in_format format (after_line number (InHeader (header_in_format other header)) (SaidHeader said)) ≡ after_line number (InHeader (header_in_format format header)) (SaidHeader said)
header_after format other number header (SaidHosts n) = refl
header_after format other number header (SaidLanes n) = refl
header_after format other number header (SaidShards n) = refl
header_after format other number header (SaidMembers members) = refl
header_after format other number header (SaidTable table) = refl
header_after format other number header (SaidTablet line) = refl
header_after format other number header SaidGo = refl

header_said : (format : Format) (number : ℕ) (header : Header) (said : HeaderSaid) → IsSaid (after_line number (InHeader (header_in_format format header)) (SaidHeader said))
header_said format number header (SaidHosts n) = tt
header_said format number header (SaidLanes n) = tt
header_said format number header (SaidShards n) = tt
header_said format number header (SaidMembers members) = tt
header_said format number header (SaidTable table) = tt
header_said format number header (SaidTablet line) = tt
header_said format number header SaidGo = tt

-- what a line makes in the first format, and that it makes it in the second
record MakesBoth (number : ℕ) (before : State) (line : Line) (next : State) : Type 0 where
  pub after : State
  pub said : IsSaid after
  pub is : next ≡ in_format FirstFormat after
  pub makes : Makes schedules number (in_format SecondFormat before) line (in_format SecondFormat after)

told_both : (number : ℕ) (before : State) (words : Line) (x : LineSaid) → IsSaid before → Spells (form_at (in_format FirstFormat before)) words x →
    (after : State) × IsSaid after × (after_line number (in_format FirstFormat before) x ≡ in_format FirstFormat after)
    × ((y : LineSaid) × Spells (form_at (in_format SecondFormat before)) words y × (in_format SecondFormat after ≡ after_line number (in_format SecondFormat before) y))
told_both number Nothing words x past s = absurd past
told_both number (InHeader header) words x past (said, s, e) =
    let after = after_line number (InHeader (header_in_format FirstFormat header)) (SaidHeader said) in (
      after,
      header_said FirstFormat number header said,
      ap (after_line number (InHeader (header_in_format FirstFormat header))) e ∙ sym (header_after FirstFormat FirstFormat number header said),
      (SaidHeader said, (said, header_more header words said s, refl), header_after SecondFormat FirstFormat number header said),
    )
told_both number (InBody body) words x past (said, s, e) =
    let after = after_line number (InBody (record body { format = FirstFormat })) (SaidAct said) in (
      after,
      tt,
      ap (after_line number (InBody (record body { format = FirstFormat }))) e,
      (SaidAct said, (said, act_line_more body.opening.hosts body.opening.lanes body.labels words said s, refl), refl),
    )

makes_both : (number : ℕ) (before next : State) (line : Line) → IsSaid before → Makes schedules number (in_format FirstFormat before) line next → MakesBoth number before line next
makes_both number before next [] past makes = record { after = before; said = past; is = makes; makes = refl }
makes_both number before next (word ∷ words) past makes = by_comment (is_comment word) refl makes
  where
    by_comment : (t : Bool) → is_comment word ≡ t → Either t ((are_ascii (word ∷ words) ≡ true) × (next ≡ in_format FirstFormat before)) ((x : LineSaid) × Spells (form_at (in_format FirstFormat before)) (word ∷ words) x × (next ≡ after_line number (in_format FirstFormat before) x)) → MakesBoth number before (word ∷ words) next
    by_comment true c (ascii, same) =
        let P : Bool → Type 0 = λ t. Either t ((are_ascii (word ∷ words) ≡ true) × (in_format SecondFormat before ≡ in_format SecondFormat before)) ((y : LineSaid) × Spells (form_at (in_format SecondFormat before)) (word ∷ words) y × (in_format SecondFormat before ≡ after_line number (in_format SecondFormat before) y)) in
        record { after = before; said = past; is = same; makes = subst P (sym c) (ascii, refl) }
    by_comment false c (x, s, e) =
        let both = told_both number before (word ∷ words) x past s in
        let P : Bool → Type 0 = λ t. Either t ((are_ascii (word ∷ words) ≡ true) × (in_format SecondFormat both.0 ≡ in_format SecondFormat before)) ((y : LineSaid) × Spells (form_at (in_format SecondFormat before)) (word ∷ words) y × (in_format SecondFormat both.0 ≡ after_line number (in_format SecondFormat before) y)) in
        record { after = both.0; said = both.1; is = e ∙ both.2; makes = subst P (sym c) both.3 }

record LeadsBoth (number : ℕ) (before : State) (lines : List Line) (last : State) : Type 0 where
  pub after : State
  pub is : last ≡ in_format FirstFormat after
  pub leads : Leads schedules number (in_format SecondFormat before) lines (in_format SecondFormat after)

leads_both : (number : ℕ) (before last : State) (lines : List Line) → IsSaid before → Leads schedules number (in_format FirstFormat before) lines last → LeadsBoth number before lines last
leads_both number before last [] past leads = record { after = before; is = leads; leads = refl }
leads_both number before last (line ∷ lines) past (next, makes, more) =
    let both : MakesBoth number before line next = makes_both number before next line past makes in
    let rest : LeadsBoth (number + 1) both.after lines last = leads_both (number + 1) both.after last lines both.said (subst (λ (s : State). Leads schedules (number + 1) s lines last) both.is more) in
    record { after = rest.after; is = rest.is; leads = (in_format SecondFormat both.after, both.makes, rest.leads) }

-- ---- the line of the format

record Begins (number : ℕ) (passed others : List Line) (last : State) : Type 0 where
  pub after : State
  pub is : last ≡ in_format FirstFormat after
  pub leads : Leads schedules number Nothing (passed ++ format_line SecondFormat ∷ others) (in_format SecondFormat after)

format_is : (format : Format) → or_rule NoHeader (format_of (format_line FirstFormat)) ≡ Ok format → FirstFormat ≡ format
format_is format e = cc e

begins : (number : ℕ) (passed others : List Line) (last : State) → list_all is_passed passed ≡ true → Leads schedules number Nothing (passed ++ format_line FirstFormat ∷ others) last → Begins number passed others last
begins number [] others last all (next, (x, (format, told, is), e), more) =
    let named : next ≡ InHeader (no_header FirstFormat) = e ∙ ap (after_line number Nothing) is ∙ ap (λ f. InHeader (no_header f)) (sym (format_is format told)) in
    let rest : LeadsBoth (number + 1) (InHeader (no_header FirstFormat)) others last = leads_both (number + 1) (InHeader (no_header FirstFormat)) last others tt (subst (λ (s : State). Leads schedules (number + 1) s others last) named more) in
    record {
      after = rest.after;
      is = rest.is;
      leads = (InHeader (no_header SecondFormat), (SaidFormat SecondFormat, (SecondFormat, refl, refl), refl), rest.leads);
    }
begins number ([] ∷ passed) others last all (next, same, more) =
    let rest : Begins (number + 1) passed others last = begins (number + 1) passed others last all (subst (λ (s : State). Leads schedules (number + 1) s (passed ++ format_line FirstFormat ∷ others) last) same more) in
    record { after = rest.after; is = rest.is; leads = (Nothing, refl, rest.leads) }
begins number ((word ∷ words) ∷ passed) others last all (next, makes, more) =
    by_comment (λ rest_passed same. begins (number + 1) passed others last rest_passed (subst (λ (s : State). Leads schedules (number + 1) s (passed ++ format_line FirstFormat ∷ others) last) same more)) (is_comment word) refl all makes
  where
    by_comment : (list_all is_passed passed ≡ true → next ≡ Nothing → Begins (number + 1) passed others last) → (t : Bool) → is_comment word ≡ t → (t && list_all is_passed passed) ≡ true → Either t ((are_ascii (word ∷ words) ≡ true) × (next ≡ Nothing)) ((x : LineSaid) × Spells (form_at Nothing) (word ∷ words) x × (next ≡ after_line number Nothing x)) → Begins number ((word ∷ words) ∷ passed) others last
    by_comment go true c rest_passed (ascii, same) =
        let rest : Begins (number + 1) passed others last = go rest_passed same in
        let P : Bool → Type 0 = λ t. Either t ((are_ascii (word ∷ words) ≡ true) × (◌≡◌ {A = State} Nothing Nothing)) ((y : LineSaid) × Spells (form_at Nothing) (word ∷ words) y × (Nothing ≡ after_line number Nothing y)) in
        record { after = rest.after; is = rest.is; leads = (Nothing, subst P (sym c) (ascii, refl), rest.leads) }
    by_comment go false c rest_passed both = cc rest_passed

finish_same : (state : State) (schedule : Schedule) → finish (in_format FirstFormat state) ≡ Ok schedule → finish (in_format SecondFormat state) ≡ Ok schedule
finish_same Nothing schedule e = e
finish_same (InHeader header) schedule e = cc e
finish_same (InBody body) schedule e = e

pub say_same : SaySame
say_same bytes other passed others schedule one two said =
    let lines_are : said.lines ≡ passed ++ format_line FirstFormat ∷ others = sym (lines_found bytes said.lines said.has_lines) ∙ lines_found bytes (passed ++ format_line FirstFormat ∷ others) one.lines in
    let leads : Leads schedules 1 Nothing (passed ++ format_line FirstFormat ∷ others) said.is_text.last = subst (λ (ls : List Line). Leads schedules 1 Nothing ls said.is_text.last) lines_are said.is_text.leads in
    let both : Begins 1 passed others said.is_text.last = begins 1 passed others said.is_text.last one.are_passed leads in
    record {
      lines = passed ++ format_line SecondFormat ∷ others;
      has_lines = two.lines;
      is_text = record {
        last = in_format SecondFormat both.after;
        leads = both.leads;
        says = finish_same both.after schedule (ap finish (sym both.is) ∙ said.is_text.says);
      };
    }

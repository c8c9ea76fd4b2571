-- The forms of what a document says of a run: its pace, scripts, moves and storm.
use Rattle.std.specs.Prelude.{ℕ, ◌-◌, ◌^◌, ◌==◌, ◌&&◌, not, Bool, true, false, List, [], ◌∷◌, Option, Some, None, Result, codes}
use Rattle.std.specs.List.{list_any}
use Rattle.base_ids.specs.Names.{same_host}
use Rattle.base_ids.specs.declared.ids.HostId.{HostId}
use Rattle.base_ids.specs.declared.ids.LaneId.{LaneId}
use Rattle.base_ids.specs.declared.ids.TableId.{TableId}
use Rattle.cluster_history.specs.declared.data.Operation.{Operation}
use Rattle.stage_graph.specs.declared.stage.Stage.{Stage}
use Rattle.stage_graph.specs.declared.stage.Stage.TheVariants.{AllowWriteBothReadOld, WriteBothReadOld, Streaming, WriteBothReadNew}
use Rattle.text_grammar.specs.Shapes.{Place, Shape, Word as OneWord, End, EndOr, Each as EachWord, Made}
use Rattle.schedule_words.specs.Words.{meaning, stage_among, level_in}
use Rattle.schedule_words.specs.Places.{one_of, lane, table_number, tablet_number, any_replica, any_host, log2, next_replica}
use Rattle.schedule_words.specs.declared.counts.Counts.{Counts}
use Rattle.schedule_words.specs.declared.counts.Format.{Format}
use Rattle.schedule_lines.specs.Forms.{operation, with_level}
use Rattle.run_plan.specs.Fits.{is_of, is_move}
use Rattle.run_plan.specs.declared.plan.Act.{Act}
use Rattle.run_plan.specs.declared.plan.Act.TheVariants.{Move, Split, Merge, Join, Leave, Create}
use Rattle.run_plan.specs.declared.plan.Script.{Script}
use Rattle.run_plan.specs.declared.plan.MoveAsk.{MoveAsk}
use Rattle.run_plan.specs.declared.plan.Storm.{Storm}
use Rattle.json_forms.specs.declared.faults.Fault.{Fault}
use Rattle.json_forms.specs.Forms.{Form, Word, Line, Judged, Each, Object, Member, MemberOr, Then, Done}
use Rattle.json_forms.specs.Judging.{if_good, number, number_below, told_as}
use Rattle.cluster_file.specs.declared.frame.Frame.{Frame}
use Rattle.cluster_file.specs.declared.pace.Pace.{Pace}
use Rattle.cluster_file.specs.declared.acts.ActVerb.{ActVerb}
use Rattle.cluster_file.specs.declared.acts.ActVerb.TheVariants.{Move as MoveVerb, Split as SplitVerb, Merge as MergeVerb, Join as JoinVerb, Leave as LeaveVerb, Create as CreateVerb}

-- how many workers there are, and how long is waited
unfoldable pub pace : Form Pace
pace =
    Then (MemberOr (codes "workers") 2 (number 1 16)) (λ workers.
    Then (MemberOr (codes "patience") 1000 (number 1 1000000)) (λ patience.
    Then (MemberOr (codes "drain") 100 (number 1 1000000)) (λ drain.
    Done (record { workers = workers; patience = patience; drain = drain }))))

-- ---- scripts

-- what a lane of the cluster is judged by
abbrev pub counts_of : Frame → Counts
counts_of frame = record { format = frame.format; hosts = frame.hosts; lanes = frame.lanes }

-- a lane of the cluster behind others
unfoldable pub script_lane : Frame → List Script → Form LaneId
script_lane frame earlier =
    Judged (Word (lane (counts_of frame))) (λ l. if_good (not (list_any (is_of l) earlier)) l)

-- LEVEL, and the operation at it, in a format that has levels
unfoldable pub levelled : Format → Operation → Shape Operation
levelled format op = OneWord (one_of (level_in format)) (λ level. End (with_level level op))

-- write T TOKEN CELL or read T TOKEN, with LEVEL or without
unfoldable pub one_operation : Format → Shape Operation
one_operation format = operation (λ op. EndOr op (levelled format op))

unfoldable pub script : Frame → List Script → Form Script
script frame earlier =
    Object (
    Then (Member (codes "lane") (script_lane frame earlier)) (λ l.
    Then (Member (codes "ops") (Each (λ _. Line (one_operation frame.format)))) (λ ops.
    Done (record { lane = l; ops = ops }))))

-- ---- moves

abbrev pub act_word : List ℕ → Option ActVerb
act_word word =
    meaning (
    (codes "move", MoveVerb)
    ∷ (codes "split", SplitVerb)
    ∷ (codes "merge", MergeVerb)
    ∷ (codes "join", JoinVerb)
    ∷ (codes "leave", LeaveVerb)
    ∷ (codes "create", CreateVerb)
    ∷ []) word

-- T I F P
unfoldable pub move_act : Shape Act
move_act =
    OneWord
    table_number
    (λ t. OneWord tablet_number (λ i. OneWord any_replica (λ f. OneWord any_replica (λ p. End (Move t i f p)))))

-- T
unfoldable pub table_named : Shape TableId
table_named = OneWord table_number (λ t. End t)

-- H
unfoldable pub host_named : Shape HostId
host_named = OneWord any_host (λ h. End h)

-- T B R R R
unfoldable pub create_act : Shape Act
create_act = OneWord table_number (λ t. OneWord log2 (λ b. EachWord next_replica (λ rs. Create t b rs)))

abbrev pub act_by : ActVerb → Shape Act
act_by MoveVerb = move_act
act_by SplitVerb = Made table_named Split
act_by MergeVerb = Made table_named Merge
act_by JoinVerb = Made host_named Join
act_by LeaveVerb = Made host_named Leave
act_by CreateVerb = create_act

-- move T I F P, split T, merge T, join H, leave H or create T B R R R
unfoldable pub act : Shape Act
act = OneWord (one_of act_word) act_by

-- a stage from which a move may go back
abbrev pub early : List Stage
early = AllowWriteBothReadOld ∷ WriteBothReadOld ∷ Streaming ∷ WriteBothReadNew ∷ []

unfoldable pub early_stage : Place Stage
early_stage = one_of (stage_among early)

unfoldable pub back_from : Act → Form (Option Stage)
back_from a = Judged (Word early_stage) (λ stage. if_good (is_move a) (Some stage))

-- H, as a number
unfoldable pub mover : Frame → Form HostId
mover frame = told_as (number_below frame.hosts) (λ n. record { 0 = n })

unfoldable pub move_ask : Frame → Form MoveAsk
move_ask frame =
    Object (
    Then (Member (codes "by") (mover frame)) (λ by.
    Then (Member (codes "do") (Line act)) (λ a.
    Then (MemberOr (codes "back_from") None (back_from a)) (λ back.
    Done (record { by = by; act = a; back_from = back })))))

-- ---- the storm

unfoldable pub storm : Form Storm
storm =
    Object (
    Then (Member (codes "seed") (number 0 (2 ^ 64 - 1))) (λ seed.
    Then (Member (codes "lose") (number 0 100)) (λ lose.
    Then (Member (codes "repeat") (number 0 100)) (λ repeat.
    Done (record { seed = seed; lose = lose; repeat = repeat })))))

-- The plan of a document fits its opening.
use Rattle.std.proofs.Common.{◌≡◌, ℕ, ◌+◌, ◌-◌, ◌^◌, ◌<◌, ◌≤◌, ◌==◌, ◌&&◌, not, nat_lt, Bool, true, false, cond, List, [], ◌∷◌, ◌++◌, length, Option, Some, None, Result, Ok, Err, refl, ap, subst, ◌∙◌, arith}
use Rattle.std.specs.List.{All, list_all, list_any}
use Rattle.std.specs.Prelude.{IfSome, IfOk, codes}
use Rattle.std.specs.Str.{bytes_eq}
use Rattle.std.proofs.lemmas.Bool.Decides.{nat_tests}
use Rattle.std.proofs.lemmas.List.{length-append}
use Rattle.std.proofs.lemmas.List.Elements.{All-nil, All-push}
use Rattle.base_ids.specs.Names.{same_host}
use Rattle.base_ids.specs.declared.ids.HostId.{HostId}
use Rattle.base_ids.specs.declared.ids.LaneId.{LaneId}
use Rattle.base_ids.specs.declared.ids.Replica.{Replica}
use Rattle.base_ids.specs.declared.rules.LimitName.TheVariants.{Replicas}
use Rattle.stage_graph.specs.declared.stage.Stage.{Stage}
use Rattle.stage_graph.specs.Words.{word as stage_word}
use Rattle.tablet_map.proofs.Joined.{and_left, and_right, and_both, or_left, or_right, or_neither, not_true, not_false}
use Rattle.cluster_history.specs.declared.data.Opening.{Opening}
use Rattle.topo_state.specs.declared.data.Table.{Table}
use Rattle.text_grammar.specs.declared.faults.TextRule.{TextRule}
use Rattle.text_grammar.specs.declared.faults.TextRule.TheVariants.{BadActor, BadWord}
use Rattle.text_grammar.specs.Readings.{or_rule}
use Rattle.text_grammar.specs.Shapes.{Is as IsWord, AreEach as AreEachWord}
use Rattle.text_grammar.proofs.TellLaws.{AllTell as LineTell, all_tell as line_tell, each_keeps as words_keep, is_so, is_within as is_word_within, told_count}
use Rattle.schedule_words.specs.Words.{stage_among}
use Rattle.schedule_words.specs.Places.{lane, has_lane, next_replica}
use Rattle.schedule_words.specs.declared.counts.Counts.{Counts}
use Rattle.schedule_header.proofs.SizeLemmas.{log2_few}
use Rattle.run_plan.specs.declared.plan.RunPlan.{RunPlan}
use Rattle.run_plan.specs.declared.plan.Act.{Act}
use Rattle.run_plan.specs.declared.plan.Script.{Script}
use Rattle.run_plan.specs.declared.plan.MoveAsk.{MoveAsk}
use Rattle.run_plan.specs.declared.plan.Storm.{Storm}
use Rattle.json_forms.specs.Forms.{Each, MemberOr}
use Rattle.json_forms.specs.Judging.{number, number_below, told_as}
use Rattle.json_forms.proofs.TellLaws.{AllTell, all_tell, all_weaker, always, each_keeps, is_good, number_tells, number_below_tells}
use Rattle.cluster_file.specs.declared.frame.Frame.{Frame}
use Rattle.cluster_file.specs.declared.pace.Pace.{Pace}
use Rattle.cluster_file.specs.declared.acts.ActVerb.{ActVerb}
use Rattle.cluster_file.specs.declared.acts.ActVerb.TheVariants.{Move as MoveVerb, Split as SplitVerb, Merge as MergeVerb, Join as JoinVerb, Leave as LeaveVerb, Create as CreateVerb}
use Rattle.cluster_file.specs.Plans.{pace, counts_of, script_lane, script, act, act_by, move_act, table_named, host_named, create_act, early, early_stage, back_from, mover, move_ask, storm}
use Rattle.run_plan.specs.Fits.{is_of, is_move, distinct_lanes, is_early, IsFineAct, IsFineMove, AreScripts, IsPlanFor}
use Rattle.cluster_file.specs.Openings.{format_of, frame, tables}
use Rattle.cluster_file.specs.declared.errors.FileError.{FileError}
use Rattle.cluster_file.specs.Documents.{opening_of, plan_of, plan, document, IsDocument, IsTold}

-- ---- scripts

any_behind : (test : Script → Bool) (list : List Script) (new : Script) → list_any test list ≡ false → test new ≡ false → list_any test (list ++ new ∷ []) ≡ false
any_behind test [] new none other = or_neither (test new) false other refl
any_behind test (x ∷ rest) new none other =
    or_neither (test x) (list_any test (rest ++ new ∷ [])) (or_left (test x) (list_any test rest) none) (any_behind test rest new (or_right (test x) (list_any test rest) none) other)

turned : (a b : ℕ) → (a == b) ≡ (b == a)
turned a b = grind (arith, nat_tests)

lanes_turned : (a b : LaneId) → (same_host a.host b.host && (a.lane == b.lane)) ≡ (same_host b.host a.host && (b.lane == a.lane))
lanes_turned a b = ap (λ (t : Bool). t && (a.lane == b.lane)) (turned a.host.0 b.host.0) ∙ ap (λ (t : Bool). same_host b.host a.host && t) (turned a.lane b.lane)

script_behind : (list : List Script) (new : Script) → distinct_lanes list ≡ true → list_any (is_of new.lane) list ≡ false → distinct_lanes (list ++ new ∷ []) ≡ true
script_behind [] new apart none = refl
script_behind (x ∷ rest) new apart none =
    let alone : list_any (is_of x.lane) rest ≡ false = not_true (list_any (is_of x.lane) rest) (and_left (not (list_any (is_of x.lane) rest)) (distinct_lanes rest) apart) in
    let other : is_of x.lane new ≡ false = lanes_turned new.lane x.lane ∙ or_left (is_of new.lane x) (list_any (is_of new.lane) rest) none in
    and_both (not (list_any (is_of x.lane) (rest ++ new ∷ []))) (distinct_lanes (rest ++ new ∷ []))
    (not_false (list_any (is_of x.lane) (rest ++ new ∷ [])) (any_behind (is_of x.lane) rest new alone other))
    (script_behind rest new (and_right (not (list_any (is_of x.lane) rest)) (distinct_lanes rest) apart) (or_right (is_of new.lane x) (list_any (is_of new.lane) rest) none))

below : (a b : ℕ) → nat_lt a b ≡ true → a < b
below a b h = grind (arith, nat_tests)

in_counts : (counts : Counts) (text : List ℕ) (l : LaneId) → IsWord (lane counts) text l → (l.host.0 < counts.hosts) × (l.lane < counts.lanes)
unfolding lane
in_counts counts text l is =
    let found : LaneId = is.0 in
    let p = is_so (has_lane counts found) BadActor found l is.2 in
    subst (λ (x : LaneId). (x.host.0 < counts.hosts) × (x.lane < counts.lanes)) p.1 (below found.host.0 counts.hosts (and_left _ _ p.0), below found.lane counts.lanes (and_right _ _ p.0))

record IsNewLane (f : Frame) (earlier : List Script) (l : LaneId) : Type 0 where
  pub new : list_any (is_of l) earlier ≡ false
  pub there : (l.host.0 < f.hosts) × (l.lane < f.lanes)

lane_tells : (f : Frame) (earlier : List Script) → AllTell (IsNewLane f earlier) (script_lane f earlier)
unfolding script_lane
lane_tells f earlier = λ text l is a e.
    let p = is_good (not (list_any (is_of l) earlier)) l a e in
    subst (IsNewLane f earlier) p.1 (record { new = not_true (list_any (is_of l) earlier) p.0; there = in_counts (counts_of f) text l is })

script_tells : (f : Frame) (earlier : List Script) → AllTell (λ s. IsNewLane f earlier s.lane) (script f earlier)
unfolding script
script_tells f earlier = all_weaker (IsNewLane f earlier) _ (λ l new. λ ds ops are. new) (script_lane f earlier) (lane_tells f earlier)

scripts_tell : (f : Frame) → AllTell (AreScripts f.hosts f.lanes) (Each (script f))
scripts_tell f = λ ds all are.
    each_keeps (AreScripts f.hosts f.lanes) (script f)
    (λ earlier d s so is.
    let t : IsNewLane f earlier s.lane = all_tell (λ x. IsNewLane f earlier x.lane) (script f earlier) d s (script_tells f earlier) is in
    record { once = script_behind earlier s so.once t.new; there = All-push (λ (x : Script). (x.lane.host.0 < f.hosts) × (x.lane.lane < f.lanes)) earlier s so.there t.there })
    [] ds all (record { once = refl; there = All-nil (λ (x : Script). (x.lane.host.0 < f.hosts) × (x.lane.lane < f.lanes)) }) are

-- ---- moves

mover_tells : (f : Frame) → AllTell (λ h. h.0 < f.hosts) (mover f)
unfolding mover
mover_tells f =
    all_weaker (λ n. n < f.hosts) _ (λ n less h e. let found : HostId = record { 0 = n } in let given : Ok found ≡ Ok h = e in let same : found ≡ h = cc in subst (λ (x : HostId). x.0 < f.hosts) same less) (number_below f.hosts) (number_below_tells f.hosts)

given_some : {A : Type 0} (rule : TextRule) (o : Option A) (a : A) → or_rule rule o ≡ Ok a → o ≡ Some a
given_some rule (Some x) a e = cc
given_some rule None a e = absurd (cc)

among : (list : List Stage) (text : List ℕ) (s : Stage) → list_all is_early list ≡ true → stage_among list text ≡ Some s → is_early s ≡ true
among [] text s all e = absurd (let x : None ≡ Some s = e in cc)
among (stage ∷ others) text s all e =
    elim (bytes_eq text (stage_word stage)) as (λ (t : Bool). cond t (Some stage) (stage_among others text) ≡ Some s → is_early s ≡ true) [
      | true ↦ λ h. let same : stage ≡ s = cc in subst (λ (x : Stage). is_early x ≡ true) same (and_left (is_early stage) (list_all is_early others) all)
      | false ↦ λ h. among others text s (and_right (is_early stage) (list_all is_early others) all) h
    ] e

back_tells : (a : Act) → AllTell (λ o. IfSome o (λ stage. (is_move a ≡ true) × (is_early stage ≡ true))) (back_from a)
unfolding back_from early_stage
back_tells a = λ text s is o e.
    let p = is_good (is_move a) (Some s) o e in
    subst (λ (x : Option Stage). IfSome x (λ stage. (is_move a ≡ true) × (is_early stage ≡ true))) p.1 (p.0, among early text s refl (given_some BadWord (stage_among early text) s is))

room : (earlier : List Replica) (w : List ℕ) (r : Replica) → IsWord (next_replica earlier) w r → length earlier < 8
unfolding next_replica
room earlier w r is =
    let p = is_word_within (nat_lt (length earlier) 8) Replicas is.0 r is.2 in
    below (length earlier) 8 p.0

few_replicas : (ws : List (List ℕ)) (all : List Replica) → AreEachWord next_replica [] ws all → length all ≤ 8
few_replicas ws all are =
    words_keep (λ (l : List Replica). length l ≤ 8) next_replica
    (λ earlier w r few is.
    let less : length earlier < 8 = room earlier w r is in
    let count : length (earlier ++ r ∷ []) ≡ length earlier + length (r ∷ []) = length-append earlier (r ∷ []) in
    omega arith)
    [] ws all (omega arith) are

fine_by : (verb : ActVerb) → LineTell IsFineAct (act_by verb)
unfolding move_act table_named host_named create_act
fine_by MoveVerb = λ w t _ w' i _ v f _ v' p _. tt
fine_by SplitVerb = λ w t _. tt
fine_by MergeVerb = λ w t _. tt
fine_by JoinVerb = λ w h _. tt
fine_by LeaveVerb = λ w h _. tt
fine_by CreateVerb = λ w t _ w' b is ws all some are.
    let count : length all ≡ length {A = Replica} [] + length ws = told_count next_replica [] ws all are in
    (log2_few w' b is, omega arith, few_replicas ws all are)

fine_act : LineTell IsFineAct act
unfolding act
fine_act = λ w verb _. fine_by verb

move_tells : (f : Frame) → AllTell (IsFineMove f.hosts) (move_ask f)
unfolding move_ask
move_tells f =
    all_weaker (λ h. h.0 < f.hosts) _ (λ by less. λ words a is.
    let fine : IsFineAct a = line_tell IsFineAct act words a fine_act is in
    (record { by = less; act = fine; back = tt }, all_weaker (λ o. IfSome o (λ stage. (is_move a ≡ true) × (is_early stage ≡ true))) _ (λ o back. record { by = less; act = fine; back = back }) (back_from a) (back_tells a)))
    (mover f) (mover_tells f)

moves_tell : (f : Frame) → AllTell (All (IsFineMove f.hosts)) (Each (λ _. move_ask f))
moves_tell f = λ ds all are.
    each_keeps (All (IsFineMove f.hosts)) (λ _. move_ask f) (λ earlier d m so is. All-push (IsFineMove f.hosts) earlier m so (all_tell (IsFineMove f.hosts) (move_ask f) d m (move_tells f) is)) [] ds all (All-nil (IsFineMove f.hosts)) are

-- ---- pace and storm

record IsPace (p : Pace) : Type 0 where
  pub workers : (1 ≤ p.workers) × (p.workers ≤ 16)
  pub patience : (1 ≤ p.patience) × (p.patience ≤ 1000000)
  pub drain : (1 ≤ p.drain) × (p.drain ≤ 1000000)

IsMild : Storm → Type 0
IsMild s = (s.lose ≤ 100) × (s.repeat ≤ 100)

storm_tells : AllTell IsMild storm
unfolding storm IsMild
storm_tells =
    always _ (λ seed. all_weaker (λ n. (0 ≤ n) × (n ≤ 100)) _ (λ lose l. all_weaker (λ n. (0 ≤ n) × (n ≤ 100)) _ (λ repeat r. (l.1, r.1)) (number 0 100) (number_tells 0 100)) (number 0 100) (number_tells 0 100)) (number 0 (2 ^ 64 - 1))

drain_tells : (w p : ℕ) → (1 ≤ w) × (w ≤ 16) → (1 ≤ p) × (p ≤ 1000000) → AllTell (λ d. IsPace (record { workers = w; patience = p; drain = d })) (MemberOr (codes "drain") 100 (number 1 1000000))
drain_tells w p hw hp = (
  record { workers = hw; patience = hp; drain = (omega arith, omega arith) },
  all_weaker (λ n. (1 ≤ n) × (n ≤ 1000000)) (λ d. IsPace (record { workers = w; patience = p; drain = d })) (λ d hd. record { workers = hw; patience = hp; drain = hd }) (number 1 1000000) (number_tells 1 1000000),
)

patience_tells : (w : ℕ) → (1 ≤ w) × (w ≤ 16) → AllTell (λ p. AllTell (λ d. IsPace (record { workers = w; patience = p; drain = d })) (MemberOr (codes "drain") 100 (number 1 1000000))) (MemberOr (codes "patience") 1000 (number 1 1000000))
patience_tells w hw = (
  drain_tells w 1000 hw (omega arith, omega arith),
  all_weaker (λ n. (1 ≤ n) × (n ≤ 1000000)) _ (λ p hp. drain_tells w p hw hp) (number 1 1000000) (number_tells 1 1000000),
)

pace_tells : AllTell IsPace pace
unfolding pace
pace_tells =
    (patience_tells 2 (omega arith, omega arith), all_weaker (λ n. (1 ≤ n) × (n ≤ 16)) _ (λ w hw. patience_tells w hw) (number 1 16) (number_tells 1 16))

-- ---- the plan

storm_part : (f : Frame) (p : Pace) (ts : List Table) (scripts : List Script) (moves : List MoveAsk) → IsPace p → AreScripts f.hosts f.lanes scripts → All (IsFineMove f.hosts) moves → AllTell (λ s. IsPlanFor (opening_of f ts) (plan_of p scripts moves s)) (MemberOr (codes "storm") None (told_as storm Some))
unfolding IsMild
storm_part f p ts scripts moves ok are all =
    let fits : (s : Option Storm) → IfSome s (λ x. (x.lose ≤ 100) × (x.repeat ≤ 100)) → IsPlanFor (opening_of f ts) (plan_of p scripts moves s) = λ s mild. record { workers = ok.workers; patience = ok.patience; drain = ok.drain; scripts = are; moves = all; storm = mild } in (
      fits None tt,
      all_weaker IsMild _ (λ s mild o e. let given : Ok (Some s) ≡ Ok o = e in let same : Some s ≡ o = cc in subst (λ (x : Option Storm). IsPlanFor (opening_of f ts) (plan_of p scripts moves x)) same (fits (Some s) mild)) storm storm_tells,
    )

moves_part : (f : Frame) (p : Pace) (ts : List Table) (scripts : List Script) → IsPace p → AreScripts f.hosts f.lanes scripts → AllTell (λ moves. AllTell (λ s. IsPlanFor (opening_of f ts) (plan_of p scripts moves s)) (MemberOr (codes "storm") None (told_as storm Some))) (MemberOr (codes "moves") [] (Each (λ _. move_ask f)))
moves_part f p ts scripts ok are = (
  storm_part f p ts scripts [] ok are (All-nil (IsFineMove f.hosts)),
  all_weaker (All (IsFineMove f.hosts)) _ (λ moves all. storm_part f p ts scripts moves ok are all) (Each (λ _. move_ask f)) (moves_tell f),
)

plan_tells : (f : Frame) (p : Pace) (ts : List Table) → IsPace p → AllTell (λ said. IsPlanFor (opening_of f ts) said) (plan f p)
unfolding plan
plan_tells f p ts ok = (
  moves_part f p ts [] ok (record { once = refl; there = All-nil (λ (x : Script). (x.lane.host.0 < f.hosts) × (x.lane.lane < f.lanes)) }),
  all_weaker (AreScripts f.hosts f.lanes) _ (λ scripts are. moves_part f p ts scripts ok are) (Each (script f)) (scripts_tell f),
)

document_fits : AllTell (λ (x : Opening × RunPlan). IsPlanFor x.0 x.1) document
unfolding document
document_fits =
    always _ (λ n. always _ (λ f. all_weaker IsPace _ (λ p ok. always _ (λ ts. plan_tells f p ts ok) (tables f)) pace pace_tells) (frame (format_of n))) (number 1 2)

pub says_fitting : (bytes : List ℕ) (opening : Opening) (said : RunPlan) → IsDocument bytes opening said → IsPlanFor opening said
says_fitting bytes opening said is = all_tell (λ (x : Opening × RunPlan). IsPlanFor x.0 x.1) document is.value (opening, said) document_fits is.says

pub told_fitting : (bytes : List ℕ) (r : Result (Opening × RunPlan) FileError) → IsTold bytes r → IfOk r (λ said. IsPlanFor said.0 said.1)
told_fitting bytes (Ok said) told = says_fitting bytes said.0 said.1 told
told_fitting bytes (Err error) told = tt

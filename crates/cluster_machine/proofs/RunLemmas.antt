-- The runs of a host's store: at the opening, at the host's events, and past those of others.
use Rattle.std.proofs.Common.{Bool, Err, List, None, Ok, OnErr, OnOk, Option, Result, Some, [], ap, arith, cond, eqb, false, get_or, inl, inr, length, map, nat_lt, not, refl, slice_index_or, subst, suc, sym, true, zero, ℕ, ◌&&◌, ◌++◌, ◌+◌, ◌<◌, ◌^◌, ◌||◌, ◌∙◌, ◌∷◌, ◌≡◌, ◌≢◌, ◌≤◌}
use Rattle.std.specs.Prelude.{All, find, is_none, is_some, option_map}
use Rattle.std.specs.List.{list_any}
use Rattle.std.proofs.lemmas.Bool.{eqb-true, le-ltb, lt-ltb}
use Rattle.std.proofs.lemmas.List.{get_or_read}
use Rattle.std.proofs.lemmas.List.Elements.{All-append, All-map}
use Rattle.std.proofs.lemmas.List.Sums.{AllPass-from_list_all}
use Rattle.std.proofs.Math.Nat.{eq-or-lt_of_le}
use Rattle.base_ids.specs.Names.{same_table}
use Rattle.base_ids.specs.declared.ids.HostId.{HostId}
use Rattle.base_ids.specs.declared.ids.Replica.{Replica}
use Rattle.base_ids.specs.declared.ids.Session.{Session}
use Rattle.base_ids.specs.declared.ids.TableId.{TableId}
use Rattle.base_ids.specs.declared.memory.NoMemory.{NoMemory}
use Rattle.base_ids.proofs.NameLemmas.{both_true, not_false, or_false, same_table-refl, same_table-same}
use Rattle.barrier_core.specs.declared.data.What.{What}
use Rattle.barrier_core.specs.declared.data.What.TheVariants.{Clean as CleanOf, Done as PullDone, Drain, Fence as FenceAt, Ready}
use Rattle.group0_log.specs.Log.{command_at, first_commands}
use Rattle.group0_log.proofs.StateLemmas.{command_within}
use Rattle.topo_state.specs.After.{after, after_finalize, after_resize, created_tables, table_after}
use Rattle.topo_state.specs.Openings.{is_undecided}
use Rattle.topo_state.specs.Moves.{is_split_by, splits_by}
use Rattle.topo_state.specs.Rules.{is_decided, rule}
use Rattle.topo_state.specs.State.{Topology, has_table, table_or_empty}
use Rattle.topo_state.specs.Tables.{has_id, have_distinct_ids, table_in}
use Rattle.topo_state.specs.declared.command.Command.{Command}
use Rattle.topo_state.specs.declared.command.Command.TheVariants.{Advance, CreateTable, FinalizeResize, Join, Leave, Resize, SetFence, Start}
use Rattle.topo_state.specs.declared.data.Resize.{Resize as Decision}
use Rattle.topo_state.specs.declared.data.ResizeKind.TheVariants.{Keep, Merge, Split}
use Rattle.topo_state.specs.declared.data.Table.{Table}
use Rattle.topo_state.proofs.Passed.{create_passes, finalize_passes, named}
use Rattle.topo_state.proofs.TableLemmas.{keeps_id, no_table_then, table_in-id, table_then}
use Rattle.host_core.specs.Groups.{AreLeft, grouped_table, grouping_as, grouping_for, grouping_of, grouping_split, grouping_told, is_grouped, runs_with}
use Rattle.host_core.specs.Host.{CanTake, HostView, host_after}
use Rattle.host_core.specs.declared.data.HostInput.{HostInput}
use Rattle.host_core.specs.declared.data.HostInput.TheVariants.{Answer as AnswerAsk, Apply, Clean, Pull, Quiet, Read, SendChunk, TakeChunk, Write}
use Rattle.host_core.specs.declared.grouping.Grouping.{Grouping}
use Rattle.run_store.specs.Tables.{log2_of}
use Rattle.cluster_history.specs.History.{History}
use Rattle.cluster_history.specs.Legal.{IsLegalHistory}
use Rattle.cluster_history.specs.Openings.{IsValidOpening, opening_state}
use Rattle.cluster_history.specs.Topology.{accepted_command, applied_count, applied_state, log_of, with_command}
use Rattle.cluster_history.specs.declared.data.Entry.{Entry}
use Rattle.cluster_history.specs.declared.data.Opening.{Opening}
use Rattle.cluster_history.proofs.WithinLemmas.{applied_within}
use Rattle.host_ties.specs.HostTies.{host_view}
use Rattle.cluster_machine.specs.Runs.{AreGrouped, HaveRuns, IsWhole, LieInRuns, applied_commands, is_settled, settled_after, told_runs}

some_is : {X : Type 0} (a b : X) → Some a ≡ Some b → a ≡ b
some_is a b e = cc e

differ : (a b : TableId) → (a ≡ b → ⊥) → same_table a b ≡ false
differ a b apart =
    elim (same_table a b) as (λ v. same_table a b ≡ v → v ≡ false) [ true ↦ λ same. absurd (apart (same_table-same a b same)) | false ↦ λ other. refl ] refl

-- ---- lists of tables

found_in : {X : Type 0} (P : X → Type 0) (test : X → Bool) (xs : List X) (x : X) → All P xs → find test xs ≡ Some x → P x × (test x ≡ true)
found_in P test [] x all e = cc e
found_in P test (y ∷ ys) x all e =
    elim (test y) as (λ v. test y ≡ v → cond v (Some y) (find test ys) ≡ Some x → P x × (test x ≡ true)) [
      | true ↦ λ passes h. (let is : y ≡ x = some_is y x h in subst (λ z. P z × (test z ≡ true)) is (all 0 y (omega arith), passes))
      | false ↦ λ fails h. found_in P test ys x (λ k d less. all (suc k) d (omega (arith, less))) h
    ] refl e

table_has : (P : Table → Type 0) (tables : List Table) (id : TableId) (t : Table) → All P tables → table_in tables id ≡ Some t → P t
table_has P [] id t all e = cc e
table_has P (x ∷ rest) id t all e =
    elim (same_table id x.id) as (λ v. cond v (Some x) (table_in rest id) ≡ Some t → P t) [
      | true ↦ λ h. subst P (some_is x t h) (all 0 x (omega arith))
      | false ↦ λ h. table_has P rest id t (λ k d less. all (suc k) d (omega (arith, less))) h
    ] e

-- tables that are grouped by their places are so by their numbers
pub grouped_in : (tables : List Table) (log2s : List (TableId × ℕ)) (id : TableId) (t : Table) → AreGrouped log2s tables → table_in tables id ≡ Some t → 2 ^ log2_of log2s id ≡ 2 ^ t.map.log2
grouped_in [] log2s id t grouped e = cc e
grouped_in (x ∷ rest) log2s id t grouped e =
    elim (same_table id x.id) as (λ v. same_table id x.id ≡ v → cond v (Some x) (table_in rest id) ≡ Some t → 2 ^ log2_of log2s id ≡ 2 ^ t.map.log2) [
      | true ↦ λ same h.
          ap (λ (i : TableId). 2 ^ log2_of log2s i) (same_table-same id x.id same) ∙ grouped 0 x (omega arith) ∙ ap (λ (y : Table). 2 ^ y.map.log2) (some_is x t h)
      | false ↦ λ other h. grouped_in rest log2s id t (λ place none less. grouped (suc place) none (omega (arith, less))) h
    ] refl e

none_at : (id : TableId) (rest : List Table) (place : ℕ) (none : Table) → list_any (has_id id) rest ≡ false → place < length rest → same_table id (slice_index_or rest place none).id ≡ false
none_at id [] place none any less = absurd (omega (arith, less))
none_at id (x ∷ rest) zero none any less = (or_false (same_table id x.id) (list_any (has_id id) rest) any).0
none_at id (x ∷ rest) (suc place) none any less = none_at id rest place none (or_false (same_table id x.id) (list_any (has_id id) rest) any).1 (omega (arith, less))

-- tables at two places have two numbers
apart_at : (tables : List Table) (early late : ℕ) (none : Table) → have_distinct_ids tables ≡ true → early < late → late < length tables → same_table (slice_index_or tables early none).id (slice_index_or tables late none).id ≡ false
apart_at [] early late none distinct before less = absurd (omega (arith, less))
apart_at (x ∷ rest) early zero none distinct before less = absurd (omega (arith, before))
apart_at (x ∷ rest) zero (suc late) none distinct before less =
    none_at x.id rest late none (not_false (list_any (has_id x.id) rest) (both_true (not (list_any (has_id x.id) rest)) (have_distinct_ids rest) distinct).0) (omega (arith, less))
apart_at (x ∷ rest) (suc early) (suc late) none distinct before less =
    apart_at rest early late none (both_true (not (list_any (has_id x.id) rest)) (have_distinct_ids rest) distinct).1 (omega (arith, before)) (omega (arith, less))

-- a table before a place has another number than the one there
apart_of : (tables : List Table) (place at : ℕ) (table none : Table) → at < length tables → table ≡ slice_index_or tables at none → have_distinct_ids tables ≡ true → place < at → (slice_index_or tables place none).id ≢ table.id
apart_of tables place at table none within is distinct less e =
    let ids : same_table (slice_index_or tables place none).id (slice_index_or tables at none).id ≡ true =
    ap (λ (t : TableId). same_table t (slice_index_or tables at none).id) (e ∙ ap (λ (t : Table). t.id) is) ∙ same_table-refl (slice_index_or tables at none).id in
    let wrong : true ≡ false = sym ids ∙ apart_at tables place at none distinct less within in
    cc wrong

-- one table more is grouped
pub grouped_more : (before now : List (TableId × ℕ)) (tables : List Table) (at : ℕ) (table : Table)
    → at < length tables
    → table ≡ get_or tables at table
    → have_distinct_ids tables ≡ true
    → told_runs now table.id ≡ Some (2 ^ table.map.log2)
    → ((t : TableId) → t ≢ table.id → told_runs now t ≡ told_runs before t)
    → ((place : ℕ) (none : Table) → place < at → 2 ^ log2_of before (slice_index_or tables place none).id ≡ 2 ^ (slice_index_or tables place none).map.log2)
    → (place : ℕ) (none : Table) → place < at + 1 → 2 ^ log2_of now (slice_index_or tables place none).id ≡ 2 ^ (slice_index_or tables place none).map.log2
grouped_more before now tables at table within read distinct here others each place none below =
    let most : place ≤ at = omega (arith, below) in
    let is : table ≡ slice_index_or tables at none = get_or_read tables at table within read none in
    let count : 2 ^ log2_of now table.id ≡ 2 ^ table.map.log2 = some_is (2 ^ log2_of now table.id) (2 ^ table.map.log2) here in
    elim (eq-or-lt_of_le most) [
      | inl same ↦
          subst (λ n. 2 ^ log2_of now (slice_index_or tables n none).id ≡ 2 ^ (slice_index_or tables n none).map.log2) (sym same)
          (subst (λ (t : Table). 2 ^ log2_of now t.id ≡ 2 ^ t.map.log2) is count)
      | inr less ↦
          some_is (2 ^ log2_of now (slice_index_or tables place none).id) (2 ^ log2_of before (slice_index_or tables place none).id)
          (others (slice_index_or tables place none).id (apart_of tables place at table none within is distinct less)) ∙ each place none less
    ]

-- ---- a settled table has no decision

resize_either : (v : Bool) (a b : Table) (x : Option Decision) → a.resize ≡ x → b.resize ≡ x → (cond v a b).resize ≡ x
resize_either true a b x p q = p
resize_either false a b x p q = q

whole_by : (c : Command) (i : ℕ) (t : Table) (settled : Bool) → (settled ≡ true → t.resize ≡ None) → settled_after c t.id settled ≡ true → (table_after c i t).resize ≡ None
whole_by (CreateTable id log2 replicas) i t settled was is = was is
whole_by (Start id tablet leaving pending) i t settled was is = resize_either (same_table id t.id) _ _ None (was is) (was is)
whole_by (Advance session to) i t settled was is = was is
whole_by (SetFence fence) i t settled was is = was is
whole_by (Join host) i t settled was is = was is
whole_by (Leave host) i t settled was is = was is
whole_by (Resize id Keep) i t settled was is = resize_either (same_table id t.id) _ _ None refl (was is)
whole_by (Resize id Split) i t settled was is =
    elim (same_table id t.id) as (λ v. (not v && settled) ≡ true → (cond v (after_resize Split i t) t).resize ≡ None) [ true ↦ λ h. cc h | false ↦ λ h. was h ] is
whole_by (Resize id Merge) i t settled was is =
    elim (same_table id t.id) as (λ v. (not v && settled) ≡ true → (cond v (after_resize Merge i t) t).resize ≡ None) [ true ↦ λ h. cc h | false ↦ λ h. was h ] is
whole_by (FinalizeResize id seq) i t settled was is =
    elim (same_table id t.id) as (λ v. (v || settled) ≡ true → (cond v (after_finalize t) t).resize ≡ None) [ true ↦ λ h. refl | false ↦ λ h. was h ] is

whole_one : (c : Command) (i : ℕ) (commands : List Command) (t : Table) → IsWhole commands t → IsWhole (c ∷ commands) (table_after c i t)
whole_one c i commands t was settled =
    whole_by c i t (is_settled commands t.id) was (subst (λ (id : TableId). is_settled (c ∷ commands) id ≡ true) (keeps_id c i t) settled)

created_none : (c : Command) (k : ℕ) (d : Table) → k < length (created_tables c) → (slice_index_or (created_tables c) k d).resize ≡ None
created_none (CreateTable id log2 replicas) zero d less = refl
created_none (CreateTable id log2 replicas) (suc k) d less = absurd (omega (arith, less))
created_none (Start id tablet leaving pending) k d less = absurd (omega (arith, less))
created_none (Advance session to) k d less = absurd (omega (arith, less))
created_none (SetFence fence) k d less = absurd (omega (arith, less))
created_none (Join host) k d less = absurd (omega (arith, less))
created_none (Leave host) k d less = absurd (omega (arith, less))
created_none (Resize id kind) k d less = absurd (omega (arith, less))
created_none (FinalizeResize id seq) k d less = absurd (omega (arith, less))

whole_all : (c : Command) (i : ℕ) (commands : List Command) (tables : List Table) → All (IsWhole commands) tables → All (IsWhole (c ∷ commands)) (map (table_after c i) tables ++ created_tables c)
whole_all c i commands tables whole =
    All-append (IsWhole (c ∷ commands)) (map (table_after c i) tables) (created_tables c)
    (All-map (IsWhole (c ∷ commands)) (table_after c i) tables (λ k d less. whole_one c i commands (slice_index_or tables k d) (whole k d less)))
    (λ k d less settled. created_none c k d less)

whole_after : (s : Topology) (c : Command) (i : ℕ) (commands : List Command) → All (IsWhole commands) s.tables → All (IsWhole (c ∷ commands)) (after s c i).tables
whole_after s (CreateTable id log2 replicas) i commands whole = whole_all (CreateTable id log2 replicas) i commands s.tables whole
whole_after s (Start id tablet leaving pending) i commands whole = whole_all (Start id tablet leaving pending) i commands s.tables whole
whole_after s (Advance session to) i commands whole = whole_all (Advance session to) i commands s.tables whole
whole_after s (SetFence fence) i commands whole = whole
whole_after s (Join host) i commands whole = whole_all (Join host) i commands s.tables whole
whole_after s (Leave host) i commands whole = whole_all (Leave host) i commands s.tables whole
whole_after s (Resize id kind) i commands whole = whole_all (Resize id kind) i commands s.tables whole
whole_after s (FinalizeResize id seq) i commands whole = whole_all (FinalizeResize id seq) i commands s.tables whole

-- ---- a settled table is not regrouped

split_open : (t : Table) (number : Session) → is_split_by number t ≡ true → t.resize ≡ None → ⊥
split_open t number splits none =
    let wrong : false ≡ true = ap (splits_by number) (sym none) ∙ splits in cc wrong

ready_apart : (state : Topology) (number : Session) (commands : List Command) (id : TableId) → All (IsWhole commands) state.tables → is_settled commands id ≡ true → is_grouped (grouping_split (find (is_split_by number) state.tables)) id ≡ false
ready_apart state number commands id whole settled =
    elim (find (is_split_by number) state.tables) as (λ o. find (is_split_by number) state.tables ≡ o → is_grouped (grouping_split o) id ≡ false) [
      | None ↦ λ e. refl
      | Some t ↦ λ e.
          let found = found_in (IsWhole commands) (is_split_by number) state.tables t whole e in
          elim (nat_lt t.map.log2 10) as (λ v. is_grouped (cond v (Some (let g : Grouping = record { table = t.id; log2 = t.map.log2 + 1 } in g)) None) id ≡ false) [
            | true ↦ differ id t.id (λ same. split_open t number found.1 (found.0 (subst (λ (x : TableId). is_settled commands x ≡ true) same settled)))
            | false ↦ refl
          ]
    ] refl

told_apart : (state : Topology) (what : What) (commands : List Command) (id : TableId) → All (IsWhole commands) state.tables → is_settled commands id ≡ true → is_grouped (grouping_told state what) id ≡ false
told_apart state (Ready number) commands id whole settled = ready_apart state number commands id whole settled
told_apart state (Drain version) commands id whole settled = refl
told_apart state (FenceAt version) commands id whole settled = refl
told_apart state (PullDone session) commands id whole settled = refl
told_apart state (CleanOf session) commands id whole settled = refl

-- the table of a group is found in the state
group_apart : (next : Topology) (x id : TableId) → (id ≡ x → ⊥) → is_grouped (grouping_for next (Some x)) id ≡ false
group_apart next x id apart =
    elim (table_in next.tables x) as (λ o. table_in next.tables x ≡ o → is_grouped (grouping_as o) id ≡ false) [
      | None ↦ λ e. refl
      | Some n ↦ λ e. differ id n.id (λ same. apart (same ∙ sym (table_in-id next.tables x n e)))
    ] refl

apply_apart : (s : Topology) (c : Command) (next : Topology) (commands : List Command) (id : TableId) (t : Table) → rule s c ≡ None → All (IsWhole commands) s.tables → table_in s.tables id ≡ Some t → is_settled commands id ≡ true → is_grouped (grouping_for next (grouped_table c)) id ≡ false
apply_apart s (CreateTable x log2 replicas) next commands id t judged whole found settled =
    group_apart next x id (λ same.
    let new : has_table s x ≡ false = (create_passes s x log2 replicas judged).new in
    let here : has_table s x ≡ true = ap (λ (y : TableId). has_table s y) (sym same) ∙ ap is_some found in
    let wrong : true ≡ false = sym here ∙ new in cc wrong)
apply_apart s (Start x tablet leaving pending) next commands id t judged whole found settled = refl
apply_apart s (Advance session to) next commands id t judged whole found settled = refl
apply_apart s (SetFence fence) next commands id t judged whole found settled = refl
apply_apart s (Join host) next commands id t judged whole found settled = refl
apply_apart s (Leave host) next commands id t judged whole found settled = refl
apply_apart s (Resize x kind) next commands id t judged whole found settled = refl
apply_apart s (FinalizeResize x seq) next commands id t judged whole found settled =
    group_apart next x id (λ same.
    let decided : is_decided seq (table_or_empty s x).resize ≡ true = (finalize_passes s x seq judged).decided in
    let here : table_or_empty s x ≡ t = ap (table_or_empty s) (sym same) ∙ named s id t found in
    let number : id ≡ t.id = table_in-id s.tables id t found in
    let none : t.resize ≡ None = table_has (IsWhole commands) s.tables id t whole found (subst (λ (y : TableId). is_settled commands y ≡ true) number settled) in
    let wrong : false ≡ true = ap (is_decided seq) (sym none) ∙ ap (λ (y : Table). is_decided seq y.resize) (sym here) ∙ decided in cc wrong)

not_grouped : (view : HostView) (input : HostInput) (commands : List Command) (id : TableId) (t : Table) → CanTake view input → All (IsWhole commands) view.state.tables → table_in view.state.tables id ≡ Some t → is_settled commands id ≡ true → is_grouped (grouping_of view input) id ≡ false
not_grouped view (Apply command) commands id t fits whole found settled =
    apply_apart view.state command (after view.state command (view.applied + 1)) commands id t fits.judged whole found settled
not_grouped view (AnswerAsk ask) commands id t fits whole found settled = told_apart view.state ask.what commands id whole settled
not_grouped view (Quiet version) commands id t fits whole found settled = refl
not_grouped view (Write ask) commands id t fits whole found settled = refl
not_grouped view (Read ask) commands id t fits whole found settled = refl
not_grouped view (SendChunk ask) commands id t fits whole found settled = refl
not_grouped view (TakeChunk chunk) commands id t fits whole found settled = refl
not_grouped view (Clean ask) commands id t fits whole found settled = refl
not_grouped view (Pull session) commands id t fits whole found settled = refl

-- ---- what becomes of run counts

kept_runs : (grouping : Option Grouping) (runs : TableId → Option ℕ) (id : TableId) → is_grouped grouping id ≡ false → runs_with grouping runs id ≡ runs id
kept_runs None runs id apart = refl
kept_runs (Some grouping) runs id apart = ap (λ v. cond v (option_map (λ _. 2 ^ grouping.log2) (runs id)) (runs id)) apart

-- where the runs are as before
pub runs_same : (state : Topology) (commands : List Command) (old new : List (TableId × ℕ)) → ((t : TableId) → told_runs new t ≡ told_runs old t) → LieInRuns state commands old → LieInRuns state commands new
runs_same state commands old new same laid =
    record { whole = laid.whole; counts = λ id t found settled. some_is _ _ (same id) ∙ laid.counts id t found settled }

-- where memory was refused
pub runs_left : (view : HostView) (input : HostInput) (commands : List Command) (old new : List (TableId × ℕ)) → CanTake view input → AreLeft (grouping_of view input) (told_runs old) (told_runs new) → LieInRuns view.state commands old → LieInRuns view.state commands new
runs_left view input commands old new fits left laid =
    record {
      whole = laid.whole;
      counts = λ id t found settled. elim (left id) [
        | inl same ↦ some_is _ _ same ∙ laid.counts id t found settled
        | inr grouped ↦ (let wrong : true ≡ false = sym grouped.0 ∙ not_grouped view input commands id t fits laid.whole found settled in cc wrong)
      ];
    }

-- where no command is applied
runs_stay : (view : HostView) (input : HostInput) (commands : List Command) (old new : List (TableId × ℕ)) → CanTake view input → ((t : TableId) → told_runs new t ≡ runs_with (grouping_of view input) (told_runs old) t) → LieInRuns view.state commands old → LieInRuns view.state commands new
runs_stay view input commands old new fits runs laid =
    record {
      whole = laid.whole;
      counts = λ id t found settled.
          some_is _ _ (runs id ∙ kept_runs (grouping_of view input) (told_runs old) id (not_grouped view input commands id t fits laid.whole found settled)) ∙ laid.counts id t found settled;
    }

-- a table that is regrouped has the runs of the state after the command
grouped_runs : (next : Topology) (of : Option TableId) (runs : List (TableId × ℕ)) (id : TableId) (t : Table) → table_in next.tables id ≡ Some t → is_grouped (grouping_for next of) id ≡ true → runs_with (grouping_for next of) (told_runs runs) id ≡ Some (2 ^ t.map.log2)
grouped_runs next None runs id t found grouped = cc grouped
grouped_runs next (Some x) runs id t found grouped =
    elim (table_in next.tables x) as (λ o. table_in next.tables x ≡ o → is_grouped (grouping_as o) id ≡ true → runs_with (grouping_as o) (told_runs runs) id ≡ Some (2 ^ t.map.log2)) [
      | None ↦ λ e h. cc h
      | Some n ↦ λ e h.
          let same : id ≡ x = same_table-same id n.id h ∙ sym (table_in-id next.tables x n e) in
          let is : n ≡ t = some_is n t (sym e ∙ ap (table_in next.tables) (sym same) ∙ found) in
          ap (λ v. cond v (Some (2 ^ n.map.log2)) (told_runs runs id)) h ∙ ap (λ (y : Table). Some (2 ^ y.map.log2)) is
    ] refl grouped

-- one that is not regrouped is not the one that the command makes or resizes
apart_from : (next : Topology) (x id : TableId) (t : Table) → table_in next.tables id ≡ Some t → is_grouped (grouping_for next (Some x)) id ≡ false → same_table x id ≡ false
apart_from next x id t found apart =
    differ x id (λ same.
    let at : is_grouped (grouping_as (table_in next.tables id)) id ≡ false = subst (λ (y : TableId). is_grouped (grouping_as (table_in next.tables y)) id ≡ false) same apart in
    let there : same_table id t.id ≡ false = subst (λ (o : Option Table). is_grouped (grouping_as o) id ≡ false) found at in
    let here : same_table id t.id ≡ true = ap (same_table id) (sym (table_in-id next.tables id t found)) ∙ same_table-refl id in
    let wrong : true ≡ false = sym here ∙ there in cc wrong)

log2_either : (v : Bool) (a b : Table) (n : ℕ) → a.map.log2 ≡ n → b.map.log2 ≡ n → (cond v a b).map.log2 ≡ n
log2_either true a b n p q = p
log2_either false a b n p q = q

-- it was settled before, and has as many tablets
before : (next : Topology) (c : Command) (i : ℕ) (t : Table) (settled : Bool) → table_in next.tables t.id ≡ Some (table_after c i t) → is_grouped (grouping_for next (grouped_table c)) t.id ≡ false → settled_after c t.id settled ≡ true → (settled ≡ true) × ((table_after c i t).map.log2 ≡ t.map.log2)
before next (CreateTable x log2 replicas) i t settled found apart is = (is, refl)
before next (Start x tablet leaving pending) i t settled found apart is = (is, log2_either (same_table x t.id) _ _ t.map.log2 refl refl)
before next (Advance session to) i t settled found apart is = (is, refl)
before next (SetFence fence) i t settled found apart is = (is, refl)
before next (Join host) i t settled found apart is = (is, refl)
before next (Leave host) i t settled found apart is = (is, refl)
before next (Resize x Keep) i t settled found apart is = (is, log2_either (same_table x t.id) _ _ t.map.log2 refl refl)
before next (Resize x Split) i t settled found apart is = ((both_true (not (same_table x t.id)) settled is).1, log2_either (same_table x t.id) _ _ t.map.log2 refl refl)
before next (Resize x Merge) i t settled found apart is = ((both_true (not (same_table x t.id)) settled is).1, log2_either (same_table x t.id) _ _ t.map.log2 refl refl)
before next (FinalizeResize x seq) i t settled found apart is =
    let other : same_table x t.id ≡ false = apart_from next x t.id (table_after (FinalizeResize x seq) i t) found apart in
    (sym (ap (λ v. v || settled) other) ∙ is, ap (λ v. (cond v (after_finalize t) t).map.log2) other)

-- a table that a command makes is regrouped
none_among : (tables : List Table) (id : TableId) (t : Table) → ((k : ℕ) (d : Table) → k < length tables → same_table id (slice_index_or tables k d).id ≡ false) → table_in tables id ≡ Some t → ⊥
none_among [] id t others e = cc e
none_among (x ∷ rest) id t others e =
    none_among rest id t (λ k d less. others (suc k) d (omega (arith, less)))
    (sym (ap (λ v. cond v (Some x) (table_in rest id)) (others 0 x (omega arith))) ∙ e)

made_apart : (x id : TableId) (log2 : ℕ) (replicas : List Replica) → same_table id x ≡ false → (k : ℕ) (d : Table) → k < length (created_tables (CreateTable x log2 replicas)) → same_table id (slice_index_or (created_tables (CreateTable x log2 replicas)) k d).id ≡ false
made_apart x id log2 replicas apart zero d less = apart
made_apart x id log2 replicas apart (suc k) d less = absurd (omega (arith, less))

created_grouped : (next : Topology) (c : Command) (id : TableId) (t : Table) → table_in next.tables id ≡ Some t → table_in (created_tables c) id ≡ Some t → is_grouped (grouping_for next (grouped_table c)) id ≡ false → ⊥
created_grouped next (CreateTable x log2 replicas) id t found made apart =
    let other = apart_from next x id t found apart in
    let turned : same_table id x ≡ false = differ id x (λ same. (let here : same_table x id ≡ true = ap (same_table x) same ∙ same_table-refl x in let wrong : true ≡ false = sym here ∙ other in cc wrong)) in
    none_among (created_tables (CreateTable x log2 replicas)) id t (made_apart x id log2 replicas turned) made
created_grouped next (Start x tablet leaving pending) id t found made apart = cc made
created_grouped next (Advance session to) id t found made apart = cc made
created_grouped next (SetFence fence) id t found made apart = cc made
created_grouped next (Join host) id t found made apart = cc made
created_grouped next (Leave host) id t found made apart = cc made
created_grouped next (Resize x kind) id t found made apart = cc made
created_grouped next (FinalizeResize x seq) id t found made apart = cc made

-- where a command is applied: the table was there before
stayed : (s : Topology) (c : Command) (i : ℕ) (commands : List Command) (old new : List (TableId × ℕ)) (id : TableId) (t last : Table) → ((x : TableId) → told_runs new x ≡ runs_with (grouping_for (after s c i) (grouped_table c)) (told_runs old) x) → LieInRuns s commands old
    → table_in s.tables id ≡ Some t → table_in (after s c i).tables id ≡ Some last → is_settled (c ∷ commands) id ≡ true → is_grouped (grouping_for (after s c i) (grouped_table c)) id ≡ false → 2 ^ log2_of new id ≡ 2 ^ last.map.log2
stayed s c i commands old new id t last runs laid was found settled apart =
    let number : id ≡ t.id = table_in-id s.tables id t was in
    let later : table_in (after s c i).tables id ≡ Some (table_after c i t) = table_then s c i id t was in
    let is : table_after c i t ≡ last = some_is (table_after c i t) last (sym later ∙ found) in
    let earlier = before (after s c i) c i t (is_settled commands t.id) (ap (table_in (after s c i).tables) (sym number) ∙ later)
    (subst (λ (x : TableId). is_grouped (grouping_for (after s c i) (grouped_table c)) x ≡ false) number apart)
    (subst (λ (x : TableId). is_settled (c ∷ commands) x ≡ true) number settled) in
    some_is _ _ (runs id ∙ kept_runs (grouping_for (after s c i) (grouped_table c)) (told_runs old) id apart)
    ∙ laid.counts id t was (subst (λ (x : TableId). is_settled commands x ≡ true) (sym number) earlier.0)
    ∙ ap (λ n. 2 ^ n) (sym earlier.1) ∙ ap (λ (x : Table). 2 ^ x.map.log2) is

counted : (s : Topology) (c : Command) (i : ℕ) (commands : List Command) (old new : List (TableId × ℕ)) (id : TableId) (last : Table) → ((x : TableId) → told_runs new x ≡ runs_with (grouping_for (after s c i) (grouped_table c)) (told_runs old) x) → LieInRuns s commands old
    → table_in (after s c i).tables id ≡ Some last → is_settled (c ∷ commands) id ≡ true → 2 ^ log2_of new id ≡ 2 ^ last.map.log2
counted s c i commands old new id last runs laid found settled =
    elim (is_grouped (grouping_for (after s c i) (grouped_table c)) id) as (λ v. is_grouped (grouping_for (after s c i) (grouped_table c)) id ≡ v → 2 ^ log2_of new id ≡ 2 ^ last.map.log2) [
      | true ↦ λ grouped. some_is _ _ (runs id ∙ grouped_runs (after s c i) (grouped_table c) old id last found grouped)
      | false ↦ λ apart.
          elim (table_in s.tables id) as (λ o. table_in s.tables id ≡ o → 2 ^ log2_of new id ≡ 2 ^ last.map.log2) [
            | None ↦ λ e. absurd (created_grouped (after s c i) c id last found (sym (no_table_then s c i id e) ∙ found) apart)
            | Some t ↦ λ e. stayed s c i commands old new id t last runs laid e found settled apart
          ] refl
    ] refl

runs_apply : (s : Topology) (c : Command) (i : ℕ) (commands : List Command) (old new : List (TableId × ℕ)) → ((x : TableId) → told_runs new x ≡ runs_with (grouping_for (after s c i) (grouped_table c)) (told_runs old) x) → LieInRuns s commands old → LieInRuns (after s c i) (c ∷ commands) new
runs_apply s c i commands old new runs laid =
    record { whole = whole_after s c i commands laid.whole; counts = λ id last found settled. counted s c i commands old new id last runs laid found settled }

-- ---- the commands that a host has applied

first_next : (log : List Command) (n : ℕ) (c : Command) → command_at log (n + 1) ≡ Some c → first_commands log (n + 1) ≡ c ∷ first_commands log n
first_next [] n c e = cc e
first_next (d ∷ log) n c e =
    elim (eqb (n + 1) (length log + 1)) as (λ v. eqb (n + 1) (length log + 1) ≡ v → cond v (Some d) (command_at log (n + 1)) ≡ Some c → first_commands (d ∷ log) (n + 1) ≡ c ∷ first_commands (d ∷ log) n) [
      | true ↦ λ h k.
          let number : n + 1 ≡ length log + 1 = eqb-true (n + 1) (length log + 1) h in
          let same : d ≡ c = some_is d c k in
          let full : nat_lt (length log) (n + 1) ≡ true = lt-ltb (length log) (n + 1) (omega (arith, number)) in
          let shorter : nat_lt (length log) n ≡ false = le-ltb (length log) n (omega (arith, number)) in
          ap (λ v. cond v (d ∷ log) (first_commands log (n + 1))) full ∙ ap (λ x. x ∷ log) same
          ∙ ap (λ l. c ∷ l) (sym (ap (λ v. cond v (d ∷ log) (first_commands log n)) shorter ∙ all_first log n (omega (arith, number))))
      | false ↦ λ h k.
          let low : n + 1 ≤ length log = command_within log (n + 1) c k in
          let long : nat_lt (length log) (n + 1) ≡ false = le-ltb (length log) (n + 1) low in
          let shorter : nat_lt (length log) n ≡ false = le-ltb (length log) n (omega (arith, low)) in
          ap (λ v. cond v (d ∷ log) (first_commands log (n + 1))) long ∙ first_next log n c k
          ∙ ap (λ l. c ∷ l) (sym (ap (λ v. cond v (d ∷ log) (first_commands log n)) shorter))
    ] refl e
  where
    all_first : (log : List Command) (n : ℕ) → length log ≤ n → first_commands log n ≡ log
    all_first [] n le = refl
    all_first (d ∷ log) n le = ap (λ v. cond v (d ∷ log) (first_commands log n)) (lt-ltb (length log) n (omega (arith, le)))

-- what a host's own event leaves
pub runs_play : (view : HostView) (input : HostInput) (log : List Command) (old new : List (TableId × ℕ))
    → ((c : Command) → input ≡ Apply c → command_at log (view.applied + 1) ≡ Some c)
    → CanTake view input
    → ((t : TableId) → told_runs new t ≡ runs_with (grouping_of view input) (told_runs old) t)
    → LieInRuns view.state (first_commands log view.applied) old
    → LieInRuns (host_after view input).state (first_commands log (host_after view input).applied) new
runs_play view (Apply c) log old new given fits runs laid =
    subst (λ (l : List Command). LieInRuns (after view.state c (view.applied + 1)) l new) (sym (first_next log view.applied c (given c refl)))
    (runs_apply view.state c (view.applied + 1) (first_commands log view.applied) old new runs laid)
runs_play view (AnswerAsk ask) log old new given fits runs laid = runs_stay view (AnswerAsk ask) (first_commands log view.applied) old new fits runs laid
runs_play view (Quiet version) log old new given fits runs laid = runs_stay view (Quiet version) (first_commands log view.applied) old new fits runs laid
runs_play view (Write ask) log old new given fits runs laid = runs_stay view (Write ask) (first_commands log view.applied) old new fits runs laid
runs_play view (Read ask) log old new given fits runs laid = runs_stay view (Read ask) (first_commands log view.applied) old new fits runs laid
runs_play view (SendChunk ask) log old new given fits runs laid = runs_stay view (SendChunk ask) (first_commands log view.applied) old new fits runs laid
runs_play view (TakeChunk chunk) log old new given fits runs laid = runs_stay view (TakeChunk chunk) (first_commands log view.applied) old new fits runs laid
runs_play view (Clean ask) log old new given fits runs laid = runs_stay view (Clean ask) (first_commands log view.applied) old new fits runs laid
runs_play view (Pull session) log old new given fits runs laid = runs_stay view (Pull session) (first_commands log view.applied) old new fits runs laid

-- ---- hosts of a history

first_stay : (command : Option Command) (log : List Command) (n : ℕ) → n ≤ length log → first_commands (with_command command log) n ≡ first_commands log n
first_stay None log n within = refl
first_stay (Some c) log n within = ap (λ v. cond v (c ∷ log) (first_commands log n)) (le-ltb (length log) n within)

-- an event of another actor
pub runs_others : (opening : Opening) (history : History) (entry : Entry) (host : HostId) (log2s : List (TableId × ℕ)) → IsLegalHistory opening (entry ∷ history) → host_view opening (entry ∷ history) host ≡ host_view opening history host → HaveRuns opening history host log2s → HaveRuns opening (entry ∷ history) host log2s
runs_others opening history entry host log2s legal stays laid =
    let state : applied_state opening history host ≡ applied_state opening (entry ∷ history) host = sym (ap (λ (v : HostView). v.state) stays) in
    let count : applied_count history host ≡ applied_count (entry ∷ history) host = sym (ap (λ (v : HostView). v.applied) stays) in
    let longer = first_stay (accepted_command entry.event entry.outputs) (log_of history) (applied_count history host) (applied_within opening history host legal.1) in
    let commands : applied_commands history host ≡ applied_commands (entry ∷ history) host = sym longer ∙ ap (first_commands (log_of (entry ∷ history))) count in
    subst (λ (s : Topology). LieInRuns s (applied_commands (entry ∷ history) host) log2s) state
    (subst (λ (l : List Command). LieInRuns (applied_state opening history host) l log2s) commands laid)

-- a host at the opening
pub opening_runs : (opening : Opening) (host : HostId) (log2s : List (TableId × ℕ)) → IsValidOpening opening → AreGrouped log2s (opening_state opening).tables → HaveRuns opening [] host log2s
opening_runs opening host log2s valid grouped =
    record {
      whole = λ place none less settled. none_of ((slice_index_or (opening_state opening).tables place none).resize)
          (AllPass-from_list_all is_undecided (opening_state opening).tables valid.topology.undecided place none less);
      counts = λ id t found settled. grouped_in (opening_state opening).tables log2s id t grouped found;
    }
  where
    none_of : (decision : Option Decision) → is_none decision ≡ true → decision ≡ None
    none_of None e = refl
    none_of (Some d) e = cc e

-- what the host of an event has, as the history has it
pub laid_of : (opening : Opening) (history : History) (host : HostId) (view : HostView) (log2s : List (TableId × ℕ)) → view ≡ host_view opening history host → HaveRuns opening history host log2s → LieInRuns view.state (first_commands (log_of history) view.applied) log2s
laid_of opening history host view log2s is laid =
    subst (λ (v : HostView). LieInRuns v.state (first_commands (log_of history) v.applied) log2s) (sym is) laid

-- and what it has once its event was played, which adds nothing to the log
pub laid_then : (opening : Opening) (history : History) (entry : Entry) (host : HostId) (view : HostView) (log2s : List (TableId × ℕ)) → view ≡ host_view opening (entry ∷ history) host → accepted_command entry.event entry.outputs ≡ None → LieInRuns view.state (first_commands (log_of history) view.applied) log2s → HaveRuns opening (entry ∷ history) host log2s
laid_then opening history entry host view log2s is silent laid =
    let log : log_of (entry ∷ history) ≡ log_of history = ap (λ command. with_command command (log_of history)) silent in
    subst (λ (l : List Command). LieInRuns (applied_state opening (entry ∷ history) host) (first_commands l (applied_count (entry ∷ history) host)) log2s) (sym log)
    (subst (λ (v : HostView). LieInRuns v.state (first_commands (log_of history) v.applied) log2s) is laid)

-- ---- by what became of a call

pub then_ok : (P Q : Type 0) (result : Result (Unit {0}) NoMemory) → (P → Q) → OnOk result P → OnOk result Q
then_ok P Q (Ok u) so p = so p
then_ok P Q (Err e) so p = tt

pub then_err : (P Q : Type 0) (result : Result (Unit {0}) NoMemory) → (P → Q) → OnErr result P → OnErr result Q
then_err P Q (Ok u) so p = tt
then_err P Q (Err e) so p = so p

-- The first states of versions, as the log grows.
use Rattle.std.proofs.Common.{Err, List, None, Ok, OnErr, OnOk, Option, Result, Some, [], ap, arith, eqb, false, is_some, length, refl, slice_get, subst, sym, true, ◌++◌, ◌+◌, ◌<◌, ◌∙◌, ◌∷◌, ◌≡◌, ◌≤◌, ℕ, inl, inr, suc, zero}
use Rattle.std.proofs.lemmas.Bool.{cases_lt, eqb-true}
use Rattle.std.proofs.lemmas.Bool.Decides.{nat_tests}
use Rattle.std.proofs.lemmas.List.{append-nil, length-append}
use Rattle.std.specs.Option.{option_to_list}
use Rattle.std.specs.Prelude.{IfOk, if◌then◌else◌, ◌-◌, ◌==◌}
use Rattle.base_ids.specs.declared.ids.Version.{Version}
use Rattle.base_ids.specs.declared.memory.NoMemory.{NoMemory}
use Rattle.base_ids.specs.declared.rules.Appended.{Appended}
use Rattle.base_ids.specs.declared.rules.Appended.TheVariants.{Accepted, Conflict, Illegal}
use Rattle.group0_log.proofs.EntryLemmas.{get-end, get-other}
use Rattle.base_ids.specs.Outcomes.{outcome_of}
use Rattle.group0_log.specs.Log.{CommandLog, log_after, only_with, or_later, state_of, state_with}
use Rattle.topo_state.specs.After.{after, fence_set}
use Rattle.topo_state.specs.Rules.{rule}
use Rattle.topo_state.specs.State.{Topology}
use Rattle.topo_state.specs.declared.command.Command.{Command}
use Rattle.topo_state.specs.declared.command.Command.TheVariants.{SetFence}
use Rattle.topo_state.specs.declared.command.Rule.{Rule}
use Rattle.snapshot_log.specs.First.{AreFirst, first_with, next_first, outcome_in, raised, snapshot_in}

get-within : {X : Type 0} (xs : List X) (n : ℕ) → n < length xs → is_some (slice_get xs n) ≡ true
get-within [] n less = absurd (omega (arith, less))
get-within (x ∷ xs) zero less = refl
get-within (x ∷ xs) (suc n) less = get-within xs n (omega (arith, less))

get-behind : {X : Type 0} (xs : List X) (n : ℕ) → length xs ≤ n → slice_get xs n ≡ None
get-behind [] n le = refl
get-behind (x ∷ xs) zero le = absurd (omega (arith, le))
get-behind (x ∷ xs) (suc n) le = get-behind xs n (omega (arith, le))

first_stays : (a b : Option Topology) → is_some a ≡ true → a ≡ or_later a b
first_stays (Some state) b some = refl
first_stays None b some = cc some

not_that : (version : ℕ) (state : Topology) → (state.version.0 ≡ version → ⊥) → only_with version state ≡ None
not_that version state apart = let other : (state.version.0 == version) ≡ false = grind (arith, nat_tests, apart) in rw other refl

that_one : (version : ℕ) (state : Topology) → state.version.0 ≡ version → only_with version state ≡ Some state
that_one version state is = let same : (state.version.0 == version) ≡ true = grind (arith, nat_tests, is) in rw same refl

none_or : (a b c : Option Topology) → a ≡ None → b ≡ c → c ≡ or_later a b
none_or a b c none is = rw none (sym is)

-- a further state of the last version is not its first
first_none : (first : Topology) (log : List Command) (snapshots : List Topology) (next : Topology) → AreFirst (record { first = first; commands = log }) snapshots → next.version.0 ≡ (state_of first log).version.0 → (place : ℕ) → slice_get snapshots place ≡ or_later (state_with first log (place + 1)) (only_with (place + 1) next)
first_none first log snapshots next are same place =
    elim (cases_lt place (length snapshots)) [
      | inl within ↦ are.each place ∙ first_stays (state_with first log (place + 1)) (only_with (place + 1) next) (ap is_some (sym (are.each place)) ∙ get-within snapshots place within)
      | inr behind ↦
          let apart : next.version.0 ≡ place + 1 → ⊥ = λ e. omega (arith, e, behind, same, are.count) in
          none_or (state_with first log (place + 1)) (only_with (place + 1) next) (slice_get snapshots place) (sym (are.each place) ∙ get-behind snapshots place behind) (not_that (place + 1) next apart ∙ sym (get-behind snapshots place behind))
    ]

-- the first state of the next version is
first_more : (first : Topology) (log : List Command) (snapshots : List Topology) (next : Topology) → AreFirst (record { first = first; commands = log }) snapshots → next.version.0 ≡ (state_of first log).version.0 + 1 → (place : ℕ) → slice_get (snapshots ++ next ∷ []) place ≡ or_later (state_with first log (place + 1)) (only_with (place + 1) next)
first_more first log snapshots next are raised place =
    elim (cases_lt place (length snapshots)) [
      | inl within ↦
          let other : place ≡ length snapshots → ⊥ = λ e. omega (arith, e, within) in
          get-other snapshots next place other ∙ are.each place ∙ first_stays (state_with first log (place + 1)) (only_with (place + 1) next) (ap is_some (sym (are.each place)) ∙ get-within snapshots place within)
      | inr behind ↦
          let none : state_with first log (place + 1) ≡ None = sym (are.each place) ∙ get-behind snapshots place behind in
          elim (eqb place (length snapshots)) as (λ b. eqb place (length snapshots) ≡ b → slice_get (snapshots ++ next ∷ []) place ≡ or_later (state_with first log (place + 1)) (only_with (place + 1) next)) [
            | true ↦ λ h.
                let last : place ≡ length snapshots = eqb-true place (length snapshots) h in
                let got : slice_get (snapshots ++ next ∷ []) place ≡ Some next = ap (slice_get (snapshots ++ next ∷ [])) last ∙ get-end snapshots next in
                got ∙ none_or (state_with first log (place + 1)) (only_with (place + 1) next) (Some next) none (that_one (place + 1) next (omega (arith, raised, are.count, last)))
            | false ↦ λ h.
                let other : place ≡ length snapshots → ⊥ = λ e. grind (arith, nat_tests, h, e) in
                let apart : next.version.0 ≡ place + 1 → ⊥ = λ e. other (omega (arith, e, raised, are.count)) in
                get-other snapshots next place other ∙ get-behind snapshots place behind ∙ none_or (state_with first log (place + 1)) (only_with (place + 1) next) None none (not_that (place + 1) next apart)
          ] refl
    ]

-- a command that raises the version adds the next state
raised_first : (first : Topology) (log : List Command) (snapshots : List Topology) (command : Command) → AreFirst (record { first = first; commands = log }) snapshots → AreFirst (record { first = first; commands = command ∷ log }) (snapshots ++ option_to_list (raised command (state_of first (command ∷ log))))
raised_first first log snapshots (SetFence version) are =
    let next = after (state_of first log) (SetFence version) (length log + 1) in
    subst (AreFirst (record { first = first; commands = SetFence version ∷ log })) (sym (append-nil snapshots))
    (record { begins = are.begins; count = are.count; each = first_none first log snapshots next are refl })
raised_first first log snapshots command are = by command refl refl
  where
    by : (c : Command) → raised c (state_of first (c ∷ log)) ≡ Some (state_of first (c ∷ log)) → (state_of first (c ∷ log)).version.0 ≡ (state_of first log).version.0 + 1 → AreFirst (record { first = first; commands = c ∷ log }) (snapshots ++ option_to_list (raised c (state_of first (c ∷ log))))
    by c is version =
        let next = state_of first (c ∷ log) in
        subst (λ o. AreFirst (record { first = first; commands = c ∷ log }) (snapshots ++ option_to_list o)) (sym is)
        (record {
          begins = are.begins;
          count = length-append snapshots (next ∷ []) ∙ omega (arith, are.count, version);
          each = first_more first log snapshots next are version;
        })

-- whatever becomes of a command
outcome_first : (log : CommandLog) (snapshots : List Topology) (read : ℕ) (command : Command) → AreFirst log snapshots → AreFirst (log_after log command (outcome_in log read command)) (snapshots ++ option_to_list (next_first log command (outcome_in log read command)))
outcome_first log snapshots read command are = by_rule (rule (state_of log.first log.commands) command)
  where
    same : AreFirst log (snapshots ++ [])
    same = subst (AreFirst log) (sym (append-nil snapshots)) are

    by_rule : (broken : Option Rule) → AreFirst (log_after log command (outcome_of read (length log.commands) broken)) (snapshots ++ option_to_list (next_first log command (outcome_of read (length log.commands) broken)))
    by_rule None =
        elim (read == length log.commands) as (λ b. AreFirst (log_after log command (if b then Accepted (length log.commands + 1) else Conflict (record { 0 = length log.commands }))) (snapshots ++ option_to_list (next_first log command (if b then Accepted (length log.commands + 1) else Conflict (record { 0 = length log.commands }))))) [
          | true ↦ raised_first log.first log.commands snapshots command are
          | false ↦ same
        ]
    by_rule (Some other) =
        elim (read == length log.commands) as (λ b. AreFirst (log_after log command (if b then Illegal other else Conflict (record { 0 = length log.commands }))) (snapshots ++ option_to_list (next_first log command (if b then Illegal other else Conflict (record { 0 = length log.commands }))))) [
          | true ↦ same
          | false ↦ same
        ]

-- so the log and the first states belong together after a call, whether it had memory or not
pub first_after : (old new : CommandLog) (olds news : List Topology) (read : ℕ) (command : Command) (result : Result (Appended Rule) NoMemory) → AreFirst old olds
    → IfOk result (λ appended. appended ≡ outcome_in old read command)
    → IfOk result (λ appended. new ≡ log_after old command appended)
    → IfOk result (λ appended. news ≡ olds ++ option_to_list (next_first old command appended))
    → OnErr result (new ≡ old)
    → OnErr result (news ≡ olds)
    → AreFirst new news
first_after old new olds news read command (Ok appended) are outcome log snapshots log_kept snapshots_kept =
    let next = outcome_first old olds read command are in
    let logs : new ≡ log_after old command (outcome_in old read command) = log ∙ ap (log_after old command) outcome in
    let firsts : news ≡ olds ++ option_to_list (next_first old command (outcome_in old read command)) = snapshots ∙ ap (λ o. olds ++ option_to_list (next_first old command o)) outcome in
    rw (logs, firsts) next
first_after old new olds news read command (Err refused) are outcome log snapshots log_kept snapshots_kept =
    rw (log_kept, snapshots_kept) are

-- ---- what is found

after_not_lower : (state : Topology) (command : Command) (index : ℕ) → state.version.0 ≤ (after state command index).version.0
after_not_lower state (SetFence version) index = omega arith
after_not_lower state command index = omega arith

not_lower : (first : Topology) (log : List Command) → first.version.0 ≤ (state_of first log).version.0
not_lower first [] = omega arith
not_lower first (command ∷ log) =
    let before = not_lower first log in
    let rises = after_not_lower (state_of first log) command (length log + 1) in
    omega (arith, before, rises)

-- no state has the version 0
none_at_zero : (first : Topology) (log : List Command) → first.version.0 ≡ 1 → state_with first log 0 ≡ None
none_at_zero first [] one = not_that 0 first (λ e. omega (arith, e, one))
none_at_zero first (command ∷ log) one =
    let low = not_lower first (command ∷ log) in
    let last = not_that 0 (state_of first (command ∷ log)) (λ e. omega (arith, e, one, low)) in
    ap (λ s. or_later s (only_with 0 (state_of first (command ∷ log)))) (none_at_zero first log one) ∙ last

found_at : (log : CommandLog) (snapshots : List Topology) (version : ℕ) → AreFirst log snapshots → (if version == 0 then None else slice_get snapshots (version - 1)) ≡ state_with log.first log.commands version
found_at log snapshots zero are = sym (none_at_zero log.first log.commands are.begins)
found_at log snapshots (suc n) are =
    let other : (suc n == 0) ≡ false = grind (arith, nat_tests) in
    let place : suc n - 1 ≡ n = omega arith in
    let number : n + 1 ≡ suc n = omega arith in
    rw other (ap (slice_get snapshots) place ∙ are.each n ∙ ap (state_with log.first log.commands) number)

pub first_found : (log : CommandLog) (snapshots : List Topology) (version : Version) → AreFirst log snapshots → snapshot_in snapshots version ≡ first_with log version
first_found log snapshots version are = found_at log snapshots version.0 are

-- at the opening
pub opening_first : (opening : Topology) (log : CommandLog) (snapshots : List Topology) → opening.version.0 ≡ 1 → log ≡ record { first = opening; commands = [] } → snapshots ≡ opening ∷ [] → AreFirst log snapshots
opening_first opening log snapshots one is are = rw (is, are) (record { begins = one; count = sym one; each = each })
  where
    each : (place : ℕ) → slice_get (opening ∷ []) place ≡ only_with (place + 1) opening
    each zero = sym (that_one (zero + 1) opening (omega (arith, one)))
    each (suc n) = sym (not_that (suc n + 1) opening (λ e. omega (arith, e, one)))

-- an accepted command breaks no rule, and has the next index
pub accepted_judged : (log : CommandLog) (read : ℕ) (command : Command) (index : ℕ) → outcome_in log read command ≡ Accepted index → rule (state_of log.first log.commands) command ≡ None
accepted_judged log read command index is = by_rule (rule (state_of log.first log.commands) command) is
  where
    by_rule : (broken : Option Rule) → outcome_of read (length log.commands) broken ≡ Accepted index → broken ≡ None
    by_rule None e = refl
    by_rule (Some other) e =
        (elim (read == length log.commands) as (λ b. (if b then Illegal other else Conflict (record { 0 = length log.commands })) ≡ Accepted index → Some other ≡ None) [
          | true ↦ λ f. cc f
          | false ↦ λ f. cc f
        ]) e

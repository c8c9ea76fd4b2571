-- A desk stays as it must be at each turn, at each commit, and as messages are taken and skipped.
use Rattle.std.proofs.Common.{ap, arith, inl, inr, refl, subst, sym, ◌∙◌, append_assoc}
use Rattle.std.specs.Prelude.{Err, List, None, Ok, Option, Result, Some, [], false, option_to_list, true, ℕ, ◌++◌, ◌+◌, ◌∷◌, ◌≡◌, ◌≤◌, ◌⊎◌}
use Rattle.base_ids.specs.declared.memory.NoMemory.{NoMemory}
use Rattle.cluster_history.specs.declared.data.Message.{Message}
use Rattle.base_ids.specs.declared.ids.Actor.{Actor}
use Rattle.base_ids.specs.declared.ids.MsgRef.{MsgRef}
use Rattle.cluster_history.specs.History.{History, actor_of, is_by}
use Rattle.cluster_history.specs.declared.data.Entry.{Entry}
use Rattle.cluster_history.specs.declared.data.Opening.{Opening}
use Rattle.base_ids.proofs.NameLemmas.{same_actor-refl}
use Rattle.plan_facts.specs.Own.{own_count, taken_ref}
use Rattle.plan_facts.specs.Skips.{AreCaused, IsCaused, took_of}
use Rattle.plan_facts.specs.Suits.{Carries, Suits}
use Rattle.run_plan.specs.declared.plan.RunPlan.{RunPlan}
use Rattle.plan_facts.specs.declared.skips.Skip.{Skip}
use Rattle.plan_facts.specs.declared.skips.SkipCause.{SkipCause}
use Rattle.plan_facts.proofs.CauseLemmas.{all_caused-other, all_caused-own, caused_placed}
use Rattle.plan_facts.proofs.OtherLemmas.{carries-other, carries-own, suits-other}
use Rattle.plan_facts.proofs.SkipLemmas.{took-other, took-own, took-skip}
use Rattle.engine_desk.specs.Chairs.{AreOthers, HasCommitted, HasTurned, IsLater, IsRun, Known}
use Rattle.engine_desk.specs.Desks.{DeskCommitted, DeskTurned, DeskView, IsDesk, IsFetched, IsSeated, own_entries, skip_of, skipping, taking}
use Rattle.engine_desk.proofs.LaterLemmas.{kept, since}

pub took_since : (opening : Opening) (actor : Actor) (skips : List Skip) (old new : History) → IsLater opening actor old new → took_of actor new skips ≡ took_of actor old skips
took_since opening actor skips old new later =
    since opening actor (λ h. took_of actor h skips) (λ history entry legal other. took-other actor history entry skips other) old new later

pub caused_since : (plan : RunPlan) (opening : Opening) (actor : Actor) (skips : List Skip) (old new : History) → IsLater opening actor old new → AreCaused plan opening actor old skips → AreCaused plan opening actor new skips
caused_since plan opening actor skips old new later =
    kept opening actor (λ h. AreCaused plan opening actor h skips) (λ history entry legal other. all_caused-other plan opening actor history entry skips other) old new later

pub carries_since : (plan : RunPlan) (opening : Opening) (actor : Actor) (old new : History) → IsLater opening actor old new → Carries plan opening actor old → Carries plan opening actor new
carries_since plan opening actor old new later =
    kept opening actor (Carries plan opening actor) (λ history entry legal other. carries-other plan opening actor history entry other) old new later

pub suits_since : (plan : RunPlan) (opening : Opening) (entry : Entry) (old new : History) → IsLater opening (actor_of entry.event) old new → Suits plan opening old entry.event → Suits plan opening new entry.event
suits_since plan opening entry old new later =
    kept opening (actor_of entry.event) (λ h. Suits plan opening h entry.event) (λ history other legal foreign. suits-other plan opening history other entry.event foreign) old new later

-- ---- a turn

seen_more : (plan : RunPlan) (desk : DeskView) (now : History) → IsDesk plan desk → IsLater desk.known.opening desk.known.actor desk.known.seen now → IsDesk plan (record desk { known = record desk.known { seen = now } })
seen_more plan desk now d later =
    record {
      seated = record { valid = d.seated.valid; there = d.seated.there; run = later.run };
      took = d.took ∙ ap (λ l. option_to_list desk.held ++ l) (sym (took_since desk.known.opening desk.known.actor desk.skips desk.known.seen now later));
      skips = caused_since plan desk.known.opening desk.known.actor desk.skips desk.known.seen now later d.skips;
      carries = carries_since plan desk.known.opening desk.known.actor desk.known.seen now later d.carries;
    }

pub desk_turned : (plan : RunPlan) (old new : DeskView) → IsDesk plan old → DeskTurned old new → IsDesk plan new
desk_turned plan old new d t =
    subst (IsDesk plan) (sym (t.is ∙ ap (λ (k : Known). record old { known = k }) t.turned.is)) (seen_more plan old t.turned.now d t.turned.later)

-- ---- a commit

with_entry : (plan : RunPlan) (desk : DeskView) (entry : Entry) (now : History) → IsDesk plan desk → IsLater desk.known.opening desk.known.actor desk.known.seen now → IsRun desk.known.opening (entry ∷ now) → actor_of entry.event ≡ desk.known.actor → desk.held ≡ taken_ref entry.event → Suits plan desk.known.opening desk.known.seen entry.event → IsDesk plan (record desk { known = record desk.known { seen = entry ∷ now }; held = None })
with_entry plan desk entry now d later run author held suits =
    let opening = desk.known.opening in
    let actor = desk.known.actor in
    let seen = desk.known.seen in
    let mine : is_by actor entry.event ≡ true = subst (λ (a : Actor). is_by a entry.event ≡ true) author (same_actor-refl (actor_of entry.event)) in
    let caused = caused_since plan opening actor desk.skips seen now later d.skips in
    let suits_now = suits_since plan opening entry seen now (subst (λ (a : Actor). IsLater opening a seen now) (sym author) later) suits in
    record {
      seated = record { valid = d.seated.valid; there = d.seated.there; run = run };
      took =
          d.took
          ∙ (λ i. option_to_list (held i) ++ sym (took_since opening actor desk.skips seen now later) i)
          ∙ sym (took-own actor now entry desk.skips mine (caused_placed plan opening actor now desk.skips caused));
      skips = all_caused-own plan opening actor now entry desk.skips mine caused;
      carries = carries-own plan opening actor now entry mine suits_now (carries_since plan opening actor seen now later d.carries);
    }

pub desk_committed : (plan : RunPlan) (old : DeskView) (entry : Entry) (number : ℕ) (new : DeskView) → IsDesk plan old → actor_of entry.event ≡ old.known.actor → old.held ≡ taken_ref entry.event → Suits plan old.known.opening old.known.seen entry.event → DeskCommitted old entry number new → IsDesk plan new
desk_committed plan old entry number new d author held suits c =
    let by = c.committed in
    subst (IsDesk plan) (sym (c.is ∙ ap (λ (k : Known). record old { known = k; held = None }) by.is))
    (with_entry plan old entry by.now d by.later by.run author held suits)

-- ---- takes and skips

pub desk_took : (plan : RunPlan) (desk : DeskView) (at : Option MsgRef) → IsDesk plan desk → desk.held ≡ None → IsDesk plan (taking at desk)
desk_took plan desk None d held = record { seated = d.seated; took = d.took; skips = d.skips; carries = d.carries }
desk_took plan desk (Some at) d held =
    record {
      seated = d.seated;
      took = ap (λ l. at ∷ l) (d.took ∙ ap (λ h. option_to_list h ++ took_of desk.known.actor desk.known.seen desk.skips) held);
      skips = d.skips;
      carries = d.carries;
    }

pub desk_skipped : (plan : RunPlan) (desk : DeskView) (cause : SkipCause) (at : MsgRef) → IsDesk plan desk → desk.held ≡ Some at → IsCaused plan desk.known.opening desk.known.actor desk.known.seen (skip_of cause desk at) cause → IsDesk plan (skipping cause desk at)
desk_skipped plan desk cause at d held caused =
    record {
      seated = d.seated;
      took =
          d.took
          ∙ ap (λ h. option_to_list h ++ took_of desk.known.actor desk.known.seen desk.skips) held
          ∙ sym (took-skip desk.known.actor desk.known.seen (skip_of cause desk at) desk.skips refl);
      skips = (omega arith, caused, d.skips);
      carries = d.carries;
    }

-- ---- turns one after another

AreOthers-append : (actor : Actor) (first second : History) → AreOthers actor first → AreOthers actor second → AreOthers actor (first ++ second)
AreOthers-append actor [] second f s = s
AreOthers-append actor (entry ∷ first) second f s = (f.0, AreOthers-append actor first second f.1 s)

pub turned_same : (known : Known) → IsRun known.opening known.seen → HasTurned known known
turned_same known run = record { now = known.seen; later = record { between = []; is = refl; others = tt; run = run }; is = refl }

later_later : (opening : Opening) (actor : Actor) (a b c : History) → IsLater opening actor a b → IsLater opening actor b c → IsLater opening actor a c
later_later opening actor a b c f s =
    record {
      between = s.between ++ f.between;
      is = s.is ∙ ap (λ l. s.between ++ l) f.is ∙ sym (append_assoc s.between f.between a);
      others = AreOthers-append actor s.between f.between s.others f.others;
      run = s.run;
    }

pub turned_turned : (a b c : Known) → HasTurned a b → HasTurned b c → HasTurned a c
turned_turned a b c f s =
    let moved : HasTurned (record a { seen = f.now }) c = subst (λ (k : Known). HasTurned k c) f.is s in
    record { now = moved.now; later = later_later a.opening a.actor a.seen f.now moved.now f.later moved.later; is = moved.is }

pub desk_same_run : (desk : DeskView) → IsRun desk.known.opening desk.known.seen → DeskTurned desk desk
desk_same_run desk run = record { turned = turned_same desk.known run; is = refl }

pub desk_same : (desk : DeskView) → IsSeated desk.known → DeskTurned desk desk
desk_same desk seated = desk_same_run desk seated.run

pub desk_turned_on : (a b c : DeskView) → DeskTurned a b → DeskTurned b c → DeskTurned a c
desk_turned_on a b c f s =
    record {
      turned = turned_turned a.known b.known c.known f.turned s.turned;
      is = s.is ∙ ap (λ (d : DeskView). record d { known = c.known }) f.is;
    }

pub skipped_kept : (plan : RunPlan) (desk new : DeskView) (cause : SkipCause) (at : MsgRef) → IsDesk plan desk → desk.held ≡ Some at → new ≡ skipping cause desk at → IsCaused plan desk.known.opening desk.known.actor desk.known.seen (skip_of cause desk at) cause → IsDesk plan new
skipped_kept plan desk new cause at d held is caused = subst (IsDesk plan) (sym is) (desk_skipped plan desk cause at d held caused)

-- ---- fetched messages

pub fetched_kept : (plan : RunPlan) (old new : DeskView) (result : Result (Option (MsgRef × Message)) NoMemory) → IsDesk plan old → old.held ≡ None → IsFetched old result new → IsDesk plan new
fetched_kept plan old new (Ok None) d free f = subst (IsDesk plan) (sym f) (desk_took plan old None d free)
fetched_kept plan old new (Ok (Some found)) d free f = desk_turned plan (taking (Some found.0) old) new (desk_took plan old (Some found.0) d free) f.0
fetched_kept plan old new (Err refused) d free f =
    elim f as (λ _. IsDesk plan new) [
      | inl same ↦ subst (IsDesk plan) (sym same) d
      | inr took ↦ desk_turned plan (taking (Some took.0) old) new (desk_took plan old (Some took.0) d free) took.1
    ]

-- what an actor may keep as its history grows, it keeps
pub fetched_turned : (old new : DeskView) (result : Result (Option (MsgRef × Message)) NoMemory) → IsRun old.known.opening old.known.seen → IsFetched old result new → HasTurned old.known new.known
fetched_turned old new (Ok None) run f = subst (λ (d : DeskView). HasTurned old.known d.known) (sym f) (turned_same old.known run)
fetched_turned old new (Ok (Some found)) run f = f.0.turned
fetched_turned old new (Err refused) run f =
    elim f as (λ _. HasTurned old.known new.known) [
      | inl same ↦ subst (λ (d : DeskView). HasTurned old.known d.known) (sym same) (turned_same old.known run)
      | inr took ↦ took.1.turned
    ]

pub fetched_held : (old new : DeskView) (at : MsgRef) → DeskTurned (taking (Some at) old) new → new.held ≡ Some at
fetched_held old new at t = ap (λ (d : DeskView). d.held) t.is

pub fetched_takes : (old new : DeskView) (at : MsgRef) → DeskTurned (taking (Some at) old) new → new.takes ≡ old.takes + 1
fetched_takes old new at t = ap (λ (d : DeskView). d.takes) t.is

pub fetched_more : (old new : DeskView) (result : Result (Option (MsgRef × Message)) NoMemory) → IsFetched old result new → old.takes ≤ new.takes
fetched_more old new (Ok None) f = let is = ap (λ (d : DeskView). d.takes) f in omega (arith, is)
fetched_more old new (Ok (Some found)) f = let is = fetched_takes old new found.0 f.0 in omega (arith, is)
fetched_more old new (Err refused) f =
    elim f as (λ _. old.takes ≤ new.takes) [
      | inl same ↦ let is = ap (λ (d : DeskView). d.takes) same in omega (arith, is)
      | inr took ↦ let is = fetched_takes old new took.0 took.1 in omega (arith, is)
    ]

-- How many requests of a lane are live at a version.
use Rattle.std.proofs.Common.{ap, arith, cond, refl, subst, sym, ◌∙◌}
use Rattle.std.proofs.lemmas.Bool.Decides.{nat_tests}
use Rattle.std.specs.Prelude.{Bool, List, None, Option, Some, [], false, filter, if◌then◌else◌, length, true, ℕ, ◌&&◌, ◌++◌, ◌+◌, ◌==◌, ◌∷◌, ◌≡◌, ◌≤◌}
use Rattle.base_ids.specs.declared.ids.Actor.TheVariants.{Lane as ByLane}
use Rattle.base_ids.specs.declared.ids.LaneId.{LaneId}
use Rattle.base_ids.specs.declared.ids.OpId.{OpId}
use Rattle.base_ids.specs.declared.ids.Version.{Version}
use Rattle.book_rule.specs.World.{begun}
use Rattle.cluster_history.proofs.FrameLemmas.{live_ops-other, request_at-other}
use Rattle.cluster_history.specs.History.{History, actor_of, is_by}
use Rattle.cluster_history.specs.Requests.{Request, Way, begun_count, begun_ops, is_begin_of, is_live, live_ops, next_op, request_at, request_on, way_of}
use Rattle.cluster_history.specs.Requests.Way.{Ends, Goes}
use Rattle.cluster_history.specs.declared.data.Entry.{Entry}
use Rattle.cluster_history.specs.declared.data.Event.{Event}
use Rattle.cluster_history.specs.declared.data.Event.TheVariants.{Begin}
use Rattle.cluster_history.specs.declared.data.Opening.{Opening}
use Rattle.cluster_history.specs.declared.data.Operation.{Operation}
use Rattle.cluster_history.specs.declared.data.Output.{Output}
use Rattle.history_facts.proofs.BegunLemmas.{begins-next, live_before, request_at-kept}
use Rattle.history_facts.proofs.LiveLemmas.{AreUpTo, one_more as one_more_begun}
use Rattle.base_ids.proofs.NameLemmas.{and_true, both_true, same_lane-refl}
use Rattle.world_law.specs.Worlds.{kind_by, is_at, live_at}

-- ---- entries of others

pub live_at-other : (opening : Opening) (history : History) (entry : Entry) (lane : LaneId) (at : Version) → is_by (ByLane lane) entry.event ≡ false → live_at opening (entry ∷ history) lane at ≡ live_at opening history lane at
live_at-other opening history entry lane at other =
    λ i. length (filter (λ op. is_at at (request_at-other opening history entry lane op other i)) (live_ops-other history entry lane other i))

-- ---- lists of numbers

filter_twice : (p q : OpId → Bool) (ops : List OpId) → filter p (filter q ops) ≡ filter (λ op. q op && p op) ops
filter_twice p q [] = refl
filter_twice p q (op ∷ ops) = by_test (q op) (filter_twice p q ops)
  where
    by_test : (b : Bool) → filter p (filter q ops) ≡ filter (λ op. q op && p op) ops → filter p (cond b (op ∷ filter q ops) (filter q ops)) ≡ cond (b && p op) (op ∷ filter (λ op. q op && p op) ops) (filter (λ op. q op && p op) ops)
    by_test true below = ap (λ rest. cond (p op) (op ∷ rest) rest) below
    by_test false below = below

begun_ops-up_to : (history : History) (lane : LaneId) → AreUpTo (begun_count history lane) (begun_ops history lane)
begun_ops-up_to [] lane = tt
begun_ops-up_to (entry ∷ history) lane = by_begin (is_begin_of lane entry.event) (begun_ops-up_to history lane)
  where
    by_begin : (b : Bool) → AreUpTo (begun_count history lane) (begun_ops history lane) → AreUpTo (if b then begun_count history lane + 1 else begun_count history lane) (if b then begun_ops history lane ++ next_op history lane ∷ [] else begun_ops history lane)
    by_begin true h = one_more_begun (begun_count history lane) (begun_ops history lane) h
    by_begin false h = h

-- a test that lets fewer through
fewer : (p q : OpId → Bool) (n : ℕ) (ops : List OpId) → ((op : OpId) → op.0 ≤ n → p op ≡ true → q op ≡ true) → AreUpTo n ops → length (filter p ops) ≤ length (filter q ops)
fewer p q n [] less up = omega arith
fewer p q n (op ∷ ops) less up = by_test (p op) (q op) (less op up.0) (fewer p q n ops less up.1)
  where
    by_test : (b c : Bool) → (b ≡ true → c ≡ true) → length (filter p ops) ≤ length (filter q ops) → length (cond b (op ∷ filter p ops) (filter p ops)) ≤ length (cond c (op ∷ filter q ops) (filter q ops))
    by_test true true less below = omega (arith, below)
    by_test true false less below = let wrong : false ≡ true = less refl in cc
    by_test false true less below = omega (arith, below)
    by_test false false less below = below

one_more : (p : OpId → Bool) (ops : List OpId) (last : OpId) (most : ℕ) → (if p last then 1 else 0) ≤ most → length (filter p (ops ++ last ∷ [])) ≤ length (filter p ops) + most
one_more p [] last most one = by_test (p last) one
  where
    by_test : (b : Bool) → (if b then 1 else 0) ≤ most → length (cond b (last ∷ []) []) ≤ 0 + most
    by_test true one = omega (arith, one)
    by_test false one = omega (arith, one)
one_more p (op ∷ ops) last most one = by_test (p op) (one_more p ops last most one)
  where
    by_test : (b : Bool) → length (filter p (ops ++ last ∷ [])) ≤ length (filter p ops) + most → length (cond b (op ∷ filter p (ops ++ last ∷ [])) (filter p (ops ++ last ∷ []))) ≤ length (cond b (op ∷ filter p ops) (filter p ops)) + most
    by_test true below = omega (arith, below)
    by_test false below = below

-- ---- entries of the lane

-- a request is live, and at the version
counts : Opening → History → LaneId → Version → OpId → Bool
counts opening history lane at op = is_live history lane op && is_at at (request_at opening history lane op)

-- one that was begun before counts only where it did
counted_before : (opening : Opening) (history : History) (entry : Entry) (lane : LaneId) (at : Version) (op : OpId) → op.0 ≤ begun_count history lane → (is_live (entry ∷ history) lane op && is_at at (request_at opening (entry ∷ history) lane op)) ≡ true → (is_live history lane op && is_at at (request_at opening history lane op)) ≡ true
counted_before opening history entry lane at op below e =
    let now = both_true (is_live (entry ∷ history) lane op) (is_at at (request_at opening (entry ∷ history) lane op)) e in
    let was = live_before history entry lane op below now.0 in
    and_true (is_live history lane op) (is_at at (request_at opening history lane op)) was.live
    (ap (is_at at) (sym (request_at-kept opening history entry lane op below)) ∙ now.1)

-- a begun request is at the version of its begin
at_begun : (operation : Operation) (version at : Version) (live : Bool) (way : Way) → (if live && is_at at (request_on operation version way) then 1 else 0) ≤ (if version.0 == at.0 then 1 else 0)
at_begun operation version at true (Goes route) = omega arith
at_begun operation version at true (Ends reply) = omega arith
at_begun operation version at false way = omega arith

counted_first : (opening : Opening) (history : History) (event : Event) (outputs : List Output) (lane : LaneId) (at : Version) → is_begin_of lane event ≡ true → (if is_live (record { event = event; outputs = outputs } ∷ history) lane (next_op history lane) && is_at at (request_at opening (record { event = event; outputs = outputs } ∷ history) lane (next_op history lane)) then 1 else 0) ≤ begun (kind_by event outputs) at
counted_first opening history (Begin by operation version) outputs lane at is =
    let entry : Entry = record { event = Begin by operation version; outputs = outputs } in
    let live = is_live (entry ∷ history) lane (next_op history lane) in
    let way = way_of opening history by operation version in
    let begun : request_at opening (entry ∷ history) lane (next_op history lane) ≡ request_on operation version way =
    ap (λ b. if b then request_on operation version way else request_at opening history lane (next_op history lane)) (begins-next history lane (Begin by operation version) is) in
    subst (λ (r : Option Request). (if live && is_at at r then 1 else 0) ≤ (if version.0 == at.0 then 1 else 0)) (sym begun) (at_begun operation version at live way)
counted_first opening history event outputs lane at is = cc is

all_counted : (opening : Opening) (history : History) (event : Event) (outputs : List Output) (lane : LaneId) (at : Version) → length (filter (λ op. is_live (record { event = event; outputs = outputs } ∷ history) lane op && is_at at (request_at opening (record { event = event; outputs = outputs } ∷ history) lane op)) (begun_ops (record { event = event; outputs = outputs } ∷ history) lane)) ≤ length (filter (λ op. is_live history lane op && is_at at (request_at opening history lane op)) (begun_ops history lane)) + begun (kind_by event outputs) at
all_counted opening history event outputs lane at =
    let entry : Entry = record { event = event; outputs = outputs } in
    let new : OpId → Bool = λ op. is_live (entry ∷ history) lane op && is_at at (request_at opening (entry ∷ history) lane op) in
    let old : OpId → Bool = λ op. is_live history lane op && is_at at (request_at opening history lane op) in
    let before : length (filter new (begun_ops history lane)) ≤ length (filter old (begun_ops history lane)) =
    fewer new old (begun_count history lane) (begun_ops history lane) (counted_before opening history entry lane at) (begun_ops-up_to history lane) in
    (elim (is_begin_of lane event) as (λ b. is_begin_of lane event ≡ b → length (filter new (if b then begun_ops history lane ++ next_op history lane ∷ [] else begun_ops history lane)) ≤ length (filter old (begun_ops history lane)) + begun (kind_by event outputs) at) [
      | true ↦ λ is.
          let last = one_more new (begun_ops history lane) (next_op history lane) (begun (kind_by event outputs) at) (counted_first opening history event outputs lane at is) in
          omega (arith, before, last)
      | false ↦ λ is. omega (arith, before)
    ]) refl

pub live_at-next : (opening : Opening) (history : History) (entry : Entry) (lane : LaneId) (at : Version) → live_at opening (entry ∷ history) lane at ≤ live_at opening history lane at + begun (kind_by entry.event entry.outputs) at
live_at-next opening history entry lane at =
    let new = ap length (filter_twice (λ op. is_at at (request_at opening (entry ∷ history) lane op)) (is_live (entry ∷ history) lane) (begun_ops (entry ∷ history) lane)) in
    let old = ap length (filter_twice (λ op. is_at at (request_at opening history lane op)) (is_live history lane) (begun_ops history lane)) in
    rw (new, old) (all_counted opening history entry.event entry.outputs lane at)

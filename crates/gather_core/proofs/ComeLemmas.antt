-- What rounds come to.
use Rattle.std.proofs.Common.{◌≡◌, ◌+◌, ◌-◌, ◌<◌, ◌≤◌, ◌==◌, ◌&&◌, ◌||◌, ℕ, zero, suc, Bool, true, false, cond, not, Option, Some, None, List, [], ◌∷◌, ◌++◌, take, length, length-take, nat_lt, arith, refl, ap, sym, subst, ◌∙◌}
use Rattle.std.specs.Prelude.{option_map, IfSome}
use Rattle.std.specs.List.{list_any, list_all}
use Rattle.std.proofs.lemmas.Bool.Decides.{nat_tests}
use Rattle.base_ids.specs.Names.{same_host, same_session}
use Rattle.base_ids.specs.declared.ids.HostId.{HostId}
use Rattle.base_ids.specs.declared.ids.Session.{Session}
use Rattle.base_ids.specs.declared.ids.TableId.{TableId}
use Rattle.token_ring.specs.declared.ring.TokenRange.{TokenRange}
use Rattle.replica_store.specs.declared.store.Stored.{Stored}
use Rattle.replica_store.specs.Cells.{Cells, IsOrdered, range_cells}
use Rattle.replica_store.specs.Puts.{cells_with}
use Rattle.stream_core.specs.Pulls.{Pulling, next_ask, is_next, cells_after, served_chunk, most_cells, last_token}
use Rattle.stream_core.specs.declared.data.ChunkAsk.{ChunkAsk}
use Rattle.stream_core.specs.declared.data.ChunkMsg.{ChunkMsg}
use Rattle.gather_core.specs.declared.data.Route.{Route}
use Rattle.gather_core.specs.Gathers.{Gathering, begun, next_session, gone_on, gather_after, stored_after}
use Rattle.gather_core.specs.Laws.{AreOrdered, is_put, ArePutFree}
use Rattle.gather_core.specs.Steps.{Stores, Scene, Step, Ask, Serve, Take, with_store, after_step, after_steps}
use Rattle.gather_core.specs.Rounds.{are_fit, is_fit, CanGather, Leads, Comes, pulls_left, cells_left, is_of, left_with, IsCome, round_stores, round_gather, chunk_for}
use Rattle.gather_core.proofs.EndLemmas.{round, next_is, ordered_new, fewer, take_own, source_same, not_true, both_true, fed, new_stores}

steps_more : (scene : Scene) (xs ys : List Step) → after_steps scene (xs ++ ys) ≡ after_steps (after_steps scene xs) ys
steps_more scene [] ys = refl
steps_more scene (x ∷ xs) ys = steps_more (after_step scene x) xs ys

free_more : (xs ys : List Step) → ArePutFree xs → ArePutFree ys → ArePutFree (xs ++ ys)
free_more [] ys one two = two
free_more (x ∷ xs) ys one two =
    elim (is_put x) as (λ b. (b || list_any is_put xs) ≡ false → (b || list_any is_put (xs ++ ys)) ≡ false) [
      | true ↦ λ e. cc e
      | false ↦ λ e. free_more xs ys e two
    ] one

pub comes_none : (stores : Stores) (gather : Gathering) → Comes stores gather stores gather
comes_none stores gather asks chunks = record { steps = []; free = refl; stores_are = refl; gather_is = refl }

pub comes_more : (s : Stores) (g : Gathering) (t : Stores) (h : Gathering) (u : Stores) (i : Gathering) → Comes s g t h → Comes t h u i → Comes s g u i
comes_more s g t h u i one two asks chunks =
    let from : Scene = record { stores = s; gather = g; asks = asks; chunks = chunks } in
    let first = one asks chunks in
    let mid : Scene = after_steps from first.steps in
    let second = two mid.asks mid.chunks in
    let same : (let m : Scene = record { stores = t; gather = h; asks = mid.asks; chunks = mid.chunks } in m) ≡ mid =
    λ d. record { stores = (sym first.stores_are) d; gather = (sym first.gather_is) d; asks = mid.asks; chunks = mid.chunks } in
    let P : Scene → Type 0 = λ m. (after_steps m second.steps).stores ≡ u in
    let Q : Scene → Type 0 = λ m. (after_steps m second.steps).gather ≡ i in
    record {
      steps = first.steps ++ second.steps;
      free = free_more first.steps second.steps first.free second.free;
      stores_are = ap (λ (m : Scene). m.stores) (steps_more from first.steps second.steps) ∙ subst P same second.stores_are;
      gather_is = ap (λ (m : Scene). m.gather) (steps_more from first.steps second.steps) ∙ subst Q same second.gather_is;
    }

-- a round of the pull of a session
pub record Goes (count : ℕ) (session : Session) (stores : Stores) (gather : Gathering) (to_stores : Stores) (to_gather : Gathering) : Type 0 where
  pub come : IsCome count stores gather to_stores to_gather
  pub falls : cells_left to_stores session to_gather.pull < cells_left stores session gather.pull
  pub left : left_with session to_gather ≤ left_with session gather

session_is : (a b : Session) → same_session a b ≡ true → a ≡ b
session_is a b e = (let n : a.0 ≡ b.0 = grind (arith, nat_tests, e) in ap (λ (k : ℕ). let r : Session = record { 0 = k } in r) n)

-- the pulls after one that is done
pub begun_can : (count : ℕ) (session : Session) (table : TableId) (range : TokenRange) (rest : List Route) → list_all (is_fit count) rest ≡ true → CanGather count (begun session table range rest)
begun_can count session table range [] fit = record { going = tt; pull_fit = tt; rest_fit = refl }
begun_can count session table range (route ∷ rest) fit =
    let both = both_true (is_fit count route) (list_all (is_fit count) rest) fit in
    record { going = refl; pull_fit = both.0; rest_fit = both.1 }

begun_none : (stores : Stores) (session : Session) (table : TableId) (range : TokenRange) (rest : List Route) → cells_left stores session (begun (next_session session) table range rest).pull ≡ 0
begun_none stores session table range [] = refl
begun_none stores session table range (route ∷ rest) = (let off : same_session (next_session session) session ≡ false = grind (arith, nat_tests) in rw off refl)

begun_left : (session : Session) (table : TableId) (range : TokenRange) (rest : List Route) → left_with session (begun (next_session session) table range rest) ≡ suc (length rest)
begun_left session table range [] = refl
begun_left session table range (route ∷ rest) = (let off : same_session (next_session session) session ≡ false = grind (arith, nat_tests) in rw off refl)

apart_of : (count : ℕ) (by from : HostId) → are_fit count by from ≡ true → same_host by from ≡ false
apart_of count by from fit = not_true (same_host by from) ((both_true (not (same_host by from)) (nat_lt by.0 count && nat_lt from.0 count) fit).0)

-- the numbers of a round
record Falls (count : ℕ) (stores : Stores) (pull : Pulling) (rest : List Route) (to : Stores) (gather : Gathering) : Type 0 where
  can : CanGather count gather
  falls : cells_left to pull.session gather.pull < suc (length (range_cells (stores pull.from) pull.table pull.range pull.after))
  left : left_with pull.session gather ≤ suc (length rest)

falls_of : (count : ℕ) (stores : Stores) (pull : Pulling) (rest : List Route) → AreOrdered stores → are_fit count pull.by pull.from ≡ true → list_all (is_fit count) rest ≡ true
    → (let chunk : ChunkMsg = served_chunk (stores pull.from) (next_ask pull) in
    Falls count stores pull rest (new_stores stores pull chunk) (gone_on (fed pull chunk) rest))
falls_of count stores pull rest ordered fit rest_fit =
    let all : List Stored = range_cells (stores pull.from) pull.table pull.range pull.after in
    let chunk : ChunkMsg = served_chunk (stores pull.from) (next_ask pull) in
    let new : Stores = new_stores stores pull chunk in
    let apart = apart_of count pull.by pull.from fit in
    let same : same_session pull.session pull.session ≡ true = grind (arith, nat_tests) in
    let P : Bool → Type 0 = λ more. Falls count stores pull rest new (gone_on (record pull { after = last_token pull.after chunk.cells; done = not more }) rest) in
    elim (nat_lt most_cells (length all)) as (λ b. nat_lt most_cells (length all) ≡ b → P b) [
      | true ↦ λ more. (
          let many : 64 < length all = grind (arith, nat_tests, more) in
          let less = fewer (stores pull.from) pull.table pull.range pull.after (take 64 all) (ordered pull.from) (take_own 64 all) (omega (arith, length-take 64 all)) in
          let kept = source_same stores pull (cells_with (stores pull.by) pull.table chunk.cells) apart in
          let L : Cells → Type 0 = λ cells. length (range_cells cells pull.table pull.range (last_token pull.after chunk.cells)) < length all in
          let fewer_now : L (new pull.from) = subst L (sym kept) less in
          record {
            can = record { going = refl; pull_fit = fit; rest_fit = rest_fit };
            falls = rw same (omega (arith, fewer_now));
            left = rw same (omega arith);
          })
      | false ↦ λ _.
          record {
            can = begun_can count (next_session pull.session) pull.table pull.range rest rest_fit;
            falls = omega (arith, begun_none new pull.session pull.table pull.range rest);
            left = omega (arith, begun_left pull.session pull.table pull.range rest);
          }
    ] refl

pub goes_round : (count : ℕ) (session : Session) (stores : Stores) (pull : Option Pulling) (rest : List Route) (ask : ChunkAsk)
    → (let gather : Gathering = record { pull = pull; rest = rest } in
    CanGather count gather → AreOrdered stores → option_map next_ask pull ≡ Some ask → ask.session ≡ session
    → Goes count session stores gather (round_stores stores gather ask) (round_gather stores gather ask))
goes_round count session stores None rest ask can ordered asked is = cc asked
goes_round count session stores (Some pull) rest ask can ordered asked is =
    let gather : Gathering = record { pull = Some pull; rest = rest } in
    let same_ask : next_ask pull ≡ ask = cc asked in
    let Q : Session → ChunkAsk → Type 0 = λ s a. Goes count s stores gather (round_stores stores gather a) (round_gather stores gather a) in
    let here : Q pull.session (next_ask pull) =
    (let chunk : ChunkMsg = served_chunk (stores pull.from) (next_ask pull) in
    let next = next_is stores pull can.going in
    let numbers = falls_of count stores pull rest ordered can.pull_fit can.rest_fit in
    let same : same_session pull.session pull.session ≡ true = grind (arith, nat_tests) in
    rw next (record {
      come = record {
        can = numbers.can;
        ordered = ordered_new stores pull chunk ordered;
        comes = λ asks chunks. (
            let done = round stores pull rest asks chunks can.going in
            record {
              steps = Ask ∷ Serve (length asks) ∷ Take (length chunks) ∷ [];
              free = refl;
              stores_are = ap (λ (s : Scene). s.stores) done;
              gather_is = ap (λ (s : Scene). s.gather) done;
            });
      };
      falls = rw same numbers.falls;
      left = rw same numbers.left;
    })) in
    let P : ChunkAsk → Type 0 = λ a. Q a.session a in
    let there : P ask = subst P same_ask here in
    subst (λ (s : Session). Q s ask) is there

-- how rounds of the pull of a session go on
pub record IsGoing (count : ℕ) (session : Session) (s : Stores) (g : Gathering) (stores : Stores) (gather : Gathering) : Type 0 where
  pub come : IsCome count s g stores gather
  pub left : left_with session gather ≤ pulls_left g

pub going_first : (count : ℕ) (session : Session) (s : Stores) (g : Gathering) → CanGather count g → AreOrdered s → is_of session g.pull ≡ true → IsGoing count session s g s g
going_first count session s g can ordered of =
    record { come = record { can = can; ordered = ordered; comes = comes_none s g }; left = rw of (omega arith) }

pub goes_on : (count : ℕ) (session : Session) (s : Stores) (g : Gathering) (stores : Stores) (gather : Gathering) (ask : ChunkAsk) → IsGoing count session s g stores gather → option_map next_ask gather.pull ≡ Some ask → ask.session ≡ session → Goes count session stores gather (round_stores stores gather ask) (round_gather stores gather ask)
goes_on count session s g stores gather ask going asked is =
    goes_round count session stores gather.pull gather.rest ask going.come.can going.come.ordered asked is

pub going_more : (count : ℕ) (session : Session) (s : Stores) (g : Gathering) (stores : Stores) (gather : Gathering) (t : Stores) (h : Gathering) → IsGoing count session s g stores gather → Goes count session stores gather t h → IsGoing count session s g t h
going_more count session s g stores gather t h going goes =
    record {
      come = record { can = goes.come.can; ordered = goes.come.ordered; comes = comes_more s g stores gather t h going.come.comes goes.come.comes };
      left = omega (arith, going.left, goes.left);
    }

-- the pull of the session is done
pub fewer_of : (session : Session) (gather : Gathering) (n : ℕ) → left_with session gather ≤ n → is_of session gather.pull ≡ false → pulls_left gather < n
fewer_of session gather n left of =
    let P : Bool → Type 0 = λ b. cond b (pulls_left gather) (suc (pulls_left gather)) ≤ n in
    let more : P false = subst P of left in
    omega (arith, more)

-- the hosts of an ask have stores
pub ask_fit : (count : ℕ) (pull : Option Pulling) (rest : List Route) (ask : ChunkAsk) → (let gather : Gathering = record { pull = pull; rest = rest } in CanGather count gather) → option_map next_ask pull ≡ Some ask → (ask.by.0 < count) × (ask.to.0 < count)
ask_fit count None rest ask can asked = cc asked
ask_fit count (Some pull) rest ask can asked =
    let same : next_ask pull ≡ ask = cc asked in
    let P : ChunkAsk → Type 0 = λ a. (a.by.0 < count) × (a.to.0 < count) in
    let fit = (both_true (not (same_host pull.by pull.from)) (nat_lt pull.by.0 count && nat_lt pull.from.0 count) can.pull_fit).1 in
    let both = both_true (nat_lt pull.by.0 count) (nat_lt pull.from.0 count) fit in
    let a : pull.by.0 < count = grind (arith, nat_tests, both.0) in
    let b : pull.from.0 < count = grind (arith, nat_tests, both.1) in
    subst P same (a, b)

-- an ask of another session
pub not_of : (session : Session) (pull : Option Pulling) (ask : ChunkAsk) → option_map next_ask pull ≡ Some ask → same_session ask.session session ≡ false → is_of session pull ≡ false
not_of session None ask asked other = refl
not_of session (Some pull) ask asked other =
    let same : next_ask pull ≡ ask = cc asked in
    let P : ChunkAsk → Type 0 = λ a. same_session a.session session ≡ false in
    subst P (sym same) other

-- the ask is of the session that goes on
pub of_ask : (pull : Option Pulling) (ask : ChunkAsk) → option_map next_ask pull ≡ Some ask → is_of ask.session pull ≡ true
of_ask None ask asked = cc asked
of_ask (Some pull) ask asked =
    let same : next_ask pull ≡ ask = cc asked in
    let P : ChunkAsk → Type 0 = λ a. same_session pull.session a.session ≡ true in
    let here : P (next_ask pull) = grind (arith, nat_tests) in
    subst P same here

pub none_of : (pull : Option Pulling) → option_map next_ask pull ≡ None → pull ≡ None
none_of None e = refl
none_of (Some pull) e = cc e

pub goes_new : (count : ℕ) (session : Session) (s : Stores) (g : Gathering) (stores : Stores) (gather : Gathering) (ask : ChunkAsk) (t : Stores) (h : Gathering) → IsGoing count session s g stores gather → option_map next_ask gather.pull ≡ Some ask → ask.session ≡ session → t ≡ round_stores stores gather ask → h ≡ round_gather stores gather ask → Goes count session stores gather t h
goes_new count session s g stores gather ask t h going asked is t_is h_is =
    let P : Stores → Gathering → Type 0 = λ a b. Goes count session stores gather a b in
    let there : P t (round_gather stores gather ask) = subst (λ a. P a (round_gather stores gather ask)) (sym t_is) (goes_on count session s g stores gather ask going asked is) in
    subst (λ b. P t b) (sym h_is) there

pub session_same : (a b : Session) → a.0 ≡ b.0 → a ≡ b
session_same a b e = ap (λ (k : ℕ). let r : Session = record { 0 = k } in r) e

pub come_first : (count : ℕ) (s : Stores) (g : Gathering) → CanGather count g → AreOrdered s → IsCome count s g s g
come_first count s g can ordered = record { can = can; ordered = ordered; comes = comes_none s g }

pub come_more : (count n : ℕ) (s : Stores) (g : Gathering) (t : Stores) (h : Gathering) (u : Stores) (i : Gathering) → n ≡ count → IsCome count s g t h → IsCome n t h u i → IsCome count s g u i
come_more count n s g t h u i same one two =
    record { can = subst (λ (k : ℕ). CanGather k i) same two.can; ordered = two.ordered; comes = comes_more s g t h u i one.comes two.comes }

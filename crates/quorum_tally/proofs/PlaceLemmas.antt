-- Lists of places: a loop that changes each, and how many are marked.
use Rattle.std.proofs.Common.{◌≡◌, ◌≢◌, ℕ, ◌+◌, ◌<◌, ◌≤◌, Bool, true, false, ◌&&◌, ◌||◌, if◌then◌else◌, cond, List, [], ◌∷◌, ◌++◌, length, take, drop, map, get_or, set, count_by, refl, ap, arith, append_assoc}
use Rattle.std.proofs.lemmas.List.{take_more_set, drop_more, drop-set-lt}
use Rattle.std.proofs.lemmas.List.Sums.{sum_by-cons}
use Rattle.quorum_tally.specs.declared.tally.Place.{Place}
use Rattle.quorum_tally.specs.declared.tally.Standing.{Standing}
use Rattle.quorum_tally.specs.declared.tally.Standing.TheVariants.{Unmarked, Answered, Refused}
use Rattle.base_ids.specs.declared.ids.Replica.{Replica}
use Rattle.quorum_tally.specs.declared.tally.Mark.TheVariants.{Fresh, Repeat, Stranger}
use Rattle.quorum_tally.specs.Standings.{Standings, is_unmarked, is_answered, is_refused, is_place_of, is_target, is_open_place, is_open, mark_in, mark_of, marked_place, marked_standings, answered_places, refused_places}

-- one more place of a list that is changed from the front on
pub map_step : {X : Type 0} (f : X → X) (now : List X) (i : ℕ) (d y : X) → y ≡ f (get_or now i d) → i < length now → take (i + 1) (set now i y) ++ map f (drop (i + 1) (set now i y)) ≡ take i now ++ map f (drop i now)
map_step f now i d y is lt =
    let after : i < i + 1 = omega arith in
    rw (take_more_set now i y lt, drop-set-lt (i + 1) now i y after, drop_more now i d lt, append_assoc, is) refl

one_word : (s : Standing) → cond (is_answered s) 1 0 + cond (is_refused s) 1 0 ≤ 1
one_word Unmarked = omega arith
one_word Answered = omega arith
one_word Refused = omega arith

-- nobody has answered and refused
places_fit : (places : List Place) → count_by (λ p. is_answered p.standing) places + count_by (λ p. is_refused p.standing) places ≤ length places
places_fit [] = omega arith
places_fit (p ∷ ps) =
    rw (sum_by-cons (λ (x : Place). cond (is_answered x.standing) 1 0) p ps, sum_by-cons (λ (x : Place). cond (is_refused x.standing) 1 0) p ps)
    (omega (arith, one_word p.standing, places_fit ps))

pub counts_fit : (tally : Standings) → answered_places tally + refused_places tally ≤ length tally.places
counts_fit tally = places_fit tally.places

-- ---- a word of a replica

-- who is open is a target
pub open_target : (from : Replica) (places : List Place) → is_open places from ≡ true → is_target places from ≡ true
open_target from [] e = cc
open_target from (place ∷ places) e =
    first_or_rest (is_place_of from place) (is_unmarked place.standing) (is_open places from) (is_target places from) e (open_target from places)
  where
    first_or_rest : (of unmarked more target : Bool) → ((of && unmarked) || more) ≡ true → (more ≡ true → target ≡ true) → (of || target) ≡ true
    first_or_rest true unmarked more target e rest = refl
    first_or_rest false unmarked more target e rest = rest e

-- a word that is not fresh finds nobody open
pub shut_unless_fresh : (places : List Place) (from : Replica) → mark_in places from ≢ Fresh → is_open places from ≡ false
shut_unless_fresh places from not_fresh =
    by_open (is_target places from) (is_open places from) (open_target from places) not_fresh
  where
    by_open : (target fresh : Bool) → (fresh ≡ true → target ≡ true) → (if target then (if fresh then Fresh else Repeat) else Stranger) ≢ Fresh → fresh ≡ false
    by_open true true h not_fresh = absurd (not_fresh refl)
    by_open true false h not_fresh = refl
    by_open false true h not_fresh = let wrong : false ≡ true = h refl in cc
    by_open false false h not_fresh = refl

-- where nobody is open nothing changes
pub marked-shut : (from : Replica) (standing : Standing) (places : List Place) → is_open places from ≡ false → map (marked_place from standing) places ≡ places
marked-shut from standing [] e = refl
marked-shut from standing (place ∷ places) e =
    let both = neither (is_open_place from place) (is_open places from) e in
    λ i. kept_place (is_open_place from place) both.0 i ∷ marked-shut from standing places both.1 i
  where
    neither : (here rest : Bool) → (here || rest) ≡ false → (here ≡ false) × (rest ≡ false)
    neither true rest e = (e, cc)
    neither false rest e = (refl, e)

    kept_place : (here : Bool) → here ≡ false → (if here then record place { standing = standing } else place) ≡ place
    kept_place true e = cc
    kept_place false e = refl

-- a repeat and a stranger change nothing
pub marked_places-unless_fresh : (places : List Place) (from : Replica) (standing : Standing) → mark_in places from ≢ Fresh → map (marked_place from standing) places ≡ places
marked_places-unless_fresh places from standing not_fresh = marked-shut from standing places (shut_unless_fresh places from not_fresh)

pub marked_standings-unless_fresh : (tally : Standings) (from : Replica) (standing : Standing) → mark_of tally from ≢ Fresh → marked_standings tally from standing ≡ tally
marked_standings-unless_fresh tally from standing not_fresh =
    ap (λ places. record { places = places; need = tally.need }) (marked_places-unless_fresh tally.places from standing not_fresh)

-- ---- counts

-- what changes each place and keeps a test of it keeps the count
count_by-map : (f : Place → Place) (p : Place → Bool) → ((place : Place) → p (f place) ≡ p place) → (places : List Place) → count_by p (map f places) ≡ count_by p places
count_by-map f p same [] = refl
count_by-map f p same (place ∷ places) =
    rw (sum_by-cons (λ (x : Place). cond (p x) 1 0) (f place) (map f places), sum_by-cons (λ (x : Place). cond (p x) 1 0) place places, same place)
    (ap (λ n. cond (p place) 1 0 + n) (count_by-map f p same places))

-- a place after a word, where `of` says whether it is the one of that word's replica
abbrev place_of_mark : Bool → Replica → Standing → Standing → Place
place_of_mark of replica new old =
    if of && is_unmarked old then record { replica = replica; standing = new } else record { replica = replica; standing = old }

refused_kept : (of : Bool) (replica : Replica) (old : Standing) → is_refused (place_of_mark of replica Answered old).standing ≡ is_refused old
refused_kept true replica Unmarked = refl
refused_kept true replica Answered = refl
refused_kept true replica Refused = refl
refused_kept false replica old = refl

answered_kept : (of : Bool) (replica : Replica) (old : Standing) → is_answered (place_of_mark of replica Refused old).standing ≡ is_answered old
answered_kept true replica Unmarked = refl
answered_kept true replica Answered = refl
answered_kept true replica Refused = refl
answered_kept false replica old = refl

-- an answer leaves the refusals as they were
pub refused_count-answer : (tally : Standings) (from : Replica) → refused_places (marked_standings tally from Answered) ≡ refused_places tally
refused_count-answer tally from =
    count_by-map (marked_place from Answered) (λ place. is_refused place.standing) (λ place. refused_kept (is_place_of from place) place.replica place.standing) tally.places

-- a refusal leaves the answers as they were
pub answered_count-refusal : (tally : Standings) (from : Replica) → answered_places (marked_standings tally from Refused) ≡ answered_places tally
answered_count-refusal tally from =
    count_by-map (marked_place from Refused) (λ place. is_answered place.standing) (λ place. answered_kept (is_place_of from place) place.replica place.standing) tally.places

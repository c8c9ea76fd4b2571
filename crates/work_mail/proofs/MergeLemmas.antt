-- Each step of a pass keeps the merge.
use Rattle.std.specs.Prelude.{All, Some}
use Rattle.std.proofs.Common.{[], Bool, List, ap, arith, eq-eqb, false, if◌then◌else◌, inl, inr, length, ne_eqb, refl, set, subst, suc, sym, true, zero, ◌++◌, ◌+◌, ◌<◌, ◌==◌, ◌∙◌, ◌∷◌, ◌≡◌, ◌≢◌, ◌≤◌, ◌⊎◌, ℕ, ⊎_elim}
use mathlib.Core.Option.{some, some-injective, some-ne-none}
use lib.ListN.{get_elem?}
use Rattle.std.proofs.lemmas.Bool.Decides.{nat_tests}
use Rattle.atomic_table.specs.Seated.{TableId}
use Rattle.base_ids.specs.declared.ids.MsgRef.{MsgRef}
use Rattle.crossbeam_queue.specs.Fifo.{Forks, Learns, Merges, Pops, Pushes}
use Rattle.crossbeam_queue.proofs.Lists.{at_set}
use Rattle.work_mail.specs.Merges.{AreEnded, ArePut, FitsLog, IsEnded, IsFirst, IsOver, IsMerged, IsOut, IsSeen, IsThere, handed, handing, joined, number_of, put_by, put_of, references, taking_in, took_of, with_put, with_taken}
use Rattle.work_mail.specs.Passes.{IsClosed, MailView, ended_of, first_mail, fresh_passes, pass_view, put_in, taken_from}
use Rattle.work_mail.specs.declared.rule.Ended.{Ended}
use Rattle.work_mail.specs.declared.rule.MailLog.{MailLog}
use Rattle.work_mail.specs.declared.rule.MailLog.TheVariants.{Other, Spent, First}

-- ---- lists of references

joined-snoc : (took items : List MsgRef) (at : MsgRef) → joined took (items ++ at ∷ []) ≡ joined took items ++ at ∷ []
joined-snoc [] items at = refl
joined-snoc (one ∷ took) items at = joined-snoc took (one ∷ items) at

references-snoc : (merged : List (ℕ × MsgRef)) (number : ℕ) (at : MsgRef) → references (merged ++ (number, at) ∷ []) ≡ references merged ++ at ∷ []
references-snoc [] number at = refl
references-snoc (sent ∷ merged) number at = ap (λ l. sent.1 ∷ l) (references-snoc merged number at)

put_by-same : (merged : List (ℕ × MsgRef)) (number : ℕ) (at : MsgRef) → put_by number (merged ++ (number, at) ∷ []) ≡ put_by number merged ++ at ∷ []
put_by-same [] number at = grind (arith, nat_tests)
put_by-same (sent ∷ merged) number at = help (put_by-same merged number at) (sent.0 == number)
  where
    help : put_by number (merged ++ (number, at) ∷ []) ≡ put_by number merged ++ at ∷ [] → (b : Bool) → (if b then sent.1 ∷ put_by number (merged ++ (number, at) ∷ []) else put_by number (merged ++ (number, at) ∷ [])) ≡ (if b then sent.1 ∷ put_by number merged else put_by number merged) ++ at ∷ []
    help rest true = ap (λ l. sent.1 ∷ l) rest
    help rest false = rest

put_by-other : (merged : List (ℕ × MsgRef)) (number other : ℕ) (at : MsgRef) → other ≢ number → put_by other (merged ++ (number, at) ∷ []) ≡ put_by other merged
put_by-other [] number other at apart = grind (arith, nat_tests)
put_by-other (sent ∷ merged) number other at apart = ap (λ l. if sent.0 == other then sent.1 ∷ l else l) (put_by-other merged number other at apart)

-- ---- numbers and their seats

abbrev seat_at : (ℕ → ℕ) → ℕ → ℕ → ℕ → ℕ
seat_at seat number id other = if other == number then id else seat other

seat_here : (seat : ℕ → ℕ) (number id : ℕ) → seat_at seat number id number ≡ id
seat_here seat number id = ap (λ t. if t then id else seat number) (eq-eqb number number refl)

seat_else : (seat : ℕ → ℕ) (number id other : ℕ) → other ≢ number → seat_at seat number id other ≡ seat other
seat_else seat number id other apart = ap (λ t. if t then id else seat other) (ne_eqb other number apart)

-- ---- what others know, when a pass puts

ended_put : (seat : ℕ → ℕ) (merged : List (ℕ × MsgRef)) (made : ℕ) (ended : List Ended) (number : ℕ) (at : MsgRef) → ((m : ℕ) → 0 < m → seat m ≡ 0 → m ≢ number) → AreEnded seat merged made ended → AreEnded seat (merged ++ (number, at) ∷ []) made ended
ended_put seat merged made [] number at apart are = tt
ended_put seat merged made (end ∷ ended) number at apart are =
    (are.0, are.1, are.2, put_by-other merged number end.number at (apart end.number are.0 are.2) ∙ are.3, ended_put seat merged made ended number at apart are.4)

fits_put : (seat : ℕ → ℕ) (took : List MsgRef) (merged : List (ℕ × MsgRef)) (made other : ℕ) (log : MailLog) (number : ℕ) (at : MsgRef) → ((m : ℕ) → 0 < m → seat m ≡ other → m ≢ number) → (other ≡ 0 → 0 ≢ number)
    → FitsLog seat took merged made other log → FitsLog seat took (merged ++ (number, at) ∷ []) made other log
fits_put seat took merged made other Spent number at apart none fits = tt
fits_put seat took merged made other (Other m put) number at apart none fits = (fits.0, fits.1, fits.2, put_by-other merged number m at (apart m fits.0 fits.2) ∙ fits.3)
fits_put seat took merged made other (First put its_took its_made ended) number at apart none fits =
    (fits.0, put_by-other merged number 0 at (none fits.0) ∙ fits.1, fits.2, fits.3, ended_put seat merged made ended number at (λ m some_m s. apart m some_m (s ∙ sym fits.0)) fits.4)

-- a pass puts a reference under its number
put_step : (items : List MsgRef) (logs : List MailLog) (kept : IsMerged items logs) (id : ℕ) (new : MailLog) (number : ℕ) (at : MsgRef) → number < kept.made → ((other : ℕ) → other ≢ id → (m : ℕ) → 0 < m → kept.seat m ≡ other → m ≢ number) → ((other : ℕ) → other ≢ id → other ≡ 0 → 0 ≢ number)
    → FitsLog kept.seat kept.took (kept.merged ++ (number, at) ∷ []) kept.made id new → IsMerged (items ++ at ∷ []) (set logs id new)
put_step items logs kept id new number at below apart none mine =
    record {
      took = kept.took;
      merged = kept.merged ++ (number, at) ∷ [];
      made = kept.made;
      seat = kept.seat;
      some_made = kept.some_made;
      whole = joined-snoc kept.took items at ∙ (ap (λ l. l ++ at ∷ []) kept.whole ∙ sym (references-snoc kept.merged number at));
      later = λ other beyond. put_by-other kept.merged number other at (λ same. absurd (omega (arith, below, beyond, same))) ∙ kept.later other beyond;
      fits = λ other seen is. ⊎_elim
          (λ (h : (other ≡ id) × (new ≡ seen)). subst (λ (y : ℕ × MailLog). FitsLog kept.seat kept.took (kept.merged ++ (number, at) ∷ []) kept.made y.0 y.1) (λ i. (sym h.0 i, h.1 i)) mine)
          (λ h. fits_put kept.seat kept.took kept.merged kept.made other seen number at (apart other h.0) (none other h.0) (kept.fits other seen h.1))
          (at_set logs id other new seen is);
    }

-- the pass has not come back
abbrev pub IsLive : MailLog → Type 0
IsLive Spent = ⊥
IsLive (Other number put) = Unit {0}
IsLive (First put took made ended) = Unit {0}

pub puts : (n id : ℕ) (log : MailLog) (at : MsgRef) → IsLive log → Pushes IsMerged n id log at (λ new. new ≡ with_put at log)
puts n id Spent at live items logs less kept there = absurd live
puts n id (Other number put) at live items logs less kept there =
    let mine = kept.fits id (Other number put) there in (
      Other number (put ++ at ∷ []),
      put_step items logs kept id (Other number (put ++ at ∷ [])) number at mine.1
          (λ other ne m some_m its same. ne (sym its ∙ (ap kept.seat same ∙ mine.2)))
          (λ other ne none same. let p = mine.0 in absurd (omega (arith, p, same)))
          (mine.0, mine.1, mine.2, put_by-same kept.merged number at ∙ ap (λ l. l ++ at ∷ []) mine.3),
      refl,
    )
puts n id (First put took made ended) at live items logs less kept there =
    let mine = kept.fits id (First put took made ended) there in (
      First (put ++ at ∷ []) took made ended,
      put_step items logs kept id (First (put ++ at ∷ []) took made ended) 0 at kept.some_made
          (λ other ne m some_m its same. absurd (omega (arith, some_m, same)))
          (λ other ne none same. ne (none ∙ sym mine.0))
          (mine.0, put_by-same kept.merged 0 at ∙ ap (λ l. l ++ at ∷ []) mine.1, mine.2, mine.3, ended_put kept.seat kept.merged kept.made ended 0 at (λ m some_m s same. absurd (omega (arith, some_m, same))) mine.4),
      refl,
    )

-- ---- the taker's pass takes

fits_took : (seat : ℕ → ℕ) (took more : List MsgRef) (merged : List (ℕ × MsgRef)) (made other : ℕ) (log : MailLog) → (other ≡ 0 → ⊥) → FitsLog seat took merged made other log → FitsLog seat more merged made other log
fits_took seat took more merged made other Spent apart fits = tt
fits_took seat took more merged made other (Other number put) apart fits = fits
fits_took seat took more merged made other (First put its_took its_made ended) apart fits = absurd (apart fits.0)

pub takes : (id : ℕ) (put took : List MsgRef) (made : ℕ) (ended : List Ended) → Pops IsMerged id (First put took made ended) (λ at new. new ≡ with_taken at (First put took made ended))
takes id put took made ended at items logs kept there =
    let mine = kept.fits id (First put took made ended) there in
    let new : MailLog = First put (at ∷ took) made ended in (
      new,
      record {
        took = at ∷ kept.took;
        merged = kept.merged;
        made = kept.made;
        seat = kept.seat;
        some_made = kept.some_made;
        whole = kept.whole;
        later = kept.later;
        fits = λ other seen is. ⊎_elim
            (λ (h : (other ≡ id) × (new ≡ seen)). subst (λ (y : ℕ × MailLog). FitsLog kept.seat (at ∷ kept.took) kept.merged kept.made y.0 y.1) (λ i. (sym h.0 i, h.1 i)) (mine.0, mine.1, ap (λ l. at ∷ l) mine.2, mine.3, mine.4))
            (λ h. fits_took kept.seat kept.took (at ∷ kept.took) kept.merged kept.made other seen (λ none. h.0 (none ∙ sym mine.0)) (kept.fits other seen h.1))
            (at_set logs id other new seen is);
      },
      refl,
    )

-- ---- the taker's pass hands out another one

snoc_place : (logs : List MailLog) (new seen : MailLog) (place : ℕ) → get_elem? (logs ++ new ∷ []) place ≡ some seen → (get_elem? logs place ≡ some seen) ⊎ ((place ≡ length logs) × (new ≡ seen))
snoc_place [] new seen zero is = inr (refl, some-injective new seen is)
snoc_place [] new seen (suc place) is = absurd (some-ne-none seen (sym is))
snoc_place (log ∷ logs) new seen zero is = inl is
snoc_place (log ∷ logs) new seen (suc place) is = ⊎_elim (λ h. inl h) (λ (h : (place ≡ length logs) × (new ≡ seen)). inr (ap suc h.0, h.1)) (snoc_place logs new seen place is)

ended_more : (seat seat' : ℕ → ℕ) (merged : List (ℕ × MsgRef)) (made made' : ℕ) (ended : List Ended) → made ≤ made' → ((m : ℕ) → m < made → seat m ≡ 0 → seat' m ≡ 0) → AreEnded seat merged made ended → AreEnded seat' merged made' ended
ended_more seat seat' merged made made' [] more same are = tt
ended_more seat seat' merged made made' (end ∷ ended) more same are =
    (are.0, (let a = are.1 in omega (arith, a, more)), same end.number are.1 are.2, are.3, ended_more seat seat' merged made made' ended more same are.4)

-- what others know stays, when one pass more has a number
fits_more : (seat seat' : ℕ → ℕ) (took : List MsgRef) (merged : List (ℕ × MsgRef)) (made made' other : ℕ) (log : MailLog) → made ≤ made' → (other ≡ 0 → ⊥) → ((m : ℕ) → m < made → seat m ≡ other → seat' m ≡ other) → FitsLog seat took merged made other log → FitsLog seat' took merged made' other log
fits_more seat seat' took merged made made' other Spent more apart same fits = tt
fits_more seat seat' took merged made made' other (Other number put) more apart same fits = (fits.0, (let a = fits.1 in omega (arith, a, more)), same number fits.1 fits.2, fits.3)
fits_more seat seat' took merged made made' other (First put its_took its_made ended) more apart same fits = absurd (apart fits.0)

pub forks : (id : ℕ) (put took : List MsgRef) (made : ℕ) (ended : List Ended) → Forks IsMerged id (First put took made ended) (handing (First put took made ended)) (handed (First put took made ended))
forks id put took made ended items logs kept there =
    record {
      took = kept.took;
      merged = kept.merged;
      made = kept.made + 1;
      seat = seat';
      some_made = omega arith;
      whole = kept.whole;
      later = λ number beyond. kept.later number (omega (arith, beyond));
      fits = λ other seen is. ⊎_elim (old other seen) (fresh other seen) (snoc_place (set logs id left) right seen other is);
    }
  where
    mine : FitsLog kept.seat kept.took kept.merged kept.made id (First put took made ended)
    mine = kept.fits id (First put took made ended) there

    left : MailLog
    left = handing (First put took made ended)

    right : MailLog
    right = handed (First put took made ended)

    place : ℕ
    place = length (set logs id left)

    seat' : ℕ → ℕ
    seat' = seat_at kept.seat kept.made place

    same : (other m : ℕ) → m < kept.made → kept.seat m ≡ other → seat' m ≡ other
    same other m below is = seat_else kept.seat kept.made place m (λ e. absurd (omega (arith, below, e))) ∙ is

    Fits : ℕ → MailLog → Type 0
    Fits = FitsLog seat' kept.took kept.merged (kept.made + 1)

    old : (other : ℕ) (seen : MailLog) → get_elem? (set logs id left) other ≡ some seen → Fits other seen
    old other seen is = ⊎_elim
        (λ (h : (other ≡ id) × (left ≡ seen)). subst (λ (y : ℕ × MailLog). Fits y.0 y.1) (λ i. (sym h.0 i, h.1 i))
        (mine.0, mine.1, mine.2, ap (λ n. n + 1) mine.3, ended_more kept.seat seat' kept.merged kept.made (kept.made + 1) ended (omega arith) (same 0) mine.4))
        (λ h. fits_more kept.seat seat' kept.took kept.merged kept.made (kept.made + 1) other seen (omega arith) (λ none. h.0 (none ∙ sym mine.0)) (same other) (kept.fits other seen h.1))
        (at_set logs id other left seen is)

    fresh : (other : ℕ) (seen : MailLog) → (other ≡ place) × (right ≡ seen) → Fits other seen
    fresh other seen h =
        let number_is : kept.made ≡ made = sym mine.3 in
        let none : put_by made kept.merged ≡ [] = kept.later made (omega (arith, number_is)) in
        let some_made : 0 < made = (let s = kept.some_made in omega (arith, s, number_is)) in
        let its : seat' made ≡ place = ap seat' (sym number_is) ∙ seat_here kept.seat kept.made place in
        subst (λ (y : ℕ × MailLog). Fits y.0 y.1) (λ i. (sym h.0 i, h.1 i)) (some_made, omega (arith, number_is), its, none)

-- ---- and takes it back

pub joins : (id : ℕ) (put took : List MsgRef) (made : ℕ) (ended : List Ended) (other number : ℕ) (theirs : List MsgRef) → Merges IsMerged id (First put took made ended) other (Other number theirs) (taking_in (First put took made ended) (Other number theirs)) Spent
joins id put took made ended other number theirs items logs kept there apart there_too =
    record {
      took = kept.took;
      merged = kept.merged;
      made = kept.made;
      seat = seat';
      some_made = kept.some_made;
      whole = kept.whole;
      later = kept.later;
      fits = λ place seen is. ⊎_elim
          (λ (h : (place ≡ other) × (Spent ≡ seen)). subst (λ (l : MailLog). Fits place l) h.1 tt)
          (λ h. old place seen h.0 h.1)
          (at_set (set logs id both) other place Spent seen is);
    }
  where
    both : MailLog
    both = taking_in (First put took made ended) (Other number theirs)

    mine : FitsLog kept.seat kept.took kept.merged kept.made id (First put took made ended)
    mine = kept.fits id (First put took made ended) there

    its : FitsLog kept.seat kept.took kept.merged kept.made other (Other number theirs)
    its = ⊎_elim
        (λ (h : (other ≡ id) × (both ≡ Other number theirs)). absurd (apart h.0))
        (λ h. kept.fits other (Other number theirs) h.1)
        (at_set logs id other both (Other number theirs) there_too)

    seat' : ℕ → ℕ
    seat' = seat_at kept.seat number 0

    Fits : ℕ → MailLog → Type 0
    Fits = FitsLog seat' kept.took kept.merged kept.made

    same : (place m : ℕ) → place ≢ other → m < kept.made → kept.seat m ≡ place → seat' m ≡ place
    same place m ne below is = seat_else kept.seat number 0 m (λ e. ne (sym is ∙ (ap kept.seat e ∙ its.2))) ∙ is

    old : (place : ℕ) (seen : MailLog) → place ≢ other → get_elem? (set logs id both) place ≡ some seen → Fits place seen
    old place seen ne is = ⊎_elim
        (λ (h : (place ≡ id) × (both ≡ seen)). subst (λ (y : ℕ × MailLog). Fits y.0 y.1) (λ i. (sym h.0 i, h.1 i))
        (mine.0, mine.1, mine.2, mine.3, (its.0, its.1, seat_here kept.seat number 0, its.3, ended_more kept.seat seat' kept.merged kept.made kept.made ended (omega arith) (λ m. same 0 m (λ e. apart (sym e ∙ sym mine.0))) mine.4)))
        (λ h. fits_more kept.seat seat' kept.took kept.merged kept.made kept.made place seen (omega arith) (λ none. h.0 (none ∙ sym mine.0)) (λ m. same place m ne) (kept.fits place seen h.1))
        (at_set logs id place both seen is)

-- ---- the start, and what is learned

pub begins : IsMerged [] (First [] [] 1 [] ∷ [])
begins =
    record {
      took = [];
      merged = [];
      made = 1;
      seat = λ _. 0;
      some_made = omega arith;
      whole = refl;
      later = λ other beyond. refl;
      fits = λ other seen is. ⊎_elim
          (λ (old : get_elem? {A = MailLog} [] other ≡ some seen). absurd (some-ne-none seen (sym old)))
          (λ (h : (other ≡ 0) × (First [] [] 1 [] ≡ seen)). subst (λ (y : ℕ × MailLog). FitsLog (λ _. 0) [] [] 1 y.0 y.1) (λ i. (sym h.0 i, h.1 i)) (refl, refl, refl, refl, tt))
          (snoc_place [] (First [] [] 1 []) seen other is);
    }

pub learns : (id : ℕ) (log : MailLog) → Learns IsMerged id log (IsSeen log)
learns id Spent items logs kept there = tt
learns id (Other number put) items logs kept there =
    let fits = kept.fits id (Other number put) there in
    record { taken = kept.took; merged = kept.merged; whole = kept.whole; mine = fits.3; its = λ none. absurd (let some_number = fits.0 in omega (arith, some_number, none)) }
learns id (First put took made ended) items logs kept there =
    let fits = kept.fits id (First put took made ended) there in
    record { taken = kept.took; merged = kept.merged; whole = kept.whole; mine = fits.1; its = λ _. sym fits.2 }

are_put : (seat : ℕ → ℕ) (merged : List (ℕ × MsgRef)) (made : ℕ) (ended : List Ended) → AreEnded seat merged made ended → ArePut merged ended
are_put seat merged made [] are = tt
are_put seat merged made (end ∷ ended) are = (are.3, are_put seat merged made ended are.4)

pub ends : (id : ℕ) (log : MailLog) → Learns IsMerged id log (IsEnded log)
ends id Spent items logs kept there = (kept.merged, tt)
ends id (Other number put) items logs kept there = (kept.merged, tt)
ends id (First put took made ended) items logs kept there = let fits = kept.fits id (First put took made ended) there in
    (kept.merged, (ap (λ l. joined l items) fits.2 ∙ kept.whole, fits.1, are_put kept.seat kept.merged kept.made ended fits.4, λ number beyond. kept.later number (let is = fits.3 in omega (arith, is, beyond))))

-- ---- a pass that is out

pub live : (receives : Bool) (log : MailLog) → IsOut receives log → IsLive log
live true log out = subst IsLive (sym out.3) tt
live false log out = subst IsLive (sym out.3) tt

pub seen_there : (receives : Bool) (log : MailLog) (items : List MsgRef) → IsOut receives log → IsSeen log items → IsThere (number_of log) (put_of log) (took_of log) items
seen_there true log items out seen = subst (λ (l : MailLog). IsSeen l items → IsThere (number_of l) (put_of l) (took_of l) items) (sym out.3) (λ s. s) seen
seen_there false log items out seen = subst (λ (l : MailLog). IsSeen l items → IsThere (number_of l) (put_of l) (took_of l) items) (sym out.3) (λ s. s) seen

-- it is out still, and has put, or taken, one reference more
pub put_out : (receives : Bool) (log new : MailLog) (at : MsgRef) → IsOut receives log → new ≡ with_put at log → IsOut receives new
put_out true log new at out is = (out.0 ++ at ∷ [], out.1, out.2, is ∙ ap (with_put at) out.3)
put_out false log new at out is = (out.0, out.1 ++ at ∷ [], out.2, is ∙ ap (with_put at) out.3)

pub taken_out : (log new : MailLog) (at : MsgRef) → IsOut true log → new ≡ with_taken at log → IsOut true new
taken_out log new at out is = (out.0, at ∷ out.1, out.2, is ∙ ap (with_taken at) out.3)

pub put_view : (receives : Bool) (table : TableId) (log new : MailLog) (takes : ℕ) (full : Bool) (at : MsgRef) → IsOut receives log → new ≡ with_put at log → pass_view table new takes false ≡ put_in at (pass_view table log takes full)
put_view true table log new takes full at out is = ap (λ (l : MailLog). pass_view table l takes false) is ∙ subst (λ (l : MailLog). pass_view table (with_put at l) takes false ≡ put_in at (pass_view table l takes full)) (sym out.3) refl
put_view false table log new takes full at out is = ap (λ (l : MailLog). pass_view table l takes false) is ∙ subst (λ (l : MailLog). pass_view table (with_put at l) takes false ≡ put_in at (pass_view table l takes full)) (sym out.3) refl

pub taken_view : (table : TableId) (log new : MailLog) (takes : ℕ) (full : Bool) (at : MsgRef) → IsOut true log → new ≡ with_taken at log → pass_view table new (takes + 1) full ≡ taken_from (Some at) (pass_view table log takes full)
taken_view table log new takes full at out is = ap (λ (l : MailLog). pass_view table l (takes + 1) full) is ∙ subst (λ (l : MailLog). pass_view table (with_taken at l) (takes + 1) full ≡ taken_from (Some at) (pass_view table l takes full)) (sym out.3) refl

-- the pass 0 is the first one
pub first_is : (receives : Bool) (log : MailLog) → IsOut receives log → number_of log ≡ 0 → receives ≡ true
first_is true log out none = refl
first_is false log out none = absurd (let n : number_of log ≡ out.0 = ap number_of out.3 in let some_number = out.2 in omega (arith, n, some_number, none))

pub number_is : (receives : Bool) (log : MailLog) → IsOut receives log → receives ≡ (number_of log == 0)
number_is true log out = ap (λ (l : MailLog). number_of l == 0) (sym out.3)
number_is false log out = sym (ne_eqb (number_of log) 0 (λ none. let n : number_of log ≡ out.0 = ap number_of out.3 in let some_number = out.2 in omega (arith, n, some_number, none)))

pub is_first : (log : MailLog) → IsOut true log → IsFirst log
is_first log out = (out.0, out.1, out.2, [], out.3)

-- ---- passes that come back

pub joins_as : (id : ℕ) (log : MailLog) (other : ℕ) (theirs : MailLog) → IsFirst log → IsOut false theirs → Merges IsMerged id log other theirs (taking_in log theirs) Spent
joins_as id log other theirs first out = subst (λ (y : MailLog × MailLog). Merges IsMerged id y.0 other y.1 (taking_in y.0 y.1) Spent) (λ i. (sym first.4 i, sym out.3 i)) (joins id first.0 first.1 first.2 first.3 other out.0 out.1)

pub forks_as : (id : ℕ) (log : MailLog) → IsFirst log → Forks IsMerged id log (handing log) (handed log)
forks_as id log first = subst (λ (l : MailLog). Forks IsMerged id l (handing l) (handed l)) (sym first.4) (forks id first.0 first.1 first.2 first.3)

pub takes_as : (id : ℕ) (log : MailLog) → IsFirst log → Pops IsMerged id log (λ at new. new ≡ with_taken at log)
takes_as id log first = subst (λ (l : MailLog). Pops IsMerged id l (λ at new. new ≡ with_taken at l)) (sym first.4) (takes id first.0 first.1 first.2 first.3)

all_put : (merged : List (ℕ × MsgRef)) (passes : List MailView) → ArePut merged (ended_of passes) → All (λ mail. put_by mail.number merged ≡ mail.put) passes
all_put merged [] are k d h = absurd (omega arith)
all_put merged (mail ∷ passes) are zero d h = are.0
all_put merged (mail ∷ passes) are (suc k) d h = all_put merged passes are.1 k d (omega arith)

-- what the first pass learns at the end
pub closed : (table : TableId) (log after : MailLog) (takes : ℕ) (full : Bool) (others : List MailView) (items : List MsgRef) → IsOut true log → ((put took : List MsgRef) (made : ℕ) → log ≡ First put took made [] → after ≡ First put took made (ended_of others)) → IsEnded after items → IsClosed (pass_view table log takes full) others
closed table log after takes full others items out gathered ended =
    let is = gathered out.0 out.1 out.2 out.3 in
    let over = subst (IsOver ended.0 items) is ended.1 in
    subst (λ (l : MailLog). IsClosed (pass_view table l takes full) others) (sym out.3)
    (record { left = items; merged = ended.0; whole = over.0; first_put = over.1; put = all_put ended.0 others over.2; none = over.3 })

-- a pass with a number above 0 is not the first one
pub other_is : (receives : Bool) (log : MailLog) → IsOut receives log → 0 < number_of log → IsOut false log
other_is true log out some_number = absurd (let n : number_of log ≡ 0 = ap number_of out.3 in omega (arith, n, some_number))
other_is false log out some_number = out

pub took_in : (old log after : MailLog) (number : ℕ) (theirs : List MsgRef) → after ≡ taking_in old log → IsOut false log → number_of log ≡ number → put_of log ≡ theirs
    → (put took : List MsgRef) (made : ℕ) (ended : List Ended) → old ≡ First put took made ended → after ≡ First put took made (record { number = number; put = theirs } ∷ ended)
took_in old log after number theirs is out number_same put_same put took made ended old_is =
    let n : out.0 ≡ number = sym (ap number_of out.3) ∙ number_same in
    let p : out.1 ≡ theirs = sym (ap put_of out.3) ∙ put_same in
    is ∙ ((λ i. taking_in (old_is i) (out.3 i)) ∙ ap (λ (y : ℕ × List MsgRef). First put took made (record { number = y.0; put = y.1 } ∷ ended)) (λ i. (n i, p i)))

pub all_front : {A : Type 0} (P : A → Type 0) (xs : List A) (y : A) → All P (xs ++ y ∷ []) → All P xs
all_front P [] y all k d h = absurd (omega arith)
all_front P (x ∷ xs) y all zero d h = all 0 d (omega arith)
all_front P (x ∷ xs) y all (suc k) d h = all_front P xs y (λ i e b. all (suc i) e (omega arith)) k d (omega arith)

pub all_last : {A : Type 0} (P : A → Type 0) (xs : List A) (y : A) → All P (xs ++ y ∷ []) → P y
all_last P [] y all = all 0 y (omega arith)
all_last P (x ∷ xs) y all = all_last P xs y (λ i e b. all (suc i) e (omega arith))

-- one pass more was made
pub fresh_next : (table its : TableId) (count : ℕ) (log : MailLog) (old new : List MailView) (pass : MailView) → old ≡ fresh_passes table count → new ≡ old ++ pass ∷ [] → its ≡ table → log ≡ Other (count + 1) [] → pass ≡ pass_view its log 0 false → new ≡ fresh_passes table (count + 1)
fresh_next table its count log old new pass old_is new_is same log_is pass_is =
    let p : pass ≡ first_mail table (count + 1) 0 = pass_is ∙ (λ i. pass_view (same i) (log_is i) 0 false) in
    let one : suc count ≡ count + 1 = omega arith in
    new_is ∙ ((λ i. old_is i ++ p i ∷ []) ∙ ap (fresh_passes table) one)

pub closed_as : (receives : Bool) (first : MailView) (table : TableId) (log after : MailLog) (others : List MailView) (items : List MsgRef) → IsOut receives log → first ≡ pass_view table log first.takes first.full → first.number ≡ 0
    → ((put took : List MsgRef) (made : ℕ) → log ≡ First put took made [] → after ≡ First put took made (ended_of others)) → IsEnded after items → IsClosed first others
closed_as receives first table log after others items out is none gathered ended =
    let number : number_of log ≡ 0 = sym (ap (λ (mail : MailView). mail.number) is) ∙ none in
    let its : IsOut true log = subst (λ (b : Bool). IsOut b log) (first_is receives log out number) out in
    subst (λ (mail : MailView). IsClosed mail others) (sym is) (closed table log after first.takes first.full others items its gathered ended)

-- What waits in the outboxes is what is put for the messages.
use Rattle.std.proofs.Common.{ap, append_assoc, length-append, arith, refl, subst, sym, ◌∙◌}
use Rattle.std.specs.Prelude.{Bool, List, None, Option, Some, [], false, if◌then◌else◌, length, slice_index_or, suc, true, zero, ℕ, ◌++◌, ◌+◌, ◌-◌, ◌*◌, ◌<◌, ◌∷◌, ◌≡◌, ◌≤◌}
use Rattle.base_ids.specs.declared.ids.Actor.{Actor}
use Rattle.base_ids.specs.declared.ids.MsgRef.{MsgRef}
use Rattle.cluster_history.specs.declared.data.Output.{Output}
use Rattle.cluster_history.specs.declared.data.Output.TheVariants.{Sent}
use Rattle.plan_facts.specs.Posts.{Post, copies_after, draws_of, put_for, repeated, sent_to, with_sent}
use Rattle.base_ids.specs.Names.{same_actor}
use Rattle.run_plan.specs.declared.plan.Storm.{Storm}
use Rattle.rand_pcg.specs.Lcg.{Lcg}
use Rattle.std.proofs.Common.{take}
use Rattle.std.proofs.lemmas.List.{take_more}
use Rattle.engine_desk.specs.Offices.{AreDrawn, ArePlaced, ArePosted, AreSent, BoxView, HasRoom, HaveRoom, IsOffice, IsPosted, box_place, letters_of, post_of, with_letters}
use Rattle.engine_desk.specs.declared.office.Letter.{Letter}

box_sent : (storm : Option Storm) (worker : ℕ) (posts : List Post) (post : Post) (old new : BoxView) → IsPosted (copies_after storm worker posts) post.at post.to old new → sent_to storm worker old.to posts ≡ old.put ++ old.out → sent_to storm worker new.to (post ∷ posts) ≡ new.put ++ new.out
box_sent storm worker posts post old new p h =
    let copies = copies_after storm worker posts in
    (λ i. sent_to storm worker (p.to_is i) posts ++ put_for copies post.to post.at (p.to_is i))
    ∙ ap (λ l. l ++ put_for copies post.to post.at old.to) h
    ∙ append_assoc old.put old.out (put_for copies post.to post.at old.to)
    ∙ (λ i. sym p.put_is i ++ sym p.out_is i)

pub office_posted : (storm : Option Storm) (worker : ℕ) (draws drawn : Lcg) (old new : List BoxView) (posts : List Post) (post : Post) (copies : ℕ) → copies ≡ copies_after storm worker posts → AreDrawn storm worker drawn (post ∷ posts) → ArePosted copies post.at post.to old new → IsOffice storm worker draws old posts → IsOffice storm worker drawn new (post ∷ posts)
office_posted storm worker draws drawn old new posts post copies is after posted office =
    let moved : ArePosted (copies_after storm worker posts) post.at post.to old new = subst (λ n. ArePosted n post.at post.to old new) is posted in
    record {
      drawn = after;
      sent = λ k d less. let in_old : k < length old = subst (λ n. k < n) moved.count less in
          box_sent storm worker posts post (slice_index_or old k d) (slice_index_or new k d) (moved.each k d in_old) (office.sent k d in_old);
    }

-- ---- letters

pub letters_sent : (by : Actor) (number out : ℕ) (outputs : List Output) (posts : List Post) → with_sent by number out outputs posts ≡ with_letters by number (letters_of out outputs) posts
letters_sent by number out [] posts = refl
letters_sent by number out (Sent message ∷ outputs) posts = letters_sent by number (out + 1) outputs _
letters_sent by number out (output ∷ outputs) posts = letters_sent by number (out + 1) outputs posts

pub letters-last : (by : Actor) (number : ℕ) (letters : List Letter) (letter : Letter) (posts : List Post) → with_letters by number (letters ++ letter ∷ []) posts ≡ post_of by number letter ∷ with_letters by number letters posts
letters-last by number [] letter posts = refl
letters-last by number (first ∷ letters) letter posts = letters-last by number letters letter (post_of by number first ∷ posts)

-- ---- one message more

pub placed_posted : (lanes copies : ℕ) (at : MsgRef) (to : Actor) (old new : List BoxView) → ArePosted copies at to old new → ArePlaced lanes old → ArePlaced lanes new
placed_posted lanes copies at to old new p placed k d less =
    let in_old : k < length old = subst (λ n. k < n) p.count less in
    ap (box_place lanes) (p.each k d in_old).to_is ∙ placed k d in_old

repeated_length : (n : ℕ) (at : MsgRef) → length (repeated n at) ≡ n
repeated_length zero at = refl
repeated_length (suc n) at = ap suc (repeated_length n at)

put_length : (copies : ℕ) (to : Actor) (at : MsgRef) (actor : Actor) → length (put_for copies to at actor) ≤ copies
put_length copies to at actor =
    let n = repeated_length copies at in
    elim (same_actor to actor) as (λ b. length (if b then repeated copies at else []) ≤ copies) [ true ↦ omega (arith, n) | false ↦ omega arith ]

pub room_posted : (lanes copies count : ℕ) (at : MsgRef) (to other : Actor) (old new : List BoxView) → copies ≤ 2 → ArePosted copies at to old new → HasRoom lanes old (count + 2) other → HasRoom lanes new count other
room_posted lanes copies count at to other old new few p room d less =
    let place = box_place lanes other in
    let in_old : place < length old = subst (λ n. place < n) p.count less in
    let q = p.each place d in_old in
    let before : length (slice_index_or old place d).out + (count + 2) ≤ (slice_index_or old place d).size = room d in_old in
    let grown = q.size_is in
    let longer = ap length q.out_is ∙ length-append (slice_index_or old place d).out (put_for copies to at (slice_index_or old place d).to) in
    let put = put_length copies to at (slice_index_or old place d).to in
    let fits : length (slice_index_or new place d).out + count ≤ (slice_index_or new place d).size = omega (arith, before, grown, longer, put, few) in
    fits

-- ---- letters, one after the other

abbrev pub IsPosting : Option Storm → ℕ → ℕ → List Letter → Lcg → List BoxView → ℕ → Lcg → List BoxView → Type 0
IsPosting storm lanes number letters first boxes count draws now =
    ArePlaced lanes now
    × HaveRoom lanes now count letters
    × ((worker : ℕ) (by : Actor) (posts : List Post) → IsOffice storm worker first boxes posts → IsOffice storm worker draws now (with_letters by number (take count letters) posts))

pub posting_on : (storm : Option Storm) (lanes number : ℕ) (letters : List Letter) (first : Lcg) (boxes : List BoxView) (i : ℕ) (draws drawn : Lcg) (old new : List BoxView) (copies : ℕ) (d : Letter)
    → i < length letters
    → copies ≤ 2
    → ((worker : ℕ) (posts : List Post) (post : Post) → AreDrawn storm worker draws posts → AreDrawn storm worker drawn (post ∷ posts))
    → ((worker : ℕ) (posts : List Post) → AreDrawn storm worker draws posts → copies ≡ copies_after storm worker posts)
    → ArePosted copies (record { event = number; out = (slice_index_or letters i d).out }) (slice_index_or letters i d).to old new
    → IsPosting storm lanes number letters first boxes i draws old
    → IsPosting storm lanes number letters first boxes (i + 1) drawn new
posting_on storm lanes number letters first boxes i draws drawn old new copies d less few draw_on count posted inv =
    let letter = slice_index_or letters i d in (
      placed_posted lanes copies (record { event = number; out = letter.out }) letter.to old new posted inv.0,
      λ k e from in_range.
          let after : i ≤ k = omega (arith, from) in
          let same : 2 * (length letters - (i + 1)) + 2 ≡ 2 * (length letters - i) = omega (arith, less) in
          room_posted lanes copies (2 * (length letters - (i + 1))) (record { event = number; out = letter.out }) letter.to (slice_index_or letters k e).to old new few posted
          (subst (λ n. HasRoom lanes old n (slice_index_or letters k e).to) (sym same) (inv.1 k e after in_range)),
      λ worker by posts office.
          let so_far = inv.2 worker by posts office in
          let before = with_letters by number (take i letters) posts in
          let longer : with_letters by number (take (i + 1) letters) posts ≡ post_of by number letter ∷ before =
          ap (λ (l : List Letter). with_letters by number l posts) (take_more letters i d less) ∙ letters-last by number (take i letters) letter posts in
          subst (IsOffice storm worker drawn new) (sym longer)
          (office_posted storm worker draws drawn old new before (post_of by number letter) copies (count worker before so_far.drawn) (draw_on worker before (post_of by number letter) so_far.drawn) posted so_far),
    )

-- A message waits in the box of its addressee, and in no other.
use Rattle.std.proofs.Common.{ap, arith, refl, subst, sym, ◌∙◌, length-set, length, get_or, set, inl, inr}
use Rattle.std.proofs.lemmas.Bool.{cases_eq}
use Rattle.std.proofs.lemmas.List.{append-nil, get_or-set_other, get_or-set_same, get_or_default}
use Rattle.std.specs.Prelude.{Bool, List, [], false, if◌then◌else◌, true, ℕ, ◌++◌, ◌+◌, ◌<◌, ◌∷◌, ◌≡◌, ◌≢◌, ◌≤◌}
use Rattle.base_ids.specs.Names.{same_actor}
use Rattle.base_ids.specs.declared.ids.Actor.{Actor}
use Rattle.base_ids.specs.declared.ids.MsgRef.{MsgRef}
use Rattle.base_ids.proofs.NameLemmas.{same_actor-same}
use Rattle.plan_facts.specs.Posts.{put_for, repeated}
use Rattle.engine_desk.specs.Offices.{ArePlaced, ArePosted, BoxView, IsPosted, box_place}

-- a box of the actor stands at the actor's place
at_place : (lanes : ℕ) (to : Actor) (boxes : List BoxView) (k : ℕ) (d : BoxView) → ArePlaced lanes boxes → k < length boxes → same_actor to (get_or boxes k d).to ≡ true → k ≡ box_place lanes to
at_place lanes to boxes k d placed less same =
    sym (placed k d less) ∙ ap (box_place lanes) (sym (same_actor-same to (get_or boxes k d).to same))

unposted : (copies : ℕ) (at : MsgRef) (to : Actor) (box : BoxView) → same_actor to box.to ≡ false → IsPosted copies at to box box
unposted copies at to box e =
    let none : put_for copies to at box.to ≡ [] = rw e refl in
    record {
      to_is = refl;
      put_is = refl;
      full_is = refl;
      out_is = sym (ap (λ l. box.out ++ l) none ∙ append-nil box.out);
      size_is = omega arith;
    }

posted_here : (copies : ℕ) (at : MsgRef) (to : Actor) (old new : BoxView) → same_actor to old.to ≡ true → new ≡ record old { out = old.out ++ repeated copies at; size = new.size } → old.size ≤ new.size → IsPosted copies at to old new
posted_here copies at to old new e is grown =
    let all : put_for copies to at old.to ≡ repeated copies at = rw e refl in
    record {
      to_is = ap (λ (b : BoxView). b.to) is;
      put_is = ap (λ (b : BoxView). b.put) is;
      full_is = ap (λ (b : BoxView). b.full) is;
      out_is = ap (λ (b : BoxView). b.out) is ∙ ap (λ l. old.out ++ l) (sym all);
      size_is = grown;
    }

-- where no box is the actor's
pub none_posted : (lanes copies : ℕ) (at : MsgRef) (to : Actor) (boxes : List BoxView) → ArePlaced lanes boxes → ((d : BoxView) → box_place lanes to < length boxes → same_actor to (get_or boxes (box_place lanes to) d).to ≡ false) → ArePosted copies at to boxes boxes
none_posted lanes copies at to boxes placed none =
    record {
      count = refl;
      each = λ k d less. unposted copies at to (get_or boxes k d) (not_there k d less);
    }
  where
    not_there : (k : ℕ) (d : BoxView) → k < length boxes → same_actor to (get_or boxes k d).to ≡ false
    not_there k d less =
        (elim (same_actor to (get_or boxes k d).to) as (λ b. same_actor to (get_or boxes k d).to ≡ b → b ≡ false) [
          | true ↦ λ e.
              let here = at_place lanes to boxes k d placed less e in
              let found : same_actor to (get_or boxes k d).to ≡ false = subst (λ n. n < length boxes → same_actor to (get_or boxes n d).to ≡ false) (sym here) (none d) less in
              sym e ∙ found
          | false ↦ λ e. refl
        ]) refl

-- where one is
pub one_posted : (lanes copies : ℕ) (at : MsgRef) (to : Actor) (boxes : List BoxView) (place : ℕ) (old new : BoxView) → ArePlaced lanes boxes → place ≡ box_place lanes to → place < length boxes → old ≡ get_or boxes place old → same_actor to old.to ≡ true → new ≡ record old { out = old.out ++ repeated copies at; size = new.size } → old.size ≤ new.size → ArePosted copies at to boxes (set boxes place new)
one_posted lanes copies at to boxes place old new placed at_is less here same is grown =
    record {
      count = length-set boxes place new;
      each = λ k d in_range. each_box k d in_range;
    }
  where
    each_box : (k : ℕ) (d : BoxView) → k < length boxes → IsPosted copies at to (get_or boxes k d) (get_or (set boxes place new) k d)
    each_box k d in_range =
        elim (cases_eq k place) as (λ _. IsPosted copies at to (get_or boxes k d) (get_or (set boxes place new) k d)) [
          | inl e ↦
              let old_is : get_or boxes k d ≡ old = ap (λ n. get_or boxes n d) e ∙ get_or_default boxes place d old less ∙ sym here in
              let new_is : get_or (set boxes place new) k d ≡ new = ap (λ n. get_or (set boxes place new) n d) e ∙ get_or-set_same boxes place new d less in
              subst (λ (b : BoxView). IsPosted copies at to (get_or boxes k d) b) (sym new_is)
              (subst (λ (b : BoxView). IsPosted copies at to b new) (sym old_is) (posted_here copies at to old new same is grown))
          | inr ne ↦
              subst (λ (b : BoxView). IsPosted copies at to (get_or boxes k d) b) (sym (get_or-set_other boxes place k new d ne))
              (unposted copies at to (get_or boxes k d) (elsewhere k d in_range ne))
        ]
      where
        elsewhere : (k : ℕ) (d : BoxView) → k < length boxes → k ≢ place → same_actor to (get_or boxes k d).to ≡ false
        elsewhere k d in_range ne =
            (elim (same_actor to (get_or boxes k d).to) as (λ b. same_actor to (get_or boxes k d).to ≡ b → b ≡ false) [
              | true ↦ λ e. absurd (ne (at_place lanes to boxes k d placed in_range e ∙ sym at_is))
              | false ↦ λ e. refl
            ]) refl

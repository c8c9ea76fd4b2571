-- The messages of an entry, and room for them in the outboxes.
use Rattle.std.proofs.Common.{ap, arith, refl, subst, sym, ◌∙◌, append-nil, drop, get_or, inl, inr, length-set, set, take, take_all}
use Rattle.std.proofs.lemmas.Bool.{cases_eq}
use Rattle.std.proofs.lemmas.List.{drop_all, get_or-set_other, get_or-set_same, get_or_default, length-take-le, take_more}
use Rattle.std.specs.Prelude.{List, Option, [], length, slice_index_or, suc, ℕ, ◌*◌, ◌++◌, ◌+◌, ◌-◌, ◌<◌, ◌∷◌, ◌≡◌, ◌≢◌, ◌≤◌}
use Rattle.base_ids.specs.declared.ids.Actor.{Actor}
use Rattle.cluster_history.specs.Messages.{addressee}
use Rattle.cluster_history.specs.declared.data.Output.{Output}
use Rattle.cluster_history.specs.declared.data.Output.TheVariants.{Sent}
use Rattle.plan_facts.specs.Posts.{Post, sent_to}
use Rattle.run_plan.specs.declared.plan.Storm.{Storm}
use Rattle.rand_pcg.specs.Lcg.{Lcg}
use Rattle.engine_desk.specs.Offices.{ArePlaced, BoxView, HasRoom, HaveRoom, IsOffice, box_place, letters_of}
use Rattle.engine_desk.specs.declared.office.Letter.{Letter}
use Rattle.engine_office.specs.Sendings.{AreGrown, IsGrown}

-- ---- lists

-- what a slice of a whole list leaves of it
pub sliced : {X : Type 0} (n : ℕ) (new old : List X) → length new ≡ n → length old ≤ n → take n (new ++ drop (length new) old) ≡ new
sliced n new old is few =
    let rest : drop (length new) old ≡ [] = drop_all (length new) old (omega (arith, is, few)) in
    ap (λ l. take n (new ++ l)) rest ∙ ap (take n) (append-nil new) ∙ take_all n new (omega (arith, is))

pub letters-append : (out n : ℕ) (xs ys : List Output) → n ≡ out + length xs → letters_of out (xs ++ ys) ≡ letters_of out xs ++ letters_of n ys
letters-append out n [] ys is = let e : out ≡ n = omega (arith, is) in ap (λ k. letters_of k ys) e
letters-append out n (Sent message ∷ xs) ys is =
    ap (λ l. record { out = out; to = addressee message } ∷ l) (letters-append (out + 1) n xs ys (omega (arith, is)))
letters-append out n (output ∷ xs) ys is = letters-append (out + 1) n xs ys (omega (arith, is))

pub letters_on : (outputs : List Output) (i out : ℕ) (d : Output) (letters longer : List Letter) → i < length outputs → out ≡ i → letters ≡ letters_of 0 (take i outputs) → longer ≡ letters ++ letters_of out (get_or outputs i d ∷ []) → longer ≡ letters_of 0 (take (i + 1) outputs)
letters_on outputs i out d letters longer less is so_far now =
    let within : length (take i outputs) ≡ i = length-take-le i outputs (omega (arith, less)) in
    now
    ∙ ap (λ l. l ++ letters_of out (get_or outputs i d ∷ [])) so_far
    ∙ sym (letters-append 0 out (take i outputs) (get_or outputs i d ∷ []) (omega (arith, within, is)))
    ∙ ap (letters_of 0) (sym (take_more outputs i d less))

-- ---- room

pub grown_itself : (box : BoxView) → IsGrown box box
grown_itself box = record { to_is = refl; put_is = refl; full_is = refl; out_is = refl; size_is = omega arith }

pub grown_same : (boxes : List BoxView) → AreGrown boxes boxes
grown_same boxes = record { count = refl; each = λ k d less. grown_itself (get_or boxes k d) }

grown_on : (a b c : BoxView) → IsGrown a b → IsGrown b c → IsGrown a c
grown_on a b c f s =
    let first = f.size_is in
    let second = s.size_is in
    record {
      to_is = s.to_is ∙ f.to_is;
      put_is = s.put_is ∙ f.put_is;
      full_is = s.full_is ∙ f.full_is;
      out_is = s.out_is ∙ f.out_is;
      size_is = omega (arith, first, second);
    }

pub grown_twice : (a b c : List BoxView) → AreGrown a b → AreGrown b c → AreGrown a c
grown_twice a b c f s =
    record {
      count = s.count ∙ f.count;
      each = λ k d less. grown_on (get_or a k d) (get_or b k d) (get_or c k d) (f.each k d less) (s.each k d (subst (λ n. k < n) (sym f.count) less));
    }

pub box_grown : (old new : BoxView) → new ≡ record old { size = new.size } → old.size ≤ new.size → IsGrown old new
box_grown old new is grown =
    record {
      to_is = ap (λ (b : BoxView). b.to) is;
      put_is = ap (λ (b : BoxView). b.put) is;
      full_is = ap (λ (b : BoxView). b.full) is;
      out_is = ap (λ (b : BoxView). b.out) is;
      size_is = grown;
    }

pub one_grown : (boxes : List BoxView) (place : ℕ) (old new : BoxView) → place < length boxes → old ≡ get_or boxes place old → IsGrown old new → AreGrown boxes (set boxes place new)
one_grown boxes place old new less here grown =
    record { count = length-set boxes place new; each = each_box }
  where
    each_box : (k : ℕ) (d : BoxView) → k < length boxes → IsGrown (get_or boxes k d) (get_or (set boxes place new) k d)
    each_box k d in_range =
        elim (cases_eq k place) as (λ _. IsGrown (get_or boxes k d) (get_or (set boxes place new) k d)) [
          | inl e ↦
              let old_is : get_or boxes k d ≡ old = ap (λ n. get_or boxes n d) e ∙ get_or_default boxes place d old less ∙ sym here in
              let new_is : get_or (set boxes place new) k d ≡ new = ap (λ n. get_or (set boxes place new) n d) e ∙ get_or-set_same boxes place new d less in
              subst (λ (b : BoxView). IsGrown (get_or boxes k d) b) (sym new_is)
              (subst (λ (b : BoxView). IsGrown b new) (sym old_is) grown)
          | inr ne ↦
              subst (λ (b : BoxView). IsGrown (get_or boxes k d) b) (sym (get_or-set_other boxes place k new d ne))
              (grown_itself (get_or boxes k d))
        ]

pub room_grown : (lanes count : ℕ) (to : Actor) (old new : List BoxView) → AreGrown old new → HasRoom lanes old count to → HasRoom lanes new count to
room_grown lanes count to old new g room d less =
    let place = box_place lanes to in
    let in_old : place < length old = subst (λ n. place < n) g.count less in
    let grown = g.each place d in_old in
    let before : length (slice_index_or old place d).out + count ≤ (slice_index_or old place d).size = room d in_old in
    let size = grown.size_is in
    let same = ap length grown.out_is in
    let fits : length (slice_index_or new place d).out + count ≤ (slice_index_or new place d).size = omega (arith, before, size, same) in
    fits

pub placed_grown : (lanes : ℕ) (old new : List BoxView) → AreGrown old new → ArePlaced lanes old → ArePlaced lanes new
placed_grown lanes old new g placed k d less =
    let in_old : k < length old = subst (λ n. k < n) g.count less in
    ap (box_place lanes) (g.each k d in_old).to_is ∙ placed k d in_old

pub office_grown : (storm : Option Storm) (worker : ℕ) (draws : Lcg) (posts : List Post) (old new : List BoxView) → AreGrown old new → IsOffice storm worker draws old posts → IsOffice storm worker draws new posts
office_grown storm worker draws posts old new g office =
    record {
      drawn = office.drawn;
      sent = λ k d less.
          let in_old : k < length old = subst (λ n. k < n) g.count less in
          let grown = g.each k d in_old in
          ap (λ to. sent_to storm worker to posts) grown.to_is ∙ office.sent k d in_old ∙ (λ i. sym grown.put_is i ++ sym grown.out_is i);
    }

-- so far there is room for these letters
abbrev pub IsReserved : ℕ → ℕ → List Letter → List BoxView → List BoxView → ℕ → Type 0
IsReserved lanes count letters first boxes i =
    AreGrown first boxes
    × ((k : ℕ) (d : Letter) → k < i → k < length letters → HasRoom lanes boxes count (slice_index_or letters k d).to)

pub reserved_on : (lanes count : ℕ) (letters : List Letter) (first old new : List BoxView) (i : ℕ) (e : Letter) → i < length letters → AreGrown old new → HasRoom lanes new count (get_or letters i e).to → IsReserved lanes count letters first old i → IsReserved lanes count letters first new (i + 1)
reserved_on lanes count letters first old new i e in_range g room inv = (grown_twice first old new inv.0 g, each)
  where
    each : (k : ℕ) (d : Letter) → k < i + 1 → k < length letters → HasRoom lanes new count (slice_index_or letters k d).to
    each k d less within =
        elim (cases_eq k i) as (λ _. HasRoom lanes new count (slice_index_or letters k d).to) [
          | inl is ↦
              let same : get_or letters k d ≡ get_or letters i e = ap (λ n. get_or letters n d) is ∙ get_or_default letters i d e in_range in
              subst (λ (l : Letter). HasRoom lanes new count l.to) (sym same) room
          | inr ne ↦ room_grown lanes count (slice_index_or letters k d).to old new g (inv.1 k d (omega (arith, less, ne)) within)
        ]

pub all_reserved : (lanes count : ℕ) (letters : List Letter) (first boxes : List BoxView) (i : ℕ) → count ≡ 2 * length letters → length letters ≤ i → IsReserved lanes count letters first boxes i → HaveRoom lanes boxes 0 letters
all_reserved lanes count letters first boxes i is past inv k d from within =
    let so_many : count ≡ 2 * (length letters - 0) = omega (arith, is) in
    subst (λ n. HasRoom lanes boxes n (slice_index_or letters k d).to) so_many (inv.1 k d (omega (arith, past, within)) within)

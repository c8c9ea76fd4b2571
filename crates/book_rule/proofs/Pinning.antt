-- The words of the table, when what one actor knows changes.
use Rattle.std.proofs.Common.{List, [], ap, arith, eq-eqb, get_or, get_or-set_same, length, length-set, ne_eqb, refl, set, sym, ℕ, ◌%◌, ◌*◌, ◌+◌, ◌<◌, ◌≤◌, ◌∙◌, ◌∷◌, ◌≡◌, ◌≢◌}
use Rattle.std.specs.Prelude.{Bool, false, if◌then◌else◌, not, true, ◌==◌, ◌||◌}
use mathlib.Core.Logic.{dite}
use native.Mathlib.Decide.{ℕ_discrete}
use Rattle.base_ids.specs.Names.{same_actor}
use Rattle.base_ids.specs.declared.ids.Actor.{Actor}
use Rattle.base_ids.specs.declared.ids.Actor.TheVariants.{Host as ByHost}
use Rattle.base_ids.specs.declared.ids.HostId.{HostId}
use Rattle.base_ids.specs.declared.ids.Version.{Version}
use Rattle.book_rule.proofs.Basics.{get_or-set_else, set-get}
use Rattle.base_ids.proofs.NameLemmas.{both_true, is_false, not_false, or_second, same_actor-refl, same_actor-same, same_host-same}
use Rattle.book_rule.proofs.Names.{apart, changed_else, changed_here, differ}
use Rattle.book_rule.specs.Notes.{AreWords, changed, host_of, on_word, one_if, pin_word, pins_on, published_of, total, version_word}
use Rattle.book_rule.specs.Turns.{are_distinct, has_actor}
use Rattle.book_rule.specs.declared.view.Note.{Note}

-- ---- sums over actors

module _ (F : Actor → Note → ℕ) (notes : Actor → Note) (a : Actor) (new : Note) where
  total_else : (actors : List Actor) → has_actor actors a ≡ false → total (λ b. F b (changed notes a new b)) actors ≡ total (λ b. F b (notes b)) actors
  total_else [] h = refl
  total_else (x ∷ xs) h =
      let both = Rattle.base_ids.proofs.NameLemmas.or_false (same_actor a x) (has_actor xs a) h in
      let other : same_actor x a ≡ false = apart x a (λ e. differ a x both.0 (sym e)) in
      let here : F x (changed notes a new x) ≡ F x (notes x) = ap (F x) (changed_else notes a new x other) in
      let rest = total_else xs both.1 in
      omega arith

  total_changed : (actors : List Actor) → are_distinct actors ≡ true → has_actor actors a ≡ true → total (λ b. F b (changed notes a new b)) actors + F a (notes a) ≡ total (λ b. F b (notes b)) actors + F a new
  total_changed [] distinct h = cc
  total_changed (x ∷ xs) distinct h = by (λ d later. total_changed xs d later) (same_actor a x) refl
    where
      both : (not (has_actor xs x) ≡ true) × (are_distinct xs ≡ true)
      both = both_true (not (has_actor xs x)) (are_distinct xs) distinct

      by : (are_distinct xs ≡ true → has_actor xs a ≡ true → total (λ b. F b (changed notes a new b)) xs + F a (notes a) ≡ total (λ b. F b (notes b)) xs + F a new) → (t : Bool) → same_actor a x ≡ t → total (λ b. F b (changed notes a new b)) (x ∷ xs) + F a (notes a) ≡ total (λ b. F b (notes b)) (x ∷ xs) + F a new
      by more true is =
          let same : a ≡ x = same_actor-same a x is in
          let here : F x (changed notes a new x) ≡ F a new = ap (λ b. F b (changed notes a new b)) (sym same) ∙ ap (F a) (changed_here notes a new) in
          let old : F x (notes x) ≡ F a (notes a) = ap (λ b. F b (notes b)) (sym same) in
          let rest = total_else xs (ap (has_actor xs) same ∙ not_false (has_actor xs x) both.0) in
          omega arith
      by more false is =
          let other : same_actor x a ≡ false = apart x a (λ e. differ a x is (sym e)) in
          let here : F x (changed notes a new x) ≡ F x (notes x) = ap (F x) (changed_else notes a new x other) in
          let later : has_actor xs a ≡ true = ap (λ t. t || has_actor xs a) (sym is) ∙ h in
          let rest = more both.1 later in
          omega arith

total_most : (f : Actor → ℕ) (actors : List Actor) → ((a : Actor) → f a ≤ 8) → total f actors ≤ 8 * length actors
total_most f [] h = omega arith
total_most f (x ∷ xs) h = let a = h x in let r = total_most f xs h in omega arith

pub total_zero : (f : Actor → ℕ) (actors : List Actor) (a : Actor) → total f actors ≡ 0 → has_actor actors a ≡ true → f a ≡ 0
total_zero f [] a z h = cc
total_zero f (x ∷ xs) a z h = elim (same_actor a x) as (λ t. same_actor a x ≡ t → (t || has_actor xs a) ≡ true → f a ≡ 0) [
  | true ↦ λ is _. ap f (same_actor-same a x is) ∙ omega arith
  | false ↦ λ _ rest. total_zero f xs a (omega arith) rest
]
    refl h

pub one_most : (b : Bool) → one_if b ≤ 1
one_most true = omega arith
one_most false = omega arith

pub on_word-most : (k : ℕ) (vs : List Version) → on_word k vs ≤ length vs
on_word-most k [] = omega arith
on_word-most k (v ∷ vs) = let r = on_word-most k vs in let o = one_most (v.0 % 8 == k) in omega arith

pins_on-most : (h k : ℕ) (a : Actor) (n : Note) → length n.pins + length n.raised ≤ 8 → pins_on h k a n ≤ 8
pins_on-most h k a n few = elim ((host_of a).0 == h) as (λ t. (let c : ℕ = if t then on_word k n.pins + on_word k n.raised else 0 in c) ≤ 8)
    [ true ↦ (let p = on_word-most k n.pins in let q = on_word-most k n.raised in omega arith) | false ↦ omega arith ]

pub pins_here : (k : ℕ) (a : Actor) (n : Note) → pins_on (host_of a).0 k a n ≡ on_word k n.pins + on_word k n.raised
pins_here k a n = ap (λ t. let c : ℕ = if t then on_word k n.pins + on_word k n.raised else 0 in c) (eq-eqb (host_of a).0 (host_of a).0 refl)

pub pins_else : (h k : ℕ) (a : Actor) (n : Note) → (host_of a).0 ≢ h → pins_on h k a n ≡ 0
pins_else h k a n ne = ap (λ t. let c : ℕ = if t then on_word k n.pins + on_word k n.raised else 0 in c) (ne_eqb (host_of a).0 h ne)

-- ---- the words, when one actor's note changes

module _ (hosts : ℕ) (actors : List Actor) (notes : Actor → Note) (words : List ℕ) (are : AreWords hosts actors notes words) (distinct : are_distinct actors ≡ true) (few : length actors < 4294967295) (a : Actor) (mine : has_actor actors a ≡ true) (n : Note) (eight : length n.pins + length n.raised ≤ 8) where
  eight_still : (b : Actor) → length (changed notes a n b).pins + length (changed notes a n b).raised ≤ 8
  eight_still = Rattle.book_rule.proofs.Names.changed_all notes a n (λ b x. length x.pins + length x.raised ≤ 8) eight (λ b _. are.eight b)

  published_still : n.published ≡ (notes a).published → (host : HostId) → published_of (changed notes a n) host ≡ published_of notes host
  published_still same host = Rattle.book_rule.proofs.Names.changed_all notes a n (λ b x. x.published ≡ (notes b).published) same (λ b _. refl) (ByHost host)

  total_at : (h k : ℕ) → total (λ b. pins_on h k b (changed notes a n b)) actors + pins_on h k a (notes a) ≡ total (λ b. pins_on h k b (notes b)) actors + pins_on h k a n
  total_at h k = total_changed (λ b x. pins_on h k b x) notes a n actors distinct mine

  pub total_few : (h k : ℕ) → total (λ b. pins_on h k b (notes b)) actors < 34359738368
  total_few h k = let t = total_most (λ b. pins_on h k b (notes b)) actors (λ b. pins_on-most h k b (notes b) (are.eight b)) in omega arith

  -- a load
  pub words_same : (i : ℕ) → n.published ≡ (notes a).published → ((h k : ℕ) → pins_on h k a n ≡ pins_on h k a (notes a)) → AreWords hosts actors (changed notes a n) (set words i (get_or words i 0))
  words_same i published pins =
      record {
        wide = ap length (set-get words i) ∙ are.wide;
        versions = λ host h. ap (λ ws. get_or ws (version_word host.0) 0) (set-get words i) ∙ (are.versions host h ∙ ap (λ (v : Version). v.0) (sym (published_still published host)));
        pins = λ h k x y. ap (λ ws. get_or ws (pin_word h k) 0) (set-get words i) ∙ (are.pins h k x y ∙ (let t = total_at h k in let p = pins h k in omega arith));
        eight = eight_still;
      }

  -- a pin word of the actor's host changes as its pins do
  pub words_pin : (k y : ℕ) → k < 8 → n.published ≡ (notes a).published → (host_of a).0 < hosts → y + (on_word k (notes a).pins + on_word k (notes a).raised) ≡ get_or words (pin_word (host_of a).0 k) 0 + (on_word k n.pins + on_word k n.raised)
      → ((j : ℕ) → j ≢ k → on_word j n.pins + on_word j n.raised ≡ on_word j (notes a).pins + on_word j (notes a).raised) → AreWords hosts actors (changed notes a n) (set words (pin_word (host_of a).0 k) y)
  words_pin k y small published within count others =
      record {
        wide = length-set words (pin_word h0 k) y ∙ are.wide;
        versions = λ host h. get_or-set_else words (pin_word h0 k) (version_word host.0) y (λ e. omega arith) ∙ (are.versions host h ∙ ap (λ (v : Version). v.0) (sym (published_still published host)));
        pins = pins;
        eight = eight_still;
      }
    where
      h0 : ℕ
      h0 = (host_of a).0

      wide : length words ≡ 2 + 9 * hosts
      wide = are.wide

      pins : (h j : ℕ) → h < hosts → j < 8 → get_or (set words (pin_word h0 k) y) (pin_word h j) 0 ≡ total (λ b. pins_on h j b (changed notes a n b)) actors
      pins h j x z = dite (ℕ_discrete (pin_word h0 k) (pin_word h j)) here else_where
        where
          t : total (λ b. pins_on h j b (changed notes a n b)) actors + pins_on h j a (notes a) ≡ total (λ b. pins_on h j b (notes b)) actors + pins_on h j a n
          t = total_at h j

          was : get_or words (pin_word h j) 0 ≡ total (λ b. pins_on h j b (notes b)) actors
          was = are.pins h j x z

          here : pin_word h0 k ≡ pin_word h j → get_or (set words (pin_word h0 k) y) (pin_word h j) 0 ≡ total (λ b. pins_on h j b (changed notes a n b)) actors
          here same =
              let hs : h0 ≡ h = omega arith in
              let ks : k ≡ j = omega arith in
              let old : pins_on h j a (notes a) ≡ on_word k (notes a).pins + on_word k (notes a).raised = ap (λ (q : ℕ × ℕ). pins_on q.0 q.1 a (notes a)) (λ i. (sym hs i, sym ks i)) ∙ pins_here k a (notes a) in
              let new : pins_on h j a n ≡ on_word k n.pins + on_word k n.raised = ap (λ (q : ℕ × ℕ). pins_on q.0 q.1 a n) (λ i. (sym hs i, sym ks i)) ∙ pins_here k a n in
              let found : get_or (set words (pin_word h0 k) y) (pin_word h j) 0 ≡ y = ap (λ i. get_or (set words (pin_word h0 k) y) i 0) (sym same) ∙ get_or-set_same words (pin_word h0 k) y 0 (omega (arith, wide, within, small)) in
              let at : get_or words (pin_word h0 k) 0 ≡ get_or words (pin_word h j) 0 = ap (λ i. get_or words i 0) same in
              found ∙ omega (arith, t, was, old, new, at, count)

          else_where : pin_word h0 k ≢ pin_word h j → get_or (set words (pin_word h0 k) y) (pin_word h j) 0 ≡ total (λ b. pins_on h j b (changed notes a n b)) actors
          else_where ne = get_or-set_else words (pin_word h0 k) (pin_word h j) y ne ∙ (was ∙ dite (ℕ_discrete h0 h)
              (λ hs. let apart_words : j ≢ k = λ e. ne (omega (arith, hs, e)) in
              let old : pins_on h j a (notes a) ≡ on_word j (notes a).pins + on_word j (notes a).raised = ap (λ (q : ℕ). pins_on q j a (notes a)) (sym hs) ∙ pins_here j a (notes a) in
              let new : pins_on h j a n ≡ on_word j n.pins + on_word j n.raised = ap (λ (q : ℕ). pins_on q j a n) (sym hs) ∙ pins_here j a n in
              let o = others j apart_words in
              omega (arith, t, old, new, o))
              (λ hne. let old = pins_else h j a (notes a) hne in let new = pins_else h j a n hne in omega (arith, t, old, new)))

  -- the version word of a host changes as what it published
  pub words_publish : (host : HostId) → a ≡ ByHost host → host.0 < hosts → n.pins ≡ (notes a).pins → n.raised ≡ (notes a).raised → AreWords hosts actors (changed notes a n) (set words (version_word host.0) n.published.0)
  words_publish host is within pins_same raised_same =
      record {
        wide = length-set words (version_word host.0) n.published.0 ∙ are.wide;
        versions = versions;
        pins = λ h k x z. get_or-set_else words (version_word host.0) (pin_word h k) n.published.0 (λ e. omega arith) ∙ (are.pins h k x z ∙ (let t = total_at h k in let p : pins_on h k a n ≡ pins_on h k a (notes a) = same_count h k in omega arith));
        eight = eight_still;
      }
    where
      wide : length words ≡ 2 + 9 * hosts
      wide = are.wide

      same_count : (h k : ℕ) → pins_on h k a n ≡ pins_on h k a (notes a)
      same_count h k i = let c : ℕ = if (host_of a).0 == h then on_word k (pins_same i) + on_word k (raised_same i) else 0 in c

      versions : (other : HostId) → other.0 < hosts → get_or (set words (version_word host.0) n.published.0) (version_word other.0) 0 ≡ (published_of (changed notes a n) other).0
      versions other h = dite (ℕ_discrete host.0 other.0)
          (λ same. let here : other ≡ host = ap (λ k. let x : HostId = record { 0 = k } in x) (sym same) in
          let mine_is : published_of (changed notes a n) other ≡ n.published = ap (λ (x : Note). x.published) (ap (changed notes a n) (ap ByHost here ∙ sym is) ∙ changed_here notes a n) in
          ap (λ k. get_or (set words (version_word host.0) n.published.0) (version_word k) 0) (sym same) ∙ (get_or-set_same words (version_word host.0) n.published.0 0 (omega (arith, wide, within)) ∙ ap (λ (v : Version). v.0) (sym mine_is)))
          (λ ne. let other_is : published_of (changed notes a n) other ≡ published_of notes other = ap (λ (x : Note). x.published) (changed_else notes a n (ByHost other) (apart (ByHost other) a (λ e. ne (ap (λ b. (host_of b).0) (sym is ∙ sym e))))) in
          get_or-set_else words (version_word host.0) (version_word other.0) n.published.0 (λ e. ne (omega arith)) ∙ (are.versions other h ∙ ap (λ (v : Version). v.0) (sym other_is)))

-- Tablets that are rebuilt one after the other.
use Rattle.std.proofs.Common.{◌≡◌, ◌+◌, ◌<◌, ◌≤◌, ◌&&◌, ◌||◌, ◌⊎◌, inl, inr, ℕ, zero, suc, Bool, true, false, cond, Option, Some, None, List, [], ◌∷◌, ◌++◌, take, length, arith, refl, ap, sym, subst, ◌∙◌}
use Rattle.std.specs.Prelude.{slice_get, slice_index_or}
use Rattle.std.specs.List.{list_any}
use Rattle.std.proofs.lemmas.Bool.{eqb-true}
use Rattle.base_ids.specs.Names.{same_host}
use Rattle.base_ids.specs.declared.ids.HostId.{HostId}
use Rattle.base_ids.specs.declared.ids.Replica.{Replica}
use Rattle.base_ids.specs.declared.ids.TableId.{TableId}
use Rattle.cell_merge.specs.Cell.{greater_cell}
use Rattle.cell_merge.specs.declared.cell.Cell.{Cell}
use Rattle.token_ring.specs.declared.token.Token.{Token}
use Rattle.replica_store.specs.Cells.{cell_at}
use Rattle.gather_core.specs.Held.{held, greatest_held}
use Rattle.gather_core.specs.Steps.{Stores}
use Rattle.rebuild_core.specs.Laws.{IsRebuilt}
use Rattle.rebuild_core.specs.Tablets.{has_key, AreApart, is_rebuilt_on, AreRebuilt}
use Rattle.rebuild_core.specs.declared.tablets.LostTablet.{LostTablet}

or_left : (a b : Bool) → (a || b) ≡ false → a ≡ false
or_left true b h = cc h
or_left false b h = refl

or_right : (a b : Bool) → (a || b) ≡ false → b ≡ false
or_right true b h = cc h
or_right false b h = h

any_front : (test : LostTablet → Bool) (xs : List LostTablet) (x : LostTablet) → list_any test (xs ++ x ∷ []) ≡ false → (list_any test xs ≡ false) × (test x ≡ false)
any_front test [] x none = (refl, or_left (test x) false none)
any_front test (y ∷ ys) x none =
    let later = any_front test ys x (or_right (test y) (list_any test (ys ++ x ∷ [])) none) in
    let here = or_left (test y) (list_any test (ys ++ x ∷ [])) none in
    (rw here later.0, later.1)

-- an item of a list with one more
got_more : (xs : List LostTablet) (y z : LostTablet) (n : ℕ) → slice_get (xs ++ y ∷ []) n ≡ Some z → (slice_get xs n ≡ Some z) ⊎ (y ≡ z)
got_more [] y z zero e = inr (cc)
got_more [] y z (suc n) e = cc e
got_more (x ∷ xs) y z zero e = inl e
got_more (x ∷ xs) y z (suc n) e = got_more xs y z n e

-- none of these has it, where none of them has the key
none_of : (host : HostId) (table : TableId) (token : Token) (xs : List LostTablet) → ((n : ℕ) (x : LostTablet) → slice_get xs n ≡ Some x → has_key table token x ≡ false) → list_any (is_rebuilt_on host table token) xs ≡ false
none_of host table token [] each = refl
none_of host table token (x ∷ xs) each =
    let here : has_key table token x ≡ false = each 0 x refl in
    let off : is_rebuilt_on host table token x ≡ false = off_of (same_host x.pending host) (has_key table token x) here in
    rw off (none_of host table token xs (λ n y got. each (suc n) y got))
  where
    off_of : (a b : Bool) → b ≡ false → (a && b) ≡ false
    off_of true b h = h
    off_of false b h = refl

-- what replicas hold, where the stores tell the same
greatest_same : (stores mid : Stores) (table : TableId) (token : Token) (replicas : List Replica) → ((host : HostId) → cell_at (mid host) table token ≡ cell_at (stores host) table token) → greatest_held mid table token replicas ≡ greatest_held stores table token replicas
greatest_same stores mid table token [] same = refl
greatest_same stores mid table token (r ∷ rest) same =
    ap (λ (c : Option Cell). greater_cell c (greatest_held mid table token rest)) (same r.host)
    ∙ ap (greater_cell (held stores table token r)) (greatest_same stores mid table token rest same)

-- no tablet
pub none_rebuilt : (stores : Stores) → AreRebuilt stores [] stores
none_rebuilt stores = record { greatest = λ n tablet token got _. cc got; elsewhere = λ host table token _. refl }

-- a host's cell of a key that the tablet has not is as it was
not_touched : (mid end : Stores) (tablet : LostTablet) (host : HostId) (table : TableId) (token : Token) → IsRebuilt mid tablet.table tablet.range tablet.pending tablet.sources end → is_rebuilt_on host table token tablet ≡ false → cell_at (end host) table token ≡ cell_at (mid host) table token
not_touched mid end tablet host table token rebuilt none =
    elim (same_host tablet.pending host) as (λ v. same_host tablet.pending host ≡ v → (v && has_key table token tablet) ≡ false → cell_at (end host) table token ≡ cell_at (mid host) table token) [
      | true ↦ λ same out.
          let P : HostId → Type 0 = λ h. cell_at (end h) table token ≡ cell_at (mid h) table token in
          subst P (host_is tablet.pending host same) (rebuilt.outside table token out)
      | false ↦ λ other _. ap (λ cells. cell_at cells table token) (rebuilt.others host other)
    ] refl none
  where
    host_is : (a b : HostId) → same_host a b ≡ true → a ≡ b
    host_is a b e = ap (λ (n : ℕ). let r : HostId = record { 0 = n } in r) (eqb-true a.0 b.0 e)

-- one more tablet, which has no key of those before
one_more : (stores mid end : Stores) (xs : List LostTablet) (tablet : LostTablet) → ((n : ℕ) (x : LostTablet) (table : TableId) (token : Token) → slice_get xs n ≡ Some x → has_key table token tablet ≡ true → has_key table token x ≡ false) → AreRebuilt stores xs mid → IsRebuilt mid tablet.table tablet.range tablet.pending tablet.sources end → AreRebuilt stores (xs ++ tablet ∷ []) end
one_more stores mid end xs tablet apart before rebuilt =
    record {
      greatest = λ n x token got has. elim (got_more xs tablet x n got) [
        | inl old ↦
            (let out : has_key x.table token tablet ≡ false = not_it (has_key x.table token tablet) (λ both. absurd_of (has_key x.table token x) has (apart n x x.table token old both)) in
            not_touched mid end tablet x.pending x.table token rebuilt (off_of (same_host tablet.pending x.pending) (has_key x.table token tablet) out)
            ∙ before.greatest n x token old has)
        | inr same ↦
            (let Holds : LostTablet → Type 0 = λ t. has_key t.table token t ≡ true → cell_at (end t.pending) t.table token ≡ greater_cell (cell_at (stores t.pending) t.table token) (greatest_held stores t.table token t.sources) in
            let here : Holds tablet = λ has_it.
            (let as_before : (host : HostId) → cell_at (mid host) tablet.table token ≡ cell_at (stores host) tablet.table token =
            λ host. before.elsewhere host tablet.table token (none_of host tablet.table token xs (λ m y there. apart m y tablet.table token there has_it)) in
            rebuilt.greatest token has_it
            ∙ (ap (λ (c : Option Cell). greater_cell c (greatest_held mid tablet.table token tablet.sources)) (as_before tablet.pending)
            ∙ ap (greater_cell (cell_at (stores tablet.pending) tablet.table token)) (greatest_same stores mid tablet.table token tablet.sources as_before))) in
            subst Holds same here has)
      ];
      elsewhere = λ host table token none.
          (let parts = any_front (is_rebuilt_on host table token) xs tablet none in
          not_touched mid end tablet host table token rebuilt parts.1 ∙ before.elsewhere host table token parts.0);
    }
  where
    off_of : (a b : Bool) → b ≡ false → (a && b) ≡ false
    off_of true b h = h
    off_of false b h = refl

    absurd_of : (b : Bool) → b ≡ true → b ≡ false → true ≡ false
    absurd_of true one two = two
    absurd_of false one two = cc one

    not_it : (b : Bool) → (b ≡ true → true ≡ false) → b ≡ false
    not_it true h = h refl
    not_it false h = refl

-- the tablets up to an index
got_front : (xs : List LostTablet) (i n : ℕ) (x : LostTablet) → slice_get (take i xs) n ≡ Some x → (n < i) × (slice_get xs n ≡ Some x)
got_front [] zero n x e = cc e
got_front [] (suc i) n x e = cc e
got_front (y ∷ ys) zero n x e = cc e
got_front (y ∷ ys) (suc i) zero x e = (omega arith, e)
got_front (y ∷ ys) (suc i) (suc n) x e = (let later = got_front ys i n x e in (omega (arith, later.0), later.1))

got_here : (xs : List LostTablet) (i : ℕ) (x : LostTablet) → i < length xs → x ≡ slice_index_or xs i x → slice_get xs i ≡ Some x
got_here [] i x within is = absurd (omega arith)
got_here (y ∷ ys) zero x within is = ap (λ (t : LostTablet). Some t) (sym is)
got_here (y ∷ ys) (suc i) x within is = got_here ys i x (omega arith) is

take_next : (xs : List LostTablet) (i : ℕ) (x : LostTablet) → i < length xs → x ≡ slice_index_or xs i x → take (suc i) xs ≡ take i xs ++ x ∷ []
take_next [] i x within is = absurd (omega arith)
take_next (y ∷ ys) zero x within is = ap (λ (t : LostTablet). t ∷ []) (sym is)
take_next (y ∷ ys) (suc i) x within is = ap (λ (l : List LostTablet). y ∷ l) (take_next ys i x (omega arith) is)

pub next_rebuilt : (stores mid end : Stores) (tablets : List LostTablet) (i : ℕ) (tablet : LostTablet) → AreApart tablets → i < length tablets → tablet ≡ slice_index_or tablets i tablet → AreRebuilt stores (take i tablets) mid → IsRebuilt mid tablet.table tablet.range tablet.pending tablet.sources end → AreRebuilt stores (take (i + 1) tablets) end
next_rebuilt stores mid end tablets i tablet apart within is before rebuilt =
    let one : i + 1 ≡ suc i = omega arith in
    let list : take (i + 1) tablets ≡ take i tablets ++ tablet ∷ [] = ap (λ n. take n tablets) one ∙ take_next tablets i tablet within is in
    let P : List LostTablet → Type 0 = λ l. AreRebuilt stores l end in
    subst P (sym list) (one_more stores mid end (take i tablets) tablet
    (λ n x table token got has. (let front = got_front tablets i n x got in apart n i x tablet table token front.0 front.1 (got_here tablets i tablet within is) has))
    before rebuilt)

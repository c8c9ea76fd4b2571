-- Written words are of the places where they stand, and tell what was written.
use Rattle.std.proofs.Common.{Bool, List, None, Ok, Option, Result, Some, [], ap, arith, codes, false, length, nat_le, nat_lt, negsuc, pos, refl, subst, suc, sym, true, ℕ, ℤ, ◌++◌, ◌+◌, ◌-ℤ◌, ◌<◌, ◌==◌, ◌^◌, ◌∙◌, ◌∷◌, ◌≡◌, ◌≢◌, ◌≤◌}
use Rattle.std.proofs.lemmas.Bool.Decides.{nat_tests}
use Rattle.std.proofs.lemmas.Fmt.{decimal_nonempty}
use Rattle.std.proofs.lemmas.Int.{ints}
use Rattle.std.specs.Fmt.{decimal, signed_decimal}
use Rattle.std.specs.List.{AllByRecursion}
use Rattle.hex.specs.Hex.{encode_lower}
use Rattle.base_ids.specs.declared.ids.HostId.{HostId}
use Rattle.base_ids.specs.declared.ids.LaneId.{LaneId}
use Rattle.base_ids.specs.declared.ids.MsgRef.{MsgRef}
use Rattle.base_ids.specs.declared.ids.OpId.{OpId}
use Rattle.base_ids.specs.declared.ids.Replica.{Replica}
use Rattle.base_ids.specs.declared.ids.Session.{Session}
use Rattle.base_ids.specs.declared.ids.TableId.{TableId}
use Rattle.base_ids.specs.declared.ids.Version.{Version}
use Rattle.cell_merge.specs.declared.cell.Body.{Body}
use Rattle.cell_merge.specs.declared.cell.Body.TheVariants.{Dead, Live}
use Rattle.cell_merge.specs.declared.cell.Cell.{Cell}
use Rattle.schedule_words.specs.Texts.{cell_text}
use Rattle.schedule_data.specs.declared.data.LineRef.TheVariants.{Journal as InJournal}
use Rattle.schedule_words.proofs.TokenLemmas.{token_told}
use Rattle.schedule_words.specs.Labels.{LineOf}
use Rattle.schedule_words.specs.Places.{any_host, any_lane, any_replica, by_entry, by_label, cell, dead_by, has_lane, host, lane, live_by, log2, number, operation_number, output_number, reference, resize_kind, session, signed, signed_by, signed_size, table_number, tablet_number, target_place, token, value, version}
use Rattle.schedule_words.specs.Words.{is_letter}
use Rattle.schedule_words.specs.declared.counts.Counts.{Counts}
use Rattle.schedule_words.specs.declared.verbs.BodyKind.TheVariants.{Dead as DeadWord, Live as LiveWord}
use Rattle.schedule_write.specs.Words.{spelt_host, spelt_lane, reference_word, replica_word, spelt_resize, spelt_target}
use Rattle.stage_graph.specs.declared.stage.Stage.{Stage}
use Rattle.stage_graph.specs.declared.stage.Stage.TheVariants.{AllowWriteBothReadOld, Cleanup, CleanupTarget, EndMigration, FallbackCleanup, RevertMigration, Streaming, UseNew, WriteBothReadNew, WriteBothReadOld}
use Rattle.text_grammar.specs.Judging.{if_so, told_as}
use Rattle.text_grammar.specs.Readings.{◌>>=◌}
use Rattle.text_grammar.specs.Shapes.{Digits, Either, Is, Place, begins_with, tail}
use Rattle.text_grammar.specs.Words.{IsCut, IsDigit, IsFree}
use Rattle.text_grammar.specs.declared.faults.Fault.{Fault}
use Rattle.text_grammar.specs.declared.faults.TextRule.{TextRule}
use Rattle.text_grammar.specs.declared.faults.TextRule.TheVariants.{BadActor, BadCell, BadNumber}
use Rattle.token_ring.proofs.Tokens.{same_token}
use Rattle.token_ring.specs.Ring.{IsToken}
use Rattle.token_ring.specs.declared.ring.TabletId.{TabletId}
use Rattle.token_ring.specs.declared.token.Token.{Token}
use Rattle.topo_state.specs.declared.data.ResizeKind.{ResizeKind}
use Rattle.topo_state.specs.declared.data.ResizeKind.TheVariants.{Keep, Merge, Split}
use Rattle.written_text.proofs.HexLemmas.{are_hex}
use Rattle.written_text.proofs.NumeralLemmas.{IsSignOrDigit, all_weaker, are_digits, digits_of_decimal, signs_of_signed}
use Rattle.written_text.specs.Fits.{FitsBody, FitsCell, FitsReference, FitsReplica, FitsSigned}

-- ---- tests and cuts

pub passes : {A : Type 0} (test : Bool) (rule : TextRule) (a : A) → test ≡ true → if_so test rule a ≡ Ok a
passes test rule a is = rw is refl

below : (n limit : ℕ) → n < limit → nat_lt n limit ≡ true
below n limit few = grind (arith, nat_tests)

not_above : (n limit : ℕ) → n ≤ limit → nat_le n limit ≡ true
not_above n limit few = grind (arith, nat_tests)

dot_free : (byte : ℕ) → IsDigit byte → byte ≢ 46
dot_free byte is = λ e. let low : 48 ≤ byte = is.0 in omega arith

colon_free : (byte : ℕ) → IsSignOrDigit byte → byte ≢ 58
colon_free byte is = λ e. let high : byte ≤ 57 = is.1 in omega arith

digit_colon_free : (byte : ℕ) → IsDigit byte → byte ≢ 58
digit_colon_free byte is = λ e. let high : byte ≤ 57 = is.1 in omega arith

decimal_cut : (separator n : ℕ) (back : List ℕ) → n < 2 ^ 64 → ((byte : ℕ) → IsDigit byte → byte ≢ separator) → IsCut separator (decimal n ++ separator ∷ back) (decimal n) back
decimal_cut separator n back fits free = record {
  spelt = refl;
  free = all_weaker IsDigit (λ byte. byte ≢ separator) free (decimal n) (digits_of_decimal n fits);
}

-- ---- numbers

pub is_number : (limit n : ℕ) → n < limit → limit ≤ 2 ^ 64 → Is (number limit) (decimal n) n
unfolding number
is_number limit n few small = (n, are_digits n (omega arith), passes (nat_lt n limit) BadNumber n (below n limit few))

pub is_table_number : (id : TableId) → id.0 < 2 ^ 32 → Is table_number (decimal id.0) id
unfolding table_number
is_table_number id fits = (id.0, is_number (2 ^ 32) id.0 fits (omega arith), refl)

pub is_tablet_number : (id : TabletId) → id.0 < 2 ^ 32 → Is tablet_number (decimal id.0) id
unfolding tablet_number
is_tablet_number id fits = (id.0, is_number (2 ^ 32) id.0 fits (omega arith), refl)

pub is_version : (v : Version) → v.0 < 2 ^ 64 → Is version (decimal v.0) v
unfolding version
is_version v fits = (v.0, is_number (2 ^ 64) v.0 fits (omega arith), refl)

pub is_session : (s : Session) → s.0 < 2 ^ 64 → Is session (decimal s.0) s
unfolding session
is_session s fits = (s.0, is_number (2 ^ 64) s.0 fits (omega arith), refl)

pub is_operation_number : (op : OpId) → op.0 < 2 ^ 64 → Is operation_number (decimal op.0) op
unfolding operation_number
is_operation_number op fits = (op.0, is_number (2 ^ 64) op.0 fits (omega arith), refl)

is_output_number : (k : ℕ) → k < 2 ^ 32 → Is output_number (decimal k) k
unfolding output_number
is_output_number k fits = is_number (2 ^ 32) k fits (omega arith)

pub is_log2 : (b : ℕ) → b ≤ 10 → Is log2 (decimal b) b
unfolding log2
is_log2 b few = (b, is_number (2 ^ 8) b (omega arith) (omega arith), rw (not_above b 10 few) refl)

-- ---- hosts, lanes and replicas

pub is_any_host : (h : HostId) → h.0 < 2 ^ 16 → Is any_host (spelt_host h) h
unfolding any_host
is_any_host h fits = (h.0, is_number (2 ^ 16) h.0 fits (omega arith), refl)

pub is_host : (hosts : ℕ) (h : HostId) → h.0 < hosts → hosts ≤ 256 → Is (host hosts) (spelt_host h) h
unfolding host
is_host hosts h few small =
    (h, is_any_host h (omega arith), passes (nat_lt h.0 hosts) BadActor h (below h.0 hosts few))

is_any_lane : (l : LaneId) → l.host.0 < 2 ^ 16 → l.lane < 2 ^ 8 → Is any_lane (spelt_lane l) l
unfolding any_lane
is_any_lane l fits few = (
  spelt_host l.host,
  decimal l.lane,
  l.host,
  decimal_cut 46 l.host.0 (decimal l.lane) (omega arith) dot_free,
  is_any_host l.host fits,
  (l.lane, is_number (2 ^ 8) l.lane few (omega arith), refl),
)

pub is_lane : (counts : Counts) (l : LaneId) → l.host.0 < counts.hosts → counts.hosts ≤ 256 → l.lane < counts.lanes → counts.lanes ≤ 4 → Is (lane counts) (spelt_lane l) l
unfolding lane
is_lane counts l few small less least = (
  l,
  is_any_lane l (omega arith) (omega arith),
  passes (has_lane counts l) BadActor l (rw (below l.host.0 counts.hosts few, below l.lane counts.lanes less) refl),
)

pub is_any_replica : (r : Replica) → FitsReplica r → Is any_replica (replica_word r) r
unfolding any_replica
is_any_replica r fits =
    let host_fits : r.host.0 < 2 ^ 16 = fits.0 in (
      spelt_host r.host,
      decimal r.shard.0,
      r.host,
      decimal_cut 58 r.host.0 (decimal r.shard.0) (omega arith) digit_colon_free,
      is_any_host r.host host_fits,
      (r.shard.0, is_number (2 ^ 8) r.shard.0 fits.1 (omega arith), refl),
    )

-- ---- references

no_letter : (word : List ℕ) (back : List ℕ) → 0 < length word → AllByRecursion IsDigit word → begins_with is_letter (word ++ back) ≡ false
no_letter [] back some all = absurd (omega arith)
no_letter (byte ∷ word) back some all =
    let high : byte ≤ 57 = all.0.1 in
    let e : nat_le 97 byte ≡ false = grind (arith, nat_tests) in
    rw e refl

pub is_reference : (labels : LineOf) (at : MsgRef) → FitsReference at → Is (reference labels) (reference_word at) (InJournal at)
unfolding reference
is_reference labels at fits =
    let entry_fits : at.event < 2 ^ 64 = fits.0 in
    let some : 0 < length (decimal at.event) = decimal_nonempty at.event entry_fits in
    let told : Is by_entry (reference_word at) (InJournal at) = (
      decimal at.event,
      decimal at.out,
      at.event,
      decimal_cut 46 at.event (decimal at.out) entry_fits dot_free,
      is_number (2 ^ 64) at.event entry_fits (omega arith),
      (at.out, is_output_number at.out fits.1, refl),
    ) in
    subst
    (λ (t : Bool). Either t (Is (by_label labels) (reference_word at) (InJournal at)) (Is by_entry (reference_word at) (InJournal at)))
    (sym (no_letter (decimal at.event) (46 ∷ decimal at.out) some (digits_of_decimal at.event entry_fits)))
    told

-- ---- numbers with a sign

-- whether a number is below 0, and how far from it
abbrev size_of : ℤ → Bool × ℕ
size_of (pos n) = (false, n)
size_of (negsuc n) = (true, suc n)

no_sign : (word : List ℕ) → AllByRecursion IsDigit word → begins_with (λ b. b == 45) word ≡ false
no_sign [] all = refl
no_sign (byte ∷ word) all =
    let low : 48 ≤ byte = all.0.0 in
    grind (arith, nat_tests)

abbrev below_zero : TextRule → Place (Bool × ℕ)
below_zero rule = told_as (Digits rule) (λ n. (true, n))

abbrev above_zero : TextRule → Place (Bool × ℕ)
above_zero rule = told_as (Digits rule) (λ n. (false, n))

is_signed_size : (rule : TextRule) (z : ℤ) → FitsSigned z → Is (signed_size rule) (signed_decimal z) (size_of z)
unfolding signed_size
is_signed_size rule (pos n) fits =
    subst
    (λ (t : Bool). Either t (Is (below_zero rule) (tail (decimal n)) (false, n)) (Is (above_zero rule) (decimal n) (false, n)))
    (sym (no_sign (decimal n) (digits_of_decimal n (omega arith))))
    (n, are_digits n (omega arith), refl)
is_signed_size rule (negsuc n) fits = (suc n, are_digits (suc n) (omega arith), refl)

negative : (n : ℕ) → pos 0 -ℤ pos (suc n) ≡ negsuc n
negative n = grind (arith, ints, nat_tests)

signed_again : (z : ℤ) → FitsSigned z → signed_by (size_of z).0 (size_of z).1 ≡ Ok z
signed_again (pos n) fits = passes (nat_lt n (2 ^ 63)) BadNumber (pos n) (below n (2 ^ 63) fits)
signed_again (negsuc n) fits =
    let few : suc n < 2 ^ 63 + 1 = omega arith in
    passes (nat_lt (suc n) (2 ^ 63 + 1)) BadNumber (pos 0 -ℤ pos (suc n)) (below (suc n) (2 ^ 63 + 1) few)
    ∙ ap Ok (negative n)

pub is_signed : (z : ℤ) → FitsSigned z → Is signed (signed_decimal z) z
unfolding signed
is_signed z fits = (size_of z, is_signed_size BadNumber z fits, signed_again z fits)

pub token_fits : (z : ℤ) → IsToken z → FitsSigned z
token_fits (pos n) is = omega (arith, ints)
token_fits (negsuc n) is = omega (arith, ints)

pub is_token : (t : Token) → Is token (signed_decimal t.value) t
unfolding token
is_token t =
    (t.value, is_signed t.value (token_fits t.value t.is_token), sym (token_told t.value t same_token refl))

-- ---- cells

is_value : (bytes : List ℕ) → length bytes ≤ 64 → AllByRecursion (λ byte. byte < 256) bytes → Is value (encode_lower bytes) (Some bytes)
unfolding value
is_value bytes few all = (bytes, are_hex bytes all, rw (not_above (length bytes) 64 few) refl)

-- the cell behind its kind
is_body : (z : ℤ) (bytes back : List ℕ) → FitsSigned z → IsCut 58 (signed_decimal z ++ 58 ∷ back) (signed_decimal z) back
is_body z bytes back fits = record {
  spelt = refl;
  free = all_weaker IsSignOrDigit (λ byte. byte ≢ 58) colon_free (signed_decimal z) (signs_of_signed z fits);
}

live_told : (z : ℤ) (bytes : List ℕ) → FitsSigned z → (signed_by (size_of z).0 (size_of z).1 >>= live_by (Some bytes)) ≡ Ok (record { timestamp = z; body = Live bytes })
live_told z bytes fits = ap (λ (found : Result ℤ Fault). found >>= live_by (Some bytes)) (signed_again z fits)

dead_told : (z : ℤ) (time : ℕ) → FitsSigned z → time < 2 ^ 32 → (signed_by (size_of z).0 (size_of z).1 >>= dead_by time) ≡ Ok (record { timestamp = z; body = Dead time })
dead_told z time fits few =
    ap (λ (found : Result ℤ Fault). found >>= dead_by time) (signed_again z fits)
    ∙ passes (nat_lt time (2 ^ 32)) BadNumber (record { timestamp = z; body = Dead time }) (below time (2 ^ 32) few)

kind_cut : (word back : List ℕ) → IsFree 58 word → IsCut 58 (word ++ 58 ∷ back) word back
kind_cut word back free = record { spelt = refl; free = free }

live_free : IsFree 58 (codes "live")
live_free = (λ e. omega arith, (λ e. omega arith, (λ e. omega arith, (λ e. omega arith, tt))))

dead_free : IsFree 58 (codes "dead")
dead_free = (λ e. omega arith, (λ e. omega arith, (λ e. omega arith, (λ e. omega arith, tt))))

is_cell_by : (z : ℤ) (body : Body) → FitsSigned z → FitsBody body → Is cell (cell_text (record { timestamp = z; body = body })) (record { timestamp = z; body = body })
unfolding cell
is_cell_by z (Live bytes) fits all = (
  codes "live",
  signed_decimal z ++ 58 ∷ encode_lower bytes,
  LiveWord,
  kind_cut (codes "live") (signed_decimal z ++ 58 ∷ encode_lower bytes) live_free,
  refl,
  (
    signed_decimal z,
    encode_lower bytes,
    size_of z,
    is_body z bytes (encode_lower bytes) fits,
    is_signed_size BadCell z fits,
    (Some bytes, is_value bytes all.0 all.1, live_told z bytes fits),
  ),
)
is_cell_by z (Dead time) fits few = (
  codes "dead",
  signed_decimal z ++ 58 ∷ decimal time,
  DeadWord,
  kind_cut (codes "dead") (signed_decimal z ++ 58 ∷ decimal time) dead_free,
  refl,
  (
    signed_decimal z,
    decimal time,
    size_of z,
    is_body z [] (decimal time) fits,
    is_signed_size BadCell z fits,
    (time, are_digits time (omega arith), dead_told z time fits few),
  ),
)

pub is_cell : (c : Cell) → FitsCell c → Is cell (cell_text c) c
is_cell c fits = is_cell_by c.timestamp c.body fits.0 fits.1

-- ---- words

pub is_target : (to : Option Stage) → Is target_place (spelt_target to) to
is_target None = refl
is_target (Some AllowWriteBothReadOld) = refl
is_target (Some WriteBothReadOld) = refl
is_target (Some Streaming) = refl
is_target (Some WriteBothReadNew) = refl
is_target (Some UseNew) = refl
is_target (Some Cleanup) = refl
is_target (Some EndMigration) = refl
is_target (Some FallbackCleanup) = refl
is_target (Some CleanupTarget) = refl
is_target (Some RevertMigration) = refl

pub is_resize_kind : (kind : ResizeKind) → Is resize_kind (spelt_resize kind) kind
is_resize_kind Split = refl
is_resize_kind Merge = refl
is_resize_kind Keep = refl

-- What every client may rely on, of each legal run.
use Rattle.std.proofs.Common.{ap, arith, inl, inr, subst, sym, ◌∙◌}
use Rattle.std.proofs.lemmas.Option.{slice_get_within}
use Rattle.std.specs.Prelude.{Some, length, reverse, take, ℕ, ◌+◌, ◌-◌, ◌<◌, ◌≡◌, ◌≤◌}
use Rattle.answer_law.proofs.RunLemmas.{of_run, reads_of_run, stale_of_run, timeout_of_run}
use Rattle.cluster_history.specs.History.{History}
use Rattle.cluster_history.specs.Legal.{IsLegalHistory, IsLegalRun, history_of}
use Rattle.cluster_history.specs.Openings.{IsValidOpening}
use Rattle.cluster_history.specs.Requests.{request_at}
use Rattle.cluster_history.specs.declared.data.Opening.{Opening}
use Rattle.cluster_history.specs.Messages.{key_of}
use Rattle.cluster_history.specs.declared.data.Journal.{Journal}
use Rattle.cluster_history.specs.declared.data.Operation.TheVariants.{Read as ReadOf, Write as WriteOf}
use Rattle.history_facts.specs.Prefixes.{history_before}
use Rattle.quorum_ops.specs.declared.data.Reply.TheVariants.{Ok, Read}
use Rattle.register_model.proofs.RunLemmas.{run-empty}
use Rattle.register_model.specs.Register.{IsRegisterRun}
use Rattle.register_model.specs.declared.data.ClientEvent.TheVariants.{ReadOk, WriteAcked}
use Rattle.overlap_law.proofs.EntryLemmas.{IsSeenTold, begun_seen, seen_at, seen_before, told_seen}
use Rattle.overlap_law.proofs.RefineLemmas.{run_of}
use Rattle.overlap_law.proofs.PrefixLemmas.{legal_after, none_taken}
use Rattle.overlap_law.proofs.JointLemmas.{cover}
use Rattle.overlap_law.specs.Covered.{Cover, view_at}
use Rattle.overlap_law.proofs.AskedLemmas.{begun_asked, same_size}
use Rattle.overlap_law.proofs.GoodLemmas.{some_replica}
use Rattle.answer_law.proofs.ReadLemmas.{told_ok, told_read}
use Rattle.register_model.specs.declared.data.Key.{Key}
use Rattle.stage_graph.proofs.Needs.{asks_no_more}
use Rattle.stage_graph.specs.Needs.{base_need}
use Rattle.stage_graph.specs.declared.level.Level.TheVariants.{Quorum}
use Rattle.answer_law.specs.Told.{IsBegunAt, IsToldAt}
use Rattle.base_ids.specs.declared.ids.LaneId.{LaneId}
use Rattle.base_ids.specs.declared.ids.OpId.{OpId}
use Rattle.base_ids.specs.declared.ids.TableId.{TableId}
use Rattle.cell_merge.specs.declared.cell.Cell.{Cell}
use Rattle.token_ring.specs.declared.token.Token.{Token}
use Rattle.answer_law.proofs.PrefixLemmas.{request_at-since}
use Rattle.overlap_law.specs.Prefixes.{AfterEachPrefix, history_after}
use Rattle.overlap_law.specs.ClientEvents.{asked_at, blind_of, client_events, named_request, seen_in, seen_of, strength_of}
use Rattle.overlap_law.specs.Headline.{IsHeadline, Overlap, QuorumReadsAreNotBelow, ReadsAreNotBelow}

-- ---- the register run

pub refine : (journal : Journal) → IsLegalRun journal → IsRegisterRun (client_events journal)
refine journal (inl valid) = run_of journal.opening valid.0 (history_of journal) valid.1
refine journal (inr empty) =
    subst (λ entries. IsRegisterRun (seen_in journal.opening (reverse entries))) (sym empty.1) run-empty

-- ---- reads

-- where what clients saw is a run, so it is by the entries
pub not_below_of : (opening : Opening) (history : History) → IsValidOpening opening → IsLegalHistory opening history → IsRegisterRun (seen_in opening history) → ReadsAreNotBelow opening history
not_below_of opening history valid legal run wrote acked begin number writer reader write read table token written cell writes reads overlap began acks earlier begins told =
    let key : Key = record { table = table; token = token } in
    let ack : IsSeenTold (seen_of opening (history_before history acked) acks.entry.event acks.entry.outputs) (WriteAcked (named_request writer write)) = told_seen opening history acked writer write Ok acks in
    let returns : IsSeenTold (seen_of opening (history_before history number) told.entry.event told.entry.outputs) (ReadOk (named_request reader read) cell) = told_seen opening history number reader read (Read cell) told in
    let stored = told_ok opening history acked writer write legal acks in
    let write_known : request_at opening history writer write ≡ Some stored.decides.request =
    subst (λ o. request_at opening history writer o ≡ Some stored.decides.request) stored.op_is (request_at-since opening history acked writer stored.decides.answer.op stored.decides.request legal stored.decides.begun) in
    let by_write = begun_asked opening history wrote writer write (WriteOf table token written writes) stored.decides.request began write_known in
    let found = told_read opening history number reader read cell legal told in
    let read_known : request_at opening history reader read ≡ Some found.decides.request =
    subst (λ o. request_at opening history reader o ≡ Some found.decides.request) found.op_is (request_at-since opening history number reader found.decides.answer.op found.decides.request legal found.decides.begun) in
    let by_read = begun_asked opening history begin reader read (ReadOf table token reads) found.decides.request begins read_known in
    let n = length overlap.tablet.replicas in
    let write_size : length by_write.tablet.replicas ≡ n = same_size opening history began.version overlap.version key by_write.tablet overlap.tablet valid legal by_write.shown overlap.shown in
    let read_size : length by_read.tablet.replicas ≡ n = same_size opening history begins.version overlap.version key by_read.tablet overlap.tablet valid legal by_read.shown overlap.shown in
    let shown : view_at opening history found.decides.request.version (key_of found.decides.request.operation) ≡ Some by_read.tablet =
    (λ i. view_at opening history (by_read.version_is i) (key_of (by_read.operation_is i))) ∙ by_read.shown in
    let some : 1 ≤ length by_read.tablet.replicas = some_replica opening history reader read found.decides.request by_read.tablet valid legal read_known shown in
    let some_here : 1 ≤ n = omega (arith, some, read_size) in
    let most : base_need reads n ≤ n = asks_no_more reads n some_here in
    let over : n - base_need reads n < base_need writes n = omega (arith, most, overlap.over) in
    let strong : base_need writes n ≡ strength_of writes (asked_at opening (history_before history wrote) writer (WriteOf table token written writes) began.version) =
    ap (base_need writes) (sym write_size) ∙ ap (strength_of writes) (sym by_write.asked) in
    let blind : n - base_need reads n ≡ blind_of reads (asked_at opening (history_before history begin) reader (ReadOf table token reads) begins.version) =
    ap (λ m. m - base_need reads m) (sym read_size) ∙ ap (blind_of reads) (sym by_read.asked) in
    run.reads_not_below (length (seen_in opening (history_before history wrote)) + 0) (length (seen_in opening (history_before history acked)) + ack.offset) (length (seen_in opening (history_before history begin)) + 0) (length (seen_in opening (history_before history number)) + returns.offset) (named_request writer write) (named_request reader read) key written
    (strength_of writes (asked_at opening (history_before history wrote) writer (WriteOf table token written writes) began.version))
    (blind_of reads (asked_at opening (history_before history begin) reader (ReadOf table token reads) begins.version)) cell
    (omega (arith, over, strong, blind))
    (begun_seen opening history wrote writer write (WriteOf table token written writes) began)
    (seen_at opening history acked acks.entry ack.offset (WriteAcked (named_request writer write)) acks.stands ack.stands)
    (omega (arith, seen_before opening history acked begin acks.entry begins.entry acks.stands begins.stands earlier, slice_get_within (seen_of opening (history_before history acked) acks.entry.event acks.entry.outputs) ack.offset (WriteAcked (named_request writer write)) ack.stands))
    (begun_seen opening history begin reader read (ReadOf table token reads) begins)
    (seen_at opening history number told.entry returns.offset (ReadOk (named_request reader read) cell) told.stands returns.stands)

pub not_below_run : (journal : Journal) → IsLegalRun journal → ReadsAreNotBelow journal.opening (history_of journal)
not_below_run =
    of_run ReadsAreNotBelow
    (λ opening wrote acked begin number writer reader write read table token written cell writes reads overlap began acks earlier begins told. cc (told.stands))
    (λ opening history valid legal. not_below_of opening history valid legal (run_of opening valid history legal))

-- ---- the case of two quorums

-- two quorums overlap, however many replicas there are
quorums_overlap : (n : ℕ) → n < base_need Quorum n + base_need Quorum n
quorums_overlap n = omega arith

-- a quorum write that was acknowledged overlaps each quorum read of its key: by the tablet by which it was sent
acknowledged_overlaps :
    (opening : Opening) (history : History) (wrote acked : ℕ) (writer : LaneId) (write : OpId) (table : TableId) (token : Token) (written : Cell) → IsLegalHistory opening history →
    IsBegunAt history wrote writer write (WriteOf table token written Quorum) → IsToldAt history acked writer write Ok →
    Overlap opening history (record { table = table; token = token }) Quorum Quorum
acknowledged_overlaps opening history wrote acked writer write table token written legal began acks =
    let stored = told_ok opening history acked writer write legal acks in
    let known : request_at opening history writer write ≡ Some stored.decides.request =
    subst (λ o. request_at opening history writer o ≡ Some stored.decides.request) stored.op_is (request_at-since opening history acked writer stored.decides.answer.op stored.decides.request legal stored.decides.begun) in
    let sent = begun_asked opening history wrote writer write (WriteOf table token written Quorum) stored.decides.request began known in
    record { version = began.version; tablet = sent.tablet; shown = sent.shown; over = quorums_overlap (length sent.tablet.replicas) }

pub quorum_reads : (journal : Journal) → IsLegalRun journal → QuorumReadsAreNotBelow (history_of journal)
quorum_reads =
    of_run (λ opening history. QuorumReadsAreNotBelow history)
    (λ opening wrote acked begin number writer reader write read table token written cell began acks earlier begins told. cc (told.stands))
    (λ opening history valid legal wrote acked begin number writer reader write read table token written cell began acks earlier begins told.
    not_below_of opening history valid legal (run_of opening valid history legal) wrote acked begin number writer reader write read table token written cell Quorum Quorum
    (acknowledged_overlaps opening history wrote acked writer write table token written legal began acks) began acks earlier begins told)

-- ---- the headline

pub headline : (journal : Journal) → IsLegalRun journal → IsHeadline journal
headline journal legal =
    record {
      stale = stale_of_run journal legal;
      timeout = timeout_of_run journal legal;
      written = reads_of_run journal legal;
      not_below = not_below_run journal legal;
      register_run = refine journal legal;
    }

-- ---- cover

pub covers_each : (journal : Journal) → IsLegalRun journal → AfterEachPrefix Cover journal
covers_each journal legal count = by_prefix legal
  where
    by_prefix : IsLegalRun journal → Cover journal.opening (history_after journal count)
    by_prefix (inl valid) =
        cover journal.opening valid.0 (history_after journal count) (legal_after journal count valid.1)
    by_prefix (inr empty) =
        subst (λ entries. Cover journal.opening (reverse (take count entries))) (sym empty.1)
        (subst (λ entries. Cover journal.opening (reverse entries)) (sym (none_taken count))
        (λ lane op request table token cell level version tablet settled begun is recent shown. cc settled))

use Rattle.std.proofs.Common.{ap, arith, ◌∙◌, ◌+◌, ◌≡◌, get_or, take, if◌then◌else◌}
use Rattle.std.proofs.lemmas.List.{take_more}
use Rattle.base_ids.specs.declared.ids.Session.{Session}
use Rattle.engine_hosts.specs.Notes.{times_in}
use Rattle.engine_hosts.proofs.NoteLemmas.{times_on}
use Rattle.engine_hosts.proofs.notes.count_of.Goals as goal
use Rattle.engine_hosts.proofs.notes.count_of.Goals.{then-eq, else-eq}

pub sessions-preserved : goal.sessions-preserved
sessions-preserved c =
    let none : Session = record { 0 = 0 } in
    let session = c.args.session in
    let sessions = c.args.sessions.now in
    let i = c.sessions.other-index in
    let inv = c.sessions.invariant in
    let before = inv.0 in
    let within = inv.1 in
    let more : times_in session (take (i + 1) sessions) ≡ times_in session (take i sessions) + (if c.eq.result then 1 else 0) =
    ap (times_in session) (take_more sessions i none c.sessions-test.true) ∙ times_on session (get_or sessions i none) (take i sessions) c.eq.result c.eq.ensures in
    elim c.if-eq.branch [
      | then-eq w ↦
          let is = w.count-is in
          let on : times_in session (take (i + 1) sessions) ≡ times_in session (take i sessions) + 1 = more ∙ ap (λ b. times_in session (take i sessions) + (if b then 1 else 0)) w.if-eq.true in
          (omega (arith, is, before, on), omega (arith, is, within))
      | else-eq w ↦
          let is = w.count-is in
          let on : times_in session (take (i + 1) sessions) ≡ times_in session (take i sessions) + 0 = more ∙ ap (λ b. times_in session (take i sessions) + (if b then 1 else 0)) w.if-eq.false in
          (omega (arith, is, before, on), omega (arith, is, within))
    ]

use Rattle.std.proofs.Common.{sym, subst, rules}
use Rattle.std.proofs.lemmas.List.{places}
use Rattle.std.proofs.lemmas.Result.{on_ok_weaker}
use Rattle.sqlite_disk.specs.Disk.{Holds}
use Rattle.dav_journal.specs.Parts.{bytes_in}
use Rattle.dav_journal.proofs.PartsLemmas.{gated_bytes}
use Rattle.dav_journal.proofs.WriteLemmas.{behind_shut, gate_decides, gate_written, one_byte, opened}
use Rattle.dav_journal.proofs.write.write_twice.Goals as goal

pub returns-clause-written : goal.returns-clause-written
returns-clause-written g c =
    on_ok_weaker c.sync-2.result (λ done.
    let bytes = bytes_in c.args.bytes.now in
    let (some, opens) = gated_bytes c.args.bytes.now c.requires.gated in
    let behind = rw (← c.sync.ensures.seen) at rw c.behind_gate.ensures.rest at c.in_ok-write_parts.ensures.written in
    let torn = rw (one_byte bytes some) at rw c.gate.ensures at c.write_at.ensures.others in
    let gate = gate_written c.args.at bytes _ some (rw c.gate.ensures at c.in_ok-write_at.ensures.written (search (rules, places))) in
    subst (λ file. Holds file c.args.at bytes) (sym c.sync-2.ensures.seen) (opened c.args.at bytes _ _ some behind torn gate)) c.sync-2.ensures.durable

pub returns-in_err-write_parts-clause-crash : goal.returns-in_err-write_parts-clause-crash
returns-in_err-write_parts-clause-crash g c left may =
    let (before, was, torn) = c.write_parts.ensures.crash left may in
    (before, was, behind_shut c.args.at _ (bytes_in c.args.bytes.now) before left torn)

pub returns-in_err-sync-clause-crash : goal.returns-in_err-sync-clause-crash
returns-in_err-sync-clause-crash g c left may =
    let (before, was, torn) = c.write_parts.ensures.crash left (c.sync.ensures.crash left may) in
    (before, was, behind_shut c.args.at _ (bytes_in c.args.bytes.now) before left torn)

pub returns-in_err-write_at-clause-crash : goal.returns-in_err-write_at-clause-crash
returns-in_err-write_at-clause-crash g c left may =
    let bytes = bytes_in c.args.bytes.now in
    let (some, opens) = gated_bytes c.args.bytes.now c.requires.gated in
    let (before, was, torn) = c.write_at.ensures.crash left may in
    let synced = c.in_ok-sync.ensures.durable before was in
    let second = rw (one_byte bytes some) at rw c.gate.ensures at rw synced at torn in (
      g.D.Disk.seen c.args.disk.now,
      g.met.D.Disk.seen_may_stay c.args.disk.now,
      gate_decides c.args.at _ bytes _ _ left some opens c.write_parts.ensures.others (rw c.behind_gate.ensures.rest at c.in_ok-write_parts.ensures.written) second,
    )

pub returns-clause-crash : goal.returns-clause-crash
returns-clause-crash g c left may =
    let bytes = bytes_in c.args.bytes.now in
    let (some, opens) = gated_bytes c.args.bytes.now c.requires.gated in
    let (before, was, torn) = c.write_at.ensures.crash left (c.sync-2.ensures.crash left may) in
    let synced = c.in_ok-sync.ensures.durable before was in
    let second = rw (one_byte bytes some) at rw c.gate.ensures at rw synced at torn in (
      g.D.Disk.seen c.args.disk.now,
      g.met.D.Disk.seen_may_stay c.args.disk.now,
      gate_decides c.args.at _ bytes _ _ left some opens c.write_parts.ensures.others (rw c.behind_gate.ensures.rest at c.in_ok-write_parts.ensures.written) second,
    )

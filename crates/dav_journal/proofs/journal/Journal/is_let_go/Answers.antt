use Rattle.std.proofs.Common.{◌≡◌, ◌∙◌, List, ℕ, length, replicate, sym, subst, ap, rules, arith}
use Rattle.std.proofs.lemmas.Result.{IfOk-weaker}
use Rattle.std.specs.Int.{w64, to_be_bytes}
use Rattle.sqlite_disk.specs.Disk.{Holds}
use Rattle.dav_journal.specs.Elder.{elder_head}
use Rattle.dav_journal.specs.Mark.{IsFaint}
use Rattle.dav_journal.proofs.BlockLemmas.{same_held}
use Rattle.dav_journal.proofs.ElderLemmas.{faint_found, faint_there, length-elder, one_elder_key, zero_version}
use Rattle.dav_journal.proofs.GoingLemmas.{held_zeros}
use Rattle.dav_journal.proofs.JournalLemmas.{stays_then}
use Rattle.dav_journal.proofs.journal.Journal.is_let_go.Goals as goal

pub returns-then-ne-clause-other : goal.returns-then-ne-clause-other
returns-then-ne-clause-other g c is clean reading gone =
    let file = g.D.Disk.seen c.args.self.now.disk in
    let held : Holds file 0 c.read.new.piece = c.in_ok-read.ensures.read (c.read-2.ensures.stays.reads.clean clean) (search rules) in
    let zeros : c.read.new.piece ≡ replicate 8 0 = zero_version file c.read.new.piece held (search rules) gone.version in
    search (rules, zeros, c.if-ne.true)

pub returns-then-eq-clause-other : goal.returns-then-eq-clause-other
returns-then-eq-clause-other g c is clean reading gone =
    let j = c.args.self.now in
    let file = g.D.Disk.seen j.disk in
    let stays = stays_then g.D.Disk _ _ _ c.read.ensures.stays c.read-2.ensures.stays in
    let held : Holds file 16 c.read-2.new.piece = subst (λ (f : List ℕ). Holds f 16 c.read-2.new.piece) c.read.ensures.stays.reads.seen (c.in_ok-read-2.ensures.read clean (search rules)) in
    let same : gone.key ≡ j.key = one_elder_key file gone.key j.key gone.small reading.small gone.key_there reading.front.key_there in
    let was : c.elder_head_bytes-was.result ≡ elder_head gone.key 16 c.args.former.now = c.elder_head_bytes-was.ensures ∙ ap (λ (k : ℕ). elder_head k 16 c.args.former.now) (stays.key ∙ sym same) in
    let is_head : c.read-2.new.piece ≡ c.elder_head_bytes-was.result = search (rules, c.if-eq.true) in
    gone.lost (subst (λ (bs : List ℕ). Holds file 16 bs) (is_head ∙ was) held)

pub returns-clause-is : goal.returns-clause-is
returns-clause-is g c = IfOk-weaker c.tells_length.result _ _ (λ b told is last reading.
    let clean = c.tells_length.ensures.stays.reads.clean last in
    let j = c.args.self.now in
    let file = g.D.Disk.seen j.disk in
    let stays = stays_then g.D.Disk _ _ _ c.read.ensures.stays c.read-2.ensures.stays in
    let first : Holds file 0 c.read.new.piece = c.in_ok-read.ensures.read (c.read-2.ensures.stays.reads.clean clean) (search rules) in
    let second : Holds file 16 c.read-2.new.piece = subst (λ (f : List ℕ). Holds f 16 c.read-2.new.piece) c.read.ensures.stays.reads.seen (c.in_ok-read-2.ensures.read clean (search rules)) in
    let zeros : c.read.new.piece ≡ replicate 8 0 = search (rules, c.if-ne.false) in
    let long : length c.read-2.new.piece ≡ 24 = search rules in
    let was : c.elder_head_bytes-was.result ≡ elder_head j.key 16 c.args.former.now = c.elder_head_bytes-was.ensures ∙ ap (λ (k : ℕ). elder_head k 16 c.args.former.now) stays.key in
    let faint : IsFaint c.read-2.new.piece 0 (elder_head j.key 16 c.args.former.now) = subst (λ (bs : List ℕ). IsFaint c.read-2.new.piece 0 bs) was (c.is_faint.ensures.0 (search (rules, c.if-not-is_faint.false))) in
    let other : c.read-2.new.piece ≡ c.elder_head_bytes-was.result → ⊥ = λ e. search (rules, e, c.if-eq.false) in
    record {
      key = j.key;
      small = reading.small;
      whole = omega (arith, second.within, long);
      version = held_zeros file 0 8 (subst (λ (bs : List ℕ). Holds file 0 bs) zeros first);
      key_there = reading.front.key_there;
      length_there = subst (λ (f : List ℕ). Holds f 16 (to_be_bytes w64 (length c.args.former.now))) stays.reads.seen (told is last);
      faint = faint_there file 16 c.read-2.new.piece (elder_head j.key 16 c.args.former.now) second (omega (arith, long, length-elder j.key 16 c.args.former.now)) faint;
      lost = λ h. other (same_held file 16 c.read-2.new.piece (elder_head j.key 16 c.args.former.now) second h (omega (arith, long, length-elder j.key 16 c.args.former.now)) ∙ sym was);
    }) c.tells_length.ensures.is

pub returns-then-not-is_faint-clause-other : goal.returns-then-not-is_faint-clause-other
returns-then-not-is_faint-clause-other g c is clean reading gone =
    let j = c.args.self.now in
    let file = g.D.Disk.seen j.disk in
    let stays = stays_then g.D.Disk _ _ _ c.read.ensures.stays c.read-2.ensures.stays in
    let second : Holds file 16 c.read-2.new.piece = subst (λ (f : List ℕ). Holds f 16 c.read-2.new.piece) c.read.ensures.stays.reads.seen (c.in_ok-read-2.ensures.read clean (search rules)) in
    let long : length c.read-2.new.piece ≡ 24 = search rules in
    let same : gone.key ≡ j.key = one_elder_key file gone.key j.key gone.small reading.small gone.key_there reading.front.key_there in
    let was : c.elder_head_bytes-was.result ≡ elder_head gone.key 16 c.args.former.now = c.elder_head_bytes-was.ensures ∙ ap (λ (k : ℕ). elder_head k 16 c.args.former.now) (stays.key ∙ sym same) in
    let faint = faint_found file 16 c.read-2.new.piece (elder_head gone.key 16 c.args.former.now) second (omega (arith, long, length-elder gone.key 16 c.args.former.now)) gone.faint in
    let yes = c.is_faint.ensures.1 (subst (λ (bs : List ℕ). IsFaint c.read-2.new.piece 0 bs) (sym was) faint) in
    search (rules, yes, c.if-not-is_faint.true)

pub returns-clause-other : goal.returns-clause-other
returns-clause-other g c = IfOk-weaker c.tells_length.result _ _ (λ b told is last reading gone.
    let stays = stays_then g.D.Disk _ _ _ c.read.ensures.stays c.read-2.ensures.stays in
    told is last (subst (λ (f : List ℕ). Holds f 16 (to_be_bytes w64 (length c.args.former.now))) (sym stays.reads.seen) gone.length_there)) c.tells_length.ensures.other

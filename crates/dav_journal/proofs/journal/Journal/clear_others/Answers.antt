use Rattle.std.proofs.Common.{◌≡◌, ◌∙◌, ◌≤◌, List, ℕ, length, replicate, IsTrue, ap, subst, sym, refl, rules, arith}
use Rattle.sqlite_disk.specs.Disk.{Holds, Mixed, Only, Torn}
use Rattle.sqlite_disk.specs.declared.Disk.{Ghosts}
use Rattle.dav_journal.specs.declared.journal.Journal.{Journal}
use Rattle.dav_journal.specs.File.{Recovers}
use Rattle.dav_journal.specs.Journal.{HasRead, IsCleared}
use Rattle.dav_journal.specs.Mark.{IsBlank, IsMark, IsMarkPlace, mark_after}
use Rattle.dav_journal.proofs.BlockLemmas.{blocks_le}
use Rattle.dav_journal.proofs.FrontLemmas.{cleared_left, one_mark, read_cleared}
use Rattle.dav_journal.proofs.MarkLemmas.{after_place, apart_after, apart_twice, blank_written, mark_same, others_then, place_high, place_low, torn_apart, torn_others}
use Rattle.dav_journal.proofs.journal.Journal.clear_others.Goals as goal

-- what the two writes leave
two_left : (p : ℕ) (old mid new : List ℕ) (contents : List (List ℕ)) → IsMarkPlace p → Recovers old contents → Mixed (mark_after p) (replicate 16 0) old mid → Mixed (mark_after (mark_after p)) (replicate 16 0) mid new → Recovers new contents
two_left p old mid new contents here r first second =
    let next = after_place p here in
    let last = after_place (mark_after p) next in
    cleared_left (mark_after (mark_after p)) 16 mid new contents (place_low _ last) (omega (arith, place_high _ last)) (cleared_left (mark_after p) 16 old mid contents (place_low _ next) (omega (arith, place_high _ next)) r first) second

pub returns-in_err-write_at-clause-any_moment : goal.returns-in_err-write_at-clause-any_moment
returns-in_err-write_at-clause-any_moment g c mixing contents leaves left may =
    let next : IsMarkPlace c.mark_after-next.result = subst IsMarkPlace (sym c.mark_after-next.ensures) (after_place c.args.place c.requires) in
    let (before, was, step) = c.write_at.ensures.mixed mixing (omega (arith, place_high _ next)) left may in
    cleared_left c.mark_after-next.result 16 before left contents (place_low _ next) (omega (arith, place_high _ next)) (leaves before was) step

pub returns-in_err-write_at-2-clause-any_moment : goal.returns-in_err-write_at-2-clause-any_moment
returns-in_err-write_at-2-clause-any_moment g c mixing contents leaves left may =
    let p = c.args.place in
    let next = after_place p c.requires in
    let last = after_place (mark_after p) next in
    let one : c.mark_after-next.result ≡ mark_after p = c.mark_after-next.ensures in
    let two : c.mark_after.result ≡ mark_after (mark_after p) = c.mark_after.ensures ∙ ap mark_after one in
    let still : IsTrue (g.D.Disk.is_mixing c.write_at.new.self) = search (rules, mixing, c.write_at.ensures.mixing) in
    let (mid, was, second) = c.write_at-2.ensures.mixed still (omega (arith, two, place_high _ last)) left may in
    let (before, first, step) = c.write_at.ensures.mixed mixing (omega (arith, one, place_high _ next)) mid was in
    two_left p before mid left contents c.requires (leaves before first) (subst (λ q. Mixed q (replicate 16 0) before mid) one step) (subst (λ q. Mixed q (replicate 16 0) mid left) two second)

pub returns-in_err-sync-clause-any_moment : goal.returns-in_err-sync-clause-any_moment
returns-in_err-sync-clause-any_moment g c mixing contents leaves left may =
    let p = c.args.place in
    let next = after_place p c.requires in
    let last = after_place (mark_after p) next in
    let one : c.mark_after-next.result ≡ mark_after p = c.mark_after-next.ensures in
    let two : c.mark_after.result ≡ mark_after (mark_after p) = c.mark_after.ensures ∙ ap mark_after one in
    let still : IsTrue (g.D.Disk.is_mixing c.write_at.new.self) = search (rules, mixing, c.write_at.ensures.mixing) in
    let (mid, was, second) = c.write_at-2.ensures.mixed still (omega (arith, two, place_high _ last)) left (c.sync.ensures.crash left may) in
    let (before, first, step) = c.write_at.ensures.mixed mixing (omega (arith, one, place_high _ next)) mid was in
    two_left p before mid left contents c.requires (leaves before first) (subst (λ q. Mixed q (replicate 16 0) before mid) one step) (subst (λ q. Mixed q (replicate 16 0) mid left) two second)

pub returns-clause-any_moment : goal.returns-clause-any_moment
returns-clause-any_moment g c mixing contents leaves left may =
    let p = c.args.place in
    let next = after_place p c.requires in
    let last = after_place (mark_after p) next in
    let one : c.mark_after-next.result ≡ mark_after p = c.mark_after-next.ensures in
    let two : c.mark_after.result ≡ mark_after (mark_after p) = c.mark_after.ensures ∙ ap mark_after one in
    let still : IsTrue (g.D.Disk.is_mixing c.write_at.new.self) = search (rules, mixing, c.write_at.ensures.mixing) in
    let (mid, was, second) = c.write_at-2.ensures.mixed still (omega (arith, two, place_high _ last)) left (c.sync.ensures.crash left may) in
    let (before, first, step) = c.write_at.ensures.mixed mixing (omega (arith, one, place_high _ next)) mid was in
    two_left p before mid left contents c.requires (leaves before first) (subst (λ q. Mixed q (replicate 16 0) before mid) one step) (subst (λ q. Mixed q (replicate 16 0) mid left) two second)

-- and what is there then
two_cleared : {D : Type 0} (g : Ghosts D) (old new : Journal D) (mid : List ℕ) (contents : List (List ℕ)) (p : ℕ) → IsMarkPlace p → HasRead g old contents → IsMark (g.seen old.disk) old.end p
    → Torn (mark_after p) 16 (g.seen old.disk) mid → Holds mid (mark_after p) (replicate 16 0) → Torn (mark_after (mark_after p)) 16 mid (g.seen new.disk) → Holds (g.seen new.disk) (mark_after (mark_after p)) (replicate 16 0)
    → Only (g.seen new.disk) (g.may_leave new.disk) → new.key ≡ old.key → new.end ≡ old.end → new.len ≡ old.len → new.mark ≡ mark_after p → IsCleared g new contents
two_cleared g old new mid contents p here r mark first zeros second blank only key_is end_is len_is mark_is =
    let next = after_place p here in
    let last = after_place (mark_after p) next in
    let far = blocks_le old.key (g.seen old.disk) 72 contents old.end r.reading.blocks in
    let long : 72 ≤ length (g.seen old.disk) = omega (arith, far, r.more) in
    let one = torn_others (mark_after p) 16 (g.seen old.disk) mid (place_low _ next) (omega (arith, place_high _ next)) long first in
    let long2 : 72 ≤ length mid = omega (arith, long, one.same_length) in
    let two = torn_others (mark_after (mark_after p)) 16 mid (g.seen new.disk) (place_low _ last) (omega (arith, place_high _ last)) long2 second in
    let stays : IsMark (g.seen new.disk) old.end p = mark_same (g.seen old.disk) (g.seen new.disk) old.end old.end p (omega arith) mark (λ i low.
    torn_apart (mark_after (mark_after p)) p 16 i mid (g.seen new.disk) long2 refl (place_high p here) low (apart_twice p here) second
    ∙ torn_apart (mark_after p) p 16 i (g.seen old.disk) mid long refl (place_high p here) low (apart_after p here) first) in
    let none : IsBlank (g.seen new.disk) (mark_after p) = λ i low.
    torn_apart (mark_after (mark_after p)) (mark_after p) 16 i mid (g.seen new.disk) long2 refl (place_high _ next) low (apart_after (mark_after p) next) second
    ∙ blank_written mid (mark_after p) 16 (omega arith) zeros i low in
    let marks = one_mark (g.seen new.disk) old.end p here stays none (blank_written (g.seen new.disk) (mark_after (mark_after p)) 16 (omega arith) blank) in
    read_cleared g old new contents r (others_then _ _ _ one two) only key_is end_is len_is (rw end_is marks) (subst IsMarkPlace (sym mark_is) next) (subst (λ q. IsBlank (g.seen new.disk) q) (sym mark_is) none)

pub returns-clause-cleared : goal.returns-clause-cleared
returns-clause-cleared g c contents r mark =
    let j = c.args.self.now in
    let p = c.args.place in
    let same = c.sync.ensures.seen in
    let one : c.mark_after-next.result ≡ mark_after p = c.mark_after-next.ensures in
    let two : c.mark_after.result ≡ mark_after (mark_after p) = c.mark_after.ensures ∙ ap mark_after one in
    let first = subst (λ q. Torn q 16 (g.D.Disk.seen j.disk) (g.D.Disk.seen c.write_at.new.self)) one c.write_at.ensures.others in
    let zeros = subst (λ q. Holds (g.D.Disk.seen c.write_at.new.self) q (replicate 16 0)) one (c.in_ok-write_at.ensures.written (omega arith)) in
    let second = subst (λ q. Torn q 16 (g.D.Disk.seen c.write_at.new.self) (g.D.Disk.seen c.write_at-2.new.self)) two c.write_at-2.ensures.others in
    let blank = subst (λ q. Holds (g.D.Disk.seen c.write_at-2.new.self) q (replicate 16 0)) two (c.in_ok-write_at-2.ensures.written (omega arith)) in
    let only : Only (g.D.Disk.seen c.sync.new.self) (g.D.Disk.may_leave c.sync.new.self) = subst (λ (f : List ℕ). Only f (g.D.Disk.may_leave c.sync.new.self)) (sym same) c.in_ok-sync.ensures.durable in
    two_cleared g.D.Disk j _ (g.D.Disk.seen c.write_at.new.self) contents p c.requires r mark first zeros
    (subst (λ (f : List ℕ). Torn (mark_after (mark_after p)) 16 (g.D.Disk.seen c.write_at.new.self) f) (sym same) second)
    (subst (λ (f : List ℕ). Holds f (mark_after (mark_after p)) (replicate 16 0)) (sym same) blank)
    only refl refl refl one

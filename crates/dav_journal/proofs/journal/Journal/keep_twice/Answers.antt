use Rattle.std.proofs.Common.{ℕ, List, [], ◌∷◌, ◌++◌, ◌≤◌, ◌+◌, length, sym, subst, arith, rules}
use Rattle.dav_journal.specs.Journal.{Rests}
use Rattle.dav_journal.specs.Parts.{bytes_in}
use Rattle.dav_journal.proofs.BlockLemmas.{blocks_le, content_small, leaves_one_more, rests_more}
use Rattle.dav_journal.proofs.MarkLemmas.{blank_kept}
use Rattle.dav_journal.proofs.journal.Journal.keep_twice.Goals as goal

pub returns-in_err-write_twice-clause-any_moment : goal.returns-in_err-write_twice-clause-any_moment
returns-in_err-write_twice-clause-any_moment g c contents content is kept left may =
    let fits = content_small _ _ content (bytes_in c.args.bytes.now) is (omega (arith, c.requires.ends, c.requires.fits)) in
    let (before, was, step) = c.write_twice.ensures.crash left may in
    leaves_one_more c.args.self.now.key contents content _ c.args.self.now.end _ before left kept.small fits is (kept.outcomes before was) step

pub returns-clause-any_moment : goal.returns-clause-any_moment
returns-clause-any_moment g c contents content is kept left may =
    let fits = content_small _ _ content (bytes_in c.args.bytes.now) is (omega (arith, c.requires.ends, c.requires.fits)) in
    let (before, was, step) = c.write_twice.ensures.crash left may in
    leaves_one_more c.args.self.now.key contents content _ c.args.self.now.end _ before left kept.small fits is (kept.outcomes before was) step

pub returns-clause-kept : goal.returns-clause-kept
returns-clause-kept g c contents content is kept =
    let fits = content_small _ _ content (bytes_in c.args.bytes.now) is (omega (arith, c.requires.ends, c.requires.fits)) in
    let now = kept.outcomes (g.D.Disk.seen c.args.self.now.disk) (g.met.D.Disk.seen_may_stay c.args.self.now.disk) in
    let low : c.args.self.now.end ≤ length (g.D.Disk.seen c.args.self.now.disk) = omega (arith, now.some, now.within) in
    let rests = rests_more c.args.self.now.key contents content _ c.args.self.now.end _ c.args.end (c.args.end + 1) _ _ fits is c.requires.ends (omega arith) now (c.write_twice.ensures.front low) c.in_ok-write_twice.ensures.written in
    record {
      small = kept.small;
      low = search rules;
      outcomes = λ left may. subst (λ (f : List ℕ). Rests c.args.self.now.key (contents ++ content ∷ []) c.args.end (c.args.end + 1) f) (sym (c.in_ok-write_twice.ensures.synced left may)) rests;
      place = kept.place;
      blank = blank_kept c.args.self.now.end _ _ c.args.self.now.mark (blocks_le c.args.self.now.key _ 72 contents c.args.self.now.end now.blocks) kept.place kept.blank (c.write_twice.ensures.front low);
    }

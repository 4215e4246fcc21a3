use Rattle.std.proofs.Common.{ℕ, List, [], ◌∷◌, ◌++◌, sym, subst, arith}
use Rattle.dav_journal.specs.Journal.{Rests}
use Rattle.dav_journal.specs.Parts.{bytes_in}
use Rattle.dav_journal.proofs.BlockLemmas.{blocks_le, content_small}
use Rattle.dav_journal.proofs.CutLemmas.{torn_front}
use Rattle.dav_journal.proofs.MarkLemmas.{blank_kept}
use Rattle.dav_journal.proofs.MixedLemmas.{rests_once}
use Rattle.dav_journal.proofs.journal.Journal.keep_once.Goals as goal

pub returns-in_err-write_once-clause-any_moment : goal.returns-in_err-write_once-clause-any_moment
returns-in_err-write_once-clause-any_moment g c contents content is kept left may =
    c.write_once.ensures.crash c.requires.mixes c.args.self.now.key c.args.self.now.zeros contents content kept.small is (omega (arith, c.requires.ends, c.requires.room)) kept.outcomes left may

pub returns-clause-any_moment : goal.returns-clause-any_moment
returns-clause-any_moment g c contents content is kept left may =
    c.write_once.ensures.crash c.requires.mixes c.args.self.now.key c.args.self.now.zeros contents content kept.small is (omega (arith, c.requires.ends, c.requires.room)) kept.outcomes left may

pub returns-clause-kept : goal.returns-clause-kept
returns-clause-kept g c contents content is kept =
    let fits = content_small _ _ content (bytes_in c.args.bytes.now) is (omega (arith, c.requires.ends, c.requires.fits)) in
    let now = kept.outcomes (g.D.Disk.seen c.args.self.now.disk) (g.met.D.Disk.seen_may_stay c.args.self.now.disk) in
    let rests = rests_once c.args.self.now.key contents content _ c.args.self.now.end c.args.self.now.zeros c.args.end _ _ fits is c.requires.ends c.requires.room now c.write_once.ensures.others c.in_ok-write_once.ensures.written in
    record {
      small = kept.small;
      low = kept.low;
      outcomes = λ left may. subst (λ (f : List ℕ). Rests c.args.self.now.key (contents ++ content ∷ []) c.args.end c.args.self.now.zeros f) (sym (c.in_ok-write_once.ensures.synced left may)) rests;
      place = kept.place;
      blank =
          let far = blocks_le c.args.self.now.key _ 72 contents c.args.self.now.end now.blocks in
          blank_kept c.args.self.now.end _ _ c.args.self.now.mark far kept.place kept.blank (torn_front c.args.self.now.end _ _ _ (omega (arith, now.some, now.within)) c.write_once.ensures.others);
    }

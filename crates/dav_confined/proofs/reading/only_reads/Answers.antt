use Rattle.std.proofs.Common.{◌≡◌, ◌∙◌, ap, refl, sym}
use Rattle.std.specs.Option.{option_copied}
use Rattle.dav_confined.specs.Sight.{only_reads}
use Rattle.dav_confined.proofs.LeaveLemmas.{by_reads, reads_by}
use Rattle.dav_confined.proofs.ReadingLemmas.{at_none, at_some, exchange_at, settings_at, unread_reads}
use Rattle.dav_confined.proofs.reading.only_reads.Goals as goal

pub returns : goal.returns
returns c =
    let rules = c.args.rules.now in
    let who = option_copied c.args.who in
    let a = c.in-Some.asked in (
      λ yes s x at is same. reads_by rules s x a (at_some _ _ _ a c.in-Some.is (c.in_ok-asked.ensures s x at is)) (ap (λ w. only_reads rules w a) same ∙ sym c.only_reads.ensures ∙ yes),
      λ reads.
          let s = settings_at c.args.prefix.now in
          let x = exchange_at c.args.head.now who in
          c.only_reads.ensures ∙ by_reads rules s x a (at_some _ _ _ a c.in-Some.is (c.in_ok-asked.ensures s x refl refl)) (reads s x refl refl refl),
    )

pub returns-in_default : goal.returns-in_default
returns-in_default c = (λ yes s x at is same. unread_reads c.args.rules.now s x (at_none _ _ c.in_default.is (c.in_ok-asked.ensures s x at is)), λ reads. refl)

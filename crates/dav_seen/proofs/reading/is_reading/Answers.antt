use Rattle.std.proofs.Common.{sym, true≢false}
use Rattle.std.specs.Option.{option_copied}
use Rattle.dav_server.specs.Head.{IsHead, Request}
use Rattle.dav_confined.specs.Sight.{OnlyReads}
use Rattle.dav_seen.proofs.ReplyLemmas.{decides_both}
use Rattle.dav_seen.proofs.reading.is_reading.Goals as goal

pub returns-in-Some : goal.returns-in-Some
returns-in-Some c =
    decides_both ((q : Request) × IsHead c.args.head.now q) (OnlyReads c.args.rules.now c.args.prefix.now (option_copied c.args.who) c.args.head.now) c.only_reads.result
    (c.in-Some.field-0, c.in-Some.ensures) c.only_reads.ensures

pub returns-in-None : goal.returns-in-None
returns-in-None c = (λ yes. absurd (true≢false (sym yes)), λ both. absurd (c.in-None.ensures both.0.0 both.0.1))

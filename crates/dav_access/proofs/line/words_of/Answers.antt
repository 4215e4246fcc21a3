use Rattle.std.proofs.Common.{rules, tests}
use Rattle.std.specs.Char.{is_ascii_whitespace}
use Rattle.std.proofs.lemmas.Iterator.Consumers.{YieldsList-from_filter, map_from_collect}
use Rattle.std.proofs.lemmas.Iterator.Splits.{YieldsList-from_slice_split}
use Rattle.dav_core.specs.Path.{is_nonempty}
use Rattle.dav_access.proofs.RulesTextLemmas.{nonempty_is}
use Rattle.dav_access.proofs.line.words_of.Goals as goal

pub returns : goal.returns
returns c =
    map_from_collect _ c.collect.ensures.ran
    (YieldsList-from_filter _ is_nonempty (YieldsList-from_slice_split _ is_ascii_whitespace c.args.line.now (cc) (cc) (cc) (λ x b q k. search (rules, tests))) c.filter.ensures.closure
    (λ x b q k. search (rules, tests, nonempty_is)))

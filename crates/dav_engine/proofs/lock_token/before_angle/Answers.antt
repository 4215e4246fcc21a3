use Rattle.std.proofs.Common.{lit<}
use Rattle.std.proofs.lemmas.Str.Pattern.{strip_suffix_char}
use Rattle.dav_engine.proofs.LockTokenLemmas.{no_closing}
use Rattle.dav_engine.proofs.lock_token.before_angle.Goals as goal

pub returns-in-None-clause-none : goal.returns-in-None-clause-none
returns-in-None-clause-none c =
    no_closing c.args.text.now _ _ c.in-None.is
    (strip_suffix_char 60 c.args.text.now _ c.strip_suffix.ensures.cases (lit< tt))
    (strip_suffix_char 62 c.args.text.now _ c.strip_suffix-in-None.ensures.cases (lit< tt))

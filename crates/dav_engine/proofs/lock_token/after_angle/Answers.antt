use Rattle.std.proofs.Common.{lit<}
use Rattle.std.proofs.lemmas.Str.Pattern.{strip_prefix_char}
use Rattle.dav_engine.proofs.LockTokenLemmas.{no_opening}
use Rattle.dav_engine.proofs.lock_token.after_angle.Goals as goal

pub returns-in-None-clause-none : goal.returns-in-None-clause-none
returns-in-None-clause-none c =
    no_opening c.args.text.now _ _ c.in-None.is
    (strip_prefix_char 60 c.args.text.now _ c.strip_prefix.ensures.cases (lit< tt))
    (strip_prefix_char 62 c.args.text.now _ c.strip_prefix-in-None.ensures.cases (lit< tt))

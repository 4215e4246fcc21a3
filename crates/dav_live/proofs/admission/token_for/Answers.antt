use Rattle.std.proofs.Common.{inl, inr, rules}
use Rattle.dav_live.specs.Admission.{none}
use Rattle.dav_live.proofs.AdmissionLemmas.{empty_is, next_token, some_is}
use Rattle.dav_live.proofs.admission.token_for.Goals as goal

pub returns-then-is_empty : goal.returns-then-is_empty
returns-then-is_empty c = none (inr (empty_is c.args.body.now c.if-is_empty.ensures))

pub returns-then-not-is_lock : goal.returns-then-not-is_lock
returns-then-not-is_lock c = none (inl (search rules))

pub returns : goal.returns
returns c =
    next_token c.args.random.now c.args.tokens c.args.head.now.method c.args.body.now _ c.fits-random c.told-random c.ranges.tokens.fits (search rules)
    (some_is c.args.body.now c.if-is_empty.ensures) c.in_ok-token_text.ensures

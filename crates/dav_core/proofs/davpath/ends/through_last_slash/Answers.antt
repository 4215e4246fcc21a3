use Rattle.std.proofs.Common.{◌==◌, not, sym, ◌∙◌, arith}
use Rattle.std.proofs.lemmas.Bool.Decides.{nat_tests}
use Rattle.dav_core.proofs.EndLemmas.{without_end_cut, without_end_kept}
use Rattle.dav_core.proofs.davpath.ends.through_last_slash.Goals as goal

pub loop-bytes-preserved : goal.loop-bytes-preserved
loop-bytes-preserved c =
    without_end_cut (λ b. not (b == 47)) c.loop-bytes.bytes.now c.in-len1-up.len_at_least (grind (arith, nat_tests)) ∙ c.loop-bytes.invariant

pub returns-else-last-ne47 : goal.returns-else-last-ne47
returns-else-last-ne47 c =
    sym (without_end_kept (λ b. not (b == 47)) c.loop-bytes.bytes.now c.in-len1-up.len_at_least (grind (arith, nat_tests))) ∙ c.loop-bytes.invariant

use Rattle.std.proofs.Common.{take, All}
use Rattle.dav_headers.proofs.LanguageLemmas.{IsReadable}
use Rattle.dav_headers.proofs.language.can_be_read.Given as goal

abbrev pub invariant-loop-value : goal.invariant-loop-value
invariant-loop-value l = All IsReadable (take l.value-index l.values)

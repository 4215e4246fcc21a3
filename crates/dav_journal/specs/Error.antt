-- The errors of a journal.
use Rattle.std.specs.Bool.{⊤}
use Rattle.dav_journal.specs.declared.error.JournalError.{JournalError}
use Rattle.dav_journal.specs.declared.error.JournalError.TheVariants as errors

-- it doesn't say that the file is damaged
abbrev pub IsNoDamage : JournalError → Type 0
IsNoDamage (errors.Damaged place) = ⊥
IsNoDamage errors.Io = ⊤
IsNoDamage errors.NoRoom = ⊤
IsNoDamage errors.Foreign = ⊤
IsNoDamage errors.Passed = ⊤
IsNoDamage errors.Memory = ⊤

-- The errors of a handler and of a journal, as a server has them.
use Rattle.dav_journal.specs.declared.error.JournalError.{JournalError}
use Rattle.dav_journal.specs.declared.error.JournalError.TheVariants as journal
use Rattle.dav_kept.specs.declared.error.HandleError.{HandleError}
use Rattle.dav_kept.specs.declared.error.HandleError.TheVariants as handler
use Rattle.dav_kept.specs.declared.error.KeptError.{KeptError}
use Rattle.dav_kept.specs.declared.error.KeptError.TheVariants as kept

-- a handler's error
abbrev pub of_handler : HandleError → KeptError
of_handler handler.Memory = kept.Memory
of_handler handler.Malformed = kept.Malformed

-- a journal's error: a full disk is a disk that failed, and so is one that another opening went on with
abbrev pub of_journal : JournalError → KeptError
of_journal journal.Io = kept.Disk
of_journal journal.NoRoom = kept.Disk
of_journal journal.Foreign = kept.Foreign
of_journal journal.Passed = kept.Disk
of_journal (journal.Damaged place) = kept.Damaged place
of_journal journal.Memory = kept.Memory

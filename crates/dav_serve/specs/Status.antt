-- The exit statuses of the program.
use Rattle.std.specs.Prelude.{ℕ, Bool, true, false, String}
use Rattle.std.specs.declared.alloc.Global.{Global}
use Rattle.sqlite_std_file.specs.declared.pair.OpenError.{OpenError}
use Rattle.sqlite_std_file.specs.declared.pair.OpenError.TheVariants as opening
use Rattle.dav_live.specs.declared.fault.Fault.{Fault}
use Rattle.dav_live.specs.declared.fault.Fault.TheVariants.{Ended, Pipe, Memory, Disk}
use Rattle.dav_serve.specs.declared.refusal.Refusal.{Refusal}
use Rattle.dav_serve.specs.declared.refusal.Refusal.TheVariants as refusal

-- the exit status of the program after a fault: 0 where the input ended, 2 where a pipe or a report failed, 3 where memory ran out, 5
-- where the disk failed
abbrev pub status_after : Fault → ℕ
status_after Ended = 0
status_after Pipe = 2
status_after Memory = 3
status_after Disk = 5

-- the exit status of a program that can't begin: 3 where memory ran out, 4 where the state is damaged, gone or of another version, 5 where the
-- disk failed, or what is dropped can't be kept, or the state not be claimed, 6 where the state is in use, and 1 for arguments, users, rules of access, prefixes and a state
-- that can't be opened
abbrev pub status_refused : Refusal → ℕ
status_refused refusal.Memory = 3
status_refused (refusal.Foreign folder) = 4
status_refused (refusal.Gone folder) = 4
status_refused (refusal.Damaged folder place) = 4
status_refused (refusal.Cut folder) = 5
status_refused (refusal.Claim folder) = 5
status_refused (refusal.Disk folder) = 5
status_refused (refusal.InUse folder) = 6
status_refused refusal.Awaited = 6
status_refused (refusal.Options error) = 1
status_refused (refusal.Prefix prefix) = 1
status_refused (refusal.Unread path) = 1
status_refused (refusal.Lists folder error) = 1
status_refused (refusal.Unruled folder) = 1
status_refused (refusal.State folder) = 1
status_refused (refusal.OtherPrefix folder) = 1

-- why a state that is in use can't be had: whether it is waited for
abbrev pub in_use : String Global → Bool → Refusal
in_use folder true = refusal.Awaited
in_use folder false = refusal.InUse folder

-- why the files of a folder's state can't be opened: another process has them, memory ran out, or what else the system says of them
abbrev pub unopened : String Global → Bool → OpenError → Refusal
unopened folder waits opening.Busy = in_use folder waits
unopened folder waits opening.OutOfMemory = refusal.Memory
unopened folder waits (opening.Io error) = refusal.State folder
unopened folder waits opening.HotJournal = refusal.State folder

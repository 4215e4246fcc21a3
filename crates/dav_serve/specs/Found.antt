-- What reading a file tells of its text.
use Rattle.std.specs.Prelude.{ℕ, Option, Some, None, Result, Ok, Err, String, Vec}
use Rattle.std.specs.IoError.{error_kind}
use Rattle.std.specs.declared.alloc.Global.{Global}
use Rattle.std.specs.declared.io.Error.{Error}
use Rattle.std.specs.declared.io.ErrorKind.{ErrorKind}
use Rattle.std.specs.declared.io.ErrorKind.TheVariants.{NotFound}
use Rattle.dav_serve.specs.declared.refusal.Refusal.{Refusal}
use Rattle.dav_serve.specs.declared.refusal.Refusal.TheVariants.{Unread}

-- the text of a file that can't be read: none where it isn't there, and else there is no telling
abbrev pub missing : String Global → ErrorKind → Result (Option (Vec ℕ Global)) Refusal
missing path NotFound = Ok None
missing path kind = Err (Unread path)

-- the text of a file at this path, by what reading it gave
abbrev pub found : String Global → Result (Vec ℕ Global) Error → Result (Option (Vec ℕ Global)) Refusal
found path (Ok text) = Ok (Some text)
found path (Err error) = missing path (error_kind error)

-- The statuses that report errors (RFC 9110, section 15; RFC 4918, section 11; RFC 5842, section 7.2).
use Rattle.std.specs.Prelude.{ℕ, Bool, true, false}
use Rattle.dav_core.specs.declared.errors.ParseError.{ParseError}
use Rattle.dav_core.specs.declared.errors.ParseError.TheVariants as parse
use Rattle.dav_core.specs.declared.errors.FsError.{FsError}
use Rattle.dav_core.specs.declared.errors.FsError.TheVariants as fs
use Rattle.dav_core.specs.declared.errors.DavError.{DavError}
use Rattle.dav_core.specs.declared.errors.DavError.TheVariants as dav

-- the status of a store's error (RFC 9110, sections 15.5 and 15.6; RFC 4918, sections 9.3.1, 9.8.5 and 11.5; RFC 5842, section 7.2)
abbrev pub fs_status : FsError → ℕ
fs_status fs.NotImplemented = 501
fs_status fs.GeneralFailure = 500
fs_status fs.Exists = 405
fs_status fs.NotFound = 404
fs_status fs.Forbidden = 403
fs_status fs.InsufficientStorage = 507
fs_status fs.LoopDetected = 508
fs_status fs.PathTooLong = 414
fs_status fs.TooLarge = 413
fs_status fs.IsRemote = 502

-- The status that a method's error is answered with (RFC 9110, section 15; RFC 4918, section 11.5).
abbrev pub dav_status : DavError → ℕ
dav_status dav.XmlParseError = 400
dav_status dav.InvalidPath = 400
dav_status dav.ForbiddenPath = 403
dav_status dav.IllegalPath = 502
dav_status dav.UnknownDavMethod = 501
dav_status dav.ChanError = 500
dav_status (dav.Status status) = status
dav_status (dav.StatusClose status) = status
dav_status (dav.FsError e) = fs_status e
dav_status dav.Memory = 507

-- Whether the connection closes after the reply to this error (RFC 9112, section 9.6).
abbrev pub must_close : DavError → Bool
must_close dav.XmlParseError = false
must_close dav.InvalidPath = false
must_close dav.ForbiddenPath = false
must_close dav.IllegalPath = false
must_close dav.UnknownDavMethod = false
must_close dav.ChanError = false
must_close (dav.Status status) = false
must_close (dav.StatusClose status) = true
must_close (dav.FsError e) = false
must_close dav.Memory = false

-- The error of a method for a text that names no path, or no path at or below the prefix (RFC 4918, section 9.8.5).
abbrev pub path_error : ParseError → DavError
path_error parse.InvalidPath = dav.InvalidPath
path_error parse.PrefixMismatch = dav.IllegalPath
path_error parse.ForbiddenPath = dav.ForbiddenPath
path_error parse.Memory = dav.Memory

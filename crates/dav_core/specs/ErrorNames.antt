-- The names that a store's errors are printed by.
use Rattle.std.specs.Prelude.{ℕ, List, codes}
use Rattle.dav_core.specs.declared.errors.FsError.{FsError}
use Rattle.dav_core.specs.declared.errors.FsError.TheVariants.{NotImplemented, GeneralFailure, Exists, NotFound, Forbidden, InsufficientStorage, LoopDetected, PathTooLong, TooLarge, IsRemote}

-- The name of a store's error, as it is printed: that of its variant.
abbrev pub fs_error_name : FsError → List ℕ
fs_error_name NotImplemented = codes "NotImplemented"
fs_error_name GeneralFailure = codes "GeneralFailure"
fs_error_name Exists = codes "Exists"
fs_error_name NotFound = codes "NotFound"
fs_error_name Forbidden = codes "Forbidden"
fs_error_name InsufficientStorage = codes "InsufficientStorage"
fs_error_name LoopDetected = codes "LoopDetected"
fs_error_name PathTooLong = codes "PathTooLong"
fs_error_name TooLarge = codes "TooLarge"
fs_error_name IsRemote = codes "IsRemote"

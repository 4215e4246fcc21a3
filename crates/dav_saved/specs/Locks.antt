-- How lists of locks are saved and read, and which can be.
use Rattle.std.specs.Prelude.{ℕ, Bool, List, Option, IfSome}
use Rattle.dav_core.specs.Element.{ElementTree}
use Rattle.dav_core.specs.Locks.{Lock}
use Rattle.dav_saved.specs.Spelling.{sized, optional, many}
use Rattle.dav_saved.specs.Reading.{Read, text_at, sized_at, optional_at, list_at}
use Rattle.dav_saved.specs.Trees.{IsText}
use Rattle.dav_saved.specs.Parts.{both, both_at, as_at, value, value_at, moment, moment_at, flag, flag_at, Fits64, HasLength64, AreAll, AreBoth, IsValue}

-- a path of a lock: its prefix, and its bytes after that
abbrev pub Place : Type 0
Place = List ℕ × List ℕ

-- when a lock ends, after how many seconds, whether it is shared, and whether it is of infinite
-- depth
abbrev pub Terms : Type 0
Terms = Option ℕ × (Option ℕ × (Bool × Bool))

-- the fields of a lock, in the order in which they are saved
abbrev pub LockFields : Type 0
LockFields = List ℕ × (Place × (Option (List ℕ) × (Option ElementTree × Terms)))

-- The terms of this lock.
abbrev pub terms_of : Lock → Terms
terms_of l = (l.timeout_at, (l.timeout, (l.shared, l.deep)))

-- The fields of this lock.
abbrev pub fields_of_lock : Lock → LockFields
fields_of_lock l = (l.token, ((l.path.prefix, l.path.bytes), (l.principal, (l.owner, terms_of l))))

-- the lock of these fields
abbrev pub lock_of : LockFields → Lock
lock_of f = record {
  token = f.0;
  path = record { prefix = f.1.0.0; bytes = f.1.0.1 };
  principal = f.1.1.0;
  owner = f.1.1.1.0;
  timeout_at = f.1.1.1.1.0;
  timeout = f.1.1.1.1.1.0;
  shared = f.1.1.1.1.1.1.0;
  deep = f.1.1.1.1.1.1.1;
}

-- A path of a lock is saved as its prefix and its bytes.
abbrev pub place : Place → List ℕ
place = both sized sized

-- The terms of a lock are saved one after another.
abbrev pub terms : Terms → List ℕ
terms = both moment (both moment (both flag flag))

-- The fields of a lock are saved one after another.
abbrev pub lock_fields : LockFields → List ℕ
lock_fields = both sized (both place (both optional (both value terms)))

-- A lock is saved as its fields.
abbrev pub lock : Lock → List ℕ
lock l = lock_fields (fields_of_lock l)

-- A list of locks is saved as how many there are, and each in its turn.
abbrev pub locks : List Lock → List ℕ
locks = many lock

-- reads a path of a lock
unfoldable pub place_at : List ℕ → Read Place
place_at bytes = both_at text_at sized_at bytes

-- reads the terms of a lock
unfoldable pub terms_at : List ℕ → Read Terms
terms_at bytes = both_at moment_at (both_at moment_at (both_at flag_at flag_at)) bytes

-- reads the fields of a lock
unfoldable pub lock_fields_at : ℕ → List ℕ → Read LockFields
lock_fields_at levels bytes = both_at text_at (both_at place_at (both_at optional_at (both_at (value_at levels) terms_at))) bytes

-- reads a lock, whose owner is an element of at most this many levels
unfoldable pub lock_at : ℕ → List ℕ → Read Lock
lock_at levels bytes = as_at lock_of (lock_fields_at levels) bytes

-- reads a list of locks
unfoldable pub locks_at : ℕ → List ℕ → Read (List Lock)
locks_at levels bytes = list_at (lock_at levels) bytes

-- a number, if there is one, has 64 bits
abbrev pub IsMoment : Option ℕ → Type 0
IsMoment m = IfSome m Fits64

-- either of true and false can be saved
abbrev pub IsFlag : Bool → Type 0
IsFlag b = Unit {0}

-- which paths of locks can be saved
abbrev pub IsPlace : Place → Type 0
IsPlace = AreBoth IsText HasLength64

-- which terms can be saved
abbrev pub AreTerms : Terms → Type 0
AreTerms = AreBoth IsMoment (AreBoth IsMoment (AreBoth IsFlag IsFlag))

-- a text, if there is one, is UTF-8
abbrev pub IsOptional : Option (List ℕ) → Type 0
IsOptional o = IfSome o IsText

-- Which locks can be saved and read: those of numbers and lengths of 64 bits, of texts in UTF-8,
-- and of an owner of at most this many levels.
abbrev pub IsSaveableLock : ℕ → Lock → Type 0
IsSaveableLock levels l = AreBoth IsText (AreBoth IsPlace (AreBoth IsOptional (AreBoth (IsValue levels) AreTerms))) (fields_of_lock l)

-- which lists of locks can be saved and read
abbrev pub AreSaveableLocks : ℕ → List Lock → Type 0
AreSaveableLocks levels ls = AreAll (IsSaveableLock levels) ls

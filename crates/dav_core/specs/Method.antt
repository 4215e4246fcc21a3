-- Methods (RFC 9110, section 9.3; RFC 5789; RFC 4918, section 9; RFC 3253, section 3.6; RFC 4791, section 5.3.1) and
-- sets of them.
use Rattle.std.specs.Prelude.{◌≡◌, ◌≢◌, ℕ, ◌^◌, ◌==◌, ◌↔◌, List, [], ◌∷◌, map, codes, All, Contains, Result, Ok, Err}
use Rattle.std.specs.Int.{bit_at}
use Rattle.std.specs.List.{filter}
use Rattle.std.specs.Char.{to_ascii_lowercase}
use denote.Ref.{Bor}
use Rattle.dav_core.specs.declared.errors.DavError.{DavError}
use Rattle.dav_core.specs.declared.errors.DavError.TheVariants as dav
use Rattle.dav_core.specs.declared.method.DavMethod.{DavMethod}
use Rattle.dav_core.specs.declared.method.DavMethod.TheVariants.{Head, Get, Put, Patch, Options, PropFind, PropPatch, MkCol, Copy, Move, Delete, Lock, Unlock, Report, MkCalendar, MkAddressbook}

-- All methods that the server knows, in the order of `place_of` (RFC 9110, section 9.1).
abbrev pub all_methods : List DavMethod
all_methods =
    Head ∷ Get ∷ Put ∷ Patch ∷ Options ∷ PropFind ∷ PropPatch ∷ MkCol ∷ Copy ∷ Move ∷ Delete ∷ Lock ∷ Unlock
    ∷ Report ∷ MkCalendar ∷ MkAddressbook ∷ []

-- The method's name. Names are case-sensitive (RFC 9110, section 9.1).
abbrev pub method_name : DavMethod → List ℕ
method_name Head = codes "HEAD"
method_name Get = codes "GET"
method_name Put = codes "PUT"
method_name Patch = codes "PATCH"
method_name Options = codes "OPTIONS"
method_name PropFind = codes "PROPFIND"
method_name PropPatch = codes "PROPPATCH"
method_name MkCol = codes "MKCOL"
method_name Copy = codes "COPY"
method_name Move = codes "MOVE"
method_name Delete = codes "DELETE"
method_name Lock = codes "LOCK"
method_name Unlock = codes "UNLOCK"
method_name Report = codes "REPORT"
method_name MkCalendar = codes "MKCALENDAR"
method_name MkAddressbook = codes "MKADDRESSBOOK"

-- the method whose name the text is, byte for byte; `UnknownDavMethod` where it is the name of none (RFC 9110, section 9.1)
abbrev pub GivesMethod : List ℕ → Result DavMethod DavError → Type 0
GivesMethod text (Ok m) = text ≡ method_name m
GivesMethod text (Err e) = (e ≡ dav.UnknownDavMethod) × ((m : DavMethod) → text ≢ method_name m)

-- the text is the method's name, ASCII case ignored
abbrev pub NamesMethod : List ℕ → DavMethod → Type 0
NamesMethod text m = map to_ascii_lowercase text ≡ map to_ascii_lowercase (method_name m)

-- the text is some method's name, ASCII case ignored (RFC 9110, section 9.1)
abbrev pub IsMethodName : List ℕ → Type 0
IsMethodName text = (m : DavMethod) × NamesMethod text m

-- the place of the method among all methods, counted from 0
abbrev pub place_of : DavMethod → ℕ
place_of Head = 0
place_of Get = 1
place_of Put = 2
place_of Patch = 3
place_of Options = 4
place_of PropFind = 5
place_of PropPatch = 6
place_of MkCol = 7
place_of Copy = 8
place_of Move = 9
place_of Delete = 10
place_of Lock = 11
place_of Unlock = 12
place_of Report = 13
place_of MkCalendar = 14
place_of MkAddressbook = 15

-- The set that has this method alone. A set of methods is a number below 2^16, whose bit at the place of a method says whether the set has it.
abbrev pub bit_of : DavMethod → ℕ
bit_of m = 2 ^ place_of m

-- the set has the method: the bit at the method's place is 1
abbrev pub Has : ℕ → DavMethod → Type 0
Has set m = bit_at set (place_of m) ≡ 1

-- the methods of the set, in order
abbrev pub methods_in : ℕ → List DavMethod
methods_in set = filter (λ m. bit_at set (place_of m) == 1) all_methods

-- The bytes of texts that are lent.
abbrev pub texts_of : List (Bor (List ℕ)) → List (List ℕ)
texts_of = map (λ t. t.now)

-- each text is a method's name, and the set has the methods that are named and no others
pub record IsNamedSet (texts : List (List ℕ)) (set : ℕ) : Type 0 where
  pub named : All IsMethodName texts
  pub has : (m : DavMethod) → Has set m ↔ ((text : List ℕ) × Contains texts text × NamesMethod text m)

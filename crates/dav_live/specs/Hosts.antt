-- The names by which a server may be asked for (RFC 9110, section 7.2).
use Rattle.std.specs.Prelude.{◌≡◌, ◌⊎◌, ℕ, ◌≤◌, ◌+◌, ◌==◌, List, [], ◌∷◌, ◌++◌, All, Bool, true, bytes_eq, codes, drop, if◌then◌else◌, length, position, take, unwrap_or, Option, Some, None}
use Rattle.std.specs.List.{list_any, slice_get}
use Rattle.std.specs.Option.{option_and_then, option_or}
use Rattle.dav_headers.specs.Value.{IsNumber}
use Rattle.dav_server.specs.Head.{Request, is_same_name, values_of}

-- the value of the first field with this name, if a request has one (RFC 9110, section 5.1)
abbrev pub value_of : List ℕ → Request → Option (List ℕ)
value_of name r = slice_get (values_of name r.fields) 0

-- these are digits (RFC 5234, appendix B.1)
abbrev pub AreDigits : List ℕ → Type 0
AreDigits text = All (λ b. (48 ≤ b) × (b ≤ 57)) text

-- The host of an authority: what comes before the colon of a port, which is of digits; all of it where there is none (RFC 3986, section 3.2).
pub data IsHostOf (authority : List ℕ) : List ℕ → Type 0 where
  before_port : (host port : List ℕ) → authority ≡ host ++ 58 ∷ port → AreDigits port → IsHostOf authority host
  alone : ((host port : List ℕ) → authority ≡ host ++ 58 ∷ port → ¬ AreDigits port) → IsHostOf authority authority

-- digits are a port: none, or a number of at most 65,535 (RFC 3986, section 3.2.3; RFC 6335, section 6)
abbrev pub IsPort : List ℕ → Type 0
IsPort digits = (digits ≡ []) ⊎ ((n : ℕ) × IsNumber digits n × (n ≤ 65535))

-- an authority has digits as its port that are none
abbrev pub HasBadPort : List ℕ → Type 0
HasBadPort authority = (host : List ℕ) × (port : List ℕ) × (authority ≡ host ++ 58 ∷ port) × AreDigits port × (¬ IsPort port)

-- a machine's own names
abbrev pub own_names : List (List ℕ)
own_names = codes "localhost" ∷ codes "127.0.0.1" ∷ codes "[::1]" ∷ []

-- this says whether an authority names this machine or one of these hosts, in letters of either case (RFC 3986, section 3.2.2)
abbrev pub TellsNamed : List (List ℕ) → List ℕ → Bool → Type 0
TellsNamed hosts authority is = (host : List ℕ) × IsHostOf authority host × (is ≡ list_any (is_same_name host) (own_names ++ hosts))

-- where this byte stands first in a text
abbrev pub place_of : ℕ → List ℕ → Option ℕ
place_of byte text = position (λ b. b == byte) text

-- what comes before the first slash of a text; all of it where there is none
abbrev pub up_to_slash : List ℕ → List ℕ
up_to_slash text = take (unwrap_or (place_of 47 text) (length text)) text

-- the authority before which this stands, where it is two slashes (RFC 3986, section 3)
abbrev pub authority_after : List ℕ → Option (List ℕ)
authority_after text = if bytes_eq (take 2 text) (codes "//") then Some (up_to_slash (drop 2 text)) else None

-- The authority of a target in absolute form, with a scheme before it; none of one in another form, which begins with a slash or has no colon
-- before two slashes (RFC 9112, section 3.2).
abbrev pub authority_in : List ℕ → Option (List ℕ)
authority_in target =
    if bytes_eq (take 1 target) (codes "/") then None
    else option_and_then (λ place. authority_after (drop (place + 1) target)) (place_of 58 target)

-- for which host a request is: that of its target in absolute form, and else that of Host (RFC 9112, section 3.2.2)
abbrev pub asked_host : Request → Option (List ℕ)
asked_host r = option_or (authority_in r.target) (value_of (codes "host") r)

-- a request for this host is for a port that can't be: the value of its Host, or its target, is invalid (RFC 9110, section 7.2; RFC 9112,
-- section 3.2)
abbrev pub AsksBadPort : Option (List ℕ) → Type 0
AsksBadPort None = ⊥
AsksBadPort (Some authority) = HasBadPort authority

-- This says whether a request for this host is for this machine, or for one of these hosts; one without a Host is (RFC 9110, section 7.2;
-- RFC 9112, section 3.2).
abbrev pub TellsFor : List (List ℕ) → Option (List ℕ) → Bool → Type 0
TellsFor hosts None is = is ≡ true
TellsFor hosts (Some authority) is = TellsNamed hosts authority is

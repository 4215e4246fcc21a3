-- Credentials of the scheme Basic (RFC 9110, section 11.4; RFC 7617, section 2).
use Rattle.std.specs.Prelude.{◌≡◌, ◌≢◌, ℕ, ◌+◌, List, ◌∷◌, ◌++◌, codes, map, replicate}
use Rattle.std.specs.Char.{to_ascii_lowercase}
use Rattle.std.specs.Str.{IsUtf8}
use Rattle.base64.specs.Engines.{standard}
use Rattle.base64.specs.GeneralPurpose.{IsBytes, encode_of}
use Rattle.dav_access.specs.Texts.{IsSplit}

-- The value of a field is the scheme Basic, in letters of either case, one space or more, and this
-- code, before which all the spaces come (RFC 9110, section 11.4).
pub record HasCode (value code : List ℕ) : Type 0 where
  pub scheme : List ℕ
  pub spaces : ℕ
  pub written : value ≡ scheme ++ (replicate (spaces + 1) 32 ++ code)
  pub basic : map to_ascii_lowercase scheme ≡ codes "basic"
  pub bare : (rest : List ℕ) → code ≢ 32 ∷ rest

-- The value of a field reads as Basic credentials of this name and password: its code is the Base64
-- of a text in UTF-8, in which the name comes before the first colon, and the password after it
-- (RFC 7617, section 2).
pub record IsBasic (value name password : List ℕ) : Type 0 where
  pub code : List ℕ
  pub text : List ℕ
  pub has : HasCode value code
  pub encoded : code ≡ encode_of standard text
  pub bytes : IsBytes text
  pub utf8 : IsUtf8 text
  pub parts : IsSplit 58 text name password

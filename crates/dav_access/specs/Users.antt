-- The users of a server: a list of names and secrets, and who is let in by it.
use Rattle.std.specs.Prelude.{◌≡◌, ◌≢◌, ◌⊎◌, ℕ, ◌+◌, ◌<◌, ◌≤◌, ◌==◌, List, [], ◌∷◌, Option, length}
use Rattle.std.specs.List.{AllWithin, HoldsAt, after_first, before_first}
use Rattle.std.specs.Option.{ForSome}
use Rattle.std.specs.Str.{trim}
use Rattle.sha2.specs.Sha256.{sha256}
use Rattle.dav_xml.specs.Legal.{IsLegal}
use Rattle.dav_access.specs.Crypt.{Fits}
use Rattle.dav_access.specs.Secrets.{IsSecret}
use Rattle.dav_access.specs.Texts.{IsSplit}

-- the name of a user: it isn't empty, and is of characters that a document may have (XML 1.0,
-- section 2.2)
pub record IsName (name : List ℕ) : Type 0 where
  pub some : name ≢ []
  pub legal : IsLegal name

-- ---- the text of a list

-- the first line of a text, without the line feed at its end, and what follows that
abbrev pub line_of : List ℕ → List ℕ
line_of text = before_first (λ b. b == 10) text

abbrev pub next_lines : List ℕ → List ℕ
next_lines text = after_first (λ b. b == 10) text

-- a line with nothing but white space, or a comment: the first character after white space is `#`
abbrev pub IsSkipped : List ℕ → Type 0
IsSkipped line = (trim line ≡ []) ⊎ ((rest : List ℕ) × (trim line ≡ 35 ∷ rest))

-- a line of a user, but for white space around it: the name, a colon, and the secret
pub record IsUserLine (line : List ℕ) (user : List ℕ × List ℕ) : Type 0 where
  pub parts : IsSplit 58 (trim line) user.0 user.1
  pub name : IsName user.0
  pub secret : IsSecret user.1

-- a line that a list may have
abbrev pub IsGoodLine : List ℕ → Type 0
IsGoodLine line = IsSkipped line ⊎ ((user : List ℕ × List ℕ) × IsUserLine line user)

-- A text lists these users in this order, one for each line that isn't skipped.
pub data ListsUsers : List ℕ → List (List ℕ × List ℕ) → Type 0 where
  ended : ListsUsers [] []
  skipped : {text : List ℕ} {users : List (List ℕ × List ℕ)} → text ≢ [] → IsSkipped (line_of text)
      → ListsUsers (next_lines text) users → ListsUsers text users
  listed : {text : List ℕ} {user : List ℕ × List ℕ} {users : List (List ℕ × List ℕ)} → text ≢ []
      → ¬ IsSkipped (line_of text) → IsUserLine (line_of text) user
      → ListsUsers (next_lines text) users → ListsUsers text (user ∷ users)

-- The line with this number, from 1, is the first of a text that a list may not have.
pub data IsFirstFault : List ℕ → ℕ → Type 0 where
  here : {text : List ℕ} → text ≢ [] → ¬ IsGoodLine (line_of text) → IsFirstFault text 1
  later : {text : List ℕ} {number : ℕ} → text ≢ [] → IsGoodLine (line_of text)
      → IsFirstFault (next_lines text) number → IsFirstFault text (number + 1)

-- ---- who is let in

-- the first user of this name has this secret
pub record IsListed (users : List (List ℕ × List ℕ)) (name secret : List ℕ) : Type 0 where
  pub place : ℕ
  pub within : place < length users
  pub here : HoldsAt (λ u. u ≡ (name, secret)) users place
  pub first : AllWithin (λ u. u.0 ≢ name) users 0 place

-- the first user of this name, which is a name, is at this place
pub record IsFirstOf (users : List (List ℕ × List ℕ)) (name : List ℕ) (place : ℕ) : Type 0 where
  pub within : place < length users
  pub here : HoldsAt (λ u. u.0 ≡ name) users place
  pub first : AllWithin (λ u. u.0 ≢ name) users 0 place
  pub named : IsName name

-- Some password of this digest has the secret: the one that is shown, unless two passwords of one
-- SHA-256 are known.
abbrev pub HasFitting : List ℕ → List ℕ → Type 0
HasFitting secret digest =
    ∥ ((password : List ℕ) × (sha256 password ≡ digest) × Fits password secret) ∥₁

-- the digest of the password that fitted last, if one did
abbrev pub IsLastFitting : List ℕ → Option (List ℕ) → Type 0
IsLastFitting secret digest = ForSome digest (HasFitting secret)

-- A user of this name is let in who shows this password: of at most 72 bytes, and with the SHA-256
-- of one that has the secret.
pub record Admits (users : List (List ℕ × List ℕ)) (name password : List ℕ) : Type 0 where
  pub secret : List ℕ
  pub listed : IsListed users name secret
  pub short : length password ≤ 72
  pub fits : HasFitting secret (sha256 password)

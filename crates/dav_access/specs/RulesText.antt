-- The text of the rules. A line grants a right at a path, limits how much there may be at a path and
-- below it, or says who is in a group; one without words and one whose first word begins with `#`
-- say nothing.
use Rattle.std.specs.Prelude.{◌≡◌, ◌≢◌, ◌==◌, ◌||◌, ℕ, All, Bool, true, false, bytes_eq, List, [], ◌∷◌, ◌++◌, Contains, Option, Some, None, codes, map}
use Rattle.std.specs.Char.{is_ascii_whitespace}
use Rattle.std.specs.List.{filter, list_any, slice_split}
use Rattle.percent_encoding.specs.Percent.{percent_decode}
use Rattle.dav_core.specs.Path.{PathText, is_nonempty, star}
use Rattle.dav_core.specs.Target.{Reads}
use Rattle.dav_access.specs.declared.grant.Grant.{Grant}
use Rattle.dav_access.specs.declared.grant.Right.{Right}
use Rattle.dav_access.specs.declared.grant.Right.TheVariants.{Read, Write, Admin}
use Rattle.dav_access.specs.declared.grant.Whom.{Whom}
use Rattle.dav_access.specs.declared.grant.Whom.TheVariants.{Everybody, EachUser, User}
use Rattle.dav_access.specs.declared.limit.Limit.{Limit}
use Rattle.dav_access.specs.declared.limit.Measure.{Measure}
use Rattle.dav_access.specs.declared.limit.Measure.TheVariants.{Files, Space}
use Rattle.dav_access.specs.Amounts.{IsAmount}

-- the names and secrets of the users, where there is a list of them
abbrev pub UserList : Type 0
UserList = Option (List (List ℕ × List ℕ))

-- the words of a line
abbrev pub Words : Type 0
Words = List (List ℕ)

-- lines, each by its words
abbrev pub Lines : Type 0
Lines = List Words

-- the words of a line: what is between white space
abbrev pub words_of : List ℕ → Words
words_of line = filter is_nonempty (slice_split is_ascii_whitespace line)

-- the words of each line of a text
abbrev pub lines_of : List ℕ → Lines
lines_of text = map words_of (slice_split (λ b. b == 10) text)

-- whether a text begins with this byte
abbrev pub begins_with : ℕ → List ℕ → Bool
begins_with byte [] = false
begins_with byte (b ∷ bs) = b == byte

-- whether a line says nothing
abbrev pub is_silent : Words → Bool
is_silent [] = true
is_silent (word ∷ words) = begins_with 35 word

-- whether a word is the name of a group: it begins with `@`
abbrev pub is_group : List ℕ → Bool
is_group word = begins_with 64 word

-- a line that says who is in a group: its name, `=`, and the users
pub record SaysGroup (line : Words) (group : List ℕ) (members : Words) : Type 0 where
  pub named : is_group group ≡ true
  pub line_is : line ≡ group ∷ codes "=" ∷ members

-- some of these lines says who is in the group
pub record IsGroupIn (lines : Lines) (group : List ℕ) (members : Words) : Type 0 where
  pub line : Words
  pub there : Contains lines line
  pub says : SaysGroup line group members

-- none of these lines says who is in the group
abbrev pub HasNoGroup : Lines → List ℕ → Type 0
HasNoGroup lines group = (members : Words) → ¬ IsGroupIn lines group members

-- whether a user of the list, if there is one, has this name
abbrev pub is_user : UserList → List ℕ → Bool
is_user None name = false
is_user (Some users) name = list_any (λ u. bytes_eq u.0 name) users

-- the users among these words, each of which is written as in a URL (RFC 3986, section 2.1)
abbrev pub users_among : UserList → Words → List Whom
users_among users words = map User (filter (is_user users) (map percent_decode words))

-- a word that can only be the name of a user
pub record IsPlain (word : List ℕ) : Type 0 where
  pub not_everybody : word ≢ codes "everybody"
  pub not_users : word ≢ codes "users"
  pub no_group : is_group word ≡ false

-- whom a word of a grant means, in a text of these lines
pub data Means (users : UserList) (lines : Lines) (word : List ℕ)
    : List Whom → Type 0 where
  everybody : word ≡ codes "everybody" → Means users lines word (Everybody ∷ [])
  each_user : word ≡ codes "users" → users ≢ None → Means users lines word (EachUser ∷ [])
  group : {members : Words} → IsGroupIn lines word members
      → Means users lines word (users_among users members)
  user : IsPlain word → is_user users (percent_decode word) ≡ true
      → Means users lines word (User (percent_decode word) ∷ [])

-- whom words mean, one after the other
pub data MeanAll (users : UserList) (lines : Lines)
    : Words → List Whom → Type 0 where
  none : MeanAll users lines [] []
  more : {word : List ℕ} {words : Words} {whom rest : List Whom} → Means users lines word whom
      → MeanAll users lines words rest → MeanAll users lines (word ∷ words) (whom ++ rest)

-- the word of a right that a line may grant
pub data IsRightWord (word : List ℕ) : Right → Type 0 where
  read : word ≡ codes "read" → IsRightWord word Read
  write : word ≡ codes "write" → IsRightWord word Write
  admin : word ≡ codes "admin" → IsRightWord word Admin

-- the word is a path, read as the target of a request is, and not `*` (RFC 9112, section 3.2)
pub record IsPathWord (word : List ℕ) (path : PathText) : Type 0 where
  pub bare : path.prefix ≡ []
  pub reads : Reads word path.bytes
  pub no_star : path.bytes ≢ star

-- a line that grants a right at a path, and the grants that it makes
pub record IsGrantLine (users : UserList) (lines : Lines)
    (line : Words) (grants : List Grant) : Type 0 where
  pub right_word : List ℕ
  pub path_word : List ℕ
  pub names : Words
  pub right : Right
  pub path : PathText
  pub whom : List Whom
  pub line_is : line ≡ right_word ∷ path_word ∷ names
  pub is_right : IsRightWord right_word right
  pub is_path : IsPathWord path_word path
  pub some : names ≢ []
  pub mean : MeanAll users lines names whom
  pub grants_are : grants ≡ map (λ w. record { whom = w; right = right; path = path }) whom

-- the word of what a line limits: how many files and folders there are, or how many bytes files have
pub data IsMeasureWord (word : List ℕ) : Measure → Type 0 where
  files : word ≡ codes "files" → IsMeasureWord word Files
  space : word ≡ codes "space" → IsMeasureWord word Space

-- a line begins with the word of what it limits
abbrev pub BeginsLimit : Words → Type 0
BeginsLimit [] = ⊥
BeginsLimit (word ∷ words) = (measure : Measure) × IsMeasureWord word measure

-- a line that limits how much there may be at a path and below it: what it limits, the path, and how
-- much it may be at most
pub record IsLimitLine (line : Words) (limit : Limit) : Type 0 where
  pub measure_word : List ℕ
  pub path_word : List ℕ
  pub most_word : List ℕ
  pub line_is : line ≡ measure_word ∷ path_word ∷ most_word ∷ []
  pub is_measure : IsMeasureWord measure_word limit.measure
  pub is_path : IsPathWord path_word limit.path
  pub is_most : IsAmount most_word limit.most

-- each of these words names a user
abbrev pub AllUsers : UserList → Words → Type 0
AllUsers users words = All (λ word. is_user users (percent_decode word) ≡ true) words

-- A good line of a text, of whose lines these are before it; and the grants that it makes. One that
-- limits grants nothing.
pub data IsRulesLine (users : UserList) (lines before : Lines)
    (line : Words) : List Grant → Type 0 where
  silent : is_silent line ≡ true → IsRulesLine users lines before line []
  group : {word : List ℕ} {members : Words} → SaysGroup line word members
      → HasNoGroup before word → members ≢ [] → AllUsers users members
      → IsRulesLine users lines before line []
  grant : {grants : List Grant} → is_silent line ≡ false
      → ((word : List ℕ) (members : Words) → ¬ SaysGroup line word members)
      → IsGrantLine users lines line grants → IsRulesLine users lines before line grants
  limit : {l : Limit} → IsLimitLine line l → IsRulesLine users lines before line []

-- Lines of a text that come after these grant this, one after the other.
pub data Grants (users : UserList) (lines : Lines)
    : Lines → Lines → List Grant → Type 0 where
  ended : {before : Lines} → Grants users lines before [] []
  next : {before rest : Lines} {line : Words} {grants more : List Grant}
      → IsRulesLine users lines before line grants
      → Grants users lines (before ++ line ∷ []) rest more
      → Grants users lines before (line ∷ rest) (grants ++ more)

-- a text is that of these rules
abbrev pub AreRulesOf : UserList → List ℕ → List Grant → Type 0
AreRulesOf users text rules = Grants users (lines_of text) [] (lines_of text) rules

-- the limits of lines, one after the other
pub data Limits : Lines → List Limit → Type 0 where
  ended : Limits [] []
  limit : {line : Words} {rest : Lines} {l : Limit} {more : List Limit} → IsLimitLine line l
      → Limits rest more → Limits (line ∷ rest) (l ∷ more)
  other : {line : Words} {rest : Lines} {more : List Limit} → ¬ BeginsLimit line
      → Limits rest more → Limits (line ∷ rest) more

-- these are the limits of a text, in the order of its lines
abbrev pub AreLimitsOf : List ℕ → List Limit → Type 0
AreLimitsOf text limits = Limits (lines_of text) limits

-- a name of the list, if there is one, that means more than one user in a text of rules
abbrev pub has_taken_name : UserList → Bool
has_taken_name users = is_user users (codes "everybody") || is_user users (codes "users")

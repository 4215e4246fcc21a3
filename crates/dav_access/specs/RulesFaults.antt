-- Why a text is no text of rules.
use Rattle.std.specs.Prelude.{◌≡◌, ◌≢◌, ◌⊎◌, ◌+◌, ℕ, true, false, List, [], ◌∷◌, ◌++◌, All, None, codes, string_bytes}
use Rattle.std.specs.Str.{IsUtf8}
use Rattle.percent_encoding.specs.Percent.{percent_decode}
use Rattle.dav_core.specs.Path.{PathText, star}
use Rattle.dav_core.specs.Target.{IsRefused}
use Rattle.dav_core.specs.declared.errors.ParseError.{ParseError}
use Rattle.dav_core.specs.declared.errors.ParseError.TheVariants.{InvalidPath, Memory as ParseMemory}
use Rattle.dav_access.specs.declared.fault.AccessError.{AccessError}
use Rattle.dav_access.specs.declared.fault.AccessError.TheVariants.{Line, NotUtf8, TakenName, Memory}
use Rattle.dav_access.specs.declared.fault.Fault.{Fault}
use Rattle.dav_access.specs.declared.fault.Fault.TheVariants.{NoRight, NoPath, BadPath, Nobody, NoUser, NoGroup, DoubleGroup, NoNumber, BadNumber, TooMany}
use Rattle.dav_access.specs.declared.fault.Stop.{Stop}
use Rattle.dav_access.specs.declared.fault.Stop.TheVariants.{Fault as AtFault, Memory as OutOfMemory}
use Rattle.dav_access.specs.declared.grant.Grant.{Grant}
use Rattle.dav_access.specs.declared.grant.Right.{Right}
use Rattle.dav_access.specs.declared.grant.Whom.{Whom}
use Rattle.dav_access.specs.declared.limit.Limit.{Limit}
use Rattle.dav_access.specs.declared.limit.Measure.{Measure}
use Rattle.dav_access.specs.declared.limit.Said.{Said}
use Rattle.dav_access.specs.declared.limit.Said.TheVariants.{Granted, Limited}
use Rattle.dav_access.specs.Amounts.{IsAmount}
use Rattle.dav_access.specs.RulesText.{AllUsers, BeginsLimit, IsLimitLine, Lines, UserList, Words, HasNoGroup, IsRulesLine, IsGroupIn, IsMeasureWord, IsPathWord, IsPlain, IsRightWord, MeanAll, SaysGroup, has_taken_name, is_group, is_silent, is_user, lines_of}

-- a word of a grant is no user's name, or means each user where there is no list of users
pub data MeansNoUser (users : UserList) (word : List ℕ) : Type 0 where
  unlisted : IsPlain word → is_user users (percent_decode word) ≡ false → MeansNoUser users word
  no_list : word ≡ codes "users" → users ≡ None → MeansNoUser users word

-- why a word of a grant means nobody: there is no such user, or no such group
abbrev pub IsUnknown : UserList → Lines → List ℕ → Fault → Type 0
IsUnknown users lines word (NoUser text) = (string_bytes text ≡ word) × MeansNoUser users word
IsUnknown users lines word (NoGroup text) =
    (string_bytes text ≡ word) × (is_group word ≡ true) × HasNoGroup lines word
IsUnknown users lines word _ = ⊥

-- why the first of these words that means nobody does
pub record HasUnknown (users : UserList) (lines : Lines)
    (words : Words) (fault : Fault) : Type 0 where
  pub front : Words
  pub word : List ℕ
  pub back : Words
  pub whom : List Whom
  pub words_are : words ≡ front ++ word ∷ back
  pub mean : MeanAll users lines front whom
  pub unknown : IsUnknown users lines word fault

-- why a word is no path that may be granted: it is refused as the target of a request, or is `*`
abbrev pub IsBadPath : List ℕ → ParseError → Type 0
IsBadPath word error =
    ((error ≢ ParseMemory) × IsRefused word error) ⊎ ((error ≡ InvalidPath) × (word ≡ star))

-- the first fault of a line that is to grant a right: the right, the path, and then who is named
pub data IsGrantFault (users : UserList) (lines : Lines)
    (line : Words) : Fault → Type 0 where
  no_right : {word : List ℕ} {words : Words} {text : _} → line ≡ word ∷ words
      → ((right : Right) → ¬ IsRightWord word right) → string_bytes text ≡ word
      → IsGrantFault users lines line (NoRight text)
  no_path : {word : List ℕ} {right : Right} → line ≡ word ∷ [] → IsRightWord word right
      → IsGrantFault users lines line NoPath
  bad_path : {word path_word : List ℕ} {names : Words} {right : Right} {error : ParseError}
      → line ≡ word ∷ path_word ∷ names → IsRightWord word right → IsBadPath path_word error
      → IsGrantFault users lines line (BadPath error)
  nobody : {word path_word : List ℕ} {right : Right} {path : PathText}
      → line ≡ word ∷ path_word ∷ []
      → IsRightWord word right → IsPathWord path_word path → IsGrantFault users lines line Nobody
  unknown : {word path_word : List ℕ} {names : Words} {right : Right} {path : PathText}
      {fault : Fault} → line ≡ word ∷ path_word ∷ names → IsRightWord word right
      → IsPathWord path_word path
      → HasUnknown users lines names fault → IsGrantFault users lines line fault

-- why what follows the path of a line that limits isn't one number: nothing follows, the first word
-- is none, or there is a second
pub data IsMostFault (words : Words) : Fault → Type 0 where
  no_number : words ≡ [] → IsMostFault words NoNumber
  bad_number : {word : List ℕ} {rest : Words} {text : _} → words ≡ word ∷ rest
      → ((number : ℕ) → ¬ IsAmount word number) → string_bytes text ≡ word
      → IsMostFault words (BadNumber text)
  too_many : {word extra : List ℕ} {rest : Words} {number : ℕ} {text : _}
      → words ≡ word ∷ extra ∷ rest → IsAmount word number → string_bytes text ≡ extra
      → IsMostFault words (TooMany text)

-- the first fault of a line that is to limit something: the path, and then how much
pub data IsLimitFault (line : Words) : Fault → Type 0 where
  no_path : {word : List ℕ} {measure : Measure} → line ≡ word ∷ [] → IsMeasureWord word measure
      → IsLimitFault line NoPath
  bad_path : {word path_word : List ℕ} {words : Words} {measure : Measure} {error : ParseError}
      → line ≡ word ∷ path_word ∷ words → IsMeasureWord word measure → IsBadPath path_word error
      → IsLimitFault line (BadPath error)
  most : {word path_word : List ℕ} {words : Words} {measure : Measure} {path : PathText}
      {fault : Fault} → line ≡ word ∷ path_word ∷ words → IsMeasureWord word measure
      → IsPathWord path_word path → IsMostFault words fault → IsLimitFault line fault

-- the first fault of a line that says who is in a group: a line before it says so too, nobody is
-- named, or a word is no user's name
pub data IsGroupFault (users : UserList) (before : Lines)
    (group : List ℕ) (members : Words) : Fault → Type 0 where
  double : {others : Words} {text : _} → IsGroupIn before group others → string_bytes text ≡ group
      → IsGroupFault users before group members (DoubleGroup text)
  nobody : HasNoGroup before group → members ≡ [] → IsGroupFault users before group members Nobody
  unknown : (front back : Words) {word : List ℕ} {text : _} → HasNoGroup before group
      → members ≡ front ++ word ∷ back → AllUsers users front
      → is_user users (percent_decode word) ≡ false → string_bytes text ≡ word
      → IsGroupFault users before group members (NoUser text)

-- the first fault of a line of a text, of whose lines these are before it
pub data IsRulesLineFault (users : UserList) (lines before : Lines)
    (line : Words) (fault : Fault) : Type 0 where
  group : {word : List ℕ} {members : Words} → SaysGroup line word members
      → IsGroupFault users before word members fault
      → IsRulesLineFault users lines before line fault
  limit : IsLimitFault line fault → IsRulesLineFault users lines before line fault
  grant : is_silent line ≡ false → ¬ BeginsLimit line
      → ((word : List ℕ) (members : Words) → ¬ SaysGroup line word members)
      → IsGrantFault users lines line fault → IsRulesLineFault users lines before line fault

-- The first faulty line of a text, among those that come after these: its number, from 1, and its
-- fault.
pub data HasFirstFault (users : UserList) (lines : Lines)
    : Lines → Lines → ℕ → Fault → Type 0 where
  here : {before rest : Lines} {line : Words} {fault : Fault}
      → IsRulesLineFault users lines before line fault
      → HasFirstFault users lines before (line ∷ rest) 1 fault
  later : {before rest : Lines} {line : Words} {grants : List Grant} {number : ℕ}
      {fault : Fault} → IsRulesLine users lines before line grants
      → HasFirstFault users lines (before ++ line ∷ []) rest number fault
      → HasFirstFault users lines before (line ∷ rest) (number + 1) fault

-- a word of the text isn't UTF-8
abbrev pub IsNoText : List ℕ → Type 0
IsNoText text = ¬ All (All IsUtf8) (lines_of text)

-- Why there are no rules in a text: a user has a name that is taken; else a word isn't UTF-8; else
-- a line is at fault, of which this is the first. Memory may run out at any time.
abbrev pub IsAccessFault : UserList → List ℕ → AccessError → Type 0
IsAccessFault users text TakenName = has_taken_name users ≡ true
IsAccessFault users text NotUtf8 = (has_taken_name users ≡ false) × IsNoText text
IsAccessFault users text (Line number fault) =
    (has_taken_name users ≡ false) × All (All IsUtf8) (lines_of text)
    × HasFirstFault users (lines_of text) [] (lines_of text) number fault
IsAccessFault users text Memory = Unit {0}

-- ---- what the parts of the text's reader say

-- it stops at a fault, for which this holds, or for want of memory
abbrev pub IfFault : (Fault → Type 0) → Stop → Type 0
IfFault P (AtFault fault) = P fault
IfFault P OutOfMemory = Unit {0}

-- the fault is that the word is no path that may be granted
abbrev pub IsPathFault : List ℕ → Fault → Type 0
IsPathFault word (BadPath error) = IsBadPath word error
IsPathFault word _ = ⊥

-- the fault is that the word is no user's name
abbrev pub NamesNoUser : List ℕ → Fault → Type 0
NamesNoUser word (NoUser text) = string_bytes text ≡ word
NamesNoUser word _ = ⊥

-- the fault is that the word is no right
abbrev pub NamesNoRight : List ℕ → Fault → Type 0
NamesNoRight word (NoRight text) = string_bytes text ≡ word
NamesNoRight word _ = ⊥

-- the fault is that the word is no group
abbrev pub NamesNoGroup : List ℕ → Fault → Type 0
NamesNoGroup word (NoGroup text) = string_bytes text ≡ word
NamesNoGroup word _ = ⊥

-- the fault is that a line before says who is in the group
abbrev pub NamesDoubleGroup : List ℕ → Fault → Type 0
NamesDoubleGroup word (DoubleGroup text) = string_bytes text ≡ word
NamesDoubleGroup word _ = ⊥

-- the fault is that the word is no number
abbrev pub NamesBadNumber : List ℕ → Fault → Type 0
NamesBadNumber word (BadNumber text) = string_bytes text ≡ word
NamesBadNumber word _ = ⊥

-- the fault is that the word is one too many
abbrev pub NamesTooMany : List ℕ → Fault → Type 0
NamesTooMany word (TooMany text) = string_bytes text ≡ word
NamesTooMany word _ = ⊥

-- some of these words isn't UTF-8, or memory ran out
abbrev pub IsWordsFault : Words → AccessError → Type 0
IsWordsFault words NotUtf8 = ¬ All IsUtf8 words
IsWordsFault words Memory = Unit {0}
IsWordsFault words _ = ⊥

-- some word of the text isn't UTF-8, or memory ran out
abbrev pub IsLinesFault : List ℕ → AccessError → Type 0
IsLinesFault text NotUtf8 = IsNoText text
IsLinesFault text Memory = Unit {0}
IsLinesFault text _ = ⊥

-- a line of these is at fault, of which this is the first; or memory ran out
abbrev pub IsGrantsFault : UserList → Lines → AccessError → Type 0
IsGrantsFault users lines (Line number fault) = HasFirstFault users lines [] lines number fault
IsGrantsFault users lines Memory = Unit {0}
IsGrantsFault users lines _ = ⊥

-- the error of a text whose line with this number can't be read
abbrev pub error_at : ℕ → Stop → AccessError
error_at number (AtFault fault) = Line number fault
error_at number OutOfMemory = Memory

-- ---- what a line says

-- what a good line of a text says, of whose lines these are before it: what it grants, where it
-- doesn't limit anything, or its limit
abbrev pub Says : UserList → Lines → Lines → Words → Said → Type 0
Says users lines before line (Granted grants) =
    (¬ BeginsLimit line) × IsRulesLine users lines before line grants.items
Says users lines before line (Limited l) = IsLimitLine line l

-- the grants of a line that says this
abbrev pub granted_by : Said → List Grant
granted_by (Granted grants) = grants.items
granted_by (Limited l) = []

-- the limits of a line that says this: one at most
abbrev pub limited_by : Said → List Limit
limited_by (Granted grants) = []
limited_by (Limited l) = l ∷ []

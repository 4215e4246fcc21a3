-- The fields of a request that say which part of a file is wanted, and on what condition (RFC 9110, sections 13 and 14).
use Rattle.std.specs.Prelude.{ℕ, ◌≡◌, ◌⊎◌, ◌&&◌, nat_lt, nat_eq, Bool, true, false, not, List, [], ◌∷◌, IsSomeAnd, length, if◌then◌else◌, Option, Some, None, option_and_then}
use Rattle.std.specs.List.{list_any}
use Rattle.http_header.specs.FieldValue.{FieldValue}
use Rattle.httpdate.specs.Date.{unix_secs, parse_secs, IsDateText}
use Rattle.httpdate.specs.declared.date.HttpDate.{HttpDate}
use Rattle.dav_headers.specs.Value.{only_text, Decodes}
use Rattle.dav_headers.specs.ETag.{EntityTag, IsETag, is_strong_match, is_weak_match}
use Rattle.dav_headers.specs.ETagList.{IsTagList, TagList, star, tags}
use Rattle.dav_headers.specs.UpdateRange.{IsUpdateRange}
use Rattle.dav_headers.specs.declared.range.XUpdateRange.{XUpdateRange}
use Rattle.dav_headers.specs.declared.range.XUpdateRange.TheVariants.{FromTo, AllFrom, Last, Append}
use Rattle.dav_presented.specs.declared.parts.range.Spec.{Spec}
use Rattle.dav_presented.specs.declared.parts.verdict.Verdict.{Verdict}
use Rattle.dav_presented.specs.Verdict.{IsWithinBody}
use Rattle.dav_presented.specs.Parts.{status_of, content_range_of, body_of}
use Rattle.dav_presented.specs.declared.parts.verdict.Conditions.{Conditions}
use Rattle.dav_presented.specs.declared.parts.range.Spec.TheVariants.{From, Between, Suffix}

-- ---- one field

-- The field has one value, and it is the text of a date, so many seconds after 1970 began, in one of the three formats (RFC 9110, section
-- 5.6.7).
abbrev pub IsDate : List FieldValue → ℕ → Type 0
IsDate values secs = IsSomeAnd (only_text values) (λ text. (d : HttpDate) × IsDateText text d × (unix_secs d ≡ secs))

-- The moment that the only value of a field tells, where it is a date, as a function (RFC 9110, section 5.6.7).
abbrev pub date_of : List FieldValue → Option ℕ
date_of values = option_and_then parse_secs (only_text values)

-- What one range says: `5-9`, `5-` or `-5`; none where it ends before it begins (RFC 9110, section 14.1.1), and of `append`, which isn't
-- one.
abbrev pub spec_of : XUpdateRange → Option Spec
spec_of (FromTo first last) = if nat_lt last first then None else Some (Between first last)
spec_of (AllFrom first) = Some (From first)
spec_of (Last count) = Some (Suffix count)
spec_of Append = None

-- The field has one value, and it is `bytes=` and this range (RFC 9110, section 14.2): the grammar is that of X-Update-Range. Several
-- ranges and other units are read as no range, as section 14.2 allows.
abbrev pub IsRange : List FieldValue → Spec → Type 0
IsRange values spec = (range : XUpdateRange) × IsUpdateRange values range × (spec_of range ≡ Some spec)

-- ---- conditions on a file that has this tag, if it has one

-- Whether If-None-Match names the file by the weak comparison (RFC 9110, section 13.1.2).
abbrev pub names_weakly : Option TagList → Option EntityTag → Bool
names_weakly None tag = false
names_weakly (Some star) tag = true
names_weakly (Some (tags ts)) None = false
names_weakly (Some (tags ts)) (Some tag) = list_any (λ t. is_weak_match t tag) ts

-- Whether a tag is the file's by the strong comparison (RFC 9110, section 8.8.3.2).
abbrev pub is_its_tag : EntityTag → Option EntityTag → Bool
is_its_tag wanted None = false
is_its_tag wanted (Some tag) = is_strong_match wanted tag

-- Whether a date is that of the file's last change, which was before the second in which the request came: in that second the file may
-- change once more, and its date would be the same (RFC 9110, section 8.8.2.2).
abbrev pub is_its_date : Option ℕ → ℕ → ℕ → Bool
is_its_date None modified moment = false
is_its_date (Some date) modified moment = nat_eq date modified && nat_lt modified moment

-- Whether a field has no values, and so is absent (RFC 9110, section 5.3).
abbrev pub is_absent : List FieldValue → Bool
is_absent [] = true
is_absent (v ∷ vs) = false

-- What If-None-Match says of the file: what is no list of tags names none (RFC 9110, section 13.1.2).
abbrev pub NamesTag : List FieldValue → Option EntityTag → Bool → Type 0
NamesTag values tag names = (l : Option TagList) × Decodes IsTagList values l × (names ≡ names_weakly l tag)

-- What If-Range says of the file, where the request came at this moment: a part may be sent where it is absent; where it is a tag, if
-- that is the file's by the strong comparison; else if it is exactly the date of the last change, in a second before this one (RFC 9110,
-- section 13.1.5).
abbrev pub MayBePart : List FieldValue → Option EntityTag → ℕ → ℕ → Bool → Type 0
MayBePart [] tag modified moment may = may ≡ true
MayBePart (v ∷ vs) tag modified moment may =
    ((wanted : EntityTag) × IsETag (v ∷ vs) wanted × (may ≡ is_its_tag wanted tag))
    ⊎ (((e : EntityTag) → ¬ IsETag (v ∷ vs) e) × ((date : Option ℕ) × Decodes IsDate (v ∷ vs) date × (may ≡ is_its_date date modified moment)))

-- ---- all fields

-- What the fields of a request, which came at this moment, ask of a file with this tag, if it has one, and with this date of its last
-- change; each field by all its values (RFC 9110, sections 13.1 and 14.2).
pub record AreConditions (get : Bool) (if_match if_none_match if_modified_since if_unmodified_since if_range ranges : List FieldValue) (tag : Option EntityTag) (modified moment : ℕ) (c : Conditions) : Type 0 where
  pub is_get : c.is_get ≡ get
  pub has_match : c.has_match ≡ not (is_absent if_match)
  pub has_none_match : c.has_none_match ≡ not (is_absent if_none_match)
  pub names_tag : NamesTag if_none_match tag c.names_tag
  pub modified_since : Decodes IsDate if_modified_since c.modified_since
  pub unmodified_since : Decodes IsDate if_unmodified_since c.unmodified_since
  pub may_be_part : MayBePart if_range tag modified moment c.may_be_part
  pub range : Decodes IsRange ranges c.range

-- What is sent of a file with these bytes by a verdict: its status, Content-Range and body, and that a part lies within the bytes
-- (RFC 9110, sections 14.4 and 15).
pub record IsSent (v : Verdict) (bytes : List ℕ) (sent_status : ℕ) (sent_range : Option (List ℕ)) (sent_body : List ℕ) : Type 0 where
  pub status : sent_status ≡ status_of v
  pub content_range : sent_range ≡ content_range_of v (length bytes)
  pub body : sent_body ≡ body_of v bytes
  pub within : IsWithinBody (length bytes) v

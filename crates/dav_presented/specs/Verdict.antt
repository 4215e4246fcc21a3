-- What a 200 to GET or HEAD is sent as, by the conditions that the machine doesn't judge (RFC 9110, sections 13.1.3 to 13.1.5, 13.2.2 and
-- 14.2).
use Rattle.std.specs.Prelude.{⊤, ℕ, ◌≤◌, ◌<◌, Bool, false, not, ◌&&◌, Option, Some, None, nat_lt, if◌then◌else◌}
use Rattle.dav_presented.specs.declared.parts.range.Part.{Part}
use Rattle.dav_presented.specs.declared.parts.range.Part.TheVariants.{Whole, Bytes, Unsatisfiable}
use Rattle.dav_presented.specs.declared.parts.range.Spec.{Spec}
use Rattle.dav_presented.specs.declared.parts.verdict.Conditions.{Conditions}
use Rattle.dav_presented.specs.declared.parts.verdict.Verdict.{Verdict}
use Rattle.dav_presented.specs.declared.parts.verdict.Verdict.TheVariants as verdict
use Rattle.dav_presented.specs.Range.{part_of}

-- Whether the file was changed after this moment, if there is one (RFC 9110, section 13.1.4).
abbrev pub is_later : ℕ → Option ℕ → Bool
is_later modified None = false
is_later modified (Some moment) = nat_lt moment modified

-- Whether the file wasn't changed after this moment, if there is one (RFC 9110, section 13.1.3).
abbrev pub is_not_later : ℕ → Option ℕ → Bool
is_not_later modified None = false
is_not_later modified (Some moment) = not (nat_lt moment modified)

-- What a part that a range asks for is sent as (RFC 9110, section 14.2).
abbrev pub shown_as : Part → Verdict
shown_as Whole = verdict.Whole
shown_as (Bytes first last) = verdict.Part first last
shown_as Unsatisfiable = verdict.Unsatisfiable

-- What is sent by a range, if there is one: a Range of GET alone counts, and only where If-Range is absent or names the representation
-- (RFC 9110, sections 13.1.5 and 14.2).
abbrev pub ranged : Conditions → ℕ → Option Spec → Verdict
ranged c len None = verdict.Whole
ranged c len (Some spec) = if c.is_get && c.may_be_part then shown_as (part_of spec len) else verdict.Whole

-- The steps of section 13.2.2 that are left where the machine has judged If-Match, and If-None-Match by the strong comparison: 412 where
-- the file was changed after If-Unmodified-Since, which counts without If-Match; 304 where If-None-Match names the file's tag by the weak
-- comparison, which is the one for it (RFC 9110, section 13.1.2); 304 where the file wasn't changed after If-Modified-Since, which counts
-- without If-None-Match; then the range.
abbrev pub verdict_of : Conditions → ℕ → ℕ → Verdict
verdict_of c modified len =
    if not c.has_match && is_later modified c.unmodified_since then verdict.Failed
    else if c.names_tag then verdict.NotModified
    else if not c.has_none_match && is_not_later modified c.modified_since then verdict.NotModified
    else ranged c len c.range

-- A part that is sent lies within so many bytes, and isn't empty (RFC 9110, section 14.4).
abbrev pub IsWithinBody : ℕ → Verdict → Type 0
IsWithinBody len verdict.Whole = ⊤
IsWithinBody len verdict.NotModified = ⊤
IsWithinBody len verdict.Failed = ⊤
IsWithinBody len (verdict.Part first last) = (first ≤ last) × (last < len)
IsWithinBody len verdict.Unsatisfiable = ⊤

-- The headers If-Match and If-None-Match (RFC 9110, sections 13.1.1 and 13.1.2).
use Rattle.std.specs.Prelude.{ℕ, ◌<◌, List, [], ◌∷◌, ◌++◌, ◌≡◌, ◌≢◌, ◌⊎◌, codes, length, map}
use Rattle.http_header.specs.FieldValue.{FieldValue}
use Rattle.dav_headers.specs.ETag.{EntityTag, IsEntityTag, tag_text}
use Rattle.dav_headers.specs.Elements.{joined, elements_of, trimmed}
use Rattle.dav_headers.specs.Value.{IsText}
use Rattle.dav_headers.specs.declared.etag_list.ETagList.{ETagList}
use Rattle.dav_headers.specs.declared.etag_list.ETagList.TheVariants as list
use Rattle.dav_headers.specs.declared.etag_list.IfRange.{IfRange}
use Rattle.dav_headers.specs.declared.etag_list.IfRange.TheVariants as range

-- what If-Match and If-None-Match name: any entity tag (`*`), or one of these (RFC 9110, section 13.1)
pub data TagList : Type 0 where
  star : TagList
  tags : List EntityTag → TagList

-- the list of tags that an `ETagList` is: its tags without capacities, or `star`
abbrev pub tag_list : ETagList → TagList
tag_list (list.Tags v) = tags v.items
tag_list list.Star = star

-- the entity tags among these list elements, in order; an element that is no entity tag is skipped
abbrev pub AreTags : List (List ℕ) → List EntityTag → Type 0
AreTags [] ts = ts ≡ []
AreTags (p ∷ ps) ts =
    (((t : EntityTag) → ¬ IsEntityTag p t) × AreTags ps ts)
    ⊎ ((t : EntityTag) × (more : List EntityTag) × IsEntityTag p t × (ts ≡ t ∷ more) × AreTags ps more)

-- What the values of If-Match or If-None-Match say, read in order, where each that is read is text. The first one that is `*` apart from
-- white space means any tag, and what follows it isn't looked at; without such a value, the list holds the tags of all values (RFC 9110,
-- sections 13.1.1 and 13.1.2).
abbrev pub ReadTags : List FieldValue → TagList → Type 0
ReadTags [] star = ⊥
ReadTags [] (tags ts) = ts ≡ []
ReadTags (v ∷ vs) star = IsText v.bytes × ((trimmed v.bytes ≡ codes "*") ⊎ ReadTags vs star)
ReadTags (v ∷ vs) (tags ts) =
    IsText v.bytes × (trimmed v.bytes ≢ codes "*")
    × ((front : List EntityTag) × (back : List EntityTag)
    × (ts ≡ front ++ back) × AreTags (elements_of v.bytes) front × ReadTags vs (tags back))

-- the header has at least one value, and the values of If-Match or If-None-Match mean this list (RFC 9110, sections 13.1.1 and 13.1.2)
abbrev pub IsTagList : List FieldValue → TagList → Type 0
IsTagList values l = (0 < length values) × ReadTags values l

-- the value of If-Match or If-None-Match that is written: `*`, or the tags with a comma and a space between them (RFC 9110, sections
-- 13.1.1 and 13.1.2)
abbrev pub tag_list_text : TagList → List ℕ
tag_list_text star = codes "*"
tag_list_text (tags ts) = joined (map (λ t. tag_text t.weak t.tag) ts)

-- the entity tag of an If-Range (RFC 9110, section 13.1.5)
abbrev pub range_tag : IfRange → EntityTag
range_tag (range.ETag t) = t

-- The media type of a file by its name (RFC 9110, section 8.3.1; the registry of media types). Nothing is guessed by a file's bytes.
use Rattle.std.specs.Prelude.{ℕ, ◌≡◌, ◌≢◌, ◌<◌, ◌-◌, ◌⊎◌, ◌++◌, ◌==◌, ◌||◌, Bool, drop, [], length, slice_index, List, ◌∷◌, map, codes, bytes_eq, if◌then◌else◌, Option, Some, None}
use Rattle.std.specs.Char.{to_ascii_lowercase}
use Rattle.std.specs.Option.{option_or}

-- The types of text of the table, by extension (RFC 9110, section 8.3.1).
abbrev pub text_type : List ℕ → Option (List ℕ)
text_type extension =
    if bytes_eq extension (codes "txt") then Some (codes "text/plain; charset=utf-8")
    else if bytes_eq extension (codes "text") then Some (codes "text/plain; charset=utf-8")
    else if bytes_eq extension (codes "log") then Some (codes "text/plain; charset=utf-8")
    else if bytes_eq extension (codes "html") then Some (codes "text/html; charset=utf-8")
    else if bytes_eq extension (codes "htm") then Some (codes "text/html; charset=utf-8")
    else if bytes_eq extension (codes "css") then Some (codes "text/css; charset=utf-8")
    else if bytes_eq extension (codes "csv") then Some (codes "text/csv; charset=utf-8")
    else if bytes_eq extension (codes "md") then Some (codes "text/markdown; charset=utf-8")
    else if bytes_eq extension (codes "markdown") then Some (codes "text/markdown; charset=utf-8")
    else if bytes_eq extension (codes "ics") then Some (codes "text/calendar; charset=utf-8")
    else if bytes_eq extension (codes "vcf") then Some (codes "text/vcard; charset=utf-8")
    else if bytes_eq extension (codes "js") then Some (codes "text/javascript; charset=utf-8")
    else if bytes_eq extension (codes "mjs") then Some (codes "text/javascript; charset=utf-8")
    else if bytes_eq extension (codes "xml") then Some (codes "application/xml")
    else if bytes_eq extension (codes "json") then Some (codes "application/json")
    else None

-- The types of images of the table, by extension (RFC 9110, section 8.3.1).
abbrev pub image_type : List ℕ → Option (List ℕ)
image_type extension =
    if bytes_eq extension (codes "png") then Some (codes "image/png")
    else if bytes_eq extension (codes "jpg") then Some (codes "image/jpeg")
    else if bytes_eq extension (codes "jpeg") then Some (codes "image/jpeg")
    else if bytes_eq extension (codes "gif") then Some (codes "image/gif")
    else if bytes_eq extension (codes "webp") then Some (codes "image/webp")
    else if bytes_eq extension (codes "svg") then Some (codes "image/svg+xml")
    else if bytes_eq extension (codes "avif") then Some (codes "image/avif")
    else if bytes_eq extension (codes "heic") then Some (codes "image/heic")
    else if bytes_eq extension (codes "heif") then Some (codes "image/heif")
    else if bytes_eq extension (codes "bmp") then Some (codes "image/bmp")
    else if bytes_eq extension (codes "tif") then Some (codes "image/tiff")
    else if bytes_eq extension (codes "tiff") then Some (codes "image/tiff")
    else if bytes_eq extension (codes "ico") then Some (codes "image/vnd.microsoft.icon")
    else None

-- The types of sound and video of the table, by extension (RFC 9110, section 8.3.1).
abbrev pub sound_type : List ℕ → Option (List ℕ)
sound_type extension =
    if bytes_eq extension (codes "mp3") then Some (codes "audio/mpeg")
    else if bytes_eq extension (codes "m4a") then Some (codes "audio/mp4")
    else if bytes_eq extension (codes "ogg") then Some (codes "audio/ogg")
    else if bytes_eq extension (codes "oga") then Some (codes "audio/ogg")
    else if bytes_eq extension (codes "opus") then Some (codes "audio/ogg")
    else if bytes_eq extension (codes "flac") then Some (codes "audio/flac")
    else if bytes_eq extension (codes "wav") then Some (codes "audio/wav")
    else if bytes_eq extension (codes "mp4") then Some (codes "video/mp4")
    else if bytes_eq extension (codes "m4v") then Some (codes "video/mp4")
    else if bytes_eq extension (codes "mov") then Some (codes "video/quicktime")
    else if bytes_eq extension (codes "webm") then Some (codes "video/webm")
    else if bytes_eq extension (codes "mkv") then Some (codes "video/matroska")
    else if bytes_eq extension (codes "avi") then Some (codes "video/vnd.avi")
    else if bytes_eq extension (codes "mpg") then Some (codes "video/mpeg")
    else if bytes_eq extension (codes "mpeg") then Some (codes "video/mpeg")
    else None

-- The types of documents of the table, by extension (RFC 9110, section 8.3.1).
abbrev pub document_type : List ℕ → Option (List ℕ)
document_type extension =
    if bytes_eq extension (codes "pdf") then Some (codes "application/pdf")
    else if bytes_eq extension (codes "rtf") then Some (codes "application/rtf")
    else if bytes_eq extension (codes "epub") then Some (codes "application/epub+zip")
    else if bytes_eq extension (codes "doc") then Some (codes "application/msword")
    else if bytes_eq extension (codes "xls") then Some (codes "application/vnd.ms-excel")
    else if bytes_eq extension (codes "ppt") then Some (codes "application/vnd.ms-powerpoint")
    else if bytes_eq extension (codes "docx") then Some (codes "application/vnd.openxmlformats-officedocument.wordprocessingml.document")
    else if bytes_eq extension (codes "xlsx") then Some (codes "application/vnd.openxmlformats-officedocument.spreadsheetml.sheet")
    else if bytes_eq extension (codes "pptx") then Some (codes "application/vnd.openxmlformats-officedocument.presentationml.presentation")
    else if bytes_eq extension (codes "odt") then Some (codes "application/vnd.oasis.opendocument.text")
    else if bytes_eq extension (codes "ods") then Some (codes "application/vnd.oasis.opendocument.spreadsheet")
    else if bytes_eq extension (codes "odp") then Some (codes "application/vnd.oasis.opendocument.presentation")
    else None

-- The types of archives and fonts of the table, by extension (RFC 9110, section 8.3.1).
abbrev pub packed_type : List ℕ → Option (List ℕ)
packed_type extension =
    if bytes_eq extension (codes "zip") then Some (codes "application/zip")
    else if bytes_eq extension (codes "gz") then Some (codes "application/gzip")
    else if bytes_eq extension (codes "tar") then Some (codes "application/x-tar")
    else if bytes_eq extension (codes "7z") then Some (codes "application/x-7z-compressed")
    else if bytes_eq extension (codes "bz2") then Some (codes "application/x-bzip2")
    else if bytes_eq extension (codes "xz") then Some (codes "application/x-xz")
    else if bytes_eq extension (codes "zst") then Some (codes "application/zstd")
    else if bytes_eq extension (codes "wasm") then Some (codes "application/wasm")
    else if bytes_eq extension (codes "woff") then Some (codes "font/woff")
    else if bytes_eq extension (codes "woff2") then Some (codes "font/woff2")
    else if bytes_eq extension (codes "ttf") then Some (codes "font/ttf")
    else if bytes_eq extension (codes "otf") then Some (codes "font/otf")
    else None

-- The type of a name's extension, which is in lower case; none where the table hasn't it (RFC 9110, section 8.3.1).
abbrev pub type_by : List ℕ → Option (List ℕ)
type_by extension = option_or (text_type extension) (option_or (image_type extension) (option_or (sound_type extension) (option_or (document_type extension) (packed_type extension))))

-- No dot, 46, is in the text.
abbrev pub IsWithoutDot : List ℕ → Type 0
IsWithoutDot text = (i : ℕ) → i < length text → slice_index text i ≢ 46

-- What is after the last dot of a text; the text itself, where it has none.
abbrev pub IsLastPart : List ℕ → List ℕ → Type 0
IsLastPart text last = IsWithoutDot last × ((text ≡ last) ⊎ ((stem : List ℕ) × (text ≡ stem ++ 46 ∷ last)))

-- What is after the last dot of a name; none where it has no dot.
abbrev pub IsExtension : List ℕ → Option (List ℕ) → Type 0
IsExtension name None = IsWithoutDot name
IsExtension name (Some extension) = (stem : List ℕ) × (name ≡ stem ++ 46 ∷ extension) × IsWithoutDot extension

-- The type by an extension, whatever the case of its ASCII letters is; none without an extension (RFC 9110, section 8.3.1).
abbrev pub type_after : Option (List ℕ) → Option (List ℕ)
type_after None = None
type_after (Some extension) = type_by (map to_ascii_lowercase extension)

-- The type of a file of that name: by what is after its last dot (RFC 9110, section 8.3.1).
abbrev pub IsTypeOf : List ℕ → Option (List ℕ) → Type 0
IsTypeOf name found = (extension : Option (List ℕ)) × IsExtension name extension × (found ≡ type_after extension)

-- What is after the last dot of a name, as a function.
abbrev pub extension_of : List ℕ → Option (List ℕ)
extension_of [] = None
extension_of (b ∷ bs) = option_or (extension_of bs) (if b == 46 then Some bs else None)

-- The type of a file of that name, as a function (RFC 9110, section 8.3.1).
abbrev pub type_of : List ℕ → Option (List ℕ)
type_of name = type_after (extension_of name)

-- ---- what a browser runs

-- What ends type and subtype where parameters follow: a semicolon, or a blank before it (RFC 9110, sections 5.6.6 and 8.3.1).
abbrev pub ends_type : ℕ → Bool
ends_type b = b == 59 || b == 32 || b == 9

-- Type and subtype of a media type in lower case, without its parameters: the case of its letters tells nothing (RFC 9110, section 8.3.1).
abbrev pub essence_of : List ℕ → List ℕ
essence_of [] = []
essence_of (b ∷ bs) = if ends_type b then [] else to_ascii_lowercase b ∷ essence_of bs

-- The last four bytes of a text, or the text where it has no more.
abbrev pub suffix_of : List ℕ → List ℕ
suffix_of essence = drop (length essence - 4) essence

-- Whether type and subtype are those of XML: `text/xml`, `application/xml`, or a subtype that ends in `+xml` (RFC 7303, sections 4.1 and
-- 4.2).
abbrev pub is_xml : List ℕ → Bool
is_xml essence = bytes_eq essence (codes "text/xml") || bytes_eq essence (codes "application/xml") || bytes_eq (suffix_of essence) (codes "+xml")

-- Whether a browser runs the scripts that a document of this media type holds, as those of the server that sent it: the type is one of HTML
-- or of XML, in which elements of XHTML and SVG may stand (MIME Sniffing, section 4.6; RFC 7303, section 10).
abbrev pub acts : List ℕ → Bool
acts kind = bytes_eq (essence_of kind) (codes "text/html") || is_xml (essence_of kind)

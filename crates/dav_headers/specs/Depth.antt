-- The header Depth (RFC 4918, section 10.2).
use Rattle.std.specs.Prelude.{ℕ, List, ◌≡◌, ◌⊎◌, Option, Some, None, IsSomeAnd, codes}
use Rattle.http_header.specs.FieldValue.{FieldValue}
use Rattle.dav_headers.specs.Value.{only_text}
use Rattle.dav_headers.specs.declared.depth.Depth.{Depth}
use Rattle.dav_headers.specs.declared.depth.Depth.TheVariants.{Default, Zero, One, Infinity}

-- the values of Depth that mean each depth; `Default`, for a header that is left out, has none (RFC 4918, section 10.2)
abbrev pub IsDepthText : List ℕ → Depth → Type 0
IsDepthText text Default = ⊥
IsDepthText text Zero = text ≡ codes "0"
IsDepthText text One = text ≡ codes "1"
IsDepthText text Infinity = (text ≡ codes "infinity") ⊎ (text ≡ codes "Infinity")

-- the header has one value, and it means this depth (RFC 4918, section 10.2)
abbrev pub IsDepth : List FieldValue → Depth → Type 0
IsDepth values depth = IsSomeAnd (only_text values) (λ text. IsDepthText text depth)

-- the value that is written for a depth; none for `Default`, which is written by leaving the header out (RFC 4918, section 10.2)
abbrev pub depth_text : Depth → Option (List ℕ)
depth_text Default = None
depth_text Zero = Some (codes "0")
depth_text One = Some (codes "1")
depth_text Infinity = Some (codes "Infinity")

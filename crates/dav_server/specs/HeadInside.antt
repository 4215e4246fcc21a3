-- What holds of the parts of a head that was read.
use Rattle.std.specs.Prelude.{ℕ, ◌≤◌, List, length, map, take, All}
use Rattle.httparse.specs.declared.spans.HeaderSpan.{HeaderSpan}
use Rattle.httparse.specs.Spans.{IsHeaderWithin, header_bytes}
use Rattle.dav_server.specs.declared.head.RequestView.TheInside.{Inside}
use Rattle.dav_server.specs.Head.{AreFields}

-- each of these headers lies within the bytes of the head, and is a name and a value of HTTP's grammar
pub record AreHeadersOf (head : List ℕ) (headers : List HeaderSpan) : Type 0 where
  pub within : All (IsHeaderWithin (length head)) headers
  pub fields : AreFields (map (header_bytes head) headers)

-- what holds of a head that was read: it has at most 64 headers, and they lie within its bytes
abbrev pub IsView : Inside → Type 0
IsView v = (v.count ≤ 64) × AreHeadersOf v.head.now (take v.count v.headers)

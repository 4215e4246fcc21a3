use Rattle.std.proofs.Common.{◌==◌, ◌∙◌, sym, string_bytes}
use Rattle.std.specs.Cmp.Lexicographic.{pointwise}
use Rattle.std.specs.Cmp.Derive.Mapped.{pointwise-map}
use Rattle.dav_headers.proofs.language.ContentLanguagePartialEq.eq.Goals as goal

pub returns : goal.returns
returns c =
    rw (← c.self.view_is, ← c.other.view_is)
    (c.eq.ensures ∙ sym (pointwise-map string_bytes (pointwise ◌==◌) c.self.inside.items.items c.other.inside.items.items))

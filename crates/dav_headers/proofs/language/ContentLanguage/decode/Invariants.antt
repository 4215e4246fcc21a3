use Rattle.std.proofs.Common.{◌≡◌, take, map, string_bytes}
use Rattle.std.specs.List.{flat_map}
use Rattle.dav_headers.specs.Elements.{elements_of}
use Rattle.dav_headers.proofs.language.ContentLanguage.decode.Given as goal

abbrev pub invariant-loop-value : goal.invariant-loop-value
invariant-loop-value l = map string_bytes l.items.items ≡ flat_map (λ v. elements_of v.bytes) (take l.value-index l.values)

use Rattle.std.proofs.Common.{◌≡◌, false, take}
use Rattle.std.specs.List.{list_any}
use Rattle.dav_live.specs.Words.{is_of_content}
use Rattle.dav_live.proofs.words.has_content_field.Given as goal

-- none so far
abbrev pub invariant-loop-header : goal.invariant-loop-header
invariant-loop-header l = list_any (λ h. is_of_content h.0) (take l.header-index l.headers) ≡ false

use Rattle.std.proofs.Common.{◌++◌, ◌∙◌, List, ℕ, ap, codes}
use Rattle.dav_core.specs.Path.{full_bytes}
use Rattle.dav_core.specs.UrlText.{path_text}
use Rattle.dav_seen.proofs.ReplyLemmas.{three_parts}
use Rattle.dav_seen.proofs.reading.member_head.Goals as goal

pub returns : goal.returns
returns c =
    three_parts (codes "PROPFIND ") (path_text (full_bytes c.args.path.now)) (codes " HTTP/1.1\r\nDepth: 0\r\n\r\n")
    c.new-head.ensures.items c.in_ok-extend_from_slice.ensures.items
    (c.in_ok-extend_from_slice-2.ensures.items ∙ ap (λ (x : List ℕ). c.extend_from_slice.new.self.items ++ x) (c.as_bytes.ensures.value ∙ c.in_ok-address.ensures))
    c.in_ok-extend_from_slice-3.ensures.items

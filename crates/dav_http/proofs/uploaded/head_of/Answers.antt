use Rattle.std.proofs.Common.{◌++◌, ◌∙◌, List, Option, ℕ, ap, codes}
use Rattle.std.specs.List.{slice_get}
use Rattle.dav_server.specs.Head.{values_of}
use Rattle.dav_http.specs.Uploaded.{if_line}
use Rattle.dav_http.proofs.UploadedLemmas.{five_parts}
use Rattle.dav_http.proofs.uploaded.head_of.Goals as goal

pub returns : goal.returns
returns c =
    five_parts (codes "PROPPATCH ") c.args.head.now.target (codes " HTTP/1.1\r\n") (if_line (slice_get (values_of (codes "if") c.args.head.now.fields) 0)) (codes "\r\n")
    c.new-text.ensures.items c.in_ok-extend_from_slice.ensures.items
    (c.in_ok-extend_from_slice-2.ensures.items ∙ ap (λ (x : List ℕ). c.extend_from_slice.new.self.items ++ x) (c.as_bytes.ensures.value ∙ c.target.ensures))
    c.in_ok-extend_from_slice-3.ensures.items
    (c.in_ok-put_if.ensures ∙ ap (λ (o : Option (List ℕ)). c.extend_from_slice-3.new.self.items ++ if_line o) c.value.ensures)
    c.in_ok-extend_from_slice-4.ensures.items

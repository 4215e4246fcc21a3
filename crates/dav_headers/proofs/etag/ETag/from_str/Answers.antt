use Rattle.dav_headers.specs.ETag.{IsEntityTag}
use Rattle.dav_headers.proofs.ReadingLemmas.{out_of_memory}
use Rattle.dav_headers.proofs.etag.ETag.from_str.Goals as goal

pub returns-in_err-tag : goal.returns-in_err-tag
returns-in_err-tag c = out_of_memory (λ x. x) IsEntityTag c.args.text.now _ c.from_residual.ensures.1 (_, c.in-Some.ensures.found)

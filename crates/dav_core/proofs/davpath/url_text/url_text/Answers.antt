use Rattle.dav_core.proofs.UrlLemmas.{encoded}
use Rattle.dav_core.proofs.davpath.url_text.url_text.Goals as goal

pub returns : goal.returns
returns c =
    rw (c.in_ok-append_to.ensures.ok, c.new-text.ensures.bytes, c.percent_encode.ensures.text) (encoded c.args.bytes.now)

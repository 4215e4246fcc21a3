use Rattle.std.proofs.Common.{◌∙◌}
use Rattle.dav_headers.specs.ContentRange.{content_range_text}
use Rattle.dav_headers.proofs.RangeLemmas.{content_range_visible}
use Rattle.dav_headers.proofs.TextLemmas.{written_is, written_unless}
use Rattle.dav_headers.proofs.range.ContentRange.encode.Goals as goal

pub returns-clause-ok : goal.returns-clause-ok
returns-clause-ok c = written_is c.written.result c.deref.result.now (content_range_text c.args.self.now.bounds c.args.self.now.length) (c.deref.ensures ∙ c.in_ok-text.ensures) c.written.ensures

pub returns-clause-err : goal.returns-clause-err
returns-clause-err c =
    written_unless c.written.result c.deref.result.now (content_range_text c.args.self.now.bounds c.args.self.now.length) (c.deref.ensures ∙ c.in_ok-text.ensures)
    (content_range_visible c.args.self.now.bounds c.args.self.now.length) c.written.ensures

use Rattle.std.proofs.lemmas.Bool.{false≢true}
use Rattle.http_header.specs.FieldValue.{IsVisibleAscii}
use Rattle.dav_headers.proofs.NumberLemmas.{number_visible}
use Rattle.dav_headers.proofs.length.length_of.Goals as goal

pub returns-in-Err : goal.returns-in-Err
returns-in-Err c = λ n h.
    let visible : IsVisibleAscii c.args.value.now.bytes = number_visible c.args.value.now.bytes n h in
    let hidden = λ (h : IsVisibleAscii c.args.value.now.bytes). false≢true (c.in-Err.ensures.succeeds.1 h) in
    hidden visible

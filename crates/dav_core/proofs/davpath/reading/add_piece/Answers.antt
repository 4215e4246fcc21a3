use Rattle.std.proofs.Common.{◌≡◌, ◌++◌, ◌∷◌, length, arith}
use Rattle.std.proofs.lemmas.Grind.{common_steps}
use Rattle.percent_encoding.specs.Percent.{percent_decode}
use Rattle.dav_core.specs.Path.{IsName, IsBlank}
use Rattle.dav_core.proofs.BufferLemmas.{back_of, adds_name, adds_blank}
use Rattle.dav_core.proofs.davpath.reading.add_piece.Goals as goal

pub returns-in-Name : goal.returns-in-Name
returns-in-Name c = λ ps k.
    let after : c.append_to.new.out.items ≡ c.args.buf.now.items ++ 47 ∷ percent_decode c.args.piece.now = grind (arith, common_steps) in
    let start : c.len-start.result ≡ length c.args.buf.now.items = omega (arith, c.args.buf.now.ok.0) in
    let piece = back_of c.args.buf.now.items _ c.append_to.new.out.items c.len-start.result after start in
    let named : IsName (percent_decode c.args.piece.now) = rw (c.deref.ensures.value, piece) at c.in-Name.ensures in
    adds_name ps c.args.buf.now.items (percent_decode c.args.piece.now) _ after named k

pub returns-in-Blank : goal.returns-in-Blank
returns-in-Blank c = λ ps k.
    let after : c.append_to.new.out.items ≡ c.args.buf.now.items ++ 47 ∷ percent_decode c.args.piece.now = grind (arith, common_steps) in
    let start : c.len-start.result ≡ length c.args.buf.now.items = omega (arith, c.args.buf.now.ok.0) in
    let piece = back_of c.args.buf.now.items _ c.append_to.new.out.items c.len-start.result after start in
    let blank : IsBlank (percent_decode c.args.piece.now) = rw (c.deref.ensures.value, piece) at c.in-Blank.ensures in
    rw c.truncate.ensures.items (adds_blank ps c.args.buf.now.items (percent_decode c.args.piece.now) _ c.len-start.result after start blank k)

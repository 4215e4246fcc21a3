use Rattle.std.proofs.Common.{◌++◌, arith, ap, ◌∙◌}
use Rattle.std.proofs.lemmas.Slice.{between_is}
use Rattle.dav_xml.specs.Spelling.{escaped}
use Rattle.dav_xml.proofs.Escaping.{referred, stays}
use Rattle.dav_xml.proofs.writing.push_escaped.Goals as goal
use Rattle.dav_xml.proofs.writing.push_escaped.Goals.{in-Some+in_ok-extend_from_slice+in_ok-extend_from_slice-2, in_default}

pub loop-at-preserved : goal.loop-at-preserved
loop-at-preserved c =
    let bytes = c.as_bytes-bytes.result.now in
    let attribute = c.args.attribute in
    let all = c.args.out.now.items ++ escaped attribute bytes in
    let before = c.loop-at.invariant in
    elim c.match-reference.branch [
      | in-Some+in_ok-extend_from_slice+in_ok-extend_from_slice-2 w ↦ (
        omega (arith, w.from-is),
        referred attribute c.loop-at.out.items w.extend_from_slice.new.self.items c.match-reference.out.items all bytes w.as_bytes.result.now c.loop-at.from c.match-reference.from c.loop-at.at
            w.from-is c.loop-at-test.true (w.as_bytes.ensures.value ∙ w.in-Some.ensures)
            (w.in_ok-extend_from_slice.ensures.items ∙ ap (λ xs. c.loop-at.out.items ++ xs) (between_is bytes c.loop-at.from c.loop-at.at))
            (ap (λ v. v.items) w.out-is ∙ w.in_ok-extend_from_slice-2.ensures.items) before.1,
      )
      | in_default w ↦ (
        omega (arith, w.from-is, before.0),
        stays attribute c.loop-at.out.items c.match-reference.out.items all bytes c.loop-at.from c.match-reference.from c.loop-at.at
            (ap (λ v. v.items) w.out-is) w.from-is before.0 c.loop-at-test.true w.in_default.ensures before.1,
      )
    ]

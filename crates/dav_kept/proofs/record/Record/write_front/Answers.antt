use Rattle.std.proofs.Common.{◌≡◌, ◌++◌, List, ℕ, length, ap, subst, ◌∙◌}
use Rattle.std.specs.Int.{w16, w64, to_be_bytes}
use Rattle.std.specs.Option.{option_copied}
use Rattle.dav_kept.specs.Records.{RecordView, optional_bytes, record_bytes, sized_bytes}
use Rattle.dav_kept.proofs.RecordLemmas.{joins}
use Rattle.dav_kept.proofs.record.Record.write_front.Goals as goal

pub returns : goal.returns
returns c =
    let r = c.self.inside in
    let body = r.body.now in
    let moment = c.in_ok-extend_from_slice.ensures.items ∙ ap (λ (l : List ℕ). c.args.out.now.items ++ l) c.to_be_bytes.ensures in
    let status = c.in_ok-extend_from_slice-2.ensures.items ∙ ap (λ (l : List ℕ). c.extend_from_slice.new.self.items ++ l) c.to_be_bytes-2.ensures in
    let len = c.in_ok-extend_from_slice-3.ensures.items ∙ ap (λ (l : List ℕ). c.put.new.out.items ++ l) c.to_be_bytes-3.ensures in
    subst (λ (v : RecordView). c.extend_from_slice-3.new.self.items ++ v.request.body ≡ c.args.out.now.items ++ record_bytes v) c.self.view_is
    (joins _ _ (to_be_bytes w64 (length body)) body len
    ∙ joins _ _ (sized_bytes r.head.now) _ c.in_ok-put.ensures
    ∙ joins _ _ (optional_bytes (option_copied r.token)) _ c.in_ok-put_option-2.ensures
    ∙ joins _ _ (optional_bytes (option_copied r.principal)) _ c.in_ok-put_option.ensures
    ∙ joins _ _ (to_be_bytes w16 r.status) _ status
    ∙ joins _ _ (to_be_bytes w64 r.moment) _ moment)

use Rattle.dav_kept.proofs.KeptLemmas.{four_parts}
use Rattle.std.proofs.Common.{◌≡◌, ◌++◌, List, ℕ, ◌∙◌, ap}
use Rattle.dav_kept.specs.Kept.{filled}
use Rattle.dav_kept.specs.Records.{sized_bytes}
use Rattle.dav_kept.proofs.kept.Kept.beginning.Goals as goal

pub returns-then-branch : goal.returns-then-branch
returns-then-branch g c =
    let preface = c.in_ok-put.ensures ∙ ap (λ (l : List ℕ). l ++ sized_bytes c.deref-2.result.now) c.new-block.ensures.items ∙ ap sized_bytes (c.deref-2.ensures.value ∙ c.in_ok-preface.ensures ∙ ap (λ (l : List ℕ). filled 4096 (l, c.args.self.now.has_zeros)) c.deref.ensures.value) in
    let saved = c.in_ok-save.ensures c.if-branch.true in (
      four_parts _ _ _ _ _ _ _ _ preface
          (c.in_ok-extend_from_slice.ensures.items ∙ ap (λ (l : List ℕ). c.put.new.out.items ++ l) c.to_be_bytes.ensures)
          (c.in_ok-extend_from_slice-2.ensures.items ∙ ap (λ (l : List ℕ). c.extend_from_slice.new.self.items ++ l) c.to_be_bytes-2.ensures)
          saved.0,
      saved.1,
    )

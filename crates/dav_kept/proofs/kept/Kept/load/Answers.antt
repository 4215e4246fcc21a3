use Rattle.std.proofs.Common.{◌++◌, List, ℕ, ap, ◌∙◌}
use Rattle.std.specs.Int.{w64, to_be_bytes}
use Rattle.dav_kept.specs.Kept.{Holding}
use Rattle.dav_kept.proofs.KeptLemmas.{holding_none}
use Rattle.dav_kept.proofs.kept.Kept.load.Goals as goal

pub returns-clause-loaded : goal.returns-clause-loaded
returns-clause-loaded g c =
    let H = g.row.H.Denot in
    let none = ap (λ (h : Holding H). h.batch) c.requires in (
      record { tokens = c.in-Some.tokens; latest = c.in-Some-number_in.latest; saved = c.in-Some-number_in.saved.now },
      c.in-Some.ensures ∙ ap (λ (l : List ℕ). to_be_bytes w64 c.in-Some.tokens ++ l) c.in-Some-number_in.ensures,
      (holding_none c.load.new.self _ c.in-Some.tokens c.in-Some-number_in.latest none, c.in-Ok.ensures),
    )

use Rattle.std.proofs.Common.{◌≡◌, ◌∙◌, ℕ, List, refl, subst, sym}
use Rattle.std.specs.Str.{IsTrimAsciiStart}
use Rattle.dav_follow.specs.Following.{elsewhere, here}
use Rattle.dav_follow.proofs.following.FollowingAnswerer.answer.Goals as goal

pub returns-in_ok-say : goal.returns-in_ok-say
returns-in_ok-say g c =
    let o = c.only_reads.ensures in
    let said = c.in_ok-say.ensures in
    here o.0 c.answer.new.response (subst (λ (b : List ℕ). IsTrimAsciiStart b o.0) c.as_slice.ensures o.1) (sym o.2 ∙ c.if-only_reads.true) c.in_ok-answer.ensures
    (record { fields = said.fields; status = said.status; body = said.body }) refl

pub returns-in_ok-fill_elsewhere : goal.returns-in_ok-fill_elsewhere
returns-in_ok-fill_elsewhere g c =
    let o = c.only_reads.ensures in
    elsewhere o.0 (subst (λ (b : List ℕ). IsTrimAsciiStart b o.0) c.as_slice.ensures o.1) (sym o.2 ∙ c.if-only_reads.false) c.in_ok-fill_elsewhere.ensures refl

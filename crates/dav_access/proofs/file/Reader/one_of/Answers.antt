use Rattle.std.proofs.Common.{◌≡◌, ◌∙◌, Some, None, sym, ap}
use Rattle.std.specs.Option.{option_copied}
use Rattle.dav_access.specs.RulesText.{each_user, everybody}
use Rattle.dav_access.proofs.RulesTextLemmas.{user_meant}
use Rattle.dav_access.proofs.file.Reader.one_of.Goals as goal

pub returns-in-everybody : goal.returns-in-everybody
returns-in-everybody c = everybody c.in-everybody.is

pub returns-in-Some : goal.returns-in-Some
returns-in-Some c = each_user c.in-users.is (λ e. let same : Some c.in-Some.field-0.now ≡ None = sym (ap option_copied c.in-Some.is) ∙ e in cc)

pub returns-in-Some-2 : goal.returns-in-Some-2
returns-in-Some-2 c =
    let known = rw c.in-Some-2.is at c.in_ok-user-in_default.ensures in
    user_meant (option_copied c.args.self.now.users) c.args.self.now.lines.now c.args.word.now c.in-Some-2.user
    (record { not_everybody = c.in_default.not-everybody; not_users = c.in_default.not-users; no_group = c.requires }) known.0 known.1

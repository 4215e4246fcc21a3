use Rattle.std.proofs.Common.{◌<◌, ◌+◌, ◌==◌, length, refl, sym, arith}
use Rattle.std.proofs.lemmas.List.{nil_from_length, length-drop}
use Rattle.std.specs.List.{position_or_len}
use Rattle.dav_access.specs.Texts.{IsSplit}
use Rattle.dav_access.specs.Users.{next_lines, line_of}
use Rattle.dav_access.proofs.users.first_line.Goals as goal

pub returns-in-None-clause-rest : goal.returns-in-None-clause-rest
returns-in-None-clause-rest c =
    let text = c.args.text.now in
    let none : ¬ (position_or_len (λ b. b == 10) text < length text) =
    λ h. let is : IsSplit 10 text (line_of text) (next_lines text) = record { has = h; front = refl; back = refl } in c.in-None.ensures _ _ is in
    let len = length-drop (position_or_len (λ b. b == 10) text + 1) text in
    sym (nil_from_length (next_lines text) (omega arith))

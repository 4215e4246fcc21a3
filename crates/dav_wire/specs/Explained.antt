-- What a client is told in words of a response that refuses.
use Rattle.std.specs.Prelude.{ℕ, ◌==◌, List, [], ◌∷◌, codes, if◌then◌else◌}

-- The text of a response with this status that has no body of its own: one sentence, true of whatever the server gives that
-- status for; none for a status that isn't here (RFC 9110, sections 15.5 and 15.6; RFC 4918, section 11; RFC 6585, section 4).
abbrev pub explanation : ℕ → List ℕ
explanation status =
    if status == 401 then codes "Who are you? Log in with a name and a password.\n"
    else if status == 403 then codes "This isn't allowed here, or not to you.\n"
    else if status == 413 then codes "This is larger than this server takes.\n"
    else if status == 421 then codes "This server hasn't that name, or not that folder.\n"
    else if status == 423 then codes "A lock is in the way, and its token wasn't handed in.\n"
    else if status == 429 then codes "Too many wrong logins: wait and try again.\n"
    else if status == 503 then codes "This can't be taken now: try again soon.\n"
    else if status == 507 then codes "There is no room for this.\n" else []

-- the type of such a text, where there is one (RFC 9110, section 8.3)
abbrev pub text_fields : List ℕ → List (List ℕ × List ℕ)
text_fields [] = []
text_fields (first ∷ text) = (codes "content-type", codes "text/plain; charset=utf-8") ∷ []

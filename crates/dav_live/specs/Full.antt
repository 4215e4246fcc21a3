-- What a response says where there is no room for what a request adds (RFC 4331, section 6; RFC 4918, sections 11.5 and 16).
use Rattle.std.specs.Prelude.{ℕ, ◌==◌, ◌++◌, List, [], ◌∷◌, codes, if◌then◌else◌}
use Rattle.http_server.specs.declared.response.Response.{Response}
use Rattle.http_server.specs.Response.{IsResponse}
use Rattle.dav_live.specs.Admission.{challenge_fields}

-- the type of an error (RFC 4918, section 8.2)
abbrev pub error_fields : List (List ℕ × List ℕ)
error_fields = (codes "content-type", codes "application/xml; charset=utf-8") ∷ []

-- the error with this condition (RFC 4918, section 16)
abbrev pub error_text : List ℕ → List ℕ
error_text condition = codes "<?xml version='1.0' encoding='utf-8'?>\n<D:error xmlns:D='DAV:'><D:" ++ condition ++ codes "/></D:error>\n"

-- The response is 507, since what may be stored has an end.
abbrev pub IsFull : Response → Type 0
IsFull own = IsResponse 507 error_fields (error_text (codes "sufficient-disk-space")) own

-- the fields of the response to a request that isn't run: a 401 has a challenge, and a 507 is an error, since a limit would be passed
abbrev pub unrun_fields : ℕ → List (List ℕ × List ℕ)
unrun_fields status = if status == 507 then error_fields else challenge_fields status

-- and its body
abbrev pub unrun_body : ℕ → List ℕ
unrun_body status = if status == 507 then error_text (codes "quota-not-exceeded") else []

-- The response to a request that isn't run, and is answered with this status.
abbrev pub IsUnrun : ℕ → Response → Type 0
IsUnrun status own = IsResponse status (unrun_fields status) (unrun_body status) own

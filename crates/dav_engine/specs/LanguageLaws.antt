-- The languages that PROPPATCH accepts.
use Rattle.std.specs.Prelude.{ℕ, ◌↔◌, List, [], ◌∷◌, IsTrue}
use Rattle.http_header.specs.FieldValue.{plain_value}
use Rattle.dav_headers.specs.Language.{AreLanguages}
use Rattle.dav_engine.specs.Proppatch.{are_languages}

-- PROPPATCH accepts a text as a list of languages exactly where Content-Language is read from it alone (RFC 9110, section 8.5).
abbrev pub AcceptedLanguagesAreRead : Type 0
AcceptedLanguagesAreRead = (text : List ℕ) → IsTrue (are_languages text) ↔ ((items : List (List ℕ)) × AreLanguages (plain_value text ∷ []) items)

use Rattle.std.proofs.Common.{◌≡◌, ◌++◌, ◌∷◌, ◌==◌, ℕ, List, [], ap, codes, false, length, refl, sym, ◌∙◌}
use Rattle.http_server.specs.Response.{fields_of}
use Rattle.dav_wire.specs.Explained.{text_fields}
use Rattle.dav_live.proofs.MachineLemmas.{where_ok}
use Rattle.dav_live.proofs.words.fill_words.Goals as goal

some_words : (words : List ℕ) → (length words == 0) ≡ false → (codes "content-type", codes "text/plain; charset=utf-8") ∷ [] ≡ text_fields words
some_words [] some = absurd (cc)
some_words (w ∷ ws) some = refl

pub returns-clause-fields : goal.returns-clause-fields
returns-clause-fields c =
    where_ok _ _ c.fill_text.result
    (λ is. is ∙ ap (λ (fields : List (List ℕ × List ℕ)). fields_of c.args.response.now ++ fields) (some_words c.args.words.now (sym c.is_empty.ensures ∙ c.if-is_empty.false)))
    c.fill_text.ensures.fields

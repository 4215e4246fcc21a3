-- Going over the attributes of an element, where one of them fails.
use Rattle.std.proofs.Common.{◌≡◌, ℕ, ◌+◌, ◌<◌, List, ◌∷◌, length, map, drop, get_or, Option, String, Global, Result, sym, ap, ◌∙◌}
use Rattle.std.proofs.lemmas.List.{drop_more}
use Rattle.dav_core.specs.ElementView.{attribute_bytes}
use Rattle.dav_xml.specs.declared.error.Fault.{Fault}
use Rattle.dav_xml.specs.declared.error.XmlError.{XmlError}
use Rattle.dav_xml.specs.declared.error.XmlError.TheVariants as errors
use Rattle.dav_xml.specs.Read.{◌>>=◌, Fails}
use Rattle.dav_xml.specs.Scopes.{Scope}
use Rattle.dav_xml.specs.Namespaces.{Kept, kept_step, kept_after}

one_fails : (error : XmlError) (scope : Scope) (own : Option (List ℕ)) (s : Kept) (a : List ℕ × List ℕ) (others rest : List (List ℕ × List ℕ)) (total : Result Kept Fault) → rest ≡ a ∷ others
    → Fails error (kept_step scope own s a) → kept_after scope own s rest ≡ total → Fails error total
one_fails errors.Memory scope own s a others rest total e one so_far = tt
one_fails (errors.Fault f) scope own s a others rest total e one so_far =
    sym so_far ∙ ap (kept_after scope own s) e ∙ ap (λ (r : Result Kept Fault). r >>= λ more. kept_after scope own more others) one

pub kept_fails : (error : XmlError) (scope : Scope) (own : Option (List ℕ)) (s : Kept) (items : List (String Global × String Global)) (i : ℕ) (x : String Global × String Global) (total : Result Kept Fault)
    → i < length items → x ≡ get_or items i x → Fails error (kept_step scope own s (attribute_bytes x)) → kept_after scope own s (map attribute_bytes (drop i items)) ≡ total → Fails error total
kept_fails error scope own s items i x total lt is one so_far =
    let split : drop i items ≡ x ∷ drop (i + 1) items = drop_more items i x lt ∙ ap (λ (y : String Global × String Global). y ∷ drop (i + 1) items) (sym is) in
    one_fails error scope own s (attribute_bytes x) (map attribute_bytes (drop (i + 1) items)) (map attribute_bytes (drop i items)) total (ap (map attribute_bytes) split) one so_far

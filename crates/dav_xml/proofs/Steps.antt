use Rattle.std.proofs.Common.{◌≡◌, List, [], ◌∷◌, Result, Ok, sym, ap, ◌∙◌}
use Rattle.dav_xml.specs.declared.error.Fault.{Fault}
use Rattle.dav_xml.specs.declared.error.XmlError.{XmlError}
use Rattle.dav_xml.specs.declared.error.XmlError.TheVariants as errors
use Rattle.dav_xml.specs.Read.{◌>>=◌, Fails}
use Rattle.dav_xml.specs.Token.{Markup}
use Rattle.dav_xml.specs.Nesting.{Open, step, steps}

pub turn : (s next : Open) (t : Markup) (ts rest : List Markup) (total : Result Open Fault) → rest ≡ t ∷ ts → step s t ≡ Ok next → steps s rest ≡ total → steps next ts ≡ total
unfolding steps
turn s next t ts rest total e one so_far = sym (ap (λ (r : Result Open Fault). r >>= λ u. steps u ts) one) ∙ sym (ap (steps s) e) ∙ so_far

pub fails : (error : XmlError) (s : Open) (t : Markup) (ts rest : List Markup) (total : Result Open Fault) → rest ≡ t ∷ ts → Fails error (step s t) → steps s rest ≡ total → Fails error total
unfolding steps
fails errors.Memory s t ts rest total e one so_far = tt
fails (errors.Fault f) s t ts rest total e one so_far = sym so_far ∙ ap (steps s) e ∙ ap (λ (r : Result Open Fault). r >>= λ u. steps u ts) one

pub ends : (s : Open) (rest : List Markup) (total : Result Open Fault) → rest ≡ [] → steps s rest ≡ total → total ≡ Ok s
unfolding steps
ends s rest total e so_far = sym so_far ∙ ap (steps s) e

-- What the values of a field say: one range at most, a date, a tag.
use Rattle.std.proofs.Common.{◌≡◌, inl, inr, ℕ, Bool, true, false, not, List, [], ◌∷◌, Option, Some, None, refl, sym, ap, ◌∙◌, subst, IsSomeAnd}
use Rattle.httpdate.specs.Date.{unix_secs, IsDateText}
use Rattle.httpdate.specs.declared.date.HttpDate.{HttpDate}
use Rattle.dav_headers.specs.ETag.{EntityTag, IsETag}
use Rattle.http_header.specs.FieldValue.{FieldValue}
use Rattle.dav_headers.specs.Value.{only_text, Decodes}
use Rattle.dav_headers.specs.UpdateRange.{IsUpdateRange}
use Rattle.dav_headers.specs.declared.range.XUpdateRange.{XUpdateRange}
use Rattle.dav_headers.proofs.LawLemmas.{one_update_range}
use Rattle.dav_presented.specs.declared.parts.range.Spec.{Spec}
use Rattle.dav_presented.specs.Fields.{spec_of, IsRange, IsDate, MayBePart, is_absent, is_its_tag, is_its_date}

-- what the field's range says is what the field says
pub said : (values : List FieldValue) (range : XUpdateRange) (spec : Option Spec) → IsUpdateRange values range → spec ≡ spec_of range → Decodes IsRange values spec
said values range (Some s) is e = (range, is, sym e)
said values range None is e = λ s h. let same : range ≡ h.0 = one_update_range values range h.0 is h.1 in let none : None ≡ Some s = e ∙ ap spec_of same ∙ h.2 in cc

pub unsaid : (values : List FieldValue) → ((range : XUpdateRange) → ¬ IsUpdateRange values range) → Decodes IsRange values None
unsaid values none = λ s h. none h.0 h.1

pub date_said : (values : List FieldValue) (text bytes : List ℕ) (d : HttpDate) {secs : ℕ} → Some text ≡ only_text values → bytes ≡ text → IsDateText bytes d → secs ≡ unix_secs d → IsDate values secs
date_said values text bytes d {secs} e same shown is =
    subst (λ o. IsSomeAnd o (λ t. (x : HttpDate) × IsDateText t x × (unix_secs x ≡ secs))) e (d, subst (λ t. IsDateText t d) same shown, sym is)

pub by_tag : (values : List FieldValue) (tag : Option EntityTag) (modified moment : ℕ) (wanted : EntityTag) {may : Bool} → IsETag values wanted → may ≡ is_its_tag wanted tag → MayBePart values tag modified moment may
by_tag [] tag modified moment wanted is e = absurd is
by_tag (v ∷ vs) tag modified moment wanted is e = inl (wanted, is, e)

pub by_date : (values : List FieldValue) (tag : Option EntityTag) (modified moment : ℕ) {may : Bool} → not (is_absent values) ≡ true → ((e : EntityTag) → ¬ IsETag values e)
    → ((date : Option ℕ) × Decodes IsDate values date × (may ≡ is_its_date date modified moment)) → MayBePart values tag modified moment may
by_date [] tag modified moment there none e = cc
by_date (v ∷ vs) tag modified moment there none e = inr (none, e)

pub by_absence : (values : List FieldValue) (tag : Option EntityTag) (modified moment : ℕ) → not (is_absent values) ≡ false → MayBePart values tag modified moment true
by_absence [] tag modified moment there = refl
by_absence (v ∷ vs) tag modified moment there = cc
